-- The marks that the rounds settle on are closed, and every closed set of marks holds them: they are the smallest for which the rule holds.
use Prim.Native.Nat.{ℕ, ◌*◌, ◌<◌}
use mathlib.Core.Path.{◌≡◌, sym, ◌∙◌}
use mathlib.Core.List.{List}
use mathlib.Core.Bool.{Bool, false}
use mathlib.Core.Logic.{⊎_elim}
use native.Mathlib.Omega.{arith}
use lib.ListN.{length, length-replicate}
use Rattle.reach.specs.Reach.{Mem, At, mark}
use Rattle.reach.proofs.Laws.{none-at, at-below, same_set, length-mark, mark_old, mark-new, mark_inv}
use Rattle.flow.specs.Places.{operand_place, operand_marked}
use Rattle.helpers.specs.Marks.{Procedure, per_procedure, Closed, Below}
use Rattle.helpers.specs.Rounds.{sends, nodes_under, sent_from, sent, round, no_marks, given_of}
use Rattle.helpers.proofs.Fits.{Fits, Walkable}
use Rattle.helpers.proofs.Lists.{cond_mem, cond_inv, up_to_mem, up_to_inv}
use Rattle.reach.proofs.Settle.{settle_by, length-settle, settle_stable}
use Rattle.helpers.proofs.Under.{PathUnder, Sent, path_mono, path_below, path_small, sends-below, node_shown, node_found, closed-sent, sent-closed}

module _ (code : ℕ → Procedure) (count : ℕ) (fit : Fits code count) where
  -- a round adds what paths send, and nothing else
  sent_mem : (m : List Bool) (q : ℕ) → q < count → (k i j : ℕ) → PathUnder code m q k i (operand_place j) → (v : ℕ) → Mem v (sends (code q) q i j) → Mem v (sent code count m)
  unfolding sent sent_from
  sent_mem m q h k i j p v t =
      up_to_mem _ count q h
      (up_to_mem _ (code q).size i (path_below code count fit m q h p)
      (up_to_mem _ 16 j (omega (arith, path_small code count fit m q h p)) (cond_mem (node_found code count fit m q h p) t)))

  sent_inv : (m : List Bool) (v : ℕ) → Mem v (sent code count m) → (q k i j : ℕ) × (q < count) × PathUnder code m q k i (operand_place j) × Mem v (sends (code q) q i j)
  unfolding sent sent_from
  sent_inv m v t =
      let a = up_to_inv _ count t in
      let b = up_to_inv _ (code a.0).size a.2 in
      let c = up_to_inv _ 16 b.2 in
      let d = cond_inv (operand_marked (nodes_under code m a.0) b.0 c.0) c.2 in
      let p = node_shown code count fit m a.0 a.1 b.0 (operand_place c.0) (omega (arith, c.1)) d.0 in
      (a.0, p.0, b.0, c.0, a.1, p.1, d.1)

  length-round : (m : List Bool) → length (round code count m) ≡ length m
  unfolding round
  length-round m = length-mark (sent code count m) m

  round_old : (m : List Bool) (v : ℕ) → At m v → At (round code count m) v
  unfolding round
  round_old m v h = mark_old (sent code count m) m v h

  round-new : (m : List Bool) (v : ℕ) → Mem v (sent code count m) → v < length m → At (round code count m) v
  unfolding round
  round-new m v t h = mark-new t m h

  -- a round stays below closed marks
  round-below : (n : List Bool) → Sent code count n → (m : List Bool) → Below m n → Below (round code count m) n
  unfolding round
  round-below n s m below v h =
      ⊎_elim
      (below v)
      (λ t. let r = sent_inv m v t in s r.0 r.4 r.1 r.2 r.3 (path_mono code m n below r.0 r.5) v r.6)
      (mark_inv (sent code count m) m v h)

  length_none : length (no_marks count) ≡ per_procedure * count
  unfolding no_marks
  length_none = length-replicate (per_procedure * count) false

  pub length-given : length (given_of code count) ≡ per_procedure * count
  unfolding given_of
  length-given = length-settle (round code count) length-round round_old _ (no_marks count) ∙ length_none

  stable : round code count (given_of code count) ≡ given_of code count
  unfolding given_of
  stable = settle_stable (round code count) length-round round_old _ (no_marks count) length_none

  given-sent : Sent code count (given_of code count)
  given-sent q h k i j p v t =
      rw stable at (round-new (given_of code count) v (sent_mem (given_of code count) q h k i j p v t) (rw length-given (sends-below code count fit q h i j t)))

  -- the marks hold what paths under them send, and are in every set that does
  pub smallest_sent : Sent code count (given_of code count) × ((m : List Bool) → Sent code count m → Below (given_of code count) m)
  unfolding given_of no_marks
  smallest_sent = (
    given-sent,
    λ m s. settle_by (λ (n : List Bool). Below n m) (round code count) (round-below m s) _ (no_marks count)
        (λ v h. absurd (none-at (per_procedure * count) v h)),
  )

  -- so any marks of that number of which this holds are these
  pub only-sent : (m : List Bool) → length m ≡ per_procedure * count → Sent code count m → ((n : List Bool) → Sent code count n → Below m n) → m ≡ given_of code count
  only-sent m l s below = same_set m (given_of code count) (l ∙ sym length-given) (below (given_of code count) smallest_sent.0) (smallest_sent.1 m s)

  -- what paths under the marks send holds by itself what paths under it send, so no mark is missing in it: each mark is sent by a path under the marks
  sent_alone : List Bool
  sent_alone = mark (no_marks count) (sent code count (given_of code count))

  alone_inv : (v : ℕ) → At sent_alone v → Mem v (sent code count (given_of code count))
  unfolding sent_alone no_marks
  alone_inv v h = ⊎_elim (λ z. absurd (none-at (per_procedure * count) v z)) (λ t. t) (mark_inv (sent code count (given_of code count)) (no_marks count) v h)

  alone_below : Below sent_alone (given_of code count)
  unfolding sent_alone
  alone_below v h =
      let l : v < length (given_of code count) = rw length-given (rw (length-mark, length_none) at (at-below sent_alone v h)) in
      rw stable at (round-new (given_of code count) v (alone_inv v h) l)

  alone_sent : Sent code count sent_alone
  unfolding sent_alone
  alone_sent q h k i j p v t =
      mark-new (sent_mem (given_of code count) q h k i j (path_mono code sent_alone (given_of code count) alone_below q p) v t) (no_marks count)
      (rw length_none (sends-below code count fit q h i j t))

  pub each-sent : (v : ℕ) → At (given_of code count) v → (q k i j : ℕ) × (q < count) × PathUnder code (given_of code count) q k i (operand_place j) × Mem v (sends (code q) q i j)
  each-sent v a = sent_inv (given_of code count) v (alone_inv v (smallest_sent.1 sent_alone alone_sent v a))

  module _ (walkable : Walkable code count) where
    -- THE MARKS: they are closed, and in every closed set of marks
    pub smallest : Closed code count (given_of code count) × ((m : List Bool) → Closed code count m → Below (given_of code count) m)
    smallest = (
      sent-closed code count fit walkable (given_of code count) smallest_sent.0,
      λ m c. smallest_sent.1 m (closed-sent code count fit walkable m c),
    )

    -- so any marks of that number that are closed, and in every closed set, are these
    pub only : (m : List Bool) → length m ≡ per_procedure * count → Closed code count m → ((n : List Bool) → Closed code count n → Below m n) → m ≡ given_of code count
    only m l c below = same_set m (given_of code count) (l ∙ sym length-given) (below (given_of code count) smallest.0) (smallest.1 m c)
