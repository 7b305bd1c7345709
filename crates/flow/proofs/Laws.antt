-- Laws of how a search goes on from a node.
use Prim.Native.Nat.{ℕ, ◌+◌, ◌*◌, ◌/◌, ◌%◌, ◌<◌, ◌≤◌}
use mathlib.Core.Path.{◌≡◌, refl, ap₂}
use mathlib.Core.Bool.{Bool, true, false, cond}
use mathlib.Core.List.Memᴰ
use mathlib.Core.List.{List, [], ◌∷◌, ◌++◌}
use mathlib.Core.Logic.{◌⊎◌, inl, inr, ⊎_elim}
use native.Mathlib.Nat.{mul-le-mul, mul-le-mul_left, mod-lt}
use native.Mathlib.Decide.{dec_lt}
use native.Mathlib.Omega.{arith}
use borrow.Author.Tests.{lt-ltb, le-ltb, ne_eqb, eqb-true, ltb-true}
use lib.Dec.{eqb, ltb}
use lib.ListN.{length, set, length-set}
use Rattle.std.specs.Prelude.{Option, Some}
use Rattle.std.specs.Bool.{then_some}
use Rattle.reach.specs.Reach.{Mem, here, there, Inside, count_true}
use Rattle.reach.specs.code.Search.{Visit, after, visit_of, visit_all, is_unvisited, entering}
use Rattle.reach.proofs.Search.{count_stays_all, length-visits, unvisited_below, count-entered, follow-on, follow-end}
use Rattle.table.specs.declared.Row.{Row}
use Rattle.table.specs.Format.{op_ret, op_branch, op_branch_cond}
use Rattle.table.specs.Rows.{row_count, row_at}
use Rattle.flow.specs.Steps.{below, next_of, nexts}
use Rattle.flow.specs.Places.{nodes_at, nodes_of, succs}
use Rattle.flow.proofs.Paths.{node_lt, nodes_of_mem, nodes_of_inv}
use Rattle.flow.specs.code.Going.{followed_of, aside_of, GoesOn}

-- a node's number is small
pub node_small : (width j : ℕ) → width ≤ 255 → j < 65536 → width * j ≤ 16711425
node_small width j h l = let g : j ≤ 65535 = omega arith in mul-le-mul h g

-- The place at the other branch: there is one, or not.
module _ (width n : ℕ) (row : Row) (x : ℕ) (y : Visit) where
  pub aside_there : {z : Visit} → row.a ≡ op_branch_cond → row.b < n → z ≡ visit_of y.visited y.queue y.tail (width * row.b + x)
      → z ≡ visit_all y (nodes_of width (below n (aside_of row)) (x ∷ []))
  unfolding aside_of below nodes_of nodes_at visit_all
  aside_there e h q = rw (e, lt-ltb row.b n h) q

  pub aside_past : row.a ≡ op_branch_cond → n ≤ row.b → y ≡ visit_all y (nodes_of width (below n (aside_of row)) (x ∷ []))
  unfolding aside_of below nodes_of visit_all
  aside_past e h = rw (e, le-ltb row.b n h)

  pub aside_none : (row.a ≡ op_branch_cond → ⊥) → y ≡ visit_all y (nodes_of width (below n (aside_of row)) (x ∷ []))
  unfolding aside_of below nodes_of visit_all
  aside_none e = rw (ne_eqb row.a op_branch_cond e)

-- the listed instructions that are there
below_inv : (n : ℕ) (js : List ℕ) (j : ℕ) → Mem j (below n js) → Mem j js × (j < n)
unfolding below
below_inv n [] j m = elim m [ ]
below_inv n (i ∷ js) j m = go (ltb i n) refl (below_inv n js j) m
  where
    go : (b : Bool) → ltb i n ≡ b → (Mem j (below n js) → Mem j js × (j < n)) → Mem j (cond b (i ∷ below n js) (below n js)) → Mem j (i ∷ js) × (j < n)
    go true e rest (here q) = (here q, rw q (ltb-true i n e))
    go true e rest (there k) = let r = rest k in (there r.0, r.1)
    go false e rest k = let r = rest k in (there r.0, r.1)

below_mem : (n : ℕ) {j : ℕ} {js : List ℕ} → Mem j js → j < n → Mem j (below n js)
unfolding below
below_mem n (here {x = i} e) h = rw (lt-ltb i n (rw e at h)) (here e)
below_mem n {j} (there {x = i} {xs = js} m) h = go (ltb i n) (below_mem n m h)
  where
    go : (b : Bool) → Mem j (below n js) → Mem j (cond b (i ∷ below n js) (below n js))
    go true k = there k
    go false k = k

-- Where walks go on from instruction i: to the instruction that is followed, and by the other branch.
module _ (n : ℕ) (row : Row) (i : ℕ) where
  first_of : List ℕ
  first_of = cond (eqb row.a op_ret) [] (cond (eqb row.a op_branch) (row.b ∷ []) ((i + 1) ∷ []))

  next-split : next_of row i ≡ first_of ++ aside_of row
  unfolding next_of first_of aside_of
  next-split = go (eqb row.a op_ret) refl
    where
      branch : (b : Bool) → eqb row.a op_branch ≡ b → (eqb row.a op_ret ≡ false) → next_of row i ≡ first_of ++ aside_of row
      branch true e q = rw (eqb-true row.a op_branch e) refl
      branch false e q = rw (q, e) (both (eqb row.a op_branch_cond))
        where
          both : (b : Bool) → cond b ((i + 1) ∷ row.b ∷ []) ((i + 1) ∷ []) ≡ (i + 1) ∷ cond b (row.b ∷ []) []
          both true = refl
          both false = refl

      go : (b : Bool) → eqb row.a op_ret ≡ b → next_of row i ≡ first_of ++ aside_of row
      go true e = rw (eqb-true row.a op_ret e) refl
      go false e = branch (eqb row.a op_branch) refl e

  -- an instruction that is followed is the first, and the first is followed
  followed-first : followed_of n row i < n → Mem (followed_of n row i) first_of
  unfolding followed_of first_of
  followed-first h = go (eqb row.a op_ret) (eqb row.a op_branch) h
    where
      go : (b c : Bool) → cond b n (cond c row.b (i + 1)) < n → Mem (cond b n (cond c row.b (i + 1))) (cond b [] (cond c (row.b ∷ []) ((i + 1) ∷ [])))
      go true c l = absurd (omega arith)
      go false true l = here refl
      go false false l = here refl

  first-followed : {j : ℕ} → Mem j first_of → j ≡ followed_of n row i
  unfolding followed_of first_of
  first-followed {j} m = go (eqb row.a op_ret) (eqb row.a op_branch) m
    where
      go : (b c : Bool) → Mem j (cond b [] (cond c (row.b ∷ []) ((i + 1) ∷ []))) → j ≡ cond b n (cond c row.b (i + 1))
      go true c k = absurd (Memᴰ.not-nil k)
      go false true k = Memᴰ.eq_of_singleton k
      go false false k = Memᴰ.eq_of_singleton k

-- The successors of a node at instruction i, all with place x, are the one that is followed and that of the other branch.
module _ (width n : ℕ) (row : Row) (i x : ℕ) where
  abbrev goal : ℕ
  goal = followed_of n row i

  abbrev nodes : List ℕ
  nodes = nodes_of width (below n (next_of row i)) (x ∷ [])

  abbrev aside : List ℕ
  aside = nodes_of width (below n (aside_of row)) (x ∷ [])

  first_in : goal < n → Mem goal (below n (next_of row i))
  first_in h = below_mem n (rw (next-split n row i) (Memᴰ.append_left (aside_of row) (followed-first n row i h))) h

  aside_in : {j : ℕ} → Mem j (below n (aside_of row)) → Mem j (below n (next_of row i))
  aside_in {j} k = let r = below_inv n (aside_of row) j k in below_mem n (rw (next-split n row i) (Memᴰ.append_right (first_of n row i) r.0)) r.1

  goal_there : width * goal + x < width * n → goal < n
  goal_there h = go (dec_lt goal n)
    where
      go : Dec (goal < n) → goal < n
      go (yes l) = l
      go (no l) = let k : n ≤ goal = omega arith in absurd (omega (arith, mul-le-mul_left width k))

  followed-own : width * goal + x < width * n → Mem (width * goal + x) nodes
  followed-own h = nodes_of_mem width (first_in (goal_there h)) (here refl)

  others_sub : (w : ℕ) → Mem w aside → Mem w nodes
  others_sub w k = let r = nodes_of_inv width (below n (aside_of row)) (x ∷ []) k in rw r.4 (nodes_of_mem width (aside_in r.2) r.3)

  others_all : (w : ℕ) → Mem w nodes → (w ≡ width * goal + x) ⊎ Mem w aside
  others_all w k = let r = nodes_of_inv width (below n (next_of row i)) (x ∷ []) k in rw r.4 (go r.0 r.1 r.2 r.3)
    where
      go : (j y : ℕ) → Mem j (below n (next_of row i)) → Mem y (x ∷ []) → (width * j + y ≡ width * goal + x) ⊎ Mem (width * j + y) aside
      go j y h k =
          let b = below_inv n (next_of row i) j h in
          ⊎_elim (λ f. inl (ap₂ (λ (a b : ℕ). width * a + b) (first-followed n row i f) (Memᴰ.eq_of_singleton k))) (λ a. inr (nodes_of_mem width (below_mem n a b.1) k))
          (Memᴰ.append_cases (first_of n row i) (rw (next-split n row i) at b.0))

-- it is a small number
pub followed_small : (n : ℕ) (row : Row) (i : ℕ) → n ≤ 256 → row.b < 65536 → i < 256 → followed_of n row i < 65536
unfolding followed_of
followed_small n row i h k l = go (eqb row.a op_ret) (eqb row.a op_branch)
  where
    go : (b c : Bool) → cond b n (cond c row.b (i + 1)) < 65536
    go true c = omega arith
    go false true = k
    go false false = omega arith

-- and so is the number of a node there
pub followed_node : (width n : ℕ) (row : Row) (i : ℕ) {at : ℕ} → width ≤ 255 → n ≤ 256 → row.b < 65536 → i < 256 → at ≡ followed_of n row i → width * at ≤ 16711425
followed_node width n row i w h k l e = rw e (node_small width (followed_of n row i) w (followed_small n row i h k l))

-- so a search goes on from it
module _ (width n : ℕ) (row : Row) (i place : ℕ) (y : Visit) where
  entered_on :
      {x : Visit}
      → x ≡ visit_all y (aside width n row i place)
      → length y.visited ≡ width * n
      → (b : Bool)
      → is_unvisited x.visited (width * goal width n row i place + place) ≡ b
      → GoesOn width n row i place y (after (cond b (set x.visited (width * goal width n row i place + place) true) x.visited) x.queue x.tail)
      (then_some b (goal width n row i place))
  entered_on {x} e size true h = record {
    search = λ succs s head u q inside long few l state.
        follow-on state inside few l _ _ (λ w k. rw q (others_sub width n row i place w k)) (λ w k. others_all width n row i place w (rw q at k)) (λ k. rw q (followed-own width n row i place (rw long at k))) e h;
    grown = omega (arith, more, one);
    new = λ j q. (omega (arith, more, one), rw (same j q) (goal_there width n row i place (omega (arith, kept.0, size, unvisited_below x.visited _ h))));
    sized = (simp length-set kept.0, kept.1);
  }
    where
      more : count_true y.visited ≤ count_true x.visited
      more = rw e (count_stays_all y _)

      one : count_true (set x.visited (width * goal width n row i place + place) true) ≡ count_true x.visited + 1
      one = count-entered x.visited _ h

      kept : (length x.visited ≡ length y.visited) × (length x.queue ≡ length y.queue)
      kept = rw e (length-visits y _)

      same : (j : ℕ) → Some (goal width n row i place) ≡ Some j → j ≡ goal width n row i place
      same j q = cc
  entered_on {x} e size false h = record {
    search = λ succs s head u q inside long few l state.
        follow-end state inside few l _ _ (λ w k. rw q (others_sub width n row i place w k)) (λ w k. others_all width n row i place w (rw q at k)) (λ k. rw q (followed-own width n row i place (rw long at k))) e h;
    grown = rw e (count_stays_all y _);
    new = λ j q. cc;
    sized = rw e (length-visits y _);
  }

  pub goes_on :
      {at : ℕ} {x z : Visit} {b : Bool} {r : Option ℕ}
      → at ≡ followed_of n row i
      → x ≡ visit_all y (aside width n row i place)
      → length y.visited ≡ width * n
      → b ≡ is_unvisited x.visited (width * at + place)
      → z ≡ after (entering x.visited (width * at + place)) x.queue x.tail
      → r ≡ then_some b at
      → GoesOn width n row i place y z r
  goes_on p e size b t q = rw (q, b, t, p) (entered_on e size _ refl)

-- The nodes that go on from a node of n instructions with `width` places are such nodes.
pub graph_inside :
    (width : ℕ) (next : ℕ → List ℕ) (moves : ℕ → ℕ → List ℕ) (n : ℕ)
    → 0 < width
    → ((i x y : ℕ) → x < width → Mem y (moves i x) → y < width)
    → ((i j : ℕ) → Mem j (next i) → j < n)
    → Inside (succs width next moves) (width * n)
unfolding succs
graph_inside width next moves n some few there-are u v h m =
    let r = nodes_of_inv width (next (u / width)) (moves (u / width) (u % width)) m in
    rw r.4 (node_lt width r.0 n r.1 (there-are (u / width) r.0 r.2) (few (u / width) (u % width) r.1 (mod-lt u some) r.3))

pub next-below : (code : List ℕ) (i j : ℕ) → Mem j (nexts code i) → j < row_count code
unfolding nexts
next-below code i j m = (below_inv (row_count code) (next_of (row_at code i) i) j m).1
