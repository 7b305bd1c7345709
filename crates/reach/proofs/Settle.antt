-- A growing function on sets, repeated until it adds nothing, settles: rounds may stop at the first that adds nothing.
use Prim.Native.Nat.{ℕ, zero, suc}
use mathlib.Core.Path.{◌≡◌, refl, ap, sym, ◌∙◌}
use mathlib.Core.List.{List}
use mathlib.Core.Bool.{Bool, true, false, cond}
use mathlib.Core.Logic.{⊎_elim}
use native.Mathlib.Omega.{arith}
use borrow.Author.Tests.{eqb-true}
use lib.Dec.{eqb}
use lib.ListN.{length}
use Rattle.reach.specs.Reach.{At, sweep, rounds, iter, count_true, settle}
use Rattle.reach.proofs.Laws.{grow, stays, length-rounds, settles, length-sweep, sweep_old}

-- what holds of a set and is kept by the function holds when it settles
pub settle_by : (P : List Bool → Type 0) (f : List Bool → List Bool) → ((s : List Bool) → P s → P (f s)) → (k : ℕ) (s : List Bool) → P s → P (settle f k s)
unfolding settle
settle_by P f keep zero s p = p
settle_by P f keep (suc k) s p = go (eqb (count_true (f s)) (count_true s)) (settle_by P f keep k (f s) (keep s p))
  where
    go : (b : Bool) → P (settle f k (f s)) → P (cond b s (settle f k (f s)))
    go true rest = p
    go false rest = rest

-- For any function that keeps the number of nodes and leaves what was there.
module _ (f : List Bool → List Bool) (sized : (s : List Bool) → length (f s) ≡ length s) (keeps : (s : List Bool) (v : ℕ) → At s v → At (f s) v) where
  -- one that adds no node to a set does not change it
  unchanged : (s : List Bool) → count_true (f s) ≡ count_true s → f s ≡ s
  unchanged s e = ⊎_elim (λ a. absurd (omega arith)) (λ q. q) (grow s (f s) (sym (sized s)) (keeps s))

  rounds-first : (k : ℕ) (s : List Bool) → rounds f (suc k) s ≡ rounds f k (f s)
  unfolding rounds
  rounds-first zero s = refl
  rounds-first (suc k) s = ap f (rounds-first k s)

  -- stopping early leaves out nothing
  pub settle-rounds : (k : ℕ) (s : List Bool) → settle f k s ≡ rounds f k s
  unfolding settle rounds
  settle-rounds zero s = refl
  settle-rounds (suc k) s = go (eqb (count_true (f s)) (count_true s)) refl (settle-rounds k (f s))
    where
      go : (b : Bool) → eqb (count_true (f s)) (count_true s) ≡ b → settle f k (f s) ≡ rounds f k (f s) → cond b s (settle f k (f s)) ≡ rounds f (suc k) s
      go true e rest = stays f s 0 (suc k) (unchanged s (eqb-true (count_true (f s)) (count_true s) e)) (omega arith)
      go false e rest = rest ∙ sym (rounds-first k s)

  pub length-settle : (k : ℕ) (s : List Bool) → length (settle f k s) ≡ length s
  length-settle k s = rw (settle-rounds k s) (length-rounds f sized keeps k s)

  -- as many rounds as there are nodes are enough
  pub settle_stable : (k : ℕ) (s : List Bool) → length s ≡ k → f (settle f k s) ≡ settle f k s
  settle_stable k s e = rw (settle-rounds k s, ← e) (settles f sized keeps s)

-- of the successors in a graph: the rounds of sweeps
pub settle-iter : (succs : ℕ → List ℕ) (k : ℕ) (s : List Bool) → settle (sweep succs) k s ≡ iter succs k s
settle-iter succs = settle-rounds (sweep succs) (length-sweep succs) (sweep_old succs)
