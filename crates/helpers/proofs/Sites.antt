-- Call sites as the code keeps them: for each procedure the last row that calls it, and for each row that calls the one before it that calls the same procedure. Rows are kept
-- plus one; 0 is the end. A result's edges are those of the chain of call sites, in its order.
use Prim.Native.Nat.{ℕ, zero, suc, ◌<◌, ◌≤◌}
use mathlib.Core.Path.{◌≡◌, refl}
use mathlib.Core.List.{List, [], ◌++◌}
use mathlib.Core.Bool.{Bool, true, false, cond}
use native.Mathlib.Omega.{arith}
use Rattle.helpers.specs.Marks.{Procedure}
use Rattle.helpers.specs.Rounds.{up_to}
use Rattle.helpers.specs.code.Chains.{chain, along}
use Rattle.helpers.proofs.Net.{Layout, calls_at, pushed_at, result_to}

-- the last of the first n rows that calls q
unfoldable pub last_site : (ℕ → ℕ → Bool) → ℕ → ℕ → ℕ
last_site calls q zero = 0
last_site calls q (suc n) = cond (calls q n) (suc n) (last_site calls q n)

-- the chain has an end
chain-end : {A : Type 0} (f : ℕ → List A) (before : ℕ → ℕ) (left : ℕ) → along f (chain before left 0) ≡ []
unfolding along chain
chain-end f before zero = refl
chain-end f before (suc left) = refl

module _ (calls : ℕ → ℕ → Bool) (q : ℕ) {A : Type 0} (f g : ℕ → List A) (before : ℕ → ℕ) (none : (r : ℕ) → calls q r ≡ false → f r ≡ []) where
  -- lists that are empty but at call sites, where they are these others
  along-called : (n left : ℕ) → n ≤ left → ((r : ℕ) → r < n → calls q r ≡ true → g r ≡ f r) → ((r : ℕ) → r < n → calls q r ≡ true → before r ≡ last_site calls q r)
      → along g (chain before left (last_site calls q n)) ≡ up_to f n
  unfolding last_site up_to along chain
  along-called zero left h same told = chain-end g before left
  along-called (suc n) left h same told = go (calls q n) refl left h (λ l b. along-called n l b (λ r c. same r (omega arith)) (λ r c. told r (omega arith)))
    where
      go : (b : Bool) → calls q n ≡ b → (left : ℕ) → suc n ≤ left → ((l : ℕ) → n ≤ l → along g (chain before l (last_site calls q n)) ≡ up_to f n)
          → along g (chain before left (cond b (suc n) (last_site calls q n))) ≡ f n ++ up_to f n
      go true e zero h rest = absurd (omega arith)
      go true e (suc left) h rest = rw (told n (omega arith) e, rest left (omega arith), same n (omega arith) e) refl
      go false e left h rest = rw (none n e) (rest left (omega arith))

module _ (code : ℕ → Procedure) (at : Layout) where
  -- which rows call a procedure
  abbrev pub sites : ℕ → ℕ → Bool
  sites q row = calls_at code q (at.spot row)

  -- THE EDGES OF A RESULT NODE, by the chain of call sites and what each of them is told to push
  pub result-edges : (q r : ℕ) (pushed : ℕ → List ℕ) (before : ℕ → ℕ) → ((row : ℕ) → row < at.rows → sites q row ≡ true → pushed row ≡ pushed_at code at row r (at.spot row))
      → ((row : ℕ) → row < at.rows → sites q row ≡ true → before row ≡ last_site sites q row)
      → along pushed (chain before at.rows (last_site sites q at.rows)) ≡ up_to (result_to code at q r) at.rows
  unfolding result_to
  result-edges q r pushed before same told =
      along-called sites q (result_to code at q r) pushed before (λ row e. rw e refl) at.rows at.rows (omega arith) (λ row l e. rw e (same row l e)) told
