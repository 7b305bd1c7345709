-- Chains of rows: each row leads to the next. Rows are kept plus one; 0 is the end.
use Rattle.std.specs.Prelude.{ℕ, zero, suc, List, [], ◌∷◌, ◌++◌}

-- the rows of a chain, at most so many, from where it starts
unfoldable pub chain : (ℕ → ℕ) → ℕ → ℕ → List ℕ
chain before zero r = []
chain before (suc left) zero = []
chain before (suc left) (suc r) = r ∷ chain before left (before r)

-- the lists of these rows, one after the other
unfoldable pub along : {A : Type 0} → (ℕ → List A) → List ℕ → List A
along f [] = []
along f (r ∷ rs) = f r ++ along f rs
