-- A pass over numbered rows that stops at its first faulty row.
-- The answer's type is a parameter: `clean n` says that n rows are fine, `bad f i` that row i is the first faulty one, with fault number f.
use Rattle.std.specs.Prelude.{ℕ, suc, zero, ◌+◌}

-- what a row with fault number `f` does to a pass: at 0 the pass goes on
abbrev pub unless : {A : Type 0} → ℕ → A → A → A
unless zero bad rest = rest
unless (suc f) bad rest = bad

-- the `left` rows from row `i` on, where `fault i` is the fault number of row `i` and 0 says none
unfoldable pub first_fault : {A : Type 0} → (ℕ → A) → (ℕ → ℕ → A) → (ℕ → ℕ) → ℕ → ℕ → A
first_fault clean bad fault i zero = clean i
first_fault clean bad fault i (suc left) = let rest = first_fault clean bad fault (i + 1) left in unless (fault i) (bad (fault i) i) rest
