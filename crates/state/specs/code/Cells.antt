-- What the cells of a lent array hold, and what moving and emptying them does: a cell is two numbers, its tag and its word.
use Rattle.std.specs.Prelude.{ℕ, Option, Some, None, zero, suc, ◌+◌, ◌*◌, ◌/◌, List, [], ◌∷◌, Bool, false, cond, ltb, eqb, length, get_or, set}
use Rattle.state.specs.declared.Operand.{Operand}
use Rattle.state.specs.declared.Operand.TheVariants.{Empty}
use Rattle.state.specs.code.Coding.{value_of}

unfoldable pub cells_of : List ℕ → List Operand
cells_of [] = []
cells_of (t ∷ []) = []
cells_of (t ∷ w ∷ ns) = value_of t w ∷ cells_of ns

-- what a cell that was looked for holds
abbrev pub held_at : List Operand → Option ℕ → Operand
held_at cs None = Empty
held_at cs (Some o) = get_or cs o Empty

-- whether cell o has a tag; its word if it has
abbrev pub has_tag : List ℕ → ℕ → ℕ → Bool
has_tag ns o t = cond (ltb o (length ns / 2)) (eqb (get_or ns (2 * o) 0) t) false

abbrev pub word_in : List ℕ → ℕ → ℕ → ℕ
word_in ns o t = cond (ltb o (length ns / 2)) (cond (eqb (get_or ns (2 * o) 0) t) (get_or ns (2 * o + 1) 0) 0) 0

-- what cell p holds put into cell o, where there is a cell p
unfoldable pub copied : List Operand → ℕ → ℕ → List Operand
copied cs o p = cond (ltb p (length cs)) (set cs o (get_or cs p Empty)) cs

-- k cells moved, the first first; k cells emptied
unfoldable pub moved : List Operand → ℕ → ℕ → ℕ → List Operand
moved cs to from zero = cs
moved cs to from (suc k) = copied (moved cs to from k) (to + k) (from + k)

unfoldable pub emptied : List Operand → ℕ → ℕ → List Operand
emptied cs at zero = cs
emptied cs at (suc k) = set (emptied cs at k) (at + k) Empty
