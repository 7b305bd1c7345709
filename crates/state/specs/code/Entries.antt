-- The store's entries in the cells; the newest is the last.
use Rattle.std.specs.Prelude.{ℕ, zero, suc, ◌+◌, ◌-◌, ◌*◌, Bool, cond, ◌&&◌, List, eqb, ltb, leb, get_or, set}
use Rattle.state.specs.declared.Operand.{Operand}
use Rattle.state.specs.declared.Operand.TheVariants.{Empty, Number, Record}
use Rattle.state.specs.code.Coding.{number_of, third_of}
use Rattle.state.specs.code.Cells.{moved}
use Rattle.state.specs.code.Layout.{entry_cell}

-- whether the entry whose cells begin at cell o is under the key of type y and address a; whether entry i is
abbrev pub is_under_at : List Operand → ℕ → ℕ → ℕ → Bool
is_under_at cs o y a = eqb (number_of (get_or cs o Empty)) a && eqb (third_of (get_or cs (o + 1) Empty)) y

abbrev pub is_under : List Operand → ℕ → ℕ → ℕ → Bool
is_under cs i y a = is_under_at cs (entry_cell i) y a

-- the last of the first n entries that is under a key
unfoldable pub last_under : List Operand → ℕ → ℕ → ℕ → ℕ → ℕ
last_under cs y a absent zero = absent
last_under cs y a absent (suc n) = let rest = last_under cs y a absent n in cond (is_under cs n y a) n rest

-- an entry put in place i; entry i of n taken out
abbrev pub added_in : List Operand → ℕ → ℕ → ℕ → ℕ → ℕ → List Operand
added_in cs i y a s r = set (set cs (entry_cell i) (Number a)) (entry_cell i + 1) (Record s r y)

abbrev pub removed_in : List Operand → ℕ → ℕ → List Operand
removed_in cs n i = cond (ltb i n) (cond (leb n 64) (moved cs (entry_cell i) (entry_cell (i + 1)) (2 * (n - 1 - i))) cs) cs
