-- The words of demand 3 as the index of a table gives them.
use Prim.Native.Nat.{ℕ}
use mathlib.Core.Bool.{Bool, not}
use mathlib.Core.List.{List}
use lib.Dec.{eqb}
use Rattle.table.specs.declared.index.Index.{Index}
use Rattle.table.specs.Rows.{row_at}
use Rattle.declarations.specs.Program.{type_in, procedure_in, field_row}
use Rattle.leaks.specs.Leaks.{in_trusted}

-- the module of procedure p, and the module that declares type y
abbrev pub module_in : Index → ℕ → ℕ
module_in ix p = (procedure_in ix p).owner

abbrev pub declarer_in : Index → ℕ → ℕ
declarer_in ix y = (type_in ix y).owner

-- whether procedure p is a guest's
abbrev pub guest_in : List ℕ → Index → ℕ → Bool
guest_in t ix p = not (in_trusted t ix (procedure_in ix p))

-- whether field j of type y is guarded
unfoldable pub guarded_in : List ℕ → Index → ℕ → ℕ → Bool
guarded_in t ix y j = eqb (row_at t (field_row (type_in ix y) j)).c 1
