use Prim.Native.Nat.{ℕ, ◌+◌, ◌-◌}
use mathlib.Core.Path.{◌≡◌}
use mathlib.Core.List.{List}
use lib.ListN.{length, drop}
use Rattle.table.specs.Rows.{row_count}
use Rattle.semantics.specs.Calls.{arguments}
use Rattle.state.specs.code.Cells.{cells_of}
use Rattle.interpreter.specs.code.Calls.{filled}
use Rattle.interpreter.proofs.put_arguments.Given as goal

-- the arguments of the call at row i
abbrev pub given : List ℕ → ℕ → List ℕ
given list i = arguments list (i + 1) (row_count list - (i + 1))

abbrev pub invariant-loop-k : goal.invariant-loop-k
invariant-loop-k l = (length l.cells ≡ length l.initial.cells) × (filled (cells_of l.initial.cells) 16 (given l.list l.i) ≡ filled (cells_of l.cells) (16 + l.k) (drop l.k (given l.list l.i)))
