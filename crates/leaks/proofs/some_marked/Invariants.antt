-- The invariant: the rows before row j declare none.
use mathlib.Core.Path.{◌≡◌}
use Rattle.declarations.specs.Program.{kinds_of}
use Rattle.leaks.specs.Leaks.{some_marked}
use Rattle.leaks.specs.code.Read.{marked_at}
use Rattle.leaks.proofs.some_marked.Given as goal

abbrev pub invariant-loop-j : goal.invariant-loop-j
invariant-loop-j l = some_marked (marked_at l.nodes l.at) (kinds_of l.table l.from l.to) ≡ some_marked (marked_at l.nodes l.at) (kinds_of l.table l.j l.to)
