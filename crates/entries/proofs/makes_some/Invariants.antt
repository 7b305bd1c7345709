-- The invariant: no row before r makes a mark.
use mathlib.Core.Path.{◌≡◌}
use mathlib.Core.Bool.{false}
use Rattle.entries.specs.code.Entries.{makes_some}
use Rattle.entries.proofs.makes_some.Given as goal

abbrev pub invariant-loop-r : goal.invariant-loop-r
invariant-loop-r l = makes_some l.table l.index l.r ≡ false
