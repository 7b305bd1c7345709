-- The invariant: the entries of the first r rows are put, and `above` counts the procedures among them.
use mathlib.Core.Path.{◌≡◌}
use Rattle.laws.specs.Lists.{count}
use Rattle.table.specs.Format.{procedure_kind}
use Rattle.table.specs.Rows.{is_kind}
use Rattle.entries.specs.code.Entries.{Filled}
use Rattle.entries.proofs.fill.Given as goal

abbrev pub invariant-loop-r : goal.invariant-loop-r
invariant-loop-r l = (l.above ≡ count (is_kind l.table procedure_kind) l.r) × Filled l.table l.index l.entries l.r
