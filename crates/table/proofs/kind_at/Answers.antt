-- Inside the table the kind is the row's first byte, outside it is 0.
use mathlib.Core.Path.{sym}
use Rattle.table.proofs.Laws.{kind-inside, kind_outside}
use Rattle.table.proofs.kind_at.Goals as goal

pub returns-then-i-table : goal.returns-then-i-table
returns-then-i-table c = sym (kind-inside _ _ c.if-i-table.true)

pub returns-else-i-table : goal.returns-else-i-table
returns-else-i-table c = sym (kind_outside _ _ c.if-i-table.false)
