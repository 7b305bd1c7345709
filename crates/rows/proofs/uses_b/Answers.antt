use Rattle.rows.proofs.Laws.{field-type}
use mathlib.Core.Path.{sym}
use Rattle.rows.specs.Rows.{uses_b, uses}
use native.Mathlib.Omega.{arith}
use Rattle.rows.proofs.uses_b.Goals as goal

pub returns-in-3 : goal.returns-in-3
unfolding uses_b uses
returns-in-3 c = rw c.in-3.is (sym (field-type _ (omega arith)))
