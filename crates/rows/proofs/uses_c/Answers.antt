use Rattle.rows.proofs.Laws.{field-mark, local-mark}
use mathlib.Core.Path.{sym}
use mathlib.Core.Logic.{inl, inr}
use Rattle.rows.specs.Rows.{uses_c, uses}
use native.Mathlib.Omega.{arith}
use Rattle.rows.proofs.uses_c.Goals as goal

pub returns-in-3 : goal.returns-in-3
unfolding uses_c uses
returns-in-3 c = elim c.in-3.is [ inl e ↦ rw e (sym (field-mark _ (omega arith))) | inr e ↦ rw e (sym (local-mark _ (omega arith))) ]
