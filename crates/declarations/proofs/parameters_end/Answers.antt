use Rattle.declarations.proofs.Laws.{parameter_yes, parameter_no}
use Rattle.declarations.specs.Program.{parameters_end}
use Rattle.laws.proofs.Lists.{find-next, find-here, find_past}
use mathlib.Core.Path.{◌≡◌, refl, sym, ◌∙◌}
use native.Mathlib.Omega.{arith}
use Rattle.declarations.proofs.parameters_end.Goals as goal

pub loop-i-init : goal.loop-i-init
loop-i-init c = (omega arith, refl)

pub returns-then-row_at-ne1 : goal.returns-then-row_at-ne1
unfolding parameters_end
returns-then-row_at-ne1 c = sym (c.loop-i.invariant.1 ∙ find-here _ _ _ (omega arith) (parameter_no _ _ _ c.row_at.ensures c.if-row_at-ne1.true))

pub loop-i-preserved : goal.loop-i-preserved
loop-i-preserved c = (omega arith, c.loop-i.invariant.1 ∙ find-next _ _ _ (omega arith) (parameter_yes _ _ _ c.row_at.ensures c.if-row_at-ne1.false))

pub returns : goal.returns
unfolding parameters_end
returns c =
    let end : c.max.result ≡ c.loop-i.i = omega arith in
    end ∙ sym (c.loop-i.invariant.1 ∙ find_past _ _ _ (omega arith))
