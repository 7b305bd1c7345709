use mathlib.Core.Path.{refl, sym, ◌∙◌}
use Rattle.state.proofs.Searches.{under-here, under_next, under_none}
use native.Mathlib.Omega.{arith}
use Rattle.state.proofs.entries.find.Goals as goal

pub loop-i-init : goal.loop-i-init
loop-i-init c = (omega arith, refl)

pub returns-then-is_under : goal.returns-then-is_under
returns-then-is_under c = sym (c.loop-i.invariant.1 ∙ under-here _ _ _ _ _ (omega arith) (sym c.is_under.ensures ∙ c.if-is_under.true))

pub loop-i-preserved : goal.loop-i-preserved
loop-i-preserved c = (omega arith, c.loop-i.invariant.1 ∙ under_next _ _ _ _ _ (omega arith) (sym c.is_under.ensures ∙ c.if-is_under.false))

pub returns : goal.returns
returns c = sym (c.loop-i.invariant.1 ∙ under_none _ _ _ _ _ (omega arith))
