use mathlib.Core.Path.{ap, refl, ◌∙◌}
use native.Mathlib.Omega.{arith}
use lib.ListN.{length}
use Rattle.policy.specs.code.Grid.{painted_from}
use Rattle.policy.proofs.Laws.{painted-length, range_none, range_next, range_past}
use Rattle.policy.proofs.paint.Goals as goal

pub loop-k-init : goal.loop-k-init
loop-k-init c = (omega arith, refl, range_none _ _ _)

pub loop-k-preserved : goal.loop-k-preserved
unfolding painted_from
loop-k-preserved c = let e = range_next _ _ _ _ _ _ (omega arith) (omega arith) c.loop-k.invariant.2 c.painted.ensures in (omega arith, ap length e ∙ painted-length _ _ _, e)

pub returns : goal.returns
returns c = c.loop-k.invariant.2 ∙ range_past _ _ _ _ _ (omega arith) (omega arith) (omega arith)
