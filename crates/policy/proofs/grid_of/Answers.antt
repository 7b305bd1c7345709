use Prim.Native.Nat.{◌/◌}
use mathlib.Core.Path.{◌≡◌, ◌∙◌}
use native.Mathlib.Omega.{arith}
use lib.ListN.{length}
use Rattle.policy.specs.code.Grid.{grid_of}
use Rattle.policy.proofs.Laws.{rules_fine, grid_none, grid_next}
use Rattle.policy.proofs.grid_of.Goals as goal

pub loop-i-init : goal.loop-i-init
loop-i-init c = grid_none _

pub paint_rule-requires : goal.paint_rule-requires
paint_rule-requires c = (omega arith, rules_fine _ _ c.requires _ (omega arith))

pub loop-i-preserved : goal.loop-i-preserved
loop-i-preserved c = c.paint_rule.ensures ∙ grid_next _ _ _ c.loop-i.invariant

pub returns : goal.returns
unfolding grid_of
returns c = let e : c.loop-i.i ≡ length c.args.rules.now / 16 = omega arith in rw e at c.loop-i.invariant
