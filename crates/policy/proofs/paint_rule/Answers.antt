use mathlib.Core.Path.{◌≡◌, ap, ◌∙◌}
use native.Mathlib.Omega.{arith}
use lib.ListN.{length}
use Rattle.policy.specs.Policy.{rule_byte}
use Rattle.policy.proofs.Laws.{rule_ranges, painted-length, rule-none, rule-next, rule_all}
use Rattle.policy.proofs.paint_rule.Goals as goal

pub loop-c-init : goal.loop-c-init
unfolding rule_byte
loop-c-init c = rw c.from-first.ensures (rule-none _ _ _)

pub paint-requires : goal.paint-requires
unfolding rule_byte
paint-requires c =
    let h = rule_ranges c.args.rules.now c.args.i c.requires.1 in
    let e : length c.loop-c.grid ≡ length c.args.grid.now = ap length c.loop-c.invariant ∙ painted-length _ _ _ in omega arith

pub loop-c-preserved : goal.loop-c-preserved
unfolding rule_byte
loop-c-preserved c =
    let h = rule_ranges c.args.rules.now c.args.i c.requires.1 in
    c.paint.ensures ∙ rw (c.from-from.ensures, c.from-to.ensures) (rule-next _ _ _ _ _ c.loop-c.invariant (omega arith) (omega arith) (omega arith))

pub returns : goal.returns
unfolding rule_byte
returns c = c.loop-c.invariant ∙ rule_all _ _ _ _ (omega arith)
