use native.Mathlib.Omega.{arith}
use Rattle.policy.specs.Policy.{rule_byte}
use Rattle.policy.proofs.Laws.{rule-row}
use Rattle.policy.proofs.bad_rule.Goals as goal

pub returns-then-row-ne0 : goal.returns-then-row-ne0
unfolding rule_byte
returns-then-row-ne0 c = rw (rule-row _ _ _ c.row_at-row.ensures c.requires, ← c.bad_range-callers.ensures, ← c.bad_range-called.ensures) (grind arith)

pub returns-else-row-ne0 : goal.returns-else-row-ne0
unfolding rule_byte
returns-else-row-ne0 c = rw (rule-row _ _ _ c.row_at-row.ensures c.requires, ← c.bad_range-callers.ensures, ← c.bad_range-called.ensures) (grind arith)
