-- The invariant: the lines of the callers before c are painted.
use mathlib.Core.Path.{◌≡◌}
use Rattle.policy.proofs.Laws.{painted_to}
use Rattle.policy.proofs.paint_rule.Given as goal

abbrev pub invariant-loop-c : goal.invariant-loop-c
invariant-loop-c l = l.grid ≡ painted_to l.rules l.i l.initial.grid l.c
