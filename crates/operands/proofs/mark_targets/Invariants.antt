use Rattle.declarations.specs.Program.{target_marks}
use mathlib.Core.Path.{◌≡◌}
use Rattle.operands.proofs.mark_targets.Given as goal

abbrev pub invariant-loop-i : goal.invariant-loop-i
invariant-loop-i l = l.marks ≡ target_marks l.code l.initial.marks l.i
