use mathlib.Core.Path.{sym, ◌∙◌}
use native.Mathlib.Omega.{arith}
use Rattle.effects.proofs.Laws.{not_last}
use Rattle.effects.proofs.Stack.freeze.Goals as goal

pub overflow_add-top : goal.overflow_add-top
overflow_add-top g c = omega (arith, not_last _ (sym c.is_writable.ensures ∙ c.if-is_writable.true))
