use native.Mathlib.Omega.{arith}
use Rattle.interpreter.proofs.Keeping.{keeps, keeps_none, keeps_none_there}
use Rattle.interpreter.proofs.keep.Goals as goal
use Rattle.interpreter.proofs.keep.Goals.{else-first-n-via-then-first-n+else-first-n-2, else-first-n-via-else-first-n}

pub returns-then-first-n-2 : goal.returns-then-first-n-2
returns-then-first-n-2 c = keeps _ _ _ _ (omega arith) (omega arith) c.copy_numbers.ensures

pub returns-else-first-n : goal.returns-else-first-n
returns-else-first-n c =
    elim c.else-first-n.branch [ else-first-n-via-then-first-n+else-first-n-2 w ↦ keeps_none _ _ _ _ (omega arith) | else-first-n-via-else-first-n w ↦ keeps_none_there _ _ _ _ (omega arith) ]
