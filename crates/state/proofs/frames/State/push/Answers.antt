use Prim.Native.Nat.{◌<◌}
use mathlib.Core.Path.{refl}
use native.Mathlib.Omega.{arith}
use borrow.Author.Tests.{lt-ltb}
use Rattle.state.proofs.Tests.{tests}
use Rattle.state.proofs.frames.State.push.Goals as goal

pub returns-then-h-lt16 : goal.returns-then-h-lt16
returns-then-h-lt16 c = let h : c.args.self.height < 16 = omega arith in rw (lt-ltb _ _ h, ← c.operand_cell.ensures) (refl, c.put.ensures)

pub returns-else-h-lt16 : goal.returns-else-h-lt16
returns-else-h-lt16 c = search tests
