use mathlib.Core.Path.{refl}
use borrow.Author.Tests.{lt-ltb, le-ltb}
use Rattle.state.proofs.Tests.{tests}
use Rattle.state.proofs.frames.State.load.Goals as goal

pub returns-then-h-ge16 : goal.returns-then-h-ge16
returns-then-h-ge16 c = search tests

pub returns-then-l-self : goal.returns-then-l-self
returns-then-l-self c = rw (lt-ltb _ _ c.if-h-ge16.false, lt-ltb _ _ c.if-l-self.true, ← c.operand_cell-o.ensures, ← c.local_cell.ensures) (refl, c.copy.ensures)

pub returns : goal.returns
returns c = rw (lt-ltb _ _ c.if-h-ge16.false, le-ltb _ _ c.if-l-self.false, ← c.operand_cell-o.ensures) (refl, c.clear.ensures)
