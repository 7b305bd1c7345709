use borrow.Author.Tests.{lt-ltb, le-ltb}
use Rattle.state.proofs.frames.State.top.Goals as goal

pub returns-then-k-self : goal.returns-then-k-self
returns-then-k-self c = rw (lt-ltb _ _ c.if-k-self.true, ← c.top_cell.ensures) c.cell.ensures

pub returns : goal.returns
returns c = rw (le-ltb _ _ c.if-k-self.false)
