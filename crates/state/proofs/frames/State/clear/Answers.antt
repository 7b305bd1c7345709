use borrow.Author.Tests.{lt-ltb}
use Rattle.state.proofs.Tests.{tests}
use Rattle.state.proofs.frames.State.clear.Goals as goal

pub returns-then-l-self : goal.returns-then-l-self
returns-then-l-self c = rw (lt-ltb _ _ c.if-l-self.true, ← c.local_cell.ensures) c.clear.ensures

pub returns-else-l-self : goal.returns-else-l-self
returns-else-l-self c = search tests
