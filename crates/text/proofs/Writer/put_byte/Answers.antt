use Rattle.std.proofs.Common.{refl}
use borrow.Author.Tests.{lt-ltb, le-ltb}
use Rattle.text.specs.code.Placing.{placed}
use Rattle.text.proofs.Writer.put_byte.Goals as goal

pub returns-then-self : goal.returns-then-self
unfolding placed
returns-then-self c = record { same_reference = refl; text = rw (lt-ltb _ _ c.if-self.true); end = rw (lt-ltb _ _ c.if-self.true) }

pub returns-else-self : goal.returns-else-self
unfolding placed
returns-else-self c = record { same_reference = refl; text = rw (le-ltb _ _ c.if-self.false); end = rw (le-ltb _ _ c.if-self.false) }
