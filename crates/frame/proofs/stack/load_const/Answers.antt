use Rattle.state.specs.code.Coding.{value_of, values}
use Rattle.frame.proofs.stack.load_const.Goals as goal

pub returns : goal.returns
unfolding value_of values
returns c = rw (c.next.ensures, c.push.ensures.0, c.push.ensures.1)
