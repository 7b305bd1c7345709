use Rattle.state.specs.code.Frames.{gone_on}
use mathlib.Core.Path.{ap, ◌∙◌}
use Rattle.frame.proofs.stack.pop.Goals as goal

pub returns : goal.returns
returns c = c.next.ensures ∙ ap gone_on c.drop_top.ensures
