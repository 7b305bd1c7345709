use Rattle.state.specs.code.Coding.{values, value_of}
use Rattle.state.proofs.Cells.{first_in, second_in, third_in}
use Rattle.state.proofs.record_at.Goals as goal

pub returns : goal.returns
unfolding value_of values
returns c = rw (c.word_at.ensures, first_in _ _, second_in _ _, third_in _ _)
