use Rattle.state.specs.code.Coding.{values, value_of}
use Rattle.state.proofs.entries.put_entry.Goals as goal

pub returns : goal.returns
unfolding value_of values
returns c = rw (← c.entry_cell-o.ensures, ← c.record_word.ensures.0, ← c.put.ensures) c.put-2.ensures
