-- The parts of the line, one after the other.
use mathlib.Core.Path.{◌∙◌}
use Rattle.semantics.specs.Ascii.{ascii}
use Rattle.store_text.proofs.Laws.{entry-line}
use Rattle.store_text.proofs.put_entry.Goals as goal

pub returns : goal.returns
unfolding ascii
returns c = entry-line _ _ c.entry_cell-o.ensures (c.from.ensures ∙ c.third_at.ensures) c.number_at.ensures c.first_at.ensures c.second_at.ensures c.put_word.ensures c.put_number.ensures c.put_number-2.ensures c.put_fields.ensures c.put_byte.ensures
