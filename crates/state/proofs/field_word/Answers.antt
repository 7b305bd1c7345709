use borrow.Author.Rules.{rules}
use Rattle.state.proofs.Coding.{field_back}
use Rattle.state.proofs.field_word.Goals as goal

pub returns : goal.returns
returns c = rw c.packed.ensures.0 (field_back _ _ _ _ c.packed.ensures.1 (search rules))
