use Rattle.interpreter.proofs.Keeping.{copied-part}
use Rattle.interpreter.proofs.copy_numbers.Goals as goal

pub returns : goal.returns
returns c = copied-part _ _ _ _ _ c.requires.0 c.requires.1 c.copy_from_slice.ensures.after
