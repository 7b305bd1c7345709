use mathlib.Core.Path.{refl}
use Rattle.declarations.specs.Program.{row_kind}
use Rattle.declarations.proofs.row_kind.Goals as goal

pub returns : goal.returns
unfolding row_kind
returns c = refl
