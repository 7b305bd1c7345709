-- The rows pass gives each byte the number that the list says, by computation.
use mathlib.Core.Path.{◌≡◌, refl}
use mathlib.Core.List.{map}
use Rattle.samples.specs.Bytes.{told, said, declarations, variables, instructions, every_byte}
use Rattle.samples.proofs.Rules.{rules}

pub each-byte : map told every_byte ≡ map said every_byte
unfolding rules declarations variables instructions every_byte
each-byte = refl
