-- What the code's result stands for.
use Rattle.std.specs.Prelude.{ℕ, Result, Ok, Err}
use Rattle.arithmetic.specs.declared.Failure.{Failure}
use Rattle.arithmetic.specs.declared.Failure.TheVariants.{TooLarge as Above, BelowZero as Below, Unknown as NoSuch}
use Rattle.arithmetic.specs.Arithmetic.{Calculated, Value, TooLarge, BelowZero, Unknown}

abbrev pub calculated_of : Result ℕ Failure → Calculated
calculated_of (Ok v) = Value v
calculated_of (Err Above) = TooLarge
calculated_of (Err Below) = BelowZero
calculated_of (Err NoSuch) = Unknown
