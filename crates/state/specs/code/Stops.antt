-- The numbers of why a call ended.
use Rattle.std.specs.Prelude.{ℕ}
use Rattle.state.specs.declared.stops.Stop.{Stop}
use Rattle.state.specs.declared.stops.Stop.TheVariants.{Done, BudgetSpent, TooLarge, KeyTaken, NoSuchKey, StaleReference, TooManyFrames, TooManyRecords, TooManyEntries, BelowZero, Broken}

abbrev pub number_of : Stop → ℕ
number_of Done = 1
number_of BudgetSpent = 31
number_of TooLarge = 32
number_of KeyTaken = 33
number_of NoSuchKey = 34
number_of StaleReference = 35
number_of TooManyFrames = 36
number_of TooManyRecords = 37
number_of TooManyEntries = 38
number_of BelowZero = 39
number_of Broken = 99
