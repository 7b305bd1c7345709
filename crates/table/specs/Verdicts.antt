-- What judging answers, and how passes are put together (document 01, "Judging").
use Rattle.std.specs.Prelude.{ℕ, List, ◌++◌, Result, Ok, Err, Option, Some, None, codes, decimal}
use Rattle.laws.specs.First.{first_fault}
use Rattle.table.specs.declared.refusals.Reason.{Reason}
use Rattle.table.specs.declared.refusals.Reason.TheVariants.{BadLength, BadPlace, OverLimit, DirtyByte, WrongValue, WrongGuard, OpenEnd, NotDeclared, WrongOperand, TooManyOperands, OperandsLeft, ForeignName, EmptyLocal, LostRecord, MarkGiven, MarkReturned, BadRules, UnruledPair, ForbiddenCall, BadList, BadCall, SmallBuffer}
use Rattle.table.specs.declared.refusals.Refusal.{Refusal}
use Rattle.table.specs.Refusals.{bad_length, bad_place, over_limit, dirty_byte, wrong_value, wrong_guard, open_end, not_declared, wrong_operand, too_many_operands, operands_left, foreign_name, empty_local, lost_record, mark_given, mark_returned, bad_rules, unruled_pair, forbidden_call, bad_list, bad_call, small_buffer}

-- what a table, or a pass over it, is told: accepted with the number of rows, or the number of the refusal and its row
pub data Verdict : Type 0 where
  Accepted : ℕ → Verdict
  Refused : ℕ → ℕ → Verdict

-- document 01's number: 0 for an accepted table, else that of the refusal
abbrev pub number_of : Verdict → ℕ
number_of (Accepted rows) = 0
number_of (Refused number row) = number

-- document 01's value: the number of rows of an accepted table, else the refused row
abbrev pub value_of : Verdict → ℕ
value_of (Accepted rows) = rows
value_of (Refused number row) = row

-- a pass over n rows, where `fault i` is the lowest refusal number that row i earns and 0 says none: it refuses at its lowest faulty row
abbrev pub pass_over : (ℕ → ℕ) → ℕ → Verdict
pass_over fault n = first_fault Accepted Refused fault 0 n

-- a later pass judges only what the earlier ones accept
abbrev pub and_then : Verdict → Verdict → Verdict
and_then (Accepted rows) later = later
and_then (Refused number row) later = Refused number row

-- the number of each of the code's reasons
abbrev pub number_of_reason : Reason → ℕ
number_of_reason BadLength = bad_length
number_of_reason BadPlace = bad_place
number_of_reason OverLimit = over_limit
number_of_reason DirtyByte = dirty_byte
number_of_reason WrongValue = wrong_value
number_of_reason WrongGuard = wrong_guard
number_of_reason OpenEnd = open_end
number_of_reason NotDeclared = not_declared
number_of_reason WrongOperand = wrong_operand
number_of_reason TooManyOperands = too_many_operands
number_of_reason OperandsLeft = operands_left
number_of_reason ForeignName = foreign_name
number_of_reason EmptyLocal = empty_local
number_of_reason LostRecord = lost_record
number_of_reason MarkGiven = mark_given
number_of_reason MarkReturned = mark_returned
number_of_reason BadRules = bad_rules
number_of_reason UnruledPair = unruled_pair
number_of_reason ForbiddenCall = forbidden_call
number_of_reason BadList = bad_list
number_of_reason BadCall = bad_call
number_of_reason SmallBuffer = small_buffer

abbrev pub refusal_at : Reason → ℕ → Refusal
refusal_at reason row = record { reason = reason; row = row }

-- the words of a refusal: its number and its row
abbrev pub refused_text : Refusal → List ℕ
refused_text refusal = codes "refused " ++ decimal (number_of_reason refusal.reason) ++ codes " row " ++ decimal refusal.row

-- the verdict that the code's result stands for
abbrev pub verdict_of : Result ℕ Refusal → Verdict
verdict_of (Ok rows) = Accepted rows
verdict_of (Err refusal) = Refused (number_of_reason refusal.reason) refusal.row

-- the verdict that any result stands for whose refusals tell a number and a row
abbrev pub told : {R : Type 0} → (R → ℕ × ℕ) → Result ℕ R → Verdict
told tells (Ok rows) = Accepted rows
told tells (Err refusal) = Refused (tells refusal).0 (tells refusal).1

-- the number of the fault that a row earns, 0 for none
abbrev pub fault_of : Option Reason → ℕ
fault_of None = 0
fault_of (Some reason) = number_of_reason reason
