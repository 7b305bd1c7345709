-- A reason is a fault: its number is not 0. So a pass that comes to a row with a reason stops there.
use Prim.Native.Nat.{ℕ, ◌<◌}
use mathlib.Core.Path.{◌≡◌, refl, sym}
use Rattle.std.specs.Prelude.{Result, Ok, Err}
use native.Mathlib.Omega.{arith}
use Rattle.laws.proofs.First.{from, faulty_with}
use Rattle.table.specs.declared.refusals.Reason.{Reason}
use Rattle.table.specs.declared.refusals.Reason.TheVariants.{BadLength, BadPlace, OverLimit, DirtyByte, WrongValue, WrongGuard, OpenEnd, NotDeclared, WrongOperand, TooManyOperands, OperandsLeft, ForeignName, EmptyLocal, LostRecord, MarkGiven, MarkReturned, BadRules, UnruledPair, ForbiddenCall, BadList, BadCall, SmallBuffer}
use Rattle.table.specs.declared.refusals.Refusal.{Refusal}
use Rattle.table.specs.Verdicts.{number_of_reason, verdict_of, told}

pub reason-faulty : (r : Reason) → number_of_reason r ≡ 0 → ⊥
reason-faulty BadLength e = omega arith
reason-faulty BadPlace e = omega arith
reason-faulty OverLimit e = omega arith
reason-faulty DirtyByte e = omega arith
reason-faulty WrongValue e = omega arith
reason-faulty WrongGuard e = omega arith
reason-faulty OpenEnd e = omega arith
reason-faulty NotDeclared e = omega arith
reason-faulty WrongOperand e = omega arith
reason-faulty TooManyOperands e = omega arith
reason-faulty OperandsLeft e = omega arith
reason-faulty ForeignName e = omega arith
reason-faulty EmptyLocal e = omega arith
reason-faulty LostRecord e = omega arith
reason-faulty MarkGiven e = omega arith
reason-faulty MarkReturned e = omega arith
reason-faulty BadRules e = omega arith
reason-faulty UnruledPair e = omega arith
reason-faulty ForbiddenCall e = omega arith
reason-faulty BadList e = omega arith
reason-faulty BadCall e = omega arith
reason-faulty SmallBuffer e = omega arith

-- row i is the first faulty one of a pass over n rows, for this reason
pub stops_at : {A : Type 0} (clean : ℕ → A) (bad : ℕ → ℕ → A) (f : ℕ → ℕ) (n i : ℕ) (r : Reason) → i < n → number_of_reason r ≡ f i → from clean bad f n i ≡ bad (number_of_reason r) i
stops_at clean bad f n i r h e = faulty_with clean bad f n i (number_of_reason r) h (sym e) (reason-faulty r)

-- what the code's refusals tell is their verdict
pub told_is : (v : Result ℕ Refusal) → told (λ (x : Refusal). (number_of_reason x.reason, x.row)) v ≡ verdict_of v
told_is (Ok rows) = refl
told_is (Err refusal) = refl
