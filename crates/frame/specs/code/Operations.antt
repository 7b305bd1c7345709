-- Op.
use Rattle.std.specs.Prelude.{ℕ, cond, List}
use Rattle.arithmetic.specs.Arithmetic.{Calculated, Value, TooLarge, BelowZero, Unknown, calculation}
use Rattle.state.specs.declared.Operand.{Operand}
use Rattle.state.specs.declared.Operand.TheVariants.{Number}
use Rattle.state.specs.declared.frames.State.{State}
use Rattle.state.specs.declared.stops.Stop.TheVariants.{TooLarge as Large, BelowZero as Below, Broken}
use Rattle.state.specs.code.Coding.{is_number, number_of}
use Rattle.state.specs.code.Frames.{top_at}
use Rattle.frame.specs.code.Turning.{Turning, ends, settled}

-- what is done with an operand that is a number
abbrev pub with_number : List Operand → State → Operand → (ℕ → Turning) → Turning
with_number cs s x k = cond (is_number x) (k (number_of x)) (ends cs s Broken)

-- what an operation gave is pushed, or is a stop
abbrev pub closed : List Operand → State → Calculated → Turning
closed cs s (Value v) = settled cs s 2 (Number v)
closed cs s TooLarge = ends cs s Large
closed cs s BelowZero = ends cs s Below
closed cs s Unknown = ends cs s Broken

-- what operation b gives of two operands, which are numbers
abbrev pub operated : ℕ → Operand → Operand → Calculated
operated b x y = cond (is_number x) (cond (is_number y) (calculation b (number_of x) (number_of y)) Unknown) Unknown

abbrev pub op_of : List Operand → State → ℕ → Turning
op_of cs s b = closed cs s (operated b (top_at cs s 1) (top_at cs s 0))
