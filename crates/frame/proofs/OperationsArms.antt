-- Op is what the machine on lists does.
use Prim.Native.Nat.{ℕ, ◌-◌, ◌<◌}
use mathlib.Core.Path.{◌≡◌, refl}
use mathlib.Core.List.{List}
use native.Mathlib.Omega.{arith}
use Rattle.arithmetic.specs.Arithmetic.{Calculated, Value, TooLarge, BelowZero, Unknown, calculation}
use Rattle.state.specs.declared.Operand.{Operand}
use Rattle.state.specs.declared.Operand.TheVariants.{Empty, Number, Record, Refer}
use Rattle.state.specs.declared.frames.State.{State}
use Rattle.state.specs.declared.stops.Stop.TheVariants.{TooLarge as Large, BelowZero as Below, Broken}
use Rattle.state.specs.code.Frames.{top_at}
use Rattle.machine.specs.code.Machine.{MOutcome, as_number, calculates, doings}
use Rattle.machine.specs.code.Views.{operands_in, locals_in, below_in, rooms_in, entries_in}
use Rattle.machine.proofs.Views.{top-is, second_is}
use Rattle.frame.specs.code.Operations.{closed, operated, op_of}
use Rattle.frame.proofs.Meaning.{outcome_of, doing, Stands, Kept}
use Rattle.frame.proofs.Settles.{ends-kept, settle_is, settle-kept}

module _ (cs : List Operand) (s : State) (st : Stands cs s) where
  room : s.height - 2 < 16
  room = omega (arith, st.low)

  pub op-is : (k b d kind others : ℕ) → outcome_of k (op_of cs s b) ≡ doing b d kind 2 others cs s 19
  unfolding doings
  op-is k b d kind others = rw (top-is cs s, second_is cs s) (go (top_at cs s 1) (top_at cs s 0))
    where
      gives : Calculated → MOutcome
      gives = calculates b d kind 2 others s.serial s.procedure s.at (operands_in cs s) (locals_in cs s) (below_in cs s.depth) (rooms_in cs) s.records (entries_in cs s.entries) s.frames

      given : (c : Calculated) → outcome_of k (closed cs s c) ≡ gives c
      given (Value v) = settle_is cs s st 2 (Number v) room k
      given TooLarge = refl
      given BelowZero = refl
      given Unknown = refl

      go : (u v : Operand) → outcome_of k (closed cs s (operated b u v)) ≡ as_number u (λ (x : ℕ). as_number v λ (y : ℕ). gives (calculation b x y))
      go Empty v = refl
      go (Record a c y) v = refl
      go (Refer r) v = refl
      go (Number x) Empty = refl
      go (Number x) (Record a c y) = refl
      go (Number x) (Refer r) = refl
      go (Number x) (Number y) = given (calculation b x y)

  pub op-kept : (b : ℕ) → Kept cs s (op_of cs s b)
  op-kept b = shut (operated b (top_at cs s 1) (top_at cs s 0))
    where
      shut : (c : Calculated) → Kept cs s (closed cs s c)
      shut (Value v) = settle-kept cs s st 2 (Number v) room
      shut TooLarge = ends-kept cs s Large
      shut BelowZero = ends-kept cs s Below
      shut Unknown = ends-kept cs s Broken
