-- No instruction has an opcode above the last.
use Prim.Native.Nat.{ℕ, ◌≤◌}
use mathlib.Core.Path.{◌≡◌}
use mathlib.Core.List.{List}
use lib.ListN.{get_or, get_or-eq_default}
use Rattle.table.specs.Format.{past_opcodes}
use Rattle.state.specs.declared.Operand.{Operand}
use Rattle.state.specs.declared.frames.State.{State}
use Rattle.frame.specs.code.Turning.{Turning}
use Rattle.step.specs.code.Step.{turns}

pub past_all : (b d kind fields parameters count results : ℕ) (cs : List Operand) (s : State) (x : Turning) (i : ℕ) → past_opcodes ≤ i → get_or (turns b d kind fields parameters count results cs s) i x ≡ x
unfolding turns
past_all b d kind fields parameters count results cs s x i h = get_or-eq_default (turns b d kind fields parameters count results cs s) x h
