-- The state and the cells after an instruction.
use Rattle.std.specs.Prelude.{ℕ, List}
use Rattle.state.specs.declared.Operand.{Operand}
use Rattle.state.specs.declared.frames.State.{State}
use Rattle.state.specs.declared.stops.Stop.{Stop}
use Rattle.state.specs.code.Frames.{pushed, pushed_in, dropped, gone_on, ended_with}

pub data Turning : Type 0 where
  after : State → List Operand → Turning

-- the numbers of why a call ended, beside the stops of document 01: it is done, or it came to what no accepted table comes to
abbrev pub done : ℕ
done = 1

abbrev pub broken : ℕ
broken = 99

-- the call ends
abbrev pub ends : List Operand → State → Stop → Turning
ends cs s k = after (ended_with s k) cs

-- k operands taken, one pushed, and on
abbrev pub settled : List Operand → State → ℕ → Operand → Turning
settled cs s k x = after (gone_on (pushed (dropped s k))) (pushed_in cs (dropped s k) x)
