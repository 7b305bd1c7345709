use mathlib.Core.Path.{◌≡◌}
use mathlib.Core.List.{List}
use Rattle.std.specs.Prelude.{Err}
use Rattle.state.specs.declared.Operand.{Operand}
use Rattle.state.specs.declared.frames.State.{State}
use Rattle.state.specs.declared.stops.Stop.{Stop}
use Rattle.frame.specs.code.Turning.{ends}
use Rattle.references.specs.code.Targets.{Target, ToNumber, ToRecord, Stale, Impossible, place_of, read_at}
use Rattle.references.proofs.targets.read_ref.Goals as goal

-- a reference that leads nowhere is a stop
nowhere : (cs : List Operand) (s : State) (t : Target) (k : Stop) → Err k ≡ place_of t → ends cs s k ≡ read_at cs s t
nowhere cs s (ToNumber o) k e = absurd (cc)
nowhere cs s (ToRecord c m) k e = absurd (cc)
nowhere cs s Stale k e = cc
nowhere cs s Impossible k e = cc

pub returns-in-Err : goal.returns-in-Err
returns-in-Err c = rw c.ended-in-Err.ensures (nowhere _ _ _ _ c.in-Err.ensures)
