use Prim.Native.Nat.{◌-◌}
use mathlib.Core.Path.{◌≡◌}
use Rattle.state.specs.code.Cells.{cells_of}
use Rattle.state.specs.code.Rooms.{first_free}
use Rattle.state.proofs.rooms.free_room.Given as goal

abbrev pub invariant-loop-r : goal.invariant-loop-r
invariant-loop-r l = first_free (cells_of l.cells) l.from (128 - l.from) ≡ first_free (cells_of l.cells) l.r (128 - l.r)
