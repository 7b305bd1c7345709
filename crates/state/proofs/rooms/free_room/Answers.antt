use mathlib.Core.Path.{sym, ◌∙◌}
use Rattle.state.proofs.Searches.{free_next, free_here, free_none, place_here, place_none}
use native.Mathlib.Omega.{arith}
use Rattle.state.proofs.rooms.free_room.Goals as goal

pub returns-then-not-is_record : goal.returns-then-not-is_record
returns-then-not-is_record c =
    place_here 128 (c.loop-r.invariant ∙ free_here _ _ _ (omega arith) (rw (← c.room_cell.ensures) (sym c.is_record.ensures ∙ c.if-not-is_record.true))) (omega arith)

pub loop-r-preserved : goal.loop-r-preserved
loop-r-preserved c = c.loop-r.invariant ∙ free_next _ _ _ (omega arith) (rw (← c.room_cell.ensures) (sym c.is_record.ensures ∙ c.if-not-is_record.false))

pub returns : goal.returns
returns c = let e = c.loop-r.invariant ∙ free_none _ _ _ (omega arith) in place_none 128 (omega (arith, e))
