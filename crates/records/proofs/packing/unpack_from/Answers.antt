use native.Mathlib.Omega.{arith}
use Rattle.records.proofs.packing.unpack_from.Goals as goal

pub returns-then-not-is_live : goal.returns-then-not-is_live
returns-then-not-is_live c = rw (← c.is_live.ensures, c.if-not-is_live.true, c.ended.ensures)

pub overflow_add-o : goal.overflow_add-o
overflow_add-o c = omega (arith, c.room_cell-o.ensures, c.ranges)

pub returns : goal.returns
returns c = rw (← c.is_live.ensures, c.if-not-is_live.false, c.next.ensures, c.receive-next.ensures.0, c.clear.ensures, c.receive-next.ensures.1, c.drop_top.ensures, c.unpacked.ensures, c.second_at-k.ensures, c.room_cell-o.ensures)
