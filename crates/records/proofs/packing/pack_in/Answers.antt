use Rattle.records.proofs.packing.pack_in.Goals as goal

pub returns : goal.returns
returns c = rw (c.packed.ensures, c.record_word-2.ensures.0, c.put.ensures, c.record_word.ensures.0, c.move_cells.ensures, c.room_cell-o.ensures, c.operand_cell.ensures, c.drop_top-rest.ensures) at c.settle.ensures
