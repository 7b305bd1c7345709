use Rattle.interpreter.proofs.Loops.{call-is}
use borrow.Author.Rules.{rules}
use Rattle.interpreter.proofs.call.Goals as goal

pub shape_of-cells : goal.shape_of-cells
shape_of-cells c = search (rules, c.cells-4-1.given, c.cells-3-1.given, c.cells-2-1.given, c.cells-1.given)

pub shape_of-saved : goal.shape_of-saved
shape_of-saved c = search (rules, c.saved-1.given)

pub returns : goal.returns
returns c =
    let whole = call-is _ _ _ _ _ _ _ c.row_at-row.ensures c.procedure_in-callee.ensures c.local_count.ensures c.within-count.ensures c.keep_changed.ensures c.empty_cells.ensures c.put_arguments.ensures c.begin-first.ensures c.run-ran.ensures c.restore.ensures.0 in
    (whole.0, rw (← whole.1) c.restore.ensures.1, c.keep_changed.ensures)
