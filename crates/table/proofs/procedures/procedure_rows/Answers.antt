-- A procedure's rows end below its own row and within the table, so that the part is the rows between.
use Prim.Native.Nat.{◌+◌}
use mathlib.Core.Path.{sym, ap, ◌∙◌}
use native.Mathlib.Omega.{arith}
use borrow.Author.Tests.{lt-ltb, le-ltb}
use Rattle.table.specs.Procedures.{place_in, has_procedure, procedure_rows, procedure_start}
use Rattle.table.proofs.Laws.{part_inside, start-inside, end-within}
use Rattle.table.proofs.procedures.procedure_rows.Goals as goal

pub returns-then-row-n : goal.returns-then-row-n
unfolding procedure_rows procedure_start has_procedure
returns-then-row-n c =
    let t = c.args.table.now in
    let row = c.procedure_row-row in
    let w = end-within t (row.result + 1) (omega arith) in
    let there = lt-ltb _ _ c.if-row-n.true in record {
      result_value = c.part.ensures.result_value ∙ part_inside _ _ _ (omega arith) (omega arith) ∙ sym (rw (← row.ensures, there, ← c.procedure_end.ensures));
      ref_ptr_value = c.part.ensures.ref_ptr_value ∙ ap (place_in _) (start-inside _ _ _ (omega arith) (omega arith) ∙ sym (rw (← row.ensures, there)));
    }

pub returns-else-row-n : goal.returns-else-row-n
unfolding procedure_rows procedure_start has_procedure
returns-else-row-n c =
    let row = c.procedure_row-row.ensures in
    let none = le-ltb _ _ c.if-row-n.false in
    record { result_value = rw (← row, none); ref_ptr_value = ap (place_in _) (sym (rw (← row, none))) }
