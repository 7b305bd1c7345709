use mathlib.Core.Path.{sym, ◌∙◌}
use borrow.Author.Tests.{eq-eqb, ne_eqb}
use Rattle.semantics.specs.Calls.{list_fault}
use Rattle.calls.proofs.Laws.{bad_call-is}
use Rattle.calls.proofs.list_fault.Goals as goal
use Rattle.calls.proofs.list_fault.Goals.{else-row-eq-CALL-via-then-row-eq-CALL+else-bad_call, else-row-eq-CALL-via-else-row-eq-CALL}

pub returns-then-bad_form : goal.returns-then-bad_form
unfolding list_fault
returns-then-bad_form c = rw (← c.row_at-row.ensures, sym c.bad_form.ensures ∙ c.if-bad_form.true)

pub returns-then-bad_call : goal.returns-then-bad_call
unfolding list_fault
returns-then-bad_call c =
    let a = c.args in
    let bad = bad_call-is a.table.now a.index.now a.list.now a.i c.row_at-row.result c.procedure_in.ensures c.argument_count.ensures c.bad_call.ensures in
    rw (← c.row_at-row.ensures, sym c.bad_form.ensures ∙ c.if-bad_form.false, eq-eqb _ _ c.if-row-eq-CALL.true, bad ∙ c.if-bad_call.true)

pub returns : goal.returns
unfolding list_fault
returns c =
    let a = c.args in
    elim c.else-row-eq-CALL.branch [
      | else-row-eq-CALL-via-then-row-eq-CALL+else-bad_call w ↦
          let good = bad_call-is a.table.now a.index.now a.list.now a.i c.row_at-row.result w.procedure_in.ensures w.argument_count.ensures w.bad_call.ensures in
          rw (← c.row_at-row.ensures, sym c.bad_form.ensures ∙ c.if-bad_form.false, eq-eqb _ _ w.if-row-eq-CALL.true, good ∙ w.if-bad_call.false)
      | else-row-eq-CALL-via-else-row-eq-CALL w ↦ rw (← c.row_at-row.ensures, sym c.bad_form.ensures ∙ c.if-bad_form.false, ne_eqb _ _ w.if-row-eq-CALL.false)
    ]
