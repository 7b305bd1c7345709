use Prim.Native.Nat.{◌+◌}
use mathlib.Core.Path.{◌≡◌, ap, sym, ◌∙◌}
use mathlib.Core.Bool.{cond}
use native.Mathlib.Omega.{arith}
use borrow.Author.Tests.{eq-eqb, ne_eqb}
use lib.Dec.{eqb}
use Rattle.laws.proofs.Lists.{count-zero, count-few}
use Rattle.table.specs.Format.{procedure_kind}
use Rattle.table.specs.Rows.{is_kind}
use Rattle.declarations.specs.Program.{type_in, procedure_in}
use Rattle.operands.specs.Operands.{named_type}
use Rattle.entries.proofs.Laws.{count_next, entry_looked, filled_none, filled_next}
use Rattle.entries.proofs.fill.Goals as goal
use Rattle.entries.proofs.fill.Goals.{else-row-eq-PROCEDURE, then-row-eq-PROCEDURE}

pub loop-r-init : goal.loop-r-init
loop-r-init c = (sym (count-zero _), filled_none _ _ _)

pub entry_of-requires : goal.entry_of-requires
entry_of-requires c = omega (arith, c.loop-r.invariant.0, count-few (is_kind c.args.table.now procedure_kind) c.loop-r.r)

pub overflow_add-above : goal.overflow_add-above
overflow_add-above c = omega (arith, c.loop-r.invariant.0, count-few (is_kind c.args.table.now procedure_kind) c.loop-r.r)

pub loop-r-preserved : goal.loop-r-preserved
unfolding named_type
loop-r-preserved c =
    let l = c.loop-r in
    let row = c.row_at-row in
    let next : c.if-row-eq-PROCEDURE.above ≡ cond (eqb row.result.kind procedure_kind) (l.above + 1) l.above =
    elim c.if-row-eq-PROCEDURE.branch [ then-row-eq-PROCEDURE w ↦ rw (eq-eqb _ _ w.if-row-eq-PROCEDURE.true) w.above-is | else-row-eq-PROCEDURE w ↦ rw (ne_eqb _ _ w.if-row-eq-PROCEDURE.false) w.above-is ] in
    let ix = c.args.index in
    let own = c.procedure_in-own.ensures ∙ ap (procedure_in ix) c.saturating_sub.ensures in
    let named = c.type_in-named.ensures ∙ ap (type_in ix) c.named_number.ensures in
    let entry = entry_looked _ ix _ _ c.procedure_in-head.ensures own named c.procedure_in-callee.ensures c.entry_of.ensures in
    (count_next _ l.r row.ensures l.invariant.0 next, filled_next _ ix _ l.r l.invariant.1 (omega arith) l.invariant.0 row.ensures entry)
