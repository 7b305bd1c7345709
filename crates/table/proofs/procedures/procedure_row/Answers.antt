use mathlib.Core.Path.{◌≡◌, sym, ap, ◌∙◌}
use native.Mathlib.Omega.{arith}
use Rattle.laws.specs.Lists.{nth, count}
use Rattle.laws.proofs.Lists.{count-zero, count_yes, count_no, nth-count, nth-none}
use Rattle.table.specs.Format.{procedure_kind}
use Rattle.table.specs.Rows.{row_count, is_kind}
use Rattle.table.specs.Procedures.{procedure_row}
use Rattle.table.proofs.Laws.{is-kind, not-kind}
use Rattle.table.proofs.procedures.procedure_row.Goals as goal
use Rattle.table.proofs.procedures.procedure_row.Goals.{else-kind_at-eq-PROCEDURE, then-kind_at-eq-PROCEDURE+else-left-eq0}

pub loop-i-init : goal.loop-i-init
loop-i-init c = omega (arith, count-zero (is_kind c.args.table.now procedure_kind))

pub returns-then-left-eq0 : goal.returns-then-left-eq0
unfolding procedure_row
returns-then-left-eq0 c =
    let yes = is-kind _ _ _ c.kind_at.ensures c.if-kind_at-eq-PROCEDURE.true in
    sym (ap (nth _ _) (omega arith) ∙ (nth-count _ _ _ (omega arith) yes).1)

pub loop-i-preserved : goal.loop-i-preserved
loop-i-preserved c =
    let hit = is_kind c.args.table.now procedure_kind in
    let i = c.loop-i.i in
    (elim c.if-kind_at-eq-PROCEDURE.branch [ then-kind_at-eq-PROCEDURE+else-left-eq0 w ↦ omega (arith, count_yes hit i (is-kind _ _ _ c.kind_at.ensures w.if-kind_at-eq-PROCEDURE.true)) | else-kind_at-eq-PROCEDURE w ↦ omega (arith, count_no hit i (not-kind _ _ _ c.kind_at.ensures w.if-kind_at-eq-PROCEDURE.false)) ])

pub returns : goal.returns
unfolding procedure_row
returns c =
    let t = c.args.table.now in
    let e : c.loop-i.i ≡ row_count t = omega arith in
    sym (nth-none (is_kind t procedure_kind) (row_count t) _ (omega (arith, ap (count (is_kind t procedure_kind)) e)))
