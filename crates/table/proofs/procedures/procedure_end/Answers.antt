use mathlib.Core.Path.{◌≡◌, refl, sym, ◌∙◌}
use mathlib.Core.Bool.{true}
use Rattle.table.specs.Procedures.{ends_procedure}
use native.Mathlib.Omega.{arith}
use Rattle.table.proofs.Laws.{is-kind, not-kind, ends_module, ends-procedure, ends-not, end-next, end-here, end_past}
use Rattle.table.proofs.procedures.procedure_end.Goals as goal
use Rattle.table.proofs.procedures.procedure_end.Goals.{then-kind-eq-MODULE-via-then-kind-eq-MODULE, then-kind-eq-MODULE-via-else-kind-eq-MODULE+then-kind-eq-PROCEDURE}

pub loop-i-init : goal.loop-i-init
loop-i-init c = (omega arith, refl)

pub returns-then-kind-eq-MODULE : goal.returns-then-kind-eq-MODULE
returns-then-kind-eq-MODULE c =
    let ends : ends_procedure c.args.table.now c.loop-i.i ≡ true = elim c.then-kind-eq-MODULE.branch [
      | then-kind-eq-MODULE-via-then-kind-eq-MODULE w ↦ ends_module _ _ (is-kind _ _ _ c.kind_at-kind.ensures w.if-kind-eq-MODULE.true)
      | then-kind-eq-MODULE-via-else-kind-eq-MODULE+then-kind-eq-PROCEDURE w ↦
          ends-procedure _ _ (not-kind _ _ _ c.kind_at-kind.ensures w.if-kind-eq-MODULE.false) (is-kind _ _ _ c.kind_at-kind.ensures w.if-kind-eq-PROCEDURE.true)
    ] in
    sym (c.loop-i.invariant.1 ∙ end-here _ _ (omega arith) ends)

pub loop-i-preserved : goal.loop-i-preserved
loop-i-preserved c =
    let no = not-kind _ _ _ c.kind_at-kind.ensures c.if-kind-eq-MODULE.false in
    let nor = not-kind _ _ _ c.kind_at-kind.ensures c.if-kind-eq-PROCEDURE.false in
    (omega arith, c.loop-i.invariant.1 ∙ end-next _ _ (omega arith) (ends-not _ _ no nor))

pub returns : goal.returns
returns c =
    let end : c.max.result ≡ c.loop-i.i = omega arith in
    end ∙ sym (c.loop-i.invariant.1 ∙ end_past _ _ (omega arith))
