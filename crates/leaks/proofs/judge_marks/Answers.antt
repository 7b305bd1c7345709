use mathlib.Core.Path.{refl, sym, ◌∙◌}
use native.Mathlib.Omega.{arith}
use lib.ListN.{get_or, take}
use Rattle.std.proofs.lemmas.Result.{err_from_is_err_and}
use Rattle.table.specs.Index.{no_procedure}
use Rattle.declarations.specs.Program.{code_of}
use Rattle.declarations.proofs.Laws.{pass_start}
use Rattle.operands.proofs.Laws.{procedures_done, procedure_accepted, procedure_refused}
use Rattle.sizes.proofs.Sizes.{part_between}
use Rattle.leaks.specs.code.Read.{read_pass}
use Rattle.leaks.proofs.Laws.{trusted_verdict, guest_verdict}
use Rattle.leaks.proofs.judge_marks.Goals as goal
use Rattle.leaks.proofs.judge_marks.Goals.{else-is_trusted, then-is_trusted+in_ok-judge_code}

pub loop-own-init : goal.loop-own-init
unfolding read_pass
loop-own-init c = pass_start _ _ _

pub judge_code-requires : goal.judge_code-requires
unfolding code_of
judge_code-requires c =
    let code = c.part-code.ensures.result_value in
    let own = get_or (take c.min-count.result c.args.index.procedure_entries) c.loop-own.own-index no_procedure in
    (code, rw code (omega (arith, part_between c.args.table.now own.code own.end)))

pub returns-in_err-judge_code : goal.returns-in_err-judge_code
unfolding code_of
returns-in_err-judge_code c =
    let p = err_from_is_err_and c.from_residual.result c.from_residual.ensures.1 in
    let verdict = trusted_verdict _ _ _ c.loop-own.own-index _ _ (sym c.is_trusted.ensures ∙ c.if-is_trusted.true) c.in_err-judge_code.ensures in
    rw (p.1, p.2) (sym (c.loop-own.invariant ∙ procedure_refused _ _ _ c.min-count.ensures (omega arith) _ c.loop-own-test.true c.part-code.ensures.result_value verdict))

pub loop-own-preserved : goal.loop-own-preserved
unfolding code_of
loop-own-preserved c =
    let q = c.loop-own.own-index in
    c.loop-own.invariant
    ∙ (elim c.if-is_trusted.branch [ then-is_trusted+in_ok-judge_code w ↦ procedure_accepted _ _ _ c.min-count.ensures (omega arith) _ c.loop-own-test.true w.part-code.ensures.result_value (trusted_verdict _ _ _ q _ _ (sym c.is_trusted.ensures ∙ w.if-is_trusted.true) w.in_ok-judge_code.ensures) | else-is_trusted w ↦ procedure_accepted _ _ _ c.min-count.ensures (omega arith) _ c.loop-own-test.true refl (guest_verdict _ _ _ q _ _ (sym c.is_trusted.ensures ∙ w.if-is_trusted.false)) ])

pub returns : goal.returns
returns c = sym (c.loop-own.invariant ∙ procedures_done _ _ _ c.min-count.ensures (omega arith) _ c.loop-own-test.false)
