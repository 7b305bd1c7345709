use Prim.Native.Nat.{◌≤◌}
use mathlib.Core.Path.{◌≡◌, sym, ◌∙◌}
use native.Mathlib.Omega.{arith}
use lib.ListN.{length, length-take}
use Rattle.std.proofs.lemmas.Result.{err_from_is_err_and}
use Rattle.declarations.specs.Program.{code_of, procedure_in}
use Rattle.declarations.proofs.Laws.{pass_start, pass_end, pass_refused, pass_on, passes_at, passes-entry, procedures_of}
use Rattle.policy.specs.code.Grid.{calls_in}
use Rattle.policy.proofs.Laws.{judged_part}
use Rattle.policy.proofs.calls_verdict.Goals as goal

pub loop-p-init : goal.loop-p-init
unfolding calls_in
loop-p-init c = pass_start _ _ _

pub loop-p-preserved : goal.loop-p-preserved
unfolding code_of procedure_in
loop-p-preserved c =
    let room : length c.args.index.procedure_entries ≡ 128 = omega arith in
    let code-is : c.part-code.result.now ≡ code_of c.args.table.now (procedure_in c.args.index c.loop-p.p) = c.part-code.ensures.result_value ∙ rw (c.from.ensures, c.from-in-loop-p.ensures) in
    c.loop-p.invariant ∙ pass_on _ _ _ _ _ _ (passes_at c.args.index room _ (omega arith) (omega arith)) (passes-entry c.args.index room _ (omega arith)) (judged_part _ _ _ _ _ _ _ code-is c.in_ok-judge_code.ensures)

pub returns-in_err-judge_code : goal.returns-in_err-judge_code
unfolding code_of procedure_in
returns-in_err-judge_code c =
    let room : length c.args.index.procedure_entries ≡ 128 = omega arith in
    let code-is : c.part-code.result.now ≡ code_of c.args.table.now (procedure_in c.args.index c.loop-p.p) = c.part-code.ensures.result_value ∙ rw (c.from.ensures, c.from-in-loop-p.ensures) in
    let p = err_from_is_err_and c.from_residual.result c.from_residual.ensures.1 in
    rw (p.1, p.2) (sym (c.loop-p.invariant ∙ pass_refused _ _ _ _ _ _ _ (passes_at c.args.index room _ (omega arith) (omega arith)) (passes-entry c.args.index room _ (omega arith)) (judged_part _ _ _ _ _ _ _ code-is c.in_err-judge_code.ensures)))

pub returns : goal.returns
returns c =
    let past : length (procedures_of c.args.index) ≤ c.loop-p.p = omega (arith, length-take c.args.index.procedures c.args.index.procedure_entries) in
    sym (c.loop-p.invariant ∙ pass_end _ _ _ _ past)
