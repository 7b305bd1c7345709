-- Without a file the passes decide; so they do where they refuse; else the file decides.
use Rattle.std.proofs.lemmas.Result.{err_from_is_err_and}
use mathlib.Core.Path.{sym, ◌∙◌}
use native.Mathlib.Omega.{arith}
use Rattle.policy.specs.Policy.{rules_with}
use Rattle.judging.proofs.Laws.{by_index}
use Rattle.judging.proofs.Under.{under-refused, under_rules, without}
use Rattle.judging.proofs.judge_under.Goals as goal

pub returns-in_default : goal.returns-in_default
returns-in_default c = rw c.in_default.is (c.judge_table.ensures ∙ sym (without _ _))

pub returns-in_err-judge_table : goal.returns-in_err-judge_table
returns-in_err-judge_table c = let p = err_from_is_err_and c.from_residual.result c.from_residual.ensures.1 in
    rw (p.1, p.2, c.in-Some.is) (sym (under-refused _ _ _ (sym c.in_err-judge_table.ensures)))

pub returns : goal.returns
returns c =
    rw c.in-Some.is
    (sym (under_rules _ _ _ (sym c.in_ok-judge_table.ensures) (λ z. omega arith)
    ∙ by_index (rules_with _) c.index_of.ensures c.rules_with.ensures))
