use Rattle.std.proofs.lemmas.Result.{err_from_is_err_and}
use mathlib.Core.Path.{sym, ◌∙◌}
use Rattle.running.proofs.Runs.{table-refused, list_refused, buffer-refused, runs}
use native.Mathlib.Omega.{arith}
use Rattle.running.proofs.run_list.Goals as goal

pub returns-in_err-judge_under : goal.returns-in_err-judge_under
returns-in_err-judge_under c = let p = err_from_is_err_and c.from_residual.result c.from_residual.ensures.1 in
    rw (p.1, p.2) (table-refused _ _ _ _ _ _ _ (sym c.in_err-judge_under.ensures))

pub returns-in_err-list_verdict : goal.returns-in_err-list_verdict
returns-in_err-list_verdict c = let p = err_from_is_err_and c.from_residual-in_err-list_verdict.result c.from_residual-in_err-list_verdict.ensures.1 in
    rw (p.1, p.2) (list_refused _ _ _ _ _ _ _ _ c.index_of-index.ensures (sym c.in_ok-judge_under.ensures) (sym c.in_err-list_verdict.ensures))

pub returns-then-text-lt-MIN_TEXT : goal.returns-then-text-lt-MIN_TEXT
returns-then-text-lt-MIN_TEXT c = rw c.at.ensures (buffer-refused _ _ _ _ _ _ _ c.index_of-index.ensures (sym c.in_ok-judge_under.ensures) (sym c.in_ok-list_verdict.ensures) c.if-text-lt-MIN_TEXT.true)

pub returns : goal.returns
returns c = runs _ _ _ _ _ _ _ c.index_of-index.ensures (sym c.in_ok-judge_under.ensures) (sym c.in_ok-list_verdict.ensures) (λ i. omega (arith, c.shared_slice_known-1.given i)) (λ i. omega (arith, c.shared_slice_known-2-1.given i)) c.if-text-lt-MIN_TEXT.false c.run_calls.ensures
