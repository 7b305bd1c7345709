use mathlib.Core.Path.{sym, ap, ◌∙◌}
use Rattle.std.proofs.lemmas.Result.{err_from_is_err_and}
use Rattle.table.specs.Verdicts.{Accepted}
use Rattle.policy.specs.Policy.{rules_with}
use Rattle.policy.proofs.Laws.{rules_count, pairs-same, calls_same}
use Rattle.policy.proofs.rules_with.Goals as goal

pub returns-in_err-file_verdict : goal.returns-in_err-file_verdict
unfolding rules_with
returns-in_err-file_verdict c = let p = err_from_is_err_and c.from_residual.result c.from_residual.ensures.1 in rw (p.1, p.2, ← c.in_err-file_verdict.ensures)

pub grid_of-grid-requires : goal.grid_of-grid-requires
grid_of-grid-requires c = let e = sym c.in_ok-file_verdict.ensures in e ∙ ap Accepted (rules_count _ _ e)

pub returns-in_err-pairs_verdict : goal.returns-in_err-pairs_verdict
unfolding rules_with
returns-in_err-pairs_verdict c = let p = err_from_is_err_and c.from_residual-in_err-pairs_verdict.result c.from_residual-in_err-pairs_verdict.ensures.1 in
    rw (p.1, p.2, ← c.in_ok-file_verdict.ensures, sym (c.in_err-pairs_verdict.ensures ∙ pairs-same _ _ _ c.grid_of-grid.ensures))

pub returns : goal.returns
unfolding rules_with
returns c = rw (← c.in_ok-file_verdict.ensures, sym (c.in_ok-pairs_verdict.ensures ∙ pairs-same _ _ _ c.grid_of-grid.ensures))
    (c.calls_verdict.ensures ∙ calls_same _ _ (sym c.in_ok-file_verdict.ensures) _ _ _ c.grid_of-grid.ensures)
