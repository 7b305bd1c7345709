-- Each pass that accepts leaves the judgement to the later ones; one that refuses decides it.
use Rattle.std.proofs.lemmas.Result.{err_from_is_err_and}
use Rattle.judging.proofs.Laws.{form_refused, names-refuse, operands-refuse, locals-refuse, leaks-refuse, leaks-may, all-accept}
use mathlib.Core.Path.{sym}
use Rattle.judging.proofs.judge_table.Goals as goal

pub returns-in_err-form_pass : goal.returns-in_err-form_pass
returns-in_err-form_pass c = let p = err_from_is_err_and c.from_residual.result c.from_residual.ensures.1 in
    rw (p.1, p.2) (sym (form_refused _ (sym c.in_err-form_pass.ensures)))

pub returns-in_err-names_with : goal.returns-in_err-names_with
returns-in_err-names_with c = let p = err_from_is_err_and c.from_residual-in_err-names_with.result c.from_residual-in_err-names_with.ensures.1 in
    rw (p.1, p.2) (names-refuse _ c.in_ok-form_pass.ensures c.index_of-index.ensures c.in_err-names_with.ensures)

pub returns-in_err-operands_with : goal.returns-in_err-operands_with
returns-in_err-operands_with c = let p = err_from_is_err_and c.from_residual-in_err-operands_with.result c.from_residual-in_err-operands_with.ensures.1 in
    rw (p.1, p.2) (operands-refuse _ c.in_ok-form_pass.ensures c.index_of-index.ensures c.in_ok-names_with.ensures c.in_err-operands_with.ensures)

pub returns-in_err-locals_with : goal.returns-in_err-locals_with
returns-in_err-locals_with c = let p = err_from_is_err_and c.from_residual-in_err-locals_with.result c.from_residual-in_err-locals_with.ensures.1 in
    rw (p.1, p.2) (locals-refuse _ c.in_ok-form_pass.ensures c.index_of-index.ensures c.in_ok-names_with.ensures c.in_ok-operands_with.ensures c.in_err-locals_with.ensures)

pub leaks_with-requires : goal.leaks_with-requires
leaks_with-requires c = leaks-may _ c.in_ok-form_pass.ensures c.index_of-index.ensures c.in_ok-names_with.ensures

pub returns-in_err-leaks_with : goal.returns-in_err-leaks_with
returns-in_err-leaks_with c = let p = err_from_is_err_and c.from_residual-in_err-leaks_with.result c.from_residual-in_err-leaks_with.ensures.1 in
    rw (p.1, p.2) (leaks-refuse _ c.in_ok-form_pass.ensures c.index_of-index.ensures c.in_ok-names_with.ensures c.in_ok-operands_with.ensures c.in_ok-locals_with.ensures c.in_err-leaks_with.ensures)

pub returns : goal.returns
returns c = all-accept _ c.in_ok-form_pass.ensures c.index_of-index.ensures c.in_ok-names_with.ensures c.in_ok-operands_with.ensures c.in_ok-locals_with.ensures c.in_ok-leaks_with.ensures
