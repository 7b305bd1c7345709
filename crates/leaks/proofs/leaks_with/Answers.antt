use mathlib.Core.Path.{sym, ap, ◌∙◌}
use native.Mathlib.Omega.{arith}
use Rattle.table.specs.declared.index.Index.{Index}
use Rattle.table.specs.Rows.{row_count}
use Rattle.sizes.proofs.Inside.{rows_few}
use Rattle.entries.specs.code.Entries.{makes_some}
use Rattle.marks.proofs.TieFound.{none_found}
use Rattle.leaks.proofs.Read.{none_leaks}
use Rattle.leaks.proofs.leaks_with.Goals as goal

-- where no instruction makes a mark none is found, and none leaks
pub returns-then-not-makes_some : goal.returns-then-not-makes_some
returns-then-not-makes_some c =
    let t = c.args.table.now in
    let f = c.requires.0 in
    let quiet = ap (λ (ix : Index). makes_some t ix (row_count t)) (sym c.requires.1) ∙ sym c.makes_some.ensures ∙ c.if-not-makes_some.true in
    sym (none_leaks t f (none_found t f quiet))

-- a table that the passes accept has at most 2,048 rows
pub judge_in-requires-else-n-le256 : goal.judge_in-requires-else-n-le256
judge_in-requires-else-n-le256 c = (c.requires.0, c.requires.1, rows_few c.args.table.now c.requires.0, omega arith, omega arith)
