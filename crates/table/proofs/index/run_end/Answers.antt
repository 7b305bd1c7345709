use mathlib.Core.Path.{◌≡◌, refl, sym, ◌∙◌}
use native.Mathlib.Omega.{arith}
use Rattle.table.proofs.Laws.{is-kind, not-kind, run-next, run_here, run_past}
use Rattle.table.proofs.index.run_end.Goals as goal

pub loop-i-init : goal.loop-i-init
loop-i-init c = (omega arith, refl)

pub returns-then-kind_at-kind : goal.returns-then-kind_at-kind
returns-then-kind_at-kind c =
    let no = not-kind _ _ _ c.kind_at.ensures c.if-kind_at-kind.true in
    sym (c.loop-i.invariant.1 ∙ run_here _ _ _ _ (omega arith) no)

pub loop-i-preserved : goal.loop-i-preserved
loop-i-preserved c =
    let yes = is-kind _ _ _ c.kind_at.ensures c.if-kind_at-kind.false in
    (omega arith, c.loop-i.invariant.1 ∙ run-next _ _ _ _ (omega arith) yes)

pub returns : goal.returns
returns c =
    let end : c.max.result ≡ c.loop-i.i = omega arith in
    end ∙ sym (c.loop-i.invariant.1 ∙ run_past _ _ _ _ (omega arith))
