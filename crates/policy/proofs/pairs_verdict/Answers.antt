use Prim.Native.Nat.{◌/◌, ◌+◌, ◌-◌}
use mathlib.Core.Path.{◌≡◌, sym, ap, ◌∙◌}
use native.Mathlib.Omega.{arith}
use borrow.Author.Tests.{le-ltb}
use Rattle.laws.proofs.First.{fine, faulty_with, whole, clean_if}
use Rattle.table.specs.Verdicts.{Accepted, Refused}
use Rattle.policy.specs.code.Grid.{unruled_in, pairs_in}
use Rattle.policy.proofs.pairs_verdict.Goals as goal

pub loop-k-init : goal.loop-k-init
unfolding pairs_in
loop-k-init c = whole Accepted Refused _ _

pub returns-then-is_unruled : goal.returns-then-is_unruled
returns-then-is_unruled c = rw c.at.ensures (sym (c.loop-k.invariant ∙ faulty_with Accepted Refused _ _ _ 21 (omega arith) (rw (sym c.is_unruled.ensures ∙ c.if-is_unruled.true)) (λ z. omega arith)))

pub loop-k-preserved : goal.loop-k-preserved
loop-k-preserved c = c.loop-k.invariant ∙ fine Accepted Refused _ _ _ (omega arith) (rw (sym c.is_unruled.ensures ∙ c.if-is_unruled.false))

pub returns : goal.returns
unfolding unruled_in
returns c =
    let e : c.loop-k.k + (256 - c.loop-k.k) ≡ 256 = omega arith in
    sym (c.loop-k.invariant ∙ clean_if Accepted Refused _ _ _ (λ j lo hi. rw (le-ltb (j / 16) c.args.modules (omega arith))) ∙ ap Accepted e)
