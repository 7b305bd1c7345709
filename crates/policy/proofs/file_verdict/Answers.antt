use mathlib.Core.Path.{◌≡◌, sym, ◌∙◌}
use Prim.Native.Nat.{◌/◌}
use native.Mathlib.Omega.{arith}
use borrow.Author.Tests.{le-ltb, eq-eqb, ne_eqb}
use lib.ListN.{length}
use Rattle.laws.proofs.First.{fine, faulty_with, done, whole}
use Rattle.table.specs.Verdicts.{Accepted, Refused}
use Rattle.policy.specs.Policy.{rule_fault, file_of}
use Rattle.policy.proofs.file_verdict.Goals as goal

pub loop-i-init : goal.loop-i-init
unfolding file_of
loop-i-init c = rw (ne_eqb _ _ c.if-bytes-eq0.false, eq-eqb _ _ c.if-bytes-ne0.false, le-ltb _ _ c.if-bytes.false) (whole Accepted Refused _ _)

pub returns-then-bad_rule : goal.returns-then-bad_rule
unfolding rule_fault
returns-then-bad_rule c = rw c.at-then-bad_rule.ensures (sym (c.loop-i.invariant ∙ faulty_with Accepted Refused _ _ _ 20 (omega arith) (rw (sym c.bad_rule.ensures ∙ c.if-bad_rule.true)) (λ z. omega arith)))

pub loop-i-preserved : goal.loop-i-preserved
unfolding rule_fault
loop-i-preserved c = c.loop-i.invariant ∙ fine Accepted Refused _ _ _ (omega arith) (rw (sym c.bad_rule.ensures ∙ c.if-bad_rule.false))

pub returns : goal.returns
returns c = let e : c.loop-i.i ≡ length c.args.rules.now / 16 = omega arith in
    sym (c.loop-i.invariant ∙ rw e (done Accepted Refused _ _))
