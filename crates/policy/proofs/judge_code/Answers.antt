use Prim.Native.Nat.{ℕ, ◌+◌, ◌/◌}
use mathlib.Core.Path.{◌≡◌, sym, ◌∙◌}
use native.Mathlib.Omega.{arith}
use lib.ListN.{length}
use Rattle.laws.proofs.First.{fine, faulty_with, done, whole}
use Rattle.table.specs.Verdicts.{Accepted, Refused}
use Rattle.declarations.specs.Program.{code_verdict}
use Rattle.policy.proofs.Laws.{other_fault, call-fault}
use Rattle.policy.proofs.judge_code.Goals as goal
use Rattle.policy.proofs.judge_code.Goals.{else-row-eq-CALL, then-row-eq-CALL+else-not-may_call}

pub loop-i-init : goal.loop-i-init
unfolding code_verdict
loop-i-init c = whole Accepted (λ (number j : ℕ). Refused number (_ + j)) _ _

pub returns-then-not-may_call : goal.returns-then-not-may_call
returns-then-not-may_call c =
    let fault = call-fault _ _ _ _ _ _ c.row_at-row.ensures _ _ c.if-row-eq-CALL.true c.procedure_in-callee.ensures c.may_call.ensures in
    rw (c.at.ensures, c.from.ensures)
    (sym (c.loop-i.invariant ∙ faulty_with Accepted (λ (number j : ℕ). Refused number (_ + j)) _ _ _ 22 (omega arith) (fault ∙ rw c.if-not-may_call.true) (λ z. omega arith)))

pub loop-i-preserved : goal.loop-i-preserved
loop-i-preserved c = c.loop-i.invariant ∙ fine Accepted (λ (number j : ℕ). Refused number (_ + j)) _ _ _ (omega arith) (elim c.if-row-eq-CALL.branch [
  | then-row-eq-CALL+else-not-may_call w ↦
      call-fault _ _ _ _ _ _ c.row_at-row.ensures _ _ w.if-row-eq-CALL.true w.procedure_in-callee.ensures w.may_call.ensures ∙ rw w.if-not-may_call.false
  | else-row-eq-CALL w ↦ other_fault _ _ _ _ _ _ c.row_at-row.ensures w.if-row-eq-CALL.false
])

pub returns : goal.returns
returns c =
    let e : c.loop-i.i ≡ length c.args.code.now / 16 = omega arith in
    sym (c.loop-i.invariant ∙ rw e (done Accepted (λ (number j : ℕ). Refused number (_ + j)) _ _))
