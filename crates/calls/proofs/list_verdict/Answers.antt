use mathlib.Core.Path.{◌≡◌, sym, ◌∙◌}
use borrow.Author.Tests.{lt-ltb, le-ltb, ne_eqb}
use Rattle.laws.proofs.First.{fine, done, whole}
use Rattle.table.proofs.Reasons.{stops_at}
use Rattle.table.specs.Verdicts.{Accepted, Refused}
use Rattle.table.specs.Rows.{row_count}
use Rattle.semantics.specs.Calls.{list_of}
use native.Mathlib.Omega.{arith}
use Rattle.calls.proofs.list_verdict.Goals as goal
use Rattle.calls.proofs.list_verdict.Goals.{then-list-gt-MAX_LIST_BYTES-via-then-list-gt-MAX_LIST_BYTES, then-list-gt-MAX_LIST_BYTES-via-else-list-gt-MAX_LIST_BYTES+then-list-ne0}

pub returns-then-list-gt-MAX_LIST_BYTES : goal.returns-then-list-gt-MAX_LIST_BYTES
unfolding list_of
returns-then-list-gt-MAX_LIST_BYTES c =
    elim c.then-list-gt-MAX_LIST_BYTES.branch [
      | then-list-gt-MAX_LIST_BYTES-via-then-list-gt-MAX_LIST_BYTES w ↦ rw (c.at.ensures, lt-ltb _ _ w.if-list-gt-MAX_LIST_BYTES.true)
      | then-list-gt-MAX_LIST_BYTES-via-else-list-gt-MAX_LIST_BYTES+then-list-ne0 w ↦ rw (c.at.ensures, le-ltb _ _ w.if-list-gt-MAX_LIST_BYTES.false, ne_eqb _ _ w.if-list-ne0.true)
    ]

pub loop-i-init : goal.loop-i-init
unfolding list_of
loop-i-init c = rw (le-ltb _ _ c.if-list-gt-MAX_LIST_BYTES.false, c.if-list-ne0.false) (whole Accepted Refused _ _)

pub returns-in-Some : goal.returns-in-Some
returns-in-Some c = rw c.at-in-Some.ensures (sym (c.loop-i.invariant ∙ stops_at Accepted Refused _ _ _ _ (omega arith) c.in-Some.ensures))

pub loop-i-preserved : goal.loop-i-preserved
loop-i-preserved c = c.loop-i.invariant ∙ fine Accepted Refused _ _ _ (omega arith) (sym c.in_default.ensures)

pub returns : goal.returns
returns c = let e : c.loop-i.i ≡ row_count c.args.list.now = omega arith in
    sym (c.loop-i.invariant ∙ rw e (done Accepted Refused _ _))
