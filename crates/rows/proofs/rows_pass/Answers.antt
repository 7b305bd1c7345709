use Rattle.rows.proofs.Laws.{fits_below}
use Rattle.rows.specs.Rows.{rows_of, fault_at, above_at}
use Rattle.table.specs.Verdicts.{Accepted, Refused, number_of_reason}
use Rattle.table.proofs.Reasons.{stops_at}
use Rattle.laws.proofs.First.{fine, done, whole}
use native.Mathlib.Numerals.{add-one}
use lib.ListN.{length}
use mathlib.Core.Path.{◌≡◌, refl, sym, ◌∙◌}
use Prim.Native.Nat.{◌/◌, ◌+◌}
use native.Mathlib.Omega.{arith}
use Rattle.rows.proofs.rows_pass.Goals as goal

pub loop-i-init : goal.loop-i-init
unfolding rows_of above_at
loop-i-init c = (refl, whole Accepted Refused _ _)

pub returns-in-Some : goal.returns-in-Some
unfolding fault_at
returns-in-Some c = let z : number_of_reason c.in-Some.reason ≡ fault_at c.args.table.now c.loop-i.i = cc c.in-Some.ensures in
    rw c.at.ensures (sym (c.loop-i.invariant.1 ∙ stops_at Accepted Refused _ _ _ _ (omega arith) z))

pub below-above-requires : goal.below-above-requires
below-above-requires c = fits_below _ _ (sym (c.in_default.ensures))

pub loop-i-preserved : goal.loop-i-preserved
unfolding fault_at above_at
loop-i-preserved c = let z : fault_at c.args.table.now c.loop-i.i ≡ 0 = cc c.in_default.ensures in
    let a : above_at c.args.table.now (c.loop-i.i + 1) ≡ c.below-above.result = rw add-one (cc) in
    (sym a, c.loop-i.invariant.1 ∙ fine Accepted Refused _ _ _ (omega arith) z)

pub returns : goal.returns
returns c = let e : c.loop-i.i ≡ length c.args.table.now / 16 = omega arith in
    sym (c.loop-i.invariant.1 ∙ rw e (done Accepted Refused _ _))
