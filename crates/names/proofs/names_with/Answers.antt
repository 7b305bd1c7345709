use Prim.Native.Nat.{◌+◌, ◌/◌}
use mathlib.Core.Path.{◌≡◌, refl, sym, ◌∙◌}
use mathlib.Core.Bool.{cond}
use native.Mathlib.Omega.{arith}
use borrow.Author.Tests.{ne_eqb}
use lib.Dec.{eqb}
use lib.ListN.{length}
use Rattle.laws.specs.Lists.{count, hits}
use Rattle.laws.proofs.First.{fine, done, whole}
use Rattle.laws.proofs.Lists.{count-few}
use Rattle.table.specs.Verdicts.{Accepted, Refused}
use Rattle.table.specs.Format.{type_kind, procedure_kind}
use Rattle.table.specs.Rows.{is_kind}
use Rattle.table.proofs.Reasons.{stops_at}
use Rattle.declarations.specs.Program.{procedure_in}
use Rattle.names.specs.Names.{names_with}
use Rattle.names.proofs.Laws.{count_next, own-next, fault_here}
use Rattle.names.proofs.names_with.Goals as goal
use Rattle.names.proofs.names_with.Goals.{in-2, in-4, in_default-kind}

pub loop-i-init : goal.loop-i-init
unfolding procedure_in names_with count hits
loop-i-init c = (refl, refl, refl, whole Accepted Refused _ _)

pub returns-in-Some : goal.returns-in-Some
returns-in-Some c =
    rw c.at.ensures (sym (c.loop-i.invariant.3 ∙ stops_at Accepted Refused _ _ _ _ (omega arith) (c.in-Some.ensures ∙ sym (fault_here _ c.args.index _ _ _ _ _ _ _ c.row_at-row.ensures c.loop-i.invariant.0 c.loop-i.invariant.1 c.type_in-named.ensures c.loop-i.invariant.2 c.procedure_in-starts.ensures))))

pub overflow_add-y : goal.overflow_add-y
overflow_add-y c = omega (arith, count-few (is_kind c.args.table.now type_kind) c.loop-i.i)

pub overflow_add-p : goal.overflow_add-p
overflow_add-p c = omega (arith, count-few (is_kind c.args.table.now procedure_kind) c.loop-i.i)

pub loop-i-preserved : goal.loop-i-preserved
loop-i-preserved c =
    let counts : (c.match-row.y ≡ cond (eqb c.row_at-row.result.kind 2) (c.loop-i.y + 1) c.loop-i.y)
    × (c.match-row.p ≡ cond (eqb c.row_at-row.result.kind 4) (c.loop-i.p + 1) c.loop-i.p)
    × (c.match-row.own ≡ cond (eqb c.row_at-row.result.kind 4) c.procedure_in-starts.result c.loop-i.own) =
    elim c.match-row.branch [
      | in-2 w ↦ rw w.in-2.is (w.y-is, w.p-is, w.own-is)
      | in-4 w ↦ rw w.in-4.is (w.y-is, w.p-is, w.own-is)
      | in_default-kind w ↦ rw (ne_eqb c.row_at-row.result.kind 2 (λ q. omega arith), ne_eqb c.row_at-row.result.kind 4 (λ q. omega arith)) (w.y-is, w.p-is, w.own-is)
    ] in
    let e = c.row_at-row.ensures in
    let k = c.loop-i.invariant in (
      counts.0 ∙ count_next _ _ _ _ _ e k.0,
      counts.1 ∙ count_next _ _ _ _ _ e k.1,
      own-next c.args.index (eqb c.row_at-row.result.kind procedure_kind) _ _ _ _ counts.1 counts.2 c.procedure_in-starts.ensures k.2,
      k.3 ∙ fine Accepted Refused _ _ _ (omega arith) (fault_here _ c.args.index _ _ _ _ _ _ _ e k.0 k.1 c.type_in-named.ensures k.2 c.procedure_in-starts.ensures ∙ sym c.in_default.ensures),
    )

pub returns : goal.returns
returns c = let e : c.loop-i.i ≡ length c.args.table.now / 16 = omega arith in
    sym (c.loop-i.invariant.3 ∙ rw e (done Accepted Refused _ _))
