-- The two tests are those of the definition.
use mathlib.Core.Path.{◌≡◌, sym, ap}
use mathlib.Core.Bool.{false}
use Rattle.table.specs.Procedures.{rows_between, place_in, in_table}
use Rattle.table.proofs.Laws.{not-in_order, past_table, part_inside, start-inside, part_outside, start_outside}
use Rattle.table.proofs.procedures.part.Goals as goal
use Rattle.table.proofs.procedures.part.Goals.{else-from-to-via-else-from-to, else-from-to-via-then-from-to+else-to-n}

pub returns-then-to-n : goal.returns-then-to-n
unfolding rows_between
returns-then-to-n c =
    let order = c.if-from-to.true in
    let fits = c.if-to-n.true in
    record { result_value = sym (part_inside _ _ _ order fits); ref_ptr_value = ap (place_in _) (sym (start-inside _ _ _ order fits)) }

pub returns : goal.returns
returns c =
    let out : in_table c.args.table.now c.args.from c.args.to ≡ false = elim c.else-from-to.branch [ else-from-to-via-then-from-to+else-to-n w ↦ past_table _ _ _ w.if-from-to.true w.if-to-n.false | else-from-to-via-else-from-to w ↦ not-in_order _ _ _ w.if-from-to.false ] in
    record { result_value = sym (part_outside _ _ _ out); ref_ptr_value = ap (place_in _) (sym (start_outside _ _ _ out)) }
