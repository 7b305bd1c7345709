use Prim.Native.Nat.{ℕ}
use mathlib.Core.Path.{◌≡◌, refl, ap, ◌∙◌}
use lib.ListN.{length, replicate, length-replicate}
use Rattle.table.proofs.Laws.{is-kind, not-kind}
use Rattle.semantics.specs.Calls.{call_row}
use Rattle.text.specs.code.Placing.{placed}
use Rattle.running.proofs.Laws.{text_call, text_other, text_start, text_done}
use borrow.Author.Rules.{rules}
use native.Mathlib.Omega.{arith}
use Rattle.running.proofs.run_calls.Goals as goal
use Rattle.running.proofs.run_calls.Goals.{then-kind_at-eq-CALL, else-kind_at-eq-CALL}

-- the arrays begin as zeros
zeros : length (replicate {A = ℕ} 3648 0) ≡ 3648
zeros = length-replicate {A = ℕ} 3648 0

pub loop-i-init : goal.loop-i-init
loop-i-init c = record { counted = omega arith; same_reference = refl; cells = zeros; saved = zeros; text = ap (placed c.args.text.now 0) (text_start _ _ _) }

pub overflow_add-call : goal.overflow_add-call
overflow_add-call c = search (rules, c.loop-i.invariant.counted, c.loop-i-test.true, c.well_formed)

pub loop-i-preserved : goal.loop-i-preserved
loop-i-preserved c =
    let inv = c.loop-i.invariant in
    elim c.if-kind_at-eq-CALL.branch [
      | then-kind_at-eq-CALL w ↦
          rw (w.call-is, w.writer-is, w.last-is, w.saved-is, w.cells-is)
          (record {
            counted = omega (arith, inv.counted);
            same_reference = w.put_call.ensures.same_reference ∙ inv.same_reference;
            cells = search (rules, inv.cells);
            saved = search rules;
            text = inv.text ∙ text_call _ _ _ _ _ _ _ _ _ _ c.loop-i-test.true (is-kind _ _ call_row c.kind_at.ensures w.if-kind_at-eq-CALL.true) w.call-last.ensures w.put_call.ensures;
          })
      | else-kind_at-eq-CALL w ↦
          rw (w.call-is, w.writer-is, w.last-is, w.saved-is, w.cells-is)
          (record {
            counted = omega (arith, inv.counted);
            same_reference = inv.same_reference;
            cells = inv.cells;
            saved = inv.saved;
            text = inv.text ∙ text_other _ _ _ c.loop-i.writer _ _ _ _ _ _ c.loop-i-test.true (not-kind _ _ call_row c.kind_at.ensures w.if-kind_at-eq-CALL.false);
          })
    ]

pub returns : goal.returns
returns c =
    let same = c.put_entries.ensures.same_reference ∙ c.loop-i.invariant.same_reference in
    let done = text_done _ _ _ _ _ _ _ _ _ _ _ c.loop-i-test.false c.loop-i.invariant.text c.put_entries.ensures in
    (search (rules, same, done.0), done.1)
