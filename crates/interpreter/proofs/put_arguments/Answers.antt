use Prim.Native.Nat.{ℕ, ◌+◌, ◌-◌, ◌<◌}
use mathlib.Core.Path.{◌≡◌, refl, ap, sym, ◌∙◌}
use mathlib.Core.List.{List}
use lib.ListN.{length, get_or}
use Rattle.table.specs.declared.Row.{Row}
use Rattle.table.specs.Rows.{row_at, row_count}
use Rattle.calls.proofs.Laws.{argument-at, arguments-end}
use Rattle.state.specs.code.Coding.{values, value_of}
use Rattle.interpreter.specs.code.Calls.{filled}
use Rattle.interpreter.proofs.Keeping.{filled_more, filled-done}
use borrow.Author.Rules.{rules}
use native.Mathlib.Omega.{arith}
use Rattle.interpreter.proofs.put_arguments.Invariants.{given}
use Rattle.interpreter.proofs.put_arguments.Goals as goal

-- argument k is in the row k rows below the first
there : (list : List ℕ) (i k : ℕ) {n : ℕ} → n ≡ length (given list i) → k < n → (k < length (given list i)) × (get_or (given list i) k 0 ≡ (row_at list (i + 1 + k)).d) × (k < row_count list - (i + 1))
there list i k e h = let a = argument-at list (i + 1) (row_count list - (i + 1)) k (omega arith) in (omega arith, a.0, a.2)

pub returns-then-list-i : goal.returns-then-list-i
unfolding filled
returns-then-list-i c = rw (arguments-end c.args.list.now (c.args.i + 1) (row_count c.args.list.now) (omega (arith, c.if-list-i.true)))

pub loop-k-init : goal.loop-k-init
loop-k-init c = (refl, refl)

pub overflow_add-k : goal.overflow_add-k
overflow_add-k c = let h = (there _ _ _ c.argument_count-n.ensures c.loop-k-test.true).2 in search (rules, h)

pub overflow_add-i-in-loop-k : goal.overflow_add-i-in-loop-k
overflow_add-i-in-loop-k c = let h = (there _ _ _ c.argument_count-n.ensures c.loop-k-test.true).2 in search (rules, h)

pub loop-k-preserved : goal.loop-k-preserved
unfolding value_of values
loop-k-preserved c =
    let h = there _ _ _ c.argument_count-n.ensures c.loop-k-test.true in
    (search rules, filled_more _ _ _ _ _ _ h.0 (ap (λ (r : Row). r.d) c.row_at.ensures ∙ sym h.1) c.loop-k.invariant.1 c.put.ensures)

pub returns : goal.returns
returns c = filled-done _ _ _ _ _ (omega (arith, c.loop-k-test.false, c.argument_count-n.ensures)) c.loop-k.invariant.1
