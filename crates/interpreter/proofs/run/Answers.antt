use Prim.Native.Nat.{ℕ, ◌-◌, ◌*◌, ◌/◌, ◌%◌, ◌≤◌}
use mathlib.Core.Path.{◌≡◌, refl, ◌∙◌}
use mathlib.Core.Bool.{Bool, cond, false}
use mathlib.Core.List.{List}
use lib.Dec.{eqb}
use Rattle.table.specs.declared.index.Index.{Index}
use Rattle.state.specs.declared.Operand.{Operand}
use Rattle.state.specs.declared.frames.State.{State}
use Rattle.interpreter.specs.code.Run.{same_by, run_from, same_from}
use Rattle.interpreter.proofs.Loops.{run_ends, run_on, run_spent, same_ends, same-on, same-spent}
use native.Mathlib.Omega.{arith}
use borrow.Author.Rules.{rules}
use Rattle.interpreter.proofs.run.Goals as goal

-- twice a count, a run from there, and one less of it
twice : (n : ℕ) → (2 * n / 2 ≡ n) × (2 * n % 2 ≡ 0)
twice n = (omega arith, omega arith)

starts : (t : List ℕ) (ix : Index) (cs : List Operand) (s : State) (n : ℕ) → (run_from t ix n cs s ≡ run_from t ix (2 * n / 2) cs s) × (same_from t ix n cs s ≡ cond (eqb (2 * n % 2) 0) (same_from t ix (2 * n / 2) cs s) false)
starts t ix cs s n = rw ((twice n).0, (twice n).1) (refl, refl)

less : (n : ℕ) → 2 ≤ n → ((n - 2) / 2 ≡ n / 2 - 1) × ((n - 2) % 2 ≡ n % 2)
less n h = (omega arith, omega arith)

still : (n a : ℕ) {b : Bool} → 2 ≤ n → b ≡ same_by (eqb ((n - 2) % 2) 0) a → b ≡ same_by (eqb (n % 2) 0) a
still n a h e = e ∙ rw (less n h).1

pub loop-left-init : goal.loop-left-init
loop-left-init c = let h = starts _ _ _ _ c.args.budget in (refl, h.0, h.1)

pub shape_of-cells-then-now-ne0 : goal.shape_of-cells-then-now-ne0
shape_of-cells-then-now-ne0 c = search (rules, c.loop-left.invariant.0)

pub returns-then-now-ne0 : goal.returns-then-now-ne0
returns-then-now-ne0 c = (
  run_ends _ _ _ _ _ c.loop-left.invariant.1 (omega arith) _ c.instruction_at-row.ensures _ _ c.step-now.ensures c.if-now-ne0.true,
  c.is_unmarked.ensures ∙ rw (less c.loop-left.left (omega arith)).1 (same_ends _ _ _ _ (c.loop-left.left / 2) (omega arith) _ c.instruction_at-row.ensures _ _ c.step-now.ensures (eqb (c.loop-left.left % 2) 0) c.loop-left.invariant.2 c.if-now-ne0.true),
)

pub loop-left-preserved : goal.loop-left-preserved
loop-left-preserved c =
    let l = less c.loop-left.left (omega arith) in
    let n = c.marked_by-left.ensures.0 ∙ l.0 in (
      search (rules, c.loop-left.invariant.0),
      run_on _ _ _ _ _ c.loop-left.invariant.1 (omega arith) _ c.instruction_at-row.ensures _ _ c.step-now.ensures c.if-now-ne0.false ∙ rw n,
      same-on _ _ _ _ (c.loop-left.left / 2) (omega arith) _ c.instruction_at-row.ensures _ _ c.step-now.ensures (eqb (c.loop-left.left % 2) 0) c.loop-left.invariant.2 (still c.loop-left.left _ (omega arith) c.marked_by-left.ensures.1) c.if-now-ne0.false ∙ rw n,
    )

pub returns : goal.returns
returns c = (run_spent _ _ _ _ _ c.loop-left.invariant.1 (omega arith) c.ended.ensures, c.is_unmarked-2.ensures ∙ same-spent _ _ _ _ (c.loop-left.left / 2) (eqb (c.loop-left.left % 2) 0) c.loop-left.invariant.2 (omega arith))
