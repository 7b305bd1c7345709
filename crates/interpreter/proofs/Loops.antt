-- The run loop, where the run from the beginning is the run from here, and a call by its parts.
use Prim.Native.Nat.{ℕ, suc, ◌-◌, ◌<◌, ◌≤◌}
use mathlib.Core.Path.{◌≡◌, refl, ap, sym, ◌∙◌}
use mathlib.Core.Bool.{Bool, true, false, cond}
use mathlib.Core.List.{List}
use native.Mathlib.Omega.{arith}
use borrow.Author.Tests.{eq-eqb, ne_eqb}
use lib.Dec.{eqb}
use Rattle.table.specs.declared.Row.{Row}
use Rattle.table.specs.declared.index.Index.{Index}
use Rattle.table.specs.declared.index.ProcedureEntry.{ProcedureEntry}
use Rattle.table.specs.Rows.{row_at}
use Rattle.declarations.specs.Program.{code_of, procedure_in, local_count}
use Rattle.semantics.specs.Calls.{call}
use Rattle.state.specs.declared.Operand.{Operand}
use Rattle.state.specs.declared.frames.State.{State}
use Rattle.state.specs.declared.stops.Stop.TheVariants.{BudgetSpent}
use Rattle.state.specs.code.Cells.{emptied}
use Rattle.state.specs.code.Frames.{stop_of, ended_with}
use Rattle.frame.specs.code.Turning.{Turning, after}
use Rattle.frame.specs.code.Control.{within}
use Rattle.step.specs.code.Step.{turn_of}
use Rattle.interpreter.specs.code.Run.{procedure_of, type_of, changes_memory, same_by, turn_at, row_of, run_from, same_from}
use Rattle.interpreter.specs.code.Calls.{filled, begun, restored_to, call_turn, same_call}

module _ (t : List ℕ) (ix : Index) (cs : List Operand) (s : State) (left : ℕ) {whole : Turning} (same : whole ≡ run_from t ix left cs s) where
  -- a step that ends the call, and one that does not
  module _ (more : 0 < left) (row : Row) (q : row ≡ row_at (code_of t (procedure_of ix s.procedure)) s.at) (s' : State) (cs' : List Operand)
      (e : after s' cs' ≡ turn_of t row (procedure_of ix s.procedure) (type_of ix row.b) (procedure_of ix row.b) cs s) where
    pub run_ends : (stop_of s' ≡ 0 → ⊥) → after s' cs' ≡ whole
    unfolding run_from turn_at row_of
    run_ends h = let n : left ≡ suc (left - 1) = omega arith in sym (same ∙ rw (n, ← q, ← e, ne_eqb (stop_of s') 0 h))

    pub run_on : stop_of s' ≡ 0 → whole ≡ run_from t ix (left - 1) cs' s'
    unfolding run_from turn_at row_of
    run_on h = let n : left ≡ suc (left - 1) = omega arith in same ∙ ap (λ (k : ℕ). run_from t ix k cs s) n ∙ rw (← q, ← e, eq-eqb (stop_of s') 0 h)

  -- the budget is spent
  pub run_spent : left ≤ 0 → {r : State} → r ≡ ended_with s BudgetSpent → after r cs ≡ whole
  unfolding run_from
  run_spent h e = let n : left ≡ 0 = omega arith in sym (same ∙ rw (n, e))

as_was : (b : Bool) → cond b true false ≡ b
as_was true = refl
as_was false = refl

-- Whether entries and rooms are those of the beginning: from the beginning, and from here where they were `same` so far.
module _ (t : List ℕ) (ix : Index) (cs : List Operand) (s : State) (left : ℕ) where
  module _ (more : 0 < left) (row : Row) (q : row ≡ row_at (code_of t (procedure_of ix s.procedure)) s.at) (s' : State) (cs' : List Operand)
      (e : after s' cs' ≡ turn_of t row (procedure_of ix s.procedure) (type_of ix row.b) (procedure_of ix row.b) cs s) where
    one-step : same_from t ix left cs s ≡ cond (eqb (stop_of s') 0) (same_by (same_from t ix (left - 1) cs' s') row.a) true
    unfolding same_from turn_at row_of
    one-step = let n : left ≡ suc (left - 1) = omega arith in ap (λ (k : ℕ). same_from t ix k cs s) n ∙ rw (← q, ← e)

    pub same_ends : (same : Bool) {whole : Bool} → whole ≡ cond same (same_from t ix left cs s) false → (stop_of s' ≡ 0 → ⊥) → same ≡ whole
    same_ends same p h = sym (p ∙ rw (one-step, ne_eqb (stop_of s') 0 h) (as_was same))

    pub same-on : (same : Bool) {whole same' : Bool} → whole ≡ cond same (same_from t ix left cs s) false → same' ≡ same_by same row.a → stop_of s' ≡ 0 → whole ≡ cond same' (same_from t ix (left - 1) cs' s') false
    same-on same p d h = p ∙ rw (one-step, eq-eqb (stop_of s') 0 h, d) (go same (changes_memory row.a) (same_from t ix (left - 1) cs' s'))
      where
        go : (b c x : Bool) → cond b (cond c false x) false ≡ cond (cond c false b) x false
        go true true x = refl
        go true false x = refl
        go false true x = refl
        go false false x = refl

  pub same-spent : (same : Bool) {whole : Bool} → whole ≡ cond same (same_from t ix left cs s) false → left ≤ 0 → same ≡ whole
  unfolding same_from
  same-spent same p h = let n : left ≡ 0 = omega arith in sym (p ∙ rw n (as_was same))

-- a call, from what each part of it gives
pub call-is : (t : List ℕ) (ix : Index) (cs : List Operand) (s : State) (l args : List ℕ) (i : ℕ) {row : Row} {callee : ProcedureEntry} {n count : ℕ} {ks ks' es fs ds : List Operand} {first last : State} {same : Bool} {end : Turning}
    → row ≡ row_at l i → callee ≡ procedure_in ix row.b → n ≡ local_count callee → count ≡ within n → ks' ≡ ks → es ≡ emptied cs 16 count → fs ≡ filled es 16 args → first ≡ begun s row.b count
    → (after last ds ≡ run_from t ix row.c fs first) × (same ≡ same_from t ix row.c fs first) → end ≡ restored_to ks' first same (after last ds)
    → (end ≡ call_turn t ix cs ks s (call (row_at l i).b (row_at l i).c args)) × (same ≡ same_call t ix cs s (call (row_at l i).b (row_at l i).c args))
unfolding call_turn same_call
call-is t ix cs s l args i {ks' = ks'} {first = first} {same = same} r p n c k e f b d z =
    (z ∙ ap (restored_to ks' first same) d.0 ∙ rw (d.1, b, f, e, k, c, n, p, r), d.1 ∙ rw (b, f, e, c, n, p, r))
