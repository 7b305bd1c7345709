-- Laws of what instructions take and push, and of the marks that they make.
use Prim.Native.Nat.{ℕ, zero, suc, ◌+◌, ◌-◌, ◌≤◌}
use mathlib.Core.Path.{◌≡◌, refl, ap}
use mathlib.Core.Bool.{not}
use mathlib.Core.List.{List}
use native.Mathlib.Omega.{arith}
use lib.ListN.{length, get_or, get_or-eq_default}
use Rattle.laws.proofs.Lists.{find-within, get_d_tabulate}
use Rattle.table.specs.declared.Row.{Row}
use Rattle.table.specs.declared.index.Index.{Index}
use Rattle.table.specs.declared.index.TypeEntry.{TypeEntry}
use Rattle.table.specs.declared.index.ProcedureEntry.{ProcedureEntry}
use Rattle.table.specs.Format.{past_opcodes}
use Rattle.table.specs.Rows.{row_count}
use Rattle.declarations.specs.Program.{number, kinds_from, kinds_of, is_parameter, parameters_end, parameter_count, code_of}
use Rattle.effects.specs.Effects.{effects, effect_of, no_effect}
use Rattle.flow.specs.Steps.{nexts}
use Rattle.flow.specs.Places.{mark_nodes}
use Rattle.flow.proofs.Same.{marks_same}
use Rattle.steps.specs.Steps.{Marking, step_at, no_step, steps_at, marks_of}

-- rows declare as many kinds as there are rows
length_from : (t : List ℕ) (i n : ℕ) → length (kinds_from t i n) ≡ n
unfolding kinds_from
length_from t i zero = refl
length_from t i (suc n) = ap suc (length_from t (i + 1) n)

pub length-kinds : (t : List ℕ) (from to : ℕ) → length (kinds_of t from to) ≡ to - from
unfolding kinds_of
length-kinds t from to = length_from t from (to - from)

-- a procedure has at most as many parameters as locals
pub parameters_few : (t : List ℕ) (p : ProcedureEntry) → parameters_end t p - (p.row + 1) ≤ p.results - (p.row + 1)
unfolding parameters_end
parameters_few t p = omega (arith, find-within (λ (i : ℕ). not (is_parameter t i)) (p.row + 1) (p.results - (p.row + 1)))

-- what the row's instruction takes and pushes, by its opcode
module _ (t : List ℕ) (own : ProcedureEntry) (named : TypeEntry) (callee : ProcedureEntry) (row : Row) where
  abbrev Counted : ℕ → ℕ → Type 0
  Counted takes gives = (takes ≡ length (effect_of t own named callee row number).takes) × (gives ≡ length (effect_of t own named callee row number).gives)

  pub listed : (n : ℕ) {takes gives : ℕ} → row.a ≡ n
      → takes ≡ length (get_or (effects t own named callee row.b number) n no_effect).takes
      → gives ≡ length (get_or (effects t own named callee row.b number) n no_effect).gives
      → Counted takes gives
  unfolding effect_of
  listed n e p q = rw e (p, q)

  pub unlisted : past_opcodes ≤ row.a → Counted 0 0
  unfolding effect_of effects
  unlisted h = rw (get_or-eq_default (effects t own named callee row.b number) no_effect {n = row.a} h) (refl, refl)

-- where marks come to, by steps that are not listed
pub marks_are : (t : List ℕ) (ix : Index) (m : Marking) (q : ℕ) (p : ProcedureEntry)
    → marks_of t ix m q p ≡ mark_nodes (nexts (code_of t p)) (step_at t ix m p) (m.starts q) (parameter_count t p) (row_count (code_of t p))
unfolding marks_of steps_at
marks_are t ix m q p = marks_same _ _ _ _ _ _ (λ i h. get_d_tabulate (step_at t ix m p) no_step (row_count (code_of t p)) i h)
