-- Every choice of marked parameters and marked results is that of some list of marks: so the smallest marks are the smallest of all choices.
use Prim.Native.Nat.{ℕ, ◌+◌, ◌-◌, ◌*◌, ◌/◌, ◌%◌, ◌<◌}
use mathlib.Core.Path.{◌≡◌, refl, ◌∙◌}
use mathlib.Core.Bool.{Bool, false, cond}
use mathlib.Core.List.{List}
use native.Mathlib.Omega.{arith}
use borrow.Author.Tests.{lt-ltb, le-ltb}
use lib.Dec.{ltb}
use Rattle.laws.specs.Lists.{tabulate}
use Rattle.laws.proofs.Lists.{get_d_tabulate}
use Rattle.table.specs.Format.{max_locals, max_results}
use Rattle.flow.proofs.Paths.{node_div, node_mod, node_lt}
use Rattle.helpers.specs.Marks.{per_procedure, parameter_of, result_of}

module _ (count : ℕ) (parameters results : ℕ → ℕ → Bool) where
  chosen : ℕ → Bool
  chosen v = cond (ltb (v % per_procedure) max_locals) (parameters (v / per_procedure) (v % per_procedure)) (results (v / per_procedure) (v % per_procedure - max_locals))

  pub any_choice : (m : List Bool)
      × ((q l : ℕ) → q < count → l < max_locals → parameter_of m q l ≡ parameters q l)
      × ((q r : ℕ) → q < count → r < max_results → result_of m q r ≡ results q r)
  unfolding parameter_of result_of chosen
  any_choice = (
    tabulate chosen (per_procedure * count),
    λ q l h b.
        let c : l < per_procedure = omega arith in
        get_d_tabulate chosen false (per_procedure * count) (per_procedure * q + l) (node_lt per_procedure q count l h c)
        ∙ (rw (node_div per_procedure q l c, node_mod per_procedure q l c, lt-ltb l max_locals b) refl),
    λ q r h b.
        let c : 16 + r < per_procedure = omega arith in
        let z : 16 + r - 16 ≡ r = omega arith in
        get_d_tabulate chosen false (per_procedure * count) (per_procedure * q + (16 + r)) (node_lt per_procedure q count (16 + r) h c)
        ∙ (rw (node_div per_procedure q (16 + r) c, node_mod per_procedure q (16 + r) c, le-ltb (16 + r) max_locals (omega arith), z) refl),
  )
