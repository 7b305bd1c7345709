-- Tables that have no use for helpers: nothing is marked in them but references to guarded fields and their copies through locals, as in document 01.
use Prim.Native.Nat.{ℕ, ◌<◌}
use mathlib.Core.Path.{◌≡◌, sym, ap₂, ◌∙◌, subst, fun_ext}
use mathlib.Core.Bool.{Bool, false, cond, false≢true}
use mathlib.Core.List.{List, []}
use lib.Dec.{eqb}
use lib.ListN.{get_or}
use Rattle.laws.proofs.Tests.{and_both, test_fails}
use Rattle.table.specs.Format.{op_call}
use Rattle.table.specs.Index.{index_of}
use Rattle.table.specs.Rows.{row_count}
use Rattle.table.specs.declared.Row.{Row}
use Rattle.table.specs.declared.index.TypeEntry.{TypeEntry}
use Rattle.table.specs.Verdicts.{Accepted}
use Rattle.declarations.specs.Program.{number_ref, code_of, local_count, parameter_count}
use Rattle.flow.specs.Steps.{nexts}
use Rattle.flow.specs.Walks.{Slot, Walk, entry}
use Rattle.steps.specs.Steps.{Marking, step_of, step_at}
use Rattle.sizes.proofs.Rows.{own}
use Rattle.helpers.specs.Marks.{parameter_at, result_at, parameter_of, result_of}
use Rattle.helpers.specs.Tables.{borrows_guarded, is_private, is_helper, marks_under, procedure_of, marks_in}
use Rattle.helpers.proofs.Tied.{fits}
use Rattle.leaks.specs.Leaks.{leaks_of}
use Rattle.judging.specs.Judging.{UpToOperands}
use Rattle.acceptance.specs.Checked.{WalkOf}
use Rattle.acceptance.specs.Refusals.{operand, LeakCause, given-away, returned, Earns}
use Rattle.acceptance.specs.Helpers.{WalkUnder, Closed, NoneLeaves}
use Rattle.acceptance.proofs.Refusals.{leaks_accepted}
use Rattle.acceptance.proofs.Helpers.{formed, smallest}

module _ (t : List ℕ) (a : UpToOperands t) where
  -- if walks under no marks give none to helpers, and private procedures return none, then nothing is marked
  pub none_needed : Closed t [] → (v : ℕ) → get_or (marks_in t) v false ≡ false
  none_needed c v = test_fails _ (λ z. false≢true ((smallest t a).least [] c v z))

  -- without private procedures nothing is marked
  pub all_public : ((q : ℕ) → q < (index_of t).procedures → is_private t (own t q) ≡ false) → (v : ℕ) → get_or (marks_in t) v false ≡ false
  unfolding is_helper procedure_of step_at step_of
  all_public p = none_needed none
    where
      none : Closed t []
      none = record {
        given = λ q i h w o e. absurd (false≢true (sym (p _ ((fits t (formed a)).called q h i o).0) ∙ (and_both (is_private t (own t (operand t q i))) _ e).0));
        returned = λ q i h w o e. absurd (false≢true (sym (p q h) ∙ e));
      }

  -- where nothing is marked, every walk is one under no marks
  marked-none : Closed t [] → marks_under t (marks_in t) ≡ marks_under t []
  unfolding parameter_of result_of
  marked-none c =
      let p : parameter_of (marks_in t) ≡ parameter_of [] = fun_ext (λ q. fun_ext (λ l. none_needed c (parameter_at q l))) in
      let r : result_of (marks_in t) ≡ result_of [] = fun_ext (λ q. fun_ext (λ l. none_needed c (result_at q l))) in
      ap₂ (λ (f g : ℕ → ℕ → Bool). record {
        starts = f;
        makes = λ (named : TypeEntry) (row : Row) (r : ℕ). cond (eqb row.a op_call) (g row.b r) (borrows_guarded t named row);
        carries = λ (row : Row). false;
      }) p r

  walk_plain : Closed t [] → (q : ℕ) {k i : ℕ} {ls : List Slot} {ms : List Bool} → WalkOf t q k i ls ms → WalkUnder t [] q k i ls ms
  walk_plain c q {k} {i} {ls} {ms} w =
      subst (λ (m : Marking). Walk (nexts (code_of t (own t q))) (step_at t (index_of t) m (own t q)) (entry (m.starts q) (parameter_count t (own t q)) (local_count (own t q))) k i ls ms) (marked-none c) w

  -- a table in which document 01 finds neither 13 nor 14 is accepted
  pub kept-accepted : NoneLeaves t → leaks_of t ≡ Accepted (row_count t)
  kept-accepted n = (leaks_accepted t a).1 none
    where
      c : Closed t []
      c = record {
        given = λ q i h w o e before after k z g. absurd (false≢true (n.given q i h w o before after k z g));
        returned = λ q i h w o e before after k z g. absurd (false≢true (n.returned q i h w o before after k z g));
      }

      no_cause : {q i number : ℕ} → q < (index_of t).procedures → LeakCause t q i number → ⊥
      no_cause {q} {i} h (given-away tr o e (before, after, z, (k, ls, ms, w, g))) = false≢true (n.given q i h (walk_plain c q w) o before after number_ref z g)
      no_cause {q} {i} h (returned tr o e (before, after, z, (k, ls, ms, w, g))) = false≢true (n.returned q i h (walk_plain c q w) o before after number_ref z g)

      none : (number row : ℕ) → Earns LeakCause t number row → ⊥
      none number row (q, i, h, inside, e, x) = no_cause h x
