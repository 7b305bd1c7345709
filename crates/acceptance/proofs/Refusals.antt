-- The locals pass and the leaks pass refuse exactly the lowest row that walks show to earn a number, with the lowest number that it earns; the whole judge does, and
-- of the rows pass too.
use Prim.Native.Nat.{ℕ}
use mathlib.Core.Path.{◌≡◌, refl, ◌∙◌}
use mathlib.Core.Bool.{true}
use mathlib.Core.List.{List, [], ◌∷◌}
use mathlib.Core.Logic.{◌↔◌, ◌⊎◌, inl, inr, ⊎_elim}
use native.Mathlib.Omega.{arith}
use Rattle.laws.specs.Lists.{member}
use Rattle.laws.proofs.Lists.{disjoint, in_first, in_second, one_of_two}
use Rattle.table.specs.Verdicts.{Accepted, Refused}
use Rattle.table.specs.Rows.{row_count}
use Rattle.table.specs.Index.{index_of}
use Rattle.table.specs.Refusals.{dirty_byte, empty_local, lost_record, mark_given, mark_returned, row_refusals, local_refusals, leak_refusals}
use Rattle.rows.specs.Rows.{length_of, rows_of}
use Rattle.names.specs.Names.{names_of}
use Rattle.operands.specs.Operands.{operands_of}
use Rattle.locals.specs.Locals.{local_fault, locals_of}
use Rattle.helpers.specs.Tables.{marks_in}
use Rattle.leaks.specs.Leaks.{leak_fault, leaks_of}
use Rattle.judging.specs.Judging.{judge_of, passes, UpToOperands}
use Rattle.judging.proofs.Laws.{refused-here, accepted-here}
use Rattle.judging.proofs.Accepts.{accepted, accepting, up_to-operands}
use Rattle.judging.proofs.Numbers.{rows-number, locals-number, leaks_number, other, by_rows_lem, late as by-walks, locals-next, leaks_next, after-locals}
use Rattle.acceptance.specs.Refusals.{LocalCause, LeakCause, Earns, Lowest}
use Rattle.acceptance.specs.RowRefusals.{DirtyByte, EarnsRow, RowCause, not_there, one-too-many, dirty, wrong-a, wrong-c, late, wrong-op, guarded-record, guarded-outside}
use Rattle.acceptance.proofs.RowRefusals.{rows-refused}
use Rattle.acceptance.proofs.Lowest.{Tells, pass_lowest, pass_none, none_pass, lowest_pass}
use Rattle.acceptance.proofs.Causes.{local-shown, local-found, leak_shown, leak_found}

-- A table that the passes before locals accept.
module _ (t : List ℕ) (a : UpToOperands t) where
  local_tells : Tells LocalCause (λ (q : ℕ). local_fault t) t
  local_tells = record { shown = λ q i there inside. local-shown t a q i there inside; found = λ q i number there inside. local-found t a q i there inside number }

  leak_tells : Tells LeakCause (leak_fault t (index_of t) (marks_in t)) t
  leak_tells = record { shown = λ q i there inside. leak_shown t a q i there inside; found = λ q i number there inside. leak_found t a q i there inside number }

  -- 11 and 12: what the locals pass refuses, and what it accepts
  pub locals-refused : (number row : ℕ) → (locals_of t ≡ Refused number row) ↔ Lowest (Earns LocalCause t) number row
  unfolding locals_of
  locals-refused number row = (pass_lowest LocalCause (λ (q : ℕ). local_fault t) t local_tells, lowest_pass LocalCause (λ (q : ℕ). local_fault t) t local_tells)

  pub locals-accepted : (locals_of t ≡ Accepted (row_count t)) ↔ ((number row : ℕ) → Earns LocalCause t number row → ⊥)
  unfolding locals_of
  locals-accepted = (pass_none LocalCause (λ (q : ℕ). local_fault t) t local_tells, none_pass LocalCause (λ (q : ℕ). local_fault t) t local_tells)

  -- 13 and 14: the same of the leaks pass
  pub leaks_refused : (number row : ℕ) → (leaks_of t ≡ Refused number row) ↔ Lowest (Earns LeakCause t) number row
  unfolding leaks_of
  leaks_refused number row = (pass_lowest LeakCause (leak_fault t (index_of t) (marks_in t)) t leak_tells, lowest_pass LeakCause (leak_fault t (index_of t) (marks_in t)) t leak_tells)

  pub leaks_accepted : (leaks_of t ≡ Accepted (row_count t)) ↔ ((number row : ℕ) → Earns LeakCause t number row → ⊥)
  unfolding leaks_of
  leaks_accepted = (pass_none LeakCause (leak_fault t (index_of t) (marks_in t)) t leak_tells, none_pass LeakCause (leak_fault t (index_of t) (marks_in t)) t leak_tells)

-- 4 says that a byte of the row is not used and not zero, and nothing else
dirty-cause : (t : List ℕ) (row number : ℕ) → RowCause t row number → number ≡ dirty_byte → DirtyByte t row
dirty-cause t row number (not_there e) q = absurd (omega arith)
dirty-cause t row number (one-too-many e) q = absurd (omega arith)
dirty-cause t row number (dirty d) q = d
dirty-cause t row number (wrong-a e) q = absurd (omega arith)
dirty-cause t row number (wrong-c k h) q = absurd (omega arith)
dirty-cause t row number (late k p a) q = absurd (omega arith)
dirty-cause t row number (wrong-op k o h) q = absurd (omega arith)
dirty-cause t row number (guarded-record k g n) q = absurd (omega arith)
dirty-cause t row number (guarded-outside k g n) q = absurd (omega arith)

pub only-dirty : (t : List ℕ) (row : ℕ) → judge_of t ≡ Refused dirty_byte row → DirtyByte t row
unfolding member
only-dirty t row e = dirty-cause t row dirty_byte ((rows-refused t dirty_byte row).0 (by_rows_lem t e refl).1).earned.1 refl

-- The whole judge.
module _ (t : List ℕ) (number row : ℕ) where
  -- a table is refused with 2, 3, 4, 18 or 19 exactly if its length is accepted and this is the lowest row that earns one of them, with the lowest number that it earns
  pub judge_rows : ((judge_of t ≡ Refused number row) × (member number row_refusals ≡ true)) ↔ ((length_of t ≡ Accepted (row_count t)) × Lowest (EarnsRow t) number row)
  unfolding judge_of passes
  judge_rows = (to, from)
    where
      to : (judge_of t ≡ Refused number row) × (member number row_refusals ≡ true) → (length_of t ≡ Accepted (row_count t)) × Lowest (EarnsRow t) number row
      to (e, m) = let r = by_rows_lem t e m in (r.0, (rows-refused t number row).0 r.1)

      from : (length_of t ≡ Accepted (row_count t)) × Lowest (EarnsRow t) number row → (judge_of t ≡ Refused number row) × (member number row_refusals ≡ true)
      from (a, low) =
          let r = (rows-refused t number row).1 low in
          let later = names_of ∷ operands_of ∷ locals_of ∷ leaks_of ∷ [] in
          (accepted-here length_of (rows_of ∷ later) t a ∙ refused-here rows_of later t r, rows-number t r)

  -- a table is refused with 11 or 12 exactly if length, rows, names and operands accept it and this is the lowest row that walks show to earn one of them
  pub judge_locals : ((judge_of t ≡ Refused number row) × ((number ≡ 11) ⊎ (number ≡ 12))) ↔ (UpToOperands t × Lowest (Earns LocalCause t) number row)
  unfolding disjoint member
  judge_locals = (to, from)
    where
      one_of : (number ≡ 11) ⊎ (number ≡ 12) → member number local_refusals ≡ true
      one_of (inl e) = rw e
      one_of (inr e) = rw e

      to : (judge_of t ≡ Refused number row) × ((number ≡ 11) ⊎ (number ≡ 12)) → UpToOperands t × Lowest (Earns LocalCause t) number row
      to (e, n) =
          let m : member number local_refusals ≡ true = one_of n in
          let l = by-walks t e (in_first local_refusals leak_refusals number m) in
          (l.0, ⊎_elim (λ r. (locals-refused t l.0 number row).0 r) (λ r. absurd (other number local_refusals leak_refusals refl m (leaks_number t r.1))) (after-locals t l.1))

      from : UpToOperands t × Lowest (Earns LocalCause t) number row → (judge_of t ≡ Refused number row) × ((number ≡ 11) ⊎ (number ≡ 12))
      from (a, low) =
          let r = (locals-refused t a number row).1 low in
          (locals-next t a ∙ refused-here locals_of (leaks_of ∷ []) t r, one_of_two empty_local lost_record number (locals-number t r))

  -- with 13 or 14 exactly if locals accept it too and this is the lowest row that walks show to earn one of them
  pub judge_leaks : ((judge_of t ≡ Refused number row) × ((number ≡ 13) ⊎ (number ≡ 14))) ↔ (UpToOperands t × (locals_of t ≡ Accepted (row_count t)) × Lowest (Earns LeakCause t) number row)
  unfolding disjoint member
  judge_leaks = (to, from)
    where
      one_of : (number ≡ 13) ⊎ (number ≡ 14) → member number leak_refusals ≡ true
      one_of (inl e) = rw e
      one_of (inr e) = rw e

      to : (judge_of t ≡ Refused number row) × ((number ≡ 13) ⊎ (number ≡ 14)) → UpToOperands t × (locals_of t ≡ Accepted (row_count t)) × Lowest (Earns LeakCause t) number row
      to (e, n) =
          let m : member number leak_refusals ≡ true = one_of n in
          let l = by-walks t e (in_second local_refusals leak_refusals number m) in
          let r : (locals_of t ≡ Accepted (row_count t)) × (leaks_of t ≡ Refused number row) = ⊎_elim (λ r. absurd (other number leak_refusals local_refusals refl m (locals-number t r))) (λ r. r) (after-locals t l.1) in
          (l.0, r.0, (leaks_refused t l.0 number row).0 r.1)

      from : UpToOperands t × (locals_of t ≡ Accepted (row_count t)) × Lowest (Earns LeakCause t) number row → (judge_of t ≡ Refused number row) × ((number ≡ 13) ⊎ (number ≡ 14))
      from (a, e, low) =
          let r = (leaks_refused t a number row).1 low in
          (leaks_next t a e ∙ refused-here leaks_of [] t r, one_of_two mark_given mark_returned number (leaks_number t r))

-- accepted exactly if they accept it and walks show no row to earn a number from 11 to 14
pub judge_accepted : (t : List ℕ) → (judge_of t ≡ Accepted (row_count t)) ↔ (UpToOperands t × ((number row : ℕ) → Earns LocalCause t number row → ⊥) × ((number row : ℕ) → Earns LeakCause t number row → ⊥))
judge_accepted t = (to, from)
  where
    to : judge_of t ≡ Accepted (row_count t) → UpToOperands t × ((number row : ℕ) → Earns LocalCause t number row → ⊥) × ((number row : ℕ) → Earns LeakCause t number row → ⊥)
    to e = let a = accepted t (row_count t) e in let u = up_to-operands a in (u, (locals-accepted t u).0 a.by_locals, (leaks_accepted t u).0 a.by_leaks)

    from : UpToOperands t × ((number row : ℕ) → Earns LocalCause t number row → ⊥) × ((number row : ℕ) → Earns LeakCause t number row → ⊥) → judge_of t ≡ Accepted (row_count t)
    from (u, l, m) = accepting t (record {
      by_length = u.by_length;
      by_rows = u.by_rows;
      by_names = u.by_names;
      by_operands = u.by_operands;
      by_locals = (locals-accepted t u).1 l;
      by_leaks = (leaks_accepted t u).1 m;
    })
