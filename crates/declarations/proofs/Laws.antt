-- Laws of parameters, of passes over procedures, of jump targets, and of a table's own index.
use Prim.Native.Nat.{ℕ, zero, suc, ◌+◌, ◌<◌, ◌≤◌}
use mathlib.Core.Path.{◌≡◌, refl, sym, ap, ◌∙◌}
use mathlib.Core.Bool.{Bool, true, false, cond, not, ◌||◌, false≢true}
use mathlib.Core.List.{List, [], ◌∷◌, ◌++◌}
use native.Mathlib.Numerals.{add-one}
use native.Mathlib.Decide.{dec_lt}
use native.Mathlib.Omega.{arith}
use borrow.Author.Tests.{eq-eqb, ne_eqb, le-ltb, ltb-false}
use lib.Dec.{ltb}
use lib.ListN.{length, get_or, take, drop, length-take, length-append, drop_of_length-le}
use lib.Seq.{drop-cons, get_or-take}
use Rattle.laws.specs.Lists.{hits, count, nth}
use Rattle.laws.proofs.First.{clean_all}
use Rattle.laws.proofs.Lists.{get_d_snoc_old, get_d_snoc_new, entries_at, entry_of-at}
use Rattle.table.specs.declared.Row.{Row}
use Rattle.table.specs.Verdicts.{Verdict, Accepted, Refused, and_then}
use Rattle.table.specs.declared.index.Index.{Index}
use Rattle.table.specs.declared.index.ProcedureEntry.{ProcedureEntry}
use Rattle.table.specs.Format.{procedure_kind}
use Rattle.table.specs.Rows.{row_at, row_count, is_kind}
use Rattle.table.specs.Index.{no_procedure, index_of, indexed_rows, procedure_at}
use Rattle.table.proofs.Laws.{procedure-within}
use Rattle.declarations.specs.Program.{number, record_of, number_ref, record_ref, number_read, record_read, reference_to, frozen, is_parameter, code_of, code_verdict, over_procedures, code_pass, procedure_in, target_below, jumps_to, local_count}
use Rattle.declarations.specs.code.Limits.{over_limits, limited}

module _ (t : List ℕ) (i : ℕ) (r : Row) (e : r ≡ row_at t i) where
  pub parameter_yes : r.c ≡ 1 → not (is_parameter t i) ≡ false
  unfolding is_parameter
  parameter_yes h = ap not (eq-eqb (row_at t i).c 1 (sym (ap (λ (r : Row). r.c) e) ∙ h))

  pub parameter_no : (r.c ≡ 1 → ⊥) → not (is_parameter t i) ≡ true
  unfolding is_parameter
  parameter_no h = ap not (ne_eqb (row_at t i).c 1 (λ q. h (ap (λ (r : Row). r.c) e ∙ q)))

-- Kinds: a reference to a number or record is of sort 2 or 3, the read-only one to the same of sort 4 or 5.
pub reference_number : reference_to number ≡ number_ref
reference_number = refl

pub reference_record : (y : ℕ) → reference_to (record_of y) ≡ record_ref y
reference_record y = omega arith

pub frozen-number : frozen number_ref ≡ number_read
frozen-number = refl

pub frozen_record : (y : ℕ) → frozen (record_ref y) ≡ record_read y
frozen_record y = omega arith

-- the procedures of an index
abbrev pub procedures_of : Index → List ProcedureEntry
procedures_of ix = take ix.procedures ix.procedure_entries

-- A pass over procedures, from procedure number p on.
module _ (fault : ℕ → ProcedureEntry → ℕ → ℕ) (ix : Index) (t : List ℕ) where
  unfoldable pub pass_from : ℕ → Verdict
  pass_from p = over_procedures fault t p (drop p (procedures_of ix))

  -- the verdict on one procedure
  unfoldable pub verdict_of : ℕ → ProcedureEntry → Verdict
  verdict_of p own = code_verdict (fault p own) own.code (row_count (code_of t own))

  pub pass_start : code_pass fault ix t ≡ pass_from 0
  unfolding code_pass pass_from
  pass_start = refl

  pub pass_end : (p : ℕ) → length (procedures_of ix) ≤ p → pass_from p ≡ Accepted (row_count t)
  unfolding pass_from over_procedures
  pass_end p h = rw (drop_of_length-le (procedures_of ix) {i = p} h)

  next : (p : ℕ) → p < length (procedures_of ix) → pass_from p ≡ and_then (verdict_of p (get_or (procedures_of ix) p no_procedure)) (pass_from (p + 1))
  unfolding pass_from over_procedures verdict_of
  next p h = rw (drop-cons (procedures_of ix) p no_procedure h, add-one)

  -- a procedure that is refused, and one that is accepted
  pub pass_refused : (p number row : ℕ) (own : ProcedureEntry) → p < length (procedures_of ix) → own ≡ get_or (procedures_of ix) p no_procedure → verdict_of p own ≡ Refused number row → pass_from p ≡ Refused number row
  pass_refused p number row own h e q = next p h ∙ rw (← e, q)

  pub pass_on : (p n : ℕ) (own : ProcedureEntry) → p < length (procedures_of ix) → own ≡ get_or (procedures_of ix) p no_procedure → verdict_of p own ≡ Accepted n → pass_from p ≡ pass_from (p + 1)
  pass_on p n own h e q = next p h ∙ rw (← e, q)

-- jump targets
pub target_more : (c : List ℕ) (j n : ℕ) → target_below c j (n + 1) ≡ (target_below c j n || jumps_to (row_at c n) j)
unfolding target_below
target_more c j n = rw add-one

-- What is hit below n is below n.
below-go : (hit : ℕ → Bool) (n p d : ℕ) (b : Bool) → p < length (cond b (hits hit n ++ (n ∷ [])) (hits hit n)) → Dec (p < length (hits hit n)) → (p < length (hits hit n) → get_or (hits hit n) p d < n)
    → get_or (cond b (hits hit n ++ (n ∷ [])) (hits hit n)) p d < suc n
below-go hit n p d true h (yes l) ih = rw (get_d_snoc_old (hits hit n) n d p l) (omega (arith, ih l))
below-go hit n p d true h (no l) ih = let e : length (hits hit n) ≡ p = omega (arith, simp length-append at h) in rw (get_d_snoc_new (hits hit n) n d p e) (omega arith)
below-go hit n p d false h (yes l) ih = omega (arith, ih l)
below-go hit n p d false h (no l) ih = absurd (l h)

hit_below : (hit : ℕ → Bool) (n p d : ℕ) → p < length (hits hit n) → get_or (hits hit n) p d < n
unfolding hits
hit_below hit zero p d h = absurd (omega arith)
hit_below hit (suc n) p d h = below-go hit n p d (hit n) h (dec_lt p (length (hits hit n))) (hit_below hit n p d)

pub nth-below : (hit : ℕ → Bool) (n p : ℕ) → p < count hit n → nth hit n p < n
unfolding count nth
nth-below hit n p h = hit_below hit n p n h

-- Procedures of a table's own index: those that are there, and the rows that they take up.
module _ (t : List ℕ) (p : ℕ) where
  pub procedure-there : p < (index_of t).procedures → p < 128 → (procedure_in (index_of t) p ≡ procedure_at t (nth (is_kind t procedure_kind) (indexed_rows t) p)) × (nth (is_kind t procedure_kind) (indexed_rows t) p < indexed_rows t)
  unfolding index_of procedure_in
  procedure-there h l = (
    entries_at (is_kind t procedure_kind) (procedure_at t) no_procedure (indexed_rows t) 128 p l ∙ entry_of-at (is_kind t procedure_kind) (procedure_at t) no_procedure (indexed_rows t) p h,
    nth-below (is_kind t procedure_kind) (indexed_rows t) p h,
  )

  pub procedure-ends : p < (index_of t).procedures → p < 128 → (procedure_in (index_of t) p).end ≤ 2048
  procedure-ends h l = let e = procedure-there h l in omega (arith, (procedure-within t (nth (is_kind t procedure_kind) (indexed_rows t) p) e.0 e.1).1)

-- In the loop of a pass over procedures: procedure p of the index is procedure p of the pass.
module _ (ix : Index) (size : length ix.procedure_entries ≡ 128) where
  pub passes_past : (p : ℕ) → ix.procedures ≤ p → length (procedures_of ix) ≤ p
  passes_past p h = omega (arith, length-take ix.procedures ix.procedure_entries)

  pub passes_all : (p : ℕ) → 128 ≤ p → length (procedures_of ix) ≤ p
  passes_all p h = omega (arith, size, length-take ix.procedures ix.procedure_entries)

  pub passes_at : (p : ℕ) → p < ix.procedures → p < 128 → p < length (procedures_of ix)
  passes_at p h l = omega (arith, size, length-take ix.procedures ix.procedure_entries)

  pub passes-entry : (p : ℕ) → p < ix.procedures → procedure_in ix p ≡ get_or (procedures_of ix) p no_procedure
  unfolding procedure_in
  passes-entry p h = sym (get_or-take ix.procedures ix.procedure_entries p no_procedure h)

-- a verdict on the part that is a procedure's code
pub on_part : (fault : ℕ → ProcedureEntry → ℕ → ℕ) (ix : Index) (t c : List ℕ) (p : ℕ) (own : ProcedureEntry) (v : Verdict) → c ≡ code_of t own → v ≡ code_verdict (fault p own) own.code (row_count c)
    → verdict_of fault ix t p own ≡ v
unfolding verdict_of
on_part fault ix t c p own v e q = sym (rw e at q)

-- Procedures over a limit and within the limits, and faults that are looked for in the latter only.
module _ (t : List ℕ) (p : ProcedureEntry) where
  pub limits-held : over_limits t p ≡ false → (local_count p ≤ 16) × (row_count (code_of t p) ≤ 256)
  unfolding over_limits
  limits-held e = go (ltb 16 (local_count p)) (ltb 256 (row_count (code_of t p))) refl refl e
    where
      go : (a b : Bool) → ltb 16 (local_count p) ≡ a → ltb 256 (row_count (code_of t p)) ≡ b → (a || b) ≡ false → (local_count p ≤ 16) × (row_count (code_of t p) ≤ 256)
      go true b x y z = absurd (false≢true (sym z))
      go false true x y z = absurd (false≢true (sym z))
      go false false x y z = (ltb-false 16 (local_count p) x, ltb-false 256 (row_count (code_of t p)) y)

  pub limits_hold : local_count p ≤ 16 → row_count (code_of t p) ≤ 256 → over_limits t p ≡ false
  unfolding over_limits
  limits_hold h k = rw (le-ltb 16 (local_count p) h, le-ltb 256 (row_count (code_of t p)) k)

  module _ (fault : ℕ → ℕ) where
    pub limited_in : over_limits t p ≡ false → limited t p fault ≡ fault
    unfolding limited
    limited_in e = rw e

    pub limited_out : over_limits t p ≡ true → code_verdict (limited t p fault) p.code (row_count (code_of t p)) ≡ Accepted (row_count (code_of t p))
    unfolding limited code_verdict
    limited_out e = clean_all Accepted _ _ (row_count (code_of t p)) (λ j h. rw e)
