-- Laws of rows and their kinds, of the rows of a type and of a procedure, and of parts of the table.
use Prim.Native.Nat.{ℕ, ◌+◌, ◌-◌, ◌*◌, ◌<◌, ◌≤◌}
use mathlib.Core.Path.{◌≡◌, refl, sym, ap, ◌∙◌}
use mathlib.Core.Bool.{true, false, not}
use mathlib.Core.List.{List, []}
use native.Mathlib.Omega.{arith}
use borrow.Author.Tests.{lt-ltb, le-ltb, le-leb, lt-leb, eq-eqb, ne_eqb, eqb-true, not-false}
use lib.ListN.{get_or}
use Rattle.laws.proofs.Lists.{find-next, find-here, find_past, find-within, find-before}
use Rattle.table.specs.declared.Row.{Row}
use Rattle.table.specs.declared.index.TypeEntry.{TypeEntry}
use Rattle.table.specs.declared.index.ProcedureEntry.{ProcedureEntry}
use Rattle.table.specs.Format.{row_bytes, module_kind, field_kind, procedure_kind, local_kind, result_kind, instruction_kind}
use Rattle.table.specs.Rows.{row_count, row_at, row_from, blank, kind_at, is_kind}
use Rattle.table.specs.Index.{indexed_rows, run_end, type_at, results_start, code_start, code_end, procedure_at}
use Rattle.table.specs.Procedures.{rows_between, in_table, part_of, part_start, ends_procedure, procedure_end}

module _ (t : List ℕ) (i : ℕ) where
  pub row_inside : i < row_count t → row_at t i ≡ row_from t (row_bytes * i)
  unfolding row_at
  row_inside h = rw (lt-ltb i (row_count t) h)

  pub row_outside : row_count t ≤ i → row_at t i ≡ blank
  unfolding row_at
  row_outside h = rw (le-ltb i (row_count t) h)

  pub kind-inside : i < row_count t → kind_at t i ≡ get_or t (row_bytes * i) 0
  unfolding kind_at row_from
  kind-inside h = ap (λ (r : Row). r.kind) (row_inside h)

  pub kind_outside : row_count t ≤ i → kind_at t i ≡ 0
  unfolding kind_at
  kind_outside h = ap (λ (r : Row). r.kind) (row_outside h)

  -- a row whose kind is r is of kind r and of no other
  pub is-kind : {r : ℕ} (k : ℕ) → r ≡ kind_at t i → r ≡ k → is_kind t k i ≡ true
  unfolding is_kind
  is-kind k e q = eq-eqb _ _ (sym e ∙ q)

  pub not-kind : {r : ℕ} (k : ℕ) → r ≡ kind_at t i → (r ≡ k → ⊥) → is_kind t k i ≡ false
  unfolding is_kind
  not-kind k e q = ne_eqb _ _ (λ p. q (e ∙ p))

-- runs of rows of kind k
module _ (t : List ℕ) (n k i : ℕ) where
  pub run-next : i < n → is_kind t k i ≡ true → run_end t n k i ≡ run_end t n k (i + 1)
  unfolding run_end
  run-next h e = find-next _ n i h (rw e)

  pub run_here : i < n → is_kind t k i ≡ false → run_end t n k i ≡ i
  unfolding run_end
  run_here h e = find-here _ n i h (rw e)

  pub run_past : n ≤ i → run_end t n k i ≡ i
  unfolding run_end
  run_past h = find_past _ n i h

  pub run_within : {r : ℕ} → r ≡ run_end t n k i → i ≤ n → (i ≤ r) × (r ≤ n)
  unfolding run_end
  run_within e h = omega (arith, find-within (λ (j : ℕ). not (is_kind t k j)) i (n - i))

  pub run_kind : {j : ℕ} → i ≤ j → j < run_end t n k i → k ≡ kind_at t j
  unfolding run_end is_kind
  run_kind {j} lo hi = sym (eqb-true _ _ (not-false _ (find-before _ i (n - i) j lo hi)))

-- the rows of the type at row i, and those of the procedure at row i
module _ (t : List ℕ) (i : ℕ) where
  pub type-within : {r : TypeEntry} → r ≡ type_at t i → i < indexed_rows t → (i < r.end) × (r.end ≤ indexed_rows t)
  unfolding type_at
  type-within e h = omega (arith, run_within t (indexed_rows t) field_kind (i + 1) (ap (λ (r : TypeEntry). r.end) e) (omega arith))

  pub procedure-parts : i < indexed_rows t → (i < results_start t i) × (results_start t i ≤ code_start t i) × (code_start t i ≤ code_end t i) × (code_end t i ≤ indexed_rows t)
  unfolding results_start code_start code_end
  procedure-parts h =
      let r = run_within t (indexed_rows t) local_kind (i + 1) refl (omega arith) in
      let s = run_within t (indexed_rows t) result_kind (results_start t i) refl (omega arith) in
      omega (arith, run_within t (indexed_rows t) instruction_kind (code_start t i) refl (omega arith))

  pub procedure-within : {r : ProcedureEntry} → r ≡ procedure_at t i → i < indexed_rows t → (i < r.end) × (r.end ≤ indexed_rows t)
  unfolding procedure_at
  procedure-within e h = omega (arith, procedure-parts h, ap (λ (r : ProcedureEntry). r.end) e)

  module _ {j : ℕ} where
    pub type-fields : i < j → j < (type_at t i).end → field_kind ≡ kind_at t j
    unfolding type_at
    type-fields lo hi = run_kind _ _ _ _ (omega arith) hi

    pub procedure-locals : i < j → j < results_start t i → local_kind ≡ kind_at t j
    unfolding results_start
    procedure-locals lo hi = run_kind _ _ _ _ (omega arith) hi

    pub procedure-results : results_start t i ≤ j → j < code_start t i → result_kind ≡ kind_at t j
    unfolding code_start
    procedure-results lo hi = run_kind _ _ _ _ lo hi

    pub procedure-code : code_start t i ≤ j → j < code_end t i → instruction_kind ≡ kind_at t j
    unfolding code_end
    procedure-code lo hi = run_kind _ _ _ _ lo hi

-- the end of a procedure's rows
module _ (t : List ℕ) (i : ℕ) where
  pub ends_module : is_kind t module_kind i ≡ true → ends_procedure t i ≡ true
  unfolding ends_procedure
  ends_module e = rw e

  pub ends-procedure : is_kind t module_kind i ≡ false → is_kind t procedure_kind i ≡ true → ends_procedure t i ≡ true
  unfolding ends_procedure
  ends-procedure d e = rw (d, e)

  pub ends-not : is_kind t module_kind i ≡ false → is_kind t procedure_kind i ≡ false → ends_procedure t i ≡ false
  unfolding ends_procedure
  ends-not d e = rw (d, e)

  pub end-next : i < row_count t → ends_procedure t i ≡ false → procedure_end t i ≡ procedure_end t (i + 1)
  unfolding procedure_end
  end-next h e = find-next _ (row_count t) i h e

  pub end-here : i < row_count t → ends_procedure t i ≡ true → procedure_end t i ≡ i
  unfolding procedure_end
  end-here h e = find-here _ (row_count t) i h e

  pub end_past : row_count t ≤ i → procedure_end t i ≡ i
  unfolding procedure_end
  end_past h = find_past _ (row_count t) i h

  pub end-within : i ≤ row_count t → (i ≤ procedure_end t i) × (procedure_end t i ≤ row_count t)
  unfolding procedure_end
  end-within h = omega (arith, find-within (ends_procedure t) i (row_count t - i))

-- a part of the table: rows that lie in it, and rows that do not
module _ (t : List ℕ) (from to : ℕ) where
  pub in-table : from ≤ to → to ≤ row_count t → in_table t from to ≡ true
  unfolding in_table
  in-table h k = rw (le-leb from to h, le-leb to (row_count t) k)

  pub not-in_order : to < from → in_table t from to ≡ false
  unfolding in_table
  not-in_order h = rw (lt-leb from to h)

  pub past_table : from ≤ to → row_count t < to → in_table t from to ≡ false
  unfolding in_table
  past_table h k = rw (le-leb from to h, lt-leb to (row_count t) k)

  pub part_inside : from ≤ to → to ≤ row_count t → part_of t from to ≡ rows_between t from to
  unfolding part_of
  part_inside h k = rw (in-table h k)

  pub start-inside : from ≤ to → to ≤ row_count t → part_start t from to ≡ row_bytes * from
  unfolding part_start
  start-inside h k = rw (in-table h k)

  pub part_outside : in_table t from to ≡ false → part_of t from to ≡ []
  unfolding part_of
  part_outside e = rw e

  pub start_outside : in_table t from to ≡ false → part_start t from to ≡ 0
  unfolding part_start
  start_outside e = rw e
