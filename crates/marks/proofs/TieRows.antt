-- What a row of a table is, and what the arrays hold of it.
use Prim.Native.Nat.{ℕ, ◌+◌, ◌-◌, ◌<◌}
use mathlib.Core.Path.{ap, ◌≡◌, refl, sym, ◌∙◌}
use mathlib.Core.Bool.{Bool, true, false, cond}
use mathlib.Core.List.{List, [], ◌∷◌}
use native.Mathlib.Omega.{arith}
use borrow.Author.Tests.{eqb-true, eqb-false}
use lib.Dec.{eqb}
use lib.ListN.{length, get_or}
use Rattle.laws.specs.Lists.{count}
use Rattle.laws.proofs.Lists.{length-tabulate}
use Rattle.table.specs.Format.{procedure_kind, instruction_kind, op_ret, op_branch, op_branch_cond}
use Rattle.table.specs.Rows.{row_count, row_at, kind_at, is_kind}
use Rattle.table.specs.Index.{index_of}
use Rattle.table.proofs.Laws.{not-kind}
use Rattle.declarations.specs.Program.{code_of}
use Rattle.operands.specs.Operands.{named_type}
use Rattle.flow.specs.Steps.{next_of}
use Rattle.steps.specs.Steps.{step_of}
use Rattle.sizes.specs.code.Formed.{Formed}
use Rattle.sizes.proofs.Rows.{own}
use Rattle.sizes.proofs.Inside as Inside
use Rattle.helpers.specs.Tables.{marks_under, procedure_of}
use Rattle.helpers.proofs.Net.{heads, codes, blank, rows_from, after}
use Rattle.helpers.proofs.Tied.{spot_at, layout_of, spot_head, spot_code, spot_other, next-at, step-at}
use Rattle.entries.specs.declared.RowEntry.{RowEntry}
use Rattle.entries.specs.code.Entries.{no_entry, sends_to, called_by, head_entry, code_entry, no_entry, entry_by, entry_for, entry_at, Filled}
use Rattle.marks.specs.code.Search.{next_rows}

-- a procedure's own row
pub record HeadRow (t : List ℕ) (r q : ℕ) : Type 0 where
  pub there : q < (index_of t).procedures
  pub row : (own t q).row ≡ r
  pub spot : spot_at t r ≡ heads q
  pub head : is_kind t procedure_kind r ≡ true
  pub code : is_kind t instruction_kind r ≡ false
  pub entry : entry_at t (index_of t) r ≡ head_entry t (own t q) q

-- the row of instruction i of procedure q
pub record CodeRow (t : List ℕ) (r q i : ℕ) : Type 0 where
  pub there : q < (index_of t).procedures
  pub inside : i < row_count (code_of t (own t q))
  pub row : (own t q).code + i ≡ r
  pub spot : spot_at t r ≡ codes q i
  pub head : is_kind t procedure_kind r ≡ false
  pub code : is_kind t instruction_kind r ≡ true
  pub entry : entry_at t (index_of t) r ≡ code_entry t (own t q) (named_type (index_of t) (row_at t r)) (own t (row_at t r).b) (row_at t r)

-- any other row
pub record OtherRow (t : List ℕ) (r : ℕ) : Type 0 where
  pub spot : spot_at t r ≡ blank
  pub head : is_kind t procedure_kind r ≡ false
  pub code : is_kind t instruction_kind r ≡ false
  pub entry : entry_at t (index_of t) r ≡ no_entry

pub data RowIs (t : List ℕ) (r : ℕ) : Type 0 where
  is_head : (q : ℕ) → HeadRow t r q → RowIs t r
  is_code : (q i : ℕ) → CodeRow t r q i → RowIs t r
  is_other : OtherRow t r → RowIs t r

module _ (t : List ℕ) (f : Formed t) where
  -- every row is one of these
  pub row_is : (r : ℕ) → r < row_count t → RowIs t r
  unfolding is_kind kind_at entry_at entry_for entry_by
  row_is r h = go (is_kind t procedure_kind r) (is_kind t instruction_kind r) refl refl
    where
      go : (a b : Bool) → is_kind t procedure_kind r ≡ a → is_kind t instruction_kind r ≡ b → RowIs t r
      go true b e d =
          let k = eqb-true (kind_at t r) procedure_kind e in
          let w = Inside.head_there t f r h k in
          is_head (count (is_kind t procedure_kind) r)
          (record { there = w.0; row = w.1; spot = spot_head t r k; head = e; code = not-kind t r instruction_kind refl (λ c. omega (arith, c, k)); entry = rw e refl })
      go false true e d =
          let k = eqb-true (kind_at t r) instruction_kind d in
          let w = Inside.code-there t f r h k in
          is_code (count (is_kind t procedure_kind) r - 1) (r - (own t (count (is_kind t procedure_kind) r - 1)).code)
          (record { there = w.0; inside = w.2; row = omega (arith, w.1); spot = spot_code t r k; head = e; code = d; entry = rw (e, d) refl })
      go false false e d =
          is_other (record { spot = spot_other t r (eqb-false (kind_at t r) procedure_kind e) (eqb-false (kind_at t r) instruction_kind d); head = e; code = d; entry = rw (e, d) refl })

  -- instruction i of procedure q by its row
  module _ {r q i : ℕ} (c : CodeRow t r q i) where
    code_below : r < row_count t
    code_below = rw c.row at (Inside.code_below t f q c.there i c.inside)

    pub step_is : (procedure_of t q).step i ≡ step_of t (marks_under t []) (own t q) (named_type (index_of t) (row_at t r)) (own t (row_at t r).b) (row_at t r)
    step_is = rw c.row at (step-at t f q c.there i c.inside)

    -- where walks go on, as rows
    pub next-rows : next_rows (row_at t r) r (own t q).code ≡ after (procedure_of t) (layout_of t) q i
    unfolding next_rows after rows_from next_of layout_of
    next-rows =
        rw (next-at t f q c.there i c.inside, c.row)
        (go (eqb (row_at t r).a op_ret) (eqb (row_at t r).a op_branch) (eqb (row_at t r).a op_branch_cond) (own t q).code (row_at t r).b (omega (arith, c.row)))
      where
        go : (x y z : Bool) (first b : ℕ) → r + 1 ≡ first + (i + 1)
            → cond x [] (cond y ((first + b) ∷ []) (cond z ((r + 1) ∷ (first + b) ∷ []) ((r + 1) ∷ [])))
            ≡ rows_from first (cond x [] (cond y (b ∷ []) (cond z ((i + 1) ∷ b ∷ []) ((i + 1) ∷ []))))
        go true y z first b e = refl
        go false true z first b e = refl
        go false false true first b e = rw e refl
        go false false false first b e = rw e refl

  -- what the arrays hold
  module _ {rows : List RowEntry} (filled : Filled t (index_of t) rows (row_count t)) where
    module _ {r q i : ℕ} (c : CodeRow t r q i) where
      pub takes_are : (get_or rows r no_entry).takes ≡ ((procedure_of t q).step i).takes
      unfolding code_entry step_of
      takes_are = ap (λ (z : RowEntry). z.takes) (filled.entries-are r (code_below c)) ∙ (rw (c.entry, step_is c) refl)

      pub gives_are : (get_or rows r no_entry).gives ≡ length ((procedure_of t q).step i).fresh
      unfolding code_entry step_of
      gives_are = ap (λ (z : RowEntry). z.gives) (filled.entries-are r (code_below c)) ∙ (rw (c.entry, step_is c) (sym (length-tabulate _ _)))

      pub base-is : (get_or rows r no_entry).base ≡ (own t q).code
      unfolding code_entry
      base-is = ap (λ (z : RowEntry). z.base) (filled.entries-are r (code_below c)) ∙ (rw c.entry refl)

      pub sends_are : (get_or rows r no_entry).sends ≡ sends_to t (own t q) (own t (row_at t r).b) (row_at t r)
      unfolding code_entry
      sends_are = ap (λ (z : RowEntry). z.sends) (filled.entries-are r (code_below c)) ∙ (rw c.entry refl)

      pub calls_are : (get_or rows r no_entry).calls ≡ called_by (row_at t r)
      unfolding code_entry
      calls_are = ap (λ (z : RowEntry). z.calls) (filled.entries-are r (code_below c)) ∙ (rw c.entry refl)

      pub next_tied : next_rows (row_at t r) r (get_or rows r no_entry).base ≡ after (procedure_of t) (layout_of t) q i
      next_tied = rw base-is (next-rows c)

    -- of a procedure's own row
    module _ {r q : ℕ} (c : HeadRow t r q) where
      head_below : r < row_count t
      head_below = rw c.row at (Inside.head_below t f q c.there)

      pub parameters_are : (get_or rows r no_entry).takes ≡ (procedure_of t q).params
      unfolding head_entry procedure_of
      parameters_are = ap (λ (z : RowEntry). z.takes) (filled.entries-are r head_below) ∙ (rw c.entry refl)

      pub results_are : (get_or rows r no_entry).gives ≡ (own t q).code - (own t q).results
      unfolding head_entry
      results_are = ap (λ (z : RowEntry). z.gives) (filled.entries-are r head_below) ∙ (rw c.entry refl)

      pub first-is : (get_or rows r no_entry).base ≡ (own t q).code
      unfolding head_entry
      first-is = ap (λ (z : RowEntry). z.base) (filled.entries-are r head_below) ∙ (rw c.entry refl)

      pub number_is : (get_or rows r no_entry).sends ≡ q
      unfolding head_entry
      number_is = ap (λ (z : RowEntry). z.sends) (filled.entries-are r head_below) ∙ (rw c.entry refl)

      pub head_calls : (get_or rows r no_entry).calls ≡ 0
      unfolding head_entry
      head_calls = ap (λ (z : RowEntry). z.calls) (filled.entries-are r head_below) ∙ (rw c.entry refl)

    -- no other row calls
    pub other_calls : {r : ℕ} → OtherRow t r → r < row_count t → (get_or rows r no_entry).calls ≡ 0
    other_calls {r} c h = ap (λ (z : RowEntry). z.calls) (filled.entries-are r h) ∙ (rw c.entry refl)
