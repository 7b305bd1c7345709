-- In a guest module of an accepted table no instruction makes a mark: a guarded field stands in a trusted module, and BorrowFld works on a type of its own module.
use Prim.Native.Nat.{ℕ, zero, suc, ◌+◌, ◌-◌, ◌/◌, ◌%◌, ◌<◌, ◌≤◌}
use mathlib.Core.Path.{◌≡◌, refl, sym, ◌∙◌}
use mathlib.Core.Bool.{Bool, true, false, cond, false≢true}
use mathlib.Core.List.{List, []}
use native.Mathlib.Numerals.{add-one}
use native.Mathlib.Decide.{dec_lt}
use native.Mathlib.Omega.{arith}
use borrow.Author.Tests.{eqb-true, eqb-false, leb-false, not-false}
use lib.Dec.{eqb}
use lib.ListN.{get_or, get_or-eq_default}
use Rattle.laws.specs.Lists.{member, count, nth, entries, tabulate}
use Rattle.laws.proofs.Lists.{count-zero, count_yes, count_no, entries_at, entry_of-at, entry_of_hit, length-entries, length-tabulate, get_d_tabulate}
use Rattle.laws.proofs.Tests.{and_both}
use Rattle.table.specs.declared.Row.{Row}
use Rattle.table.specs.Verdicts.{Accepted}
use Rattle.table.specs.declared.index.TypeEntry.{TypeEntry}
use Rattle.table.specs.Format.{module_kind, type_kind, field_kind, op_borrow_fld, op_call}
use Rattle.table.specs.Rows.{row_count, row_at, blank, kind_at, is_kind}
use Rattle.table.specs.Index.{no_type, index_of, indexed_rows, owner_at, type_at}
use Rattle.table.proofs.Laws.{row_outside, not-kind, type-within, type-fields}
use Rattle.declarations.specs.Program.{type_in, code_of, field_count, field_row, instruction_in}
use Rattle.declarations.proofs.Laws.{nth-below}
use Rattle.rows.specs.declared.Above.{Above}
use Rattle.rows.proofs.Faults.{faultless}
use Rattle.rows.specs.Rows.{rows_of, fault_at, too_many, bad_guard, above_at, below_row, count_below, count_of, owned, limits}
use Rattle.names.specs.Names.{names_of, names}
use Rattle.operands.specs.Operands.{named_type}
use Rattle.operands.specs.Flow.{Flow}
use Rattle.steps.specs.Steps.{step_of, step_at}
use Rattle.sizes.proofs.Sizes.{rows_fine, nth-hit}
use Rattle.sizes.proofs.Rows.{count_stretch, own, code-named}
use Rattle.helpers.specs.Marks.{result_of}
use Rattle.helpers.specs.Tables.{borrows_guarded, marks_under}
use Rattle.leaks.specs.Leaks.{in_trusted}

-- modules are numbered through the table
no_owner : (k : ℕ) → member 1 (get_or owned k []) ≡ false
unfolding owned member
no_owner zero = refl
no_owner (suc zero) = refl
no_owner (suc (suc zero)) = refl
no_owner (suc (suc (suc zero))) = refl
no_owner (suc (suc (suc (suc zero)))) = refl
no_owner (suc (suc (suc (suc (suc zero))))) = refl
no_owner (suc (suc (suc (suc (suc (suc zero)))))) = refl
no_owner (suc (suc (suc (suc (suc (suc (suc zero))))))) = refl
no_owner (suc (suc (suc (suc (suc (suc (suc (suc zero)))))))) = refl
no_owner (suc (suc (suc (suc (suc (suc (suc (suc (suc k))))))))) = refl

-- a guarded field has a trusted module above
guard_trusted : (s : Above) (row : Row) → bad_guard s row ≡ false → row.kind ≡ field_kind → row.c ≡ 1 → s.trusted ≡ true
unfolding bad_guard
guard_trusted s row e k g = (and_both (eqb row.a 0) s.trusted (not-false _ (rw (k, g) at e))).1

module _ (t : List ℕ) where
  -- the number of modules above the next row
  modules-next : (i : ℕ) → (above_at t (i + 1)).modules ≡ cond (is_kind t module_kind i) ((above_at t i).modules + 1) (above_at t i).modules
  unfolding above_at below_row count_below is_kind kind_at
  modules-next i = rw (add-one, no_owner)

  -- whether the next row stands in a trusted module
  trusted-next : (i : ℕ) → (above_at t (i + 1)).trusted ≡ cond (is_kind t module_kind i) (eqb (row_at t i).a 1) (above_at t i).trusted
  unfolding above_at below_row is_kind kind_at
  trusted-next i = rw add-one

  -- nothing is trusted above the first row
  none-trusted : (above_at t 0).trusted ≡ true → ⊥
  unfolding above_at
  none-trusted e = false≢true e

  -- the number of modules above a row is a count of rows of kind 1
  modules-above : (i : ℕ) → (above_at t i).modules ≡ count (is_kind t module_kind) i
  unfolding above_at
  modules-above zero = sym (count-zero (is_kind t module_kind))
  modules-above (suc i) = let r = go (is_kind t module_kind i) refl (modules-above i) in rw add-one at r
    where
      go : (b : Bool) → is_kind t module_kind i ≡ b → (above_at t i).modules ≡ count (is_kind t module_kind) i → (above_at t (i + 1)).modules ≡ count (is_kind t module_kind) (i + 1)
      go true e ih = modules-next i ∙ rw (e, count_yes (is_kind t module_kind) i e, ih)
      go false e ih = modules-next i ∙ rw (e, count_no (is_kind t module_kind) i e, ih)

-- the row of module o in the index
unfoldable pub module_row : List ℕ → ℕ → ℕ
module_row t o = get_or (entries (is_kind t module_kind) (λ (i : ℕ). i) 0 (indexed_rows t) 16) o 0

module _ (t : List ℕ) (fine : (i : ℕ) → i < row_count t → fault_at t i ≡ 0) where
  -- a module's number is below 16
  module_low : (i : ℕ) → i < row_count t → is_kind t module_kind i ≡ true → count (is_kind t module_kind) i < 16
  unfolding fault_at is_kind kind_at too_many limits count_of
  module_low i h e =
      let k : (row_at t i).kind ≡ 1 = eqb-true _ _ e in
      let l = leb-false (get_or limits (row_at t i).kind 0) (count_of (above_at t i) (row_at t i).kind) ((faultless (above_at t i) (row_at t i)).0 (fine i h)).within in
      let m : (above_at t i).modules < 16 = rw k at l in
      omega (arith, modules-above t i)

  -- the index has the row of a module under its number
  pub module_here : (i : ℕ) → i < indexed_rows t → is_kind t module_kind i ≡ true → module_row t (count (is_kind t module_kind) i) ≡ i
  unfolding module_row
  module_here i h e =
      entries_at (is_kind t module_kind) (λ (i : ℕ). i) 0 (indexed_rows t) 16 (count (is_kind t module_kind) i) (module_low i (omega arith) e)
      ∙ entry_of_hit (is_kind t module_kind) (λ (i : ℕ). i) 0 (indexed_rows t) i h e

  -- what is trusted above a row is its module
  trusted_module : (i : ℕ) → i ≤ indexed_rows t → (above_at t i).trusted ≡ true → (row_at t (module_row t (count (is_kind t module_kind) i - 1))).a ≡ 1
  trusted_module zero h e = absurd (none-trusted t e)
  trusted_module (suc i) h e = let r = go (is_kind t module_kind i) refl (rw (← add-one i) at e) (trusted_module i (omega arith)) in rw add-one at r
    where
      go : (b : Bool) → is_kind t module_kind i ≡ b → (above_at t (i + 1)).trusted ≡ true → ((above_at t i).trusted ≡ true → (row_at t (module_row t (count (is_kind t module_kind) i - 1))).a ≡ 1)
          → (row_at t (module_row t (count (is_kind t module_kind) (i + 1) - 1))).a ≡ 1
      go true q e ih =
          let f : eqb (row_at t i).a 1 ≡ true = rw (trusted-next t i, q) at e in
          let c : count (is_kind t module_kind) (i + 1) - 1 ≡ count (is_kind t module_kind) i = omega (arith, count_yes (is_kind t module_kind) i q) in
          rw (c, module_here i (omega arith) q) (eqb-true _ _ f)
      go false q e ih = rw (count_no (is_kind t module_kind) i q) (ih (rw (trusted-next t i, q) at e))

  -- a type, and a field of it
  module _ (y f : ℕ) (there : y < (index_of t).types) (inside : f < field_count (type_in (index_of t) y)) where
    -- its row
    unfoldable pub type_row : ℕ
    type_row = nth (is_kind t type_kind) (indexed_rows t) y

    -- it has an entry in the index
    type-few : y < 64
    unfolding field_count type_in index_of
    type-few = go (dec_lt y 64)
      where
        go : Dec (y < 64) → y < 64
        go (yes l) = l
        go (no l) =
            let e = get_or-eq_default (entries (is_kind t type_kind) (type_at t) no_type (indexed_rows t) 64) no_type {n = y} (rw (length-entries (is_kind t type_kind) (type_at t) no_type (indexed_rows t) 64) (omega arith)) in
            let z : f < 0 - (0 + 1) = rw e at inside in absurd (omega arith)

    -- its entry is that of its row
    pub type-is : type_in (index_of t) y ≡ type_at t type_row
    unfolding type_in index_of type_row
    type-is = entries_at (is_kind t type_kind) (type_at t) no_type (indexed_rows t) 64 y type-few ∙ entry_of-at (is_kind t type_kind) (type_at t) no_type (indexed_rows t) y there

    -- its row is one that the index covers
    pub type-below : type_row < indexed_rows t
    unfolding type_row index_of
    type-below = nth-below (is_kind t type_kind) (indexed_rows t) y there

    -- its row is of kind 2
    pub type-kind : kind_at t type_row ≡ type_kind
    unfolding type_row index_of is_kind
    type-kind = eqb-true _ _ (nth-hit (is_kind t type_kind) (indexed_rows t) y there)

    -- the field's row is one of its rows
    pub field_end : type_row + 1 + f < (type_at t type_row).end
    unfolding field_count type_at
    field_end = let h = rw type-is at inside in omega (arith, h)

    -- a guarded field makes the type's module a trusted one
    pub guarded-trusted : (row_at t (field_row (type_in (index_of t) y) f)).c ≡ 1 → (row_at t (module_row t (type_in (index_of t) y).owner)).a ≡ 1
    unfolding field_row type_at owner_at fault_at kind_at
    guarded-trusted g =
        let r = type_row + 1 + f in
        let w = type-within t type_row refl type-below in
        let k = type-fields t type_row {j = r} (omega arith) field_end in
        let tests = (faultless (above_at t r) (row_at t r)).0 (fine r (omega (arith, w, field_end))) in
        let tr = guard_trusted (above_at t r) (row_at t r) tests.guarded (sym k) (rw type-is at g) in
        let m = trusted_module r (omega (arith, w, field_end)) tr in
        let c = count_stretch (is_kind t module_kind) type_row r (omega arith) (λ j lo hi. not-kind t j module_kind refl (λ e. go j lo hi (dec_lt type_row j) e)) in
        rw type-is (rw c at m)
      where
        go : (j : ℕ) → type_row ≤ j → j < type_row + 1 + f → Dec (type_row < j) → kind_at t j ≡ module_kind → ⊥
        go j lo hi (yes l) e = omega (arith, type-fields t type_row {j = j} l (omega (arith, field_end)), e)
        go j lo hi (no l) e = let q : j ≡ type_row = omega arith in omega (arith, type-kind, rw q at e)

-- a table of nothing but false
all_false : (f : ℕ → Bool) (n : ℕ) → ((r : ℕ) → f r ≡ false) → (r : ℕ) → get_or (tabulate f n) r false ≡ false
all_false f n h r = go (dec_lt r n)
  where
    go : Dec (r < n) → get_or (tabulate f n) r false ≡ false
    go (yes l) = get_d_tabulate f false n r l ∙ h r
    go (no l) = get_or-eq_default (tabulate f n) false {n = r} (rw length-tabulate (omega arith))

-- a guarded field is borrowed by BorrowFld, and its C is 1
guards : (t : List ℕ) (named : TypeEntry) (row : Row) → borrows_guarded t named row ≡ true → (row.a ≡ op_borrow_fld) × ((row_at t (field_row named (row.b % 8))).c ≡ 1)
unfolding borrows_guarded
guards t named row e = let b = and_both (eqb row.a op_borrow_fld) _ e in (eqb-true _ _ b.0, eqb-true _ _ b.1)

-- Procedure q of a table that the passes accept.
module _ (t : List ℕ) (q : ℕ) (there : q < (index_of t).procedures) (few : q < 128) (n : ℕ) (by_rows : rows_of t ≡ Accepted n) (by_names : names_of t ≡ Accepted n)
    (flow : (i : ℕ) → i < row_count (code_of t (own t q)) → Flow t (index_of t) (own t q) i)
    (guest : in_trusted t (index_of t) (own t q) ≡ false) where
  -- its module's row says guest
  is-guest : eqb (row_at t (module_row t (own t q).owner)).a 1 ≡ false
  unfolding in_trusted module_row index_of
  is-guest = guest

  -- BorrowFld borrows no guarded field
  unguarded : (i : ℕ) → i < row_count (code_of t (own t q)) → (instruction_in t (index_of t) q i).a ≡ op_borrow_fld
      → (row_at t (field_row (named_type (index_of t) (instruction_in t (index_of t) q i)) ((instruction_in t (index_of t) q i).b % 8))).c ≡ 1 → ⊥
  unfolding named_type names
  unguarded i h e g =
      let b = (instruction_in t (index_of t) q i).b in
      let x : (b / 8 < (index_of t).types) × (b % 8 < field_count (type_in (index_of t) (b / 8))) = rw e at (code-named t q there few n by_names i h) in
      let o : (type_in (index_of t) (b / 8)).owner ≡ (own t q).owner = rw e at ((flow i h).own_type (omega arith) (omega arith)) in
      let tr = guarded-trusted t (rows_fine t n by_rows) (b / 8) (b % 8) x.0 x.1 (rw e at g) in
      eqb-false _ _ is-guest (rw o at tr)

  -- no instruction borrows a guarded field
  borrows_none : (i : ℕ) → borrows_guarded t (named_type (index_of t) (instruction_in t (index_of t) q i)) (instruction_in t (index_of t) q i) ≡ false
  borrows_none i = go (borrows_guarded t (named_type (index_of t) (instruction_in t (index_of t) q i)) (instruction_in t (index_of t) q i)) refl (dec_lt i (row_count (code_of t (own t q))))
    where
      go : (b : Bool) → borrows_guarded t (named_type (index_of t) (instruction_in t (index_of t) q i)) (instruction_in t (index_of t) q i) ≡ b → Dec (i < row_count (code_of t (own t q))) → b ≡ false
      go true e (yes h) = let g = guards t _ (instruction_in t (index_of t) q i) e in absurd (unguarded i h g.0 g.1)
      go true e (no h) =
          let z : blank.a ≡ op_borrow_fld = rw (row_outside (code_of t (own t q)) i (omega arith)) at (guards t _ (instruction_in t (index_of t) q i) e).0 in
          absurd (omega arith)
      go false e d = refl

  -- so with no marks on what Calls push no instruction makes a mark
  pub no_fresh : (i r : ℕ) → get_or (step_at t (index_of t) (marks_under t []) (own t q) i).fresh r false ≡ false
  unfolding step_at step_of result_of
  no_fresh i r = all_false _ _ (λ r. rw (borrows_none i) (either (eqb (instruction_in t (index_of t) q i).a op_call))) r
    where
      either : (b : Bool) → cond b false false ≡ false
      either true = refl
      either false = refl
