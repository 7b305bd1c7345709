-- In an accepted table the words of demand 3, said of rows, are those that the index gives.
use Prim.Native.Nat.{ℕ, zero, suc, ◌+◌, ◌-◌, ◌<◌, ◌≤◌}
use mathlib.Core.Path.{◌≡◌, refl, ap, sym, ◌∙◌}
use mathlib.Core.Bool.{Bool, true, false, not, true≢false, false≢true}
use mathlib.Core.List.{List, []}
use native.Mathlib.Omega.{arith}
use native.Mathlib.Decide.{dec_lt}
use native.Mathlib.Numerals.{add-one}
use borrow.Author.Tests.{eqb-true, eq-eqb, not-false}
use lib.Dec.{eqb}
use lib.ListN.{get_or, get_or-eq_default}
use Rattle.laws.specs.Lists.{member, every, count, nth, entries}
use Rattle.laws.proofs.Lists.{every-at, count_yes, count_no, nth-none, entries_at, entry_of-at, entry_of-none, length-entries}
use Rattle.laws.proofs.Tests.{and_both}
use Rattle.table.specs.declared.index.TypeEntry.{TypeEntry}
use Rattle.table.specs.declared.Row.{Row}
use Rattle.table.specs.Format.{module_kind, type_kind, field_kind, procedure_kind}
use Rattle.table.specs.Rows.{row_count, row_at, kind_at, is_kind}
use Rattle.table.specs.Index.{index_of, indexed_rows, no_type, owner_at, type_at, procedure_at}
use Rattle.table.specs.Procedures.{procedure_row}
use Rattle.table.proofs.Laws.{row_outside}
use Rattle.declarations.specs.Program.{type_in, procedure_in, field_row}
use Rattle.declarations.proofs.Laws.{nth-below}
use Rattle.rows.proofs.Faults.{faultless}
use Rattle.rows.specs.Rows.{fault_at, misplaced, may_follow, above_at}
use Rattle.sizes.specs.code.Formed.{Formed}
use Rattle.sizes.proofs.Sizes.{rows_fine, nth-hit}
use Rattle.sizes.proofs.Inside as Inside
use Rattle.leaks.specs.Leaks.{in_trusted}
use Rattle.judging.specs.Judging.{AcceptedTable}
use Rattle.judging.proofs.Accepts.{up_to-operands}
use Rattle.acceptance.proofs.Helpers.{formed}
use Rattle.acceptance.proofs.Guest.{module_row, module_here}
use Rattle.acceptance.proofs.Counts.{row_trust, type-few}
use Rattle.semantics.specs.Words.{type_count, procedure_count, type_row, module_of, declarer, module_above, in_guest, guest, guarded_field}
use Rattle.semantics.proofs.Indexed.{module_in, declarer_in, guest_in, guarded_in}

-- only a module may stand first
first_kind : (k : ℕ) → member 0 (get_or may_follow k []) ≡ true → k ≡ 1
unfolding may_follow member
first_kind zero e = absurd (false≢true e)
first_kind (suc zero) e = refl
first_kind (suc (suc zero)) e = absurd (false≢true e)
first_kind (suc (suc (suc zero))) e = absurd (false≢true e)
first_kind (suc (suc (suc (suc zero)))) e = absurd (false≢true e)
first_kind (suc (suc (suc (suc (suc zero))))) e = absurd (false≢true e)
first_kind (suc (suc (suc (suc (suc (suc zero)))))) e = absurd (false≢true e)
first_kind (suc (suc (suc (suc (suc (suc (suc zero))))))) e = absurd (false≢true e)
first_kind (suc (suc (suc (suc (suc (suc (suc (suc k)))))))) e = absurd (false≢true e)

two-values : (x : ℕ) → x < 2 → eqb x 0 ≡ not (eqb x 1)
two-values zero h = refl
two-values (suc zero) h = refl
two-values (suc (suc x)) h = absurd (omega arith)

hit_kind : (t : List ℕ) (k i : ℕ) → is_kind t k i ≡ true → kind_at t i ≡ k
unfolding is_kind
hit_kind t k i e = eqb-true _ _ e

module _ (t : List ℕ) (a : AcceptedTable t) where
  pub passed : Formed t
  passed = formed (up_to-operands a)

  pub fine : (i : ℕ) → i < row_count t → fault_at t i ≡ 0
  fine = rows_fine t (row_count t) a.by_rows

  -- the index covers every row
  pub covers : indexed_rows t ≡ row_count t
  covers = Inside.whole t passed

  pub types_are : (index_of t).types ≡ type_count t
  unfolding index_of
  types_are = ap (count (is_kind t type_kind)) covers

  pub procedures_are : (index_of t).procedures ≡ procedure_count t
  unfolding index_of
  procedures_are = ap (count (is_kind t procedure_kind)) covers

  -- type y and procedure p are what stands at their rows
  pub type-is : (y : ℕ) → y < (index_of t).types → type_in (index_of t) y ≡ type_at t (type_row t y)
  unfolding type_in index_of
  type-is y there =
      entries_at (is_kind t type_kind) (type_at t) no_type (indexed_rows t) 64 y (type-few t fine y there)
      ∙ entry_of-at (is_kind t type_kind) (type_at t) no_type (indexed_rows t) y there
      ∙ ap (λ (n : ℕ). type_at t (nth (is_kind t type_kind) n y)) covers

  -- a number without a type has no fields
  pub type_absent : (y : ℕ) → (index_of t).types ≤ y → type_in (index_of t) y ≡ no_type
  unfolding type_in index_of
  type_absent y h = go (dec_lt y 64)
    where
      go : Dec (y < 64) → get_or (entries (is_kind t type_kind) (type_at t) no_type (indexed_rows t) 64) y no_type ≡ no_type
      go (yes l) = entries_at (is_kind t type_kind) (type_at t) no_type (indexed_rows t) 64 y l ∙ entry_of-none (is_kind t type_kind) (type_at t) no_type (indexed_rows t) y h
      go (no l) = get_or-eq_default (entries (is_kind t type_kind) (type_at t) no_type (indexed_rows t) 64) no_type {n = y} (rw (length-entries (is_kind t type_kind) (type_at t) no_type (indexed_rows t) 64) (omega arith))

  pub procedure-is : (p : ℕ) → p < (index_of t).procedures → p < 128 → procedure_in (index_of t) p ≡ procedure_at t (procedure_row t p)
  procedure-is p there few = Inside.entry_row t passed p there

  pub declarer-is : (y : ℕ) → y < (index_of t).types → declarer_in (index_of t) y ≡ declarer t y
  unfolding type_at
  declarer-is y there = ap (λ (e : TypeEntry). e.owner) (type-is y there)

  pub module_is : (p : ℕ) → p < (index_of t).procedures → p < 128 → module_in (index_of t) p ≡ module_of t p
  module_is p there few = Inside.module_is t passed p there

  -- past the last row there is no field
  nothing-there : (i : ℕ) → row_count t ≤ i → is_kind t field_kind i ≡ false
  unfolding is_kind kind_at
  nothing-there i h = ap (λ (r : Row). eqb r.kind field_kind) (row_outside t i h)

  -- a guarded field is one of a type
  pub guarded-is : (y j : ℕ) → guarded_field t y j ≡ true → (y < (index_of t).types) × (guarded_in t (index_of t) y j ≡ true)
  unfolding guarded_field guarded_in field_row type_at
  guarded-is y j e = go (dec_lt y (index_of t).types)
    where
      parts : (every (λ (k : ℕ). is_kind t field_kind (type_row t y + 1 + k)) (suc j) ≡ true) × (eqb (row_at t (type_row t y + 1 + j)).c 1 ≡ true)
      parts = and_both _ _ e

      go : Dec (y < (index_of t).types) → (y < (index_of t).types) × (eqb (row_at t ((type_in (index_of t) y).row + 1 + j)).c 1 ≡ true)
      go (yes l) = (l, rw (type-is y l) parts.1)
      go (no l) =
          let r : type_row t y ≡ row_count t = nth-none (is_kind t type_kind) (row_count t) y (omega (arith, types_are)) in
          absurd (true≢false (sym (every-at (λ (k : ℕ). is_kind t field_kind (type_row t y + 1 + k)) (suc j) 0 parts.0 (omega arith)) ∙ nothing-there (type_row t y + 1 + 0) (omega (arith, r))))

  -- Modules. The first row is one
  first_module : 0 < row_count t → is_kind t module_kind 0 ≡ true
  unfolding is_kind kind_at fault_at misplaced above_at
  first_module h = eq-eqb (row_at t 0).kind 1 (first_kind (row_at t 0).kind (not-false _ ((faultless (above_at t 0) (row_at t 0)).0 (fine 0 h)).placed))

  -- so there is one above every other row, and the nearest is the one that is counted
  Above-is : ℕ → Type 0
  Above-is i = (0 < count (is_kind t module_kind) i) × (module_above t i ≡ module_row t (count (is_kind t module_kind) i - 1)) × (is_kind t module_kind (module_above t i) ≡ true) × (module_above t i < row_count t)

  above-next : (i : ℕ) (b : Bool) → i < indexed_rows t → is_kind t module_kind i ≡ b → (b ≡ false → Above-is i) → Above-is (suc i)
  unfolding Above-is module_above
  above-next i true h k ih =
      let c : count (is_kind t module_kind) (suc i) ≡ count (is_kind t module_kind) i + 1 = rw add-one at (count_yes (is_kind t module_kind) i k) in
      let e : count (is_kind t module_kind) (suc i) - 1 ≡ count (is_kind t module_kind) i = omega (arith, c) in
      (omega (arith, c), rw (k, e) (sym (module_here t fine i h k)), rw k k, rw k (omega arith))
  above-next i false h k ih =
      let c : count (is_kind t module_kind) (suc i) ≡ count (is_kind t module_kind) i = rw add-one at (count_no (is_kind t module_kind) i k) in
      rw (k, c) (ih refl)

  above-is : (i : ℕ) → i < indexed_rows t → Above-is (suc i)
  above-is zero h = above-next 0 (is_kind t module_kind 0) h refl (λ e. absurd (true≢false (sym (first_module (omega arith)) ∙ e)))
  above-is (suc i) h = above-next (suc i) (is_kind t module_kind (suc i)) h refl (λ e. above-is i (omega arith))

  -- whether a row stands in a guest is told by the module that the index has for it
  pub guest-row : (i : ℕ) → 0 < i → i ≤ indexed_rows t → in_guest t i ≡ not (eqb (row_at t (module_row t (owner_at t i))).a 1)
  unfolding in_guest owner_at Above-is
  guest-row zero l h = absurd (omega arith)
  guest-row (suc i) l h =
      let z = above-is i (omega arith) in
      let k : kind_at t (module_above t (suc i)) ≡ module_kind = hit_kind t module_kind (module_above t (suc i)) z.2 in
      rw (← z.1) (two-values (row_at t (module_above t (suc i))).a (row_trust t fine (module_above t (suc i)) z.3 k))

  -- a procedure's row is one of its kind, below the first
  pub procedure-below : (p : ℕ) → p < (index_of t).procedures → (0 < procedure_row t p) × (procedure_row t p < indexed_rows t)
  unfolding procedure_row index_of
  procedure-below p there =
      let there' : p < count (is_kind t procedure_kind) (row_count t) = rw covers at there in
      let l = nth-below (is_kind t procedure_kind) (row_count t) p there' in
      let k = hit_kind t procedure_kind (nth (is_kind t procedure_kind) (row_count t) p) (nth-hit (is_kind t procedure_kind) (row_count t) p there') in
      (go (nth (is_kind t procedure_kind) (row_count t) p) k l, omega (arith, covers, l))
    where
      go : (r : ℕ) → kind_at t r ≡ procedure_kind → r < row_count t → 0 < r
      go zero k l = absurd (omega (arith, k, hit_kind t module_kind 0 (first_module l)))
      go (suc r) k l = omega arith

  -- whether a procedure is a guest's
  pub guest-is : (p : ℕ) → p < (index_of t).procedures → p < 128 → guest_in t (index_of t) p ≡ guest t p
  unfolding in_trusted module_row index_of
  guest-is p there few =
      let r = procedure-below p there in
      ap (λ (o : ℕ). not (eqb (row_at t (module_row t o)).a 1)) (module_is p there few) ∙ sym (guest-row (procedure_row t p) r.0 (omega (arith, r.1)))
