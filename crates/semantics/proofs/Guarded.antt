-- In an accepted table a guarded field is a number field, so every record of the type has a number there.
use Prim.Native.Nat.{ℕ, zero, suc, ◌+◌, ◌<◌, ◌≤◌}
use mathlib.Core.Path.{◌≡◌, refl, ap, ◌∙◌}
use mathlib.Core.Bool.{true, false, not, ◌&&◌, ◌||◌}
use mathlib.Core.List.{List}
use mathlib.Core.Option.{Option, some}
use native.Mathlib.Omega.{arith}
use native.Mathlib.Decide.{dec_lt}
use native.Mathlib.Nat.{add-zero}
use borrow.Author.Tests.{eqb-true, not-false}
use lib.Dec.{eqb}
use lib.ListN.{get_elem? as nth}
use Rattle.laws.specs.Lists.{member, every}
use Rattle.laws.proofs.Lists.{every-at}
use Rattle.laws.proofs.Tests.{and_both, neither}
use Rattle.table.specs.declared.Row.{Row}
use Rattle.table.specs.Format.{field_kind}
use Rattle.table.specs.Rows.{row_count, row_at, kind_at, is_kind}
use Rattle.table.specs.Index.{indexed_rows, type_at, run_end}
use Rattle.table.proofs.Laws.{run-next, run_within, kind_outside}
use Rattle.declarations.specs.Program.{number, row_kind, field_kinds}
use Rattle.rows.specs.declared.Above.{Above}
use Rattle.rows.proofs.Faults.{faultless}
use Rattle.rows.specs.Rows.{fault_at, row_fault, unused_byte, bad_guard, uses_a, uses_b, uses_c, uses_d, used_with, uses, dirty, above_at}
use Rattle.judging.specs.Judging.{AcceptedTable}
use Rattle.acceptance.proofs.Stretches.{kind-at}
use Rattle.semantics.specs.Machine.{Cell, Entry, Frame}
use Rattle.semantics.specs.Words.{type_row, guarded_field, kinds_in, Exists, NumberIn}
use Rattle.semantics.specs.Claim.{Sound}
use Rattle.semantics.proofs.Worded.{fine, covers}
use Rattle.semantics.proofs.Consequences.{number-there}

-- a guarded field's row that the rows pass accepts declares a number
guard_sort : (s : Above) (row : Row) → row.kind ≡ 3 → row.c ≡ 1 → bad_guard s row ≡ false → row.a ≡ 0
unfolding bad_guard
guard_sort s row k c e = let z : not (eqb row.a 0 && s.trusted) ≡ false = rw (k, c) at e in eqb-true row.a 0 (and_both (eqb row.a 0) s.trusted (not-false (eqb row.a 0 && s.trusted) z)).0

no-type : (row : Row) → row.kind ≡ 3 → row.a ≡ 0 → uses_b row ≡ false
unfolding uses_b used_with uses member
no-type row k a = rw (k, a) refl

type-zero : (row : Row) → uses_b row ≡ false → unused_byte row ≡ false → row.b ≡ 0
unfolding unused_byte
type-zero row u e =
    let a = dirty (uses_a row) row.a in let b = dirty (uses_b row) row.b in let c = dirty (uses_c row) row.c in
    let w : dirty (uses_b row) row.b ≡ false = (neither a b (neither (a || b) c (neither (a || b || c) (dirty (uses_d row) row.d) e).0).0).1 in
    let z : not (eqb row.b 0) ≡ false = rw u at w in
    eqb-true row.b 0 (not-false (eqb row.b 0) z)

guard_kind : (s : Above) (row : Row) → row_fault s row ≡ 0 → row.kind ≡ 3 → row.c ≡ 1 → row_kind row ≡ number
unfolding row_kind
guard_kind s row e k c =
    let f = (faultless s row).0 e in
    let a = guard_sort s row k c f.guarded in
    omega (arith, a, type-zero row (no-type row k a) f.clean)

-- rows of one kind are before the run's end
run_far : (t : List ℕ) (n k i j : ℕ) → i + j < n → ((m : ℕ) → m ≤ j → is_kind t k (i + m) ≡ true) → i + j < run_end t n k i
run_far t n k i zero l f = let z : is_kind t k i ≡ true = rw add-zero at (f 0 (omega arith)) in omega (arith, run-next t n k i (omega arith) z, (run_within t n k (i + 1) refl (omega arith)).0)
run_far t n k i (suc j) l f =
    let z : is_kind t k i ≡ true = rw add-zero at (f 0 (omega arith)) in
    let h = run_far t n k (i + 1) j (omega arith) (λ m q. rw (shift i m) (f (suc m) (omega arith))) in
    omega (arith, run-next t n k i (omega arith) z, h)
  where
    shift : (i m : ℕ) → i + 1 + m ≡ i + suc m
    shift i m = omega arith

module _ (t : List ℕ) (a : AcceptedTable t) where
  -- a guarded field is a number field
  pub guarded-number : (y j : ℕ) → guarded_field t y j ≡ true → nth (kinds_in t y) j ≡ some number
  unfolding guarded_field field_kinds type_at fault_at kind_at is_kind
  guarded-number y j e =
      let parts = and_both (every (λ (k : ℕ). is_kind t field_kind (type_row t y + 1 + k)) (suc j)) (eqb (row_at t (type_row t y + 1 + j)).c 1) e in
      let fields : (m : ℕ) → m ≤ j → is_kind t field_kind (type_row t y + 1 + m) ≡ true = λ m l. every-at (λ (k : ℕ). is_kind t field_kind (type_row t y + 1 + k)) (suc j) m parts.0 (omega arith) in
      let field : kind_at t (type_row t y + 1 + j) ≡ field_kind = eqb-true _ _ (fields j (omega arith)) in
      let below = inside (type_row t y + 1 + j) field in
      let far = run_far t (indexed_rows t) field_kind (type_row t y + 1) j (omega (arith, covers t a, below)) fields in
      kind-at t (type_row t y + 1) (run_end t (indexed_rows t) field_kind (type_row t y + 1)) j (omega (arith, far))
      ∙ ap {B = Option ℕ} some (guard_kind (above_at t (type_row t y + 1 + j)) (row_at t (type_row t y + 1 + j)) (fine t a (type_row t y + 1 + j) below) field (eqb-true _ _ parts.1))
    where
      inside : (i : ℕ) → kind_at t i ≡ field_kind → i < row_count t
      inside i k = go (dec_lt i (row_count t))
        where
          go : Dec (i < row_count t) → i < row_count t
          go (yes l) = l
          go (no l) = absurd (omega (arith, k, kind_outside t i (omega arith)))

  -- so a record that exists has a number in each guarded field of its type
  pub guarded-there : {fs : List Frame} {rs : List Cell} {st : List Entry} → Sound t fs rs st → (c y j : ℕ) → Exists rs c y → guarded_field t y j ≡ true → (x : ℕ) × NumberIn rs c y j x
  guarded-there s c y j e g = number-there s c y j e (guarded-number y j g)
