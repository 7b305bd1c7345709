-- What an accepted table gives for each type: at most 8 fields, each a number or a record of a lower type.
use Prim.Native.Nat.{ℕ, ◌+◌, ◌*◌, ◌%◌, ◌<◌, ◌≤◌}
use mathlib.Core.Path.{◌≡◌, refl, sym}
use mathlib.Core.Bool.{false}
use mathlib.Core.List.{List}
use mathlib.Core.Option.{some}
use native.Mathlib.Omega.{arith}
use borrow.Author.Tests.{lt-leb}
use lib.ListN.{length, get_elem? as nth}
use Rattle.laws.specs.Lists.{count}
use Rattle.laws.proofs.Lists.{count_yes}
use Rattle.table.specs.declared.Row.{Row}
use Rattle.table.specs.declared.index.TypeEntry.{TypeEntry}
use Rattle.table.specs.Format.{type_kind, field_kind, record_sort}
use Rattle.table.specs.Rows.{row_count, row_at, kind_at, is_kind}
use Rattle.table.specs.Index.{index_of, indexed_rows, type_at}
use Rattle.table.proofs.Laws.{is-kind, not-kind, type-within, type-fields}
use Rattle.declarations.specs.Program.{record_of, is_reference, row_kind, type_in, field_count, field_kinds, field_row}
use Rattle.names.specs.Names.{names_of}
use Rattle.names.proofs.Exist.{names-good}
use Rattle.steps.proofs.Laws.{length-kinds}
use Rattle.sizes.proofs.Sizes.{rows_fine}
use Rattle.sizes.proofs.Rows.{count-nth, count_stretch}
use Rattle.judging.specs.Judging.{AcceptedTable}
use Rattle.acceptance.proofs.Guest.{type_row, type-is, type-below, type-kind, field_end}
use Rattle.acceptance.specs.Judged.{Declared}
use Rattle.acceptance.proofs.Stretches.{kind-at, kind-there}
use Rattle.acceptance.proofs.Counts.{type-few, fields-few, row_sort}

-- a row of sort 0 or 1 declares no reference
sort_plain : (row : Row) → row.a < 2 → is_reference (row_kind row) ≡ false
unfolding is_reference row_kind
sort_plain row h = lt-leb 2 ((8 * row.b + row.a) % 8) (omega arith)

-- one that declares a record is of sort 1, and names its type
sort_record : (row : Row) (z : ℕ) → row.a < 2 → row_kind row ≡ record_of z → (row.a ≡ record_sort) × (row.b ≡ z)
unfolding row_kind
sort_record row z h e = omega (arith, e)

-- the fields of any type
module _ (t : List ℕ) (y : TypeEntry) where
  -- the kind of field j
  field-kind : (j : ℕ) → j < field_count y → nth (field_kinds t y) j ≡ some (row_kind (row_at t (field_row y j)))
  unfolding field_kinds field_count field_row
  field-kind j h = kind-at t (y.row + 1) y.end j h

  -- how many there are
  fields-length : length (field_kinds t y) ≡ field_count y
  unfolding field_kinds field_count
  fields-length = length-kinds t (y.row + 1) y.end

  -- a kind among them is that of a field
  field_found : (j k : ℕ) → nth (field_kinds t y) j ≡ some k → (j < field_count y) × (row_kind (row_at t (field_row y j)) ≡ k)
  unfolding field_kinds field_count field_row
  field_found j k e = kind-there t (y.row + 1) y.end j k e

-- field j of type y of an accepted table
module _ (t : List ℕ) (a : AcceptedTable t) (y j : ℕ) (there : y < (index_of t).types) (inside : j < field_count (type_in (index_of t) y)) where
  -- the type's row
  row : ℕ
  row = type_row t (rows_fine t (row_count t) a.by_rows) y j there inside

  -- the field's row
  field_row_lem : field_row (type_in (index_of t) y) j ≡ row + 1 + j
  unfolding field_row type_at row
  field_row_lem = rw (type-is t (rows_fine t (row_count t) a.by_rows) y j there inside)

  -- it is in the table
  field_below : row + 1 + j < row_count t
  unfolding row
  field_below =
      let r = type_row t (rows_fine t (row_count t) a.by_rows) y j there inside in
      let w = type-within t r refl (type-below t (rows_fine t (row_count t) a.by_rows) y j there inside) in
      omega (arith, w, field_end t (rows_fine t (row_count t) a.by_rows) y j there inside)

  -- the rows from below the type's row up to it are fields
  field-kinds : (i : ℕ) → row < i → i ≤ row + 1 + j → field_kind ≡ kind_at t i
  unfolding row
  field-kinds i lo hi =
      type-fields t (type_row t (rows_fine t (row_count t) a.by_rows) y j there inside) {j = i} lo
      (omega (arith, field_end t (rows_fine t (row_count t) a.by_rows) y j there inside))

  -- there are y types above the type's row
  type-count : count (is_kind t type_kind) row ≡ y
  unfolding row type_row index_of
  type-count = count-nth (is_kind t type_kind) (indexed_rows t) y there

  -- and y + 1 above the field's
  field-count : count (is_kind t type_kind) (row + 1 + j) ≡ y + 1
  unfolding row
  field-count =
      let c = count_stretch (is_kind t type_kind) (row + 1) (row + 1 + j) (omega arith)
      (λ i lo hi. not-kind t i type_kind (field-kinds i (omega arith) (omega arith)) (λ e. omega arith)) in
      let k = is-kind t row type_kind refl (type-kind t (rows_fine t (row_count t) a.by_rows) y j there inside) in
      omega (arith, c, count_yes (is_kind t type_kind) row k, type-count)

  -- its sort is 0 or 1
  field_sort : (row_at t (field_row (type_in (index_of t) y) j)).a < 2
  field_sort = rw field_row_lem (row_sort t (rows_fine t (row_count t) a.by_rows) (row + 1 + j) field_below (sym (field-kinds (row + 1 + j) (omega arith) (omega arith))))

  -- its type, if it is a record, is lower
  field-lower : (row_at t (field_row (type_in (index_of t) y) j)).a ≡ record_sort → (row_at t (field_row (type_in (index_of t) y) j)).b < y
  unfolding names_of
  field-lower e =
      let g = names-good t (index_of t) (row_count t) a.by_names (row + 1 + j) field_below in
      let l = g.lower (sym (field-kinds (row + 1 + j) (omega arith) (omega arith))) (rw field_row_lem at e) in
      rw field_row_lem (omega (arith, l, field-count))

-- type y of an accepted table
pub declared : (t : List ℕ) → AcceptedTable t → (y : ℕ) → y < (index_of t).types → Declared t (index_of t) y
declared t a y there = record {
  low = type-few t (rows_fine t (row_count t) a.by_rows) y there;
  few = fields-few t (rows_fine t (row_count t) a.by_rows) y there;
  field_at = field-kind t (type_in (index_of t) y);
  fields = fields-length t (type_in (index_of t) y);
  plain = λ j k e.
      let f = field_found t (type_in (index_of t) y) j k e in
      rw f.1 at (sort_plain (row_at t (field_row (type_in (index_of t) y) j)) (field_sort t a y j there f.0));
  lower = λ j z e.
      let f = field_found t (type_in (index_of t) y) j (record_of z) e in
      let s = sort_record (row_at t (field_row (type_in (index_of t) y) j)) z (field_sort t a y j there f.0) f.1 in
      rw s.1 at (field-lower t a y j there f.0 s.0);
}
