-- What the rows pass's limits and its tests of values give: types below 64, at most 8 fields, the opcode of an instruction, Op's operand, the sort of a field.
use Prim.Native.Nat.{ℕ, ◌+◌, ◌<◌, ◌≤◌}
use mathlib.Core.Path.{◌≡◌, refl, ◌∙◌}
use mathlib.Core.Bool.{Bool, false, ◌&&◌, ◌||◌}
use mathlib.Core.List.{List}
use mathlib.Mathlib.Data.Bool.Basic.{or-eq-false-eq-eq-false-and-eq-false as neither}
use native.Mathlib.Decide.{dec_lt}
use native.Mathlib.Omega.{arith}
use borrow.Author.Tests.{leb-false}
use lib.Dec.{eqb, leb, ltb}
use Rattle.laws.specs.Lists.{member, every}
use Rattle.table.specs.declared.Row.{Row}
use Rattle.table.specs.Format.{module_kind, type_kind, field_kind, local_kind, instruction_kind, op_op, past_opcodes, past_ops}
use Rattle.table.specs.Rows.{row_count, row_at, kind_at}
use Rattle.table.specs.Index.{index_of}
use Rattle.table.proofs.Laws.{type-within, type-fields}
use Rattle.declarations.specs.Program.{type_in, field_count}
use Rattle.rows.specs.declared.Above.{Above}
use Rattle.rows.specs.Rows.{fault_at, uses_a, uses_c, uses, use_of, bad_value, above_at, below_row, count_below, count_of, owned, limits}
use Rattle.sizes.proofs.Counts.{number-next, number_up, number-few, low, tests}
use Rattle.acceptance.proofs.Guest.{type_row, type-below, type-kind, field_end}

-- A table whose rows have no fault.
module _ (t : List ℕ) (fine : (i : ℕ) → i < row_count t → fault_at t i ≡ 0) where
  -- the number of a type is below 64
  pub type-few : (y : ℕ) → y < (index_of t).types → y < 64
  unfolding index_of above_at below_row limits count_of every owned member
  type-few y there = number-few t fine type_kind (λ (s : Above). s.types) (λ s row. refl) refl refl (λ s. refl) y there

  -- a field is below its limit
  field-low : (i : ℕ) → i < row_count t → 3 ≡ kind_at t i → (above_at t i).fields < 8
  unfolding count_of limits kind_at
  field-low i h q = rw (← q) at (low (above_at t i) (row_at t i) (tests t fine i h).within)

  -- below a type's row there is no field yet
  no_field : (r : ℕ) → kind_at t r ≡ type_kind → (above_at t (r + 1)).fields ≡ 0
  unfolding count_below owned member below_row
  no_field r k = number-next field_kind (λ (s : Above). s.fields) (λ s row. refl) t r ∙ rw k

  -- a type has at most 8 fields
  pub fields-few : (y : ℕ) → y < (index_of t).types → field_count (type_in (index_of t) y) ≤ 8
  unfolding below_row
  fields-few y there = go (dec_lt 8 (field_count (type_in (index_of t) y)))
    where
      go : Dec (8 < field_count (type_in (index_of t) y)) → field_count (type_in (index_of t) y) ≤ 8
      go (yes l) =
          let r = type_row t fine y 8 there l in
          let e = field_end t fine y 8 there l in
          let w = type-within t r refl (type-below t fine y 8 there l) in
          let z = no_field r (type-kind t fine y 8 there l) in
          let up = number_up field_kind (λ (s : Above). s.fields) (λ s row. refl) t (r + 1) 8 (λ j lo hi. type-fields t r {j = j} (omega arith) (omega (arith, e))) in
          let m = field-low (r + 1 + 8) (omega (arith, e, w)) (type-fields t r {j = r + 1 + 8} (omega arith) e) in
          absurd (omega (arith, z, up, m))
      go (no l) = omega arith

-- where none of four holds, neither the first nor the last does
ends-false : (a b c d : Bool) → (a || b || c || d) ≡ false → (a ≡ false) × (d ≡ false)
ends-false a b c d e =
    let f = (neither (a || b || c) d).0 e in
    let g = (neither (a || b) c).0 f.0 in
    (((neither a b).0 g.0).0, f.1)

-- what a row whose values are allowed does not have
value_tests : (s : Above) (row : Row) → bad_value s row ≡ false
    → ((uses_a row && leb (use_of row.kind).values row.a) ≡ false) × ((eqb row.kind instruction_kind && eqb row.a op_op && leb past_ops row.b) ≡ false)
unfolding bad_value
value_tests s row e = ends-false
    (uses_a row && leb (use_of row.kind).values row.a)
    (uses_c row && ltb 1 row.c)
    (eqb row.kind local_kind && eqb row.c 1 && s.other)
    (eqb row.kind instruction_kind && eqb row.a op_op && leb past_ops row.b)
    e

-- the opcode of an instruction
code-values : (s : Above) (row : Row) → bad_value s row ≡ false → row.kind ≡ instruction_kind → row.a < past_opcodes
unfolding uses_a uses
code-values s row e k = leb-false past_opcodes row.a (rw k at (value_tests s row e).0)

-- Op's operand
op-values : (s : Above) (row : Row) → bad_value s row ≡ false → row.kind ≡ instruction_kind → row.a ≡ op_op → row.b < past_ops
op-values s row e k o = leb-false past_ops row.b (rw (k, o) at (value_tests s row e).1)

-- the sort of a field, and whether a module is trusted
field-values : (s : Above) (row : Row) → bad_value s row ≡ false → row.kind ≡ field_kind → row.a < 2
unfolding uses_a uses
field-values s row e k = leb-false 2 row.a (rw k at (value_tests s row e).0)

module_values : (s : Above) (row : Row) → bad_value s row ≡ false → row.kind ≡ module_kind → row.a < 2
unfolding uses_a uses
module_values s row e k = leb-false 2 row.a (rw k at (value_tests s row e).0)

-- Row i of a table whose rows have no fault.
module _ (t : List ℕ) (fine : (i : ℕ) → i < row_count t → fault_at t i ≡ 0) (i : ℕ) (h : i < row_count t) where
  -- the opcode, if it is an instruction
  pub row-opcode : kind_at t i ≡ instruction_kind → (row_at t i).a < past_opcodes
  unfolding kind_at
  row-opcode k = code-values (above_at t i) (row_at t i) (tests t fine i h).allowed k

  -- the operand, if it is Op
  pub row-op : kind_at t i ≡ instruction_kind → (row_at t i).a ≡ op_op → (row_at t i).b < past_ops
  unfolding kind_at
  row-op k o = op-values (above_at t i) (row_at t i) (tests t fine i h).allowed k o

  -- the sort, if it is a field
  pub row_sort : kind_at t i ≡ field_kind → (row_at t i).a < 2
  unfolding kind_at
  row_sort k = field-values (above_at t i) (row_at t i) (tests t fine i h).allowed k

  -- A, if it is a module
  pub row_trust : kind_at t i ≡ module_kind → (row_at t i).a < 2
  unfolding kind_at
  row_trust k = module_values (above_at t i) (row_at t i) (tests t fine i h).allowed k
