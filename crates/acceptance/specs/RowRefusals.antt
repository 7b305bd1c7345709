-- The refusals of the rows pass, said of a row's bytes and of the rows above it: what a row must have to earn its number. Nothing here is taken from the rule (`rows/specs/Rows`): document 01's
-- table of kinds and its limits are said a second time, and what the rule carries along from row to row is said of the rows themselves.
use Rattle.std.specs.Prelude.{ℕ, zero, suc, ◌+◌, ◌*◌, ◌<◌, ◌≤◌, ◌≡◌, Bool, true, false, ◌&&◌, ◌||◌, List, [], ◌∷◌, ◌++◌, ◌⊎◌, eqb, leb, get_or, replicate}
use Rattle.laws.specs.Lists.{member, count}
use Rattle.table.specs.declared.Row.{Row}
use Rattle.table.specs.Format.{row_bytes, module_kind, type_kind, field_kind, procedure_kind, local_kind, result_kind, instruction_kind, number_sort, past_sorts, op_load_const, op_op, past_opcodes, past_ops, max_modules, max_types, max_fields, max_procedures, max_locals, max_results, max_instructions}
use Rattle.table.specs.Rows.{row_count, row_at, kind_at, is_kind}
use Rattle.table.specs.Flags.{is_trusted, is_guarded, is_parameter}
use Rattle.table.specs.Refusals.{bad_place, over_limit, dirty_byte, wrong_value, wrong_guard}

abbrev pub between : ℕ → ℕ → ℕ → Bool
between low high a = leb a high && leb low a

-- a row of this kind may stand below one of kind `above`; 0 says that there is none above
unfoldable pub follows : ℕ → ℕ → Bool
follows kind above =
    (eqb kind module_kind && leb above 7)
    || (eqb kind type_kind && between 1 3 above)
    || (eqb kind field_kind && between 2 3 above)
    || (eqb kind procedure_kind && between 1 7 above)
    || (eqb kind local_kind && between 4 5 above)
    || (eqb kind result_kind && between 4 6 above)
    || (eqb kind instruction_kind && between 4 7 above)

abbrev pub kind_above : List ℕ → ℕ → ℕ
kind_above t zero = 0
kind_above t (suc i) = kind_at t i

-- A is used in all rows but types. It is 0 or 1 in modules, fields and procedures, at most 5 in locals and results, at most 20 in instructions
unfoldable pub used_a : ℕ → Bool
used_a kind = member kind (module_kind ∷ field_kind ∷ procedure_kind ∷ local_kind ∷ result_kind ∷ instruction_kind ∷ [])

unfoldable pub over_a : ℕ → ℕ → Bool
over_a kind a =
    (member kind (module_kind ∷ field_kind ∷ procedure_kind ∷ []) && leb 2 a)
    || (member kind (local_kind ∷ result_kind ∷ []) && leb past_sorts a)
    || (eqb kind instruction_kind && leb past_opcodes a)

-- B is used by record fields, by locals and results of sorts 1, 3 and 5, by opcodes 2 to 5, 8 to 15 and 17 to 19, and in these rows beside an A that is not allowed
unfoldable pub used_b : ℕ → ℕ → Bool
used_b kind a =
    (eqb kind field_kind && leb 1 a)
    || (member kind (local_kind ∷ result_kind ∷ []) && (leb past_sorts a || member a (1 ∷ 3 ∷ 5 ∷ [])))
    || (eqb kind instruction_kind && (leb past_opcodes a || between 2 5 a || between 8 15 a || between 17 19 a))

-- C is used by fields and locals
unfoldable pub used_c : ℕ → Bool
used_c kind = member kind (field_kind ∷ local_kind ∷ [])

-- D is used by opcode 1, and beside an opcode that is not allowed
unfoldable pub used_d : ℕ → ℕ → Bool
used_d kind a = eqb kind instruction_kind && (leb past_opcodes a || eqb a op_load_const)

-- which of a row's sixteen bytes are used: the kind, A, two of B, four of C, eight of D
abbrev pub used_bytes : ℕ → ℕ → List Bool
used_bytes kind a = true ∷ used_a kind ∷ (replicate 2 (used_b kind a) ++ (replicate 4 (used_c kind) ++ replicate 8 (used_d kind a)))

-- Row i of a table.
module _ (t : List ℕ) (i : ℕ) where
  abbrev here : Row
  here = row_at t i

  -- a byte of it that is not used and not zero
  abbrev pub DirtyByte : Type 0
  DirtyByte = (o : ℕ) × (get_or (used_bytes here.kind here.a) o true ≡ false) × (get_or t (row_bytes * i + o) 0 ≡ 0 → ⊥)

  -- as many rows of kind k as the limit stand above it: in the table; since the last row of kind `new`
  abbrev pub InTable : ℕ → ℕ → Type 0
  InTable k limit = limit ≤ count (is_kind t k) i

  abbrev pub Since : ℕ → ℕ → ℕ → Type 0
  Since new k limit = (j : ℕ) × (j ≤ i) × ((m : ℕ) → j ≤ m → m < i → kind_at t m ≡ new → ⊥) × (limit + count (is_kind t k) j ≤ count (is_kind t k) i)

  -- there are 16 modules, 64 types, 128 procedures in the table above it; 8 fields of its type; 16 locals, 4 results, 256 instructions of its procedure
  pub data Full : Type 0 where
    modules : here.kind ≡ module_kind → InTable module_kind max_modules → Full
    types : here.kind ≡ type_kind → InTable type_kind max_types → Full
    fields : here.kind ≡ field_kind → Since type_kind field_kind max_fields → Full
    procedures : here.kind ≡ procedure_kind → InTable procedure_kind max_procedures → Full
    locals : here.kind ≡ local_kind → Since procedure_kind local_kind max_locals → Full
    results : here.kind ≡ result_kind → Since procedure_kind result_kind max_results → Full
    instructions : here.kind ≡ instruction_kind → Since procedure_kind instruction_kind max_instructions → Full

  -- row j above it is of kind k, and no row between them is of kind `new`
  pub record RowAbove (k new j : ℕ) : Type 0 where
    pub above : j < i
    pub kind : kind_at t j ≡ k
    pub between-them : (m : ℕ) → j < m → m < i → kind_at t m ≡ new → ⊥

  -- its module, the nearest above it, is trusted; some local above it in its procedure is no parameter
  abbrev pub InTrusted : Type 0
  InTrusted = (j : ℕ) × RowAbove module_kind module_kind j × (is_trusted (row_at t j) ≡ true)

  abbrev pub AfterOther : Type 0
  AfterOther = (j : ℕ) × RowAbove local_kind procedure_kind j × (is_parameter (row_at t j) ≡ false)

  -- 2: its kind may not follow that of the row above. 3: there are already as many as may be. 4: a byte that is not used and not zero. 18: A out of range; C over 1 in a field or local; a parameter below another local; Op over 3.
  -- 19: a guard on a record field; a guard outside trusted modules
  pub data RowCause : ℕ → Type 0 where
    not_there : follows here.kind (kind_above t i) ≡ false → RowCause bad_place
    one-too-many : Full → RowCause over_limit
    dirty : DirtyByte → RowCause dirty_byte
    wrong-a : over_a here.kind here.a ≡ true → RowCause wrong_value
    wrong-c : (here.kind ≡ field_kind) ⊎ (here.kind ≡ local_kind) → 1 < here.c → RowCause wrong_value
    late : here.kind ≡ local_kind → is_parameter here ≡ true → AfterOther → RowCause wrong_value
    wrong-op : here.kind ≡ instruction_kind → here.a ≡ op_op → past_ops ≤ here.b → RowCause wrong_value
    guarded-record : here.kind ≡ field_kind → is_guarded here ≡ true → (here.a ≡ number_sort → ⊥) → RowCause wrong_guard
    guarded-outside : here.kind ≡ field_kind → is_guarded here ≡ true → (InTrusted → ⊥) → RowCause wrong_guard

-- a row of the table earns a number
abbrev pub EarnsRow : List ℕ → ℕ → ℕ → Type 0
EarnsRow t number i = (i < row_count t) × RowCause t i number
