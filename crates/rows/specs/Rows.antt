-- The length pass and the rows pass: refusals 1 to 4 of document 01, 18 and 19 of document 02.
use Rattle.std.specs.Prelude.{ℕ, zero, suc, ◌+◌, ◌*◌, ◌%◌, ◌≡◌, Bool, false, cond, not, ◌&&◌, ◌||◌, List, [], ◌∷◌, eqb, leb, ltb, length, get_or}
use Rattle.laws.specs.Lists.{member, none}
use Rattle.table.specs.declared.Row.{Row}
use Rattle.table.specs.Verdicts.{Verdict, Accepted, Refused, pass_over, and_then}
use Rattle.table.specs.Format.{row_bytes, module_kind, type_kind, field_kind, procedure_kind, local_kind, result_kind, instruction_kind, number_sort, op_op, max_rows, max_modules, max_types, max_fields, max_procedures, max_locals, max_results, max_instructions, past_sorts, typed_sorts, past_opcodes, past_ops}
use Rattle.table.specs.Rows.{row_count, row_at}
use Rattle.table.specs.Flags.{is_trusted, is_guarded, is_parameter}
use Rattle.table.specs.Refusals.{bad_length, bad_place, over_limit, dirty_byte, wrong_value, wrong_guard}
use Rattle.rows.specs.declared.Above.{Above}

-- 1: no bytes, a length that is not a multiple of 16, or more than 2,048 rows
unfoldable pub length_of : List ℕ → Verdict
length_of t =
    cond (eqb (length t) 0 || not (eqb (length t % row_bytes) 0) || ltb (row_bytes * max_rows) (length t))
    (Refused bad_length 0)
    (Accepted (row_count t))

-- The table of kinds. Each list below has an entry for each kind, from 0, which is none, to 7.

-- "may follow kinds"; 0 says that the row may stand first
unfoldable pub may_follow : List (List ℕ)
may_follow =
    []
    ∷ (0 ∷ 1 ∷ 2 ∷ 3 ∷ 4 ∷ 5 ∷ 6 ∷ 7 ∷ [])
    ∷ (1 ∷ 2 ∷ 3 ∷ [])
    ∷ (2 ∷ 3 ∷ [])
    ∷ (1 ∷ 2 ∷ 3 ∷ 4 ∷ 5 ∷ 6 ∷ 7 ∷ [])
    ∷ (4 ∷ 5 ∷ [])
    ∷ (4 ∷ 5 ∷ 6 ∷ [])
    ∷ (4 ∷ 5 ∷ 6 ∷ 7 ∷ [])
    ∷ []

-- the kinds whose rows are numbered anew below a row of each kind: fields within their type, locals, results and instructions within their procedure
unfoldable pub owned : List (List ℕ)
owned =
    []
    ∷ []
    ∷ (field_kind ∷ [])
    ∷ []
    ∷ (local_kind ∷ result_kind ∷ instruction_kind ∷ [])
    ∷ []
    ∷ []
    ∷ []
    ∷ []

-- at most so many rows of each kind in one owner
unfoldable pub limits : List ℕ
limits = 0 ∷ max_modules ∷ max_types ∷ max_fields ∷ max_procedures ∷ max_locals ∷ max_results ∷ max_instructions ∷ []

-- "Uses": A has the values below `values` (0: A has no use); B, C and D have a use with these values of A
pub record Use : Type 0 where
  pub values : ℕ
  pub with_b : List ℕ
  pub with_c : List ℕ
  pub with_d : List ℕ

abbrev pub unused : Use
unused = record { values = 0; with_b = []; with_c = []; with_d = [] }

unfoldable pub uses : List Use
uses =
    unused
    -- module: 1 trusted, 0 guest
    ∷ record { values = 2; with_b = []; with_c = []; with_d = [] }
    -- type
    ∷ unused
    -- field: 0 number, 1 record; B the type of a record; C 1 guarded, else 0
    ∷ record { values = 2; with_b = 1 ∷ []; with_c = 0 ∷ 1 ∷ []; with_d = [] }
    -- procedure: 1 public, 0 private
    ∷ record { values = 2; with_b = []; with_c = []; with_d = [] }
    -- local: sort; B the type of sorts that have one; C 1 parameter, else 0
    ∷ record { values = past_sorts; with_b = typed_sorts; with_c = 0 ∷ 1 ∷ 2 ∷ 3 ∷ 4 ∷ 5 ∷ []; with_d = [] }
    -- result: sort; B the type of sorts that have one
    ∷ record { values = past_sorts; with_b = typed_sorts; with_c = []; with_d = [] }
    -- instruction: opcode; B the operand; D the constant of opcode 1
    ∷ record { values = past_opcodes; with_b = 2 ∷ 3 ∷ 4 ∷ 5 ∷ 8 ∷ 9 ∷ 10 ∷ 11 ∷ 12 ∷ 13 ∷ 14 ∷ 15 ∷ 17 ∷ 18 ∷ 19 ∷ []; with_c = []; with_d = 1 ∷ [] }
    ∷ []

abbrev pub use_of : ℕ → Use
use_of kind = get_or uses kind unused

-- whether a byte that is used with the values `values` of A is used in a row with this A; if A itself is not allowed, bytes that some allowed A uses count as used
unfoldable pub used_with : ℕ → ℕ → List ℕ → Bool
used_with allowed a values = cond (ltb a allowed) (member a values) (not (none values))

-- What stands above a row: the kind of the row right above, 0 for none; the number of rows of each kind in the same owner; whether the module is
-- trusted; whether some local of the procedure is no parameter.

abbrev pub nothing : Above
nothing = record { kind = 0; modules = 0; types = 0; fields = 0; procedures = 0; locals = 0; results = 0; instructions = 0; trusted = false; other = false }

-- the count of rows of kind k below a row of this kind, where it was n above
unfoldable pub count_below : ℕ → ℕ → ℕ → ℕ
count_below k kind n = cond (eqb kind k) (n + 1) (cond (member k (get_or owned kind [])) 0 n)

unfoldable pub below_row : Above → Row → Above
below_row s row = record {
  kind = row.kind;
  modules = count_below module_kind row.kind s.modules;
  types = count_below type_kind row.kind s.types;
  fields = count_below field_kind row.kind s.fields;
  procedures = count_below procedure_kind row.kind s.procedures;
  locals = count_below local_kind row.kind s.locals;
  results = count_below result_kind row.kind s.results;
  instructions = count_below instruction_kind row.kind s.instructions;
  trusted = cond (eqb row.kind module_kind) (is_trusted row) s.trusted;
  other = cond (eqb row.kind procedure_kind) false ((eqb row.kind local_kind && not (is_parameter row)) || s.other);
}

unfoldable pub above_at : List ℕ → ℕ → Above
above_at t zero = nothing
above_at t (suc i) = below_row (above_at t i) (row_at t i)

-- the number of rows of this kind above, in the same owner
unfoldable pub count_of : Above → ℕ → ℕ
count_of s kind = get_or (0 ∷ s.modules ∷ s.types ∷ s.fields ∷ s.procedures ∷ s.locals ∷ s.results ∷ s.instructions ∷ []) kind 0

-- The faults of a row.

-- 2: kind unknown, row 0 not a module, or kind not allowed after the row above
unfoldable pub misplaced : Above → Row → Bool
misplaced s row = not (member s.kind (get_or may_follow row.kind []))

-- 3: a count limit passed by this row
unfoldable pub too_many : Above → Row → Bool
too_many s row = leb (get_or limits row.kind 0) (count_of s row.kind)

-- whether A, B, C and D are used in a row
unfoldable pub uses_a : Row → Bool
uses_a row = ltb 0 (use_of row.kind).values

unfoldable pub uses_b : Row → Bool
uses_b row = used_with (use_of row.kind).values row.a (use_of row.kind).with_b

unfoldable pub uses_c : Row → Bool
uses_c row = used_with (use_of row.kind).values row.a (use_of row.kind).with_c

unfoldable pub uses_d : Row → Bool
uses_d row = used_with (use_of row.kind).values row.a (use_of row.kind).with_d

-- a part of a row that has no use and is not zero
abbrev pub dirty : Bool → ℕ → Bool
dirty used x = not used && not (eqb x 0)

-- 4: an unused byte is not zero
unfoldable pub unused_byte : Row → Bool
unused_byte row = dirty (uses_a row) row.a || dirty (uses_b row) row.b || dirty (uses_c row) row.c || dirty (uses_d row) row.d

-- C over 1; a parameter after another local; Op over 3
abbrev pub bad_c : Row → Bool
bad_c row = uses_c row && ltb 1 row.c

abbrev pub late_parameter : Above → Row → Bool
late_parameter s row = eqb row.kind local_kind && is_parameter row && s.other

abbrev pub bad_op : Row → Bool
bad_op row = eqb row.kind instruction_kind && eqb row.a op_op && leb past_ops row.b

-- 18: a value not allowed: A past its values, C over 1, a parameter after another local, Op over 3
unfoldable pub bad_value : Above → Row → Bool
bad_value s row =
    (uses_a row && leb (use_of row.kind).values row.a)
    || bad_c row
    || late_parameter s row
    || bad_op row

-- 19: a guard misplaced: only number fields of trusted modules may be guarded
unfoldable pub bad_guard : Above → Row → Bool
bad_guard s row = eqb row.kind field_kind && is_guarded row && not (eqb row.a number_sort && s.trusted)

-- the lowest number that a row earns below what stands above it, 0 for none
unfoldable pub row_fault : Above → Row → ℕ
row_fault s row =
    cond (misplaced s row) bad_place
    (cond (too_many s row) over_limit
    (cond (unused_byte row) dirty_byte
    (cond (bad_value s row) wrong_value
    (cond (bad_guard s row) wrong_guard 0))))

-- a row without fault: none of the five tests holds
pub record Faultless (s : Above) (row : Row) : Type 0 where
  pub placed : misplaced s row ≡ false
  pub within : too_many s row ≡ false
  pub clean : unused_byte row ≡ false
  pub allowed : bad_value s row ≡ false
  pub guarded : bad_guard s row ≡ false

unfoldable pub fault_at : List ℕ → ℕ → ℕ
fault_at t i = row_fault (above_at t i) (row_at t i)

-- the rows pass: 2, 3, 4, 18 or 19 at the lowest faulty row
unfoldable pub rows_of : List ℕ → Verdict
rows_of t = pass_over (fault_at t) (row_count t)

-- length, then rows
unfoldable pub form_of : List ℕ → Verdict
form_of t = and_then (length_of t) (rows_of t)
