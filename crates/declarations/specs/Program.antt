-- What a table declares, as its index and its rows tell it: kinds of values, fields, parameters, locals, results and instructions.
-- All of it is defined for any bytes; what document 01 says of it holds of tables that the names pass accepts.
use Rattle.std.specs.Prelude.{ℕ, zero, suc, ◌+◌, ◌-◌, ◌*◌, ◌%◌, ◌<◌, ◌≤◌, Bool, false, not, ◌&&◌, ◌||◌, List, [], ◌∷◌, ◌≡◌, eqb, leb, get_or, take, length}
use Rattle.laws.specs.First.{first_fault}
use Rattle.laws.specs.Lists.{find, tabulate}
use Rattle.table.specs.declared.Row.{Row}
use Rattle.table.specs.Verdicts.{Verdict, Accepted, Refused, and_then}
use Rattle.table.specs.declared.index.Index.{Index}
use Rattle.table.specs.declared.index.TypeEntry.{TypeEntry}
use Rattle.table.specs.declared.index.ProcedureEntry.{ProcedureEntry}
use Rattle.table.specs.Format.{number_sort, record_sort, number_reference, record_reference, number_reader, record_reader, op_branch, op_branch_cond, max_locals, max_instructions}
use Rattle.table.specs.Flags
use Rattle.table.specs.Rows.{row_at, row_count}
use Rattle.table.specs.Index.{no_type, no_procedure}
use Rattle.table.specs.Procedures.{part_of}

-- A kind is a sort and a type in one number: eight times the type, and the sort.
abbrev pub kind_of : ℕ → ℕ → ℕ
kind_of sort type = 8 * type + sort

-- a number, a record of type y, a reference to a number, a reference to a record of type y
abbrev pub number : ℕ
number = kind_of number_sort 0

abbrev pub record_of : ℕ → ℕ
record_of y = kind_of record_sort y

abbrev pub number_ref : ℕ
number_ref = kind_of number_reference 0

abbrev pub record_ref : ℕ → ℕ
record_ref y = kind_of record_reference y

-- a reference to what a number or record kind names; the read-only reference to what such a reference leads to
abbrev pub reference_to : ℕ → ℕ
reference_to k = k + 2

abbrev pub frozen : ℕ → ℕ
frozen k = k + 2

-- a read-only reference to a number, and to a record of type y
abbrev pub number_read : ℕ
number_read = kind_of number_reader 0

abbrev pub record_read : ℕ → ℕ
record_read y = kind_of record_reader y

-- whether a kind is a record, a reference, or a reference that can be written through

unfoldable pub is_record : ℕ → Bool
is_record k = eqb (k % 8) record_sort

unfoldable pub is_reference : ℕ → Bool
is_reference k = leb number_reference (k % 8)

unfoldable pub is_writable : ℕ → Bool
is_writable k = is_reference k && leb (k % 8) record_reference

-- the kind that a field, local or result row declares: A is the sort, B the type
unfoldable pub row_kind : Row → ℕ
row_kind row = kind_of row.a row.b

-- the kinds that the n rows from row i on declare
unfoldable pub kinds_from : List ℕ → ℕ → ℕ → List ℕ
kinds_from t i zero = []
kinds_from t i (suc n) = row_kind (row_at t i) ∷ kinds_from t (i + 1) n

-- those of the rows from `from` to before `to`
unfoldable pub kinds_of : List ℕ → ℕ → ℕ → List ℕ
kinds_of t from to = kinds_from t from (to - from)

-- type y and procedure p
unfoldable pub type_in : Index → ℕ → TypeEntry
type_in ix y = get_or ix.type_entries y no_type

unfoldable pub procedure_in : Index → ℕ → ProcedureEntry
procedure_in ix p = get_or ix.procedure_entries p no_procedure

-- the fields of a type: how many there are, their kinds, and the row of field f
unfoldable pub field_count : TypeEntry → ℕ
field_count y = y.end - (y.row + 1)

unfoldable pub field_kinds : List ℕ → TypeEntry → List ℕ
field_kinds t y = kinds_of t (y.row + 1) y.end

unfoldable pub field_row : TypeEntry → ℕ → ℕ
field_row y f = y.row + 1 + f

-- the locals of a procedure: how many there are, and the kind of local l
unfoldable pub local_count : ProcedureEntry → ℕ
local_count p = p.results - (p.row + 1)

unfoldable pub local_kind : List ℕ → ProcedureEntry → ℕ → ℕ
local_kind t p l = row_kind (row_at t (p.row + 1 + l))

-- the parameters stand first among the locals: the row after the last, how many there are, and their kinds
unfoldable pub is_parameter : List ℕ → ℕ → Bool
is_parameter t i = Flags.is_parameter (row_at t i)

unfoldable pub parameters_end : List ℕ → ProcedureEntry → ℕ
parameters_end t p = find (λ (i : ℕ). not (is_parameter t i)) (p.row + 1) (p.results - (p.row + 1))

unfoldable pub parameter_count : List ℕ → ProcedureEntry → ℕ
parameter_count t p = parameters_end t p - (p.row + 1)

unfoldable pub parameter_kinds : List ℕ → ProcedureEntry → List ℕ
parameter_kinds t p = kinds_of t (p.row + 1) (parameters_end t p)

-- the kinds of a procedure's results
unfoldable pub result_kinds : List ℕ → ProcedureEntry → List ℕ
result_kinds t p = kinds_of t p.results p.code

-- the instructions of a procedure, as the part of the table that starts at the first one, and how many there are
unfoldable pub code_of : List ℕ → ProcedureEntry → List ℕ
code_of t p = part_of t p.code p.end

unfoldable pub code_length : ProcedureEntry → ℕ
code_length p = p.end - p.code

-- instruction i of procedure q
abbrev pub instruction_in : List ℕ → Index → ℕ → ℕ → Row
instruction_in t ix q i = row_at (code_of t (procedure_in ix q)) i

-- A pass over instructions: `fault q p i` is the lowest number that instruction i of procedure q earns, whose entry is p; 0 for none. It goes through the
-- procedures in table order and through each one's instructions, so that it refuses at the lowest faulty row.
unfoldable pub code_verdict : (ℕ → ℕ) → ℕ → ℕ → Verdict
code_verdict fault start n = first_fault Accepted (λ (number i : ℕ). Refused number (start + i)) fault 0 n

unfoldable pub over_procedures : (ℕ → ProcedureEntry → ℕ → ℕ) → List ℕ → ℕ → List ProcedureEntry → Verdict
over_procedures fault t q [] = Accepted (row_count t)
over_procedures fault t q (p ∷ ps) = and_then (code_verdict (fault q p) p.code (row_count (code_of t p))) (over_procedures fault t (q + 1) ps)

unfoldable pub code_pass : (ℕ → ProcedureEntry → ℕ → ℕ) → Index → List ℕ → Verdict
code_pass fault ix t = over_procedures fault t 0 (take ix.procedures ix.procedure_entries)

-- Jumps: whether some one of the first n instructions of the code c jumps to instruction j, by Branch or BranchCond, reached or not
unfoldable pub jumps_to : Row → ℕ → Bool
jumps_to row j = (eqb row.a op_branch || eqb row.a op_branch_cond) && eqb row.b j

unfoldable pub target_below : List ℕ → ℕ → ℕ → Bool
target_below c j zero = false
target_below c j (suc n) = target_below c j n || jumps_to (row_at c n) j

unfoldable pub is_target : List ℕ → ℕ → Bool
is_target c j = target_below c j (row_count c)

-- marks by instruction number, with those that the first n instructions of the code c jump to
unfoldable pub target_marks : List ℕ → List Bool → ℕ → List Bool
target_marks c marks n = tabulate (λ (j : ℕ). get_or marks j false || target_below c j n) (length marks)

-- marks that tell the jump targets of the code c, each below their length
pub record Marked (c : List ℕ) (marks : List Bool) : Type 0 where
  pub told : (j : ℕ) → j < length marks → get_or marks j false ≡ is_target c j

-- what the rows pass gives: a procedure has at most 16 locals and 256 instructions
pub record Sized (t : List ℕ) (ix : Index) : Type 0 where
  pub locals : (p : ℕ) → p < ix.procedures → local_count (procedure_in ix p) ≤ max_locals
  pub instructions : (p : ℕ) → p < ix.procedures → row_count (code_of t (procedure_in ix p)) ≤ max_instructions
