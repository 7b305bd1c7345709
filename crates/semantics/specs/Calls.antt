-- The call list: refusals 15 and 16 of document 01, and the calls of a good list.
use Rattle.std.specs.Prelude.{ℕ, zero, suc, ◌+◌, ◌-◌, ◌%◌, Bool, true, cond, not, ◌&&◌, ◌||◌, List, [], ◌∷◌, eqb, ltb, leb, length}
use Rattle.table.specs.declared.Row.{Row}
use Rattle.table.specs.Verdicts.{Verdict, Refused, pass_over}
use Rattle.table.specs.declared.index.Index.{Index}
use Rattle.table.specs.declared.index.ProcedureEntry.{ProcedureEntry}
use Rattle.table.specs.Format.{row_bytes}
use Rattle.table.specs.Rows.{row_count, row_at, is_kind}
use Rattle.table.specs.Flags
use Rattle.table.specs.Refusals
use Rattle.table.specs.Refusals.{bad_list}
use Rattle.declarations.specs.Program.{number, procedure_in, parameter_kinds, result_kinds}

-- kinds of list rows: a call (B procedure, C budget), one argument of the call above (D)
abbrev pub call_row : ℕ
call_row = 1

abbrev pub argument_row : ℕ
argument_row = 2

-- at most 256 rows; budgets from 1 to 65,535
abbrev pub max_list_bytes : ℕ
max_list_bytes = 4096

abbrev pub max_budget : ℕ
max_budget = 65535

-- a call's arguments: the rows of kind 2 from row i on, of the next `left`, up to the next row of another kind
unfoldable pub arguments : List ℕ → ℕ → ℕ → List ℕ
arguments l i zero = []
arguments l i (suc left) = cond (is_kind l argument_row i) ((row_at l i).d ∷ arguments l (i + 1) left) []

-- 15: a bad kind, an unused byte, or an argument first
unfoldable pub bad_kind : Row → Bool
bad_kind row = not (eqb row.kind call_row) && not (eqb row.kind argument_row)

unfoldable pub unused_byte : Row → Bool
unused_byte row =
    not (eqb row.a 0)
    || (eqb row.kind call_row && not (eqb row.d 0))
    || (eqb row.kind argument_row && not (eqb row.b 0 && eqb row.c 0))

unfoldable pub argument_first : Row → ℕ → Bool
argument_first row i = eqb row.kind argument_row && eqb i 0

-- whether all of these kinds are numbers
unfoldable pub all_numbers : List ℕ → Bool
all_numbers [] = true
all_numbers (k ∷ ks) = eqb k number && all_numbers ks

-- 16: no such public procedure, a parameter or result that is no number, a wrong number of arguments, or a budget out of range
abbrev pub is_public : List ℕ → ProcedureEntry → Bool
is_public t p = Flags.is_public (row_at t p.row)

unfoldable pub no_such_procedure : List ℕ → Index → ℕ → Bool
no_such_procedure t ix q = leb ix.procedures q || not (is_public t (procedure_in ix q))

unfoldable pub not_numbers : List ℕ → Index → ℕ → Bool
not_numbers t ix q = not (all_numbers (parameter_kinds t (procedure_in ix q)) && all_numbers (result_kinds t (procedure_in ix q)))

unfoldable pub wrong_count : List ℕ → Index → ℕ → List ℕ → Bool
wrong_count t ix q args = not (eqb (length args) (length (parameter_kinds t (procedure_in ix q))))

unfoldable pub bad_budget : ℕ → Bool
bad_budget budget = eqb budget 0 || ltb max_budget budget

unfoldable pub bad_call : List ℕ → Index → Row → List ℕ → Bool
bad_call t ix row args = no_such_procedure t ix row.b || not_numbers t ix row.b || wrong_count t ix row.b args || bad_budget row.c

-- the lowest number that row i of the list l earns, 0 for none
unfoldable pub list_fault : List ℕ → Index → List ℕ → ℕ → ℕ
list_fault t ix l i =
    cond (bad_kind (row_at l i) || unused_byte (row_at l i) || argument_first (row_at l i) i) bad_list
    (cond (eqb (row_at l i).kind call_row && bad_call t ix (row_at l i) (arguments l (i + 1) (row_count l - (i + 1)))) Refusals.bad_call
    0)

-- the list's verdict: its length first, then its lowest faulty row
unfoldable pub list_of : List ℕ → Index → List ℕ → Verdict
list_of t ix l = cond (ltb max_list_bytes (length l) || not (eqb (length l % row_bytes) 0)) (Refused bad_list 0) (pass_over (list_fault t ix l) (row_count l))

-- a call: its procedure, its budget and its arguments
pub data Call : Type 0 where
  call : (procedure budget : ℕ) → (arguments : List ℕ) → Call

-- the calls of the rows from i on, of the next `left`
unfoldable pub calls_from : List ℕ → ℕ → ℕ → List Call
calls_from l i zero = []
calls_from l i (suc left) =
    let later = calls_from l (i + 1) left in
    cond (is_kind l call_row i) (call (row_at l i).b (row_at l i).c (arguments l (i + 1) left) ∷ later) later

unfoldable pub calls_of : List ℕ → List Call
calls_of l = calls_from l 0 (row_count l)
