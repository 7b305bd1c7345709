-- What the search looks up of each row of a table, by row number.
use Rattle.std.specs.Prelude.{ℕ, zero, suc, ◌+◌, ◌-◌, ◌<◌, ◌≡◌, Bool, false, cond, ◌&&◌, ◌||◌, List, eqb, ltb, leb, length, get_or, set}
use Rattle.laws.specs.Lists.{count}
use Rattle.table.specs.declared.Row.{Row}
use Rattle.table.specs.declared.index.Index.{Index}
use Rattle.table.specs.declared.index.TypeEntry.{TypeEntry}
use Rattle.table.specs.declared.index.ProcedureEntry.{ProcedureEntry}
use Rattle.table.specs.Format.{procedure_kind, instruction_kind, op_call, op_ret}
use Rattle.table.specs.Rows.{row_at, is_kind}
use Rattle.declarations.specs.Program.{number, procedure_in, parameter_count}
use Rattle.effects.specs.Effects.{effect_of}
use Rattle.operands.specs.Operands.{named_type}
use Rattle.helpers.specs.Tables.{is_private, is_helper, borrows_guarded}
use Rattle.entries.specs.declared.RowEntry.{RowEntry}

-- a row plus one, as an entry keeps it; 0 stands for none
unfoldable pub kept : ℕ → ℕ
kept row = cond (ltb row 65535) (row + 1) 0

-- the procedure whose own row gets the marks of what an instruction of p takes: the helper that it calls, or p where it is private and returns; its row, kept
unfoldable pub sends_to : List ℕ → ProcedureEntry → ProcedureEntry → Row → ℕ
sends_to t p callee row =
    cond (eqb row.a op_call && is_helper t p callee) (kept callee.row)
    (cond (eqb row.a op_ret && is_private t p) (kept p.row) 0)

-- the procedure that an instruction calls, plus one; 0 for none
unfoldable pub called_by : Row → ℕ
called_by row = cond (eqb row.a op_call) (kept row.b) 0

-- a procedure's own row: its parameters, its results, the row of its first instruction, and its number
unfoldable pub head_entry : List ℕ → ProcedureEntry → ℕ → RowEntry
head_entry t p q = record { takes = parameter_count t p; gives = p.code - p.results; base = p.code; sends = q; calls = 0 }

-- an instruction's row: what it takes and pushes, the row of its procedure's first instruction, where it sends marks, and what it calls
unfoldable pub code_entry : List ℕ → ProcedureEntry → TypeEntry → ProcedureEntry → Row → RowEntry
code_entry t p named callee row = record {
  takes = length (effect_of t p named callee row number).takes;
  gives = length (effect_of t p named callee row number).gives;
  base = p.code;
  sends = sends_to t p callee row;
  calls = called_by row;
}

abbrev pub no_entry : RowEntry
no_entry = record { takes = 0; gives = 0; base = 0; sends = 0; calls = 0 }

-- the entry of a row, with so many procedures above it: `head` is the next procedure, p the one before it, `named` the type that the row names, and `callee` the procedure that it calls
unfoldable pub entry_by : List ℕ → ℕ → ProcedureEntry → ProcedureEntry → TypeEntry → ProcedureEntry → Row → RowEntry
entry_by t above head p named callee row =
    cond (eqb row.kind procedure_kind) (head_entry t head above)
    (cond (eqb row.kind instruction_kind) (code_entry t p named callee row)
    no_entry)

-- what they are by the index
unfoldable pub entry_for : List ℕ → Index → ℕ → Row → RowEntry
entry_for t ix above row = entry_by t above (procedure_in ix above) (procedure_in ix (above - 1)) (named_type ix row) (procedure_in ix row.b) row

unfoldable pub entry_at : List ℕ → Index → ℕ → RowEntry
entry_at t ix row = entry_for t ix (count (is_kind t procedure_kind) row) (row_at t row)

-- the entries of the first n rows are these
pub record Filled (t : List ℕ) (ix : Index) (rows : List RowEntry) (n : ℕ) : Type 0 where
  pub entries-are : (r : ℕ) → r < n → get_or rows r no_entry ≡ entry_at t ix r

-- Call sites: the last of the first n rows that calls q, plus one; 0 for none
unfoldable pub last_call : List RowEntry → ℕ → ℕ → ℕ
last_call rows q zero = 0
last_call rows q (suc n) = cond (eqb (get_or rows n no_entry).calls (q + 1)) (suc n) (last_call rows q n)

-- the two arrays after row r, which calls this procedure, kept, is linked
unfoldable pub is_link : List ℕ → ℕ → Bool
is_link last called = ltb 0 called && leb called (length last)

unfoldable pub last_after : List ℕ → ℕ → ℕ → List ℕ
last_after last called r = cond (is_link last called) (set last (called - 1) (r + 1)) last

unfoldable pub before_after : List ℕ → List ℕ → ℕ → ℕ → List ℕ
before_after last before called r = cond (is_link last called) (set before r (get_or last (called - 1) 0)) before

-- for each procedure the last call site, and for each call site the one before it, of the first n rows
pub record Linked (rows : List RowEntry) (last before : List ℕ) (n : ℕ) : Type 0 where
  pub lasts : (q : ℕ) → q < length last → get_or last q 0 ≡ last_call rows q n
  pub befores : (r q : ℕ) → r < n → q < length last → (get_or rows r no_entry).calls ≡ q + 1 → get_or before r 0 ≡ last_call rows q r

-- whether some one of the first n instructions rows makes a mark of itself, reached or not
unfoldable pub makes_at : List ℕ → Index → ℕ → Bool
makes_at t ix row = is_kind t instruction_kind row && borrows_guarded t (named_type ix (row_at t row)) (row_at t row)

unfoldable pub makes_some : List ℕ → Index → ℕ → Bool
makes_some t ix zero = false
makes_some t ix (suc n) = makes_some t ix n || makes_at t ix n
