-- The names pass: refusals 5 and 6 of document 01.
use Rattle.std.specs.Prelude.{ℕ, ◌-◌, ◌/◌, ◌%◌, Bool, false, cond, not, ◌&&◌, ◌||◌, List, [], ◌∷◌, eqb, leb, get_or}
use Rattle.laws.specs.Lists.{count}
use Rattle.table.specs.declared.Row.{Row}
use Rattle.table.specs.Verdicts.{Verdict, pass_over}
use Rattle.table.specs.declared.index.Index.{Index}
use Rattle.table.specs.declared.index.ProcedureEntry.{ProcedureEntry}
use Rattle.table.specs.declared.index.TypeEntry.{TypeEntry}
use Rattle.table.specs.Format.{type_kind, field_kind, procedure_kind, local_kind, result_kind, instruction_kind, record_sort, op_ret, op_branch}
use Rattle.table.specs.Flags.{has_type}
use Rattle.table.specs.Rows.{row_count, row_at, is_kind}
use Rattle.table.specs.Index.{index_of}
use Rattle.table.specs.Refusals.{open_end, not_declared}
use Rattle.declarations.specs.Program.{type_in, procedure_in, field_count, local_count, code_length}

-- what the operand B of an instruction names
pub data Named : Type 0 where
  nothing local_number field_number type_number procedure_number target : Named

-- by opcode
unfoldable pub names : List Named
names =
    -- Pop, LoadConst, MvLoc, CpLoc, StLoc, BorrowLoc, ReadRef, WriteRef
    nothing ∷ nothing ∷ local_number ∷ local_number ∷ local_number ∷ local_number ∷ nothing ∷ nothing
    -- BorrowFld, Pack, Unpack, MoveTo, MoveFrom, BorrowGlobal, Exists
    ∷ field_number ∷ type_number ∷ type_number ∷ type_number ∷ type_number ∷ type_number ∷ type_number
    -- Call, Ret, Branch, BranchCond, Op, Freeze
    ∷ procedure_number ∷ nothing ∷ target ∷ target ∷ nothing ∷ nothing ∷ []

-- whether field b % 8 of type b / 8, which is y, does not exist, where there are so many types
abbrev pub no_such_field : ℕ → TypeEntry → ℕ → Bool
no_such_field types y b = leb types (b / 8) || leb (field_count y) (b % 8)

-- whether what b names does not exist in procedure p, where there are so many types and procedures, and y is type b / 8
unfoldable pub missing : ℕ → ℕ → TypeEntry → ProcedureEntry → ℕ → Named → Bool
missing types procedures y p b nothing = false
missing types procedures y p b local_number = leb (local_count p) b
missing types procedures y p b field_number = no_such_field types y b
missing types procedures y p b type_number = leb types b
missing types procedures y p b procedure_number = leb procedures b
missing types procedures y p b target = leb (code_length p) b

-- 5: procedure without instructions, or last is not 16 or 17
unfoldable pub bad_end : List ℕ → ProcedureEntry → Bool
bad_end t p = leb p.end p.code || not (eqb (row_at t (p.end - 1)).a op_ret || eqb (row_at t (p.end - 1)).a op_branch)

-- 6: a field's type that is not lower than its own, where y types begin above
unfoldable pub not_lower : ℕ → Row → Bool
not_lower y row = eqb row.kind field_kind && eqb row.a record_sort && leb (y - 1) row.b

-- 6: the type of a local or a result does not exist
unfoldable pub no_such_type : ℕ → Row → Bool
no_such_type types row = (eqb row.kind local_kind || eqb row.kind result_kind) && has_type row.a && leb types row.b

-- 6: what an instruction names does not exist
unfoldable pub no_such_name : ℕ → ℕ → TypeEntry → ProcedureEntry → Row → Bool
no_such_name types procedures y p row = eqb row.kind instruction_kind && missing types procedures y p row.b (get_or names row.a nothing)

-- the lowest number that a row earns, 0 for none. There are so many types and procedures in all; `above` types begin above; `named` is type B / 8,
-- `own` the procedure that the row stands in, `starts` the one that starts at the row
unfoldable pub name_fault : List ℕ → ℕ → ℕ → ℕ → TypeEntry → ProcedureEntry → ProcedureEntry → Row → ℕ
name_fault t types procedures above named own starts row =
    cond (eqb row.kind procedure_kind && bad_end t starts) open_end
    (cond (not_lower above row) not_declared
    (cond (no_such_type types row) not_declared
    (cond (no_such_name types procedures named own row) not_declared 0)))

-- the same of row i of a table with this index
unfoldable pub fault_at : List ℕ → Index → ℕ → ℕ
fault_at t ix i =
    name_fault t ix.types ix.procedures (count (is_kind t type_kind) i) (type_in ix ((row_at t i).b / 8))
    (procedure_in ix (count (is_kind t procedure_kind) i - 1)) (procedure_in ix (count (is_kind t procedure_kind) i)) (row_at t i)

-- the names pass over a table with a given index, and with its own
unfoldable pub names_with : Index → List ℕ → Verdict
names_with ix t = pass_over (fault_at t ix) (row_count t)

unfoldable pub names_of : List ℕ → Verdict
names_of t = names_with (index_of t) t
