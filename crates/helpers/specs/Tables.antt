-- The marks of a table: its procedures as the rounds see them, and the marking of guarded references that its smallest marks give.
use Rattle.std.specs.Prelude.{ℕ, ◌%◌, Bool, false, cond, not, ◌&&◌, List, [], eqb}
use Rattle.table.specs.declared.Row.{Row}
use Rattle.table.specs.declared.index.TypeEntry.{TypeEntry}
use Rattle.table.specs.declared.index.ProcedureEntry.{ProcedureEntry}
use Rattle.table.specs.Format.{op_borrow_fld, op_call}
use Rattle.table.specs.Flags.{is_guarded, is_public}
use Rattle.table.specs.Rows.{row_count, row_at}
use Rattle.table.specs.Index.{index_of}
use Rattle.declarations.specs.Program.{procedure_in, code_of, local_count, parameter_count, field_row}
use Rattle.flow.specs.Steps.{nexts}
use Rattle.steps.specs.Steps.{Marking, step_at}
use Rattle.helpers.specs.Marks.{Procedure, parameter_of, result_of}
use Rattle.helpers.specs.Rounds.{given_of}

-- whether BorrowFld borrows a guarded field
unfoldable pub borrows_guarded : List ℕ → TypeEntry → Row → Bool
borrows_guarded t named row = eqb row.a op_borrow_fld && is_guarded (row_at t (field_row named (row.b % 8)))

-- whether a procedure is private, and whether it is a helper of p: private and of the same module
unfoldable pub is_private : List ℕ → ProcedureEntry → Bool
is_private t p = not (is_public (row_at t p.row))

unfoldable pub is_helper : List ℕ → ProcedureEntry → ProcedureEntry → Bool
is_helper t p callee = is_private t callee && eqb callee.owner p.owner

-- Under marks m a walk's mark stands on a reference made by BorrowFld of a guarded field, read-only or not, on a parameter that starts marked, and on a result of a Call
-- that is marked; 13 and 14 ask of writable ones alone. Marks go with copies through locals alone, so that what Freeze gives is unmarked
abbrev pub marks_under : List ℕ → List Bool → Marking
marks_under t m = record {
  starts = parameter_of m;
  makes = λ (named : TypeEntry) (row : Row) (r : ℕ). cond (eqb row.a op_call) (result_of m row.b r) (borrows_guarded t named row);
  carries = λ (row : Row). false;
}

-- procedure q of a table
unfoldable pub procedure_of : List ℕ → ℕ → Procedure
procedure_of t q = record {
  next = nexts (code_of t (procedure_in (index_of t) q));
  step = step_at t (index_of t) (marks_under t []) (procedure_in (index_of t) q);
  params = parameter_count t (procedure_in (index_of t) q);
  locals = local_count (procedure_in (index_of t) q);
  size = row_count (code_of t (procedure_in (index_of t) q));
  is_private = is_private t (procedure_in (index_of t) q);
  helper = λ (i : ℕ). eqb (row_at (code_of t (procedure_in (index_of t) q)) i).a op_call && is_helper t (procedure_in (index_of t) q) (procedure_in (index_of t) (row_at (code_of t (procedure_in (index_of t) q)) i).b);
}

-- the marks of a table: of all its procedures, the smallest
unfoldable pub marks_in : List ℕ → List Bool
marks_in t = given_of (procedure_of t) (index_of t).procedures
