-- A call within its budget, for any table, index, state and cells.
use Rattle.std.specs.Prelude.{ℕ, zero, suc, ◌%◌, Bool, true, false, cond, ◌||◌, List, eqb, get_or}
use Rattle.table.specs.declared.Row.{Row}
use Rattle.table.specs.declared.index.Index.{Index}
use Rattle.table.specs.declared.index.TypeEntry.{TypeEntry}
use Rattle.table.specs.declared.index.ProcedureEntry.{ProcedureEntry}
use Rattle.table.specs.Format.{op_write_ref, op_pack, op_unpack, op_move_to, op_move_from}
use Rattle.table.specs.Index.{no_type, no_procedure}
use Rattle.table.specs.Rows.{row_at}
use Rattle.declarations.specs.Program.{code_of}
use Rattle.state.specs.declared.Operand.{Operand}
use Rattle.state.specs.declared.frames.State.{State}
use Rattle.state.specs.declared.stops.Stop.TheVariants.{BudgetSpent}
use Rattle.state.specs.code.Frames.{stop_of}
use Rattle.frame.specs.code.Turning.{Turning, after, ends}
use Rattle.step.specs.code.Step.{turn_of}

-- procedure p and type y
abbrev pub procedure_of : Index → ℕ → ProcedureEntry
procedure_of ix p = get_or ix.procedure_entries (p % 128) no_procedure

abbrev pub type_of : Index → ℕ → TypeEntry
type_of ix y = get_or ix.type_entries (y % 64) no_type

-- a turn goes on, or ends the call
abbrev pub onward : Turning → (List Operand → State → Turning) → Turning
onward (after s cs) rest = cond (eqb (stop_of s) 0) (rest cs s) (after s cs)

-- whether an instruction with this opcode can change entries or rooms
unfoldable pub changes_memory : ℕ → Bool
changes_memory a = eqb a op_write_ref || eqb a op_pack || eqb a op_unpack || eqb a op_move_to || eqb a op_move_from

-- whether they are still the same after it
abbrev pub same_by : Bool → ℕ → Bool
same_by same a = cond (changes_memory a) false same

abbrev pub same_onward : Turning → (List Operand → State → Bool) → Bool
same_onward (after s cs) rest = cond (eqb (stop_of s) 0) (rest cs s) true

-- in a table with this index
module _ (t : List ℕ) (ix : Index) where
  -- instruction `row` of the running frame
  unfoldable pub turn_at : Row → List Operand → State → Turning
  turn_at row cs s = turn_of t row (procedure_of ix s.procedure) (type_of ix row.b) (procedure_of ix row.b) cs s

  -- the instruction that comes up, and a step
  unfoldable pub row_of : State → Row
  row_of s = row_at (code_of t (procedure_of ix s.procedure)) s.at

  abbrev pub step_at : List Operand → State → Turning
  step_at cs s = turn_at (row_of s) cs s

  -- a call, of which so much of the budget is left
  unfoldable pub run_from : ℕ → List Operand → State → Turning
  run_from zero cs s = ends cs s BudgetSpent
  run_from (suc left) cs s = onward (step_at cs s) (run_from left)

  -- whether no instruction that is done can change entries or rooms
  unfoldable pub same_from : ℕ → List Operand → State → Bool
  same_from zero cs s = true
  same_from (suc left) cs s = same_onward (step_at cs s) λ (cs' : List Operand) (s' : State). same_by (same_from left cs' s') (row_of s).a
