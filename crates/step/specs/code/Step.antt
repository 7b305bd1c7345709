-- One instruction: what is done by opcode.
use Rattle.std.specs.Prelude.{ℕ, ◌+◌, ◌-◌, List, [], ◌∷◌, get_or}
use Rattle.table.specs.declared.Row.{Row}
use Rattle.table.specs.declared.index.TypeEntry.{TypeEntry}
use Rattle.table.specs.declared.index.ProcedureEntry.{ProcedureEntry}
use Rattle.declarations.specs.Program.{local_kind, local_count, parameters_end}
use Rattle.state.specs.declared.Operand.{Operand}
use Rattle.state.specs.declared.frames.State.{State}
use Rattle.state.specs.declared.stops.Stop.TheVariants.{Broken}
use Rattle.state.specs.code.Frames.{gone_to, gone_on}
use Rattle.frame.specs.code.Turning.{Turning, after, ends}
use Rattle.frame.specs.code.Operations.{op_of}
use Rattle.frame.specs.code.Stack.{popped_by, const_of, move_of, copy_of, store_of, borrow_of}
use Rattle.references.specs.code.Targets.{read_of, write_of, borrow_field_of}
use Rattle.records.specs.code.Packing.{pack_of, unpack_of}
use Rattle.records.specs.code.Published.{move_to_of, move_from_of, global_of, exists_of}
use Rattle.frame.specs.code.Control.{call_of, ret_of, branch_of}

-- operand b and constant d of an instruction; the kind of local b; how many fields type b has; how many parameters and locals procedure b has; how
-- many results the running procedure has
module _ (b d kind fields parameters count results : ℕ) (cs : List Operand) (s : State) where
  unfoldable pub turns : List Turning
  turns =
      after (popped_by s) cs
      ∷ const_of cs s d
      ∷ move_of cs s b
      ∷ copy_of cs s b
      ∷ store_of cs s b
      ∷ borrow_of cs s b kind
      ∷ read_of cs s
      ∷ write_of cs s
      ∷ borrow_field_of cs s b
      ∷ pack_of cs s fields b
      ∷ unpack_of cs s
      ∷ move_to_of cs s b
      ∷ move_from_of cs s b
      ∷ global_of cs s b
      ∷ exists_of cs s b
      ∷ call_of cs s b parameters count
      ∷ ret_of cs s results
      ∷ after (gone_to s b) cs
      ∷ after (branch_of cs s b) cs
      ∷ op_of cs s b
      ∷ after (gone_on s) cs
      ∷ []

unfoldable pub turn_of : List ℕ → Row → ProcedureEntry → TypeEntry → ProcedureEntry → List Operand → State → Turning
turn_of t row own named callee cs s =
    get_or (turns row.b row.d (local_kind t own row.b) (named.end - (named.row + 1)) (parameters_end t callee - (callee.row + 1)) (local_count callee) (own.code - own.results) cs s) row.a (ends cs s Broken)
