-- What an accepted table gives a proof about running, for each procedure, instruction and type.
use Rattle.std.specs.Prelude.{ℕ, ◌+◌, ◌^◌, ◌/◌, ◌%◌, ◌<◌, ◌≤◌, ◌≡◌, Bool, false, List, ◌++◌, ◌⊎◌, length, get_or}
use Rattle.std.proofs.Math.Option.{some}
use Rattle.std.proofs.Math.ListN.{get_elem? as nth}
use Rattle.table.specs.declared.index.Index.{Index}
use Rattle.table.specs.declared.index.ProcedureEntry.{ProcedureEntry}
use Rattle.table.specs.Format.{max_types, max_fields, max_procedures, max_locals, max_results, max_instructions, op_mv_loc, op_borrow_loc, op_borrow_fld, op_pack, op_exists, op_call, op_ret, op_branch, op_branch_cond, op_op, past_opcodes, past_ops}
use Rattle.table.specs.Rows.{row_count, row_at}
use Rattle.declarations.specs.Program.{record_of, is_reference, row_kind, kinds_of, type_in, procedure_in, field_count, field_kinds, field_row, local_count, local_kind, parameters_end, parameter_kinds, result_kinds, code_of, parameter_count, instruction_in}
use Rattle.reach.specs.Reach.{Mem}
use Rattle.effects.specs.Kinds.{good}
use Rattle.operands.specs.Operands.{kinds_before}
use Rattle.operands.specs.Flow.{onto, effect_in, Flow}
use Rattle.flow.specs.Steps.{nexts}
use Rattle.flow.specs.Walks.{Slot}
use Rattle.judging.specs.Judging.{AcceptedTable}
use Rattle.acceptance.specs.Checked.{WalkOf, Checked}

-- bytes: numbers below 256
abbrev pub Bytes : List ℕ → Type 0
Bytes s = (i : ℕ) → get_or s i 0 < 256

-- the kinds of a procedure's locals
unfoldable pub local_kinds : List ℕ → ProcedureEntry → List ℕ
local_kinds t own = kinds_of t (own.row + 1) own.results

-- procedure p
pub record Procedure (t : List ℕ) (ix : Index) (p : ℕ) : Type 0 where
  -- it has a first instruction
  pub some-code : 0 < row_count (code_of t (procedure_in ix p))
  -- its parameters stand first among its locals
  pub split : local_kinds t (procedure_in ix p) ≡ parameter_kinds t (procedure_in ix p) ++ kinds_of t (parameters_end t (procedure_in ix p)) (procedure_in ix p).results
  pub locals : length (local_kinds t (procedure_in ix p)) ≡ local_count (procedure_in ix p)
  pub parameters : length (parameter_kinds t (procedure_in ix p)) ≡ parameter_count t (procedure_in ix p)
  pub local_at : (l : ℕ) → l < local_count (procedure_in ix p) → nth (local_kinds t (procedure_in ix p)) l ≡ some (local_kind t (procedure_in ix p) l)
  -- it has at most four results
  pub results : length (result_kinds t (procedure_in ix p)) ≤ max_results
  -- it is one of 128, with at most 16 locals and 256 instructions
  pub low : p < max_procedures
  pub few-locals : local_count (procedure_in ix p) ≤ max_locals
  pub few-code : row_count (code_of t (procedure_in ix p)) ≤ max_instructions

-- instruction i of procedure p
pub record Instruction (t : List ℕ) (ix : Index) (p i : ℕ) : Type 0 where
  pub opcode : (instruction_in t ix p i).a < past_opcodes
  pub constant : (instruction_in t ix p i).d < 2 ^ 64
  -- what it takes and pushes
  pub flow : Flow t ix (procedure_in ix p) i
  -- where it goes on a walk goes on: to the next instruction, or to its target
  pub falls : ((instruction_in t ix p i).a ≡ op_ret → ⊥) → ((instruction_in t ix p i).a ≡ op_branch → ⊥) → Mem (i + 1) (nexts (code_of t (procedure_in ix p)) i)
  pub jumps : ((instruction_in t ix p i).a ≡ op_branch) ⊎ ((instruction_in t ix p i).a ≡ op_branch_cond)
      → Mem (instruction_in t ix p i).b (nexts (code_of t (procedure_in ix p)) i)
  -- and there the kinds before are those after this one
  pub inside : (j : ℕ) → Mem j (nexts (code_of t (procedure_in ix p)) i) → j < row_count (code_of t (procedure_in ix p))
  pub follow : (j : ℕ) → Mem j (nexts (code_of t (procedure_in ix p)) i)
      → kinds_before t ix (procedure_in ix p) j ≡ good (onto (effect_in t ix (procedure_in ix p) flow.top i).gives flow.rest)
  -- what a walk that arrives finds
  pub checked : {k : ℕ} {ls : List Slot} {ms : List Bool} → WalkOf t p k i ls ms → Checked t p i ls ms
  -- what it names is there
  pub local-named : op_mv_loc ≤ (instruction_in t ix p i).a → (instruction_in t ix p i).a ≤ op_borrow_loc → (instruction_in t ix p i).b < local_count (procedure_in ix p)
  pub field-named : (instruction_in t ix p i).a ≡ op_borrow_fld
      → ((instruction_in t ix p i).b / 8 < ix.types) × ((instruction_in t ix p i).b % 8 < field_count (type_in ix ((instruction_in t ix p i).b / 8)))
  pub type-named : op_pack ≤ (instruction_in t ix p i).a → (instruction_in t ix p i).a ≤ op_exists → (instruction_in t ix p i).b < ix.types
  pub called : (instruction_in t ix p i).a ≡ op_call → (instruction_in t ix p i).b < ix.procedures
  pub calculates : (instruction_in t ix p i).a ≡ op_op → (instruction_in t ix p i).b < past_ops

-- type y
pub record Declared (t : List ℕ) (ix : Index) (y : ℕ) : Type 0 where
  -- it is one of 64, with at most 8 fields
  pub low : y < max_types
  pub few : field_count (type_in ix y) ≤ max_fields
  pub field_at : (j : ℕ) → j < field_count (type_in ix y) → nth (field_kinds t (type_in ix y)) j ≡ some (row_kind (row_at t (field_row (type_in ix y) j)))
  pub fields : length (field_kinds t (type_in ix y)) ≡ field_count (type_in ix y)
  -- a field is a number or a record, of a lower type
  pub plain : (j k : ℕ) → nth (field_kinds t (type_in ix y)) j ≡ some k → is_reference k ≡ false
  pub lower : (j z : ℕ) → nth (field_kinds t (type_in ix y)) j ≡ some (record_of z) → z < y

-- all of them
pub record Judged (t : List ℕ) (ix : Index) : Type 0 where
  pub accepted : AcceptedTable t
  pub procedure : (p : ℕ) → p < ix.procedures → Procedure t ix p
  pub instruction : (p i : ℕ) → p < ix.procedures → i < row_count (code_of t (procedure_in ix p)) → Instruction t ix p i
  pub declared : (y : ℕ) → y < ix.types → Declared t ix y
