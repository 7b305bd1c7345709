-- Refusals 11 to 14 of document 01, said by walks alone: what a walk must show for a row to earn its number, and which row and number are refused.
use Rattle.std.specs.Prelude.{ℕ, ◌+◌, ◌<◌, ◌≤◌, ◌≡◌, Bool, true, false, List, ◌∷◌, ◌++◌, ◌⊎◌, length, get_or}
use Rattle.table.specs.declared.index.ProcedureEntry.{ProcedureEntry}
use Rattle.table.specs.Format.{op_mv_loc, op_cp_loc, op_st_loc, op_borrow_loc, op_call, op_ret}
use Rattle.table.specs.Rows.{row_count, row_at}
use Rattle.table.specs.Index.{index_of}
use Rattle.table.specs.Refusals.{empty_local, lost_record, mark_given, mark_returned}
use Rattle.declarations.specs.Program.{number_ref, is_record, procedure_in, code_of, local_count, local_kind, parameter_kinds, result_kinds}
use Rattle.flow.specs.Walks.{Slot, empty, full}
use Rattle.helpers.specs.Tables.{is_private, is_helper}
use Rattle.leaks.specs.Leaks.{in_trusted}
use Rattle.acceptance.specs.Checked.{WalkOf}

-- Instruction i of procedure q.
module _ (t : List ℕ) (q i : ℕ) where
  abbrev own : ProcedureEntry
  own = procedure_in (index_of t) q

  -- its opcode and its operand B
  abbrev pub opcode : ℕ
  opcode = (row_at (code_of t own) i).a

  abbrev pub operand : ℕ
  operand = (row_at (code_of t own) i).b

  -- some walk arrives at it with local l empty, with local l full, with a mark on operand j, counted from the top
  abbrev pub ArrivesEmpty : ℕ → Type 0
  ArrivesEmpty l = (k : ℕ) × (ls : List Slot) × (ms : List Bool) × WalkOf t q k i ls ms × (get_or ls l empty ≡ empty)

  abbrev pub ArrivesFull : ℕ → Type 0
  ArrivesFull l = (k : ℕ) × (ls : List Slot) × (ms : List Bool) × (marked : Bool) × WalkOf t q k i ls ms × (get_or ls l empty ≡ full marked)

  abbrev pub ArrivesMarked : ℕ → Type 0
  ArrivesMarked j = (k : ℕ) × (ls : List Slot) × (ms : List Bool) × WalkOf t q k i ls ms × (get_or ms j false ≡ true)

  -- among operands of these kinds, the last on top, some walk arrives with a mark on a writable reference to a number
  abbrev pub HandsMarked : List ℕ → Type 0
  HandsMarked ks = (before after : List ℕ) × (ks ≡ before ++ (number_ref ∷ after)) × ArrivesMarked (length after)

  -- 11: MvLoc, CpLoc or BorrowLoc on a local that some walk leaves empty; 12: StLoc where some walk leaves a record in that local, or Ret in any
  pub data LocalCause : ℕ → Type 0 where
    used-empty : (opcode ≡ op_mv_loc) ⊎ (opcode ≡ op_cp_loc) ⊎ (opcode ≡ op_borrow_loc) → ArrivesEmpty operand → LocalCause empty_local
    stored-over : opcode ≡ op_st_loc → is_record (local_kind t own operand) ≡ true → ArrivesFull operand → LocalCause lost_record
    left_behind : opcode ≡ op_ret → (l : ℕ) → l < local_count own → is_record (local_kind t own l) ≡ true → ArrivesFull l → LocalCause lost_record

  -- in a trusted module, 13: a marked reference given to a Call of a procedure that is no helper, as one of its parameters; 14: a marked reference returned by a public procedure, as
  -- one of the results; a read-only one is never marked
  pub data LeakCause : ℕ → Type 0 where
    given-away : in_trusted t (index_of t) own ≡ true → opcode ≡ op_call → is_helper t own (procedure_in (index_of t) operand) ≡ false
        → HandsMarked (parameter_kinds t (procedure_in (index_of t) operand)) → LeakCause mark_given
    returned : in_trusted t (index_of t) own ≡ true → opcode ≡ op_ret → is_private t own ≡ false → HandsMarked (result_kinds t own) → LeakCause mark_returned

-- a row earns a number: it is an instruction of a procedure, with a cause for that number
abbrev pub Earns : (List ℕ → ℕ → ℕ → ℕ → Type 0) → List ℕ → ℕ → ℕ → Type 0
Earns Cause t number row =
    (q : ℕ) × (i : ℕ) × (q < (index_of t).procedures) × (i < row_count (code_of t (procedure_in (index_of t) q)))
    × (row ≡ (procedure_in (index_of t) q).code + i) × Cause t q i number

-- the lowest row that earns a number, and the lowest number that it earns
pub record Lowest (E : ℕ → ℕ → Type 0) (number row : ℕ) : Type 0 where
  pub earned : E number row
  pub first : (number' row' : ℕ) → E number' row' → (row < row') ⊎ ((row ≡ row') × (number ≤ number'))
