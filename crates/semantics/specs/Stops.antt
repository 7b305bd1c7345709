-- Why an instruction stops (document 01, "Running"; document 02, paper 4), said of its row and of what it finds before it takes anything. `Claim` says that it
-- stops exactly for one of these causes; when the budget is spent (31) is said in `Chain`.
use Rattle.std.specs.Prelude.{ℕ, ◌+◌, ◌<◌, ◌≤◌, ◌≡◌, List, ◌∷◌, ◌⊎◌, Bool, length}
use Rattle.std.proofs.Math.Option.{Option, some}
use Rattle.std.proofs.Math.ListN.{get_elem? as nth}
use Rattle.table.specs.Format.{op_read_ref, op_write_ref, op_borrow_fld, op_pack, op_move_to, op_move_from, op_borrow_global, op_call, op_op}
use Rattle.table.specs.declared.Row.{Row}
use Rattle.reach.specs.Reach.{Mem}
use Rattle.arithmetic.specs.Arithmetic.{past_numbers, addition, subtraction}
use Rattle.semantics.specs.Limits.{max_frames, max_records, max_entries, too_large, key_taken, no_such_key, stale_reference, too_many_frames, too_many_records, too_many_entries, below_zero}
use Rattle.semantics.specs.Machine.{Ref, to_local, to_field, to_record, Value, num, obj, refer, Cell, gone, Entry, Frame, frame, live_count}
use Rattle.semantics.specs.Words.{IsEntry}

-- no record is under the key of type y and address a
abbrev pub NoEntry : List Entry → ℕ → ℕ → Type 0
NoEntry st y a = (id : ℕ) → ¬ (IsEntry st y a id)

-- The record that a reference names, over these frames: the record itself, the one whose field it is, or the one that stands in its local (in a table that is
-- accepted that one is never unpacked)
pub data Named (fs : List Frame) : Ref → ℕ → Type 0 where
  the-record : {id y : ℕ} → Named fs (to_record id y) id
  of_field : {id y j : ℕ} → Named fs (to_field id y j) id
  in-local : {f l k p i id y : ℕ} {ops : List Value} {ls : List (Option Value)} → Mem (frame f p i ops ls) fs → nth ls l ≡ some (some (obj id y)) → Named fs (to_local f l k) id

-- A reference is stale: its record was unpacked; its frame has returned, so that none has this identity any more; its local holds nothing
pub data Stale (fs : List Frame) (rs : List Cell) : Ref → Type 0 where
  unpacked : {r : Ref} {id y : ℕ} → Named fs r id → nth rs id ≡ some (gone y) → Stale fs rs r
  has-returned : {f l k : ℕ} → ((p i : ℕ) (ops : List Value) (ls : List (Option Value)) → ¬ (Mem (frame f p i ops ls) fs)) → Stale fs rs (to_local f l k)
  is-empty : {f l k p i : ℕ} {ops : List Value} {ls : List (Option Value)} → Mem (frame f p i ops ls) fs → ((v : Value) → ¬ (nth ls l ≡ some (some v))) → Stale fs rs (to_local f l k)

-- of an instruction, by its row
module _ (r : Row) where
  -- it is Op b of two numbers: x was pushed first, and y lies on top
  abbrev pub OpOf : List Value → (b x y : ℕ) → Type 0
  OpOf ops b x y = (r.a ≡ op_op) × (r.b ≡ b) × ((under : List Value) × (ops ≡ num y ∷ num x ∷ under))

  -- a sum that has more than 64 bits; a difference below zero
  abbrev pub Overflows : List Value → Type 0
  Overflows ops = (x y : ℕ) × OpOf ops addition x y × (past_numbers ≤ x + y)

  abbrev pub Overdraws : List Value → Type 0
  Overdraws ops = (x y : ℕ) × OpOf ops subtraction x y × (x < y)

  -- It comes up over the operands ops, the top first, the frames fs, the running one among them, the records rs and the store st
  pub data Cause (ops : List Value) (fs : List Frame) (rs : List Cell) (st : List Entry) : ℕ → Type 0 where
    -- 32: Op 0, and the sum is above 64 bits
    sum_too_large : Overflows ops → Cause ops fs rs st too_large
    -- 33: MoveTo, and the key is taken; 34: MoveFrom or BorrowGlobal, and there is no such key
    key-taken : {a c y id : ℕ} {under : List Value} → r.a ≡ op_move_to → ops ≡ num a ∷ obj c y ∷ under → IsEntry st r.b a id → Cause ops fs rs st key_taken
    no-such-key : {a : ℕ} {under : List Value} → (r.a ≡ op_move_from) ⊎ (r.a ≡ op_borrow_global) → ops ≡ num a ∷ under → NoEntry st r.b a → Cause ops fs rs st no_such_key
    -- 35: ReadRef, BorrowFld or WriteRef, and the reference is stale
    stale-there : {w : Bool} {v : Ref} {under : List Value} → (r.a ≡ op_read_ref) ⊎ (r.a ≡ op_borrow_fld) → ops ≡ refer w v ∷ under → Stale fs rs v → Cause ops fs rs st stale_reference
    stale-written : {x : ℕ} {w : Bool} {v : Ref} {under : List Value} → r.a ≡ op_write_ref → ops ≡ refer w v ∷ num x ∷ under → Stale fs rs v → Cause ops fs rs st stale_reference
    -- 36: Call, and there are 16 frames; 37: Pack, and 128 records live; 38: MoveTo under a key that is free, and there are 64 entries
    frames-full : r.a ≡ op_call → max_frames ≤ length fs → Cause ops fs rs st too_many_frames
    records-full : r.a ≡ op_pack → max_records ≤ live_count rs → Cause ops fs rs st too_many_records
    entries-full : {a c y : ℕ} {under : List Value} → r.a ≡ op_move_to → ops ≡ num a ∷ obj c y ∷ under → NoEntry st r.b a → max_entries ≤ length st → Cause ops fs rs st too_many_entries
    -- 39: Op 1, and the difference is below zero
    below-zero : Overdraws ops → Cause ops fs rs st below_zero
