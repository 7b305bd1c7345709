-- One instruction: the opcodes of document 01 and their stops.
use Rattle.std.specs.Prelude.{ℕ, ◌+◌, ◌-◌, ◌/◌, ◌%◌, Bool, true, false, cond, List, [], ◌∷◌, ◌++◌, eqb, ltb, length, get_or, set, replicate}
use Rattle.std.proofs.Math.Option.{Option, none, some}
use Rattle.std.proofs.Math.ListN.{get_elem? as nth}
use Rattle.table.specs.declared.Row.{Row}
use Rattle.table.specs.declared.index.Index.{Index}
use Rattle.declarations.specs.Program.{number, is_record, procedure_in, local_count, local_kind, instruction_in}
use Rattle.effects.specs.Effects.{Effect}
use Rattle.operands.specs.Flow.{effect_in}
use Rattle.arithmetic.specs.Arithmetic.{Calculated, Value as Gives, TooLarge, BelowZero, Unknown, calculation}
use Rattle.semantics.specs.Limits.{max_frames, max_records, max_entries, too_large, below_zero, key_taken, no_such_key, stale_reference, too_many_frames, too_many_records, too_many_entries}
use Rattle.semantics.specs.Machine.{Ref, to_local, to_field, to_record, Value, num, obj, refer, value_kind, writable, Cell, gone, here, Entry, entry, Frame, frame, State, state, Outcome, next, finished, stopped, stuck, live_count, find_key, drop_key, Target, a_number, a_record, stale, wrong, in_cell, target, write_frames, write_records}

-- values pushed on operands, the first of the list first
abbrev pub pushed_on : List Value → List Value → List Value
pushed_on [] ops = ops
pushed_on (v ∷ vs) ops = pushed_on vs (v ∷ ops)

-- What an instruction takes: the operands of the listed kinds, in the order in which they were pushed, and those that lie under them
pub data Taken : Type 0 where
  missing : Taken
  took : List Value → List Value → Taken

-- one more, which is missing or of the wrong kind, or not
abbrev pub also_taken : ℕ → Taken → Taken
also_taken k missing = missing
also_taken k (took vs []) = missing
also_taken k (took vs (v ∷ ops)) = cond (eqb (value_kind v) k) (took (v ∷ vs) ops) missing

abbrev pub taken : List ℕ → List Value → Taken
taken [] ops = took [] ops
taken (k ∷ ks) ops = also_taken k (taken ks ops)

abbrev pub with_taken : Taken → (List Value → List Value → Outcome) → Outcome
with_taken missing k = stuck
with_taken (took vs ops) k = k vs ops

-- what was taken, where it is one value, or two
abbrev pub one : List Value → (Value → Outcome) → Outcome
one [] k = stuck
one (v ∷ []) k = k v
one (v ∷ w ∷ vs) k = stuck

abbrev pub two : List Value → (Value → Value → Outcome) → Outcome
two [] k = stuck
two (v ∷ vs) k = one vs (k v)

-- a number; a record
abbrev pub with_number : Value → (ℕ → Outcome) → Outcome
with_number (num n) k = k n
with_number (obj id y) k = stuck
with_number (refer w r) k = stuck

abbrev pub with_record : Value → (ℕ → Outcome) → Outcome
with_record (obj id y) k = k id
with_record (num n) k = stuck
with_record (refer w r) k = stuck

-- a reference
abbrev pub with_reference : Value → (Ref → Outcome) → Outcome
with_reference (refer w r) k = k r
with_reference (num n) k = stuck
with_reference (obj id y) k = stuck

-- the number, or the record and its fields, that a reference leads to
abbrev pub number_at : Target → (ℕ → Outcome) → Outcome
number_at (a_number n) k = k n
number_at (a_record id vs) k = stuck
number_at stale k = stopped stale_reference
number_at wrong k = stuck

abbrev pub record_at : Target → (ℕ → List Value → Outcome) → Outcome
record_at (a_record id vs) k = k id vs
record_at (a_number n) k = stuck
record_at stale k = stopped stale_reference
record_at wrong k = stuck

-- the fields of a record that is to be unpacked
abbrev pub fields_at : Target → (List Value → Outcome) → Outcome
fields_at (a_record id vs) k = k vs
fields_at (a_number n) k = stuck
fields_at stale k = stuck
fields_at wrong k = stuck

-- a full local
abbrev pub with_local : Option (Option Value) → (Value → Outcome) → Outcome
with_local none k = stuck
with_local (some none) k = stuck
with_local (some (some v)) k = k v

-- a local that may be filled: it is empty, or holds no record
abbrev pub is_object : Value → Bool
is_object v = is_record (value_kind v)

abbrev pub fillable : Option (Option Value) → Outcome → Outcome
fillable none o = stuck
fillable (some none) o = o
fillable (some (some v)) o = cond (is_object v) stuck o

-- whether no local holds a record
abbrev pub none_held : List (Option Value) → Bool
none_held [] = true
none_held (none ∷ ls) = none_held ls
none_held (some v ∷ ls) = cond (is_object v) false (none_held ls)

-- whether no operand lies under those taken
abbrev pub nothing_under : List Value → Outcome → Outcome
nothing_under [] o = o
nothing_under (v ∷ ops) o = stuck

-- a reference to field j of record id of type y, which holds a value: to the number, or to the record that stands in the field
abbrev pub field_reference : ℕ → ℕ → ℕ → Option Value → (Ref → Outcome) → Outcome
field_reference id y j none k = stuck
field_reference id y j (some (num n)) k = k (to_field id y j)
field_reference id y j (some (obj id' y')) k = k (to_record id' y')
field_reference id y j (some (refer w r)) k = stuck

-- what is under a key of the store, or not
abbrev pub under_key : Option ℕ → Outcome → (ℕ → Outcome) → Outcome
under_key none absent present = absent
under_key (some id) absent present = present id

-- how a called frame's locals start: the parameters full, the others empty
abbrev pub start_locals : List Value → ℕ → List (Option Value)
start_locals [] others = replicate others none
start_locals (v ∷ vs) others = some v ∷ start_locals vs others

-- the results go to the frame below, or end the call
abbrev pub returned : List Frame → List Value → List Cell → List Entry → ℕ → Outcome
returned [] vs rs st n = finished vs (state [] rs st n)
returned (frame id p i ops ls ∷ fs) vs rs st n = next (state (frame id p (i + 1) (pushed_on vs ops) ls ∷ fs) rs st n)

-- An instruction with operand b and constant d, instruction i of the running frame's procedure p, that took the values vs and left the operands ops.
-- `kind` is that of local b; `others` is how many locals of procedure b are no parameters.
module _ (b d kind others : ℕ) (vs : List Value) (id p i : ℕ) (ops : List Value) (ls : List (Option Value)) (fs : List Frame) (rs : List Cell) (st : List Entry) (n : ℕ) where
  -- it pushes these and goes on, to the next instruction; or it goes on at another
  abbrev pub push : List Value → Outcome
  push ws = next (state (frame id p (i + 1) (pushed_on ws ops) ls ∷ fs) rs st n)

  abbrev pub go_to : ℕ → Outcome
  go_to j = next (state (frame id p j ops ls ∷ fs) rs st n)

  -- it changes its locals, the records, or the store besides
  abbrev pub push_and_set : List Value → Option Value → Outcome
  push_and_set ws held = next (state (frame id p (i + 1) (pushed_on ws ops) (set ls b held) ∷ fs) rs st n)

  abbrev pub push_with_records : List Value → List Cell → Outcome
  push_with_records ws cs = next (state (frame id p (i + 1) (pushed_on ws ops) ls ∷ fs) cs st n)

  abbrev pub push_with_store : List Value → List Entry → Outcome
  push_with_store ws es = next (state (frame id p (i + 1) (pushed_on ws ops) ls ∷ fs) rs es n)

  -- where a reference leads
  abbrev pub lead : Value → Target
  lead r = target (frame id p i ops ls ∷ fs) rs r

  -- what an operation gives is pushed, or it stops
  abbrev pub calculated : Calculated → Outcome
  calculated (Gives n) = push (num n ∷ [])
  calculated TooLarge = stopped too_large
  calculated BelowZero = stopped below_zero
  calculated Unknown = stuck

  -- Pop takes an operand; LoadConst pushes the constant
  abbrev pub pop : Outcome
  pop = push []

  abbrev pub load_const : Outcome
  load_const = push (num d ∷ [])

  -- MvLoc pushes local b and empties it; CpLoc pushes it; StLoc fills it; BorrowLoc pushes a reference to it
  abbrev pub mv_loc : Outcome
  mv_loc = with_local (nth ls b) λ (v : Value). push_and_set (v ∷ []) none

  abbrev pub cp_loc : Outcome
  cp_loc = with_local (nth ls b) λ (v : Value). push (v ∷ [])

  abbrev pub st_loc : Outcome
  st_loc = one vs λ (v : Value). fillable (nth ls b) (push_and_set [] (some v))

  abbrev pub borrow_loc : Outcome
  borrow_loc = with_local (nth ls b) λ (v : Value). push (refer true (to_local id b kind) ∷ [])

  -- ReadRef pushes the number that a reference leads to; WriteRef takes a number, then a reference, and writes it there
  abbrev pub read_ref : Outcome
  read_ref = one vs λ (r : Value). number_at (lead r) λ (x : ℕ). push (num x ∷ [])

  abbrev pub write_ref : Outcome
  write_ref =
      two vs λ (v r : Value). with_number v λ (x : ℕ). number_at (lead r) λ (y : ℕ).
      next (state (write_frames (frame id p (i + 1) ops ls ∷ fs) r (num x)) (write_records rs r (num x)) st n)

  -- BorrowFld: b is type times 8 plus field; what is borrowed through a read-only reference is read-only
  abbrev pub borrow_fld : Outcome
  borrow_fld =
      one vs λ (r : Value). record_at (lead r) λ (a : ℕ) (fields : List Value).
      field_reference a (b / 8) (b % 8) (nth fields (b % 8)) λ (w : Ref). push (refer (writable r) w ∷ [])

  -- Pack makes a record of type b of what it took; Unpack breaks one up and pushes its fields
  abbrev pub pack : Outcome
  pack = cond (ltb (live_count rs) max_records) (push_with_records (obj (length rs) b ∷ []) (rs ++ (here b vs ∷ []))) (stopped too_many_records)

  abbrev pub unpack : Outcome
  unpack = one vs λ (v : Value). with_record v λ (a : ℕ). fields_at (in_cell a (nth rs a)) λ (fields : List Value). push_with_records fields (set rs a (gone b))

  -- MoveTo takes a record, then an address, and publishes it; MoveFrom withdraws; BorrowGlobal pushes a reference to the record; Exists 1 or 0
  abbrev pub move_to : Outcome
  move_to =
      two vs λ (v w : Value). with_record v λ (r : ℕ). with_number w λ (a : ℕ). under_key (find_key st b a)
      (cond (ltb (length st) max_entries) (push_with_store [] (entry b a r ∷ st)) (stopped too_many_entries)) λ (r' : ℕ). stopped key_taken

  abbrev pub move_from : Outcome
  move_from = one vs λ (w : Value). with_number w λ (a : ℕ). under_key (find_key st b a) (stopped no_such_key) λ (r : ℕ). push_with_store (obj r b ∷ []) (drop_key st b a)

  abbrev pub borrow_global : Outcome
  borrow_global = one vs λ (w : Value). with_number w λ (a : ℕ). under_key (find_key st b a) (stopped no_such_key) λ (r : ℕ). push (refer true (to_record r b) ∷ [])

  abbrev pub exists : Outcome
  exists = one vs λ (w : Value). with_number w λ (a : ℕ). under_key (find_key st b a) (push (num 0 ∷ [])) λ (r : ℕ). push (num 1 ∷ [])

  -- Call begins a frame of procedure b; Ret gives exactly the results, and no record stays behind
  abbrev pub call : Outcome
  call = cond (ltb (length fs + 1) max_frames) (next (state (frame n b 0 [] (start_locals vs others) ∷ frame id p i ops ls ∷ fs) rs st (n + 1))) (stopped too_many_frames)

  abbrev pub ret : Outcome
  ret = cond (none_held ls) (nothing_under ops (returned fs vs rs st n)) stuck

  -- Branch; BranchCond: jumps if not 0; Op
  abbrev pub branch : Outcome
  branch = go_to b

  abbrev pub branch_cond : Outcome
  branch_cond = one vs λ (v : Value). with_number v λ (x : ℕ). go_to (cond (eqb x 0) (i + 1) b)

  abbrev pub op : Outcome
  op = two vs λ (v w : Value). with_number v λ (x : ℕ). with_number w λ (y : ℕ). calculated (calculation b x y)

  -- Freeze: the same reference, read-only
  abbrev pub freeze : Outcome
  freeze = one vs λ (v : Value). with_reference v λ (r : Ref). push (refer false r ∷ [])

  -- by opcode
  unfoldable pub actions : List Outcome
  actions =
      pop ∷ load_const ∷ mv_loc ∷ cp_loc ∷ st_loc ∷ borrow_loc ∷ read_ref ∷ write_ref ∷ borrow_fld ∷ pack
      ∷ unpack ∷ move_to ∷ move_from ∷ borrow_global ∷ exists ∷ call ∷ ret ∷ branch ∷ branch_cond ∷ op ∷ freeze ∷ []

-- the kind of the top operand
abbrev pub top_kind : List Value → ℕ
top_kind [] = number
top_kind (v ∷ ops) = value_kind v

-- in a table with this index
module _ (t : List ℕ) (ix : Index) where
  -- instruction i of procedure p: its row, and what it takes and pushes
  unfoldable pub instruction : ℕ → ℕ → Row
  instruction p i = instruction_in t ix p i

  unfoldable pub effect_at : ℕ → ℕ → List Value → Effect
  effect_at p i ops = effect_in t ix (procedure_in ix p) (top_kind ops) i

  -- the step of a state
  unfoldable pub act : Row → Effect → (id p i : ℕ) → List Value → List (Option Value) → List Frame → List Cell → List Entry → ℕ → Outcome
  act row e id p i ops ls fs rs st n =
      cond e.fit
      (with_taken (taken e.takes ops) λ (vs rest : List Value).
      get_or (actions row.b row.d (local_kind t (procedure_in ix p) row.b) (local_count (procedure_in ix row.b) - length vs) vs id p i rest ls fs rs st n) row.a stuck)
      stuck

  abbrev pub step : State → Outcome
  step (state [] rs st n) = stuck
  step (state (frame id p i ops ls ∷ fs) rs st n) = act (instruction p i) (effect_at p i ops) id p i ops ls fs rs st n
