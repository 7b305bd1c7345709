-- Instructions that cannot change entries or rooms leave their cells as they were.
use Prim.Native.Nat.{ℕ, zero, suc, ◌+◌, ◌-◌, ◌/◌, ◌%◌, ◌<◌, ◌≤◌}
use mathlib.Core.Path.{◌≡◌, refl, ◌∙◌}
use mathlib.Core.Bool.{Bool, true, false, cond}
use mathlib.Core.Logic.{inl}
use mathlib.Core.List.{List}
use native.Mathlib.Decide.{dec_lt}
use native.Mathlib.Omega.{arith}
use borrow.Author.Tests.{le-leb, lt-leb, eq-eqb, ne_eqb}
use lib.Dec.{eqb, ltb, leb}
use lib.ListN.{get_or, get_elem? as nth}
use Rattle.arithmetic.specs.Arithmetic.{Calculated, Value, TooLarge, BelowZero, Unknown, truth}
use Rattle.state.specs.declared.Operand.{Operand}
use Rattle.state.specs.declared.Operand.TheVariants.{Empty, Number, Record, Refer}
use Rattle.state.specs.declared.frames.State.{State}
use Rattle.state.specs.declared.stops.Stop.{Stop}
use Rattle.state.specs.declared.stops.Stop.TheVariants.{Done, NoSuchKey, StaleReference, TooManyFrames, TooLarge as Large, BelowZero as Below, Broken}
use Rattle.state.specs.code.Coding.{is_number, number_of, second_of}
use Rattle.state.specs.code.Stops.{number_of as number_of_stop}
use Rattle.state.specs.code.Layout.{operand_cell, suspended_cell}
use Rattle.state.specs.code.Frames.{with_height, pushed_in, top_at, dropped, gone_to, gone_on, stopped_with, ended_with, suspended_in, entered_in, resumed_at}
use Rattle.state.specs.code.Cells.{held_at}
use Rattle.state.specs.code.Rooms.{field_cell}
use Rattle.machine.specs.code.Machine.{held}
use Rattle.machine.specs.code.Views.{locals_in, Same}
use Rattle.machine.proofs.Views.{same_refl, same_trans, put_local, pushed-same, put_same, suspended_same, entered-same, received-same, load_is, store_is}
use Rattle.references.specs.code.Targets.{Target, ToNumber, ToRecord, Stale, Impossible, target_top, read_at, read_of, borrowed_as, borrowed_in, borrow_field_of}
use Rattle.records.specs.code.Published.{found, reference_at, global_at, global_of, exists_of}
use Rattle.frame.specs.code.Turning.{Turning, after, ends, settled}
use Rattle.frame.specs.code.Operations.{with_number, closed, operated, op_of}
use Rattle.frame.specs.code.Stack.{pushing, move_of, copy_of, store_of}
use Rattle.frame.specs.code.Control.{called_in, call_of, ret_of, branch_of}
use Rattle.frame.proofs.Meaning.{Stands}

-- as many entries, as many rooms that may be in use, and the same in their cells
abbrev pub Untouched : List Operand → State → Turning → Type 0
Untouched cs s (after s' cs') = (s'.entries ≡ s.entries) × (s'.rooms ≡ s.rooms) × Same 544 1824 cs cs'

pub untouched_trans : (cs cs' : List Operand) (s s' : State) (turn : Turning) → Untouched cs s (after s' cs') → Untouched cs' s' turn → Untouched cs s turn
untouched_trans cs cs' s s' (after s'' cs'') a b = (b.0 ∙ a.0, b.1 ∙ a.1, same_trans cs cs' cs'' 544 1824 a.2 b.2)

module _ (cs : List Operand) (s : State) where
  pub stays : (s' : State) → s'.entries ≡ s.entries → s'.rooms ≡ s.rooms → Untouched cs s (after s' cs)
  stays s' e m = (e, m, same_refl cs 544 1824)

  pub stopping : (k : ℕ) → Untouched cs s (after (stopped_with s k) cs)
  stopping k = (refl, refl, same_refl cs 544 1824)

  pub ending : (k : Stop) → Untouched cs s (ends cs s k)
  ending k = stopping (number_of_stop k)

  either : (b : Bool) (x y : Turning) → Untouched cs s x → Untouched cs s y → Untouched cs s (cond b x y)
  either true x y a b = a
  either false x y a b = b

  numbered : (x : Operand) (f : ℕ → Turning) → ((n : ℕ) → Untouched cs s (f n)) → Untouched cs s (with_number cs s x f)
  numbered x f h = either (is_number x) (f (number_of x)) (ends cs s Broken) (h (number_of x)) (ending Broken)

module _ (cs : List Operand) (s : State) (st : Stands cs s) where
  -- an operand pushed on h operands
  pub pushes : (h : ℕ) (x : Operand) → h ≤ 16 → Untouched cs s (pushing cs (with_height s h) x)
  pushes h x l = (refl, refl, pushed-same cs (with_height s h) 544 1824 x (inl (omega (arith, st.shallow))))

  pub settles : (k : ℕ) (x : Operand) → Untouched cs s (settled cs s k x)
  settles k x = pushes (s.height - k) x (omega (arith, st.low))

  -- MvLoc, CpLoc, StLoc
  pub moves : (b : ℕ) → Untouched cs s (move_of cs s b)
  moves b = rw (load_is cs s st.whole st.shallow b st.few) (refl, refl, same_trans cs ds (put_local ds s b Empty) 544 1824 (pushes s.height x st.low).2 (put_same ds s 544 1824 b Empty (inl (omega (arith, st.shallow, st.few)))))
    where
      x : Operand
      x = held (nth (locals_in cs s) b)

      ds : List Operand
      ds = pushed_in cs s x

  pub copies : (b : ℕ) → Untouched cs s (copy_of cs s b)
  copies b = rw (load_is cs s st.whole st.shallow b st.few) (pushes s.height _ st.low)

  pub stores : (b : ℕ) → 1 ≤ s.height → Untouched cs s (store_of cs s b)
  stores b h = rw (store_is cs s st.whole st.shallow b h st.low) (refl, refl, put_same cs s 544 1824 b _ (inl (omega (arith, st.shallow, st.few))))

  -- ReadRef, BorrowFld
  pub reads : Untouched cs s (read_of cs s)
  reads = to (target_top cs s)
    where
      to : (t : Target) → Untouched cs s (read_at cs s t)
      to (ToNumber o) = settles 1 _
      to (ToRecord c m) = ending cs s Broken
      to Stale = ending cs s StaleReference
      to Impossible = ending cs s Broken

  pub borrows : (b : ℕ) → Untouched cs s (borrow_field_of cs s b)
  borrows b = to (target_top cs s)
    where
      of : (c m : ℕ) (x : Operand) → Untouched cs s (borrowed_as cs s c m (b / 8 % 256) (b % 8) x)
      of c m Empty = ending cs s Broken
      of c m (Number n) = settles 1 _
      of c m (Record a r y) = settles 1 _
      of c m (Refer r) = ending cs s Broken

      to : (t : Target) → Untouched cs s (borrowed_in cs s t (b / 8 % 256) (b % 8))
      to (ToNumber o) = ending cs s Broken
      to (ToRecord c m) = of c m (held_at cs (field_cell cs m (b % 8)))
      to Stale = ending cs s StaleReference
      to Impossible = ending cs s Broken

  -- BorrowGlobal, Exists
  pub finds : (b : ℕ) → Untouched cs s (global_of cs s b)
  finds b = numbered cs s (top_at cs s 0) (λ (a : ℕ). global_at cs s (b % 256) (found cs s (b % 256) a)) (λ a. either cs s (leb s.entries (found cs s (b % 256) a)) (ends cs s NoSuchKey) (settled cs s 1 (reference_at cs (found cs s (b % 256) a) (b % 256))) (ending cs s NoSuchKey) (settles 1 _))

  pub asks : (b : ℕ) → Untouched cs s (exists_of cs s b)
  asks b = numbered cs s (top_at cs s 0) (λ (a : ℕ). settled cs s 1 (Number (truth (ltb (found cs s (b % 256) a) s.entries)))) (λ a. settles 1 _)

  -- Call, Ret
  pub called : (k count b : ℕ) → k ≤ s.height → k ≤ count → count ≤ 16 → Untouched cs s (call_of cs s b k count)
  called k count b enough few most = let m : k % 256 ≡ k = omega (arith, st.low) in rw (m, le-leb count 16 most) (go (dec_lt s.depth 15))
    where
      es : List Operand
      es = suspended_in cs (dropped s k)

      go : Dec (s.depth < 15) → Untouched cs s (called_in cs s b k count)
      go (yes deep) =
          rw (lt-leb 15 s.depth deep)
          (refl, refl, same_trans cs es (entered_in es (dropped s k) k count) 544 1824 (suspended_same cs (dropped s k) 544 1824 (inl (omega arith))) (entered-same es (dropped s k) 544 1824 k count few (inl (omega arith))))
      go (no deep) = rw (le-leb 15 s.depth (omega arith)) (ending cs s TooManyFrames)

  pub returned : (k : ℕ) → k ≤ s.height → (0 < s.depth → second_of (get_or cs (suspended_cell (s.depth - 1)) Empty) + k ≤ 16) → Untouched cs s (ret_of cs s k)
  returned k enough fits = go s.depth refl
    where
      go : (n : ℕ) → s.depth ≡ n → Untouched cs s (ret_of cs s k)
      go zero e = rw (eq-eqb s.depth 0 e) (ending cs s Done)
      go (suc n) e =
          let m : k % 256 ≡ k = omega (arith, st.low) in
          let p : s.depth - 1 ≡ n = omega arith in
          let q = rw p at (fits (omega arith)) in
          rw (m, ne_eqb s.depth 0 (λ z. omega arith), p) (refl, refl, received-same cs (resumed_at cs s n) 544 1824 (operand_cell s.depth + (s.height - k)) k (inl (omega (arith, q, st.shallow))))

  -- BranchCond, Op
  pub branches : (b : ℕ) → Untouched cs s (after (branch_of cs s b) cs)
  branches b = go (is_number (top_at cs s 0)) (eqb (number_of (top_at cs s 0)) 0)
    where
      go : (n z : Bool) → Untouched cs s (after (cond n (cond z (gone_on (dropped s 1)) (gone_to (dropped s 1) b)) (ended_with s Broken)) cs)
      go true true = stays cs s (gone_on (dropped s 1)) refl refl
      go true false = stays cs s (gone_to (dropped s 1) b) refl refl
      go false z = ending cs s Broken

  pub operates : (b : ℕ) → Untouched cs s (op_of cs s b)
  operates b = go (operated b (top_at cs s 1) (top_at cs s 0))
    where
      go : (x : Calculated) → Untouched cs s (closed cs s x)
      go (Value v) = settles 2 (Number v)
      go TooLarge = ending cs s Large
      go BelowZero = ending cs s Below
      go Unknown = ending cs s Broken
