-- A step of the run loop is a step of the machine on lists.
use Prim.Native.Nat.{ℕ, ◌+◌, ◌-◌, ◌%◌, ◌<◌, ◌≤◌}
use mathlib.Core.Path.{◌≡◌, refl, ◌∙◌}
use mathlib.Core.Bool.{true, false, true≢false}
use mathlib.Core.List.{List, [], ◌∷◌}
use native.Mathlib.Omega.{arith}
use lib.Dec.{eqb}
use lib.ListN.{length, get_or, drop, length-drop}
use Rattle.table.specs.Index.{index_of}
use Rattle.table.specs.declared.Row.{Row}
use Rattle.table.specs.declared.index.TypeEntry.{TypeEntry}
use Rattle.table.specs.declared.index.ProcedureEntry.{ProcedureEntry}
use Rattle.declarations.specs.Program.{procedure_in, local_count, local_kind, parameters_end}
use Rattle.acceptance.specs.Judged.{Judged}
use Rattle.state.specs.declared.Operand.{Operand}
use Rattle.state.specs.declared.Operand.TheVariants.{Number, Record, Refer}
use Rattle.state.specs.declared.Reference.TheVariants.{Local}
use Rattle.state.specs.declared.frames.State.{State}
use Rattle.state.specs.declared.stops.Stop.TheVariants.{Broken}
use Rattle.state.specs.code.Coding.{second_of}
use Rattle.state.specs.code.Layout.{operand_cell, room_cell}
use Rattle.state.specs.code.Frames.{top_at, gone_to, gone_on}
use Rattle.state.specs.code.Rooms.{is_live}
use Rattle.machine.specs.code.Machine.{doings, back_to}
use Rattle.machine.specs.code.Runs.{did, mstep}
use Rattle.machine.specs.code.Views.{up_from, operands_in, view_of}
use Rattle.machine.proofs.Views.{length_up, length_down, top-is}
use Rattle.machine.proofs.Memory.{head_in, room_of_lem}
use Rattle.frame.specs.code.Turning.{Turning, ends}
use Rattle.frame.specs.code.Stack.{popped_by}
use Rattle.step.specs.code.Step.{turns, turn_of}
use Rattle.frame.proofs.Meaning.{outcome_of, doing, Stands, Kept}
use Rattle.laws.proofs.Cases.{Each, ◌▸◌, each-listed}
use Rattle.step.proofs.Shapes.{Shape, turn_shape}
use Rattle.frame.proofs.StackArms.{pop-is, pop_kept, const_is, const_kept, move_is, move_kept, copy_is, copy_kept, store_is, store_kept, borrow_is, borrow_kept, freeze-is, freeze-kept}
use Rattle.references.proofs.TargetsArms.{read_is, read_kept, write_is, write_kept, borrow_field_is, borrow_field_kept}
use Rattle.records.proofs.PackingArms.{pack-is, pack-kept, unpack-is, unpack-kept}
use Rattle.records.proofs.PublishedArms.{move_to-is, move_to-kept, move_from-is, move_from-kept, global_is, global_kept, exists-is, exists-kept}
use Rattle.frame.proofs.ControlArms.{call-is, call_kept, ret-is, ret-kept, branch-is, branch_kept, branch_cond-is, branch_cond-kept}
use Rattle.frame.proofs.OperationsArms.{op-is, op-kept}
use Rattle.interpreter.specs.code.Run.{procedure_of, type_of, changes_memory, row_of, turn_at, step_at}
use Rattle.interpreter.proofs.Live.{Live, live_step}
use Rattle.interpreter.proofs.Frames.{live_low}
use Rattle.interpreter.proofs.Untouched.{Untouched, stays, pushes, moves, copies, stores, reads, borrows, finds, asks, called, returned, branches, operates}
use Rattle.interpreter.proofs.Facts.{own, row, takes, opcode, own_same, row_same, row-instruction, taken, takes_fixed, pushed_room, pack-room, unpacks, type-low, field-low, named-same, packs, callee_same, calls, returns, return_room, local-low, local-kind}

-- how many operands there are
length_back : (xs ys : List Operand) → length (back_to xs ys) ≡ length xs + length ys
length_back [] ys = omega arith
length_back (x ∷ xs) ys = length_back xs (x ∷ ys) ∙ omega arith

module _ (t : List ℕ) (J : Judged t (index_of t)) (cs : List Operand) (s : State) (h : Stands cs s) (l : Live t (view_of cs s)) where
  abbrev me : ProcedureEntry
  me = own t J cs s l

  abbrev now : Row
  now = row t J cs s l

  abbrev many : ℕ
  many = takes t J cs s l

  abbrev named : TypeEntry
  named = type_of (index_of t) now.b

  abbrev callee : ProcedureEntry
  callee = procedure_of (index_of t) now.b

  abbrev results : ℕ
  results = me.code - me.results

  abbrev all : List Turning
  all = turns now.b now.d (local_kind t me now.b) (named.end - (named.row + 1)) (parameters_end t callee - (callee.row + 1)) (local_count callee) results cs s

  step_turn : step_at t (index_of t) cs s ≡ get_or all now.a (ends cs s Broken)
  unfolding turn_at turn_of
  step_turn = rw (row_same t J cs s l, own_same t J cs s l)

  pub step_shape : Shape cs s (eqb now.a 16) (step_at t (index_of t) cs s)
  step_shape = rw step_turn (turn_shape cs s now.b now.d (local_kind t me now.b) (named.end - (named.row + 1)) (parameters_end t callee - (callee.row + 1)) (local_count callee) results now.a)

  -- what an instruction takes is there, and there is room for what it pushes
  some-taken : (a n : ℕ) → now.a ≡ a → many ≡ n → n ≤ s.height
  some-taken a n e q = omega (arith, taken t J cs s l)

  step_doing : mstep t (index_of t) (view_of cs s) ≡ doing now.b now.d (local_kind t me now.b) many (local_count (procedure_in (index_of t) now.b) - many) cs s now.a
  unfolding did
  step_doing = rw (← row-instruction t J cs s l)

  -- Unpack: what comes after it is on the way
  unpack-room : now.a ≡ 10 → (c m y : ℕ) → top_at cs s 0 ≡ Record c m y → is_live (head_in cs m) c ≡ true → s.height - 1 + second_of (head_in cs m) ≤ 16
  unfolding doings
  unpack-room e c m y q live =
      let n : many ≡ 1 = unpacks t J cs s l e in
      let k = second_of (head_in cs m) in
      let z = rw (step_doing, e, n, top-is cs s, q, room_of_lem cs h.whole m c, live) at (live_step t J l) in
      omega (arith, live_low t J z, length_back (up_from cs (room_cell m + 1) k) (drop 1 (operands_in cs s)), length_up cs (room_cell m + 1) k, length-drop 1 (operands_in cs s), length_down cs (operand_cell s.depth) s.height)

  module _ (records-few : s.records < 4294967295) (frames-few : s.frames < 4294967295) where
    abbrev kind : ℕ
    kind = local_kind t me now.b

    abbrev others : ℕ
    others = local_count (procedure_in (index_of t) now.b) - many

    room : (a : ℕ) → now.a ≡ a → many ≡ 0 → s.height - many < 16 → s.height < 16
    room a e n r = omega arith

    by_opcode : Each (λ (a : ℕ) (turn : Turning). now.a ≡ a → outcome_of results turn ≡ doing now.b now.d kind many others cs s a) all
    unfolding turns
    by_opcode =
        (λ e. let n : many ≡ 1 = takes_fixed t J cs s l 0 refl e in rw n (pop-is cs s h results now.b now.d kind _))
        ▸ (λ e. let n : many ≡ 0 = takes_fixed t J cs s l 1 refl e in rw n (const_is cs s h results now.b now.d kind _ (room 1 e n (pushed_room t J cs s l 1 refl e (omega arith)))))
        ▸ (λ e. let n : many ≡ 0 = takes_fixed t J cs s l 2 refl e in rw n (move_is cs s h results now.b now.d kind _ (room 2 e n (pushed_room t J cs s l 2 refl e (omega arith)))))
        ▸ (λ e. let n : many ≡ 0 = takes_fixed t J cs s l 3 refl e in rw n (copy_is cs s h results now.b now.d kind _ (room 3 e n (pushed_room t J cs s l 3 refl e (omega arith)))))
        ▸ (λ e. let n : many ≡ 1 = takes_fixed t J cs s l 4 refl e in rw n (store_is cs s h results now.b now.d kind _ (some-taken 4 1 e n)))
        ▸ (λ e. let n : many ≡ 0 = takes_fixed t J cs s l 5 refl e in rw n (borrow_is cs s h results now.b now.d kind _ (room 5 e n (pushed_room t J cs s l 5 refl e (omega arith))) (local-low t J cs s l e) (local-kind t J cs s l e)))
        ▸ (λ e. let n : many ≡ 1 = takes_fixed t J cs s l 6 refl e in rw n (read_is cs s h results now.b now.d kind _))
        ▸ (λ e. let n : many ≡ 2 = takes_fixed t J cs s l 7 refl e in rw n (write_is cs s h results now.b now.d kind _))
        ▸ (λ e. let n : many ≡ 1 = takes_fixed t J cs s l 8 refl e in rw n (borrow_field_is cs s h results now.b now.d kind _ (field-low t J cs s l e)))
        ▸ (λ e. let p = packs t J cs s l e in
        rw (named-same t J cs s l e, ← p.0) (pack-is cs s h results many now.b now.d kind others (taken t J cs s l) p.1 (pack-room t J cs s l e) (omega (arith, type-low t J cs s l 9 e (omega arith) (omega arith))) records-few))
        ▸ (λ e. let n : many ≡ 1 = unpacks t J cs s l e in rw n (unpack-is cs s h results now.b now.d kind _ (unpack-room e)))
        ▸ (λ e. let n : many ≡ 2 = takes_fixed t J cs s l 11 refl e in rw n (move_to-is cs s h results now.b now.d kind _ (omega (arith, type-low t J cs s l 11 e (omega arith) (omega arith)))))
        ▸ (λ e. let n : many ≡ 1 = takes_fixed t J cs s l 12 refl e in rw n (move_from-is cs s h results now.b now.d kind _ (omega (arith, type-low t J cs s l 12 e (omega arith) (omega arith)))))
        ▸ (λ e. let n : many ≡ 1 = takes_fixed t J cs s l 13 refl e in rw n (global_is cs s h results now.b now.d kind _ (omega (arith, type-low t J cs s l 13 e (omega arith) (omega arith)))))
        ▸ (λ e. let n : many ≡ 1 = takes_fixed t J cs s l 14 refl e in rw n (exists-is cs s h results now.b now.d kind _ (omega (arith, type-low t J cs s l 14 e (omega arith) (omega arith)))))
        ▸ (λ e. let p = calls t J cs s l e in
        rw (callee_same t J cs s l e, ← p.0) (call-is cs s h many (local_count (procedure_in (index_of t) now.b)) (taken t J cs s l) p.1 p.2 results now.b now.d kind frames-few))
        ▸ (λ e. let p = returns t J cs s l e in
        rw (← p.0) (ret-is cs s h many now.b now.d kind others (taken t J cs s l) (λ p. (return_room t J cs s l e (s.depth - 1) (omega arith)).0) (λ p. (return_room t J cs s l e (s.depth - 1) (omega arith)).1)))
        ▸ (λ e. let n : many ≡ 0 = takes_fixed t J cs s l 17 refl e in rw n (branch-is cs s h results now.b now.d kind _))
        ▸ (λ e. let n : many ≡ 1 = takes_fixed t J cs s l 18 refl e in rw n (branch_cond-is cs s h results now.b now.d kind _))
        ▸ (λ e. let n : many ≡ 2 = takes_fixed t J cs s l 19 refl e in rw n (op-is cs s h results now.b now.d kind _))
        ▸ (λ e. let n : many ≡ 1 = takes_fixed t J cs s l 20 refl e in rw n (freeze-is cs s h results now.b now.d kind _ (some-taken 20 1 e n)))
        ▸ tt

    pub step_is : outcome_of results (step_at t (index_of t) cs s) ≡ mstep t (index_of t) (view_of cs s)
    unfolding turns
    step_is = rw (step_turn, step_doing) (each-listed (λ (a : ℕ) (turn : Turning). now.a ≡ a → outcome_of results turn ≡ doing now.b now.d kind many others cs s a) all (ends cs s Broken) by_opcode now.a (opcode t J cs s l) refl)

    kept_by_opcode : Each (λ (a : ℕ) (turn : Turning). now.a ≡ a → Kept cs s turn) all
    unfolding turns
    kept_by_opcode =
        (λ e. pop_kept cs s h)
        ▸ (λ e. let n : many ≡ 0 = takes_fixed t J cs s l 1 refl e in const_kept cs s h now.d (room 1 e n (pushed_room t J cs s l 1 refl e (omega arith))))
        ▸ (λ e. move_kept cs s h now.b)
        ▸ (λ e. let n : many ≡ 0 = takes_fixed t J cs s l 3 refl e in copy_kept cs s h now.b (room 3 e n (pushed_room t J cs s l 3 refl e (omega arith))))
        ▸ (λ e. store_kept cs s h now.b (some-taken 4 1 e (takes_fixed t J cs s l 4 refl e)))
        ▸ (λ e. let n : many ≡ 0 = takes_fixed t J cs s l 5 refl e in borrow_kept cs s h now.b kind (room 5 e n (pushed_room t J cs s l 5 refl e (omega arith))))
        ▸ (λ e. read_kept cs s h)
        ▸ (λ e. write_kept cs s h)
        ▸ (λ e. borrow_field_kept cs s h now.b)
        ▸ (λ e. let p = packs t J cs s l e in
        rw (named-same t J cs s l e, ← p.0) (pack-kept cs s h many now.b (taken t J cs s l) p.1 (pack-room t J cs s l e) records-few))
        ▸ (λ e. unpack-kept cs s h (unpack-room e))
        ▸ (λ e. move_to-kept cs s h now.b)
        ▸ (λ e. move_from-kept cs s h now.b)
        ▸ (λ e. global_kept cs s h now.b)
        ▸ (λ e. exists-kept cs s h now.b)
        ▸ (λ e. let p = calls t J cs s l e in
        rw (callee_same t J cs s l e, ← p.0) (call_kept cs s h many (local_count (procedure_in (index_of t) now.b)) (taken t J cs s l) p.1 p.2 now.b))
        ▸ (λ e. let p = returns t J cs s l e in rw (← p.0) (ret-kept cs s h many (taken t J cs s l) (λ q. (return_room t J cs s l e (s.depth - 1) (omega arith)).0)))
        ▸ (λ e. branch_kept cs s h now.b)
        ▸ (λ e. branch_cond-kept cs s h now.b)
        ▸ (λ e. op-kept cs s h now.b)
        ▸ (λ e. freeze-kept cs s h)
        ▸ tt

    pub step_kept : Kept cs s (step_at t (index_of t) cs s)
    unfolding turns
    step_kept = rw step_turn (each-listed (λ (a : ℕ) (turn : Turning). now.a ≡ a → Kept cs s turn) all (ends cs s Broken) kept_by_opcode now.a (opcode t J cs s l) refl)

  untouched_by_opcode : Each (λ (a : ℕ) (turn : Turning). now.a ≡ a → changes_memory a ≡ false → Untouched cs s turn) all
  unfolding turns changes_memory
  untouched_by_opcode =
      (λ e c. stays cs s (popped_by s) refl refl)
      ▸ (λ e c. pushes cs s h s.height (Number now.d) h.low)
      ▸ (λ e c. moves cs s h now.b)
      ▸ (λ e c. copies cs s h now.b)
      ▸ (λ e c. stores cs s h now.b (some-taken 4 1 e (takes_fixed t J cs s l 4 refl e)))
      ▸ (λ e c. pushes cs s h s.height (Refer (Local s.serial s.depth (now.b % 256) (local_kind t me now.b % 65536))) h.low)
      ▸ (λ e c. reads cs s h)
      ▸ (λ e c. absurd (true≢false c))
      ▸ (λ e c. borrows cs s h now.b)
      ▸ (λ e c. absurd (true≢false c))
      ▸ (λ e c. absurd (true≢false c))
      ▸ (λ e c. absurd (true≢false c))
      ▸ (λ e c. absurd (true≢false c))
      ▸ (λ e c. finds cs s h now.b)
      ▸ (λ e c. asks cs s h now.b)
      ▸ (λ e c. let p = calls t J cs s l e in rw (callee_same t J cs s l e, ← p.0) (called cs s h many (local_count (procedure_in (index_of t) now.b)) now.b (taken t J cs s l) p.1 p.2))
      ▸ (λ e c. let p = returns t J cs s l e in rw (← p.0) (returned cs s h many (taken t J cs s l) (λ q. (return_room t J cs s l e (s.depth - 1) (omega arith)).0)))
      ▸ (λ e c. stays cs s (gone_to s now.b) refl refl)
      ▸ (λ e c. branches cs s h now.b)
      ▸ (λ e c. operates cs s h now.b)
      ▸ (λ e c. stays cs s (gone_on s) refl refl)
      ▸ tt

  pub step_untouched : changes_memory (row_of t (index_of t) s).a ≡ false → Untouched cs s (step_at t (index_of t) cs s)
  unfolding turns
  step_untouched c = rw step_turn (each-listed (λ (a : ℕ) (turn : Turning). now.a ≡ a → changes_memory a ≡ false → Untouched cs s turn) all (ends cs s Broken) untouched_by_opcode now.a (opcode t J cs s l) refl (rw (row_same t J cs s l) at c))
