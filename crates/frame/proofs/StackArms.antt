-- Pop, LoadConst, MvLoc, CpLoc, StLoc, BorrowLoc and Freeze are what the machine on lists does.
use Prim.Native.Nat.{ℕ, ◌-◌, ◌*◌, ◌%◌, ◌<◌, ◌≤◌}
use mathlib.Core.Path.{◌≡◌, refl, ◌∙◌}
use mathlib.Core.Logic.{inl, inr}
use mathlib.Core.List.{List, [], ◌∷◌}
use native.Mathlib.Omega.{arith}
use borrow.Author.Tests.{lt-ltb}
use lib.ListN.{length, drop, get_elem? as nth}
use Rattle.state.specs.declared.Operand.{Operand}
use Rattle.state.specs.declared.Operand.TheVariants.{Empty, Number, Refer}
use Rattle.state.specs.declared.Reference.TheVariants.{Local}
use Rattle.state.specs.declared.frames.State.{State}
use Rattle.state.specs.code.Layout.{all_cells}
use Rattle.state.specs.code.Frames.{pushed, pushed_in, gone_on}
use Rattle.machine.specs.code.Machine.{held, top, doings}
use Rattle.machine.specs.code.Views.{operands_in, locals_in, Same}
use Rattle.machine.proofs.Views.{same_refl, same_trans, length_down, length-below, put_local, length-pushed, length_put, pushed-same, put_same, push-operands, push-locals, put-locals, put-operands, drop-is, load_is, store_is as stored_is}
use Rattle.frame.specs.code.Turning.{after}
use Rattle.frame.specs.code.Stack.{popped_by, const_of, move_of, copy_of, store_of, borrow_of}
use Rattle.frame.proofs.Meaning.{outcome_of, doing, Stands, Kept}
use Rattle.frame.proofs.Settles.{goes-is, goes_kept, next-is, push-is, push_kept}

-- the cells after MvLoc, and after StLoc
abbrev move_cells : List Operand → State → ℕ → List Operand
move_cells cs s b = put_local (pushed_in cs s (held (nth (locals_in cs s) b))) s b Empty

abbrev store_cells : List Operand → State → ℕ → List Operand
store_cells cs s b = put_local cs s b (top (operands_in cs s))

-- the top operand on the others
top_back : (xs : List Operand) → 1 ≤ length xs → top xs ∷ drop 1 xs ≡ xs
top_back [] h = absurd (omega arith)
top_back (x ∷ xs) h = refl

module _ (cs : List Operand) (s : State) (st : Stands cs s) where
  -- Pop
  pub pop-is : (k b d kind others : ℕ) → outcome_of k (after (popped_by s) cs) ≡ doing b d kind 1 others cs s 0
  unfolding doings
  pop-is k b d kind others = goes-is cs s st cs (same_refl cs 512 1824) (s.height - 1) _ k (same_refl cs 0 (32 * s.depth)) ∙ rw (next-is cs s st, drop-is cs s 1)

  pub pop_kept : Kept cs s (after (popped_by s) cs)
  pop_kept = goes_kept cs s st cs (same_refl cs 512 1824) _ _ refl

  -- LoadConst
  pub const_is : (k b d kind others : ℕ) → s.height < 16 → outcome_of k (const_of cs s d) ≡ doing b d kind 0 others cs s 1
  unfolding doings
  const_is k b d kind others room = push-is cs s st s.height (Number d) room k

  pub const_kept : (d : ℕ) → s.height < 16 → Kept cs s (const_of cs s d)
  const_kept d room = push_kept cs s st s.height (Number d) room

  -- MvLoc
  move_high : (b : ℕ) → Same 512 1824 cs (move_cells cs s b)
  move_high b = same_trans cs (pushed_in cs s _) (move_cells cs s b) 512 1824 (pushed-same cs s 512 1824 _ (inl (omega (arith, st.shallow, st.low)))) (put_same (pushed_in cs s _) s 512 1824 b Empty (inl (omega (arith, st.shallow, st.few))))

  pub move_is : (k b d kind others : ℕ) → s.height < 16 → outcome_of k (move_of cs s b) ≡ doing b d kind 0 others cs s 2
  unfolding doings
  move_is k b d kind others room =
      rw (load_is cs s st.whole st.shallow b st.few)
      (goes-is cs s st (move_cells cs s b) (move_high b) _ _ k low
      ∙ rw (next-is cs s st, put-operands ds s full st.shallow b Empty (pushed s).height (rw (lt-ltb s.height 16 room) (omega arith)), put-locals ds s full st.shallow b Empty st.few, push-operands cs s st.whole st.shallow x room, push-locals cs s st.whole st.shallow x room))
    where
      x : Operand
      x = held (nth (locals_in cs s) b)

      ds : List Operand
      ds = pushed_in cs s x

      full : length ds ≡ all_cells
      full = length-pushed cs s x ∙ st.whole

      low : Same 0 (32 * s.depth) cs (move_cells cs s b)
      low = same_trans cs ds (move_cells cs s b) 0 (32 * s.depth) (pushed-same cs s 0 (32 * s.depth) x (inr (omega arith))) (put_same ds s 0 (32 * s.depth) b Empty (inr (omega arith)))

  pub move_kept : (b : ℕ) → Kept cs s (move_of cs s b)
  move_kept b = rw (load_is cs s st.whole st.shallow b st.few) (goes_kept cs s st (move_cells cs s b) (move_high b) _ _ (length_put (pushed_in cs s _) s b Empty ∙ length-pushed cs s _))

  -- CpLoc
  pub copy_is : (k b d kind others : ℕ) → s.height < 16 → outcome_of k (copy_of cs s b) ≡ doing b d kind 0 others cs s 3
  unfolding doings
  copy_is k b d kind others room = rw (load_is cs s st.whole st.shallow b st.few) (push-is cs s st s.height (held (nth (locals_in cs s) b)) room k)

  pub copy_kept : (b : ℕ) → s.height < 16 → Kept cs s (copy_of cs s b)
  copy_kept b room = rw (load_is cs s st.whole st.shallow b st.few) (push_kept cs s st s.height (held (nth (locals_in cs s) b)) room)

  -- StLoc
  store_high : (b : ℕ) → Same 512 1824 cs (store_cells cs s b)
  store_high b = put_same cs s 512 1824 b _ (inl (omega (arith, st.shallow, st.few)))

  pub store_is : (k b d kind others : ℕ) → 1 ≤ s.height → outcome_of k (store_of cs s b) ≡ doing b d kind 1 others cs s 4
  unfolding doings
  store_is k b d kind others some =
      rw (stored_is cs s st.whole st.shallow b some st.low)
      (goes-is cs s st (store_cells cs s b) (store_high b) _ _ k (put_same cs s 0 (32 * s.depth) b x (inr (omega arith)))
      ∙ rw (next-is cs s st, put-operands cs s st.whole st.shallow b x (s.height - 1) (omega (arith, st.low)), put-locals cs s st.whole st.shallow b x st.few, drop-is cs s 1))
    where
      x : Operand
      x = top (operands_in cs s)

  pub store_kept : (b : ℕ) → 1 ≤ s.height → Kept cs s (store_of cs s b)
  store_kept b some = rw (stored_is cs s st.whole st.shallow b some st.low) (goes_kept cs s st (store_cells cs s b) (store_high b) _ _ (length_put cs s b _))

  -- BorrowLoc
  pub borrow_is : (k b d kind others : ℕ) → s.height < 16 → b < 256 → kind < 65536 → outcome_of k (borrow_of cs s b kind) ≡ doing b d kind 0 others cs s 5
  unfolding doings
  borrow_is k b d kind others room p q =
      let e : b % 256 ≡ b = omega arith in
      let f : kind % 65536 ≡ kind = omega arith in
      rw (e, f, length-below cs s.depth) (push-is cs s st s.height (Refer (Local s.serial s.depth b kind)) room k)

  pub borrow_kept : (b kind : ℕ) → s.height < 16 → Kept cs s (borrow_of cs s b kind)
  borrow_kept b kind room = push_kept cs s st s.height (Refer (Local s.serial s.depth (b % 256) (kind % 65536))) room

  -- Freeze: the operand stays, since a cell does not tell whether a reference is read-only
  pub freeze-is : (k b d kind others : ℕ) → 1 ≤ s.height → outcome_of k (after (gone_on s) cs) ≡ doing b d kind 1 others cs s 20
  unfolding doings
  freeze-is k b d kind others some =
      goes-is cs s st cs (same_refl cs 512 1824) s.height _ k (same_refl cs 0 (32 * s.depth)) ∙ rw (next-is cs s st, top_back (operands_in cs s) (rw (length_down cs _ s.height) some))

  pub freeze-kept : Kept cs s (after (gone_on s) cs)
  freeze-kept = goes_kept cs s st cs (same_refl cs 512 1824) _ _ refl
