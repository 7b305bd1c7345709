-- What most instructions come to: the running frame goes on with other operands, or the call ends; and what they keep.
use Prim.Native.Nat.{ℕ, ◌+◌, ◌-◌, ◌*◌, ◌<◌, ◌≤◌}
use mathlib.Core.Path.{◌≡◌, refl, ◌∙◌}
use mathlib.Core.Bool.{cond}
use mathlib.Core.Logic.{inl, inr}
use mathlib.Core.List.{List, ◌∷◌}
use native.Mathlib.Omega.{arith}
use borrow.Author.Tests.{lt-ltb}
use lib.Dec.{ltb}
use lib.ListN.{length, get_or, drop}
use Rattle.state.specs.declared.Operand.{Operand}
use Rattle.state.specs.declared.Operand.TheVariants.{Empty}
use Rattle.state.specs.declared.frames.State.{State}
use Rattle.state.specs.declared.stops.Stop.{Stop}
use Rattle.state.specs.code.Layout.{operand_cell, local_cell, room_cell}
use Rattle.state.specs.code.Frames.{with_height, pushed_in, gone_to, stopped_with}
use Rattle.state.specs.code.Stops.{number_of}
use Rattle.machine.specs.code.Machine.{mframe, mstate, mnext}
use Rattle.machine.specs.code.Views.{up_from, down_from, operands_in, locals_in, below_in, rooms_in, entries_in, Same}
use Rattle.machine.proofs.Views.{below-same, rooms_same, entries-same, length-pushed, pushed-same, push-operands, push-locals, drop-is}
use Rattle.frame.specs.code.Turning.{after, ends, settled}
use Rattle.frame.specs.code.Stack.{pushing}
use Rattle.frame.proofs.Meaning.{outcome_of, Tidy, Stands, Kept}

-- What is kept where the heads of rooms, and which rooms may be in use or free, stay.
pub kept : (cs ds : List Operand) (s s' : State) → length ds ≡ length cs → ((r : ℕ) → r < 128 → get_or ds (room_cell r) Empty ≡ get_or cs (room_cell r) Empty) → s'.rooms ≡ s.rooms → s'.free ≡ s.free → s'.records ≤ s.records + 1 → s'.frames ≤ s.frames + 1
    → Kept cs s (after s' ds)
kept cs ds s s' e h p q a b = (e, tidy, a, b)
  where
    tidy : Tidy cs s → Tidy ds s'
    tidy t = record {
      in_use = λ r l. rw (h r (omega (arith, t.free_low))) (t.in_use r (omega arith));
      unused = λ r l m. rw (h r m) (t.unused r (omega arith) m);
      free_low = omega (arith, t.free_low);
    }

pub stopped-kept : (cs : List Operand) (s : State) (n : ℕ) → Kept cs s (after (stopped_with s n) cs)
stopped-kept cs s n = kept cs cs s _ refl (λ r l. refl) refl refl (omega arith) (omega arith)

pub ends-kept : (cs : List Operand) (s : State) (n : Stop) → Kept cs s (ends cs s n)
ends-kept cs s n = stopped-kept cs s (number_of n)

module _ (cs : List Operand) (s : State) (st : Stands cs s) where
  -- The running frame goes on, in cells that hold the same below it, and in the suspended frames, the store and the rooms.
  module _ (ds : List Operand) (high : Same 512 1824 cs ds) (h i : ℕ) where
    pub goes-is : (k : ℕ) → Same 0 (32 * s.depth) cs ds → outcome_of k (after (gone_to (with_height s h) i) ds)
        ≡ mnext (mstate (mframe s.serial s.procedure i (down_from ds (operand_cell s.depth) h) (up_from ds (local_cell s.depth) s.count)) (below_in cs s.depth) (rooms_in cs) s.records (entries_in cs s.entries) s.frames)
    goes-is k low = rw (
      st.running,
      below-same cs ds s.depth st.suspended_low st.suspended_few low (λ i a b. high i a (omega (arith, st.shallow))),
      rooms_same cs ds st.fields (λ i a b. high i (omega arith) b),
      entries-same cs ds s.entries (λ i a b. high i (omega arith) (omega (arith, st.stored))),
    )

    pub goes_kept : length ds ≡ length cs → Kept cs s (after (gone_to (with_height s h) i) ds)
    goes_kept e = kept cs ds s _ e (λ r l. high (room_cell r) (omega arith) (omega arith)) refl refl (omega arith) (omega arith)

  -- the next instruction
  pub next-is : cond (ltb s.at 65535) (s.at + 1) s.at ≡ s.at + 1
  next-is = rw (lt-ltb s.at 65535 st.inside)

  -- An operand is pushed on h of the operands.
  module _ (h : ℕ) (x : Operand) (room : h < 16) where
    pub push-is : (k : ℕ) → outcome_of k (pushing cs (with_height s h) x)
        ≡ mnext (mstate (mframe s.serial s.procedure (s.at + 1) (x ∷ down_from cs (operand_cell s.depth) h) (locals_in cs s)) (below_in cs s.depth) (rooms_in cs) s.records (entries_in cs s.entries) s.frames)
    push-is k =
        goes-is (pushed_in cs (with_height s h) x) high _ _ k (pushed-same cs (with_height s h) 0 (32 * s.depth) x (inr (omega arith)))
        ∙ rw (next-is, push-operands cs (with_height s h) st.whole st.shallow x room, push-locals cs (with_height s h) st.whole st.shallow x room)
      where
        high : Same 512 1824 cs (pushed_in cs (with_height s h) x)
        high = pushed-same cs (with_height s h) 512 1824 x (inl (omega (arith, st.shallow)))

    pub push_kept : Kept cs s (pushing cs (with_height s h) x)
    push_kept = goes_kept (pushed_in cs (with_height s h) x) (pushed-same cs (with_height s h) 512 1824 x (inl (omega (arith, st.shallow)))) _ _ (length-pushed cs (with_height s h) x)

  -- n operands are taken and one is pushed.
  module _ (n : ℕ) (x : Operand) (room : s.height - n < 16) where
    pub settle_is : (k : ℕ) → outcome_of k (settled cs s n x)
        ≡ mnext (mstate (mframe s.serial s.procedure (s.at + 1) (x ∷ drop n (operands_in cs s)) (locals_in cs s)) (below_in cs s.depth) (rooms_in cs) s.records (entries_in cs s.entries) s.frames)
    settle_is k = rw (drop-is cs s n) (push-is (s.height - n) x room k)

    pub settle-kept : Kept cs s (settled cs s n x)
    settle-kept = push_kept (s.height - n) x room
