-- Call, Ret, Branch and BranchCond are what the machine on lists does.
use Prim.Native.Nat.{ℕ, zero, suc, ◌+◌, ◌-◌, ◌*◌, ◌%◌, ◌<◌, ◌≤◌}
use mathlib.Core.Path.{◌≡◌, refl, ap, ◌∙◌}
use mathlib.Core.Bool.{Bool, true, false, cond}
use mathlib.Core.Logic.{inl, inr}
use mathlib.Core.List.{List, [], ◌∷◌, ◌++◌}
use native.Mathlib.Numerals.{add-one}
use native.Mathlib.Omega.{arith}
use native.Mathlib.Decide.{dec_lt}
use borrow.Author.Tests.{lt-ltb, le-ltb, le-leb, lt-leb, eq-eqb, ne_eqb}
use lib.Dec.{eqb, ltb}
use lib.ListN.{length, get_or, drop, replicate}
use Rattle.semantics.specs.Limits.{too_many_frames}
use Rattle.state.specs.declared.Operand.{Operand}
use Rattle.state.specs.declared.Operand.TheVariants.{Empty, Number, Record, Refer}
use Rattle.state.specs.declared.frames.State.{State}
use Rattle.state.specs.declared.stops.Stop.TheVariants.{Done, TooManyFrames, Broken}
use Rattle.state.specs.code.Coding.{number_of, second_of, third_of}
use Rattle.state.specs.code.Layout.{operand_cell, local_cell, suspended_cell, room_cell, all_cells}
use Rattle.state.specs.code.Frames.{next_serial, top_at, dropped, gone_to, gone_on, suspended_in, resumed_at, entered_in, received, received_in}
use Rattle.machine.specs.code.Machine.{MFrame, mframe, mstate, MOutcome, mnext, mstopped, as_number, given, topmost, doings}
use Rattle.machine.specs.code.Views.{up_from, down_from, operands_in, locals_in, frame_in, below_in, rooms_in, entries_in, Same}
use Rattle.machine.proofs.Views.{same_refl, same_trans, up_same, below-same, rooms_same, entries-same, length-below, length_suspended, length-entered, length-received, suspended_same, entered-same, received-same, pair_first, top-is, drop-is, topmost-is, enter_locals, suspend_is, receive_operands, receive_locals}
use Rattle.frame.specs.code.Turning.{after}
use Rattle.frame.specs.code.Control.{call_of, called_in, ret_of, branched_by, branch_of}
use Rattle.frame.proofs.Meaning.{outcome_of, doing, Stands, Kept}
use Rattle.frame.proofs.Settles.{kept, ends-kept, goes-is, goes_kept, next-is}

next_low : (n : ℕ) → next_serial n ≤ n + 1
unfolding next_serial
next_low n = go (ltb n 4294967295)
  where
    go : (t : Bool) → cond t (n + 1) n ≤ n + 1
    go true = omega arith
    go false = omega arith

module _ (cs : List Operand) (s : State) (st : Stands cs s) where
  -- Branch
  pub branch-is : (k b d kind others : ℕ) → outcome_of k (after (gone_to s b) cs) ≡ doing b d kind 0 others cs s 17
  unfolding doings
  branch-is k b d kind others = goes-is cs s st cs (same_refl cs 512 1824) s.height b k (same_refl cs 0 (32 * s.depth))

  pub branch_kept : (b : ℕ) → Kept cs s (after (gone_to s b) cs)
  branch_kept b = goes_kept cs s st cs (same_refl cs 512 1824) s.height b refl

  -- BranchCond
  pub branch_cond-is : (k b d kind others : ℕ) → outcome_of k (after (branch_of cs s b) cs) ≡ doing b d kind 1 others cs s 18
  unfolding doings
  branch_cond-is k b d kind others = rw (top-is cs s, drop-is cs s 1) (go (top_at cs s 0))
    where
      to : ℕ → MOutcome
      to i = mnext (mstate (mframe s.serial s.procedure i (operands_in cs (dropped s 1)) (locals_in cs s)) (below_in cs s.depth) (rooms_in cs) s.records (entries_in cs s.entries) s.frames)

      goes : (i : ℕ) → outcome_of k (after (gone_to (dropped s 1) i) cs) ≡ to i
      goes i = goes-is cs s st cs (same_refl cs 512 1824) (s.height - 1) i k (same_refl cs 0 (32 * s.depth))

      either : (t : Bool) → outcome_of k (after (cond t (gone_on (dropped s 1)) (gone_to (dropped s 1) b)) cs) ≡ to (cond t (s.at + 1) b)
      either true = goes _ ∙ ap to (next-is cs s st)
      either false = goes b

      go : (x : Operand) → outcome_of k (after (branched_by s b x) cs) ≡ as_number x (λ (n : ℕ). to (cond (eqb n 0) (s.at + 1) b))
      go Empty = refl
      go (Number n) = either (eqb n 0)
      go (Record a c y) = refl
      go (Refer r) = refl

  pub branch_cond-kept : (b : ℕ) → Kept cs s (after (branch_of cs s b) cs)
  branch_cond-kept b = go (top_at cs s 0)
    where
      either : (t : Bool) → Kept cs s (after (cond t (gone_on (dropped s 1)) (gone_to (dropped s 1) b)) cs)
      either true = goes_kept cs s st cs (same_refl cs 512 1824) _ _ refl
      either false = goes_kept cs s st cs (same_refl cs 512 1824) _ _ refl

      go : (x : Operand) → Kept cs s (after (branched_by s b x) cs)
      go Empty = ends-kept cs s Broken
      go (Number n) = either (eqb n 0)
      go (Record a c y) = ends-kept cs s Broken
      go (Refer r) = ends-kept cs s Broken

  -- Call
  module _ (k count : ℕ) (enough : k ≤ s.height) (few : k ≤ count) (most : count ≤ 16) where
    abbrev caller : State
    caller = dropped s k

    abbrev es : List Operand
    es = suspended_in cs caller

    abbrev ds : List Operand
    ds = entered_in es caller k count

    full : length es ≡ all_cells
    full = length_suspended cs caller ∙ st.whole

    call_high : s.depth < 15 → Same 544 1824 cs ds
    call_high deep = same_trans cs es ds 544 1824 (suspended_same cs caller 544 1824 (inl (omega arith))) (entered-same es caller 544 1824 k count few (inl (omega arith)))

    -- the frames below the called one
    call_below : s.depth < 15 → below_in ds (suc s.depth) ≡ frame_in cs caller ∷ below_in cs s.depth
    call_below deep =
        below-same es ds (suc s.depth) (within second_of st.suspended_low (omega (arith, st.low))) (within third_of st.suspended_few st.few) (entered-same es caller 0 (32 * suc s.depth) k count few (inr (omega arith))) (entered-same es caller 512 (512 + 2 * suc s.depth) k count few (inl (omega arith)))
        ∙ suspend_is cs caller st.whole st.shallow st.named (omega (arith, st.inside)) (omega (arith, st.low)) st.few st.suspended_low st.suspended_few
      where
        head : get_or es (suspended_cell s.depth) Empty ≡ Record s.serial (s.height - k) s.count
        head = pair_first cs (suspended_cell s.depth) _ _ (omega (arith, st.whole))

        other : (e : ℕ) → e < s.depth → get_or es (suspended_cell e) Empty ≡ get_or cs (suspended_cell e) Empty
        other e l = suspended_same cs caller 512 (suspended_cell s.depth) (inr (omega arith)) (suspended_cell e) (omega arith) (omega arith)

        within : (f : Operand → ℕ) → ((e : ℕ) → e < s.depth → f (get_or cs (suspended_cell e) Empty) ≤ 16) → f (Record s.serial (s.height - k) s.count) ≤ 16 → (e : ℕ) → e < suc s.depth → f (get_or es (suspended_cell e) Empty) ≤ 16
        within f h l e m = go (dec_lt e s.depth)
          where
            go : Dec (e < s.depth) → f (get_or es (suspended_cell e) Empty) ≤ 16
            go (yes p) = rw (other e p) (h e p)
            go (no p) = let q : e ≡ s.depth = omega arith in rw (q, head) l

    call-locals : s.depth < 15 → up_from ds (local_cell (s.depth + 1)) count ≡ topmost k (operands_in cs s) ++ replicate (count - k) Empty
    call-locals deep =
        let c = operand_cell s.depth + (s.height - k) in
        enter_locals es caller full st.shallow k count (omega (arith, st.low)) few most (omega arith)
        ∙ rw (topmost-is cs s k enough, up_same cs es c k (suspended_same cs caller c (c + k) (inr (omega (arith, st.low)))))

    pub call-is : (r b d kind : ℕ) → s.frames < 4294967295 → outcome_of r (call_of cs s b k count) ≡ doing b d kind k (count - k) cs s 15
    unfolding doings next_serial down_from
    call-is r b d kind h =
        let m : k % 256 ≡ k = omega (arith, st.low) in
        rw (m, le-leb count 16 most, length-below cs s.depth) (go (dec_lt s.depth 15))
      where
        go : Dec (s.depth < 15) → outcome_of r (called_in cs s b k count) ≡ cond (ltb (s.depth + 1) 16)
            (mnext (mstate (mframe s.frames b 0 [] (topmost k (operands_in cs s) ++ replicate (count - k) Empty)) (mframe s.serial s.procedure s.at (drop k (operands_in cs s)) (locals_in cs s) ∷ below_in cs s.depth) (rooms_in cs) s.records (entries_in cs s.entries) (s.frames + 1)))
            (mstopped too_many_frames)
        go (yes deep) =
            rw (lt-leb 15 s.depth deep, lt-ltb (s.depth + 1) 16 (omega arith), st.running, lt-ltb s.frames 4294967295 h, lt-ltb s.depth 255 (omega arith), call-locals deep, add-one s.depth, call_below deep, drop-is cs s k, rooms_same cs ds st.fields (λ i p q. call_high deep i (omega arith) q), entries-same cs ds s.entries (λ i p q. call_high deep i p (omega (arith, st.stored))))
        go (no deep) = rw (le-leb 15 s.depth (omega arith), le-ltb (s.depth + 1) 16 (omega arith))

    pub call_kept : (b : ℕ) → Kept cs s (call_of cs s b k count)
    call_kept b = let m : k % 256 ≡ k = omega (arith, st.low) in rw (m, le-leb count 16 most) (go (dec_lt s.depth 15))
      where
        go : Dec (s.depth < 15) → Kept cs s (called_in cs s b k count)
        go (yes deep) = rw (lt-leb 15 s.depth deep) (kept cs ds s _ (length-entered es caller k count ∙ length_suspended cs caller) (λ r l. call_high deep (room_cell r) (omega arith) (omega arith)) refl refl (omega arith) (next_low s.frames))
        go (no deep) = rw (le-leb 15 s.depth (omega arith)) (ends-kept cs s TooManyFrames)

  -- Ret to the frame at depth d
  module _ (k d : ℕ) (e : s.depth ≡ suc d) (fits : second_of (get_or cs (suspended_cell d) Empty) + k ≤ 16) where
    abbrev back : State
    back = resumed_at cs s d

    abbrev from : ℕ
    from = operand_cell s.depth + (s.height - k)

    abbrev rs : List Operand
    rs = received_in cs back from k

    ret_high : Same 512 1824 cs rs
    ret_high = received-same cs back 512 1824 from k (inl (omega (arith, st.shallow)))

    returns_is : number_of (get_or cs (suspended_cell d + 1) Empty) % 65536 < 65535 → (f : MFrame) → outcome_of k (after (gone_on (received back k)) rs) ≡ given (below_in cs s.depth) (up_from cs from k) (rooms_in cs) s.records (entries_in cs s.entries) s.frames f
    unfolding below_in
    returns_is inside f =
        let deep : d < 16 = omega (arith, st.shallow) in
        rw (
          st.running,
          lt-ltb back.at 65535 inside,
          receive_operands cs back st.whole deep from k fits (omega (arith, st.shallow, st.low)) (inr (omega arith)),
          receive_locals cs back st.whole deep from k fits,
          below-same cs rs d (λ i l. st.suspended_low i (omega arith)) (λ i l. st.suspended_few i (omega arith)) (received-same cs back 0 (32 * d) from k (inr (omega arith))) (λ i p q. ret_high i p (omega arith)),
          rooms_same cs rs st.fields (λ i p q. ret_high i (omega arith) q),
          entries-same cs rs s.entries (λ i p q. ret_high i (omega arith) (omega (arith, st.stored))),
          e,
        )

    returns-kept : Kept cs s (after (gone_on (received back k)) rs)
    returns-kept = kept cs rs s _ (length-received cs back from k) (λ r l. ret_high (room_cell r) (omega arith) (omega arith)) refl refl (omega arith) (omega arith)

  pub ret-is : (k b d kind others : ℕ) → k ≤ s.height → (0 < s.depth → second_of (get_or cs (suspended_cell (s.depth - 1)) Empty) + k ≤ 16) → (0 < s.depth → number_of (get_or cs (suspended_cell (s.depth - 1) + 1) Empty) % 65536 < 65535)
      → outcome_of k (ret_of cs s k) ≡ doing b d kind k others cs s 16
  unfolding doings below_in
  ret-is k b d kind others enough fits inside = go s.depth refl
    where
      go : (n : ℕ) → s.depth ≡ n → outcome_of k (ret_of cs s k) ≡ doing b d kind k others cs s 16
      go zero e = rw (drop-is cs s k, e)
      go (suc n) e =
          let m : k % 256 ≡ k = omega (arith, st.low) in
          let p : s.depth - 1 ≡ n = omega arith in
          rw (m, ne_eqb s.depth 0 (λ q. omega arith), topmost-is cs s k enough, p)
          (returns_is k n e (rw p at (fits (omega arith))) (rw p at (inside (omega arith))) (mframe s.serial s.procedure s.at (drop k (operands_in cs s)) (locals_in cs s)))

  pub ret-kept : (k : ℕ) → k ≤ s.height → (0 < s.depth → second_of (get_or cs (suspended_cell (s.depth - 1)) Empty) + k ≤ 16) → Kept cs s (ret_of cs s k)
  ret-kept k enough fits = go s.depth refl
    where
      go : (n : ℕ) → s.depth ≡ n → Kept cs s (ret_of cs s k)
      go zero e = rw (eq-eqb s.depth 0 e) (ends-kept cs s Done)
      go (suc n) e =
          let m : k % 256 ≡ k = omega (arith, st.low) in
          let p : s.depth - 1 ≡ n = omega arith in
          rw (m, ne_eqb s.depth 0 (λ q. omega arith), p) (returns-kept k n e (rw p at (fits (omega arith))))
