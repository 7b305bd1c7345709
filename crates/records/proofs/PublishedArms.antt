-- MoveTo, MoveFrom, BorrowGlobal and Exists are what the machine on lists does.
use Prim.Native.Nat.{ℕ, ◌+◌, ◌-◌, ◌%◌, ◌≤◌, ◌<◌}
use mathlib.Core.Path.{◌≡◌, refl, ◌∙◌}
use mathlib.Core.Bool.{Bool, true, false, cond}
use mathlib.Core.Logic.{◌⊎◌, inl, inr}
use mathlib.Core.List.{List, ◌∷◌}
use mathlib.Core.Option.{none, some}
use native.Mathlib.Omega.{arith}
use native.Mathlib.Decide.{dec_lt}
use borrow.Author.Tests.{lt-ltb, le-ltb, le-leb, lt-leb}
use lib.Dec.{ltb, leb}
use lib.ListN.{length, get_or, drop}
use Rattle.arithmetic.specs.Arithmetic.{truth}
use Rattle.semantics.specs.Limits.{key_taken, no_such_key, too_many_entries}
use Rattle.state.specs.declared.Reference.TheVariants.{Record as Whole}
use Rattle.state.specs.declared.Operand.{Operand}
use Rattle.state.specs.declared.Operand.TheVariants.{Empty, Number, Record, Refer}
use Rattle.state.specs.declared.frames.State.{State}
use Rattle.state.specs.declared.stops.Stop.{Stop}
use Rattle.state.specs.declared.stops.Stop.TheVariants.{KeyTaken, NoSuchKey, TooManyEntries, Broken}
use Rattle.state.specs.code.Coding.{first_of, second_of}
use Rattle.state.specs.code.Layout.{operand_cell, local_cell, suspended_cell, entry_cell, room_cell}
use Rattle.state.specs.code.Frames.{top_at, dropped, gone_on}
use Rattle.state.specs.code.Entries.{added_in, removed_in}
use Rattle.machine.specs.code.Machine.{mframe, mentry, mstate, MOutcome, mnext, mstopped, mbroken, as_number, as_record, find_entry, drop_entry, under_entry, doings}
use Rattle.machine.specs.code.Views.{operands_in, locals_in, below_in, rooms_in, entry_in, entries_in, Same}
use Rattle.machine.proofs.Views.{length-entries, below-same, rooms_same, down_same, up_same, top-is, second_is, drop-is}
use Rattle.machine.proofs.Memory.{find-is, length_added, added_same, entries_added, length_removed, removed_same, entries_removed}
use Rattle.frame.specs.code.Turning.{Turning, after, ends, settled}
use Rattle.frame.specs.code.Operations.{with_number}
use Rattle.records.specs.code.Published.{with_entries, found, moved_to, move_to_of, taken_out, move_from_of, global_at, global_of, exists_of}
use Rattle.frame.proofs.Meaning.{outcome_of, doing, Stands, Kept}
use Rattle.frame.proofs.Settles.{kept, next-is, settle_is, settle-kept, ends-kept}
use Rattle.references.proofs.TargetsArms.{onward, number_is, number-kept}

module _ (cs : List Operand) (s : State) (st : Stands cs s) where
  -- what lies in the second cell of entry i
  abbrev held_at : ℕ → Operand
  held_at i = get_or cs (entry_cell i + 1) Empty

  -- the entry under a key
  under-is : (y a : ℕ) (absent : MOutcome) (present : ℕ → ℕ → MOutcome) → under_entry (find_entry (entries_in cs s.entries) y a) absent present ≡ cond (ltb (found cs s y a) s.entries) (present (first_of (held_at (found cs s y a))) (second_of (held_at (found cs s y a)))) absent
  under-is y a absent present = rw (find-is cs s.entries y a) (go (ltb (found cs s y a) s.entries))
    where
      go : (t : Bool) → under_entry (cond t (some (entry_in cs (found cs s y a))) none) absent present ≡ cond t (present (first_of (held_at (found cs s y a))) (second_of (held_at (found cs s y a)))) absent
      go true = refl
      go false = refl

  -- an instruction on entry i, if there is one, and what it keeps
  entry-is : (k i : ℕ) (x : Turning) (z : MOutcome) → (i < s.entries → outcome_of k x ≡ z) → outcome_of k (cond (leb s.entries i) (ends cs s NoSuchKey) x) ≡ cond (ltb i s.entries) z (mstopped no_such_key)
  entry-is k i x z h = go (dec_lt i s.entries)
    where
      go : Dec (i < s.entries) → outcome_of k (cond (leb s.entries i) (ends cs s NoSuchKey) x) ≡ cond (ltb i s.entries) z (mstopped no_such_key)
      go (yes l) = rw (lt-leb s.entries i l, lt-ltb i s.entries l) (h l)
      go (no l) = rw (le-leb s.entries i (omega arith), le-ltb i s.entries (omega arith))

  ends_or_kept : (t : Bool) (n : Stop) (x : Turning) → Kept cs s x → Kept cs s (cond t (ends cs s n) x)
  ends_or_kept true n x h = ends-kept cs s n
  ends_or_kept false n x h = h

  -- BorrowGlobal
  pub global_is : (k b d kind others : ℕ) → b < 256 → outcome_of k (global_of cs s b) ≡ doing b d kind 1 others cs s 13
  unfolding doings
  global_is k b d kind others typed =
      let e : b % 256 ≡ b = omega arith in
      rw (top-is cs s, e)
      (number_is cs s k (top_at cs s 0) (λ (a : ℕ). global_at cs s b (found cs s b a)) _ (λ a. rw (under-is b a (mstopped no_such_key) (λ (c r : ℕ). onward cs s 1 (Refer (Whole c r b)))) (entry-is k (found cs s b a) _ _ (λ l. settle_is cs s st 1 _ (omega (arith, st.low)) k))))

  pub global_kept : (b : ℕ) → Kept cs s (global_of cs s b)
  global_kept b = number-kept cs s (top_at cs s 0) (λ (a : ℕ). global_at cs s (b % 256) (found cs s (b % 256) a)) (λ a. ends_or_kept (leb s.entries (found cs s (b % 256) a)) NoSuchKey _ (settle-kept cs s st 1 _ (omega (arith, st.low))))

  -- Exists
  pub exists-is : (k b d kind others : ℕ) → b < 256 → outcome_of k (exists_of cs s b) ≡ doing b d kind 1 others cs s 14
  unfolding doings
  exists-is k b d kind others typed =
      let e : b % 256 ≡ b = omega arith in
      rw (top-is cs s, e) (number_is cs s k (top_at cs s 0) (λ (a : ℕ). settled cs s 1 (Number (truth (ltb (found cs s b a) s.entries)))) _ (λ a. rw (under-is b a (onward cs s 1 (Number 0)) (λ (c r : ℕ). onward cs s 1 (Number 1))) (go (ltb (found cs s b a) s.entries))))
    where
      go : (t : Bool) → outcome_of k (settled cs s 1 (Number (truth t))) ≡ cond t (onward cs s 1 (Number 1)) (onward cs s 1 (Number 0))
      go true = settle_is cs s st 1 _ (omega (arith, st.low)) k
      go false = settle_is cs s st 1 _ (omega (arith, st.low)) k

  pub exists-kept : (b : ℕ) → Kept cs s (exists_of cs s b)
  exists-kept b = number-kept cs s (top_at cs s 0) (λ (a : ℕ). settled cs s 1 (Number (truth (ltb (found cs s (b % 256) a) s.entries)))) (λ a. settle-kept cs s st 1 _ (omega (arith, st.low)))

  -- MoveFrom: entry i taken out leaves all else as it was
  module _ (i : ℕ) where
    abbrev ds : List Operand
    ds = removed_in cs s.entries i

    low_same : (a b : ℕ) → b ≤ 544 → Same a b cs ds
    low_same a b l = removed_same cs s.entries i a b st.stored (inr l)

    head_same : (r : ℕ) → r < 128 → get_or ds (room_cell r) Empty ≡ get_or cs (room_cell r) Empty
    head_same r l = removed_same cs s.entries i 672 1824 st.stored (inl (omega arith)) (room_cell r) (omega arith) (omega arith)

    removed_kept : Kept cs s (after (with_entries s (s.entries - 1)) ds)
    removed_kept = kept cs ds s _ (length_removed cs s.entries i) head_same refl refl (omega arith) (omega arith)

    removed_stands : Stands ds (with_entries s (s.entries - 1))
    removed_stands = record {
      whole = length_removed cs s.entries i ∙ st.whole;
      running = st.running;
      named = st.named;
      inside = st.inside;
      low = st.low;
      few = st.few;
      shallow = st.shallow;
      suspended_low = λ d l. rw (low_same 512 544 (omega arith) (suspended_cell d) (omega arith) (omega (arith, st.shallow))) (st.suspended_low d l);
      suspended_few = λ d l. rw (low_same 512 544 (omega arith) (suspended_cell d) (omega arith) (omega (arith, st.shallow))) (st.suspended_few d l);
      fields = λ r l. rw (head_same r l) (st.fields r l);
      stored = omega (arith, st.stored);
      tidy = removed_kept.1 st.tidy;
    }

    taken-kept : (x : Operand) → Kept cs s (settled ds (with_entries s (s.entries - 1)) 1 x)
    taken-kept x =
        let h = settle-kept ds (with_entries s (s.entries - 1)) removed_stands 1 x (omega (arith, st.low)) in
        (h.0 ∙ removed_kept.0, (λ t. h.1 (removed_kept.1 t)), omega arith, omega arith)

  pub move_from-is : (k b d kind others : ℕ) → b < 256 → outcome_of k (move_from_of cs s b) ≡ doing b d kind 1 others cs s 12
  unfolding doings
  move_from-is k b d kind others typed =
      let e : b % 256 ≡ b = omega arith in
      rw (top-is cs s, e) (number_is cs s k (top_at cs s 0) (λ (a : ℕ). taken_out cs s b (found cs s b a)) _ (λ a. rw (under-is b a (mstopped no_such_key) (λ (c r : ℕ). without a (Record c r b))) (entry-is k (found cs s b a) _ _ (taken a _))))
    where
      without : ℕ → Operand → MOutcome
      without a x = mnext (mstate (mframe s.serial s.procedure (s.at + 1) (x ∷ drop 1 (operands_in cs s)) (locals_in cs s)) (below_in cs s.depth) (rooms_in cs) s.records (drop_entry (entries_in cs s.entries) b a) s.frames)

      taken : (a : ℕ) (x : Operand) → found cs s b a < s.entries → outcome_of k (settled (removed_in cs s.entries (found cs s b a)) (with_entries s (s.entries - 1)) 1 x) ≡ without a x
      taken a x l =
          let i = found cs s b a in
          settle_is (ds i) (with_entries s (s.entries - 1)) (removed_stands i) 1 x (omega (arith, st.low)) k
          ∙ rw (
            entries_removed cs s.entries b a st.whole st.stored l,
            rooms_same cs (ds i) st.fields (removed_same cs s.entries i 672 1824 st.stored (inl (omega arith))),
            down_same cs (ds i) (operand_cell s.depth) s.height (low_same i _ _ (omega (arith, st.low, st.shallow))),
            up_same cs (ds i) (local_cell s.depth) s.count (low_same i _ _ (omega (arith, st.few, st.shallow))),
            below-same cs (ds i) s.depth st.suspended_low st.suspended_few (low_same i _ _ (omega (arith, st.shallow))) (low_same i _ _ (omega (arith, st.shallow))),
          )

  pub move_from-kept : (b : ℕ) → Kept cs s (move_from_of cs s b)
  move_from-kept b = number-kept cs s (top_at cs s 0) (λ (a : ℕ). taken_out cs s (b % 256) (found cs s (b % 256) a)) (λ a. ends_or_kept (leb s.entries (found cs s (b % 256) a)) NoSuchKey _ (taken-kept (found cs s (b % 256) a) _))

  -- MoveTo
  pub move_to-is : (k b d kind others : ℕ) → b < 256 → outcome_of k (move_to_of cs s b) ≡ doing b d kind 2 others cs s 11
  unfolding doings
  move_to-is k b d kind others typed = let e : b % 256 ≡ b = omega arith in rw (top-is cs s, second_is cs s, e) (go (top_at cs s 0) (top_at cs s 1))
    where
      stored : (a c m : ℕ) → MOutcome
      stored a c m = mnext (mstate (mframe s.serial s.procedure (s.at + 1) (drop 2 (operands_in cs s)) (locals_in cs s)) (below_in cs s.depth) (rooms_in cs) s.records (mentry b a c m ∷ entries_in cs s.entries) s.frames)

      adding : (a c m : ℕ) → Turning
      adding a c m = after (gone_on (dropped (with_entries s (s.entries + 1)) 2)) (added_in cs s.entries b a c m)

      added : (a c m : ℕ) → s.entries < 64 → outcome_of k (adding a c m) ≡ stored a c m
      added a c m l =
          rw (
            st.running,
            next-is cs s st,
            drop-is cs s 2,
            entries_added cs s.entries b a c m st.whole l,
            rooms_same cs es st.fields (same _ _ (inl (omega arith))),
            down_same cs es (operand_cell s.depth) (s.height - 2) (same _ _ (inr (omega (arith, st.low, st.shallow)))),
            up_same cs es (local_cell s.depth) s.count (same _ _ (inr (omega (arith, st.few, st.shallow)))),
            below-same cs es s.depth st.suspended_low st.suspended_few (same _ _ (inr (omega (arith, st.shallow)))) (same _ _ (inr (omega (arith, st.shallow)))),
          )
        where
          es : List Operand
          es = added_in cs s.entries b a c m

          same : (p q : ℕ) → (entry_cell s.entries + 1 < p) ⊎ (q ≤ entry_cell s.entries) → Same p q cs es
          same = added_same cs s.entries b a c m

      room : (a c m : ℕ) → Dec (s.entries < 64) → outcome_of k (cond (leb 64 s.entries) (ends cs s TooManyEntries) (adding a c m)) ≡ cond (ltb s.entries 64) (stored a c m) (mstopped too_many_entries)
      room a c m (yes l) = rw (lt-leb 64 s.entries l, lt-ltb s.entries 64 l) (added a c m l)
      room a c m (no l) = rw (le-leb 64 s.entries (omega arith), le-ltb s.entries 64 (omega arith))

      key : (a c m : ℕ) (t : Bool) → outcome_of k (cond t (ends cs s KeyTaken) (cond (leb 64 s.entries) (ends cs s TooManyEntries) (adding a c m))) ≡ cond t (mstopped key_taken) (cond (ltb s.entries 64) (stored a c m) (mstopped too_many_entries))
      key a c m true = refl
      key a c m false = room a c m (dec_lt s.entries 64)

      no_number : (y : Operand) → mbroken ≡ as_record y (λ (c r : ℕ). mbroken)
      no_number Empty = refl
      no_number (Number n) = refl
      no_number (Record c m t) = refl
      no_number (Refer r) = refl

      go : (x y : Operand) → outcome_of k (with_number cs s x λ (a : ℕ). moved_to cs s b a y)
          ≡ as_record y (λ (c r : ℕ). as_number x λ (a : ℕ). under_entry (find_entry (entries_in cs s.entries) b a) (cond (ltb (length (entries_in cs s.entries)) 64) (stored a c r) (mstopped too_many_entries)) λ (c' r' : ℕ). mstopped key_taken)
      go Empty y = no_number y
      go (Record c m t) y = no_number y
      go (Refer r) y = no_number y
      go (Number a) Empty = refl
      go (Number a) (Number n) = refl
      go (Number a) (Record c m t) = rw (length-entries cs s.entries, under-is b a (cond (ltb s.entries 64) (stored a c m) (mstopped too_many_entries)) (λ (c' r' : ℕ). mstopped key_taken)) (key a c m (ltb (found cs s b a) s.entries))
      go (Number a) (Refer r) = refl

  pub move_to-kept : (b : ℕ) → Kept cs s (move_to_of cs s b)
  move_to-kept b = number-kept cs s (top_at cs s 0) (λ (a : ℕ). moved_to cs s (b % 256) a (top_at cs s 1)) (λ a. go a (top_at cs s 1))
    where
      room : (a c m : ℕ) → Dec (s.entries < 64) → Kept cs s (cond (leb 64 s.entries) (ends cs s TooManyEntries) (after (gone_on (dropped (with_entries s (s.entries + 1)) 2)) (added_in cs s.entries (b % 256) a c m)))
      room a c m (yes h) = rw (lt-leb 64 s.entries h) (kept cs _ s _ (length_added cs s.entries (b % 256) a c m) (λ r l. added_same cs s.entries (b % 256) a c m 672 1824 (inl (omega arith)) (room_cell r) (omega arith) (omega arith)) refl refl (omega arith) (omega arith))
      room a c m (no h) = rw (le-leb 64 s.entries (omega arith)) (ends-kept cs s TooManyEntries)

      go : (a : ℕ) (x : Operand) → Kept cs s (moved_to cs s (b % 256) a x)
      go a Empty = ends-kept cs s Broken
      go a (Number n) = ends-kept cs s Broken
      go a (Record c m t) = ends_or_kept (ltb (found cs s (b % 256) a) s.entries) KeyTaken _ (room a c m (dec_lt s.entries 64))
      go a (Refer r) = ends-kept cs s Broken
