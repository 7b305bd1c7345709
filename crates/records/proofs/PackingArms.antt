-- Pack and Unpack are what the machine on lists does.
use Prim.Native.Nat.{ℕ, ◌+◌, ◌-◌, ◌*◌, ◌%◌, ◌≤◌, ◌<◌}
use mathlib.Core.Path.{◌≡◌, refl, ap, sym, ◌∙◌}
use mathlib.Core.Bool.{Bool, true, false, cond}
use mathlib.Core.Logic.{◌⊎◌, inl, inr}
use mathlib.Core.List.{List, ◌∷◌}
use mathlib.Core.Option.{none, some}
use native.Mathlib.Omega.{arith}
use native.Mathlib.Decide.{dec_lt, ℕ_discrete}
use borrow.Author.Tests.{lt-ltb, le-ltb, le-leb, lt-leb}
use lib.Dec.{ltb, leb}
use lib.ListN.{length, get_or, set, drop, get_elem? as nth, length-set}
use lib.Seq.{get_or-set_same, get_or-set_other}
use Rattle.semantics.specs.Limits.{too_many_records}
use Rattle.semantics.proofs.Changes.{clash}
use Rattle.state.specs.declared.Operand.{Operand}
use Rattle.state.specs.declared.Operand.TheVariants.{Empty, Number, Record, Refer}
use Rattle.state.specs.declared.frames.State.{State}
use Rattle.state.specs.declared.stops.Stop.TheVariants.{TooManyRecords, Broken}
use Rattle.state.specs.code.Coding.{is_record, second_of, third_of}
use Rattle.state.specs.code.Layout.{operand_cell, local_cell, suspended_cell, room_cell}
use Rattle.state.specs.code.Cells.{moved}
use Rattle.state.specs.code.Frames.{next_serial, top_at, dropped, gone_on, received, received_in}
use Rattle.state.specs.code.Rooms.{is_live, first_free}
use Rattle.machine.specs.code.Machine.{mframe, mroom, mstate, MOutcome, mnext, mstopped, back_to, topmost, room_of, as_record, fields_from, doings}
use Rattle.machine.specs.code.Views.{up_from, operands_in, locals_in, below_in, rooms_in, entries_in, Same}
use Rattle.machine.proofs.Views.{same_trans, below-same, rooms_same, entries-same, down_same, up_same, set_same, length_moved, moved_other, moved_same, top-is, drop-is, topmost-is, length-received, received-same, receive_operands, receive_locals}
use Rattle.machine.proofs.Memory.{head_in, head_past, room_of_lem, free_first, free_used, rooms_filled, rooms_cleared}
use Rattle.frame.specs.code.Turning.{ends}
use Rattle.records.specs.code.Packing.{packed_state, unpacked_state, packed_in, pack_of, unpacked_at, unpacked_top, unpack_of}
use Rattle.frame.proofs.Meaning.{outcome_of, doing, Tidy, Stands, Kept}
use Rattle.frame.proofs.Settles.{next-is, settle_is, settle-kept, ends-kept}

-- Pack: a record of type y made in room r of the k top operands
module _ (cs : List Operand) (s : State) (st : Stands cs s) (k y r : ℕ) (enough : k ≤ s.height) (few : k ≤ 8) (inside : r < 128) where
  abbrev p : ℕ
  p = operand_cell s.depth + (s.height - k)

  abbrev ms : List Operand
  ms = moved cs (room_cell r + 1) p k

  abbrev ds : List Operand
  ds = set ms (room_cell r) (Record s.records k y)

  length_ms : length ms ≡ length cs
  length_ms = length_moved cs (room_cell r + 1) p k

  length_ds : length ds ≡ length cs
  length_ds = length-set ms (room_cell r) (Record s.records k y) ∙ length_ms

  low_same : Same 0 672 cs ds
  low_same = same_trans cs ms ds 0 672 (moved_same cs (room_cell r + 1) p k 0 672 (inr (omega arith))) (set_same ms (room_cell r) (Record s.records k y) 0 672 (inr (omega arith)))

  -- the heads of rooms
  head_new : head_in ds r ≡ Record s.records k y
  head_new = get_or-set_same ms (room_cell r) (Record s.records k y) Empty (omega (arith, length_ms, st.whole))

  head_same : (i : ℕ) → (i ≡ r → ⊥) → head_in ds i ≡ head_in cs i
  head_same i n = get_or-set_other ms (room_cell r) (room_cell i) (Record s.records k y) Empty (λ q. n (omega arith)) ∙ moved_other cs (room_cell r + 1) p k (room_cell i) (apart (dec_lt i r))
    where
      apart : Dec (i < r) → (room_cell i < room_cell r + 1) ⊎ (room_cell r + 1 + k ≤ room_cell i)
      apart (yes l) = inl (omega arith)
      apart (no l) = inr (omega arith)

  head_few : (i : ℕ) → i < 128 → second_of (head_in ds i) ≤ 8
  head_few i l = go (ℕ_discrete i r)
    where
      go : Dec (i ≡ r) → second_of (head_in ds i) ≤ 8
      go (yes e) = rw (e, head_new) few
      go (no n) = rw (head_same i n) (st.fields i l)

  module _ (first : r ≡ first_free cs s.free (128 - s.free)) where
    packed_tidy : Tidy cs s → Tidy ds (packed_state s r)
    packed_tidy t = rw (lt-ltb r 255 (omega arith)) (record { in_use = λ i l. used i l (ℕ_discrete i r) (dec_lt i s.free); unused = λ i l m. rw (head_same i (later i l (dec_lt r s.rooms)).0) (t.unused i (later i l (dec_lt r s.rooms)).1 m); free_low = omega arith })
      where
        used : (i : ℕ) → i < r + 1 → Dec (i ≡ r) → Dec (i < s.free) → is_record (head_in ds i) ≡ true
        used i l (yes e) m = rw (e, head_new)
        used i l (no n) (yes m) = rw (head_same i n) (t.in_use i m)
        used i l (no n) (no m) = rw (head_same i n) (free_used cs s.free (128 - s.free) i (omega arith) (omega arith))

        later : (i : ℕ) → cond (leb s.rooms r) (r + 1) s.rooms ≤ i → Dec (r < s.rooms) → (i ≡ r → ⊥) × (s.rooms ≤ i)
        later i l (yes m) = let h = rw (lt-leb s.rooms r m) at l in (λ q. omega arith, omega arith)
        later i l (no m) = let h = rw (le-leb s.rooms r (omega arith)) at l in (λ q. omega arith, omega arith)

    packed_stands : Stands ds (packed_state s r)
    packed_stands = record {
      whole = length_ds ∙ st.whole;
      running = st.running;
      named = st.named;
      inside = st.inside;
      low = st.low;
      few = st.few;
      shallow = st.shallow;
      suspended_low = λ d l. rw (low_same (suspended_cell d) (omega arith) (omega (arith, st.shallow))) (st.suspended_low d l);
      suspended_few = λ d l. rw (low_same (suspended_cell d) (omega arith) (omega (arith, st.shallow))) (st.suspended_few d l);
      fields = head_few;
      stored = st.stored;
      tidy = packed_tidy st.tidy;
    }

    module _ (room : s.height - k < 16) (known : s.records < 4294967295) where
      next_record : next_serial s.records ≡ s.records + 1
      unfolding next_serial
      next_record = rw (lt-ltb s.records 4294967295 known)

      packed-is : (n : ℕ) → outcome_of n (packed_in cs s k y r) ≡ mnext (mstate (mframe s.serial s.procedure (s.at + 1) (Record s.records r y ∷ drop k (operands_in cs s)) (locals_in cs s)) (below_in cs s.depth) (set (rooms_in cs) r (some (mroom s.records y (topmost k (operands_in cs s))))) (s.records + 1) (entries_in cs s.entries) s.frames)
      packed-is n =
          settle_is ds (packed_state s r) packed_stands k (Record s.records r y) room n
          ∙ rw (
            next_record,
            topmost-is cs s k enough,
            rooms_filled cs st.whole st.fields r s.records y p k inside few (omega (arith, st.low, st.shallow)),
            down_same cs ds (operand_cell s.depth) s.height (λ i a b. low_same i (omega arith) (omega (arith, st.low, st.shallow))),
            up_same cs ds (local_cell s.depth) s.count (λ i a b. low_same i (omega arith) (omega (arith, st.few, st.shallow))),
            below-same cs ds s.depth st.suspended_low st.suspended_few (λ i a b. low_same i a (omega (arith, st.shallow))) (λ i a b. low_same i (omega arith) (omega (arith, st.shallow))),
            entries-same cs ds s.entries (λ i a b. low_same i (omega arith) (omega (arith, st.stored))),
          )

      packed-kept : Kept cs s (packed_in cs s k y r)
      packed-kept =
          let h = settle-kept ds (packed_state s r) packed_stands k (Record s.records r y) room in
          (h.0 ∙ length_ds, (λ t. h.1 (packed_tidy t)), omega (arith, next_record), omega arith)

-- Unpack: the record c in room m broken up
module _ (cs : List Operand) (s : State) (st : Stands cs s) (c m : ℕ) (live : is_live (head_in cs m) c ≡ true) (fits : s.height - 1 + second_of (head_in cs m) ≤ 16) where
  abbrev fields : ℕ
  fields = second_of (head_in cs m)

  abbrev u : State
  u = dropped (unpacked_state s m) 1

  abbrev rs : List Operand
  rs = received_in cs u (room_cell m + 1) fields

  abbrev es : List Operand
  es = set rs (room_cell m) Empty

  there : m < 128
  there = go (dec_lt m 128)
    where
      go : Dec (m < 128) → m < 128
      go (yes l) = l
      go (no l) = let q = rw (head_past cs st.whole m (omega arith)) at live in absurd (clash (cc (q)))

  length_rs : length rs ≡ length cs
  length_rs = length-received cs u (room_cell m + 1) fields

  high_same : Same 512 1824 cs rs
  high_same = received-same cs u 512 1824 (room_cell m + 1) fields (inl (omega (arith, st.shallow)))

  below-room : Same 0 672 rs es
  below-room = set_same rs (room_cell m) Empty 0 672 (inr (omega arith))

  -- the heads of rooms
  head_gone : head_in es m ≡ Empty
  head_gone = get_or-set_same rs (room_cell m) Empty Empty (omega (arith, length_rs, st.whole, there))

  head_other : (i : ℕ) → i < 128 → (i ≡ m → ⊥) → head_in es i ≡ head_in cs i
  head_other i l n = get_or-set_other rs (room_cell m) (room_cell i) Empty Empty (λ q. n (omega arith)) ∙ high_same (room_cell i) (omega arith) (omega arith)

  unpacked_tidy : Tidy cs s → Tidy es (gone_on (received u fields))
  unpacked_tidy t = record { in_use = λ i l. used i l (dec_lt m s.free); unused = λ i l n. unused i l n (ℕ_discrete i m); free_low = low (dec_lt m s.free) }
    where
      used : (i : ℕ) → i < cond (ltb m s.free) m s.free → Dec (m < s.free) → is_record (head_in es i) ≡ true
      used i l (yes h) = let q = rw (lt-ltb m s.free h) at l in rw (head_other i (omega (arith, there)) (λ e. omega arith)) (t.in_use i (omega arith))
      used i l (no h) = let q = rw (le-ltb m s.free (omega arith)) at l in rw (head_other i (omega (arith, there)) (λ e. omega arith)) (t.in_use i q)

      unused : (i : ℕ) → s.rooms ≤ i → i < 128 → Dec (i ≡ m) → is_record (head_in es i) ≡ false
      unused i l n (yes e) = rw (e, head_gone)
      unused i l n (no e) = rw (head_other i n e) (t.unused i l n)

      low : Dec (m < s.free) → cond (ltb m s.free) m s.free ≤ 128
      low (yes h) = rw (lt-ltb m s.free h) (omega (arith, there))
      low (no h) = rw (le-ltb m s.free (omega arith)) t.free_low

  unpacked-kept : Kept cs s (unpacked_at cs s m fields)
  unpacked-kept = (length-set rs (room_cell m) Empty ∙ length_rs, unpacked_tidy, omega arith, omega arith)

  unpacked-is : (n : ℕ) → outcome_of n (unpacked_at cs s m fields) ≡ mnext (mstate (mframe s.serial s.procedure (s.at + 1) (back_to (up_from cs (room_cell m + 1) fields) (drop 1 (operands_in cs s))) (locals_in cs s)) (below_in cs s.depth) (set (rooms_in cs) m none) s.records (entries_in cs s.entries) s.frames)
  unpacked-is n =
      rw (st.running, next-is cs s st)
      (rw (
        operands,
        up_same rs es (local_cell s.depth) s.count (λ i a b. below-room i (omega arith) (omega (arith, st.few, st.shallow))),
        receive_locals cs u st.whole st.shallow (room_cell m + 1) fields fits,
        below,
        rooms,
        entries-same cs es s.entries (λ i a b. below-room i (omega arith) (omega (arith, st.stored)) ∙ high_same i (omega arith) (omega (arith, st.stored))),
      ))
    where
      tall : (received u fields).height ≡ s.height - 1 + fields
      tall = rw (le-leb (s.height - 1) 16 (omega (arith, st.low)), le-leb fields (16 - (s.height - 1)) (omega arith))

      operands : operands_in es (received u fields) ≡ back_to (up_from cs (room_cell m + 1) fields) (drop 1 (operands_in cs s))
      operands =
          down_same rs es (operand_cell s.depth) (received u fields).height (λ i a b. below-room i (omega arith) (omega (arith, tall, st.shallow)))
          ∙ receive_operands cs u st.whole st.shallow (room_cell m + 1) fields fits (omega (arith, there, st.fields m there)) (inr (omega (arith, st.shallow, st.low)))
          ∙ ap (back_to (up_from cs (room_cell m + 1) fields)) (sym (drop-is cs s 1))

      below : below_in es s.depth ≡ below_in cs s.depth
      below = below-same cs es s.depth st.suspended_low st.suspended_few
          (λ i a b. below-room i a (omega (arith, st.shallow)) ∙ received-same cs u 0 (32 * s.depth) (room_cell m + 1) fields (inr (omega arith)) i a b)
          (λ i a b. below-room i (omega arith) (omega (arith, st.shallow)) ∙ high_same i a (omega (arith, st.shallow)))

      rooms : rooms_in es ≡ set (rooms_in cs) m none
      rooms = rooms_cleared rs (length_rs ∙ st.whole) (λ i l. rw (high_same (room_cell i) (omega arith) (omega arith)) (st.fields i l)) m there ∙ rw (rooms_same cs rs st.fields (λ i a b. high_same i (omega arith) b))

module _ (cs : List Operand) (s : State) (st : Stands cs s) where
  abbrev free : ℕ
  free = first_free cs s.free (128 - s.free)

  -- Pack, of k operands
  pub pack-is : (n k b d kind others : ℕ) → k ≤ s.height → k ≤ 8 → s.height - k < 16 → b < 256 → s.records < 4294967295 → outcome_of n (pack_of cs s k b) ≡ doing b d kind k others cs s 9
  unfolding doings
  pack-is n k b d kind others enough few room typed known =
      let e : k % 256 ≡ k = omega arith in
      let f : b % 256 ≡ b = omega arith in
      rw (e, f, free_first cs s.free st.tidy.free_low st.tidy.in_use) (go (dec_lt free 128))
    where
      go : Dec (free < 128) → outcome_of n (cond (leb 128 free) (ends cs s TooManyRecords) (packed_in cs s k b free))
          ≡ cond (ltb free 128) (mnext (mstate (mframe s.serial s.procedure (s.at + 1) (Record s.records free b ∷ drop k (operands_in cs s)) (locals_in cs s)) (below_in cs s.depth) (set (rooms_in cs) free (some (mroom s.records b (topmost k (operands_in cs s))))) (s.records + 1) (entries_in cs s.entries) s.frames)) (mstopped too_many_records)
      go (yes l) = rw (lt-leb 128 free l, lt-ltb free 128 l) (packed-is cs s st k b free enough few l refl room known n)
      go (no l) = rw (le-leb 128 free (omega arith), le-ltb free 128 (omega arith))

  pub pack-kept : (k b : ℕ) → k ≤ s.height → k ≤ 8 → s.height - k < 16 → s.records < 4294967295 → Kept cs s (pack_of cs s k b)
  pack-kept k b enough few room known = let e : k % 256 ≡ k = omega arith in rw e (go (dec_lt free 128))
    where
      go : Dec (free < 128) → Kept cs s (cond (leb 128 free) (ends cs s TooManyRecords) (packed_in cs s k (b % 256) free))
      go (yes l) = rw (lt-leb 128 free l) (packed-kept cs s st k (b % 256) free enough few l refl room known)
      go (no l) = rw (le-leb 128 free (omega arith)) (ends-kept cs s TooManyRecords)

  -- Unpack, where there is room for the fields of the record on top
  abbrev pub Room : Type 0
  Room = (c m y : ℕ) → top_at cs s 0 ≡ Record c m y → is_live (get_or cs (room_cell m) Empty) c ≡ true → s.height - 1 + second_of (get_or cs (room_cell m) Empty) ≤ 16

  pub unpack-is : (k b d kind others : ℕ) → Room → outcome_of k (unpack_of cs s) ≡ doing b d kind 1 others cs s 10
  unfolding doings
  unpack-is k b d kind others room = rw (top-is cs s) (go (top_at cs s 0) refl)
    where
      with_fields : ℕ → List Operand → MOutcome
      with_fields m xs = mnext (mstate (mframe s.serial s.procedure (s.at + 1) (back_to xs (drop 1 (operands_in cs s))) (locals_in cs s)) (below_in cs s.depth) (set (rooms_in cs) m none) s.records (entries_in cs s.entries) s.frames)

      from : (c m y : ℕ) → top_at cs s 0 ≡ Record c m y → (t : Bool) → is_live (head_in cs m) c ≡ t
          → outcome_of k (cond t (unpacked_at cs s m (second_of (head_in cs m))) (ends cs s Broken)) ≡ fields_from (cond t (some (mroom c (third_of (head_in cs m)) (up_from cs (room_cell m + 1) (second_of (head_in cs m))))) none) (with_fields m)
      from c m y e true l = unpacked-is cs s st c m l (room c m y e l) k
      from c m y e false l = refl

      go : (x : Operand) → top_at cs s 0 ≡ x → outcome_of k (unpacked_top cs s x) ≡ as_record x (λ (a r : ℕ). fields_from (room_of (nth (rooms_in cs) r) a) (with_fields r))
      go Empty e = refl
      go (Number v) e = refl
      go (Record c m y) e = rw (room_of_lem cs st.whole m c) (from c m y e (is_live (head_in cs m) c) refl)
      go (Refer r) e = refl

  pub unpack-kept : Room → Kept cs s (unpack_of cs s)
  unpack-kept room = go (top_at cs s 0) refl
    where
      from : (c m y : ℕ) → top_at cs s 0 ≡ Record c m y → (t : Bool) → is_live (head_in cs m) c ≡ t → Kept cs s (cond t (unpacked_at cs s m (second_of (head_in cs m))) (ends cs s Broken))
      from c m y e true l = unpacked-kept cs s st c m l (room c m y e l)
      from c m y e false l = ends-kept cs s Broken

      go : (x : Operand) → top_at cs s 0 ≡ x → Kept cs s (unpacked_top cs s x)
      go Empty e = ends-kept cs s Broken
      go (Number v) e = ends-kept cs s Broken
      go (Record c m y) e = from c m y e (is_live (head_in cs m) c) refl
      go (Refer r) e = ends-kept cs s Broken
