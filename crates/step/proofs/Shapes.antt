-- An instruction ends the call and leaves all as it was, or the call runs on within its bounds.
use Prim.Native.Nat.{ℕ, ◌+◌, ◌-◌, ◌/◌, ◌%◌, ◌<◌, ◌≤◌}
use mathlib.Core.Path.{◌≡◌, refl}
use mathlib.Core.Bool.{Bool, true, false, cond}
use mathlib.Core.List.{List}
use native.Mathlib.Decide.{dec_lt}
use native.Mathlib.Omega.{arith}
use borrow.Author.Tests.{eqb-true, lt-ltb, le-leb, lt-leb}
use lib.Dec.{eqb, ltb, leb}
use lib.ListN.{get_or}
use Rattle.laws.proofs.Cases.{◌▸◌, each}
use Rattle.arithmetic.specs.Arithmetic.{Calculated, Value, TooLarge, BelowZero, Unknown}
use Rattle.state.specs.code.Entries.{added_in}
use Rattle.state.specs.declared.Operand.{Operand}
use Rattle.state.specs.declared.Operand.TheVariants.{Empty, Number, Record, Refer}
use Rattle.state.specs.declared.frames.State.{State}
use Rattle.state.specs.declared.stops.Stop.{Stop}
use Rattle.state.specs.declared.stops.Stop.TheVariants.{Done, TooLarge as Large, KeyTaken, NoSuchKey, StaleReference, TooManyFrames, TooManyRecords, TooManyEntries, BelowZero as Below, Broken}
use Rattle.state.specs.code.Layout.{room_cell}
use Rattle.state.specs.code.Coding.{is_number, number_of}
use Rattle.state.specs.code.Stops.{number_of as stop_number}
use Rattle.state.specs.code.Frames.{stop_of, pushed, dropped, gone_to, gone_on, ended_with, top_at, resumed, resumed_at, entered}
use Rattle.state.specs.code.Cells.{held_at}
use Rattle.state.specs.code.Rooms.{is_live, field_cell, first_free}
use Rattle.frame.specs.code.Turning.{Turning, after, done, ends}
use Rattle.frame.specs.code.Operations.{closed, operated}
use Rattle.references.specs.code.Targets.{Target, ToNumber, ToRecord, Stale, Impossible, target_top, read_at, written_at, borrowed_as, borrowed_in}
use Rattle.records.specs.code.Packing.{packed_state, packed_in, unpacked_top}
use Rattle.records.specs.code.Published.{with_entries, found, published_as, moved_to, taken_out}
use Rattle.frame.specs.code.Control.{within, called_in, returned_to, ret_of, branched_by}
use Rattle.step.specs.code.Step.{turns}

pub record Bounded (s s' : State) : Type 0 where
  pub runs_on : stop_of s' ≡ stop_of s
  pub depth_low : s.depth < 16 → s'.depth < 16
  pub entries-low : s.entries ≤ 64 → s'.entries ≤ 64
  pub rooms_low : s.rooms ≤ 128 → s'.rooms ≤ 128

-- by whether it is a Ret
pub data Shape (cs : List Operand) (s : State) : Bool → Turning → Type 0 where
  finishes : s.depth ≡ 0 → Shape cs s true (ends cs s Done)
  stays : {r : Bool} (k : Stop) → ltb done (stop_number k) ≡ true → Shape cs s r (ends cs s k)
  goes : {r : Bool} {s' : State} {cs' : List Operand} → Bounded s s' → Shape cs s r (after s' cs')

module _ (cs : List Operand) (s : State) where
  -- all of them are as they were
  same : {s' : State} → stop_of s' ≡ stop_of s → s'.depth ≡ s.depth → s'.entries ≡ s.entries → s'.rooms ≡ s.rooms → Bounded s s'
  same e d n m = record { runs_on = e; depth_low = λ h. omega arith; entries-low = λ h. omega arith; rooms_low = λ h. omega arith }

  calm : {r : Bool} {s' : State} {cs' : List Operand} → stop_of s' ≡ stop_of s → s'.depth ≡ s.depth → s'.entries ≡ s.entries → s'.rooms ≡ s.rooms → Shape cs s r (after s' cs')
  calm e d n m = goes (same e d n m)

  either : {r : Bool} → (b : Bool) {x y : Turning} → Shape cs s r x → Shape cs s r y → Shape cs s r (cond b x y)
  either true a b = a
  either false a b = b

  number : {r : Bool} → (x : Operand) {t : Turning} → Shape cs s r t → Shape cs s r (cond (is_number x) t (ends cs s Broken))
  number x h = either (is_number x) h (stays Broken refl)

  closes : {r : Bool} → (x : Calculated) → Shape cs s r (closed cs s x)
  closes (Value v) = calm refl refl refl refl
  closes TooLarge = stays Large refl
  closes BelowZero = stays Below refl
  closes Unknown = stays Broken refl

  reads : {r : Bool} → (x : Target) → Shape cs s r (read_at cs s x)
  reads (ToNumber o) = calm refl refl refl refl
  reads (ToRecord c m) = stays Broken refl
  reads Stale = stays StaleReference refl
  reads Impossible = stays Broken refl

  writes : {r : Bool} → (x : Target) (n : ℕ) → Shape cs s r (written_at cs s x n)
  writes (ToNumber o) n = calm refl refl refl refl
  writes (ToRecord c m) n = stays Broken refl
  writes Stale n = stays StaleReference refl
  writes Impossible n = stays Broken refl

  borrows_held : {r : Bool} → (c m y j : ℕ) (x : Operand) → Shape cs s r (borrowed_as cs s c m y j x)
  borrows_held c m y j Empty = stays Broken refl
  borrows_held c m y j (Number n) = calm refl refl refl refl
  borrows_held c m y j (Record a r k) = calm refl refl refl refl
  borrows_held c m y j (Refer r) = stays Broken refl

  borrows : {r : Bool} → (x : Target) (y j : ℕ) → Shape cs s r (borrowed_in cs s x y j)
  borrows (ToNumber o) y j = stays Broken refl
  borrows (ToRecord c m) y j = borrows_held c m y j (held_at cs (field_cell cs m j))
  borrows Stale y j = stays StaleReference refl
  borrows Impossible y j = stays Broken refl

  packs : {b : Bool} (k y r : ℕ) → Shape cs s b (cond (leb 128 r) (ends cs s TooManyRecords) (packed_in cs s k y r))
  packs k y r = go (dec_lt r 128)
    where
      more : (b : Bool) → s.rooms ≤ 128 → r < 128 → cond b (r + 1) s.rooms ≤ 128
      more true l h = omega arith
      more false l h = l

      go : {b : Bool} → Dec (r < 128) → Shape cs s b (cond (leb 128 r) (ends cs s TooManyRecords) (packed_in cs s k y r))
      go (yes h) = rw (lt-leb 128 r h) (goes {s' = gone_on (pushed (dropped (packed_state s r) k))} (record { runs_on = refl; depth_low = λ l. l; entries-low = λ l. l; rooms_low = λ l. rw (lt-ltb r 255 (omega arith)) (more (leb s.rooms r) l h) }))
      go (no h) = rw (le-leb 128 r (omega arith)) (stays TooManyRecords refl)

  unpacks : {r : Bool} → (x : Operand) → Shape cs s r (unpacked_top cs s x)
  unpacks Empty = stays Broken refl
  unpacks (Number n) = stays Broken refl
  unpacks (Record c m y) = either (is_live (get_or cs (room_cell m) Empty) c) (calm refl refl refl refl) (stays Broken refl)
  unpacks (Refer r) = stays Broken refl

  adds : {r : Bool} → (y a c m : ℕ) → Shape cs s r (published_as cs s y a c m)
  adds y a c m = either (ltb (found cs s y a) s.entries) (stays KeyTaken refl) (go (dec_lt s.entries 64))
    where
      go : {r : Bool} → Dec (s.entries < 64) → Shape cs s r (cond (leb 64 s.entries) (ends cs s TooManyEntries) (after (gone_on (dropped (with_entries s (s.entries + 1)) 2)) (added_in cs s.entries y a c m)))
      go (yes h) = rw (lt-leb 64 s.entries h) (goes {s' = gone_on (dropped (with_entries s (s.entries + 1)) 2)} (record { runs_on = refl; depth_low = λ l. l; entries-low = λ l. omega arith; rooms_low = λ l. l }))
      go (no h) = rw (le-leb 64 s.entries (omega arith)) (stays TooManyEntries refl)

  publishes : {r : Bool} → (y a : ℕ) (x : Operand) → Shape cs s r (moved_to cs s y a x)
  publishes y a Empty = stays Broken refl
  publishes y a (Number n) = stays Broken refl
  publishes y a (Record c m k) = adds y a c m
  publishes y a (Refer r) = stays Broken refl

  withdraws : {r : Bool} → (y i : ℕ) → Shape cs s r (taken_out cs s y i)
  withdraws y i = either (leb s.entries i) (stays NoSuchKey refl) (goes (record { runs_on = refl; depth_low = λ l. l; entries-low = λ l. omega arith; rooms_low = λ l. l }))

  calls : {r : Bool} → (procedure k count : ℕ) → Shape cs s r (called_in cs s procedure k count)
  calls procedure k count = go (dec_lt s.depth 15)
    where
      go : {r : Bool} → Dec (s.depth < 15) → Shape cs s r (called_in cs s procedure k count)
      go (yes h) = rw (lt-leb 15 s.depth h) (goes {s' = entered (dropped s k) procedure count} (record { runs_on = refl; depth_low = λ l. rw (lt-ltb s.depth 255 (omega arith)) (omega arith); entries-low = λ l. l; rooms_low = λ l. l }))
      go (no h) = rw (le-leb 15 s.depth (omega arith)) (stays TooManyFrames refl)

  resumes : Bounded s (resumed cs s)
  resumes = go (eqb s.depth 0)
    where
      go : (b : Bool) → Bounded s (cond b s (resumed_at cs s (s.depth - 1)))
      go true = same refl refl refl refl
      go false = record { runs_on = refl; depth_low = λ l. omega arith; entries-low = λ l. l; rooms_low = λ l. l }

  returns : (k : ℕ) → Shape cs s true (ret_of cs s k)
  returns k = go (eqb s.depth 0) refl
    where
      go : (b : Bool) → eqb s.depth 0 ≡ b → Shape cs s true (cond b (ends cs s Done) (returned_to cs s (k % 256)))
      go true e = finishes (eqb-true s.depth 0 e)
      go false e = goes (record { runs_on = resumes.runs_on; depth_low = resumes.depth_low; entries-low = resumes.entries-low; rooms_low = resumes.rooms_low })

  branches : {r : Bool} → (b : ℕ) (x : Operand) → Shape cs s r (after (branched_by s b x) cs)
  branches b x = go (is_number x) (eqb (number_of x) 0)
    where
      go : {r : Bool} → (n c : Bool) → Shape cs s r (after (cond n (cond c (gone_on (dropped s 1)) (gone_to (dropped s 1) b)) (ended_with s Broken)) cs)
      go true true = calm refl refl refl refl
      go true false = calm refl refl refl refl
      go false c = stays Broken refl

  -- by opcode
  pub turn_shape : (b d kind fields parameters count results a : ℕ) → Shape cs s (eqb a 16) (get_or (turns b d kind fields parameters count results cs s) a (ends cs s Broken))
  unfolding turns
  turn_shape b d kind fields parameters count results = each (λ (a : ℕ). Shape cs s (eqb a 16)) (turns b d kind fields parameters count results cs s) (ends cs s Broken) (
      calm refl refl refl refl ▸ calm refl refl refl refl ▸ calm refl refl refl refl ▸ calm refl refl refl refl ▸ calm refl refl refl refl ▸ calm refl refl refl refl
      ▸ reads (target_top cs s)
      ▸ number (top_at cs s 1) (writes (target_top cs s) (number_of (top_at cs s 1)))
      ▸ borrows (target_top cs s) (b / 8 % 256) (b % 8)
      ▸ packs (fields % 256) (b % 256) (first_free cs s.free (128 - s.free))
      ▸ unpacks (top_at cs s 0)
      ▸ number (top_at cs s 0) (publishes (b % 256) (number_of (top_at cs s 0)) (top_at cs s 1))
      ▸ number (top_at cs s 0) (withdraws (b % 256) (found cs s (b % 256) (number_of (top_at cs s 0))))
      ▸ number (top_at cs s 0) (either (leb s.entries (found cs s (b % 256) (number_of (top_at cs s 0)))) (stays NoSuchKey refl) (calm refl refl refl refl))
      ▸ number (top_at cs s 0) (calm refl refl refl refl)
      ▸ calls b (parameters % 256) (within count)
      ▸ returns results
      ▸ calm refl refl refl refl
      ▸ branches b (top_at cs s 0)
      ▸ closes (operated b (top_at cs s 1) (top_at cs s 0))
      ▸ calm refl refl refl refl
      ▸ tt) (λ a. stays Broken refl)
