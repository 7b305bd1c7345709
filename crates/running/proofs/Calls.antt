-- A call of a list by the interpreter's account is one of the machine on lists.
use Prim.Native.Nat.{ℕ, zero, suc, ◌+◌, ◌-◌, ◌*◌, ◌<◌, ◌≤◌, ◌^◌}
use mathlib.Core.Path.{◌≡◌, refl, sym, ap, subst, ◌∙◌}
use mathlib.Core.Bool.{Bool, true, false, true≢false}
use mathlib.Core.Logic.{inr}
use mathlib.Core.List.{List, [], ◌∷◌, ◌++◌, map}
use mathlib.Core.Option.{none}
use native.Mathlib.Decide.{dec_lt}
use native.Mathlib.Omega.{arith}
use borrow.Author.Tests.{lt-ltb, le-leb, eq-eqb, ne_eqb}
use lib.ListN.{length, get_or, take, replicate, length-append}
use Rattle.table.specs.Index.{index_of}
use Rattle.declarations.specs.Program.{kinds_of, procedure_in, local_count, parameters_end, parameter_kinds}
use Rattle.acceptance.specs.Judged.{Judged}
use Rattle.semantics.specs.Machine.{num, state, finished}
use Rattle.semantics.specs.Calls.{call}
use Rattle.semantics.specs.Callable.{Callable}
use Rattle.semantics.specs.Text.{call_line}
use Rattle.state.specs.declared.Operand.{Operand}
use Rattle.state.specs.declared.Operand.TheVariants.{Empty, Number, Record, Refer}
use Rattle.state.specs.declared.frames.State.{State}
use Rattle.state.specs.code.Coding.{number_of, is_record, second_of}
use Rattle.state.specs.code.Cells.{emptied}
use Rattle.state.specs.code.Layout.{room_cell, all_cells}
use Rattle.state.specs.code.Frames.{stop_of, next_serial}
use Rattle.machine.specs.code.Machine.{MState, mstate, mnext, mfinished, mstopped, mbroken}
use Rattle.machine.specs.code.Runs.{MEnd, mend, mrow, mgo}
use Rattle.machine.specs.code.Lists.{mafter, numbers_of, mbegin, mline}
use Rattle.machine.specs.code.Views.{Same, up_from, below_in, room_by, room_in, rooms_in, entries_in, view_of}
use Rattle.machine.proofs.Lists.{Between, between_begins}
use Rattle.machine.proofs.Views.{tab-same, up_same, room-same, rooms_same, entries-same, up_append, up_empty, topmost_down, length-emptied, emptied_other, emptied-there}
use Rattle.frame.specs.code.Turning.{Turning, after, done, broken}
use Rattle.frame.specs.code.Control.{within}
use Rattle.frame.proofs.Meaning.{Tidy}
use Rattle.interpreter.specs.code.Run.{run_from, same_from}
use Rattle.interpreter.specs.code.Calls.{kept_of, begun, begun_in, restored, restored_in, restored_to, same_restored, call_turn, same_call}
use Rattle.interpreter.proofs.Live.{Live, Numbers}
use Rattle.interpreter.proofs.Frames.{live_stands}
use Rattle.interpreter.proofs.Keeping.{Holds, length-kept_of, entries-kept, rooms_kept, past_kept, length-freed, freed_other, freed-there, length-filled, filled_other, up_filled}
use Rattle.interpreter.proofs.Follows.{base_in, Going, Results, EndOf, After, Ends, run_follows, run_untouched}
use Rattle.interpreter.proofs.Untouched.{Untouched}
use Rattle.running.specs.code.Lists.{end_line, line_of}

-- what lasts from call to call lies within its cells
pub record Lasting (cs : List Operand) (s : State) : Type 0 where
  pub whole : length cs ≡ all_cells
  pub tidy : Tidy cs s
  pub rooms_low : s.rooms ≤ 128
  pub stored : s.entries ≤ 64

-- Rooms by the cells from the first room on.
rooms_above : (cs ds : List Operand) → ((i : ℕ) → 672 ≤ i → get_or ds i Empty ≡ get_or cs i Empty) → rooms_in ds ≡ rooms_in cs
unfolding room_in
rooms_above cs ds h = tab-same (room_in cs) (room_in ds) 0 128 (λ r l m. rw (h (room_cell r) (omega arith)) (go r (get_or cs (room_cell r) Empty)))
  where
    go : (r : ℕ) (x : Operand) → room_by ds r x ≡ room_by cs r x
    go r Empty = refl
    go r (Number n) = refl
    go r (Record s k y) = rw (up_same cs ds (room_cell r + 1) k (λ i a b. h i (omega arith)))
    go r (Refer x) = refl

-- a room that is not in use
unused-none : (cs : List Operand) (r : ℕ) → is_record (get_or cs (room_cell r) Empty) ≡ false → room_in cs r ≡ none
unfolding room_in
unused-none cs r e = go (get_or cs (room_cell r) Empty) e
  where
    go : (x : Operand) → is_record x ≡ false → room_by cs r x ≡ none
    go Empty q = refl
    go (Number n) q = refl
    go (Record s k y) q = absurd (true≢false q)
    go (Refer x) q = refl

-- The results of a call
numbers_four : (xs : List Operand) → Numbers xs → map number_of xs ≡ numbers_of xs
numbers_four [] h = refl
numbers_four (Empty ∷ xs) h = absurd h
numbers_four (Number n ∷ xs) h = ap (λ (ns : List ℕ). n ∷ ns) (numbers_four xs h)
numbers_four (Record s r y ∷ xs) h = absurd h
numbers_four (Refer r ∷ xs) h = absurd h

four : (cs : List Operand) (b k : ℕ) → k ≤ 4
    → take k (number_of (get_or cs b Empty) ∷ number_of (get_or cs (b + 1) Empty) ∷ number_of (get_or cs (b + 2) Empty) ∷ number_of (get_or cs (b + 3) Empty) ∷ []) ≡ map number_of (up_from cs b k)
unfolding up_from
four cs b zero l = refl
four cs b (suc zero) l = refl
four cs b (suc (suc zero)) l = let e : b + 1 ≡ suc b = omega arith in rw e
four cs b (suc (suc (suc zero))) l = let e : b + 1 ≡ suc b = omega arith in let d : b + 2 ≡ suc (suc b) = omega arith in rw (e, d)
four cs b (suc (suc (suc (suc zero)))) l = let e : b + 1 ≡ suc b = omega arith in let d : b + 2 ≡ suc (suc b) = omega arith in let f : b + 3 ≡ suc (suc (suc b)) = omega arith in rw (e, d, f)
four cs b (suc (suc (suc (suc (suc k))))) l = absurd (omega arith)

module _ (t : List ℕ) (J : Judged t (index_of t)) (cs ks : List Operand) (s : State) (kept_whole : length ks ≡ all_cells) (holds : Holds ks cs s) (a : Lasting cs s)
    (q budget : ℕ) (args : List ℕ) (c : Callable t (index_of t) q budget args) (w : Between t J (base_in cs s)) (records-few : s.records + 65536 < 2 ^ 32) (frames-few : s.frames + 65536 < 2 ^ 32) where
  -- the beginning
  abbrev count : ℕ
  count = local_count (procedure_in (index_of t) q)

  few : count ≤ 16
  few = (J.procedure q c.there).few-locals

  within-is : within count ≡ count
  within-is = rw (le-leb count 16 few)

  fits : length args ≤ count
  fits =
      let p = J.procedure q c.there in
      omega (arith, c.count, p.locals, ap length p.split, length-append (parameter_kinds t (procedure_in (index_of t) q)) (kinds_of t (parameters_end t (procedure_in (index_of t) q)) (procedure_in (index_of t) q).results))

  abbrev first : State
  first = begun s q count

  abbrev cells : List Operand
  cells = begun_in cs count args

  serial_next : next_serial s.frames ≡ s.frames + 1
  unfolding next_serial
  serial_next = rw (lt-ltb s.frames 4294967295 (omega arith))

  cells_length : length cells ≡ all_cells
  cells_length = length-filled (emptied cs 16 count) 16 args ∙ length-emptied cs 16 count ∙ a.whole

  above : (i : ℕ) → 32 ≤ i → get_or cells i Empty ≡ get_or cs i Empty
  above i l = filled_other (emptied cs 16 count) 16 args i (inr (omega (arith, fits, few))) ∙ emptied_other cs 16 count i (inr (omega (arith, few)))

  locals-begin : up_from cells 16 count ≡ map Number args ++ replicate (count - length args) Empty
  locals-begin =
      let d : count ≡ length args + (count - length args) = omega (arith, fits) in
      ap (up_from cells 16) d ∙ up_append cells 16 (length args) (count - length args) ∙ rw (up_filled (emptied cs 16 count) 16 args (omega (arith, fits, few, length-emptied cs 16 count, a.whole)), rest)
    where
      rest : up_from cells (16 + length args) (count - length args) ≡ replicate (count - length args) Empty
      rest = up_empty cells (16 + length args) (count - length args) (λ i l m. filled_other (emptied cs 16 count) 16 args i (inr l) ∙ emptied-there cs 16 count i (omega (arith, few, a.whole)) (omega arith) (omega (arith, fits)))

  view_begins : view_of cells first ≡ mbegin t (index_of t) q args (base_in cs s)
  unfolding below_in Rattle.machine.specs.code.Views.down_from
  view_begins = rw (locals-begin, serial_next, rooms_above cs cells (λ i l. above i (omega arith)), entries-same cs cells s.entries (λ i l m. above i (omega arith)))

  tidy_begins : Tidy cells first
  tidy_begins = record {
    in_use = λ r l. rw (above (room_cell r) (omega arith)) (a.tidy.in_use r l);
    unused = λ r l m. rw (above (room_cell r) (omega arith)) (a.tidy.unused r l m);
    free_low = a.tidy.free_low;
  }

  begins : Going t budget cells first
  begins =
      let l : Live t (view_of cells first) = subst (Live t) (sym view_begins) (between_begins t J q budget args (rooms_in cs) s.records (entries_in cs s.entries) s.frames c w) in record {
        stands = live_stands t J cells first l cells_length refl (omega arith) a.stored tidy_begins;
        rooms_low = a.rooms_low;
        records-few = omega (arith, c.limited);
        frames-few = omega (arith, serial_next, c.limited);
        live = l;
      }

  fields-few : (r : ℕ) → r < 128 → second_of (get_or cs (room_cell r) Empty) ≤ 8
  fields-few r l = rw (above (room_cell r) (omega arith)) at (begins.stands.fields r l)

  -- what is left as it was
  module _ (cs' : List Operand) (s' : State) (u : Untouched cells first (after s' cs')) where
    left-same : Same 544 1824 cs cs'
    left-same i l m = u.2 i l m ∙ above i (omega arith)

    rooms_left : rooms_in cs' ≡ rooms_in cs
    rooms_left = rooms_same cs cs' fields-few (λ i l m. left-same i (omega arith) m)

    entries-left : entries_in cs' s'.entries ≡ entries_in cs s.entries
    entries-left = rw u.0 (entries-same cs cs' s.entries (λ i l m. left-same i l (omega (arith, a.stored))))

    holds-left : Holds ks cs' s'
    holds-left = record {
      entries = λ i l m. holds.entries i l (omega (arith, u.0)) ∙ sym (left-same i l (omega (arith, u.0, a.stored)));
      rooms = λ i l m. holds.rooms i l (omega (arith, u.1)) ∙ sym (left-same i (omega arith) (omega (arith, u.1, a.rooms_low)));
    }

  -- restoring
  module _ (cs' : List Operand) (s' : State) (b : After budget first cs' s') where
    abbrev back : List Operand
    back = kept_of cs' ks first

    abbrev again : List Operand
    again = restored_in cs' ks s' first

    back_length : length back ≡ all_cells
    back_length = length-kept_of cs' ks first b.whole kept_whole a.stored a.rooms_low

    -- no head below `rooms` and nothing but heads is emptied
    not-freed : (i : ℕ) → ((r : ℕ) → s.rooms ≤ r → i ≡ room_cell r → ⊥) → get_or again i Empty ≡ get_or back i Empty
    not-freed i o = freed_other back s.rooms (s'.rooms - s.rooms) i (λ j l. o (s.rooms + j) (omega arith))

    entries_back : Same 544 (544 + 2 * s.entries) ks again
    entries_back i l m = not-freed i (λ r n e. omega (arith, a.stored)) ∙ entries-kept cs' ks first b.whole kept_whole a.stored a.rooms_low i l m

    rooms_back : Same 672 (672 + 9 * s.rooms) ks again
    rooms_back i l m = not-freed i (λ p n e. omega arith) ∙ rooms_kept cs' ks first b.whole kept_whole a.stored a.rooms_low i l m

    holds-again : Holds ks again (restored s' first)
    holds-again = record { entries = λ i l m. sym (entries_back i l m); rooms = λ i l m. sym (rooms_back i l m) }

    entries-again : entries_in again s.entries ≡ entries_in cs s.entries
    entries-again = entries-same cs again s.entries (λ i l m. entries_back i l m ∙ holds.entries i l m)

    room-low : (r : ℕ) → r < s.rooms → Same (room_cell r) (room_cell r + 9) cs again
    room-low r h i l m = rooms_back i (omega arith) (omega arith) ∙ holds.rooms i (omega arith) (omega arith)

    head_free : (r : ℕ) → s.rooms ≤ r → r < 128 → is_record (get_or again (room_cell r) Empty) ≡ false
    head_free r l m = go (dec_lt r s'.rooms)
      where
        go : Dec (r < s'.rooms) → is_record (get_or again (room_cell r) Empty) ≡ false
        go (yes h) =
            let e : r ≡ s.rooms + (r - s.rooms) = omega arith in
            let f = freed-there back s.rooms (s'.rooms - s.rooms) (r - s.rooms) (omega arith) (omega (arith, back_length)) in
            rw (rw (← e) at f) refl
        go (no h) =
            let f = freed_other back s.rooms (s'.rooms - s.rooms) (room_cell r) (λ j n e. omega arith) in
            let g = past_kept cs' ks first b.whole kept_whole a.stored a.rooms_low (room_cell r) (omega arith) (omega arith) in
            rw (f ∙ g) (b.tidy.unused r (omega arith) m)

    rooms_again : rooms_in again ≡ rooms_in cs
    rooms_again = tab-same (room_in cs) (room_in again) 0 128 (λ r l m. go r m (dec_lt r s.rooms))
      where
        go : (r : ℕ) → r < 0 + 128 → Dec (r < s.rooms) → room_in again r ≡ room_in cs r
        go r m (yes h) = room-same cs again r (fields-few r (omega arith)) (room-low r h)
        go r m (no h) = unused-none again r (head_free r (omega arith) (omega arith)) ∙ sym (unused-none cs r (a.tidy.unused r (omega arith) (omega arith)))

    lasting_again : Lasting again (restored s' first)
    lasting_again = record {
      whole = length-freed back s.rooms (s'.rooms - s.rooms) ∙ back_length;
      tidy = record {
        in_use = λ r l. in_use_again r l (dec_lt r s.rooms);
        unused = λ r l m. head_free r l m;
        free_low = a.tidy.free_low;
      };
      rooms_low = a.rooms_low;
      stored = a.stored;
    }
      where
        in_use_again : (r : ℕ) → r < s.free → Dec (r < s.rooms) → is_record (get_or again (room_cell r) Empty) ≡ true
        in_use_again r l (yes h) = rw (room-low r h (room_cell r) (omega arith) (omega arith)) (a.tidy.in_use r l)
        in_use_again r l (no h) = absurd (true≢false (sym (a.tidy.in_use r l) ∙ a.tidy.unused r (omega arith) (omega (arith, a.tidy.free_low))))

  -- the end
  abbrev mended : MEnd
  mended = mgo t (index_of t) budget (mbegin t (index_of t) q args (base_in cs s))

  -- `same`: no instruction of it could change entries or rooms
  pub record Ending (same : Bool) (e : MEnd) (ds : List Operand) (z : State) : Type 0 where
    pub base-is : mafter (base_in cs s) e ≡ base_in ds z
    pub line-is : (i : ℕ) → mline t (index_of t) i e ≡ line_of (index_of t) i ds z
    pub lasting : Lasting ds z
    pub holds_still : same_restored same (stop_of z) ≡ true → Holds ks ds z
    pub records_more : z.records ≤ s.records + budget
    pub frames_more : z.frames ≤ s.frames + 1 + budget

  abbrev pub Ended : Bool → MEnd → Turning → Type 0
  Ended same e (after z ds) = Ending same e ds z

  -- the line of a call that is done does not tell the row
  done-line : (i r row k : ℕ) (xs : List Operand) (results : List ℕ) → take k results ≡ numbers_of xs → call_line i r (finished (map num (numbers_of xs)) (state [] [] [] 0)) ≡ call_line i row (finished (map num (take k results)) (state [] [] [] 0))
  unfolding call_line
  done-line i r row k xs results e = rw e

  abbrev result_count : State → ℕ
  result_count z = (procedure_in (index_of t) z.procedure).code - (procedure_in (index_of t) z.procedure).results

  results_are : (xs : List Operand) (ds : List Operand) (z : State) → Results t ds z xs
      → take (result_count z) (number_of (get_or ds (z.height - result_count z) Empty) ∷ number_of (get_or ds (z.height - result_count z + 1) Empty) ∷ number_of (get_or ds (z.height - result_count z + 2) Empty) ∷ number_of (get_or ds (z.height - result_count z + 3) Empty) ∷ [])
      ≡ numbers_of xs
  results_are xs ds z r =
      let e : xs ≡ up_from ds (z.height - result_count z) (result_count z) =
      r.many ∙ topmost_down ds (32 * z.depth) z.height (result_count z) r.there ∙ ap (λ (b : ℕ). up_from ds b (result_count z)) (omega (arith, r.outermost)) in
      four ds (z.height - result_count z) (result_count z) r.few ∙ ap (map number_of) (sym e) ∙ numbers_four xs r.numbers

  -- it is done
  done-ends : (same : Bool) (m : MState) (xs : List Operand) (v : MState) (ds : List Operand) (z : State) → EndOf t ds z (mend m (mfinished xs v)) → After budget first ds z
      → (same_restored same (stop_of z) ≡ true → Holds ks ds z) → Ending same (mend m (mfinished xs v)) ds z
  unfolding line_of end_line
  done-ends same m xs (mstate f fs rooms recs es n) ds z (h, r, e) b k = record {
    base-is = e;
    line-is = λ i. rw (eq-eqb (stop_of z) done h, le-leb (result_count z) z.height r.there) (done-line i (mrow t (index_of t) m) _ (result_count z) xs _ (results_are xs ds z r));
    lasting = record { whole = b.whole; tidy = b.tidy; rooms_low = b.rooms_low; stored = b.stored };
    holds_still = k;
    records_more = b.records_more;
    frames_more = omega (arith, b.frames_more, serial_next);
  }

  -- it stopped in state z, and what lasts is in the cells `es` and the state w
  stop_ends : (same : Bool) (m : MState) (k : ℕ) (ds es : List Operand) (z w : State) → EndOf t ds z (mend m (mstopped k)) → After budget first ds z → (stop_of w ≡ (stop_of z)) × (w.procedure ≡ z.procedure) × (w.at ≡ z.at) × (w.records ≡ z.records) × (w.frames ≡ z.frames)
      → rooms_in es ≡ rooms_in cs → entries_in es w.entries ≡ entries_in cs s.entries → Lasting es w → Holds ks es w → Ending same (mend m (mstopped k)) es w
  unfolding line_of end_line
  stop_ends same m k ds es z w (h, no-done, no-broken, here) b (ws, wp, wa, wr, wf) rooms entries lasting holds = record {
    base-is = subst (λ (v : MState). mafter (base_in cs s) (mend v (mstopped k)) ≡ base_in es w) (sym here) (rw (rooms, entries, wr, wf));
    line-is = λ i. rw (ws, wp, wa, ne_eqb (stop_of z) done (λ e. no-done (sym h ∙ e)), ne_eqb (stop_of z) broken (λ e. no-broken (sym h ∙ e)), h, here);
    lasting = lasting;
    holds_still = λ e. holds;
    records_more = omega (arith, b.records_more, wr);
    frames_more = omega (arith, b.frames_more, serial_next, wf);
  }

  ending : (same : Bool) (e : MEnd) (turn : Turning) → (same ≡ true → Untouched cells first turn) → Ends t budget first turn e → Ended same e (restored_to ks first same turn)
  ending true (mend m (mfinished xs v)) (after z ds) u (h, b) = done-ends true m xs v ds z h b (λ e. holds-left ds z (u refl))
  ending false (mend m (mfinished xs (mstate f fs rooms recs es n))) (after z ds) u (h, b) =
      rw (eq-eqb (stop_of z) done h.0) (done-ends false m xs (mstate f fs rooms recs es n) ds z h b (rw (eq-eqb (stop_of z) done h.0) (λ e. absurd (true≢false (sym e)))))
  ending true (mend m (mstopped k)) (after z ds) u (h, b) =
      stop_ends true m k ds ds z z h b (refl, refl, refl, refl, refl) (rooms_left ds z (u refl)) (entries-left ds z (u refl)) (record { whole = b.whole; tidy = b.tidy; rooms_low = b.rooms_low; stored = b.stored }) (holds-left ds z (u refl))
  ending false (mend m (mstopped k)) (after z ds) u (h, b) =
      rw (ne_eqb (stop_of z) done (λ e. h.1 (sym h.0 ∙ e)))
      (stop_ends false m k ds (restored_in ds ks z first) z (restored z first) h b (refl, refl, refl, refl, refl) (rooms_again ds z b) (entries-again ds z b) (lasting_again ds z b) (holds-again ds z b))
  ending same (mend m (mnext v)) (after z ds) u (h, b) = absurd h
  ending same (mend m mbroken) (after z ds) u (h, b) = absurd h

  pub call-follows : Ended (same_call t (index_of t) cs s (call q budget args)) mended (call_turn t (index_of t) cs ks s (call q budget args))
  unfolding call_turn same_call
  call-follows = rw within-is (ending (same_from t (index_of t) budget cells first) mended (run_from t (index_of t) budget cells first) (run_untouched t J budget cells first begins)
      (subst (λ (v : MState). Ends t budget first (run_from t (index_of t) budget cells first) (mgo t (index_of t) budget v)) view_begins (run_follows t J budget cells first begins)))
