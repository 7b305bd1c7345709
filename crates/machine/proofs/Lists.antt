-- The machine's text is the rules' text.
use Prim.Native.Nat.{ℕ, zero, suc, ◌+◌, ◌-◌, ◌≤◌}
use mathlib.Core.Path.{◌≡◌, refl, ap, sym, ◌∙◌}
use mathlib.Core.Bool.{Bool, true, false}
use mathlib.Core.List.{List, [], ◌∷◌, ◌++◌, map, append_assoc}
use mathlib.Core.Option.{Option, none, some}
use mathlib.Core.Logic.{◌⊎◌, inl, inr, ⊎_elim}
use native.Mathlib.Omega.{arith}
use lib.ListN.{length, drop, replicate, length-append, length-map, length-drop, length-replicate, get_elem? as nth}
use Rattle.laws.specs.Sorting.{insert_by, sort_by}
use Rattle.table.specs.Verdicts.{Accepted}
use Rattle.table.specs.Index.{index_of}
use Rattle.declarations.specs.Program.{procedure_in, local_count}
use Rattle.judging.specs.Judging.{judge_of}
use Rattle.acceptance.specs.Judged.{Bytes, Judged}
use Rattle.acceptance.proofs.Judged.{judged}
use Rattle.semantics.specs.Machine.{Value, num, Cell, gone, here, Entry, entry, Frame, frame, state}
use Rattle.semantics.specs.Step.{start_locals}
use Rattle.semantics.specs.Calls.{Call, call, list_of, calls_of}
use Rattle.semantics.specs.History.{Base, base, Event, moment, ended, bury, restored, afterwards, Run, ran, go, begin, events_of, base_after, history, nothing, last_base}
use Rattle.semantics.specs.Text.{values, fields_in, fields_text, entry_line, entry_lines, key_before, entry_before, call_line, call_lines, store_lines, text_of}
use Rattle.semantics.specs.Run.{history_of}
use Rattle.semantics.specs.Callable.{Callable, GoodCall}
use Rattle.semantics.specs.Claim.{All, none_left, also, IsNumber}
use Rattle.semantics.proofs.Changes.{clash}
use Rattle.semantics.proofs.Sounds.{nth_app}
use Rattle.semantics.proofs.Typing.{◌⊑◌, snoc_more, snoc_last}
use Rattle.semantics.proofs.Steps.{StateOk}
use Rattle.semantics.proofs.Invariant.{BaseOk, call_run, nothing_ok, begin_ok, buried_count, buried_dead}
use Rattle.semantics.proofs.Ends.{ends, last_append, Quiet, go_quiet}
use Rattle.semantics.proofs.Callable.{good-calls}
use Rattle.state.specs.declared.Operand.{Operand}
use Rattle.state.specs.declared.Operand.TheVariants.{Empty, Number}
use Rattle.machine.specs.code.Machine.{mframe, MRoom, mroom, MEntry, mentry, room_of}
use Rattle.machine.proofs.Represents.{number, whole, to_aLocal, to_aField, to_aRecord, ShowsAll, no_more, and, no_frame, and_frame, ShowsStore, no-entry, and_entry, ShowsRooms, used_count, Represents, BaseShown}
use Rattle.machine.specs.code.Runs.{MEnd, mgo}
use Rattle.machine.specs.code.Lists.{MBase, mbase, mnothing, mafter, numbers_of, mbegin, mline, mlines, mlast, mvalues, fields_of_room, mfields, mentry_line, mentry_lines, mentry_before, mstore_lines, mtext}
use Rattle.machine.proofs.Shows.{all_more, start_shows, store_more}
use Rattle.machine.proofs.Targets.{room_live, room_gone}
use Rattle.machine.proofs.Runs.{SameEnd, end_stop, end-done, same_run}

-- of two lists of the same length, what is there in one is there in the other
both_there : (R : List ℕ) (rs : List Cell) (s r : ℕ) → length R ≡ length rs → nth R s ≡ some r → nth rs s ≡ none → ⊥
both_there [] rs s r e q d = clash (cc)
both_there (x ∷ R) [] s r e q d = omega arith
both_there (x ∷ R) (c ∷ rs) zero r e q d = clash (cc)
both_there (x ∷ R) (c ∷ rs) (suc s) r e q d = both_there R rs s r (omega arith) q d

-- Printing: fields in a room, and entries
module _ {R D : List ℕ} {rooms : List (Option MRoom)} {rs : List Cell} (h : ShowsRooms R D rooms rs) where
  values_same : (f : ℕ → List ℕ) (g : ℕ → ℕ → List ℕ) → ((s r : ℕ) → nth R s ≡ some r → f s ≡ g s r) → {xs : List Operand} {vs : List Value} → ShowsAll R D xs vs → values f vs ≡ mvalues g xs
  values_same f g e no_more = refl
  values_same f g e (and number a) = rw (values_same f g e a)
  values_same f g e (and (whole {s} {r} q) a) = rw (e s r q, values_same f g e a)
  values_same f g e (and (to_aLocal q) a) = values_same f g e a
  values_same f g e (and (to_aField q) a) = values_same f g e a
  values_same f g e (and (to_aRecord q) a) = values_same f g e a

  fields_go : (f : ℕ → List ℕ) (g : ℕ → ℕ → List ℕ) → ((s r : ℕ) → nth R s ≡ some r → f s ≡ g s r) → (s r : ℕ) → nth R s ≡ some r → (c : Option Cell) → nth rs s ≡ c → values f (fields_in c) ≡ mvalues g (fields_of_room (room_of (nth rooms r) s))
  fields_go f g e s r q none d = absurd (both_there R rs s r h.known q d)
  fields_go f g e s r q (some (gone y)) d = rw (room_gone h s r y q d)
  fields_go f g e s r q (some (here y vs)) d = let l = room_live h s r y vs q d in rw l.2 (values_same f g e l.3)

  fields-same : (depth s r : ℕ) → nth R s ≡ some r → fields_text depth rs s ≡ mfields depth rooms s r
  unfolding fields_text mfields
  fields-same zero s r q = refl
  fields-same (suc depth) s r q = fields_go (fields_text depth rs) (mfields depth rooms) (fields-same depth) s r q (nth rs s) refl

  -- the store's lines
  entries-same : {ms : List MEntry} {es : List Entry} → ShowsStore R ms es → entry_lines rs es ≡ mentry_lines rooms ms
  unfolding entry_lines entry_line mentry_lines mentry_line
  entries-same no-entry = refl
  entries-same (and_entry {s = s} {r} e q) = rw (fields-same 64 s r e, entries-same q)

-- in their order, by the same keys
insert_shows : {R : List ℕ} (y a s r : ℕ) → nth R s ≡ some r → {ms : List MEntry} {es : List Entry} → ShowsStore R ms es → ShowsStore R (insert_by mentry_before (mentry y a s r) ms) (insert_by entry_before (entry y a s) es)
unfolding insert_by
insert_shows y a s r e no-entry = and_entry e no-entry
insert_shows {R} y a s r e (and_entry {y = y'} {a = a'} {s = s'} {r = r'} {ms} {es} e' q) = go (key_before y a y' a') refl (insert_shows y a s r e q)
  where
    go : (b : Bool) → key_before y a y' a' ≡ b → ShowsStore R (insert_by mentry_before (mentry y a s r) ms) (insert_by entry_before (entry y a s) es)
        → ShowsStore R (insert_by mentry_before (mentry y a s r) (mentry y' a' s' r' ∷ ms)) (insert_by entry_before (entry y a s) (entry y' a' s' ∷ es))
    go true b i = rw b (and_entry e (and_entry e' q))
    go false b i = rw b (and_entry e' i)

sort_shows : {R : List ℕ} {ms : List MEntry} {es : List Entry} → ShowsStore R ms es → ShowsStore R (sort_by mentry_before ms) (sort_by entry_before es)
unfolding sort_by
sort_shows no-entry = no-entry
sort_shows (and_entry {y} {a} {s} {r} e q) = insert_shows y a s r e (sort_shows q)

-- more has at least as many
more_length : (R R' : List ℕ) → ◌⊑◌ R R' → length R ≤ length R'
more_length [] R' g = omega arith
more_length (x ∷ R) [] g = absurd (clash (cc (g 0 x refl)))
more_length (x ∷ R) (y ∷ R') g = omega (arith, more_length R R' (λ i z e. g (suc i) z e))

-- rooms do not depend on how deep frames were
deeper : {R D D' : List ℕ} {rooms : List (Option MRoom)} {rs : List Cell} → ◌⊑◌ D D' → ShowsRooms R D rooms rs → ShowsRooms R D' rooms rs
deeper g h = record { size = h.size; known = h.known; count = h.count; live = λ id y vs e. let l = h.live id y vs e in (l.0, l.1, l.2, l.3, all_more (λ i u z. z) g l.4); used = h.used }

-- arguments
args_show : {R D : List ℕ} (args : List ℕ) → ShowsAll R D (map Number args) (map num args)
args_show [] = no_more
args_show (x ∷ args) = and number (args_show args)

-- a call begins the same
begin-same : (t : List ℕ) (q : ℕ) (args : List ℕ) {R D : List ℕ} {rooms : List (Option MRoom)} {recs : ℕ} {es : List MEntry} {n : ℕ} {rs : List Cell} {st : List Entry} {m : ℕ} → BaseShown R D rooms recs es n rs st m
    → Represents R (D ++ (0 ∷ [])) (mframe n q 0 [] (map Number args ++ replicate (local_count (procedure_in (index_of t) q) - length args) Empty)) [] rooms recs es (n + 1)
    (frame m q 0 [] (start_locals (map num args) (local_count (procedure_in (index_of t) q) - length args)) ∷ []) rs st (m + 1)
begin-same t q args {R} {D} {n} {m} b =
    let e : n ≡ m = b.counted in
    rw e
    (record {
      frames = and_frame (rw (b.deep ∙ e) at (snoc_last D 0)) no_more (start_shows (args_show args) _) no_frame;
      rooms_show = deeper (snoc_more D 0) b.rooms_show;
      records = b.records;
      store = b.store;
      deep = length-append D (0 ∷ []) ∙ ap (λ (k : ℕ). k + 1) (b.deep ∙ e);
      counted = refl;
    })

-- restoring leaves rooms and store of the beginning
restored_same : {R D R' D' : List ℕ} {rooms : List (Option MRoom)} {rs : List Cell} (rs' : List Cell) → ◌⊑◌ R R' → ◌⊑◌ D D' → length R' ≡ length rs' → ShowsRooms R D rooms rs → ShowsRooms R' D' rooms (restored rs rs')
restored_same {R} {D} {R'} {D'} {rooms} {rs} rs' g w k h = record {
  size = h.size;
  known = known';
  count = h.count ∙ sym (buried_count rs (drop (length rs) rs'));
  live = live';
  used = λ r s y xs e. let u = h.used r s y xs e in (u.0, nth_app rs (map bury (drop (length rs) rs')) s _ u.1, g _ _ u.2);
}
  where
    known' : length R' ≡ length (restored rs rs')
    known' = k ∙ sym (length-append rs (map bury (drop (length rs) rs')) ∙ simp (length-map, length-drop) (omega (arith, more_length R R' g, h.known, k)))

    live' : (id y : ℕ) (vs : List Value) → nth (restored rs rs') id ≡ some (here y vs) → (r : ℕ) × (xs : List Operand) × (nth R' id ≡ some r) × (nth rooms r ≡ some (some (mroom id y xs))) × ShowsAll R' D' xs vs
    live' id y vs e = ⊎_elim
        (λ q. let l = h.live id y vs q in (l.0, l.1, g _ _ l.2, l.3, all_more g w l.4))
        (λ q. absurd (buried_dead rs (drop (length rs) rs') id y q (vs, e)))
        (old_or rs (map bury (drop (length rs) rs')) id e)
      where
        old_or : (l r : List Cell) (i : ℕ) {c : Cell} → nth (l ++ r) i ≡ some c → (nth l i ≡ some c) ⊎ (length l ≤ i)
        old_or [] r i e = inr (omega arith)
        old_or (x ∷ l) r zero e = inl e
        old_or (x ∷ l) r (suc i) e = ⊎_elim (λ q. inl q) (λ q. inr (omega arith)) (old_or l r i e)

-- numbers stand for numbers
numbers-same : {R D : List ℕ} {xs : List Operand} {vs : List Value} → ShowsAll R D xs vs → All IsNumber vs → vs ≡ map num (numbers_of xs)
numbers-same no_more none_left = refl
numbers-same (and number a) (also k b) = rw (sym (numbers-same a b)) refl
numbers-same (and (whole e) a) (also k b) = absurd (clash (cc k.1))
numbers-same (and (to_aLocal e) a) (also k b) = absurd (clash (cc k.1))
numbers-same (and (to_aField e) a) (also k b) = absurd (clash (cc k.1))
numbers-same (and (to_aRecord e) a) (also k b) = absurd (clash (cc k.1))

-- what lies between calls, on both sides
abbrev Shown : MBase → Base → Type 0
Shown (mbase rooms recs es n) (base rs st m) = (R D : List ℕ) × BaseShown R D rooms recs es n rs st m

-- the lines of the calls in a history: its moments have none
lines_quiet : (i : ℕ) (es rest : List Event) → ends es ≡ 0 → call_lines i (es ++ rest) ≡ call_lines i rest
unfolding call_lines
lines_quiet i [] rest e = refl
lines_quiet i (moment s r o ∷ es) rest e = lines_quiet i es rest e
lines_quiet i (ended b s r o a ∷ es) rest e = absurd (omega arith)

module _ (t : List ℕ) where
  -- the line of a run, and what there is after it
  abbrev line_of : ℕ → Run → List ℕ
  line_of i (ran es s row o) = call_line i row o

  end_same : (i : ℕ) {mb : MBase} {b : Base} {x : MEnd} {r : Run} {R D R₀ D₀ : List ℕ} {rooms : List (Option MRoom)} {recs : ℕ} {es : List MEntry} {n : ℕ} {rs : List Cell} {st : List Entry} {m : ℕ}
      → mb ≡ mbase rooms recs es n → b ≡ base rs st m → BaseShown R₀ D₀ rooms recs es n rs st m → ◌⊑◌ R₀ R → ◌⊑◌ D₀ D → SameEnd t R D x r
      → (line_of i r ≡ mline t (index_of t) i x) × Shown (mafter mb x) (base_after t (index_of t) b r)
  unfolding call_line
  end_same i {R₀ = R₀} {D₀ = D₀} {rs = rs} p q h g w (end_stop {rs = rs'} R' D' g' w' v e) =
      let more : ◌⊑◌ R₀ R' = λ i y z. g' i y (g i y z) in
      let deep : ◌⊑◌ D₀ D' = λ i y z. w' i y (w i y z) in
      let known : length R' ≡ length rs' = v.rooms_show.known in
      let rooms-then = restored_same rs' more deep known h.rooms_show in
      rw (p, q) (
        rw e refl,
        (R', D', record { rooms_show = rooms-then; records = v.records ∙ sym known ∙ rooms-then.known; store = store_more more h.store; deep = v.deep; counted = v.counted }),
      )
  end_same i p q h g w (end-done {vs} R' D' g' w' a b c) = (rw (numbers-same a c) refl, (R', D', b))

  module _ (J : Judged t (index_of t)) where
    -- one call
    call_same : (i q budget : ℕ) (args : List ℕ) (mb : MBase) (b : Base) → Callable t (index_of t) q budget args → BaseOk t J b → Shown mb b
        → (line_of i (go t (index_of t) budget (begin t (index_of t) q args b)) ≡ mline t (index_of t) i (mgo t (index_of t) budget (mbegin t (index_of t) q args mb)))
        × Shown (mafter mb (mgo t (index_of t) budget (mbegin t (index_of t) q args mb))) (base_after t (index_of t) b (go t (index_of t) budget (begin t (index_of t) q args b)))
    unfolding BaseOk
    call_same i q budget args (mbase rooms recs es n) (base rs st m) c v s =
        end_same i refl refl s.2 (λ i y z. z) (snoc_more s.1 0)
        (same_run t J budget (begin-same t q args s.2) (begin_ok t J q budget args rs st m c v.0))

    -- the events of a call
    events_lines : (i : ℕ) (b : Base) (r : Run) (rest : List Event) → Quiet r → call_lines i (events_of t (index_of t) b r ++ rest) ≡ line_of i r ++ call_lines (i + 1) rest
    unfolding call_lines
    events_lines i b (ran es s row o) rest q = rw (append_assoc es (ended b s row o (afterwards b s o) ∷ []) rest) (lines_quiet i es (ended b s row o (afterwards b s o) ∷ rest) q)

    events_last : (b : Base) (r : Run) (c : Base) → Quiet r → last_base (events_of t (index_of t) b r) c ≡ base_after t (index_of t) b r
    unfolding last_base
    events_last b (ran es s row o) c q = last_append es (ended b s row o (afterwards b s o) ∷ []) c

    -- the calls' lines
    lines_same : (cs : List Call) (i : ℕ) (mb : MBase) (b : Base) → All (GoodCall t (index_of t)) cs → BaseOk t J b → Shown mb b → call_lines i (history t (index_of t) cs b) ≡ mlines t (index_of t) i cs mb
    unfolding history mlines call_lines
    lines_same [] i mb b a v s = refl
    lines_same (call q budget args ∷ cs) i mb b (also c a) v s =
        let r = go t (index_of t) budget (begin t (index_of t) q args b) in
        let one = call_same i q budget args mb b c v s in
        let later = lines_same cs (i + 1) _ (base_after t (index_of t) b r) a (call_run t J q budget args b c v) one.1 in
        events_lines i b r (history t (index_of t) cs (base_after t (index_of t) b r)) (go_quiet t (index_of t) budget (begin t (index_of t) q args b)) ∙ rw (one.0, later) refl

    -- what there is at the end
    last-same : (cs : List Call) (mb : MBase) (b c : Base) → b ≡ c → All (GoodCall t (index_of t)) cs → BaseOk t J b → Shown mb b → Shown (mlast t (index_of t) cs mb) (last_base (history t (index_of t) cs b) c)
    unfolding history mlast last_base
    last-same [] mb b c e a v s = rw e at s
    last-same (call q budget args ∷ cs) mb b c e (also d a) v s =
        let r = go t (index_of t) budget (begin t (index_of t) q args b) in
        let one = call_same 0 q budget args mb b d v s in
        let quiet = go_quiet t (index_of t) budget (begin t (index_of t) q args b) in
        rw (last_append (events_of t (index_of t) b r) (history t (index_of t) cs (base_after t (index_of t) b r)) c, events_last b r c quiet)
        (last-same cs _ (base_after t (index_of t) b r) (base_after t (index_of t) b r) refl a (call_run t J q budget args b d v) one.1)

  store_same : (mb : MBase) (b : Base) → Shown mb b → store_lines b ≡ mstore_lines mb
  store_same (mbase rooms recs es n) (base rs st m) s = entries-same s.2.rooms_show (sort_shows s.2.store)

-- 128 free rooms
free-rooms : (n : ℕ) → (used_count (replicate n none) ≡ 0) × ((r : ℕ) (m : MRoom) → nth (replicate {A = Option MRoom} n none) r ≡ some (some m) → ⊥)
free-rooms zero = (refl, λ r m e. clash (cc))
free-rooms (suc n) = let z = free-rooms n in (z.0, λ r m e. at r m e z.1)
  where
    at : (r : ℕ) (m : MRoom) → nth (none ∷ replicate {A = Option MRoom} n none) r ≡ some (some m) → ((r : ℕ) (m : MRoom) → nth (replicate {A = Option MRoom} n none) r ≡ some (some m) → ⊥) → ⊥
    at zero m e h = clash (cc)
    at (suc r) m e h = h r m e

nothing-shown : Shown mnothing nothing
nothing-shown = (
  [],
  [],
  record {
    rooms_show = record { size = length-replicate {A = Option MRoom} 128 none; known = refl; count = (free-rooms 128).0; live = λ id y vs e. absurd (clash (cc)); used = λ r s y xs e. absurd ((free-rooms 128).1 r (mroom s y xs) e) };
    records = refl;
    store = no-entry;
    deep = refl;
    counted = refl;
  },
)

-- What lies between the calls of a good list stands for a base of the rules.
module _ (t : List ℕ) (J : Judged t (index_of t)) where
  abbrev pub Between : MBase → Type 0
  Between mb = (b : Base) × BaseOk t J b × Shown mb b

  pub between-nothing : Between mnothing
  between-nothing = (nothing, nothing_ok t J, nothing-shown)

  -- the state in which a call begins is on the way
  pub between_begins : (q budget : ℕ) (args : List ℕ) (rooms : List (Option MRoom)) (recs : ℕ) (es : List MEntry) (n : ℕ) → Callable t (index_of t) q budget args → Between (mbase rooms recs es n)
      → (R D : List ℕ) × (fs : List Frame) × (rs : List Cell) × (st : List Entry) × (m : ℕ)
      × Represents R D (mframe n q 0 [] (map Number args ++ replicate (local_count (procedure_in (index_of t) q) - length args) Empty)) [] rooms recs es (n + 1) fs rs st m × StateOk t (state fs rs st m)
  unfolding BaseOk
  between_begins q budget args rooms recs es n c w = go w.0 w.1 w.2
    where
      go : (b : Base) → BaseOk t J b → Shown (mbase rooms recs es n) b
          → (R D : List ℕ) × (fs : List Frame) × (rs : List Cell) × (st : List Entry) × (m : ℕ)
          × Represents R D (mframe n q 0 [] (map Number args ++ replicate (local_count (procedure_in (index_of t) q) - length args) Empty)) [] rooms recs es (n + 1) fs rs st m × StateOk t (state fs rs st m)
      go (base rs st m) v s = (s.0, s.1 ++ (0 ∷ []), _, rs, st, m + 1, begin-same t q args s.2, begin_ok t J q budget args rs st m c v.0)

  pub between-after : (q budget : ℕ) (args : List ℕ) (mb : MBase) → Callable t (index_of t) q budget args → Between mb → Between (mafter mb (mgo t (index_of t) budget (mbegin t (index_of t) q args mb)))
  between-after q budget args mb c w =
      (base_after t (index_of t) w.0 (go t (index_of t) budget (begin t (index_of t) q args w.0)), call_run t J q budget args w.0 c w.1, (call_same t J 0 q budget args mb w.0 c w.1 w.2).1)

-- the text of a good list over an accepted table, as the machine writes it
pub text_same : (t l : List ℕ) (n k : ℕ) → Bytes t → Bytes l → judge_of t ≡ Accepted n → list_of t (index_of t) l ≡ Accepted k → text_of (history_of t l) ≡ mtext t (index_of t) (calls_of l)
unfolding text_of mtext history_of
text_same t l n k bt bl e d =
    let J = judged t n bt e in
    let good = good-calls t (index_of t) l k bl d in
    rw (lines_same t J (calls_of l) 0 mnothing nothing good (nothing_ok t J) nothing-shown)
    (ap (λ (x : List ℕ). mlines t (index_of t) 0 (calls_of l) mnothing ++ x) (store_same t (mlast t (index_of t) (calls_of l) mnothing) (last_base (history t (index_of t) (calls_of l) nothing) nothing) (last-same t J (calls_of l) mnothing nothing nothing refl good (nothing_ok t J) nothing-shown)))
