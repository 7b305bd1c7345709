-- What an accepted table gives of the frames, rooms and entries of a state on the way: they lie within the bounds of their cells.
use Prim.Native.Nat.{ℕ, zero, suc, ◌+◌, ◌<◌, ◌≤◌}
use mathlib.Core.Path.{◌≡◌, refl, ap, sym, ◌∙◌}
use mathlib.Core.Bool.{Bool}
use mathlib.Core.List.{List, ◌∷◌}
use mathlib.Core.Option.{Option, some}
use native.Mathlib.Decide.{dec_lt}
use native.Mathlib.Omega.{arith}
use lib.ListN.{length, get_or, get_elem? as nth}
use Rattle.table.specs.Index.{index_of}
use Rattle.declarations.specs.Program.{procedure_in}
use Rattle.flow.specs.Walks.{Slot}
use Rattle.leaks.specs.Leaks.{guarded_marks}
use Rattle.acceptance.proofs.Regular.{guarded-plain}
use Rattle.acceptance.proofs.Depth.{length-onto, good-same, deep}
use Rattle.acceptance.specs.Judged.{Judged}
use Rattle.semantics.specs.Machine.{Value, Cell, Frame}
use Rattle.semantics.specs.Claim.{All, none_left, also}
use Rattle.semantics.proofs.Changes.{clash}
use Rattle.semantics.proofs.Typing.{Slots, snil, sempty, sfull, Fields, dnil, dnum, dobj, CellOk}
use Rattle.semantics.proofs.Frames.{FrameOk, Suspended, bottom, over, Stack, runs}
use Rattle.semantics.proofs.Entering.{has_length}
use Rattle.state.specs.declared.Operand.{Operand}
use Rattle.state.specs.declared.Operand.TheVariants.{Empty, Number, Record, Refer}
use Rattle.state.specs.declared.frames.State.{State}
use Rattle.state.specs.code.Frames.{stop_of}
use Rattle.state.specs.code.Coding.{second_of, third_of}
use Rattle.state.specs.code.Layout.{operand_cell, local_cell, suspended_cell, room_cell, all_cells}
use Rattle.machine.specs.code.Machine.{MFrame, mframe, MRoom, mroom, MEntry, mstate}
use Rattle.machine.proofs.Represents.{ShowsAll, ShowsLocals, no_local, and_local, ShowsFrames, no_frame, and_frame, ShowsRooms}
use Rattle.machine.specs.code.Views.{up_from, frame_in, suspended_at, below_in, tab, room_in, rooms_in, view_of}
use Rattle.machine.proofs.Shows.{all_length}
use Rattle.machine.proofs.Views.{length_up, length_down}
use Rattle.frame.proofs.Meaning.{Tidy, Stands}
use Rattle.interpreter.proofs.Live.{Live}

-- a frame within its cells
pub record Fits (p i height count : ℕ) : Type 0 where
  pub named : p < 128
  pub inside : i < 256
  pub low : height ≤ 16
  pub few : count ≤ 16

abbrev pub FrameFits : MFrame → Type 0
FrameFits (mframe s p i ops ls) = Fits p i (length ops) (length ls)

slots_length : {t : List ℕ} {T W : List ℕ} {m : ℕ} {os : List (Option Value)} {ks : List ℕ} {L : List Slot} → Slots t (index_of t) T W m os ks L → length os ≡ length ks
slots_length snil = refl
slots_length (sempty s) = ap suc (slots_length s)
slots_length (sfull f s) = ap suc (slots_length s)

locals-length : {R D : List ℕ} {xs : List Operand} {os : List (Option Value)} → ShowsLocals R D xs os → length xs ≡ length os
locals-length no_local = refl
locals-length (and_local s h) = ap suc (locals-length h)

fields-length : {T : List ℕ} {vs : List Value} {ks : List ℕ} → Fields T vs ks → length vs ≡ length ks
fields-length dnil = refl
fields-length (dnum w q h) = ap suc (fields-length h)
fields-length (dobj a q h) = ap suc (fields-length h)

all_at : {A : Type 0} {P : A → Type 0} {xs : List A} → All P xs → (i : ℕ) {x : A} → nth xs i ≡ some x → P x
all_at none_left i e = absurd (clash (cc))
all_at (also {x} p a) zero {x = y} e = let q : x ≡ y = cc in rw q at p
all_at (also p a) (suc i) e = all_at a i e

module _ (t : List ℕ) (J : Judged t (index_of t)) {T W : List ℕ} where
  -- the operands, with the results that are still to come
  pub low_gap : {to : ℕ} {gap : List ℕ} {G : List Bool} {id p : ℕ} {vs : List Value} {os : List (Option Value)} → FrameOk t (index_of t) T W to gap G id p vs os → length vs + length gap ≤ 16
  low_gap {gap = gap} {p = p} F =
      let own = procedure_in (index_of t) p in
      let d = deep t (index_of t) (guarded_marks t) (guarded-plain t) own _ (J.procedure p F.there).some-code (λ j h. (J.instruction p j F.there h).flow) F.walk in
      omega (arith, has_length F.has, ap length (good-same (sym F.kinds ∙ d.before)), length-onto gap F.rest, d.depth, d.bounded)

  frame_fits : {R D : List ℕ} {to i : ℕ} {gap : List ℕ} {G : List Bool} {id p : ℕ} {ops ls : List Operand} {vs : List Value} {os : List (Option Value)}
      → i ≤ to → FrameOk t (index_of t) T W to gap G id p vs os → ShowsAll R D ops vs → ShowsLocals R D ls os → Fits p i (length ops) (length ls)
  frame_fits {p = p} l F a k =
      let P = J.procedure p F.there in record {
        named = P.low;
        inside = omega (arith, F.inside, P.few-code);
        low = omega (arith, all_length a, low_gap F);
        few = omega (arith, locals-length k, slots_length F.slots, P.locals, P.few-locals);
      }

  pub below-fit : {R D : List ℕ} {q : ℕ} {ms : List MFrame} {fs : List Frame} → ShowsFrames R D ms fs → Suspended t (index_of t) T W q fs → All FrameFits ms
  below-fit no_frame (bottom a b) = none_left
  below-fit (and_frame {i} d a k f) (over e c F S) = also (frame_fits {i = i} (omega arith) F a k) (below-fit f S)

  pub all_fit : {R D : List ℕ} {ms : List MFrame} {fs : List Frame} → ShowsFrames R D ms fs → Stack t (index_of t) T W fs → All FrameFits ms
  all_fit {R = R} {D = D} no_frame x4 = elim x4 [ ]
  all_fit (and_frame {i} d a k f) (runs F S) = also (frame_fits {i = i} (omega arith) F a k) (below-fit f S)

pub live_low : (t : List ℕ) → Judged t (index_of t) → {s p i : ℕ} {ops ls : List Operand} {ms : List MFrame} {rooms : List (Option MRoom)} {recs : ℕ} {es : List MEntry} {n : ℕ}
    → Live t (mstate (mframe s p i ops ls) ms rooms recs es n) → length ops ≤ 16
live_low t J l = go (all_fit t J l.6.frames l.7.frames)
  where
    go : {s p i : ℕ} {ops ls : List Operand} {ms : List MFrame} → All FrameFits (mframe s p i ops ls ∷ ms) → length ops ≤ 16
    go (also f a) = f.low

-- frames in the cells
below_at : (cs : List Operand) (n : ℕ) → All FrameFits (below_in cs n) → (d : ℕ) → d < n → FrameFits (suspended_at cs d)
unfolding below_in
below_at cs zero a d h = absurd (omega arith)
below_at cs (suc n) (also p a) d h = go (dec_lt d n) (below_at cs n a d)
  where
    go : Dec (d < n) → (d < n → FrameFits (suspended_at cs d)) → FrameFits (suspended_at cs d)
    go (yes l) rest = rest l
    go (no l) rest = let e : d ≡ n = omega arith in rw e p

-- rooms in the cells
tab-at : {A : Type 0} (f : ℕ → A) (b n i : ℕ) → i < n → nth (tab f b n) i ≡ some (f (b + i))
unfolding tab
tab-at f b zero i h = absurd (omega arith)
tab-at f b (suc n) zero h = let e : b + 0 ≡ b = omega arith in rw e
tab-at f b (suc n) (suc i) h = let e : b + suc i ≡ suc b + i = omega arith in rw e (tab-at f (suc b) n i (omega arith))

module _ (t : List ℕ) (J : Judged t (index_of t)) {R D T : List ℕ} {rs : List Cell} (cs : List Operand) (h : ShowsRooms R D (rooms_in cs) rs) (records : All (CellOk t (index_of t) T) rs) where
  fields_go : (r : ℕ) → r < 128 → (x : Operand) → get_or cs (room_cell r) Empty ≡ x → second_of x ≤ 8
  unfolding room_in
  fields_go r l Empty e = omega arith
  fields_go r l (Number n) e = omega arith
  fields_go r l (Record s k y) e =
      let q : 0 + r ≡ r = omega arith in
      let there : nth (rooms_in cs) r ≡ some (some (mroom s y (up_from cs (room_cell r + 1) k))) = tab-at (room_in cs) 0 128 r l ∙ rw (q, e) in
      let u = h.used r s y (up_from cs (room_cell r + 1) k) there in
      let v = h.live s y u.0 u.1 in
      let c = all_at records s u.1 in
      let same : v.0 ≡ r = cc (v.2, u.2) in
      let again : nth (rooms_in cs) r ≡ some (some (mroom s y v.1)) = rw same at v.3 in
      let fields : up_from cs (room_cell r + 1) k ≡ v.1 = cc in
      let d = J.declared y c.0 in
      omega (arith, ap length fields, length_up cs (room_cell r + 1) k, all_length v.4, fields-length c.1, d.fields, d.few)
  fields_go r l (Refer x) e = omega arith

  pub fields-few : (r : ℕ) → r < 128 → second_of (get_or cs (room_cell r) Empty) ≤ 8
  fields-few r l = fields_go r l (get_or cs (room_cell r) Empty) refl

-- all of it
pub live_stands : (t : List ℕ) → Judged t (index_of t) → (cs : List Operand) (s : State) → Live t (view_of cs s) → length cs ≡ all_cells → stop_of s ≡ 0 → s.depth < 16 → s.entries ≤ 64 → Tidy cs s → Stands cs s
live_stands t J cs s l whole running shallow stored tidy = go (all_fit t J l.6.frames l.7.frames)
  where
    go : All FrameFits (frame_in cs s ∷ below_in cs s.depth) → Stands cs s
    go (also p a) = record {
      whole = whole;
      running = running;
      named = omega (arith, p.named);
      inside = omega (arith, p.inside);
      low = omega (arith, p.low, length_down cs (operand_cell s.depth) s.height);
      few = omega (arith, p.few, length_up cs (local_cell s.depth) s.count);
      shallow = shallow;
      suspended_low = λ d h. omega (arith, (below_at cs s.depth a d h).low, length_down cs (operand_cell d) (second_of (get_or cs (suspended_cell d) Empty)));
      suspended_few = λ d h. omega (arith, (below_at cs s.depth a d h).few, length_up cs (local_cell d) (third_of (get_or cs (suspended_cell d) Empty)));
      fields = fields-few t J cs l.6.rooms_show l.7.records;
      stored = stored;
      tidy = tidy;
    }
