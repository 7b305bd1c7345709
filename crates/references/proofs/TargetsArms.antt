-- ReadRef, WriteRef and BorrowFld are what the machine on lists does.
use Prim.Native.Nat.{ℕ, zero, suc, ◌+◌, ◌-◌, ◌*◌, ◌/◌, ◌%◌, ◌≤◌, ◌<◌}
use mathlib.Core.Path.{◌≡◌, refl, ap, sym, ◌∙◌}
use mathlib.Core.Bool.{Bool, true, false, cond}
use mathlib.Core.Logic.{◌⊎◌, inl, inr}
use mathlib.Core.List.{List, ◌∷◌}
use mathlib.Core.Option.{none, some}
use Rattle.std.specs.Prelude.{Option, Some, None}
use native.Mathlib.Omega.{arith}
use native.Mathlib.Decide.{dec_lt, ℕ_discrete}
use borrow.Author.Tests.{lt-ltb, le-ltb, eq-eqb, ne_eqb}
use lib.Dec.{eqb, ltb}
use lib.ListN.{get_or, set, drop, get_elem? as nth, length-set}
use lib.Seq.{get_or-set_other}
use Rattle.semantics.proofs.Changes.{clash}
use Rattle.state.specs.declared.Reference.{Reference}
use Rattle.state.specs.declared.Reference.TheVariants.{Local, Field, Record as Whole}
use Rattle.state.specs.declared.Operand.{Operand}
use Rattle.state.specs.declared.Operand.TheVariants.{Empty, Number, Record, Refer}
use Rattle.state.specs.declared.frames.State.{State}
use Rattle.state.specs.declared.stops.Stop.TheVariants.{StaleReference, Broken}
use Rattle.state.specs.code.Coding.{number_of, first_of, second_of, third_of}
use Rattle.state.specs.code.Cells.{held_at}
use Rattle.state.specs.code.Layout.{operand_cell, local_cell, suspended_cell, room_cell}
use Rattle.state.specs.code.Frames.{top_at, dropped, gone_on}
use Rattle.state.specs.code.Rooms.{is_live, field_cell}
use Rattle.machine.specs.code.Machine.{mbroken, MFrame, mframe, mroom, mstate, MOutcome, mnext, MTarget, m_number, m_record, m_stale, m_wrong, held, room_of, local_at, put_at, leads, in_operand, field_in, number_in as Machine·number_in, in_room as Machine·in_room, as_number, as_reference, number_from, record_from, field_of, write_at, write_room, with_frames, doings}
use Rattle.machine.specs.code.Views.{up_from, down_from, operands_in, locals_in, below_in, rooms_in, entries_in, Same}
use Rattle.machine.proofs.Views.{length-below, below-same, rooms_same, entries-same, down_same, up_same, set_same, up_set, top-is, second_is, drop-is}
use Rattle.machine.proofs.Memory.{head_in, up_held, head_past, room_of_lem, field_put}
use Rattle.frame.specs.code.Turning.{Turning, after}
use Rattle.frame.specs.code.Operations.{with_number}
use Rattle.references.specs.code.Targets.{Target, ToNumber, ToRecord, Stale, Impossible, local_of, local_in, in_room, in_cell, in_local, held_in, in_place, target_of, target_by, target_top, read_at, read_of, borrowed_as, borrowed_in, borrow_field_of, written_at, write_of}
use Rattle.frame.proofs.Meaning.{outcome_of, doing, Stands, Kept}
use Rattle.frame.proofs.Settles.{kept, next-is, settle_is, settle-kept, ends-kept}

-- the machine on lists after an instruction that takes n operands and pushes x
abbrev pub onward : List Operand → State → ℕ → Operand → MOutcome
onward cs s n x = mnext (mstate (mframe s.serial s.procedure (s.at + 1) (x ∷ drop n (operands_in cs s)) (locals_in cs s)) (below_in cs s.depth) (rooms_in cs) s.records (entries_in cs s.entries) s.frames)

-- an instruction on an operand that is a number, or a reference, and what it keeps
module _ (cs : List Operand) (s : State) where
  pub number_is : (k : ℕ) (x : Operand) (f : ℕ → Turning) (g : ℕ → MOutcome) → ((n : ℕ) → outcome_of k (f n) ≡ g n) → outcome_of k (with_number cs s x f) ≡ as_number x g
  number_is k Empty f g h = refl
  number_is k (Number n) f g h = h n
  number_is k (Record c m y) f g h = refl
  number_is k (Refer r) f g h = refl

  pub number-kept : (x : Operand) (f : ℕ → Turning) → ((n : ℕ) → Kept cs s (f n)) → Kept cs s (with_number cs s x f)
  number-kept Empty f h = ends-kept cs s Broken
  number-kept (Number n) f h = h n
  number-kept (Record c m y) f h = ends-kept cs s Broken
  number-kept (Refer r) f h = ends-kept cs s Broken

  reference_is : (k : ℕ) (x : Operand) (f : Target → Turning) (g : Reference → MOutcome) → outcome_of k (f Impossible) ≡ mbroken → ((r : Reference) → outcome_of k (f (target_of cs s r)) ≡ g r) → outcome_of k (f (target_by cs s x)) ≡ as_reference x g
  reference_is k Empty f g i h = i
  reference_is k (Number n) f g i h = i
  reference_is k (Record c m y) f g i h = i
  reference_is k (Refer r) f g i h = h r

  reference_kept : (x : Operand) (f : Target → Turning) → Kept cs s (f Impossible) → ((r : Reference) → Kept cs s (f (target_of cs s r))) → Kept cs s (f (target_by cs s x))
  reference_kept Empty f i h = i
  reference_kept (Number n) f i h = i
  reference_kept (Record c m y) f i h = i
  reference_kept (Refer r) f i h = h r

-- what a target is on lists
abbrev pub meant : List Operand → Target → MTarget
meant cs (ToNumber o) = m_number (number_of (get_or cs o Empty))
meant cs (ToRecord c m) = m_record c m (up_from cs (room_cell m + 1) (second_of (head_in cs m)))
meant cs Stale = m_stale
meant cs Impossible = m_wrong

-- where a number lies to which a reference leads: in a local of the running frame or of a suspended one, or in a field of a room
data NumberCell (cs : List Operand) (s : State) : Reference → ℕ → Type 0 where
  running : {f d l k o : ℕ} → d ≡ s.depth → l < s.count → o ≡ local_cell d + l → NumberCell cs s (Local f d l k) o
  suspended : {f d l k o : ℕ} → d < s.depth → l < third_of (get_or cs (suspended_cell d) Empty) → o ≡ local_cell d + l → NumberCell cs s (Local f d l k) o
  field : {c m y j o : ℕ} → j < second_of (head_in cs m) → o ≡ room_cell m + 1 + j → NumberCell cs s (Field c m y j) o

module _ (cs : List Operand) (s : State) (st : Stands cs s) where
  -- a local of the frame at depth d; of those suspended; of all frames
  local-held : (serial f count d l : ℕ) → held_at cs (local_of serial f count d l) ≡ cond (eqb serial f) (held (nth (up_from cs (local_cell d) count) l)) Empty
  local-held serial f count d l = rw (up_held cs (local_cell d) count l) (go (eqb serial f) (ltb l count))
    where
      go : (p q : Bool) → held_at cs (cond p (cond q (Some (local_cell d + l)) None) None) ≡ cond p (cond q (get_or cs (local_cell d + l) Empty) Empty) Empty
      go true true = refl
      go true false = refl
      go false q = refl

  below-held : (n f d l : ℕ) → local_at (below_in cs n) f d l ≡ cond (ltb d n) (held_at cs (local_of (first_of (get_or cs (suspended_cell d) Empty)) f (third_of (get_or cs (suspended_cell d) Empty)) d l)) Empty
  unfolding below_in
  below-held zero f d l = rw (le-ltb d 0 (omega arith))
  below-held (suc n) f d l = rw (length-below cs n) (go (ℕ_discrete n d) (below-held n f d l))
    where
      x : Operand
      x = get_or cs (suspended_cell d) Empty

      o : Option ℕ
      o = local_of (first_of x) f (third_of x) d l

      less : (n ≡ d → ⊥) → Dec (d < n) → ltb d n ≡ ltb d (suc n)
      less e (yes l) = rw (lt-ltb d n l, lt-ltb d (suc n) (omega arith))
      less e (no l) = rw (le-ltb d n (omega arith), le-ltb d (suc n) (omega arith))

      go : Dec (n ≡ d) → local_at (below_in cs n) f d l ≡ cond (ltb d n) (held_at cs o) Empty
          → cond (eqb n d) (cond (eqb (first_of (get_or cs (suspended_cell n) Empty)) f) (held (nth (up_from cs (local_cell n) (third_of (get_or cs (suspended_cell n) Empty))) l)) Empty) (local_at (below_in cs n) f d l) ≡ cond (ltb d (suc n)) (held_at cs o) Empty
      go (yes e) rest = rw (eq-eqb n d e, lt-ltb d (suc n) (omega arith), e) (sym (local-held (first_of x) f (third_of x) d l))
      go (no e) rest = rw (ne_eqb n d e, rest, less e (dec_lt d n))

  frames-held : (at : ℕ) (ops : List Operand) (f d l : ℕ) → local_at (mframe s.serial s.procedure at ops (locals_in cs s) ∷ below_in cs s.depth) f d l ≡ held_at cs (local_in cs s f d l)
  frames-held at ops f d l = rw (length-below cs s.depth, below-held s.depth f d l) (go (ℕ_discrete s.depth d))
    where
      x : Operand
      x = get_or cs (suspended_cell d) Empty

      o : Option ℕ
      o = local_of (first_of x) f (third_of x) d l

      under : (t : Bool) → cond t (held_at cs o) Empty ≡ held_at cs (cond t o None)
      under true = refl
      under false = refl

      go : Dec (s.depth ≡ d) → cond (eqb s.depth d) (cond (eqb s.serial f) (held (nth (locals_in cs s) l)) Empty) (cond (ltb d s.depth) (held_at cs o) Empty) ≡ held_at cs (local_in cs s f d l)
      go (yes e) = rw (eq-eqb s.depth d e, eq-eqb d s.depth (sym e)) (rw (← e) (sym (local-held s.serial f s.count s.depth l)))
      go (no e) = rw (ne_eqb s.depth d e, ne_eqb d s.depth (λ q. e (sym q))) (under (ltb d s.depth))

  -- a field of a room; a room
  field-held : (m j : ℕ) → held (nth (up_from cs (room_cell m + 1) (second_of (head_in cs m))) j) ≡ held_at cs (field_cell cs m j)
  field-held m j = rw (up_held cs (room_cell m + 1) (second_of (head_in cs m)) j) (go (ltb j (second_of (head_in cs m))))
    where
      go : (p : Bool) → cond p (get_or cs (room_cell m + 1 + j) Empty) Empty ≡ held_at cs (cond p (Some (room_cell m + 1 + j)) None)
      go true = refl
      go false = refl

  room-leads : (c m : ℕ) → Machine·in_room m (room_of (nth (rooms_in cs) m) c) ≡ meant cs (in_room cs c m)
  room-leads c m = rw (room_of_lem cs st.whole m c) (go (is_live (head_in cs m) c))
    where
      go : (p : Bool) → Machine·in_room m (cond p (some (mroom c (third_of (head_in cs m)) (up_from cs (room_cell m + 1) (second_of (head_in cs m))))) none) ≡ meant cs (cond p (ToRecord c m) Stale)
      go true = refl
      go false = refl

  -- where a reference leads
  pub leads-is : (at : ℕ) (ops : List Operand) (r : Reference) → leads (mframe s.serial s.procedure at ops (locals_in cs s) ∷ below_in cs s.depth) (rooms_in cs) r ≡ meant cs (target_of cs s r)
  leads-is at ops (Local f d l k) = rw (frames-held at ops f d l) (place (local_in cs s f d l))
    where
      go : (o : ℕ) (x : Operand) → get_or cs o Empty ≡ x → in_operand (rooms_in cs) x ≡ meant cs (in_cell cs o x)
      go o Empty e = refl
      go o (Number n) e = rw e
      go o (Record c m y) e = room-leads c m
      go o (Refer r) e = refl

      place : (o : Option ℕ) → in_operand (rooms_in cs) (held_at cs o) ≡ meant cs (in_local cs o)
      place None = refl
      place (Some o) = go o (get_or cs o Empty) refl
  leads-is at ops (Field c m y j) = rw (room_of_lem cs st.whole m c) (go (is_live (head_in cs m) c))
    where
      here : (o : ℕ) (x : Operand) → get_or cs o Empty ≡ x → Machine·number_in x ≡ meant cs (held_in o x)
      here o Empty e = refl
      here o (Number n) e = rw e
      here o (Record a r k) e = refl
      here o (Refer r) e = refl

      place : (o : Option ℕ) → Machine·number_in (held_at cs o) ≡ meant cs (in_place cs o)
      place None = refl
      place (Some o) = here o (get_or cs o Empty) refl

      go : (p : Bool) → field_in j (cond p (some (mroom c (third_of (head_in cs m)) (up_from cs (room_cell m + 1) (second_of (head_in cs m))))) none) ≡ meant cs (cond p (in_place cs (field_cell cs m j)) Stale)
      go true = rw (field-held m j) (place (field_cell cs m j))
      go false = refl
  leads-is at ops (Whole c m y) = room-leads c m

  -- ReadRef
  pub read_is : (k b d kind others : ℕ) → outcome_of k (read_of cs s) ≡ doing b d kind 1 others cs s 6
  unfolding doings
  read_is k b d kind others = rw (top-is cs s) (reference_is cs s k (top_at cs s 0) (read_at cs s) _ refl (λ r. rw (leads-is s.at (drop 1 (operands_in cs s)) r) (to (target_of cs s r))))
    where
      to : (t : Target) → outcome_of k (read_at cs s t) ≡ number_from (meant cs t) (λ (n : ℕ). onward cs s 1 (Number n))
      to (ToNumber o) = settle_is cs s st 1 _ (omega (arith, st.low)) k
      to (ToRecord c m) = refl
      to Stale = refl
      to Impossible = refl

  pub read_kept : Kept cs s (read_of cs s)
  read_kept = to (target_top cs s)
    where
      to : (t : Target) → Kept cs s (read_at cs s t)
      to (ToNumber o) = settle-kept cs s st 1 _ (omega (arith, st.low))
      to (ToRecord c m) = ends-kept cs s Broken
      to Stale = ends-kept cs s StaleReference
      to Impossible = ends-kept cs s Broken

  -- BorrowFld
  pub borrow_field_is : (k b d kind others : ℕ) → b / 8 < 256 → outcome_of k (borrow_field_of cs s b) ≡ doing b d kind 1 others cs s 8
  unfolding doings
  borrow_field_is k b d kind others small =
      let e : b / 8 % 256 ≡ b / 8 = omega arith in
      rw (top-is cs s, e) (reference_is cs s k (top_at cs s 0) (λ (t : Target). borrowed_in cs s t (b / 8) (b % 8)) _ refl (λ r. rw (leads-is s.at (drop 1 (operands_in cs s)) r) (to (target_of cs s r))))
    where
      of : (c m : ℕ) (x : Operand) → outcome_of k (borrowed_as cs s c m (b / 8) (b % 8) x) ≡ field_of c m (b / 8) (b % 8) x (onward cs s 1)
      of c m Empty = refl
      of c m (Number n) = settle_is cs s st 1 _ (omega (arith, st.low)) k
      of c m (Record a r y) = settle_is cs s st 1 _ (omega (arith, st.low)) k
      of c m (Refer r) = refl

      to : (t : Target) → outcome_of k (borrowed_in cs s t (b / 8) (b % 8)) ≡ record_from (meant cs t) (λ (a c : ℕ) (xs : List Operand). field_of a c (b / 8) (b % 8) (held (nth xs (b % 8))) (onward cs s 1))
      to (ToNumber o) = refl
      to (ToRecord c m) = rw (field-held m (b % 8)) (of c m (held_at cs (field_cell cs m (b % 8))))
      to Stale = refl
      to Impossible = refl

  pub borrow_field_kept : (b : ℕ) → Kept cs s (borrow_field_of cs s b)
  borrow_field_kept b = to (target_top cs s)
    where
      of : (c m : ℕ) (x : Operand) → Kept cs s (borrowed_as cs s c m (b / 8 % 256) (b % 8) x)
      of c m Empty = ends-kept cs s Broken
      of c m (Number n) = settle-kept cs s st 1 _ (omega (arith, st.low))
      of c m (Record a r y) = settle-kept cs s st 1 _ (omega (arith, st.low))
      of c m (Refer r) = ends-kept cs s Broken

      to : (t : Target) → Kept cs s (borrowed_in cs s t (b / 8 % 256) (b % 8))
      to (ToNumber o) = ends-kept cs s Broken
      to (ToRecord c m) = of c m (held_at cs (field_cell cs m (b % 8)))
      to Stale = ends-kept cs s StaleReference
      to Impossible = ends-kept cs s Broken

  -- WriteRef. The cell of a number to which a reference leads
  local-cell : (serial f count d l o : ℕ) → local_of serial f count d l ≡ Some o → (l < count) × (o ≡ local_cell d + l)
  local-cell serial f count d l o e = go (eqb serial f) (dec_lt l count) e
    where
      go : (p : Bool) → Dec (l < count) → cond p (cond (ltb l count) (Some (local_cell d + l)) None) None ≡ Some o → (l < count) × (o ≡ local_cell d + l)
      go true (yes h) e = let q = rw (lt-ltb l count h) at e in (h, cc (q))
      go true (no h) e = let q = rw (le-ltb l count (omega arith)) at e in absurd (clash (cc (q)))
      go false h e = absurd (clash (cc (e)))

  local-in : (f d l k o : ℕ) → local_in cs s f d l ≡ Some o → NumberCell cs s (Local f d l k) o
  local-in f d l k o e = go (ℕ_discrete d s.depth) (dec_lt d s.depth)
    where
      go : Dec (d ≡ s.depth) → Dec (d < s.depth) → NumberCell cs s (Local f d l k) o
      go (yes p) h = let c = local-cell s.serial f s.count d l o (rw (eq-eqb d s.depth p) at e) in running p c.0 c.1
      go (no n) (yes p) =
          let x = get_or cs (suspended_cell d) Empty in
          let c = local-cell (first_of x) f (third_of x) d l o (rw (ne_eqb d s.depth n, lt-ltb d s.depth p) at e) in
          suspended p c.0 c.1
      go (no n) (no p) = let q = rw (ne_eqb d s.depth n, le-ltb d s.depth (omega arith)) at e in absurd (clash (cc (q)))

  no_number : (p : Bool) (c m o : ℕ) → cond p (ToRecord c m) Stale ≡ ToNumber o → ⊥
  no_number true c m o e = clash (cc)
  no_number false c m o e = clash (cc)

  number_cell : (r : Reference) (o : ℕ) → target_of cs s r ≡ ToNumber o → NumberCell cs s r o
  number_cell (Local f d l k) o e = place (local_in cs s f d l) refl e
    where
      go : (n : ℕ) (x : Operand) → in_cell cs n x ≡ ToNumber o → n ≡ o
      go n Empty e = absurd (clash (cc))
      go n (Number v) e = cc
      go n (Record c m y) e = absurd (no_number (is_live (head_in cs m) c) c m o e)
      go n (Refer r) e = absurd (clash (cc))

      place : (p : Option ℕ) → local_in cs s f d l ≡ p → in_local cs p ≡ ToNumber o → NumberCell cs s (Local f d l k) o
      place None q e = absurd (clash (cc (e)))
      place (Some n) q e = let z : n ≡ o = go n (get_or cs n Empty) e in local-in f d l k o (rw z at q)
  number_cell (Field c m y j) o e = live (is_live (head_in cs m) c) e
    where
      inside : Dec (j < second_of (head_in cs m)) → field_cell cs m j ≡ Some o → NumberCell cs s (Field c m y j) o
      inside (yes h) q = let z = rw (lt-ltb j (second_of (head_in cs m)) h) at q in field h (cc (z))
      inside (no h) q = let z = rw (le-ltb j (second_of (head_in cs m)) (omega arith)) at q in absurd (clash (cc (z)))

      go : (n : ℕ) (x : Operand) → held_in n x ≡ ToNumber o → n ≡ o
      go n Empty e = absurd (clash (cc))
      go n (Number v) e = cc
      go n (Record a r k) e = absurd (clash (cc))
      go n (Refer r) e = absurd (clash (cc))

      place : (p : Option ℕ) → field_cell cs m j ≡ p → in_place cs p ≡ ToNumber o → NumberCell cs s (Field c m y j) o
      place None q e = absurd (clash (cc (e)))
      place (Some n) q e = let z : n ≡ o = go n (get_or cs n Empty) e in inside (dec_lt j (second_of (head_in cs m))) (rw z at q)

      live : (p : Bool) → cond p (in_place cs (field_cell cs m j)) Stale ≡ ToNumber o → NumberCell cs s (Field c m y j) o
      live true e = place (field_cell cs m j) refl e
      live false e = absurd (clash (cc))
  number_cell (Whole c m y) o e = absurd (no_number (is_live (head_in cs m) c) c m o e)

  -- a local of a suspended frame written
  put-below : (n d l : ℕ) (x : Operand) → n ≤ s.depth → d < n → l < third_of (get_or cs (suspended_cell d) Empty) → below_in (set cs (local_cell d + l) x) n ≡ put_at (below_in cs n) d l x
  unfolding below_in
  put-below zero d l x h p q = absurd (omega arith)
  put-below (suc n) d l x h p q =
      rw (
        length-below cs n,
        high (suspended_cell n) (omega arith) (omega (arith, st.shallow)),
        high (suspended_cell n + 1) (omega arith) (omega (arith, st.shallow)),
        down_same cs ds (operand_cell n) (second_of (get_or cs (suspended_cell n) Empty)) (set_same cs (local_cell d + l) x _ _ (apart (dec_lt d n))),
      )
      (go (ℕ_discrete n d) (λ m. put-below n d l x (omega arith) m q))
    where
      ds : List Operand
      ds = set cs (local_cell d + l) x

      framed : List Operand → MFrame
      framed ls = mframe (first_of (get_or cs (suspended_cell n) Empty)) (number_of (get_or cs (suspended_cell n + 1) Empty) / 65536 % 65536) (number_of (get_or cs (suspended_cell n + 1) Empty) % 65536) (down_from cs (operand_cell n) (second_of (get_or cs (suspended_cell n) Empty))) ls

      count : ℕ
      count = third_of (get_or cs (suspended_cell n) Empty)

      high : Same 512 544 cs ds
      high = set_same cs (local_cell d + l) x 512 544 (inl (omega (arith, st.shallow, st.suspended_few d (omega arith))))

      apart : Dec (d < n) → (local_cell d + l < operand_cell n) ⊎ (operand_cell n + second_of (get_or cs (suspended_cell n) Empty) ≤ local_cell d + l)
      apart (yes m) = inl (omega (arith, st.suspended_few d (omega arith)))
      apart (no m) = inr (omega (arith, st.suspended_low n (omega arith)))

      go : Dec (n ≡ d) → (d < n → below_in ds n ≡ put_at (below_in cs n) d l x) → framed (up_from ds (local_cell n) count) ∷ below_in ds n ≡ cond (eqb n d) (framed (set (up_from cs (local_cell n) count) l x) ∷ below_in cs n) (framed (up_from cs (local_cell n) count) ∷ put_at (below_in cs n) d l x)
      go (yes e) rest =
          rw (
            eq-eqb n d e,
            ← e,
            up_set cs (local_cell n) count l x (omega (arith, st.whole, st.shallow, st.suspended_few n (omega arith))),
            below-same cs (set cs (local_cell n + l) x) n (λ i m. st.suspended_low i (omega arith)) (λ i m. st.suspended_few i (omega arith)) (set_same cs (local_cell n + l) x 0 (32 * n) (inr (omega arith))) (λ i a b. rw (← e) at (high i a (omega (arith, st.shallow)))),
          )
      go (no e) rest = rw (ne_eqb n d e, up_same cs ds (local_cell n) count (set_same cs (local_cell d + l) x _ _ (inl (omega (arith, st.suspended_few d (omega arith))))), rest (omega arith))

  -- a number written into its cell
  module _ (k n : ℕ) where
    abbrev through : Reference → MOutcome
    through r = with_frames (write_at (mframe s.serial s.procedure (s.at + 1) (drop 2 (operands_in cs s)) (locals_in cs s) ∷ below_in cs s.depth) r (Number n)) (write_room (rooms_in cs) r (Number n)) s.records (entries_in cs s.entries) s.frames

    -- in cells that hold the same operands and entries
    view : (ds : List Operand) → Same (operand_cell s.depth) (local_cell s.depth) cs ds → Same 544 672 cs ds → outcome_of k (after (gone_on (dropped s 2)) ds)
        ≡ mnext (mstate (mframe s.serial s.procedure (s.at + 1) (drop 2 (operands_in cs s)) (locals_in ds s)) (below_in ds s.depth) (rooms_in ds) s.records (entries_in cs s.entries) s.frames)
    view ds p q = rw (st.running, next-is cs s st, drop-is cs s 2, down_same cs ds (operand_cell s.depth) (s.height - 2) (λ i a b. p i a (omega (arith, st.low))), entries-same cs ds s.entries (λ i a b. q i a (omega (arith, st.stored))))

    written : (r : Reference) (o : ℕ) → NumberCell cs s r o → outcome_of k (after (gone_on (dropped s 2)) (set cs o (Number n))) ≡ through r
    written r o (running {d} {l} e h q) = rw (q, e, length-below cs s.depth, eq-eqb s.depth s.depth refl) (view ds (same _ _ (inr (omega arith))) (same _ _ (inl (omega (arith, st.shallow, st.few)))) ∙ rw (
      up_set cs (local_cell s.depth) s.count l (Number n) (omega (arith, st.whole, st.few, st.shallow)),
      below-same cs ds s.depth st.suspended_low st.suspended_few (same _ _ (inr (omega arith))) (same _ _ (inl (omega (arith, st.shallow, st.few)))),
      rooms_same cs ds st.fields (same _ _ (inl (omega (arith, st.shallow, st.few)))),
    ))
      where
        ds : List Operand
        ds = set cs (local_cell s.depth + l) (Number n)

        same : (a b : ℕ) → (local_cell s.depth + l < a) ⊎ (b ≤ local_cell s.depth + l) → Same a b cs ds
        same = set_same cs (local_cell s.depth + l) (Number n)
    written r o (suspended {d} {l} e h q) = rw (q, length-below cs s.depth, ne_eqb s.depth d (λ z. omega arith)) (view ds (same _ _ (inl (omega (arith, few)))) (same _ _ (inl (omega (arith, st.shallow, few)))) ∙ rw (
      up_same cs ds (local_cell s.depth) s.count (same _ _ (inl (omega (arith, few)))),
      put-below s.depth d l (Number n) (omega arith) e h,
      rooms_same cs ds st.fields (same _ _ (inl (omega (arith, st.shallow, few)))),
    ))
      where
        ds : List Operand
        ds = set cs (local_cell d + l) (Number n)

        few : third_of (get_or cs (suspended_cell d) Empty) ≤ 16
        few = st.suspended_few d e

        same : (a b : ℕ) → (local_cell d + l < a) ⊎ (b ≤ local_cell d + l) → Same a b cs ds
        same = set_same cs (local_cell d + l) (Number n)
    written r o (field {m} {j} h q) = rw q (view ds (same _ _ (inr (omega (arith, st.shallow)))) (same _ _ (inr (omega arith))) ∙ rw (
      up_same cs ds (local_cell s.depth) s.count (same _ _ (inr (omega (arith, st.few, st.shallow)))),
      below-same cs ds s.depth st.suspended_low st.suspended_few (same _ _ (inr (omega (arith, st.shallow)))) (same _ _ (inr (omega (arith, st.shallow)))),
      field_put cs st.whole st.fields m j (Number n) h,
    ))
      where
        ds : List Operand
        ds = set cs (room_cell m + 1 + j) (Number n)

        same : (a b : ℕ) → (room_cell m + 1 + j < a) ⊎ (b ≤ room_cell m + 1 + j) → Same a b cs ds
        same = set_same cs (room_cell m + 1 + j) (Number n)

  pub write_is : (k b d kind others : ℕ) → outcome_of k (write_of cs s) ≡ doing b d kind 2 others cs s 7
  unfolding doings
  write_is k b d kind others =
      rw (top-is cs s, second_is cs s)
      (number_is cs s k (top_at cs s 1) (written_at cs s (target_top cs s)) _ (λ n. reference_is cs s k (top_at cs s 0) (λ (t : Target). written_at cs s t n) _ refl (λ r. rw (leads-is s.at (drop 2 (operands_in cs s)) r) (to n r (target_of cs s r) refl))))
    where
      to : (n : ℕ) (r : Reference) (t : Target) → target_of cs s r ≡ t → outcome_of k (written_at cs s t n) ≡ number_from (meant cs t) (λ (y : ℕ). through k n r)
      to n r (ToNumber o) e = written k n r o (number_cell r o e)
      to n r (ToRecord c m) e = refl
      to n r Stale e = refl
      to n r Impossible e = refl

  pub write_kept : Kept cs s (write_of cs s)
  write_kept = number-kept cs s (top_at cs s 1) (written_at cs s (target_top cs s)) (λ n. reference_kept cs s (top_at cs s 0) (λ (t : Target). written_at cs s t n) (ends-kept cs s Broken) (λ r. to n r (target_of cs s r) refl))
    where
      headless : (r : Reference) (o : ℕ) → NumberCell cs s r o → (i : ℕ) → room_cell i ≡ o → ⊥
      headless r o (running e h q) i z = omega (arith, st.few, st.shallow)
      headless r o (suspended {d} e h q) i z = omega (arith, st.suspended_few d e, st.shallow)
      headless r o (field {m} {j} h q) i z = go (dec_lt m 128)
        where
          go : Dec (m < 128) → ⊥
          go (yes l) = omega (arith, st.fields m l)
          go (no l) = omega (arith, ap second_of (head_past cs st.whole m (omega arith)))

      to : (n : ℕ) (r : Reference) (t : Target) → target_of cs s r ≡ t → Kept cs s (written_at cs s t n)
      to n r (ToNumber o) e = kept cs (set cs o (Number n)) s _ (length-set cs o (Number n)) (λ i l. get_or-set_other cs o (room_cell i) (Number n) Empty (headless r o (number_cell r o e) i)) refl refl (omega arith) (omega arith)
      to n r (ToRecord c m) e = ends-kept cs s Broken
      to n r Stale e = ends-kept cs s StaleReference
      to n r Impossible e = ends-kept cs s Broken
