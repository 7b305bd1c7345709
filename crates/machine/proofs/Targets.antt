-- References lead to the same; rooms hold the same records.
use Prim.Native.Nat.{ℕ, zero, suc, ◌+◌, ◌<◌, ◌≤◌}
use mathlib.Core.Path.{◌≡◌, refl, ap, sym, ◌∙◌}
use mathlib.Core.Bool.{Bool, true, false, cond, ◌&&◌}
use mathlib.Core.List.{List, [], ◌∷◌, ◌++◌}
use mathlib.Core.Option.{Option, none, some}
use mathlib.Core.Logic.{◌⊎◌, inl, inr, ⊎_elim}
use native.Mathlib.Omega.{arith}
use native.Mathlib.Decide.{ℕ_discrete}
use borrow.Author.Tests.{eqb-true, eqb-false, eq-eqb}
use lib.Dec.{eqb}
use lib.ListN.{length, set, length-append, length-set, get_elem? as nth}
use Rattle.semantics.specs.Machine.{Value, num, Cell, gone, here, Entry, entry, Frame, find_key, drop_key, put_field, Target, a_number, a_record, stale, wrong, in_cell, in_local, number_in, in_field, target}
use Rattle.semantics.proofs.Changes.{clash, live_put, live_snoc}
use Rattle.semantics.proofs.Counts.{put-set}
use Rattle.semantics.proofs.Sounds.{nth_put, nth_app}
use Rattle.semantics.proofs.Typing.{snoc_more, snoc_last}
use Rattle.state.specs.declared.Reference.{Reference}
use Rattle.state.specs.declared.Operand.{Operand}
use Rattle.state.specs.declared.Operand.TheVariants.{Number, Refer}
use Rattle.machine.specs.code.Machine as M
use Rattle.machine.specs.code.Machine.{MFrame, MRoom, mroom, MEntry, mentry, MTarget, m_number, m_record, m_stale, free_room, room_of, put_room, find_entry, drop_entry, in_room, in_operand, field_in, leads}
use Rattle.machine.proofs.Represents.{Shows, empty, number, whole, to_aLocal, to_aField, to_aRecord, ShowsAll, ShowsFrames, ShowsStore, no-entry, and_entry, ShowsRooms, used_count}
use Rattle.machine.proofs.Shows.{all_more, field_shows, put-shows, local_shows}

-- targets that are the same; where the rules find what no reference leads to, anything
pub data Same (R D : List ℕ) : MTarget → Target → Type 0 where
  same_number : {n : ℕ} → Same R D (m_number n) (a_number n)
  same_record : {s r : ℕ} {xs : List Operand} {vs : List Value} → nth R s ≡ some r → ShowsAll R D xs vs → Same R D (m_record s r xs) (a_record s vs)
  same_stale : Same R D m_stale stale
  anything : {m : MTarget} → Same R D m wrong

-- what a room holds for a serial number
data RoomHas (s : ℕ) (m : Option (Option MRoom)) : Type 0 where
  it : (y : ℕ) (xs : List Operand) → m ≡ some (some (mroom s y xs)) → room_of m s ≡ some (mroom s y xs) → RoomHas s m
  another : room_of m s ≡ none → ((y : ℕ) (xs : List Operand) → m ≡ some (some (mroom s y xs)) → ⊥) → RoomHas s m

room_has : (s : ℕ) (m : Option (Option MRoom)) → RoomHas s m
room_has s none = another refl (λ y xs e. clash (cc))
room_has s (some none) = another refl (λ y xs e. clash (cc))
room_has s (some (some (mroom s' y xs))) = go (eqb s' s) refl
  where
    go : (b : Bool) → eqb s' s ≡ b → RoomHas s (some (some (mroom s' y xs)))
    go true e = let z : s' ≡ s = eqb-true s' s e in it y xs (ap (λ (n : ℕ). some (some (mroom n y xs))) z) (rw e (ap (λ (n : ℕ). some (mroom n y xs)) z))
    go false e = another (rw e refl) (λ y' xs' q. let z : s' ≡ s = cc (q) in eqb-false s' s e z)

module _ {R D : List ℕ} {rooms : List (Option MRoom)} {rs : List Cell} (h : ShowsRooms R D rooms rs) where
  -- the record with a serial number, in its room
  pub room_live : (s r y : ℕ) (vs : List Value) → nth R s ≡ some r → nth rs s ≡ some (here y vs) → (xs : List Operand) × (nth rooms r ≡ some (some (mroom s y xs))) × (room_of (nth rooms r) s ≡ some (mroom s y xs)) × ShowsAll R D xs vs
  room_live s r y vs e d =
      let l = h.live s y vs d in
      let same-room : l.0 ≡ r = cc (l.2, e) in
      let there : nth rooms r ≡ some (some (mroom s y l.1)) = rw same-room at l.3 in
      (l.1, there, rw (there, eq-eqb s s refl) refl, l.4)

  pub room_gone : (s r y : ℕ) → nth R s ≡ some r → nth rs s ≡ some (gone y) → room_of (nth rooms r) s ≡ none
  room_gone s r y e d = go (room_has s (nth rooms r))
    where
      go : RoomHas s (nth rooms r) → room_of (nth rooms r) s ≡ none
      go (it y' xs q z) = let u = h.used r s y' xs q in absurd (clash (cc (u.1, d)))
      go (another q z) = q

  in_cell_lem : (s r : ℕ) (c : Option Cell) → nth R s ≡ some r → nth rs s ≡ c → Same R D (in_room r (room_of (nth rooms r) s)) (in_cell s c)
  in_cell_lem s r none e d = anything
  in_cell_lem s r (some (gone y)) e d = rw (room_gone s r y e d) same_stale
  in_cell_lem s r (some (here y vs)) e d = let l = room_live s r y vs e d in rw l.2 (same_record e l.3)

  in-value : {x : Operand} {o : Option Value} → Shows R D x o → Same R D (in_operand rooms x) (in_local rs o)
  in-value empty = same_stale
  in-value number = same_number
  in-value (whole {s} {r} e) = in_cell_lem s r (nth rs s) e refl
  in-value (to_aLocal e) = anything
  in-value (to_aField e) = anything
  in-value (to_aRecord e) = anything

  number-in : {x : Operand} {o : Option Value} → Shows R D x o → Same R D (M.number_in x) (number_in o)
  number-in empty = anything
  number-in number = same_number
  number-in (whole e) = anything
  number-in (to_aLocal e) = anything
  number-in (to_aField e) = anything
  number-in (to_aRecord e) = anything

  in_field_lem : (s r j : ℕ) (c : Option Cell) → nth R s ≡ some r → nth rs s ≡ c → Same R D (field_in j (room_of (nth rooms r) s)) (in_field (in_cell s c) j)
  in_field_lem s r j none e d = anything
  in_field_lem s r j (some (gone y)) e d = rw (room_gone s r y e d) same_stale
  in_field_lem s r j (some (here y vs)) e d = let l = room_live s r y vs e d in rw l.2 (number-in (field_shows l.3 j))

  -- where a reference leads
  pub leads-same : {ms : List MFrame} {fs : List Frame} → ShowsFrames R D ms fs → {ref : Reference} {v : Value} → Shows R D (Refer ref) (some v) → Same R D (leads ms rooms ref) (target fs rs v)
  leads-same f (to_aLocal {f = g} {d} {l} e) = in-value (local_shows g d l f e)
  leads-same f (to_aField {s} {r} {y} {j} e) = in_field_lem s r j (nth rs s) e refl
  leads-same f (to_aRecord {s} {r} e) = in_cell_lem s r (nth rs s) e refl

-- Counting rooms
used_put : (rooms : List (Option MRoom)) (r : ℕ) (m k : MRoom) → nth rooms r ≡ some (some m) → used_count (set rooms r (some k)) ≡ used_count rooms
used_put [] r m k e = refl
used_put (none ∷ rooms) zero m k e = absurd (clash (cc))
used_put (some x ∷ rooms) zero m k e = refl
used_put (none ∷ rooms) (suc r) m k e = used_put rooms r m k e
used_put (some x ∷ rooms) (suc r) m k e = ap suc (used_put rooms r m k e)

used_free : (rooms : List (Option MRoom)) (r : ℕ) (m : MRoom) → nth rooms r ≡ some (some m) → suc (used_count (set rooms r none)) ≡ used_count rooms
used_free [] r m e = absurd (clash (cc))
used_free (none ∷ rooms) zero m e = absurd (clash (cc))
used_free (some x ∷ rooms) zero m e = refl
used_free (none ∷ rooms) (suc r) m e = used_free rooms r m e
used_free (some x ∷ rooms) (suc r) m e = ap suc (used_free rooms r m e)

used_fill : (rooms : List (Option MRoom)) (m : MRoom) → free_room rooms < length rooms → (used_count (set rooms (free_room rooms) (some m)) ≡ suc (used_count rooms)) × (nth rooms (free_room rooms) ≡ some none)
used_fill [] m l = absurd (omega arith)
used_fill (none ∷ rooms) m l = (refl, refl)
used_fill (some x ∷ rooms) m l = let z = used_fill rooms m (omega arith) in (ap suc z.0, z.1)

-- there is a free room exactly if not all are used
pub free_used : (rooms : List (Option MRoom)) → (free_room rooms ≤ length rooms) × (used_count rooms ≤ length rooms) × (free_room rooms < length rooms → used_count rooms < length rooms) × (used_count rooms < length rooms → free_room rooms < length rooms)
free_used [] = (omega arith, omega arith, (λ l. l), (λ l. l))
free_used (none ∷ rooms) = let z = free_used rooms in (omega arith, omega (arith, z.1), (λ l. omega (arith, z.1)), (λ l. omega arith))
free_used (some x ∷ rooms) = let z = free_used rooms in (omega (arith, z.0), omega (arith, z.1), (λ l. omega (arith, z.2 (omega arith))), (λ l. omega (arith, z.3 (omega arith))))

pub put-room-set : (rooms : List (Option MRoom)) (r j s y : ℕ) (xs : List Operand) (x : Operand) → nth rooms r ≡ some (some (mroom s y xs)) → put_room rooms r j x ≡ set rooms r (some (mroom s y (set xs j x)))
put-room-set [] r j s y xs x e = refl
put-room-set (none ∷ rooms) zero j s y xs x e = absurd (clash (cc))
put-room-set (some (mroom a b ys) ∷ rooms) zero j s y xs x e = cc
put-room-set (none ∷ rooms) (suc r) j s y xs x e = ap (λ (l : List (Option MRoom)). none ∷ l) (put-room-set rooms r j s y xs x e)
put-room-set (some m ∷ rooms) (suc r) j s y xs x e = ap (λ (l : List (Option MRoom)). some m ∷ l) (put-room-set rooms r j s y xs x e)

-- what is set is there
set_there : {A : Type 0} (l : List A) (i : ℕ) (x y : A) → nth l i ≡ some x → nth (set l i y) i ≡ some y
set_there [] i x y e = absurd (clash (cc))
set_there (z ∷ l) zero x y e = refl
set_there (z ∷ l) (suc i) x y e = set_there l i x y e

set_other : {A : Type 0} (l : List A) (i j : ℕ) (x : A) → (i ≡ j → ⊥) → nth (set l i x) j ≡ nth l j
set_other [] i j x c = refl
set_other (z ∷ l) zero zero x c = absurd (c refl)
set_other (z ∷ l) zero (suc j) x c = refl
set_other (z ∷ l) (suc i) zero x c = refl
set_other (z ∷ l) (suc i) (suc j) x c = set_other l i j x (λ e. c (ap suc e))

module _ {R D : List ℕ} {rooms : List (Option MRoom)} {rs : List Cell} (h : ShowsRooms R D rooms rs) where
  -- a number written to a field
  pub rooms_written : (s r y j n : ℕ) (vs : List Value) → nth R s ≡ some r → nth rs s ≡ some (here y vs) → ShowsRooms R D (put_room rooms r j (Number n)) (put_field rs s j (num n))
  rooms_written s r y j n vs e d =
      let l = room_live h s r y vs e d in
      let xs = l.0 in
      rw (put-room-set rooms r j s y xs (Number n) l.1, put-set rs s j y vs (num n) d)
      (record {
        size = length-set rooms r _ ∙ h.size;
        known = h.known ∙ sym (length-set rs s _);
        count = used_put rooms r (mroom s y xs) (mroom s y (set xs j (Number n))) l.1 ∙ h.count ∙ sym (same_count (live_put rs s (here y (set vs j (num n))) (here y vs) d));
        live = live' xs l.1 l.3;
        used = used' xs l.1;
      })
    where
      same_count : {a b : ℕ} → a + 1 ≡ b + 1 → a ≡ b
      same_count q = omega arith

      live' : (xs : List Operand) → nth rooms r ≡ some (some (mroom s y xs)) → ShowsAll R D xs vs → (id y' : ℕ) (us : List Value) → nth (set rs s (here y (set vs j (num n)))) id ≡ some (here y' us)
          → (r' : ℕ) × (ys : List Operand) × (nth R id ≡ some r') × (nth (set rooms r (some (mroom s y (set xs j (Number n))))) r' ≡ some (some (mroom id y' ys))) × ShowsAll R D ys us
      live' xs q a id y' us z = go (ℕ_discrete s id)
        where
          go : Dec (s ≡ id) → (r' : ℕ) × (ys : List Operand) × (nth R id ≡ some r') × (nth (set rooms r (some (mroom s y (set xs j (Number n))))) r' ≡ some (some (mroom id y' ys))) × ShowsAll R D ys us
          go (yes c) =
              let w : here y (set vs j (num n)) ≡ here y' us = nth_put rs s (here y (set vs j (num n))) (here y' us) (rw (← c) at z) in
              let w₁ : y ≡ y' = cc (w) in
              let w₂ : set vs j (num n) ≡ us = cc (w) in
              (r, set xs j (Number n), rw c at e, set_there rooms r _ _ q ∙ cc (c, w₁), rw w₂ at (put-shows a j (number {n = n})))
          go (no c) =
              let b = h.live id y' us (sym (set_other rs s id (here y (set vs j (num n))) c) ∙ z) in
              (b.0, b.1, b.2, set_other rooms r b.0 _ (λ u. c (other_room u b.3)) ∙ b.3, b.4)
            where
              other_room : {r' : ℕ} {ys : List Operand} → r ≡ r' → nth rooms r' ≡ some (some (mroom id y' ys)) → s ≡ id
              other_room u k = cc (q, u, k)

      used' : (xs : List Operand) → nth rooms r ≡ some (some (mroom s y xs)) → (r' s' y' : ℕ) (ys : List Operand) → nth (set rooms r (some (mroom s y (set xs j (Number n))))) r' ≡ some (some (mroom s' y' ys))
          → (us : List Value) × (nth (set rs s (here y (set vs j (num n)))) s' ≡ some (here y' us)) × (nth R s' ≡ some r')
      used' xs q r' s' y' ys z = go (ℕ_discrete r r')
        where
          go : Dec (r ≡ r') → (us : List Value) × (nth (set rs s (here y (set vs j (num n)))) s' ≡ some (here y' us)) × (nth R s' ≡ some r')
          go (yes c) =
              let w : some (mroom s y (set xs j (Number n))) ≡ some (mroom s' y' ys) = nth_put rooms r (some (mroom s y (set xs j (Number n)))) (some (mroom s' y' ys)) (rw (← c) at z) in
              let w₁ : s ≡ s' = cc (w) in
              let w₂ : y ≡ y' = cc (w) in
              (set vs j (num n), ap (λ (k : ℕ). nth (set rs s (here y (set vs j (num n)))) k) (sym w₁) ∙ set_there rs s _ _ d ∙ cc (w₂), ap (λ (k : ℕ). nth R k) (sym w₁) ∙ e ∙ cc (c))
          go (no c) =
              let b = h.used r' s' y' ys (sym (set_other rooms r r' _ c) ∙ z) in
              (b.0, set_other rs s s' _ (λ u. c (other_room u b.2)) ∙ b.1, b.2)
            where
              other_room : {r'' : ℕ} → s ≡ s' → nth R s' ≡ some r'' → r ≡ r''
              other_room u k = cc (e, u, k)

  -- a record unpacked: its room is free
  pub rooms_freed : (s r y : ℕ) (vs : List Value) → nth R s ≡ some r → nth rs s ≡ some (here y vs) → (z : ℕ) → ShowsRooms R D (set rooms r none) (set rs s (gone z))
  rooms_freed s r y vs e d z =
      let l = room_live h s r y vs e d in
      record {
        size = length-set rooms r _ ∙ h.size;
        known = h.known ∙ sym (length-set rs s _);
        count = less (used_free rooms r (mroom s y l.0) l.1) (live_put rs s (gone z) (here y vs) d) h.count;
        live = live' l.0 l.1;
        used = used';
      }
    where
      less : {a b c k : ℕ} → suc a ≡ b → c + 1 ≡ k + 0 → b ≡ k → a ≡ c
      less p q w = omega arith

      live' : (xs : List Operand) → nth rooms r ≡ some (some (mroom s y xs)) → (id y' : ℕ) (us : List Value) → nth (set rs s (gone z)) id ≡ some (here y' us)
          → (r' : ℕ) × (ys : List Operand) × (nth R id ≡ some r') × (nth (set rooms r none) r' ≡ some (some (mroom id y' ys))) × ShowsAll R D ys us
      live' xs q id y' us k = go (ℕ_discrete s id)
        where
          go : Dec (s ≡ id) → (r' : ℕ) × (ys : List Operand) × (nth R id ≡ some r') × (nth (set rooms r none) r' ≡ some (some (mroom id y' ys))) × ShowsAll R D ys us
          go (yes c) = let w : gone z ≡ here y' us = nth_put rs s (gone z) (here y' us) (rw (← c) at k) in absurd (clash (cc (w)))
          go (no c) =
              let b = h.live id y' us (sym (set_other rs s id (gone z) c) ∙ k) in
              (b.0, b.1, b.2, set_other rooms r b.0 none (λ u. c (other_room u b.3)) ∙ b.3, b.4)
            where
              other_room : {r' : ℕ} {ys : List Operand} → r ≡ r' → nth rooms r' ≡ some (some (mroom id y' ys)) → s ≡ id
              other_room u p = cc (q, u, p)

      used' : (r' s' y' : ℕ) (ys : List Operand) → nth (set rooms r none) r' ≡ some (some (mroom s' y' ys)) → (us : List Value) × (nth (set rs s (gone z)) s' ≡ some (here y' us)) × (nth R s' ≡ some r')
      used' r' s' y' ys k = go (ℕ_discrete r r')
        where
          go : Dec (r ≡ r') → (us : List Value) × (nth (set rs s (gone z)) s' ≡ some (here y' us)) × (nth R s' ≡ some r')
          go (yes c) = let w : none ≡ some (mroom s' y' ys) = nth_put rooms r none (some (mroom s' y' ys)) (rw (← c) at k) in absurd (clash (cc (w)))
          go (no c) =
              let b = h.used r' s' y' ys (sym (set_other rooms r r' none c) ∙ k) in
              (b.0, set_other rs s s' (gone z) (λ u. c (other_room u b.2)) ∙ b.1, b.2)
            where
              other_room : {r'' : ℕ} → s ≡ s' → nth R s' ≡ some r'' → r ≡ r''
              other_room u p = cc (e, u, p)

  -- a record packed into a free room
  pub rooms_filled : (y : ℕ) (xs : List Operand) (vs : List Value) → free_room rooms < 128 → ShowsAll R D xs vs
      → ShowsRooms (R ++ (free_room rooms ∷ [])) D (set rooms (free_room rooms) (some (mroom (length rs) y xs))) (rs ++ (here y vs ∷ []))
  rooms_filled y xs vs l a =
      let r = free_room rooms in
      let f = used_fill rooms (mroom (length rs) y xs) (rw h.size l) in
      let more = snoc_more R r in
      record {
        size = length-set rooms r _ ∙ h.size;
        known = length-append R (r ∷ []) ∙ rw h.known (sym (length-append rs (here y vs ∷ [])));
        count = f.0 ∙ rw h.count (omega (arith, live_snoc rs (here y vs)));
        live = live' f.1;
        used = used';
      }
    where
      -- what is past the end
      past : (id : ℕ) (c : Cell) → nth rs id ≡ some c → id < length rs
      past id c e = inside rs id c e
        where
          inside : (l : List Cell) (i : ℕ) (x : Cell) → nth l i ≡ some x → i < length l
          inside [] i x e = absurd (clash (cc))
          inside (z ∷ l) zero x e = omega arith
          inside (z ∷ l) (suc i) x e = omega (arith, inside l i x e)

      last_or : (l : List Cell) (c d : Cell) (id : ℕ) → nth (l ++ (c ∷ [])) id ≡ some d → (nth l id ≡ some d) ⊎ ((id ≡ length l) × (c ≡ d))
      last_or [] c d zero e = inr (refl, cc)
      last_or [] c d (suc id) e = absurd (clash (cc))
      last_or (z ∷ l) c d zero e = inl e
      last_or (z ∷ l) c d (suc id) e = ⊎_elim (λ q. inl q) (λ q. inr (ap suc q.0, q.1)) (last_or l c d id e)

      room-size : nth (R ++ (free_room rooms ∷ [])) (length rs) ≡ some (free_room rooms)
      room-size = rw (← h.known) (snoc_last R (free_room rooms))

      last-there : (l : List Cell) (c : Cell) → nth (l ++ (c ∷ [])) (length l) ≡ some c
      last-there [] c = refl
      last-there (z ∷ l) c = last-there l c

      live' : nth rooms (free_room rooms) ≡ some none → (id y' : ℕ) (us : List Value) → nth (rs ++ (here y vs ∷ [])) id ≡ some (here y' us)
          → (r' : ℕ) × (ys : List Operand) × (nth (R ++ (free_room rooms ∷ [])) id ≡ some r') × (nth (set rooms (free_room rooms) (some (mroom (length rs) y xs))) r' ≡ some (some (mroom id y' ys))) × ShowsAll (R ++ (free_room rooms ∷ [])) D ys us
      live' q id y' us k = ⊎_elim
          (λ z. let b = h.live id y' us z in
          (b.0, b.1, snoc_more R (free_room rooms) _ _ b.2, set_other rooms (free_room rooms) b.0 _ (λ u. clash (cc (q, u, b.3))) ∙ b.3, all_more (snoc_more R (free_room rooms)) (λ i u z. z) b.4))
          (λ z. let w₁ : y ≡ y' = cc z.1 in let w₂ : vs ≡ us = cc z.1 in
          (free_room rooms, xs, ap (λ (n : ℕ). nth (R ++ (free_room rooms ∷ [])) n) z.0 ∙ room-size, set_there rooms (free_room rooms) none _ q ∙ cc (z.0, w₁), rw w₂ at (all_more {R' = R ++ (free_room rooms ∷ [])} {D' = D} (snoc_more R (free_room rooms)) (λ i u z. z) a)))
          (last_or rs (here y vs) (here y' us) id k)

      used' : (r' s' y' : ℕ) (ys : List Operand) → nth (set rooms (free_room rooms) (some (mroom (length rs) y xs))) r' ≡ some (some (mroom s' y' ys))
          → (us : List Value) × (nth (rs ++ (here y vs ∷ [])) s' ≡ some (here y' us)) × (nth (R ++ (free_room rooms ∷ [])) s' ≡ some r')
      used' r' s' y' ys k = go (ℕ_discrete (free_room rooms) r')
        where
          go : Dec (free_room rooms ≡ r') → (us : List Value) × (nth (rs ++ (here y vs ∷ [])) s' ≡ some (here y' us)) × (nth (R ++ (free_room rooms ∷ [])) s' ≡ some r')
          go (yes c) =
              let w : some (mroom (length rs) y xs) ≡ some (mroom s' y' ys) = nth_put rooms (free_room rooms) (some (mroom (length rs) y xs)) (some (mroom s' y' ys)) (rw (← c) at k) in
              let w₁ : length rs ≡ s' = cc (w) in
              let w₂ : y ≡ y' = cc (w) in
              (vs, ap (λ (n : ℕ). nth (rs ++ (here y vs ∷ [])) n) (sym w₁) ∙ last-there rs (here y vs) ∙ cc (w₂), ap (λ (n : ℕ). nth (R ++ (free_room rooms ∷ [])) n) (sym w₁) ∙ room-size ∙ cc (c))
          go (no c) =
              let b = h.used r' s' y' ys (sym (set_other rooms (free_room rooms) r' _ c) ∙ k) in
              (b.0, nth_app rs (here y vs ∷ []) s' _ b.1, snoc_more R (free_room rooms) _ _ b.2)

-- the store
pub data SameKey (R : List ℕ) : Option MEntry → Option ℕ → Type 0 where
  no_key : SameKey R none none
  a_key : {y a s r : ℕ} → nth R s ≡ some r → SameKey R (some (mentry y a s r)) (some s)

module _ {R : List ℕ} where
  pub find-same : {ms : List MEntry} {es : List Entry} → ShowsStore R ms es → (y a : ℕ) → SameKey R (find_entry ms y a) (find_key es y a)
  find-same no-entry y a = no_key
  find-same (and_entry {y = y'} {a = a'} {s} {r} {ms} {es} e q) y a = go (eqb y' y && eqb a' a) (find-same q y a)
    where
      go : (b : Bool) → SameKey R (find_entry ms y a) (find_key es y a) → SameKey R (cond b (some (mentry y' a' s r)) (find_entry ms y a)) (cond b (some s) (find_key es y a))
      go true ih = a_key e
      go false ih = ih

  pub drop-same : {ms : List MEntry} {es : List Entry} → ShowsStore R ms es → (y a : ℕ) → ShowsStore R (drop_entry ms y a) (drop_key es y a)
  drop-same no-entry y a = no-entry
  drop-same (and_entry {y = y'} {a = a'} {s} {r} {ms} {es} e q) y a = go (eqb y' y && eqb a' a) (drop-same q y a)
    where
      go : (b : Bool) → ShowsStore R (drop_entry ms y a) (drop_key es y a) → ShowsStore R (cond b ms (mentry y' a' s r ∷ drop_entry ms y a)) (cond b es (entry y' a' s ∷ drop_key es y a))
      go true ih = q
      go false ih = and_entry e ih

  pub store_length : {ms : List MEntry} {es : List Entry} → ShowsStore R ms es → length ms ≡ length es
  store_length no-entry = refl
  store_length (and_entry e q) = ap suc (store_length q)
