-- What the cells of rooms and entries are on lists, and what writing cells does to that.
use Prim.Native.Nat.{ℕ, zero, suc, ◌+◌, ◌-◌, ◌*◌, ◌≤◌, ◌<◌}
use mathlib.Core.Path.{◌≡◌, refl, ap, sym, ◌∙◌}
use mathlib.Core.Bool.{Bool, true, false, cond, ◌&&◌}
use mathlib.Core.Logic.{◌⊎◌, inl, inr}
use mathlib.Core.List.{List, ◌∷◌}
use mathlib.Core.Option.{none, some}
use native.Mathlib.Numerals.{add-one}
use native.Mathlib.Omega.{arith}
use native.Mathlib.Decide.{dec_lt}
use borrow.Author.Tests.{lt-ltb, le-ltb, le-leb, eqb-true}
use lib.Dec.{eqb, ltb, leb}
use lib.ListN.{length, get_or, set, length-set, get_elem? as nth, get_or-eq_default}
use lib.Seq.{get_or-set_same, get_or-set_other}
use Rattle.state.specs.declared.Operand.{Operand}
use Rattle.state.specs.declared.Operand.TheVariants.{Empty, Number, Record, Refer}
use Rattle.state.specs.code.Coding.{is_record, number_of, second_of, third_of}
use Rattle.state.specs.code.Layout.{entry_cell, room_cell, all_cells}
use Rattle.state.specs.code.Cells.{moved}
use Rattle.state.specs.code.Rooms.{is_live, first_free}
use Rattle.state.specs.code.Entries.{is_under, last_under, added_in, removed_in}
use Rattle.machine.specs.code.Machine.{mroom, MEntry, mentry, held, free_room, room_of, put_room, find_entry, drop_entry}
use Rattle.machine.specs.code.Views.{up_from, tab, room_by, room_in, rooms_in, entry_in, entries_in, Same}
use Rattle.machine.proofs.Targets.{put-room-set}
use Rattle.machine.proofs.Views.{length_up, held_get_d, tab-same, room-same, entries-same, same_refl, pair_same, pair_first, pair_next, length_moved, moved_other, moved_same, moved-there, up_at, up_set, up_shift}

-- Tables
module _ {A : Type 0} (f : ℕ → A) where
  tab-at : (b n i : ℕ) → i < n → nth (tab f b n) i ≡ some (f (b + i))
  unfolding tab
  tab-at b zero i l = absurd (omega arith)
  tab-at b (suc n) zero l = let e : b + 0 ≡ b = omega arith in rw e
  tab-at b (suc n) (suc i) l = let e : b + suc i ≡ suc b + i = omega arith in rw e (tab-at (suc b) n i (omega arith))

  tab_past : (b n i : ℕ) → n ≤ i → nth (tab f b n) i ≡ none
  unfolding tab
  tab_past b zero i l = refl
  tab_past b (suc n) zero l = absurd (omega arith)
  tab_past b (suc n) (suc i) l = tab_past (suc b) n i (omega arith)

  tab-set : (g : ℕ → A) (b n r : ℕ) → ((i : ℕ) → i < b + n → (i ≡ b + r → ⊥) → g i ≡ f i) → tab g b n ≡ set (tab f b n) r (g (b + r))
  unfolding tab
  tab-set g b zero r s = refl
  tab-set g b (suc n) zero s = let e : b + 0 ≡ b = omega arith in rw (e, tab-same f g (suc b) n (λ i l m. s i (omega arith) (λ q. omega arith)))
  tab-set g b (suc n) (suc r) s = let e : b + suc r ≡ suc b + r = omega arith in rw (e, s b (omega arith) (λ q. omega arith), tab-set g (suc b) n r (λ i l q. s i (omega arith) (λ p. q (omega arith))))

-- what stands at a place of some cells
pub up_held : (cs : List Operand) (b n i : ℕ) → held (nth (up_from cs b n) i) ≡ cond (ltb i n) (get_or cs (b + i) Empty) Empty
up_held cs b n i = sym (held_get_d (up_from cs b n) i) ∙ go (dec_lt i n)
  where
    go : Dec (i < n) → get_or (up_from cs b n) i Empty ≡ cond (ltb i n) (get_or cs (b + i) Empty) Empty
    go (yes l) = rw (lt-ltb i n l) (up_at cs b n i l)
    go (no l) = rw (le-ltb i n (omega arith)) (get_or-eq_default (up_from cs b n) Empty {n = i} (omega (arith, length_up cs b n)))

-- Rooms. The head of a room
abbrev pub head_in : List Operand → ℕ → Operand
head_in cs r = get_or cs (room_cell r) Empty

module _ (cs : List Operand) where
  -- the rooms by their numbers
  pub room_at : (r : ℕ) → r < 128 → nth (rooms_in cs) r ≡ some (room_in cs r)
  room_at r l = let e : 0 + r ≡ r = omega arith in tab-at (room_in cs) 0 128 r l ∙ rw e

  pub room_past : (r : ℕ) → 128 ≤ r → nth (rooms_in cs) r ≡ none
  room_past r l = tab_past (room_in cs) 0 128 r l

  -- the first free room, where those below f are in use
  free_tab : (b n : ℕ) → first_free cs b n ≡ b + free_room (tab (room_in cs) b n)
  unfolding first_free tab room_in
  free_tab b zero = omega arith
  free_tab b (suc n) = go (head_in cs b) (free_tab (suc b) n)
    where
      go : (h : Operand) → first_free cs (suc b) n ≡ suc b + free_room (tab (room_in cs) (suc b) n) → cond (is_record h) (first_free cs (suc b) n) b ≡ b + free_room (room_by cs b h ∷ tab (room_in cs) (suc b) n)
      go Empty r = omega arith
      go (Number m) r = omega arith
      go (Record s k y) r = omega arith
      go (Refer x) r = omega arith

  free_next : (f n m : ℕ) → n ≡ suc m → is_record (head_in cs f) ≡ true → first_free cs f n ≡ first_free cs (suc f) m
  unfolding first_free
  free_next f n m e u = rw (e, u)

  free_from : (f : ℕ) → f ≤ 128 → ((r : ℕ) → r < f → is_record (head_in cs r) ≡ true) → first_free cs 0 128 ≡ first_free cs f (128 - f)
  free_from zero l used = refl
  free_from (suc f) l used = free_from f (omega arith) (λ r q. used r (omega arith)) ∙ free_next f (128 - f) (128 - suc f) (omega arith) (used f (omega arith))

  pub free_first : (f : ℕ) → f ≤ 128 → ((r : ℕ) → r < f → is_record (head_in cs r) ≡ true) → free_room (rooms_in cs) ≡ first_free cs f (128 - f)
  free_first f l used = let e : 0 + free_room (rooms_in cs) ≡ free_room (rooms_in cs) = omega arith in sym e ∙ sym (free_tab 0 128) ∙ free_from f l used

module _ (cs : List Operand) (whole : length cs ≡ all_cells) where
  -- a room that is not there has no head
  pub head_past : (m : ℕ) → 128 ≤ m → head_in cs m ≡ Empty
  head_past m l = get_or-eq_default cs Empty {n = room_cell m} (omega arith)

  -- the record with a serial number in a room
  pub room_of_lem : (m c : ℕ) → room_of (nth (rooms_in cs) m) c ≡ cond (is_live (head_in cs m) c) (some (mroom c (third_of (head_in cs m)) (up_from cs (room_cell m + 1) (second_of (head_in cs m))))) none
  unfolding room_in
  room_of_lem m c = at (dec_lt m 128)
    where
      here : (s k y : ℕ) (b : Bool) → eqb s c ≡ b → cond b (some (mroom s y (up_from cs (room_cell m + 1) k))) none ≡ cond b (some (mroom c y (up_from cs (room_cell m + 1) k))) none
      here s k y true e = rw (eqb-true s c e)
      here s k y false e = refl

      go : (h : Operand) → room_of (some (room_by cs m h)) c ≡ cond (is_live h c) (some (mroom c (third_of h) (up_from cs (room_cell m + 1) (second_of h)))) none
      go Empty = refl
      go (Number n) = refl
      go (Record s k y) = here s k y (eqb s c) refl
      go (Refer x) = refl

      at : Dec (m < 128) → room_of (nth (rooms_in cs) m) c ≡ cond (is_live (head_in cs m) c) (some (mroom c (third_of (head_in cs m)) (up_from cs (room_cell m + 1) (second_of (head_in cs m))))) none
      at (yes l) = rw (room_at cs m l) (go (head_in cs m))
      at (no l) = rw (room_past cs m (omega arith), head_past m (omega arith))

-- the rooms below the first free one are in use
pub free_used : (cs : List Operand) (b n i : ℕ) → b ≤ i → i < first_free cs b n → is_record (head_in cs i) ≡ true
unfolding first_free
free_used cs b zero i l m = absurd (omega arith)
free_used cs b (suc n) i l m = go (is_record (head_in cs b)) refl m (dec_lt b i) (λ p q. free_used cs (suc b) n i p q)
  where
    go : (t : Bool) → is_record (head_in cs b) ≡ t → i < cond t (first_free cs (suc b) n) b → Dec (b < i) → (suc b ≤ i → i < first_free cs (suc b) n → is_record (head_in cs i) ≡ true) → is_record (head_in cs i) ≡ true
    go true e q (yes p) rest = rest p q
    go true e q (no p) rest = let d : i ≡ b = omega arith in rw d e
    go false e q p rest = absurd (omega arith)

module _ (cs : List Operand) (whole : length cs ≡ all_cells) (few : (r : ℕ) → r < 128 → second_of (head_in cs r) ≤ 8) where
  -- only one room changes
  rooms_one : (ds : List Operand) (m : ℕ) → ((i : ℕ) → (i < room_cell m) ⊎ (room_cell m + 9 ≤ i) → get_or ds i Empty ≡ get_or cs i Empty) → rooms_in ds ≡ set (rooms_in cs) m (room_in ds m)
  rooms_one ds m off = let e : 0 + m ≡ m = omega arith in tab-set (room_in cs) (room_in ds) 0 128 m (λ r l n. room-same cs ds r (few r l) (λ i a b. off i (apart r i (λ q. n (omega arith)) a b (dec_lt r m)))) ∙ rw e
    where
      apart : (r i : ℕ) → (r ≡ m → ⊥) → room_cell r ≤ i → i < room_cell r + 9 → Dec (r < m) → (i < room_cell m) ⊎ (room_cell m + 9 ≤ i)
      apart r i n a b (yes l) = inl (omega arith)
      apart r i n a b (no l) = inr (omega arith)

  -- a field put into the record in a room
  pub field_put : (m j : ℕ) (x : Operand) → j < second_of (head_in cs m) → rooms_in (set cs (room_cell m + 1 + j) x) ≡ put_room (rooms_in cs) m j x
  unfolding room_in
  field_put m j x l = at (dec_lt m 128)
    where
      here : (h : Operand) → head_in cs m ≡ h → j < second_of h → second_of h ≤ 8 → m < 128 → rooms_in (set cs (room_cell m + 1 + j) x) ≡ put_room (rooms_in cs) m j x
      here Empty e l f n = absurd (omega arith)
      here (Number v) e l f n = absurd (omega arith)
      here (Record s k y) e l f n =
          rooms_one (set cs (room_cell m + 1 + j) x) m (λ i o. get_or-set_other cs (room_cell m + 1 + j) i x Empty (off i o))
          ∙ rw (get_or-set_other cs (room_cell m + 1 + j) (room_cell m) x Empty (λ q. omega arith), e, up_set cs (room_cell m + 1) k j x (omega arith))
          (sym (put-room-set (rooms_in cs) m j s y (up_from cs (room_cell m + 1) k) x (room_at cs m n ∙ rw e)))
        where
          off : (i : ℕ) → (i < room_cell m) ⊎ (room_cell m + 9 ≤ i) → i ≡ room_cell m + 1 + j → ⊥
          off i (inl a) q = omega arith
          off i (inr a) q = omega arith
      here (Refer r) e l f n = absurd (omega arith)

      at : Dec (m < 128) → rooms_in (set cs (room_cell m + 1 + j) x) ≡ put_room (rooms_in cs) m j x
      at (yes n) = here (head_in cs m) refl l (few m n) n
      at (no n) = absurd (omega (arith, ap second_of (head_past cs whole m (omega arith))))

  -- a record made in room r of k cells
  pub rooms_filled : (r s y p k : ℕ) → r < 128 → k ≤ 8 → p + k ≤ 544 → rooms_in (set (moved cs (room_cell r + 1) p k) (room_cell r) (Record s k y)) ≡ set (rooms_in cs) r (some (mroom s y (up_from cs p k)))
  unfolding room_in
  rooms_filled r s y p k l n m =
      rooms_one (set ms (room_cell r) (Record s k y)) r off
      ∙ rw (get_or-set_same ms (room_cell r) (Record s k y) Empty (omega (arith, length_moved cs (room_cell r + 1) p k)), up_shift cs (set ms (room_cell r) (Record s k y)) (room_cell r + 1) p k there)
    where
      ms : List Operand
      ms = moved cs (room_cell r + 1) p k

      off : (i : ℕ) → (i < room_cell r) ⊎ (room_cell r + 9 ≤ i) → get_or (set ms (room_cell r) (Record s k y)) i Empty ≡ get_or cs i Empty
      off i (inl a) = get_or-set_other ms (room_cell r) i (Record s k y) Empty (λ q. omega arith) ∙ moved_other cs (room_cell r + 1) p k i (inl (omega arith))
      off i (inr a) = get_or-set_other ms (room_cell r) i (Record s k y) Empty (λ q. omega arith) ∙ moved_other cs (room_cell r + 1) p k i (inr (omega arith))

      there : (j : ℕ) → j < k → get_or (set ms (room_cell r) (Record s k y)) (room_cell r + 1 + j) Empty ≡ get_or cs (p + j) Empty
      there j q = get_or-set_other ms (room_cell r) (room_cell r + 1 + j) (Record s k y) Empty (λ e. omega arith) ∙ moved-there cs (room_cell r + 1) p k j (omega arith) (omega arith) (inl (omega arith)) q

  -- the record in a room broken up
  pub rooms_cleared : (m : ℕ) → m < 128 → rooms_in (set cs (room_cell m) Empty) ≡ set (rooms_in cs) m none
  unfolding room_in
  rooms_cleared m l = rooms_one (set cs (room_cell m) Empty) m off ∙ rw (get_or-set_same cs (room_cell m) Empty Empty (omega arith))
    where
      off : (i : ℕ) → (i < room_cell m) ⊎ (room_cell m + 9 ≤ i) → get_or (set cs (room_cell m) Empty) i Empty ≡ get_or cs i Empty
      off i (inl a) = get_or-set_other cs (room_cell m) i Empty Empty (λ q. omega arith)
      off i (inr a) = get_or-set_other cs (room_cell m) i Empty Empty (λ q. omega arith)

-- Entries
and_swap : (b c : Bool) → b && c ≡ c && b
and_swap true true = refl
and_swap true false = refl
and_swap false true = refl
and_swap false false = refl

module _ (cs : List Operand) (y a absent : ℕ) where
  -- whether the first of the entries is under a key
  find_first : (n : ℕ) → find_entry (entries_in cs (suc n)) y a ≡ cond (is_under cs n y a) (some (entry_in cs n)) (find_entry (entries_in cs n) y a)
  unfolding entries_in
  find_first n = rw (and_swap (eqb (third_of (get_or cs (entry_cell n + 1) Empty)) y) (eqb (number_of (get_or cs (entry_cell n) Empty)) a))

  drop-first : (n : ℕ) → drop_entry (entries_in cs (suc n)) y a ≡ cond (is_under cs n y a) (entries_in cs n) (entry_in cs n ∷ drop_entry (entries_in cs n) y a)
  unfolding entries_in
  drop-first n = rw (and_swap (eqb (third_of (get_or cs (entry_cell n + 1) Empty)) y) (eqb (number_of (get_or cs (entry_cell n) Empty)) a))

  -- the entry under a key among the first n
  find-under : (n : ℕ) → n ≤ absent → find_entry (entries_in cs n) y a ≡ cond (ltb (last_under cs y a absent n) absent) (some (entry_in cs (last_under cs y a absent n))) none
  unfolding last_under entries_in
  find-under zero l = rw (le-ltb absent absent (omega arith))
  find-under (suc n) l = find_first n ∙ go (is_under cs n y a) (find-under n (omega arith))
    where
      go : (b : Bool) → find_entry (entries_in cs n) y a ≡ cond (ltb (last_under cs y a absent n) absent) (some (entry_in cs (last_under cs y a absent n))) none
          → cond b (some (entry_in cs n)) (find_entry (entries_in cs n) y a) ≡ cond (ltb (cond b n (last_under cs y a absent n)) absent) (some (entry_in cs (cond b n (last_under cs y a absent n)))) none
      go true e = rw (lt-ltb n absent l)
      go false e = e

  under-few : (n : ℕ) → last_under cs y a absent n < absent → last_under cs y a absent n < n
  unfolding last_under
  under-few zero h = absurd (omega arith)
  under-few (suc n) h = go (is_under cs n y a) h (under-few n)
    where
      go : (b : Bool) → cond b n (last_under cs y a absent n) < absent → (last_under cs y a absent n < absent → last_under cs y a absent n < n) → cond b n (last_under cs y a absent n) < suc n
      go true l rest = omega arith
      go false l rest = omega (arith, rest l)

  -- cells without the entry that is found: the same below it, moved down by one from there on
  drop-there : (ds : List Operand) (k n : ℕ) → last_under cs y a absent (suc n) ≡ k → k < absent
      → Same 544 (entry_cell k) cs ds → ((j : ℕ) → k ≤ j → j < n → entry_in ds j ≡ entry_in cs (suc j))
      → entries_in ds n ≡ drop_entry (entries_in cs (suc n)) y a
  unfolding last_under entries_in
  drop-there ds k zero e l low high = rw (drop-first 0) (go (is_under cs zero y a) e)
    where
      go : (b : Bool) → cond b zero absent ≡ k → entries_in ds zero ≡ cond b (entries_in cs zero) (entry_in cs zero ∷ drop_entry (entries_in cs zero) y a)
      go true q = refl
      go false q = absurd (omega arith)
  drop-there ds k (suc n) e l low high = rw (drop-first (suc n)) (go (is_under cs (suc n) y a) e (λ q. drop-there ds k n q l low (λ j lo hi. high j lo (omega arith))))
    where
      go : (b : Bool) → cond b (suc n) (last_under cs y a absent (suc n)) ≡ k → (last_under cs y a absent (suc n) ≡ k → entries_in ds n ≡ drop_entry (entries_in cs (suc n)) y a)
          → entries_in ds (suc n) ≡ cond b (entries_in cs (suc n)) (entry_in cs (suc n) ∷ drop_entry (entries_in cs (suc n)) y a)
      go true q rest = entries-same cs ds (suc n) (λ i a b. low i a (omega arith))
      go false q rest =
          let f : k ≤ n = omega (arith, under-few (suc n) (omega arith)) in
          rw (rest q) (ap (λ (x : MEntry). x ∷ drop_entry (entries_in cs (suc n)) y a) (high n f (omega arith)))

pub find-is : (cs : List Operand) (n y a : ℕ) → find_entry (entries_in cs n) y a ≡ cond (ltb (last_under cs y a n n) n) (some (entry_in cs (last_under cs y a n n))) none
find-is cs n y a = find-under cs y a n n (omega arith)

-- an entry added
module _ (cs : List Operand) (n y a s r : ℕ) where
  pub length_added : length (added_in cs n y a s r) ≡ length cs
  length_added = length-set (set cs (entry_cell n) (Number a)) (entry_cell n + 1) (Record s r y) ∙ length-set cs (entry_cell n) (Number a)

  pub added_same : (b c : ℕ) → (entry_cell n + 1 < b) ⊎ (c ≤ entry_cell n) → Same b c cs (added_in cs n y a s r)
  added_same b c o = pair_same cs (entry_cell n) (Number a) (Record s r y) b c o

  pub entries_added : length cs ≡ all_cells → n < 64 → entries_in (added_in cs n y a s r) (n + 1) ≡ mentry y a s r ∷ entries_in cs n
  unfolding entries_in
  entries_added whole l =
      rw (add-one n, pair_first cs (entry_cell n) (Number a) (Record s r y) (omega arith), pair_next cs (entry_cell n) (Number a) (Record s r y) (omega arith), entries-same cs (added_in cs n y a s r) n (added_same 544 (entry_cell n) (inr (omega arith))))

-- an entry taken out
pub length_removed : (cs : List Operand) (n i : ℕ) → length (removed_in cs n i) ≡ length cs
length_removed cs n i = go (ltb i n) (leb n 64)
  where
    go : (p q : Bool) → length (cond p (cond q (moved cs (entry_cell i) (entry_cell (i + 1)) (2 * (n - 1 - i))) cs) cs) ≡ length cs
    go true true = length_moved cs (entry_cell i) (entry_cell (i + 1)) (2 * (n - 1 - i))
    go true false = refl
    go false q = refl

pub removed_same : (cs : List Operand) (n i b c : ℕ) → n ≤ 64 → (672 ≤ b) ⊎ (c ≤ 544) → Same b c cs (removed_in cs n i)
removed_same cs n i b c l o = go (dec_lt i n) o
  where
    go : Dec (i < n) → (672 ≤ b) ⊎ (c ≤ 544) → Same b c cs (removed_in cs n i)
    go (yes h) (inl o) = rw (lt-ltb i n h, le-leb n 64 l) (moved_same cs (entry_cell i) (entry_cell (i + 1)) (2 * (n - 1 - i)) b c (inl (omega arith)))
    go (yes h) (inr o) = rw (lt-ltb i n h, le-leb n 64 l) (moved_same cs (entry_cell i) (entry_cell (i + 1)) (2 * (n - 1 - i)) b c (inr (omega arith)))
    go (no h) o = rw (le-ltb i n (omega arith)) (same_refl cs b c)

pub entries_removed : (cs : List Operand) (n y a : ℕ) → length cs ≡ all_cells → n ≤ 64 → last_under cs y a n n < n → entries_in (removed_in cs n (last_under cs y a n n)) (n - 1) ≡ drop_entry (entries_in cs n) y a
entries_removed cs zero y a whole l h = absurd (omega arith)
entries_removed cs (suc n) y a whole l h = let e : suc n - 1 ≡ n = omega arith in rw (lt-ltb k (suc n) h, le-leb (suc n) 64 l, e) (drop-there cs y a (suc n) ds k n refl h (moved_same cs to from w 544 to (inr (omega arith))) high)
  where
    k : ℕ
    k = last_under cs y a (suc n) (suc n)

    to : ℕ
    to = entry_cell k

    from : ℕ
    from = entry_cell (k + 1)

    w : ℕ
    w = 2 * (n - k)

    ds : List Operand
    ds = moved cs to from w

    high : (j : ℕ) → k ≤ j → j < n → entry_in ds j ≡ entry_in cs (suc j)
    high j lo hi = rw (cell (entry_cell j) (entry_cell (suc j)) (2 * (j - k)) (omega arith) (omega arith) (omega arith), cell (entry_cell j + 1) (entry_cell (suc j) + 1) (2 * (j - k) + 1) (omega arith) (omega arith) (omega arith))
      where
        cell : (p q i : ℕ) → p ≡ to + i → q ≡ from + i → i < w → get_or ds p Empty ≡ get_or cs q Empty
        cell p q i d e m = rw (d, e) (moved-there cs to from w i (omega arith) (omega arith) (inr (omega arith)) m)
