-- What the methods of the state do to the cells is on lists what the machine's opcodes say.
use Prim.Native.Nat.{ℕ, zero, suc, ◌+◌, ◌-◌, ◌*◌, ◌/◌, ◌%◌, ◌<◌, ◌≤◌}
use mathlib.Core.Path.{◌≡◌, refl, ap, sym, ◌∙◌}
use mathlib.Core.Bool.{Bool, true, false, cond}
use mathlib.Core.Logic.{◌⊎◌, inl, inr}
use mathlib.Core.List.{List, [], ◌∷◌, ◌++◌, reverse, reverse_aux, append-nil, append_assoc, reverse_aux-eq}
use native.Mathlib.Omega.{arith}
use native.Mathlib.Decide.{dec_lt}
use native.Mathlib.Numerals.{add-one}
use borrow.Author.Tests.{lt-ltb, le-ltb, le-leb}
use lib.Dec.{ltb, leb, leb-suc-suc}
use lib.ListN.{length, get_or, set, take, drop, replicate, get_elem? as nth, length-set, get_or-eq_default}
use lib.Seq.{get_or-set_same, get_or-set_other, set_out}
use Rattle.state.specs.declared.Operand.{Operand}
use Rattle.state.specs.declared.Operand.TheVariants.{Empty, Number, Record, Refer}
use Rattle.state.specs.declared.frames.State.{State}
use Rattle.state.specs.code.Coding.{second_of, third_of}
use Rattle.state.specs.code.Cells.{copied, moved, emptied}
use Rattle.state.specs.code.Layout.{operand_cell, local_cell, suspended_cell, entry_cell, room_cell, all_cells}
use Rattle.state.specs.code.Frames.{pushed, pushed_in, top_at, dropped, loaded_in, stored_in, suspended_in, entered_in, received, received_in}
use Rattle.machine.specs.code.Machine.{MFrame, top, second, back_to, topmost, held}
use Rattle.machine.specs.code.Views.{up_from, down_from, operands_in, locals_in, frame_in, below_in, tab, room_by, room_in, rooms_in, entries_in, Same}

-- Lists. The top operands by their numbers, what a place holds, and operands pushed in order
pub top_get_d : (xs : List Operand) → get_or xs 0 Empty ≡ top xs
top_get_d [] = refl
top_get_d (x ∷ xs) = refl

pub second_get_d : (xs : List Operand) → get_or xs 1 Empty ≡ second xs
second_get_d [] = refl
second_get_d (x ∷ []) = refl
second_get_d (x ∷ y ∷ xs) = refl

pub held_get_d : (xs : List Operand) (i : ℕ) → get_or xs i Empty ≡ held (nth xs i)
held_get_d [] i = refl
held_get_d (x ∷ xs) zero = refl
held_get_d (x ∷ xs) (suc i) = held_get_d xs i

pub back_reverse : (xs ys : List Operand) → back_to xs ys ≡ reverse xs ++ ys
back_reverse xs ys = go xs ys ∙ reverse_aux-eq xs ys
  where
    go : (xs ys : List Operand) → back_to xs ys ≡ reverse_aux xs ys
    go [] ys = refl
    go (x ∷ xs) ys = go xs (x ∷ ys)

-- How many there are.
pub length_up : (cs : List Operand) (b n : ℕ) → length (up_from cs b n) ≡ n
unfolding up_from
length_up cs b zero = refl
length_up cs b (suc n) = ap suc (length_up cs (suc b) n)

pub length_down : (cs : List Operand) (b n : ℕ) → length (down_from cs b n) ≡ n
unfolding down_from
length_down cs b zero = refl
length_down cs b (suc n) = ap suc (length_down cs b n)

pub length-below : (cs : List Operand) (d : ℕ) → length (below_in cs d) ≡ d
unfolding below_in
length-below cs zero = refl
length-below cs (suc d) = ap suc (length-below cs d)

pub length-tab : {A : Type 0} (f : ℕ → A) (b n : ℕ) → length (tab f b n) ≡ n
unfolding tab
length-tab f b zero = refl
length-tab f b (suc n) = ap suc (length-tab f (suc b) n)

pub length-entries : (cs : List Operand) (n : ℕ) → length (entries_in cs n) ≡ n
unfolding entries_in
length-entries cs zero = refl
length-entries cs (suc n) = ap suc (length-entries cs n)

-- Where the cells hold the same, so do the lists.
pub same_refl : (cs : List Operand) (a b : ℕ) → Same a b cs cs
same_refl cs a b i l m = refl

pub same_trans : (cs ds es : List Operand) (a b : ℕ) → Same a b cs ds → Same a b ds es → Same a b cs es
same_trans cs ds es a b p q i l m = q i l m ∙ p i l m

pub up_same : (cs ds : List Operand) (b n : ℕ) → Same b (b + n) cs ds → up_from ds b n ≡ up_from cs b n
unfolding up_from
up_same cs ds b zero s = refl
up_same cs ds b (suc n) s = rw (s b (omega arith) (omega arith), up_same cs ds (suc b) n (λ i l m. s i (omega arith) (omega arith)))

pub down_same : (cs ds : List Operand) (b n : ℕ) → Same b (b + n) cs ds → down_from ds b n ≡ down_from cs b n
unfolding down_from
down_same cs ds b zero s = refl
down_same cs ds b (suc n) s = rw (s (b + n) (omega arith) (omega arith), down_same cs ds b n (λ i l m. s i l (omega arith)))

pub tab-same : {A : Type 0} (f g : ℕ → A) (b n : ℕ) → ((i : ℕ) → b ≤ i → i < b + n → g i ≡ f i) → tab g b n ≡ tab f b n
unfolding tab
tab-same f g b zero s = refl
tab-same f g b (suc n) s = rw (s b (omega arith) (omega arith), tab-same f g (suc b) n (λ i l m. s i (omega arith) (omega arith)))

module _ (cs ds : List Operand) where
  -- the frames below depth d
  pub below-same : (d : ℕ) → ((e : ℕ) → e < d → second_of (get_or cs (suspended_cell e) Empty) ≤ 16) → ((e : ℕ) → e < d → third_of (get_or cs (suspended_cell e) Empty) ≤ 16) → Same 0 (32 * d) cs ds → Same 512 (512 + 2 * d) cs ds
      → below_in ds d ≡ below_in cs d
  unfolding below_in
  below-same zero low few p q = refl
  below-same (suc d) low few p q =
      rw (
        q (suspended_cell d) (omega arith) (omega arith),
        q (suspended_cell d + 1) (omega arith) (omega arith),
        down_same cs ds (operand_cell d) (second_of (get_or cs (suspended_cell d) Empty)) (λ i l m. p i (omega arith) (omega (arith, low d (omega arith)))),
        up_same cs ds (local_cell d) (third_of (get_or cs (suspended_cell d) Empty)) (λ i l m. p i (omega arith) (omega (arith, few d (omega arith)))),
        below-same d (λ e l. low e (omega arith)) (λ e l. few e (omega arith)) (λ i l m. p i l (omega arith)) (λ i l m. q i l (omega arith)),
      )

  -- a room, and all rooms
  pub room-same : (r : ℕ) → second_of (get_or cs (room_cell r) Empty) ≤ 8 → Same (room_cell r) (room_cell r + 9) cs ds → room_in ds r ≡ room_in cs r
  unfolding room_in
  room-same r few p = rw (p (room_cell r) (omega arith) (omega arith)) (go (get_or cs (room_cell r) Empty) few)
    where
      go : (x : Operand) → second_of x ≤ 8 → room_by ds r x ≡ room_by cs r x
      go Empty l = refl
      go (Number n) l = refl
      go (Record s k y) l = rw (up_same cs ds (room_cell r + 1) k (λ i m n. p i (omega arith) (omega arith)))
      go (Refer x) l = refl

  pub rooms_same : ((r : ℕ) → r < 128 → second_of (get_or cs (room_cell r) Empty) ≤ 8) → Same 672 1824 cs ds → rooms_in ds ≡ rooms_in cs
  rooms_same few p = tab-same (room_in cs) (room_in ds) 0 128 (λ r l m. room-same r (few r (omega arith)) (λ i a b. p i (omega arith) (omega arith)))

  -- the first n entries
  pub entries-same : (n : ℕ) → Same 544 (544 + 2 * n) cs ds → entries_in ds n ≡ entries_in cs n
  unfolding entries_in
  entries-same zero p = refl
  entries-same (suc n) p = rw (p (entry_cell n) (omega arith) (omega arith), p (entry_cell n + 1) (omega arith) (omega arith), entries-same n (λ i l m. p i l (omega arith)))

-- A cell set, and one copied.
pub set_same : (cs : List Operand) (o : ℕ) (x : Operand) (a b : ℕ) → (o < a) ⊎ (b ≤ o) → Same a b cs (set cs o x)
set_same cs o x a b (inl h) i l m = get_or-set_other cs o i x Empty (λ e. omega arith)
set_same cs o x a b (inr h) i l m = get_or-set_other cs o i x Empty (λ e. omega arith)

-- two cells side by side set
pub pair_same : (cs : List Operand) (o : ℕ) (x y : Operand) (a b : ℕ) → (o + 1 < a) ⊎ (b ≤ o) → Same a b cs (set (set cs o x) (o + 1) y)
pair_same cs o x y a b (inl h) i l m = get_or-set_other (set cs o x) (o + 1) i y Empty (λ e. omega arith) ∙ get_or-set_other cs o i x Empty (λ e. omega arith)
pair_same cs o x y a b (inr h) i l m = get_or-set_other (set cs o x) (o + 1) i y Empty (λ e. omega arith) ∙ get_or-set_other cs o i x Empty (λ e. omega arith)

pub pair_first : (cs : List Operand) (o : ℕ) (x y : Operand) → o < length cs → get_or (set (set cs o x) (o + 1) y) o Empty ≡ x
pair_first cs o x y h = get_or-set_other (set cs o x) (o + 1) o y Empty (λ e. omega arith) ∙ get_or-set_same cs o x Empty h

pub pair_next : (cs : List Operand) (o : ℕ) (x y : Operand) → o + 1 < length cs → get_or (set (set cs o x) (o + 1) y) (o + 1) Empty ≡ y
pair_next cs o x y h = get_or-set_same (set cs o x) (o + 1) y Empty (rw (length-set cs o x) h)

pub copied_is : (cs : List Operand) (o p : ℕ) → p < length cs → copied cs o p ≡ set cs o (get_or cs p Empty)
unfolding copied
copied_is cs o p h = rw (lt-ltb p (length cs) h)

pub length-copied : (cs : List Operand) (o p : ℕ) → length (copied cs o p) ≡ length cs
unfolding copied
length-copied cs o p = go (ltb p (length cs))
  where
    go : (t : Bool) → length (cond t (set cs o (get_or cs p Empty)) cs) ≡ length cs
    go true = length-set cs o (get_or cs p Empty)
    go false = refl

pub copied_other : (cs : List Operand) (o p i : ℕ) → (i ≡ o → ⊥) → get_or (copied cs o p) i Empty ≡ get_or cs i Empty
unfolding copied
copied_other cs o p i h = go (ltb p (length cs))
  where
    go : (t : Bool) → get_or (cond t (set cs o (get_or cs p Empty)) cs) i Empty ≡ get_or cs i Empty
    go true = get_or-set_other cs o i (get_or cs p Empty) Empty h
    go false = refl

-- Cells moved. What was moved is there if the source lies at or above the target, or below it and apart.
pub length_moved : (cs : List Operand) (to from k : ℕ) → length (moved cs to from k) ≡ length cs
unfolding moved
length_moved cs to from zero = refl
length_moved cs to from (suc k) = length-copied (moved cs to from k) (to + k) (from + k) ∙ length_moved cs to from k

pub moved_other : (cs : List Operand) (to from k i : ℕ) → (i < to) ⊎ (to + k ≤ i) → get_or (moved cs to from k) i Empty ≡ get_or cs i Empty
unfolding moved
moved_other cs to from zero i o = refl
moved_other cs to from (suc k) i (inl l) = copied_other (moved cs to from k) (to + k) (from + k) i (λ q. omega arith) ∙ moved_other cs to from k i (inl l)
moved_other cs to from (suc k) i (inr l) = copied_other (moved cs to from k) (to + k) (from + k) i (λ q. omega arith) ∙ moved_other cs to from k i (inr (omega arith))

pub moved_same : (cs : List Operand) (to from k a b : ℕ) → (to + k ≤ a) ⊎ (b ≤ to) → Same a b cs (moved cs to from k)
moved_same cs to from k a b (inl h) i l m = moved_other cs to from k i (inr (omega arith))
moved_same cs to from k a b (inr h) i l m = moved_other cs to from k i (inl (omega arith))

pub moved-there : (cs : List Operand) (to from k j : ℕ) → from + k ≤ length cs → to + k ≤ length cs → (from + k ≤ to) ⊎ (to ≤ from) → j < k → get_or (moved cs to from k) (to + j) Empty ≡ get_or cs (from + j) Empty
unfolding moved
moved-there cs to from zero j h l o m = absurd (omega arith)
moved-there cs to from (suc k) j h l o m = go (λ p. moved-there cs to from k j (omega arith) (omega arith) (less o) p) (dec_lt j k)
  where
    ds : List Operand
    ds = moved cs to from k

    e : length ds ≡ length cs
    e = length_moved cs to from k

    less : (from + suc k ≤ to) ⊎ (to ≤ from) → (from + k ≤ to) ⊎ (to ≤ from)
    less (inl p) = inl (omega arith)
    less (inr p) = inr p

    apart : (from + suc k ≤ to) ⊎ (to ≤ from) → (from + k < to) ⊎ (to + k ≤ from + k)
    apart (inl p) = inl (omega arith)
    apart (inr p) = inr (omega arith)

    go : (j < k → get_or ds (to + j) Empty ≡ get_or cs (from + j) Empty) → Dec (j < k) → get_or (copied ds (to + k) (from + k)) (to + j) Empty ≡ get_or cs (from + j) Empty
    go u (yes p) = copied_other ds (to + k) (from + k) (to + j) (λ q. omega arith) ∙ u p
    go u (no p) =
        let q : j ≡ k = omega arith in
        rw (q, copied_is ds (to + k) (from + k) (omega (arith, e)), get_or-set_same ds (to + k) (get_or ds (from + k) Empty) Empty (omega (arith, e)))
        (moved_other cs to from k (from + k) (apart o))

-- Cells emptied.
pub length-emptied : (cs : List Operand) (at k : ℕ) → length (emptied cs at k) ≡ length cs
unfolding emptied
length-emptied cs at zero = refl
length-emptied cs at (suc k) = length-set (emptied cs at k) (at + k) Empty ∙ length-emptied cs at k

pub emptied_other : (cs : List Operand) (at k i : ℕ) → (i < at) ⊎ (at + k ≤ i) → get_or (emptied cs at k) i Empty ≡ get_or cs i Empty
unfolding emptied
emptied_other cs at zero i o = refl
emptied_other cs at (suc k) i (inl l) = get_or-set_other (emptied cs at k) (at + k) i Empty Empty (λ q. omega arith) ∙ emptied_other cs at k i (inl l)
emptied_other cs at (suc k) i (inr l) = get_or-set_other (emptied cs at k) (at + k) i Empty Empty (λ q. omega arith) ∙ emptied_other cs at k i (inr (omega arith))

pub emptied-same : (cs : List Operand) (at k a b : ℕ) → (at + k ≤ a) ⊎ (b ≤ at) → Same a b cs (emptied cs at k)
emptied-same cs at k a b (inl h) i l m = emptied_other cs at k i (inr (omega arith))
emptied-same cs at k a b (inr h) i l m = emptied_other cs at k i (inl (omega arith))

pub emptied-there : (cs : List Operand) (at k i : ℕ) → at + k ≤ length cs → at ≤ i → i < at + k → get_or (emptied cs at k) i Empty ≡ Empty
unfolding emptied
emptied-there cs at zero i h l m = absurd (omega arith)
emptied-there cs at (suc k) i h l m = go (λ p. emptied-there cs at k i (omega arith) l p) (dec_lt i (at + k))
  where
    go : (i < at + k → get_or (emptied cs at k) i Empty ≡ Empty) → Dec (i < at + k) → get_or (set (emptied cs at k) (at + k) Empty) i Empty ≡ Empty
    go u (yes p) = get_or-set_other (emptied cs at k) (at + k) i Empty Empty (λ q. omega arith) ∙ u p
    go u (no p) = let q : i ≡ at + k = omega arith in rw q (get_or-set_same (emptied cs at k) (at + k) Empty Empty (omega (arith, length-emptied cs at k)))

-- Lists of cells by their elements, taken apart and put together.
pub up_at : (cs : List Operand) (b n i : ℕ) → i < n → get_or (up_from cs b n) i Empty ≡ get_or cs (b + i) Empty
unfolding up_from
up_at cs b zero i h = absurd (omega arith)
up_at cs b (suc n) zero h = let e : b + 0 ≡ b = omega arith in rw e
up_at cs b (suc n) (suc i) h = let e : b + suc i ≡ suc b + i = omega arith in rw e (up_at cs (suc b) n i (omega arith))

pub up_set : (cs : List Operand) (b n j : ℕ) (x : Operand) → b + n ≤ length cs → up_from (set cs (b + j) x) b n ≡ set (up_from cs b n) j x
unfolding up_from
up_set cs b zero j x l = refl
up_set cs b (suc n) zero x l =
    let e : b + 0 ≡ b = omega arith in
    let here : get_or (set cs (b + 0) x) b Empty ≡ x = rw e (get_or-set_same cs b x Empty (omega arith)) in
    let after : up_from (set cs (b + 0) x) (suc b) n ≡ up_from cs (suc b) n = rw e (up_same cs (set cs b x) (suc b) n (set_same cs b x (suc b) (suc b + n) (inl (omega arith)))) in
    rw (here, after) refl
up_set cs b (suc n) (suc j) x l =
    let e : b + suc j ≡ suc b + j = omega arith in
    let here : get_or (set cs (b + suc j) x) b Empty ≡ get_or cs b Empty = rw e (get_or-set_other cs (suc b + j) b x Empty (λ q. omega arith)) in
    let after : up_from (set cs (b + suc j) x) (suc b) n ≡ set (up_from cs (suc b) n) j x = rw e (up_set cs (suc b) n j x (omega arith)) in
    rw (here, after) refl

pub up_append : (cs : List Operand) (b k m : ℕ) → up_from cs b (k + m) ≡ up_from cs b k ++ up_from cs (b + k) m
unfolding up_from
up_append cs b zero m = let e : 0 + m ≡ m = omega arith in let d : b + 0 ≡ b = omega arith in rw (e, d)
up_append cs b (suc k) m = let e : suc k + m ≡ suc (k + m) = omega arith in let d : b + suc k ≡ suc b + k = omega arith in rw (e, d, up_append cs (suc b) k m)

up_none : (cs : List Operand) (b : ℕ) → up_from cs b 0 ≡ []
unfolding up_from
up_none cs b = refl

up_last : (cs : List Operand) (b k : ℕ) → up_from cs b (suc k) ≡ up_from cs b k ++ (get_or cs (b + k) Empty ∷ [])
unfolding up_from
up_last cs b k = let e : suc k ≡ k + 1 = omega arith in ap (up_from cs b) e ∙ up_append cs b k 1

-- cells that hold what others held, and empty ones
pub up_shift : (cs ds : List Operand) (a b k : ℕ) → ((j : ℕ) → j < k → get_or ds (a + j) Empty ≡ get_or cs (b + j) Empty) → up_from ds a k ≡ up_from cs b k
unfolding up_from
up_shift cs ds a b zero s = refl
up_shift cs ds a b (suc k) s = rw (first, up_shift cs ds (suc a) (suc b) k rest)
  where
    first : get_or ds a Empty ≡ get_or cs b Empty
    first = let e : a + 0 ≡ a = omega arith in let d : b + 0 ≡ b = omega arith in rw (e, d) at (s 0 (omega arith))

    rest : (j : ℕ) → j < k → get_or ds (suc a + j) Empty ≡ get_or cs (suc b + j) Empty
    rest j l = let e : a + suc j ≡ suc a + j = omega arith in let d : b + suc j ≡ suc b + j = omega arith in rw (e, d) at (s (suc j) (omega arith))

pub up_empty : (ds : List Operand) (b m : ℕ) → ((i : ℕ) → b ≤ i → i < b + m → get_or ds i Empty ≡ Empty) → up_from ds b m ≡ replicate m Empty
unfolding up_from
up_empty ds b zero s = refl
up_empty ds b (suc m) s = rw (s b (omega arith) (omega arith), up_empty ds (suc b) m (λ i l n. s i (omega arith) (omega arith)))

-- k cells moved
pub up_moved : (cs : List Operand) (to from k : ℕ) → from + k ≤ length cs → to + k ≤ length cs → (from + k ≤ to) ⊎ (to ≤ from) → up_from (moved cs to from k) to k ≡ up_from cs from k
up_moved cs to from k h l o = up_shift cs (moved cs to from k) to from k (λ j m. moved-there cs to from k j h l o m)

-- operands taken off and pushed
pub drop_down : (cs : List Operand) (b n k : ℕ) → drop k (down_from cs b n) ≡ down_from cs b (n - k)
unfolding down_from
drop_down cs b n zero = let e : n - 0 ≡ n = omega arith in rw e
drop_down cs b zero (suc k) = let e : 0 - suc k ≡ 0 = omega arith in rw e
drop_down cs b (suc n) (suc k) = let e : suc n - suc k ≡ n - k = omega arith in rw e (drop_down cs b n k)

pub down_push : (cs : List Operand) (b n : ℕ) (x : Operand) → b + n < length cs → down_from (set cs (b + n) x) b (n + 1) ≡ x ∷ down_from cs b n
unfolding down_from
down_push cs b n x h = rw (add-one n, get_or-set_same cs (b + n) x Empty h, down_same cs (set cs (b + n) x) b n (set_same cs (b + n) x b (b + n) (inr (omega arith))))

pub down_back : (cs : List Operand) (b n k : ℕ) → down_from cs b (n + k) ≡ back_to (up_from cs (b + n) k) (down_from cs b n)
unfolding down_from up_from
down_back cs b n zero = let e : n + 0 ≡ n = omega arith in rw e
down_back cs b n (suc k) = let e : n + suc k ≡ suc n + k = omega arith in let d : suc (b + n) ≡ b + suc n = omega arith in rw (e, d) (down_back cs b (suc n) k)

-- the k topmost of n operands, in the order in which they were pushed
pub topmost_down : (cs : List Operand) (b n k : ℕ) → k ≤ n → topmost k (down_from cs b n) ≡ up_from cs (b + (n - k)) k
unfolding down_from
topmost_down cs b n k h = go n k [] h ∙ append-nil (up_from cs (b + (n - k)) k)
  where
    go : (n k : ℕ) (xs : List Operand) → k ≤ n → back_to (take k (down_from cs b n)) xs ≡ up_from cs (b + (n - k)) k ++ xs
    go n zero xs l = ap (λ (l : List Operand). l ++ xs) (sym (up_none cs (b + (n - 0))))
    go zero (suc k) xs l = absurd (omega arith)
    go (suc n) (suc k) xs l =
        let e : suc n - suc k ≡ n - k = omega arith in
        let d : b + (n - k) + k ≡ b + n = omega arith in
        rw (e, up_last cs (b + (n - k)) k, d, append_assoc (up_from cs (b + (n - k)) k) (get_or cs (b + n) Empty ∷ []) xs) (go n k (get_or cs (b + n) Empty ∷ xs) (omega arith))

-- What a condition leaves or changes.
length-cond : (t : Bool) (cs ds : List Operand) → length ds ≡ length cs → length (cond t ds cs) ≡ length cs
length-cond true cs ds e = e
length-cond false cs ds e = refl

same_cond : (t : Bool) (cs ds : List Operand) (a b : ℕ) → Same a b cs ds → Same a b cs (cond t ds cs)
same_cond true cs ds a b p = p
same_cond false cs ds a b p = same_refl cs a b

-- an operand put into local l, if there is one; `cleared_in` puts nothing there
abbrev pub put_local : List Operand → State → ℕ → Operand → List Operand
put_local cs s l x = cond (ltb l s.count) (set cs (local_cell s.depth + l) x) cs

-- Every method keeps how many cells there are.
module _ (cs : List Operand) (s : State) where
  pub length-pushed : (x : Operand) → length (pushed_in cs s x) ≡ length cs
  length-pushed x = length-cond (ltb s.height 16) cs (set cs (operand_cell s.depth + s.height) x) (length-set cs (operand_cell s.depth + s.height) x)

  pub length_put : (l : ℕ) (x : Operand) → length (put_local cs s l x) ≡ length cs
  length_put l x = length-cond (ltb l s.count) cs (set cs (local_cell s.depth + l) x) (length-set cs (local_cell s.depth + l) x)

  pub length_suspended : length (suspended_in cs s) ≡ length cs
  length_suspended = simp length-set

  pub length-entered : (k count : ℕ) → length (entered_in cs s k count) ≡ length cs
  length-entered k count = simp (length_moved, length-emptied)

  pub length-received : (from k : ℕ) → length (received_in cs s from k) ≡ length cs
  length-received from k =
      let e = length_moved cs (operand_cell s.depth + s.height) from k in
      length-cond (leb s.height 16) cs _ (length-cond (leb k (16 - s.height)) cs _ e)

-- Which cells a method leaves as they are.
module _ (cs : List Operand) (s : State) (a b : ℕ) where
  pub pushed-same : (x : Operand) → (operand_cell s.depth + s.height < a) ⊎ (b ≤ operand_cell s.depth + s.height) → Same a b cs (pushed_in cs s x)
  pushed-same x o = same_cond (ltb s.height 16) cs (set cs (operand_cell s.depth + s.height) x) a b (set_same cs (operand_cell s.depth + s.height) x a b o)

  pub put_same : (l : ℕ) (x : Operand) → (local_cell s.depth + s.count ≤ a) ⊎ (b ≤ local_cell s.depth) → Same a b cs (put_local cs s l x)
  put_same l x o = go (dec_lt l s.count) o
    where
      go : Dec (l < s.count) → (local_cell s.depth + s.count ≤ a) ⊎ (b ≤ local_cell s.depth) → Same a b cs (put_local cs s l x)
      go (yes h) (inl p) = rw (lt-ltb l s.count h) (set_same cs (local_cell s.depth + l) x a b (inl (omega arith)))
      go (yes h) (inr p) = rw (lt-ltb l s.count h) (set_same cs (local_cell s.depth + l) x a b (inr (omega arith)))
      go (no h) p = rw (le-ltb l s.count (omega arith)) (same_refl cs a b)

  pub suspended_same : (suspended_cell s.depth + 1 < a) ⊎ (b ≤ suspended_cell s.depth) → Same a b cs (suspended_in cs s)
  suspended_same o = pair_same cs (suspended_cell s.depth) _ _ a b o

  pub entered-same : (k count : ℕ) → k ≤ count → (local_cell (s.depth + 1) + count ≤ a) ⊎ (b ≤ local_cell (s.depth + 1)) → Same a b cs (entered_in cs s k count)
  entered-same k count h (inl p) i l m = moved_other _ (operand_cell s.depth + 48) _ k i (inr (omega arith)) ∙ emptied_other cs (operand_cell s.depth + 48 + k) (count - k) i (inr (omega arith))
  entered-same k count h (inr p) i l m = moved_other _ (operand_cell s.depth + 48) _ k i (inl (omega arith)) ∙ emptied_other cs (operand_cell s.depth + 48 + k) (count - k) i (inl (omega arith))

  pub received-same : (from k : ℕ) → (operand_cell s.depth + s.height + k ≤ a) ⊎ (b ≤ operand_cell s.depth + s.height) → Same a b cs (received_in cs s from k)
  received-same from k o =
      let p = moved_same cs (operand_cell s.depth + s.height) from k a b o in
      same_cond (leb s.height 16) cs _ a b (same_cond (leb k (16 - s.height)) cs _ a b p)

-- The operands of the running frame: the top ones; those left when k are taken; the k topmost. A local.
module _ (cs : List Operand) (s : State) where
  pub operand-is : (k : ℕ) → get_or (operands_in cs s) k Empty ≡ top_at cs s k
  unfolding down_from
  operand-is k = go (operand_cell s.depth) s.height k
    where
      go : (b h k : ℕ) → get_or (down_from cs b h) k Empty ≡ cond (ltb k h) (get_or cs (b + (h - 1 - k)) Empty) Empty
      go b zero k = rw (le-ltb k 0 (omega arith))
      go b (suc h) zero = let e : suc h - 1 - 0 ≡ h = omega arith in rw (lt-ltb 0 (suc h) (omega arith), e)
      go b (suc h) (suc k) = let e : suc h - 1 - suc k ≡ h - 1 - k = omega arith in go b h k ∙ rw (e, leb-suc-suc (suc k) h)

  pub top-is : top (operands_in cs s) ≡ top_at cs s 0
  top-is = sym (top_get_d (operands_in cs s)) ∙ operand-is 0

  pub second_is : second (operands_in cs s) ≡ top_at cs s 1
  second_is = sym (second_get_d (operands_in cs s)) ∙ operand-is 1

  pub drop-is : (k : ℕ) → drop k (operands_in cs s) ≡ operands_in cs (dropped s k)
  drop-is k = drop_down cs (operand_cell s.depth) s.height k

  pub topmost-is : (k : ℕ) → k ≤ s.height → topmost k (operands_in cs s) ≡ up_from cs (operand_cell s.depth + (s.height - k)) k
  topmost-is k h = topmost_down cs (operand_cell s.depth) s.height k h

  pub local-is : (l : ℕ) → held (nth (locals_in cs s) l) ≡ cond (ltb l s.count) (get_or cs (local_cell s.depth + l) Empty) Empty
  local-is l = sym (held_get_d (locals_in cs s) l) ∙ go (dec_lt l s.count)
    where
      go : Dec (l < s.count) → get_or (locals_in cs s) l Empty ≡ cond (ltb l s.count) (get_or cs (local_cell s.depth + l) Empty) Empty
      go (yes h) = rw (lt-ltb l s.count h) (up_at cs (local_cell s.depth) s.count l h)
      go (no h) = rw (le-ltb l s.count (omega arith)) (get_or-eq_default (locals_in cs s) Empty {n = l} (omega (arith, length_up cs (local_cell s.depth) s.count)))

-- What the methods do to the operands and locals of a frame that lies within its bounds.
module _ (cs : List Operand) (s : State) (whole : length cs ≡ all_cells) (shallow : s.depth < 16) where
  -- an operand pushed
  module _ (x : Operand) (h : s.height < 16) where
    pub push-operands : operands_in (pushed_in cs s x) (pushed s) ≡ x ∷ operands_in cs s
    push-operands = rw (lt-ltb s.height 16 h) (down_push cs (operand_cell s.depth) s.height x (omega arith))

    pub push-locals : locals_in (pushed_in cs s x) s ≡ locals_in cs s
    push-locals = up_same cs (pushed_in cs s x) (local_cell s.depth) s.count (pushed-same cs s (local_cell s.depth) (local_cell s.depth + s.count) x (inl (omega arith)))

  -- a local filled
  module _ (l : ℕ) (x : Operand) where
    pub put-locals : s.count ≤ 16 → locals_in (put_local cs s l x) s ≡ set (locals_in cs s) l x
    put-locals few = go (dec_lt l s.count)
      where
        go : Dec (l < s.count) → locals_in (put_local cs s l x) s ≡ set (locals_in cs s) l x
        go (yes h) = rw (lt-ltb l s.count h) (up_set cs (local_cell s.depth) s.count l x (omega arith))
        go (no h) = rw (le-ltb l s.count (omega arith)) (sym (set_out (locals_in cs s) l x (omega (arith, length_up cs (local_cell s.depth) s.count))))

    pub put-operands : (h : ℕ) → h ≤ 16 → down_from (put_local cs s l x) (operand_cell s.depth) h ≡ down_from cs (operand_cell s.depth) h
    put-operands h low = down_same cs (put_local cs s l x) (operand_cell s.depth) h (put_same cs s (operand_cell s.depth) (operand_cell s.depth + h) l x (inr (omega arith)))

  -- a local pushed; the top operand put into a local
  pub load_is : (l : ℕ) → s.count ≤ 16 → loaded_in cs s l ≡ pushed_in cs s (held (nth (locals_in cs s) l))
  load_is l few = rw (local-is cs s l) (go (dec_lt l s.count))
    where
      go : Dec (l < s.count) → loaded_in cs s l ≡ pushed_in cs s (cond (ltb l s.count) (get_or cs (local_cell s.depth + l) Empty) Empty)
      go (yes h) = rw (lt-ltb l s.count h, copied_is cs (operand_cell s.depth + s.height) (local_cell s.depth + l) (omega arith))
      go (no h) = rw (le-ltb l s.count (omega arith))

  pub store_is : (l : ℕ) → 0 < s.height → s.height ≤ 16 → stored_in cs s l ≡ put_local cs s l (top (operands_in cs s))
  store_is l h low =
      let e : s.height - 1 - 0 ≡ s.height - 1 = omega arith in
      rw (top-is cs s, lt-ltb 0 s.height h, copied_is cs (local_cell s.depth + l) (operand_cell s.depth + (s.height - 1)) (omega arith), e)

  -- k cells pushed
  module _ (from k : ℕ) (fits : s.height + k ≤ 16) where
    pub receive_operands : from + k ≤ all_cells → (from + k ≤ operand_cell s.depth + s.height) ⊎ (operand_cell s.depth + s.height ≤ from) → operands_in (received_in cs s from k) (received s k) ≡ back_to (up_from cs from k) (operands_in cs s)
    receive_operands h o =
        let b = operand_cell s.depth in
        let to = operand_cell s.depth + s.height in
        rw (le-leb s.height 16 (omega arith), le-leb k (16 - s.height) (omega arith), down_back (moved cs to from k) b s.height k, up_moved cs to from k (omega arith) (omega arith) o, down_same cs (moved cs to from k) b s.height (moved_same cs to from k b to (inr (omega arith))))

    pub receive_locals : locals_in (received_in cs s from k) s ≡ locals_in cs s
    receive_locals = up_same cs (received_in cs s from k) (local_cell s.depth) s.count (received-same cs s (local_cell s.depth) (local_cell s.depth + s.count) from k (inl (omega arith)))

  -- a frame begun: its locals
  pub enter_locals : (k count : ℕ) → s.height + k ≤ 16 → k ≤ count → count ≤ 16 → s.depth + 1 < 16
      → up_from (entered_in cs s k count) (local_cell (s.depth + 1)) count ≡ up_from cs (operand_cell s.depth + s.height) k ++ replicate (count - k) Empty
  enter_locals k count fits few most deep =
      let e : local_cell (s.depth + 1) ≡ operand_cell s.depth + 48 = omega arith in
      let d : count ≡ k + (count - k) = omega arith in
      rw e (ap (up_from ds to) d ∙ up_append ds to k (count - k) ∙ rw (args, rest))
    where
      to : ℕ
      to = operand_cell s.depth + 48

      from : ℕ
      from = operand_cell s.depth + s.height

      es : List Operand
      es = emptied cs (to + k) (count - k)

      ds : List Operand
      ds = moved es to from k

      size : length es ≡ all_cells
      size = length-emptied cs (to + k) (count - k) ∙ whole

      args : up_from ds to k ≡ up_from cs from k
      args = up_moved es to from k (omega (arith, size)) (omega (arith, size)) (inl (omega arith)) ∙ up_same cs es from k (emptied-same cs (to + k) (count - k) from (from + k) (inr (omega arith)))

      rest : up_from ds (to + k) (count - k) ≡ replicate (count - k) Empty
      rest = up_empty ds (to + k) (count - k) (λ i a b. moved_other es to from k i (inr a) ∙ emptied-there cs (to + k) (count - k) i (omega arith) a b)

-- A frame suspended is the first of those below; the one that runs again was the first of those below.
pub suspend_is : (cs : List Operand) (s : State) → length cs ≡ all_cells → s.depth < 16 → s.procedure < 65536 → s.at < 65536 → s.height ≤ 16 → s.count ≤ 16
    → ((e : ℕ) → e < s.depth → second_of (get_or cs (suspended_cell e) Empty) ≤ 16) → ((e : ℕ) → e < s.depth → third_of (get_or cs (suspended_cell e) Empty) ≤ 16)
    → below_in (suspended_in cs s) (suc s.depth) ≡ frame_in cs s ∷ below_in cs s.depth
unfolding below_in
suspend_is cs s whole shallow named inside low few lows fews =
    rw (pair_first cs o x y (omega arith), pair_next cs o x y (omega arith), p, q, down_same cs ds b s.height (suspended_same cs s b (b + s.height) (inr (omega arith))), up_same cs ds c s.count (suspended_same cs s c (c + s.count) (inr (omega arith))))
    (ap (λ (l : List MFrame). frame_in cs s ∷ l) (below-same cs ds s.depth lows fews (suspended_same cs s 0 (32 * s.depth) (inr (omega arith))) (suspended_same cs s 512 (512 + 2 * s.depth) (inr (omega arith)))))
  where
    ds : List Operand
    ds = suspended_in cs s

    b : ℕ
    b = operand_cell s.depth

    c : ℕ
    c = local_cell s.depth

    o : ℕ
    o = suspended_cell s.depth

    x : Operand
    x = Record s.serial s.height s.count

    y : Operand
    y = Number (65536 * s.procedure + s.at)

    p : (65536 * s.procedure + s.at) / 65536 % 65536 ≡ s.procedure
    p = omega arith

    q : (65536 * s.procedure + s.at) % 65536 ≡ s.at
    q = omega arith
