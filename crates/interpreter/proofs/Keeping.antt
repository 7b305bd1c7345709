-- Cells that are kept before a call and put back after a stop, and the cells in which a call begins.
use Prim.Native.Nat.{ℕ, zero, suc, ◌+◌, ◌-◌, ◌*◌, ◌/◌, ◌≤◌, ◌<◌}
use mathlib.Core.Path.{◌≡◌, refl, ap, sym, ◌∙◌, subst}
use mathlib.Core.Bool.{Bool, true, false, cond}
use mathlib.Core.Logic.{◌⊎◌, inl, inr}
use mathlib.Core.List.{List, [], ◌∷◌, map}
use native.Mathlib.Decide.{dec_lt}
use native.Mathlib.Omega.{arith}
use native.Mathlib.Numerals.{add-one}
use borrow.Author.Rules.{rules}
use borrow.Rule.Slice.PartMut.{put_mid}
use Rattle.std.specs.List.{between}
use Rattle.std.proofs.lemmas.List.{ext_get_or, places}
use borrow.Author.Tests.{le-leb, lt-leb}
use lib.Dec.{leb}
use lib.ListN.{length, get_or, set, drop, length-set}
use lib.Seq.{drop-cons, get_or-set_same, get_or-set_other}
use Rattle.state.specs.declared.Operand.{Operand}
use Rattle.state.specs.declared.Operand.TheVariants.{Empty, Number}
use Rattle.state.specs.declared.frames.State.{State}
use Rattle.state.specs.code.Cells.{cells_of}
use Rattle.state.proofs.Cells.{cells_length, cells_at, cells_set}
use Rattle.state.specs.code.Layout.{room_cell, all_cells}
use Rattle.machine.specs.code.Views.{Same, up_from}
use Rattle.interpreter.specs.code.Calls.{carried, kept, kept_of, kept_since, freed, filled}

-- numbers carried from one list to another
module _ {A : Type 0} (z : A) (ks cs : List A) (at : ℕ) where
  pub length-carried : (k : ℕ) → length (carried z ks cs at k) ≡ length ks
  unfolding carried
  length-carried zero = refl
  length-carried (suc k) = length-set (carried z ks cs at k) (at + k) (get_or cs (at + k) z) ∙ length-carried k

  pub carried_other : (k i : ℕ) → (i < at) ⊎ (at + k ≤ i) → get_or (carried z ks cs at k) i z ≡ get_or ks i z
  unfolding carried
  carried_other zero i o = refl
  carried_other (suc k) i (inl o) = get_or-set_other (carried z ks cs at k) (at + k) i (get_or cs (at + k) z) z (λ q. omega arith) ∙ carried_other k i (inl o)
  carried_other (suc k) i (inr o) = get_or-set_other (carried z ks cs at k) (at + k) i (get_or cs (at + k) z) z (λ q. omega arith) ∙ carried_other k i (inr (omega arith))

  pub carried-there : (k i : ℕ) → at + k ≤ length ks → at ≤ i → i < at + k → get_or (carried z ks cs at k) i z ≡ get_or cs i z
  unfolding carried
  carried-there zero i w l h = absurd (omega arith)
  carried-there (suc k) i w l h = go (dec_lt i (at + k)) (carried-there k i (omega arith) l)
    where
      go : Dec (i < at + k) → (i < at + k → get_or (carried z ks cs at k) i z ≡ get_or cs i z) → get_or (set (carried z ks cs at k) (at + k) (get_or cs (at + k) z)) i z ≡ get_or cs i z
      go (yes o) rest = get_or-set_other (carried z ks cs at k) (at + k) i (get_or cs (at + k) z) z (λ q. omega arith) ∙ rest o
      go (no o) rest = let e : i ≡ at + k = omega arith in rw e (get_or-set_same (carried z ks cs at k) (at + k) (get_or cs (at + k) z) z (omega (arith, length-carried k)))

-- a part of a list copied over that of another
pub copied-part : (ks cs ys : List ℕ) (at k : ℕ) → at + k ≤ length ks → at + k ≤ length cs → ys ≡ between at (at + k) cs → put_mid at (at + k - at) ks ys ≡ carried 0 ks cs at k
copied-part ks cs ys at k a b e = rw e (ext_get_or 0 (put_mid at (at + k - at) ks (between at (at + k) cs)) (carried 0 ks cs at k) (rw (length-carried 0 ks cs at k) same-length) (λ i l. go i (dec_lt i at) (dec_lt i (at + k))))
  where
    same-length : length (put_mid at (at + k - at) ks (between at (at + k) cs)) ≡ length ks
    same-length = grind (arith, places)

    go : (i : ℕ) → Dec (i < at) → Dec (i < at + k) → get_or (put_mid at (at + k - at) ks (between at (at + k) cs)) i 0 ≡ get_or (carried 0 ks cs at k) i 0
    go i (yes l) h = rw (carried_other 0 ks cs at k i (inl l)) (search (rules, places))
    go i (no l) (yes h) = rw (carried-there 0 ks cs at k i a (omega arith) h) (search (rules, places))
    go i (no l) (no h) = rw (carried_other 0 ks cs at k i (inr (omega arith))) (search (rules, places))

-- cells kept
module _ (ks cs : List Operand) (at k : ℕ) (a : at + k ≤ length ks) (b : at + k ≤ length cs) where
  pub kept-is : kept ks cs at k ≡ carried Empty ks cs at k
  unfolding kept
  kept-is = rw (le-leb (at + k) (length ks) a, le-leb (at + k) (length cs) b)

  pub length-kept : length (kept ks cs at k) ≡ length ks
  length-kept = rw kept-is (length-carried Empty ks cs at k)

  pub kept_there : Same at (at + k) cs (kept ks cs at k)
  kept_there i l h = rw kept-is (carried-there Empty ks cs at k i a l h)

  pub kept_other : (c d : ℕ) → (d ≤ at) ⊎ (at + k ≤ c) → Same c d ks (kept ks cs at k)
  kept_other c d (inl o) i l h = rw kept-is (carried_other Empty ks cs at k i (inl (omega arith)))
  kept_other c d (inr o) i l h = rw kept-is (carried_other Empty ks cs at k i (inr (omega arith)))

-- the entries and rooms of a state
module _ (ks cs : List Operand) (s : State) (a : length ks ≡ all_cells) (b : length cs ≡ all_cells) (stored : s.entries ≤ 64) (rooms_low : s.rooms ≤ 128) where
  abbrev first : List Operand
  first = kept ks cs 544 (2 * s.entries)

  first-length : length first ≡ all_cells
  first-length = length-kept ks cs 544 (2 * s.entries) (omega arith) (omega arith) ∙ a

  pub length-kept_of : length (kept_of ks cs s) ≡ all_cells
  length-kept_of = length-kept first cs 672 (9 * s.rooms) (omega (arith, first-length)) (omega arith) ∙ first-length

  pub entries-kept : Same 544 (544 + 2 * s.entries) cs (kept_of ks cs s)
  entries-kept i l h =
      kept_other first cs 672 (9 * s.rooms) (omega (arith, first-length)) (omega arith) 544 672 (inl (omega arith)) i l (omega arith)
      ∙ kept_there ks cs 544 (2 * s.entries) (omega arith) (omega arith) i l h

  pub rooms_kept : Same 672 (672 + 9 * s.rooms) cs (kept_of ks cs s)
  rooms_kept = kept_there first cs 672 (9 * s.rooms) (omega (arith, first-length)) (omega arith)

  -- past the rooms nothing is put
  pub past_kept : Same (672 + 9 * s.rooms) all_cells ks (kept_of ks cs s)
  past_kept i l h =
      kept_other first cs 672 (9 * s.rooms) (omega (arith, first-length)) (omega arith) (672 + 9 * s.rooms) all_cells (inr (omega arith)) i l h
      ∙ kept_other ks cs 544 (2 * s.entries) (omega arith) (omega arith) 672 all_cells (inr (omega arith)) i (omega arith) h

-- what is kept is what there is, in the cells of a state's entries and rooms
pub record Holds (ks cs : List Operand) (s : State) : Type 0 where
  pub entries : Same 544 (544 + 2 * s.entries) cs ks
  pub rooms : Same 672 (672 + 9 * s.rooms) cs ks

module _ (ks cs : List Operand) (s : State) (a : length ks ≡ all_cells) (b : length cs ≡ all_cells) (stored : s.entries ≤ 64) (rooms_low : s.rooms ≤ 128) where
  pub length_since : (same : Bool) → length (kept_since same ks cs s) ≡ all_cells
  length_since true = a
  length_since false = length-kept_of ks cs s a b stored rooms_low

  pub since_holds : (same : Bool) → (same ≡ true → Holds ks cs s) → Holds (kept_since same ks cs s) cs s
  since_holds true h = h refl
  since_holds false h = record { entries = entries-kept ks cs s a b stored rooms_low; rooms = rooms_kept ks cs s a b stored rooms_low }

-- heads emptied
pub length-freed : (cs : List Operand) (r n : ℕ) → length (freed cs r n) ≡ length cs
unfolding freed
length-freed cs r zero = refl
length-freed cs r (suc n) = length-set (freed cs r n) (room_cell (r + n)) Empty ∙ length-freed cs r n

pub freed_other : (cs : List Operand) (r n i : ℕ) → ((j : ℕ) → j < n → i ≡ room_cell (r + j) → ⊥) → get_or (freed cs r n) i Empty ≡ get_or cs i Empty
unfolding freed
freed_other cs r zero i o = refl
freed_other cs r (suc n) i o = get_or-set_other (freed cs r n) (room_cell (r + n)) i Empty Empty (λ q. o n (omega arith) q) ∙ freed_other cs r n i (λ j l. o j (omega arith))

pub freed-there : (cs : List Operand) (r n j : ℕ) → j < n → room_cell (r + j) < length cs → get_or (freed cs r n) (room_cell (r + j)) Empty ≡ Empty
unfolding freed
freed-there cs r zero j l w = absurd (omega arith)
freed-there cs r (suc n) j l w = go (dec_lt j n) (freed-there cs r n j)
  where
    go : Dec (j < n) → (j < n → room_cell (r + j) < length cs → get_or (freed cs r n) (room_cell (r + j)) Empty ≡ Empty) → get_or (set (freed cs r n) (room_cell (r + n)) Empty) (room_cell (r + j)) Empty ≡ Empty
    go (yes h) rest = get_or-set_other (freed cs r n) (room_cell (r + n)) (room_cell (r + j)) Empty Empty (λ q. omega arith) ∙ rest h w
    go (no h) rest = let e : j ≡ n = omega arith in rw e (get_or-set_same (freed cs r n) (room_cell (r + n)) Empty Empty (omega (arith, length-freed cs r n)))

-- numbers in cells
pub length-filled : (cs : List Operand) (at : ℕ) (xs : List ℕ) → length (filled cs at xs) ≡ length cs
unfolding filled
length-filled cs at [] = refl
length-filled cs at (x ∷ xs) = length-filled (set cs at (Number x)) (at + 1) xs ∙ length-set cs at (Number x)

pub filled_other : (cs : List Operand) (at : ℕ) (xs : List ℕ) (i : ℕ) → (i < at) ⊎ (at + length xs ≤ i) → get_or (filled cs at xs) i Empty ≡ get_or cs i Empty
unfolding filled
filled_other cs at [] i o = refl
filled_other cs at (x ∷ xs) i (inl o) = filled_other (set cs at (Number x)) (at + 1) xs i (inl (omega arith)) ∙ get_or-set_other cs at i (Number x) Empty (λ q. omega arith)
filled_other cs at (x ∷ xs) i (inr o) = filled_other (set cs at (Number x)) (at + 1) xs i (inr (omega arith)) ∙ get_or-set_other cs at i (Number x) Empty (λ q. omega arith)

pub up_filled : (cs : List Operand) (at : ℕ) (xs : List ℕ) → at + length xs ≤ length cs → up_from (filled cs at xs) at (length xs) ≡ map Number xs
unfolding filled up_from
up_filled cs at [] w = refl
up_filled cs at (x ∷ xs) w =
    let e : at + 1 ≡ suc at = omega arith in
    let there = filled_other (set cs at (Number x)) (at + 1) xs at (inl (omega arith)) ∙ get_or-set_same cs at (Number x) Empty (omega arith) in
    let rest : up_from (filled (set cs at (Number x)) (at + 1) xs) (suc at) (length xs) ≡ map Number xs =
    subst (λ (k : ℕ). up_from (filled (set cs at (Number x)) (at + 1) xs) k (length xs) ≡ map Number xs) e (up_filled (set cs at (Number x)) (at + 1) xs (omega (arith, length-set cs at (Number x)))) in
    rw there (ap (λ (l : List Operand). Number x ∷ l) rest)

-- Loops: one more number carried, one more head emptied, one more argument put.
pub carried_more : (ks cs ds : List ℕ) (at j : ℕ) {ds' : List ℕ} {x : ℕ} → ds ≡ carried 0 ks cs at j → x ≡ get_or cs (at + j) 0 → ds' ≡ set ds (at + j) x → ds' ≡ carried 0 ks cs at (j + 1)
unfolding carried
carried_more ks cs ds at j p e q = rw (add-one j, ← p, ← e) q

pub freed_more : (cs ds es : List Operand) (r j : ℕ) {o : ℕ} → ds ≡ freed cs r j → o ≡ room_cell (r + j) → es ≡ set ds o Empty → es ≡ freed cs r (j + 1)
unfolding freed
freed_more cs ds es r j p e q = rw (add-one j, ← p, ← e) q

pub filled_more : (cs ds es : List Operand) (at k : ℕ) (xs : List ℕ) {x : ℕ} → k < length xs → x ≡ get_or xs k 0 → filled cs at xs ≡ filled ds (at + k) (drop k xs) → es ≡ set ds (at + k) (Number x) → filled cs at xs ≡ filled es (at + (k + 1)) (drop (k + 1) xs)
unfolding filled
filled_more cs ds es at k xs l e p q =
    let n : at + (k + 1) ≡ at + k + 1 = omega arith in
    p ∙ rw (n, q, e, add-one k, drop-cons xs k 0 l)

pub filled-done : (cs ds : List Operand) (at k : ℕ) (xs : List ℕ) → length xs ≤ k → filled cs at xs ≡ filled ds (at + k) (drop k xs) → ds ≡ filled cs at xs
unfolding filled
filled-done cs ds at k xs l p = sym (p ∙ rw (drop_all xs k l))
  where
    drop_all : (xs : List ℕ) (k : ℕ) → length xs ≤ k → drop k xs ≡ []
    drop_all [] zero l = refl
    drop_all [] (suc k) l = refl
    drop_all (x ∷ xs) zero l = absurd (omega arith)
    drop_all (x ∷ xs) (suc k) l = drop_all xs k (omega arith)

-- numbers carried, two a cell, are cells carried
pub cells_carried : (ns ns₀ : List ℕ) (at k : ℕ) → at + k ≤ length ns / 2 → cells_of (carried 0 ns₀ ns (2 * at) (2 * k)) ≡ carried Empty (cells_of ns₀) (cells_of ns) at k
unfolding carried
cells_carried ns ns₀ at zero a = refl
cells_carried ns ns₀ at (suc k) a =
    let two : 2 * suc k ≡ suc (suc (2 * k)) = omega arith in
    let tag : 2 * at + 2 * k ≡ 2 * (at + k) = omega arith in
    let word : 2 * at + suc (2 * k) ≡ 2 * (at + k) + 1 = omega arith in
    rw (two, tag, word)
    (cells_set (carried 0 ns₀ ns (2 * at) (2 * k)) (at + k) (get_or ns (2 * (at + k)) 0) (get_or ns (2 * (at + k) + 1) 0)
    ∙ rw (cells_carried ns ns₀ at k (omega arith), ← cells_at ns (at + k) (omega arith)))

-- cells that are in both are kept, others are not
module _ (ns ns₀ : List ℕ) (at k : ℕ) where
  pub keeps : {ns' : List ℕ} → 2 * at + 2 * k ≤ length ns → 2 * at + 2 * k ≤ length ns₀ → ns' ≡ carried 0 ns₀ ns (2 * at) (2 * k) → cells_of ns' ≡ kept (cells_of ns₀) (cells_of ns) at k
  unfolding kept
  keeps a b p =
      rw (p, le-leb (at + k) (length (cells_of ns₀)) (omega (arith, cells_length ns₀)), le-leb (at + k) (length (cells_of ns)) (omega (arith, cells_length ns)))
      (cells_carried ns ns₀ at k (omega arith))

  pub keeps_none : length ns < 2 * at + 2 * k → cells_of ns₀ ≡ kept (cells_of ns₀) (cells_of ns) at k
  unfolding kept
  keeps_none l = rw (lt-leb (at + k) (length (cells_of ns)) (omega (arith, cells_length ns))) (go (leb (at + k) (length (cells_of ns₀))))
    where
      go : (b : Bool) → cells_of ns₀ ≡ cond b (cells_of ns₀) (cells_of ns₀)
      go true = refl
      go false = refl

  pub keeps_none_there : length ns₀ < 2 * at + 2 * k → cells_of ns₀ ≡ kept (cells_of ns₀) (cells_of ns) at k
  unfolding kept
  keeps_none_there l = rw (lt-leb (at + k) (length (cells_of ns₀)) (omega (arith, cells_length ns₀)))
