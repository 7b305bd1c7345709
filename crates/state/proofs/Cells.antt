-- Reading and writing the cells of an array.
use Prim.Native.Nat.{ℕ, zero, suc, ◌+◌, ◌*◌, ◌/◌, ◌%◌, ◌<◌, ◌≤◌}
use mathlib.Core.Path.{◌≡◌, refl, sym, ap}
use mathlib.Core.List.{List, [], ◌∷◌}
use mathlib.Core.Bool.{Bool, false, cond}
use native.Mathlib.Omega.{arith}
use native.Mathlib.Decide.{dec_lt}
use native.Mathlib.Numerals.{add-one}
use borrow.Author.Tests.{lt-ltb, le-ltb, ne_eqb}
use lib.Dec.{eqb}
use lib.ListN.{length, get_or, set, get_or-eq_default}
use lib.Seq.{set_out}
use Rattle.state.specs.declared.Reference.{Reference}
use Rattle.state.specs.declared.Operand.{Operand}
use Rattle.state.specs.declared.Operand.TheVariants.{Empty, Number, Refer}
use Rattle.state.specs.code.Coding.{values, value_of, is_number, is_record, number_of, first_of, second_of, third_of}
use Rattle.state.specs.code.Cells.{cells_of, has_tag, word_in, copied, moved, emptied}

-- there are half as many cells as numbers
pub cells_length : (ns : List ℕ) → length (cells_of ns) ≡ length ns / 2
unfolding cells_of
cells_length [] = omega arith
cells_length (t ∷ []) = omega arith
cells_length (t ∷ w ∷ ns) = omega (arith, cells_length ns)

-- where the next cell's numbers are
next-at : (i : ℕ) → 2 * suc i ≡ suc (suc (2 * i))
next-at i = omega arith

next_word : (n : ℕ) → suc (suc n) + 1 ≡ suc (suc (n + 1))
next_word n = omega arith

-- a cell read; a cell written
pub cells_at : (ns : List ℕ) (i : ℕ) → i < length ns / 2 → get_or (cells_of ns) i Empty ≡ value_of (get_or ns (2 * i) 0) (get_or ns (2 * i + 1) 0)
unfolding cells_of
cells_at [] i h = absurd (omega arith)
cells_at (t ∷ []) i h = absurd (omega arith)
cells_at (t ∷ w ∷ ns) zero h = refl
cells_at (t ∷ w ∷ ns) (suc i) h = rw (next-at i, next_word (2 * i)) (cells_at ns i (omega arith))

pub cells_set : (ns : List ℕ) (i t w : ℕ) → cells_of (set (set ns (2 * i) t) (2 * i + 1) w) ≡ set (cells_of ns) i (value_of t w)
unfolding cells_of
cells_set [] i t w = refl
cells_set (a ∷ []) zero t w = refl
cells_set (a ∷ []) (suc i) t w = rw (next-at i, next_word (2 * i))
cells_set (a ∷ b ∷ ns) zero t w = refl
cells_set (a ∷ b ∷ ns) (suc i) t w = rw (next-at i, next_word (2 * i)) (ap (λ (l : List Operand). value_of a b ∷ l) (cells_set ns i t w))

-- a tag alone empties a cell
pub cells_clear : (ns : List ℕ) (i : ℕ) → cells_of (set ns (2 * i) 0) ≡ set (cells_of ns) i Empty
unfolding cells_of value_of values
cells_clear [] i = refl
cells_clear (a ∷ []) zero = refl
cells_clear (a ∷ []) (suc i) = rw (next-at i)
cells_clear (a ∷ b ∷ ns) zero = refl
cells_clear (a ∷ b ∷ ns) (suc i) = rw (next-at i) (ap (λ (l : List Operand). value_of a b ∷ l) (cells_clear ns i))

-- past the end
module _ (ns : List ℕ) (i : ℕ) (h : length ns / 2 ≤ i) where
  cells_short : length (cells_of ns) ≤ i
  cells_short = omega (arith, cells_length ns)

  pub read_out : Empty ≡ get_or (cells_of ns) i Empty
  read_out = sym (get_or-eq_default (cells_of ns) Empty cells_short)

  pub put-out : (x : Operand) → cells_of ns ≡ set (cells_of ns) i x
  put-out x = sym (set_out (cells_of ns) i x cells_short)

  pub copy_none : (o : ℕ) → cells_of ns ≡ copied (cells_of ns) o i
  unfolding copied
  copy_none o = rw (le-ltb i (length (cells_of ns)) cells_short)

-- a cell copied to another
pub cells_copy : (ns ms : List ℕ) (o p : ℕ) → p < length ns / 2 → cells_of ms ≡ set (cells_of ns) o (value_of (get_or ns (2 * p) 0) (get_or ns (2 * p + 1) 0)) → cells_of ms ≡ copied (cells_of ns) o p
unfolding copied
cells_copy ns ms o p h e = rw (lt-ltb p (length (cells_of ns)) (omega (arith, cells_length ns)), cells_at ns p h) e

-- one more cell moved; one more emptied
pub moved_more : (cs ds es : List Operand) (to from j : ℕ) → ds ≡ moved cs to from j → es ≡ copied ds (to + j) (from + j) → es ≡ moved cs to from (j + 1)
unfolding moved
moved_more cs ds es to from j p q = rw (add-one j, ← p) q

pub emptied_more : (cs ds es : List Operand) (at j : ℕ) → ds ≡ emptied cs at j → es ≡ set ds (at + j) Empty → es ≡ emptied cs at (j + 1)
unfolding emptied
emptied_more cs ds es at j p q = rw (add-one j, ← p) q

-- what is read of the operand in a cell is read of the word with that tag
module _ (f : Operand → ℕ) (g : ℕ → ℕ) (k : ℕ) (a : (t w : ℕ) → f (value_of t w) ≡ g (cond (eqb t k) w 0)) (b : f Empty ≡ g 0) (ns : List ℕ) (o : ℕ) where
  read_as : f (get_or (cells_of ns) o Empty) ≡ g (word_in ns o k)
  read_as = go (dec_lt o (length ns / 2))
    where
      go : Dec (o < length ns / 2) → f (get_or (cells_of ns) o Empty) ≡ g (word_in ns o k)
      go (yes h) = rw (lt-ltb o (length ns / 2) h, cells_at ns o h) (a _ _)
      go (no h) = rw (le-ltb o (length ns / 2) (omega arith), ← read_out ns o (omega arith)) b

-- what holds of the tags 0 to 5 and of those above holds of all
by_tag : (P : ℕ → Type 0) → P 0 → P 1 → P 2 → P 3 → P 4 → P 5 → ((t : ℕ) → 6 ≤ t → P t) → (t : ℕ) → P t
by_tag P a b c d e f g zero = a
by_tag P a b c d e f g (suc zero) = b
by_tag P a b c d e f g (suc (suc zero)) = c
by_tag P a b c d e f g (suc (suc (suc zero))) = d
by_tag P a b c d e f g (suc (suc (suc (suc zero)))) = e
by_tag P a b c d e f g (suc (suc (suc (suc (suc zero))))) = f
by_tag P a b c d e f g (suc (suc (suc (suc (suc (suc t)))))) = g _ (omega arith)

-- a tag above 5 stands for nothing
above_five : (t w : ℕ) → 6 ≤ t → value_of t w ≡ Empty
unfolding value_of values
above_five t w h = get_or-eq_default (values w) Empty h

-- whether a number is in a cell, and whether a record is
module _ (f : Operand → Bool) (k : ℕ) (a : (t w : ℕ) → f (value_of t w) ≡ eqb t k) (b : f Empty ≡ false) (ns : List ℕ) (o : ℕ) where
  told_as : f (get_or (cells_of ns) o Empty) ≡ has_tag ns o k
  told_as = go (dec_lt o (length ns / 2))
    where
      go : Dec (o < length ns / 2) → f (get_or (cells_of ns) o Empty) ≡ has_tag ns o k
      go (yes h) = rw (lt-ltb o (length ns / 2) h, cells_at ns o h) (a _ _)
      go (no h) = rw (le-ltb o (length ns / 2) (omega arith), ← read_out ns o (omega arith)) b

pub number-told : (ns : List ℕ) (o : ℕ) → is_number (get_or (cells_of ns) o Empty) ≡ has_tag ns o 1
unfolding value_of values
number-told = told_as is_number 1 (λ t w. by_tag (λ (t : ℕ). is_number (value_of t w) ≡ eqb t 1) refl refl refl refl refl refl (λ t h. rw (above_five t w h, ne_eqb t 1 (omega arith))) t) refl

pub record_told : (ns : List ℕ) (o : ℕ) → is_record (get_or (cells_of ns) o Empty) ≡ has_tag ns o 2
unfolding value_of values
record_told = told_as is_record 2 (λ t w. by_tag (λ (t : ℕ). is_record (value_of t w) ≡ eqb t 2) refl refl refl refl refl refl (λ t h. rw (above_five t w h, ne_eqb t 2 (omega arith))) t) refl

-- the number in a cell; the numbers of the record in it
pub number-in : (ns : List ℕ) (o : ℕ) → number_of (get_or (cells_of ns) o Empty) ≡ word_in ns o 1
unfolding value_of values
number-in = read_as number_of (λ w. w) 1 (λ t w. by_tag (λ (t : ℕ). number_of (value_of t w) ≡ cond (eqb t 1) w 0) refl refl refl refl refl refl (λ t h. rw (above_five t w h, ne_eqb t 1 (omega arith))) t) refl

record_in : (f : Operand → ℕ) (g : ℕ → ℕ) → f Empty ≡ g 0 → ((n : ℕ) → f (Number n) ≡ g 0) → ((r : Reference) → f (Refer r) ≡ g 0)
    → ((w : ℕ) → f (value_of 2 w) ≡ g w) → (ns : List ℕ) (o : ℕ) → f (get_or (cells_of ns) o Empty) ≡ g (word_in ns o 2)
unfolding value_of values
record_in f g e n r h = read_as f g 2 (λ t w. by_tag (λ (t : ℕ). f (value_of t w) ≡ g (cond (eqb t 2) w 0)) e (n _) (h w) (r _) (r _) (r _) (λ t l. rw (above_five t w l, ne_eqb t 2 (omega arith)) e) t) e

pub first_in : (ns : List ℕ) (o : ℕ) → first_of (get_or (cells_of ns) o Empty) ≡ word_in ns o 2 / 4294967296
unfolding value_of values
first_in = record_in first_of (λ w. w / 4294967296) refl (λ n. refl) (λ r. refl) (λ w. refl)

pub second_in : (ns : List ℕ) (o : ℕ) → second_of (get_or (cells_of ns) o Empty) ≡ word_in ns o 2 / 16777216 % 256
unfolding value_of values
second_in = record_in second_of (λ w. w / 16777216 % 256) refl (λ n. refl) (λ r. refl) (λ w. refl)

pub third_in : (ns : List ℕ) (o : ℕ) → third_of (get_or (cells_of ns) o Empty) ≡ word_in ns o 2 / 65536 % 256
unfolding value_of values
third_in = record_in third_of (λ w. w / 65536 % 256) refl (λ n. refl) (λ r. refl) (λ w. refl)
