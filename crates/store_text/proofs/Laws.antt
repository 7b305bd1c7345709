-- The text of the store, in the order in which its parts are put.
use Prim.Native.Nat.{ℕ, zero, suc, ◌+◌, ◌-◌, ◌<◌, ◌≤◌}
use mathlib.Core.Path.{◌≡◌, refl, sym, ap, ◌∙◌}
use mathlib.Core.Bool.{Bool, true, false, cond}
use mathlib.Core.List.{List, [], ◌∷◌, ◌++◌, map, append_assoc, append-nil}
use mathlib.Core.Option.{Option, none, some}
use native.Mathlib.Numerals.{unary_clauses, add-one}
use native.Mathlib.Omega.{arith}
use lib.Dec.{eqb}
use Rattle.std.proofs.lemmas.List.{map-append}
use lib.ListN.{length, get_or, take, get_elem? as nth}
use lib.Seq.{take-suc}
use Rattle.table.specs.Format.{max_types}
use Rattle.semantics.specs.Ascii.{ascii}
use Rattle.semantics.specs.Text.{decimal, spaced}
use Rattle.state.specs.declared.Operand.{Operand}
use Rattle.state.specs.declared.Operand.TheVariants.{Empty, Number, Record, Refer}
use Rattle.state.specs.code.Coding.{number_of, first_of, second_of, third_of}
use Rattle.state.specs.code.Layout.{entry_cell, room_cell}
use Rattle.state.specs.code.Rooms.{is_live}
use Rattle.machine.specs.code.Machine.{MRoom, mroom, MEntry, room_of}
use Rattle.machine.specs.code.Lists.{mvalues, fields_of_room, mfields, mentry_line, mentry_lines}
use Rattle.machine.specs.code.Views.{up_from, room_by, room_in, rooms_in, entry_in}
use Rattle.machine.proofs.Views.{up_append}
use Rattle.machine.proofs.Memory.{head_in, room_at, room_past}
use Rattle.text.specs.declared.Writer.{Writer}
use Rattle.text.specs.code.Placing.{Puts}
use Rattle.text.proofs.Placing.{puts_more, puts_same}

-- the values of two lists
values_append : (f : ℕ → ℕ → List ℕ) (xs ys : List Operand) → mvalues f (xs ++ ys) ≡ mvalues f xs ++ mvalues f ys
values_append f [] ys = refl
values_append f (Empty ∷ xs) ys = values_append f xs ys
values_append f (Number n ∷ xs) ys = rw (values_append f xs ys) (sym (append_assoc (spaced (decimal n)) (mvalues f xs) (mvalues f ys)))
values_append f (Record s r y ∷ xs) ys = rw (values_append f xs ys) (sym (append_assoc (spaced (ascii "(" ++ decimal y ++ f s r ++ ascii ")")) (mvalues f xs) (mvalues f ys)))
values_append f (Refer r ∷ xs) ys = values_append f xs ys

-- the values of the first j cells from b on: none, and one more
pub values-none : (f : ℕ → ℕ → List ℕ) (cs : List Operand) (b : ℕ) → [] ≡ mvalues f (up_from cs b 0)
unfolding up_from
values-none f cs b = refl

pub values_more : (f : ℕ → ℕ → List ℕ) (cs : List Operand) (b j : ℕ) → mvalues f (up_from cs b j) ++ mvalues f (get_or cs (b + j) Empty ∷ []) ≡ mvalues f (up_from cs b (j + 1))
unfolding up_from
values_more f cs b j = sym (values_append f (up_from cs b j) (get_or cs (b + j) Empty ∷ [])) ∙ ap (mvalues f) (sym (up_append cs b j 1))

-- a nested record, part by part
pub record_value : (f : ℕ → ℕ → List ℕ) (a m y : ℕ) {w v u z : Writer} → Puts w (spaced (ascii "(" ++ decimal y)) v → Puts v (f a m) u → Puts u (ascii ")") z → Puts w (mvalues f (Record a m y ∷ [])) z
record_value f a m y p q r = puts_same (simp (append_assoc, append-nil)) (puts_more (puts_more p q) r)

-- the fields of a record: none at depth 0, past the last room, and where it is not in its room
module _ (cs : List Operand) (d s r : ℕ) where
  fields_live : r < 128 → fields_of_room (room_of (nth (rooms_in cs) r) s) ≡ cond (is_live (head_in cs r) s) (up_from cs (room_cell r + 1) (second_of (head_in cs r))) []
  unfolding room_in
  fields_live l = rw (room_at cs r l) (go (head_in cs r))
    where
      here : (b : Bool) (s y : ℕ) (xs : List Operand) → fields_of_room (cond b (some (mroom s y xs)) none) ≡ cond b xs []
      here true s y xs = refl
      here false s y xs = refl

      go : (h : Operand) → fields_of_room (room_of (some (room_by cs r h)) s) ≡ cond (is_live h s) (up_from cs (room_cell r + 1) (second_of h)) []
      go Empty = refl
      go (Number n) = refl
      go (Record a k y) = here (eqb a s) a y (up_from cs (room_cell r + 1) k)
      go (Refer x) = refl

  pub fields-none : d ≡ 0 → [] ≡ mfields d (rooms_in cs) s r
  unfolding mfields
  fields-none e = rw e

  pub fields_past : 128 ≤ r → [] ≡ mfields d (rooms_in cs) s r
  unfolding mfields
  fields_past l = go d
    where
      go : (n : ℕ) → [] ≡ mfields n (rooms_in cs) s r
      go zero = refl
      go (suc n) = rw (room_past cs r l)

  pub fields_other : r < 128 → is_live (head_in cs r) s ≡ false → [] ≡ mfields d (rooms_in cs) s r
  unfolding mfields
  fields_other l e = go d
    where
      go : (n : ℕ) → [] ≡ mfields n (rooms_in cs) s r
      go zero = refl
      go (suc n) = rw (fields_live l, e)

  -- those of the record in the room
  pub fields-held : 0 < d → r < 128 → is_live (head_in cs r) s ≡ true → mvalues (mfields (d - 1) (rooms_in cs)) (up_from cs (room_cell r + 1) (second_of (head_in cs r))) ≡ mfields d (rooms_in cs) s r
  unfolding mfields
  fields-held p l e = go d p
    where
      go : (n : ℕ) → 0 < n → mvalues (mfields (n - 1) (rooms_in cs)) (up_from cs (room_cell r + 1) (second_of (head_in cs r))) ≡ mfields n (rooms_in cs) s r
      go zero q = absurd (omega arith)
      go (suc n) q = rw (fields_live l, e) (simp unary_clauses)

-- the line of entry i, part by part
pub entry-line : (cs : List Operand) (i : ℕ) {o y a b m : ℕ} {w w₁ w₂ w₃ w₄ w₅ : Writer}
    → o ≡ entry_cell i → y ≡ third_of (get_or cs (o + 1) Empty) → a ≡ number_of (get_or cs o Empty) → b ≡ first_of (get_or cs (o + 1) Empty) → m ≡ second_of (get_or cs (o + 1) Empty)
    → Puts w (ascii "store") w₁ → Puts w₁ (spaced (decimal y)) w₂ → Puts w₂ (spaced (decimal a)) w₃ → Puts w₃ (mfields max_types (rooms_in cs) b m) w₄ → Puts w₄ (ascii "\n") w₅
    → Puts w (mentry_line (rooms_in cs) (entry_in cs i)) w₅
unfolding mentry_line
entry-line cs i o_is y-is a-is b_is m-is p₁ p₂ p₃ p₄ p₅ =
    rw (← o_is, ← y-is, ← a-is, ← b_is, ← m-is) (puts_more (puts_more (puts_more (puts_more p₁ p₂) p₃) p₄) p₅)

-- the lines of the first i entries: one more
lines_append : (rooms : List (Option MRoom)) (es fs : List MEntry) → mentry_lines rooms (es ++ fs) ≡ mentry_lines rooms es ++ mentry_lines rooms fs
unfolding mentry_lines
lines_append rooms [] fs = refl
lines_append rooms (e ∷ es) fs = rw (lines_append rooms es fs) (sym (append_assoc (mentry_line rooms e) (mentry_lines rooms es) (mentry_lines rooms fs)))

pub lines_more : (rooms : List (Option MRoom)) (cs : List Operand) (numbers : List ℕ) (i : ℕ) → i < length numbers
    → mentry_lines rooms (map (entry_in cs) (take i numbers)) ++ mentry_line rooms (entry_in cs (get_or numbers i 0)) ≡ mentry_lines rooms (map (entry_in cs) (take (i + 1) numbers))
unfolding mentry_lines
lines_more rooms cs numbers i l =
    rw (add-one i, take-suc numbers i 0 l, map-append (entry_in cs) (take i numbers) (get_or numbers i 0 ∷ []), lines_append rooms (map (entry_in cs) (take i numbers)) (entry_in cs (get_or numbers i 0) ∷ []))
    (ap (λ (xs : List ℕ). mentry_lines rooms (map (entry_in cs) (take i numbers)) ++ xs) (sym (append-nil _)))

-- no line
pub lines-none : (rooms : List (Option MRoom)) → [] ≡ mentry_lines rooms []
unfolding mentry_lines
lines-none rooms = refl
