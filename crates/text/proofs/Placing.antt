-- Laws of placing: where there is room, what the buffer is afterwards; one list of bytes after another; the buffer's length.
use Prim.Native.Nat.{ℕ, ◌+◌, ◌<◌, ◌≤◌}
use mathlib.Core.Path.{◌≡◌, refl, sym, ◌∙◌}
use mathlib.Core.Bool.{Bool, true, false, cond}
use mathlib.Core.List.{List, [], ◌∷◌, ◌++◌, append_assoc}
use native.Mathlib.Nat.{add-zero}
use native.Mathlib.Numerals.{add-one}
use native.Mathlib.Decide.{dec_lt}
use native.Mathlib.Omega.{arith}
use borrow.Author.Tests.{lt-ltb, le-ltb}
use lib.Dec.{ltb}
use lib.ListN.{length, get_or, set, take, drop, length-set, take-append-drop}
use lib.Seq.{take-suc, take-suc-set, drop-set-lt}
use Rattle.text.specs.declared.Writer.{Writer}
use Rattle.text.specs.code.Placing.{Placed, placed, Puts}

-- no room: nothing changes
pub placed-full : (s : List ℕ) (at : ℕ) (bs : List ℕ) → length s ≤ at → placed s at bs ≡ record { buffer = s; end = at }
unfolding placed
placed-full s at [] h = refl
placed-full s at (b ∷ bs) h = rw (le-ltb _ _ h)

-- the length of the buffer stays
pub placed-length : (s : List ℕ) (at : ℕ) (bs : List ℕ) → length (placed s at bs).buffer ≡ length s
unfolding placed
placed-length s at [] = refl
placed-length s at (b ∷ bs) = go (ltb at (length s)) (placed-length (set s at b) (at + 1) bs)
  where
    go : (c : Bool) → length (placed (set s at b) (at + 1) bs).buffer ≡ length (set s at b)
        → length (cond c (placed (set s at b) (at + 1) bs) (record { buffer = s; end = at })).buffer ≡ length s
    go true e = e ∙ length-set s at b
    go false e = refl

-- xs and then ys: xs, and ys from its end
pub placed_append : (s : List ℕ) (at : ℕ) (xs ys : List ℕ) → placed s at (xs ++ ys) ≡ placed (placed s at xs).buffer (placed s at xs).end ys
unfolding placed
placed_append s at [] ys = refl
placed_append s at (b ∷ xs) ys = go (dec_lt at (length s)) (placed_append (set s at b) (at + 1) xs ys)
  where
    next : Placed
    next = placed (set s at b) (at + 1) xs

    go : Dec (at < length s) → placed (set s at b) (at + 1) (xs ++ ys) ≡ placed next.buffer next.end ys
        → placed s at ((b ∷ xs) ++ ys) ≡ placed (placed s at (b ∷ xs)).buffer (placed s at (b ∷ xs)).end ys
    go (yes h) e = rw (lt-ltb _ _ h) e
    go (no h) e = rw (le-ltb at (length s) (omega arith)) (sym (placed-full s at ys (omega arith)))

-- with room enough the bytes stand in the buffer, what is before and after them stays, and the end is after the last
pub placed_fits : (s : List ℕ) (at : ℕ) (bs : List ℕ) → at + length bs ≤ length s
    → ((placed s at bs).buffer ≡ take at s ++ (bs ++ drop (at + length bs) s)) × ((placed s at bs).end ≡ at + length bs)
unfolding placed
placed_fits s at [] h = rw add-zero (sym (take-append-drop at s), refl)
placed_fits s at (b ∷ bs) h =
    let l : at < length s = omega arith in
    let m : at + 1 + length bs ≡ at + length (b ∷ bs) = omega arith in
    let ih = placed_fits (set s at b) (at + 1) bs (rw length-set (omega arith)) in
    rw (lt-ltb _ _ l) (ih.0 ∙ split l m, ih.1 ∙ m)
  where
    split : at < length s → at + 1 + length bs ≡ at + length (b ∷ bs)
        → take (at + 1) (set s at b) ++ (bs ++ drop (at + 1 + length bs) (set s at b)) ≡ take at s ++ ((b ∷ bs) ++ drop (at + length (b ∷ bs)) s)
    split l m = rw (drop-set-lt (at + 1 + length bs) s at b (omega arith), m, add-one, take-suc-set s at b l) (simp append_assoc)

-- nothing is put
pub puts_none : (w : Writer) → Puts w [] w
unfolding placed
puts_none w = record { same_reference = refl; text = refl; end = refl }

-- xs are put, and then ys
pub puts_more : {w v u : Writer} {xs ys : List ℕ} → Puts w xs v → Puts v ys u → Puts w (xs ++ ys) u
puts_more {w} {v} {u} {xs} {ys} p q =
    let e = placed_append w.text.now w.end xs ys in
    record { same_reference = q.same_reference ∙ p.same_reference; text = rw (e, ← p.text, ← p.end) q.text; end = rw (e, ← p.text, ← p.end) q.end }

-- the same bytes in other words
pub puts_same : {w u : Writer} {xs ys : List ℕ} → xs ≡ ys → Puts w xs u → Puts w ys u
puts_same q p = rw (← q) p

-- the bytes of a word one after the other: one more
pub puts_next : (word : List ℕ) (i : ℕ) {w v u : Writer} → i < length word → Puts w (take i word) v → Puts v (get_or word i 0 ∷ []) u → Puts w (take (i + 1) word) u
puts_next word i h p q = rw (add-one, take-suc word i 0 h) (puts_more p q)
