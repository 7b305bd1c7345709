-- Laws of a list that is filled part by part, each of w elements.
use Prim.Native.Nat.{ℕ, ◌+◌, ◌-◌, ◌*◌, ◌<◌, ◌≤◌}
use mathlib.Core.Path.{◌≡◌, sym, ap, ◌∙◌}
use mathlib.Core.List.{List}
use native.Mathlib.Nat.{mul-le-mul_left, mul-add, mul-one}
use native.Mathlib.Decide.{ℕ_discrete}
use native.Mathlib.Omega.{arith}
use lib.ListN.{length, get_or, take, drop, length-take, length-drop}
use lib.Seq.{take-take, take-add, take_at, drop_at, length-take-le, get_or-take, get_or-drop}
use borrow.Rule.Slice.PartMut.{put_mid, take_put, same_len_mid}

-- part l lies before part m, and within a list with room for m parts
pub part_fits : (w l m : ℕ) → l < m → w * l + w ≤ w * m
part_fits w l m h =
    let s : l + 1 ≤ m = omega arith in
    omega (arith, mul-le-mul_left w s, mul-add w l 1, mul-one w)

pub length_part : {A : Type 0} (a w : ℕ) (xs : List A) → a + w ≤ length xs → length (take (a + w - a) (drop a xs)) ≡ w
length_part a w xs h = simp (length-take, length-drop) (omega arith)

-- what is before place a tells of the parts before it
part_cut : {A : Type 0} (b w a : ℕ) (xs : List A) → b + w ≤ a → a ≤ length xs → take w (drop b xs) ≡ drop b (take (b + w) (take a xs))
part_cut b w a xs h l = sym (rw (take-take (b + w) a xs h, take-add b w xs) (drop_at (take b xs) (take w (drop b xs)) b (length-take-le b xs (omega arith))))

-- one part more
pub parts_next :
    {A : Type 0} (f : ℕ → List A) (w l : ℕ) (xs ys : List A)
    → w * l + w ≤ length xs
    → length ys ≡ w
    → ys ≡ f l
    → ((m : ℕ) → m < l → take w (drop (w * m) xs) ≡ f m)
    → (m : ℕ) → m < l + 1 → take w (drop (w * m) (put_mid (w * l) (w * l + w - w * l) xs ys)) ≡ f m
parts_next {A} f w l xs ys fits size e parts m h = go (ℕ_discrete m l)
  where
    filled : List A
    filled = put_mid (w * l) (w * l + w - w * l) xs ys

    same : length filled ≡ length xs
    same = same_len_mid (w * l) (w * l + w - w * l) xs ys (size ∙ sym (length_part (w * l) w xs fits))

    go : Dec (m ≡ l) → take w (drop (w * m) filled) ≡ f m
    go (yes q) = rw q (ap (take w) (drop_at (take (w * l) xs) _ (w * l) (length-take-le (w * l) xs (omega arith))) ∙ take_at ys _ w size ∙ e)
    go (no q) =
        let z = part_fits w m l (omega arith) in
        part_cut (w * m) w (w * l) filled z (omega (arith, same))
        ∙ ap (λ (x : List A). drop (w * m) (take (w * m + w) x)) (take_put (w * l) (w * l + w - w * l) xs ys (omega arith))
        ∙ sym (part_cut (w * m) w (w * l) xs z (omega arith)) ∙ parts m (omega arith)

-- an element of a part
pub part_at : {A : Type 0} (w b : ℕ) (xs ys : List A) (k : ℕ) (d : A) → k < w → take w (drop b xs) ≡ ys → get_or xs (b + k) d ≡ get_or ys k d
part_at {A} w b xs ys k d h e = sym (get_or-take w (drop b xs) k d h ∙ get_or-drop b xs k d) ∙ ap (λ (x : List A). get_or x k d) e
