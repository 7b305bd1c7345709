-- The number at the front of what a reader has left.
use Rattle.std.proofs.Common.{◌≡◌, ℕ, ◌≤◌, List, [], ◌∷◌, Option, None, Some, IfSome, IsTrue, Bool, ◌↔◌, refl, ap, ◌∙◌, arith, tests, length, take}
use Rattle.laws.specs.Numbers.{le}
use Rattle.printing.specs.Parts.{first_number}

-- a number is that of its four bytes
le-take : (xs : List ℕ) → 4 ≤ length xs → le (take 4 xs) 0 4 ≡ le xs 0 4
unfolding le
le-take [] h = omega arith
le-take (a ∷ []) h = omega arith
le-take (a ∷ b ∷ []) h = omega arith
le-take (a ∷ b ∷ c ∷ []) h = omega arith
le-take (a ∷ b ∷ c ∷ d ∷ rest) h = refl

-- the number of the first four bytes is the first, where there are four
pub first_number-read : (a : Option (List ℕ)) (head : List ℕ) (k n : ℕ) (is_whole : Bool) → k ≡ 4 → IfSome a (λ xs. IsTrue is_whole ↔ (k ≤ length xs)) → IsTrue is_whole
    → IfSome a (λ xs. head ≡ take k xs) → n ≡ le head 0 4 → IfSome a (λ xs. Some n ≡ first_number xs)
first_number-read None head k n is_whole four whole holds bytes e = tt
first_number-read (Some xs) head k n is_whole four whole holds bytes e =
    let long : 4 ≤ length xs = omega (arith, four, whole.0 holds) in
    let value : n ≡ le xs 0 4 = e ∙ ap (λ l. le l 0 4) (bytes ∙ ap (λ m. take m xs) four) ∙ le-take xs long in
    grind (arith, tests)
