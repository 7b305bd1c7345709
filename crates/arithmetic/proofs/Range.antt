-- What each operation gives, in plain words, and that a number that is given has 64 bits.
use Prim.Native.Nat.{ℕ, zero, suc, ◌+◌, ◌-◌, ◌<◌, ◌≤◌}
use mathlib.Core.Path.{◌≡◌, refl}
use mathlib.Core.Bool.{Bool, true, false, cond}
use mathlib.Core.Logic.{◌↔◌, ◌⊎◌, inl, inr, ⊎_elim, ◌≢◌}
use native.Mathlib.Omega.{arith}
use borrow.Author.Tests.{ltb-true, ltb-false, leb-true, leb-false, eqb-true, eqb-false, lt-ltb, le-ltb, le-leb, lt-leb, eq-eqb, ne_eqb}
use lib.Dec.{eqb, ltb, leb}
use lib.ListN.{get_or-eq_default}
use Rattle.arithmetic.specs.Arithmetic.{Calculated, Value, TooLarge, BelowZero, Unknown, past_numbers, addition, subtraction, is_equal, is_less, truth, calculations, calculation}

clash : ◌≡◌ {A = ℕ} 0 1 → ⊥
clash e = omega arith

-- a number that is given if a test holds, and something else if not
given : (n : ℕ) (b : Bool) {v : ℕ} {c : Calculated} → (c ≡ Value v → ⊥) → cond b (Value n) c ≡ Value v → (b ≡ true) × (n ≡ v)
given n true f e = (refl, cc)
given n false f e = absurd (f e)

not-given : (n : ℕ) (b : Bool) {c d : Calculated} → (Value n ≡ d → ⊥) → cond b (Value n) c ≡ d → (b ≡ false) × (c ≡ d)
not-given n true f e = absurd (f e)
not-given n false f e = (refl, e)

-- Op 0 gives the sum, where it has 64 bits
pub sum : (x y z : ℕ) → (calculation addition x y ≡ Value z) ↔ ((x + y ≡ z) × (x + y < past_numbers))
sum x y z = ((λ e. let g = given (x + y) (ltb (x + y) past_numbers) (λ q. clash (cc)) e in (g.1, ltb-true (x + y) past_numbers g.0)), λ h. rw (lt-ltb (x + y) past_numbers h.1, h.0) refl)

-- Op 1 gives the difference, where there is one
pub difference : (x y z : ℕ) → (calculation subtraction x y ≡ Value z) ↔ (z + y ≡ x)
difference x y z = ((λ e. let g = given (x - y) (leb y x) (λ q. clash (cc)) e in omega (arith, leb-true y x g.0, g.1)), λ h. let d : x - y ≡ z = omega arith in rw (le-leb y x (omega (arith, h)), d) refl)

-- Op 2 and Op 3 always give 1 or 0
told : (b : Bool) (z : ℕ) → (Value (truth b) ≡ Value z) ↔ (((b ≡ true) × (z ≡ 1)) ⊎ ((b ≡ false) × (z ≡ 0)))
told true z = ((λ e. inl (refl, cc)), ⊎_elim (λ h. rw h.1 refl) (λ h. absurd (clash (cc h.0))))
told false z = ((λ e. inr (refl, cc)), ⊎_elim (λ h. absurd (clash (cc h.0))) (λ h. rw h.1 refl))

pub equal : (x y z : ℕ) → (calculation is_equal x y ≡ Value z) ↔ (((x ≡ y) × (z ≡ 1)) ⊎ ((x ≢ y) × (z ≡ 0)))
equal x y z = (
  (λ e. ⊎_elim (λ h. inl (eqb-true x y h.0, h.1)) (λ h. inr (eqb-false x y h.0, h.1)) ((told (eqb x y) z).0 e)),
  (λ h. (told (eqb x y) z).1 (⊎_elim (λ q. inl (eq-eqb x y q.0, q.1)) (λ q. inr (ne_eqb x y q.0, q.1)) h)),
)

pub less : (x y z : ℕ) → (calculation is_less x y ≡ Value z) ↔ (((x < y) × (z ≡ 1)) ⊎ ((y ≤ x) × (z ≡ 0)))
less x y z = (
  (λ e. ⊎_elim (λ h. inl (ltb-true x y h.0, h.1)) (λ h. inr (ltb-false x y h.0, h.1)) ((told (ltb x y) z).0 e)),
  (λ h. (told (ltb x y) z).1 (⊎_elim (λ q. inl (lt-ltb x y q.0, q.1)) (λ q. inr (le-ltb x y q.0, q.1)) h)),
)

-- Too large is a sum of more than 64 bits and nothing else
pub too_large : (op x y : ℕ) → (calculation op x y ≡ TooLarge) ↔ ((op ≡ addition) × (past_numbers ≤ x + y))
too_large op x y = (only op, λ h. rw (h.0, le-ltb (x + y) past_numbers h.1) refl)
  where
    only : (op : ℕ) → calculation op x y ≡ TooLarge → (op ≡ addition) × (past_numbers ≤ x + y)
    only zero e = (refl, ltb-false (x + y) past_numbers (not-given (x + y) (ltb (x + y) past_numbers) (λ q. clash (cc)) e).0)
    only (suc zero) e = absurd (clash (cc (not-given (x - y) (leb y x) (λ q. clash (cc)) e).1))
    only (suc (suc zero)) e = absurd (clash (cc))
    only (suc (suc (suc zero))) e = absurd (clash (cc))
    only (suc (suc (suc (suc op)))) e = absurd (clash (cc))

-- below zero is a difference whose second number is above the first, and nothing else
pub below-zero : (op x y : ℕ) → (calculation op x y ≡ BelowZero) ↔ ((op ≡ subtraction) × (x < y))
below-zero op x y = (only op, λ h. rw (h.0, lt-leb y x h.1) refl)
  where
    only : (op : ℕ) → calculation op x y ≡ BelowZero → (op ≡ subtraction) × (x < y)
    only zero e = absurd (clash (cc (not-given (x + y) (ltb (x + y) past_numbers) (λ q. clash (cc)) e).1))
    only (suc zero) e = (refl, leb-false y x (not-given (x - y) (leb y x) (λ q. clash (cc)) e).0)
    only (suc (suc zero)) e = absurd (clash (cc))
    only (suc (suc (suc zero))) e = absurd (clash (cc))
    only (suc (suc (suc (suc op)))) e = absurd (clash (cc))

-- there are these four operations
pub four : (op x y : ℕ) → (calculation op x y ≡ Unknown) ↔ (4 ≤ op)
four op x y = (least op, λ h. get_or-eq_default (calculations x y) Unknown h)
  where
    least : (op : ℕ) → calculation op x y ≡ Unknown → 4 ≤ op
    least zero e = absurd (clash (cc (not-given (x + y) (ltb (x + y) past_numbers) (λ q. clash (cc)) e).1))
    least (suc zero) e = absurd (clash (cc (not-given (x - y) (leb y x) (λ q. clash (cc)) e).1))
    least (suc (suc zero)) e = absurd (clash (cc))
    least (suc (suc (suc zero))) e = absurd (clash (cc))
    least (suc (suc (suc (suc op)))) e = omega arith

-- of numbers of 64 bits an operation gives one
pub word : (op x y : ℕ) {v : ℕ} → x < past_numbers → calculation op x y ≡ Value v → v < past_numbers
word zero x y {v} w e = let g = (sum x y v).0 e in omega (arith, g.0, g.1)
word (suc zero) x y {v} w e = omega (arith, (difference x y v).0 e)
word (suc (suc zero)) x y {v} w e = ⊎_elim (λ h. omega (arith, h.1)) (λ h. omega (arith, h.1)) ((equal x y v).0 e)
word (suc (suc (suc zero))) x y {v} w e = ⊎_elim (λ h. omega (arith, h.1)) (λ h. omega (arith, h.1)) ((less x y v).0 e)
word (suc (suc (suc (suc op)))) x y w e = absurd (clash (cc))
