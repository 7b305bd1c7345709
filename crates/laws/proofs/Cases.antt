-- Going through numbers and lists case by case: the last arm of a `match` on a number, and what holds of each member of a list by its place.
use Prim.Native.Nat.{ℕ, zero, suc, ◌<◌, ◌≤◌}
use mathlib.Core.Path.{◌≡◌}
use mathlib.Core.List.{List, [], ◌∷◌}
use native.Mathlib.Omega.{arith}
use lib.ListN.{length, get_or}

-- a number that is none of 0 to n - 1, as the last arm of a `match` has it
abbrev pub Not : ℕ → ℕ → Type 0
Not x zero = Unit {0}
Not x (suc n) = Not x n × (x ≡ n → ⊥)

pub above : (n x : ℕ) → Not x n → n ≤ x
above zero x h = omega arith
above (suc n) x h = up n x (above n x h.0) h.1
  where
    up : (n x : ℕ) → n ≤ x → (x ≡ n → ⊥) → suc n ≤ x
    up n x a b = omega arith

-- a fact and the facts after it
infixr 5 ◌▸◌
abbrev pub ◌▸◌ : {A B : Type 0} → A → B → A × B
a ▸ b = (a, b)

-- something holds of each member of a list, by its place
abbrev pub Each : {A : Type 0} → (ℕ → A → Type 0) → List A → Type 0
Each P [] = Unit {0}
Each P (x ∷ xs) = P 0 x × Each (λ (i : ℕ). P (suc i)) xs

-- so it holds of the one that is found, and of what is found past the end if it holds of that at every place
pub each : {A : Type 0} (P : ℕ → A → Type 0) (xs : List A) (z : A) → Each P xs → ((i : ℕ) → P i z) → (i : ℕ) → P i (get_or xs i z)
each P [] z a h i = h i
each P (x ∷ xs) z a h zero = a.0
each P (x ∷ xs) z a h (suc i) = each (λ (j : ℕ). P (suc j)) xs z a.1 (λ j. h (suc j)) i

pub each-listed : {A : Type 0} (P : ℕ → A → Type 0) (xs : List A) (z : A) → Each P xs → (i : ℕ) → i < length xs → P i (get_or xs i z)
each-listed P [] z a i h = absurd (omega arith)
each-listed P (x ∷ xs) z a zero h = a.0
each-listed P (x ∷ xs) z a (suc i) h = each-listed (λ (j : ℕ). P (suc j)) xs z a.1 i (omega arith)

-- what holds of each number below n, one after the other, holds of every one
abbrev pub Below : (ℕ → Type 0) → ℕ → Type 0
Below P zero = Unit {0}
Below P (suc n) = P 0 × Below (λ (i : ℕ). P (suc i)) n

pub below_each : (P : ℕ → Type 0) (n : ℕ) → Below P n → (a : ℕ) → a < n → P a
below_each P zero b a h = absurd (omega arith)
below_each P (suc n) b zero h = b.0
below_each P (suc n) b (suc a) h = below_each (λ (i : ℕ). P (suc i)) n b.1 a (omega arith)
