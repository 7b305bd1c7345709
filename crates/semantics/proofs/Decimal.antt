-- Laws of decimals: all digits but the last are those of the number divided by ten.
use Prim.Native.Nat.{ℕ, suc, zero, ◌+◌, ◌*◌, ◌/◌, ◌%◌, ◌^◌, ◌<◌, ◌≤◌}
use mathlib.Core.Path.{◌≡◌, refl, sym, ap, ◌∙◌}
use mathlib.Core.Bool.{Bool, true, false, cond}
use mathlib.Core.List.{List, [], ◌∷◌, ◌++◌}
use native.Mathlib.Nat.{div-add-mod'}
use native.Mathlib.Decide.{dec_lt}
use native.Mathlib.Omega.{arith}
use borrow.Author.Tests.{lt-ltb, le-ltb}
use lib.Dec.{ltb}
use Rattle.semantics.specs.Text.{digits, decimal}
use Rattle.semantics.specs.Told.{Decimal, one-digit, more-digits}

-- the first number with more than k digits
abbrev pub tens : ℕ → ℕ
tens zero = 1
tens (suc k) = 10 * tens k

-- the digits stand before what comes after them
pub digits_append : (k n : ℕ) (xs ys : List ℕ) → digits k n (xs ++ ys) ≡ digits k n xs ++ ys
unfolding digits
digits_append zero n xs ys = refl
digits_append (suc k) n xs ys = go (ltb n 10) (digits_append k (n / 10) ((48 + n % 10) ∷ xs) ys)
  where
    go : (b : Bool) → digits k (n / 10) ((48 + n % 10) ∷ (xs ++ ys)) ≡ digits k (n / 10) ((48 + n % 10) ∷ xs) ++ ys
        → cond b ((48 + n) ∷ (xs ++ ys)) (digits k (n / 10) ((48 + n % 10) ∷ (xs ++ ys))) ≡ cond b ((48 + n) ∷ xs) (digits k (n / 10) ((48 + n % 10) ∷ xs)) ++ ys
    go true e = refl
    go false e = e

-- room for more digits than the number has changes nothing
pub digits_enough : (k m n : ℕ) (after : List ℕ) → k ≤ m → n < tens (suc k) → digits (suc m) n after ≡ digits (suc k) n after
unfolding digits
digits_enough zero m n after l h = rw (lt-ltb n 10 (omega arith))
digits_enough (suc k) zero n after l h = absurd (omega arith)
digits_enough (suc k) (suc m) n after l h = go (dec_lt n 10) (digits_enough k m (n / 10) ((48 + n % 10) ∷ after) (omega arith) (omega (arith, div-add-mod' n 10)))
  where
    go : Dec (n < 10) → digits (suc m) (n / 10) ((48 + n % 10) ∷ after) ≡ digits (suc k) (n / 10) ((48 + n % 10) ∷ after)
        → digits (suc (suc m)) n after ≡ digits (suc (suc k)) n after
    go (yes s) e = rw (lt-ltb _ _ s)
    go (no s) e = rw (le-ltb n 10 (omega arith)) e

-- a single digit
pub decimal_small : (n : ℕ) → n < 10 → decimal n ≡ (48 + n) ∷ []
unfolding decimal digits
decimal_small n h = rw (lt-ltb _ _ h)

-- from 10 on: the digits of the number divided by ten, and after them the last
digits_more : (k n : ℕ) (after : List ℕ) → 10 ≤ n → digits (suc k) n after ≡ digits k (n / 10) ((48 + n % 10) ∷ after)
unfolding digits
digits_more k n after h = rw (le-ltb n 10 h)

-- all digits but the last, and the last
pub decimal_more : (n : ℕ) → 10 ≤ n → n < 2 ^ 64 → decimal n ≡ decimal (n / 10) ++ ((48 + n % 10) ∷ [])
unfolding decimal
decimal_more n h l =
    digits_more 19 n [] h ∙ digits_append 19 (n / 10) [] ((48 + n % 10) ∷ []) ∙ ap (λ (xs : List ℕ). xs ++ ((48 + n % 10) ∷ [])) (sym (digits_enough 18 19 (n / 10) [] (omega arith) (omega arith)))

-- The rule's decimal is the decimal: of a single digit
said_small : (n : ℕ) → n < 10 → Decimal n (decimal n)
said_small n s = rw (decimal_small n s) (one-digit s)

-- of at most k + 1 digits
said-within : (k n : ℕ) → n < tens (suc k) → n < 2 ^ 64 → Decimal n (decimal n)
said-within zero n h l = said_small n (omega arith)
said-within (suc k) n h l = go (dec_lt n 10) (said-within k (n / 10) (omega arith) (omega arith))
  where
    go : Dec (n < 10) → Decimal (n / 10) (decimal (n / 10)) → Decimal n (decimal n)
    go (yes s) t = said_small n s
    go (no s) t = rw (decimal_more n (omega arith) l) (more-digits {m = n} {n = n / 10} {d = n % 10} (omega arith) (omega arith) (omega arith) t)

-- of 64 bits
pub decimal-said : (n : ℕ) → n < 2 ^ 64 → Decimal n (decimal n)
decimal-said n l = said-within 19 n (omega arith) l
