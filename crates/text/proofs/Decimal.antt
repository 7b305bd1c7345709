-- std's decimal of a number is the rule's.
use Prim.Native.Nat.{ℕ, zero, suc, ◌+◌, ◌/◌, ◌%◌, ◌^◌, ◌<◌}
use mathlib.Core.Path.{◌≡◌, refl, ◌∙◌}
use mathlib.Core.Bool.{false}
use mathlib.Core.List.{List, [], ◌∷◌}
use native.Mathlib.Decide.{dec_lt}
use native.Mathlib.Omega.{arith}
use borrow.Author.Tests.{lt-ltb, le-ltb, ne_eqb}
use Rattle.std.specs.Fmt
use Rattle.std.specs.Fmt.{digits_onto}
use Rattle.semantics.specs.Text.{digits, decimal}
use Rattle.semantics.proofs.Decimal.{digits_enough}

-- digit by digit
same_digits : (k n : ℕ) (after : List ℕ) → digits_onto k 10 false n after ≡ digits k n after
unfolding digits
same_digits zero n after = refl
same_digits (suc k) n after = go (dec_lt n 10) (same_digits k (n / 10) ((48 + n % 10) ∷ after))
  where
    go : Dec (n < 10) → digits_onto k 10 false (n / 10) ((48 + n % 10) ∷ after) ≡ digits k (n / 10) ((48 + n % 10) ∷ after) → digits_onto (suc k) 10 false n after ≡ digits (suc k) n after
    go (yes h) e =
        let q : n / 10 ≡ 0 = omega arith in
        let r : n % 10 ≡ n = omega arith in
        simp (q, r, lt-ltb n 10 h)
    go (no h) e =
        let l : n % 10 < 10 = omega arith in
        let q : n / 10 ≡ 0 → ⊥ = omega arith in
        simp (le-ltb n 10 (omega arith), ne_eqb _ _ q, lt-ltb _ _ l) e

pub same_decimal : (n : ℕ) → n < 2 ^ 64 → Fmt.decimal n ≡ decimal n
unfolding decimal Fmt.digits
same_decimal n h = same_digits 64 n [] ∙ digits_enough 19 63 n [] (omega arith) (omega arith)
