-- Op (document 01; document 02, paper 4): 0 add, 1 subtract the second from the first, 2 equal, 3 less.
use Rattle.std.specs.Prelude.{ℕ, ◌+◌, ◌-◌, ◌^◌, Bool, true, false, cond, List, [], ◌∷◌, eqb, ltb, leb, get_or}

-- numbers have 64 bits: they lie below this one
abbrev pub past_numbers : ℕ
past_numbers = 2 ^ 64

-- the operations
abbrev pub addition : ℕ
addition = 0

abbrev pub subtraction : ℕ
subtraction = 1

abbrev pub is_equal : ℕ
is_equal = 2

abbrev pub is_less : ℕ
is_less = 3

-- 1 or 0
abbrev pub truth : Bool → ℕ
truth true = 1
truth false = 0

-- what an operation gives: a number; none, as the sum would have more than 64 bits, or as the difference would lie below 0; or there is no such operation
pub data Calculated : Type 0 where
  Value : ℕ → Calculated
  TooLarge BelowZero Unknown : Calculated

-- what the operations give, in their order: a sum may be too large, a difference below zero
abbrev pub calculations : ℕ → ℕ → List Calculated
calculations x y =
    cond (ltb (x + y) past_numbers) (Value (x + y)) TooLarge
    ∷ cond (leb y x) (Value (x - y)) BelowZero
    ∷ Value (truth (eqb x y))
    ∷ Value (truth (ltb x y))
    ∷ []

-- what operation op gives
abbrev pub calculation : ℕ → ℕ → ℕ → Calculated
calculation op x y = get_or (calculations x y) op Unknown
