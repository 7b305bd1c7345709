-- The numbers of a packed word are read back.
use Prim.Native.Nat.{ℕ, ◌/◌, ◌%◌, ◌<◌}
use mathlib.Core.Path.{◌≡◌}
use native.Mathlib.Omega.{arith}
use Rattle.state.specs.declared.Reference.TheVariants.{Local, Field, Record as Whole}
use Rattle.state.specs.declared.Operand.TheVariants.{Record, Refer}
use Rattle.state.specs.code.Coding.{packed, Small, values, value_of}

module _ (s m y k : ℕ) (h : Small s m y k) where
  pub first_back : packed s m y k / 4294967296 ≡ s
  first_back = omega arith

  pub second_back : packed s m y k / 16777216 % 256 ≡ m
  second_back = omega arith

  pub third_back : packed s m y k / 65536 % 256 ≡ y
  third_back = omega arith

  pub fourth_back : packed s m y k % 65536 ≡ k
  fourth_back = omega arith

  pub byte_back : k < 256 → packed s m y k % 256 ≡ k
  byte_back l = omega arith

  -- by tag
  pub record_back : value_of 2 (packed s m y k) ≡ Record s m y
  unfolding value_of values
  record_back = rw (first_back, second_back, third_back)

  pub local_back : value_of 3 (packed s m y k) ≡ Refer (Local s m y k)
  unfolding value_of values
  local_back = rw (first_back, second_back, third_back, fourth_back)

  pub field_back : k < 256 → value_of 4 (packed s m y k) ≡ Refer (Field s m y k)
  unfolding value_of values
  field_back l = rw (first_back, second_back, third_back, byte_back l)

  pub whole_back : value_of 5 (packed s m y k) ≡ Refer (Whole s m y)
  unfolding value_of values
  whole_back = rw (first_back, second_back, third_back)
