-- An operand as a tag and a word: a number is its word; the parts of a record or a reference stand in a word of 32, 8, 8 and 16 bits.
use Rattle.std.specs.Prelude.{ℕ, ◌+◌, ◌*◌, ◌/◌, ◌%◌, ◌<◌, Bool, true, false, List, [], ◌∷◌, get_or}
use Rattle.state.specs.declared.Reference.TheVariants.{Local, Field, Record as Whole}
use Rattle.state.specs.declared.Operand.{Operand}
use Rattle.state.specs.declared.Operand.TheVariants.{Empty, Number, Record, Refer}

-- four numbers in a word
abbrev pub packed : ℕ → ℕ → ℕ → ℕ → ℕ
packed s m y k = 4294967296 * s + 16777216 * m + 65536 * y + k

-- what numbers fit their parts of a word
pub record Small (s m y k : ℕ) : Type 0 where
  pub first : s < 4294967296
  pub second : m < 256
  pub third : y < 256
  pub fourth : k < 65536

-- by tag
unfoldable pub values : ℕ → List Operand
values w =
    Empty
    ∷ Number w
    ∷ Record (w / 4294967296) (w / 16777216 % 256) (w / 65536 % 256)
    ∷ Refer (Local (w / 4294967296) (w / 16777216 % 256) (w / 65536 % 256) (w % 65536))
    ∷ Refer (Field (w / 4294967296) (w / 16777216 % 256) (w / 65536 % 256) (w % 256))
    ∷ Refer (Whole (w / 4294967296) (w / 16777216 % 256) (w / 65536 % 256))
    ∷ []

unfoldable pub value_of : ℕ → ℕ → Operand
value_of tag w = get_or (values w) tag Empty

-- whether a number is in a cell, and whether a record is; the number in it; the three numbers of the record in it
abbrev pub is_number : Operand → Bool
is_number Empty = false
is_number (Number n) = true
is_number (Record s m y) = false
is_number (Refer r) = false

abbrev pub is_record : Operand → Bool
is_record Empty = false
is_record (Number n) = false
is_record (Record s m y) = true
is_record (Refer r) = false

abbrev pub number_of : Operand → ℕ
number_of Empty = 0
number_of (Number n) = n
number_of (Record s m y) = 0
number_of (Refer r) = 0

abbrev pub first_of : Operand → ℕ
first_of Empty = 0
first_of (Number n) = 0
first_of (Record s m y) = s
first_of (Refer r) = 0

abbrev pub second_of : Operand → ℕ
second_of Empty = 0
second_of (Number n) = 0
second_of (Record s m y) = m
second_of (Refer r) = 0

abbrev pub third_of : Operand → ℕ
third_of Empty = 0
third_of (Number n) = 0
third_of (Record s m y) = y
third_of (Refer r) = 0
