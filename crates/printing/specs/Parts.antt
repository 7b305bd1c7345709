-- What a file holds that is read by parts: numbers of four bytes, and bytes after their length.
use Rattle.std.specs.Prelude.{◌≡◌, ℕ, List, Option, None, Some, ⊤, length, drop, nat_le, nat_lt, if◌then◌else◌, ◌||◌, ◌&&◌}
use Rattle.laws.specs.Numbers.{le}

-- known bytes lose their first n, or all where they are fewer
abbrev pub Loses : Option (List ℕ) → Option (List ℕ) → ℕ → Type 0
Loses None new n = ⊤
Loses (Some xs) new n = new ≡ Some (drop n xs)

-- the number at the front, where it is whole
abbrev pub first_number : List ℕ → Option ℕ
first_number xs = if nat_le 4 (length xs) then Some (le xs 0 4) else None

-- the length of the part at the front, where the part is whole, or longer than a buffer of `most` bytes
abbrev pub first_part : ℕ → List ℕ → Option ℕ
first_part most xs =
    let n = le xs 0 4 in
    if nat_le 4 (length xs) && (nat_lt most n || nat_le n (length (drop 4 xs))) then Some n else None
