-- Little-endian numbers in a list of bytes.
use Rattle.std.specs.Prelude.{ℕ, suc, zero, ◌+◌, ◌*◌, ◌/◌, ◌%◌, List, [], ◌∷◌, get_or}

-- the number of `n` bytes at `o`, lowest byte first
unfoldable pub le : List ℕ → ℕ → ℕ → ℕ
le s o zero = 0
le s o (suc n) = get_or s o 0 + 256 * le s (o + 1) n

-- the `n` bytes of a number, lowest first
unfoldable pub to_le : ℕ → ℕ → List ℕ
to_le x zero = []
to_le x (suc n) = x % 256 ∷ to_le (x / 256) n
