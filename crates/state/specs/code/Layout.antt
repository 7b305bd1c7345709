-- Which cell holds what: 16 operands and 16 locals for each of 16 frames; two cells for each suspended frame (serial number, height and count of
-- locals; procedure and instruction); two for each of 64 entries of the store (address; record); nine for each of 128 rooms (head; eight fields).
use Rattle.std.specs.Prelude.{ℕ, ◌+◌, ◌*◌, cond, ltb, Option, Some, None}

abbrev pub operand_cell : ℕ → ℕ
operand_cell d = 32 * d

abbrev pub local_cell : ℕ → ℕ
local_cell d = 32 * d + 16

abbrev pub suspended_cell : ℕ → ℕ
suspended_cell d = 512 + 2 * d

abbrev pub entry_cell : ℕ → ℕ
entry_cell i = 544 + 2 * i

abbrev pub room_cell : ℕ → ℕ
room_cell r = 672 + 9 * r

-- how many there are
abbrev pub all_cells : ℕ
all_cells = 1824

-- a place below n, or none
abbrev pub place_below : ℕ → ℕ → Option ℕ
place_below n i = cond (ltb i n) (Some i) None
