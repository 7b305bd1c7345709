-- Rooms in the cells.
use Rattle.std.specs.Prelude.{ℕ, Option, Some, None, zero, suc, ◌+◌, Bool, false, cond, List, eqb, ltb, get_or}
use Rattle.state.specs.declared.Operand.{Operand}
use Rattle.state.specs.declared.Operand.TheVariants.{Empty}
use Rattle.state.specs.code.Coding.{is_record, first_of, second_of}
use Rattle.state.specs.code.Layout.{room_cell}

-- whether a room with this head has record s in it
abbrev pub is_live : Operand → ℕ → Bool
is_live x s = cond (is_record x) (eqb (first_of x) s) false

-- the cell of field j of room m
abbrev pub field_cell : List Operand → ℕ → ℕ → Option ℕ
field_cell cs m j = cond (ltb j (second_of (get_or cs (room_cell m) Empty))) (Some (room_cell m + 1 + j)) None

-- the first of the n rooms from room r on that is not in use
unfoldable pub first_free : List Operand → ℕ → ℕ → ℕ
first_free cs r zero = r
first_free cs r (suc n) = let rest = first_free cs (suc r) n in cond (is_record (get_or cs (room_cell r) Empty)) rest r
