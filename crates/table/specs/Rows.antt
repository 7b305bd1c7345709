-- A table as a list of bytes: its whole rows and their parts (document 01, "Table rows").
use Rattle.std.specs.Prelude.{ℕ, ◌+◌, ◌*◌, ◌/◌, Bool, cond, List, eqb, ltb, length, get_or}
use Rattle.laws.specs.Numbers.{le}
use Rattle.table.specs.declared.Row.{Row}
use Rattle.table.specs.Format.{row_bytes}

-- the number of whole rows
abbrev pub row_count : List ℕ → ℕ
row_count t = length t / row_bytes

-- what stands for a row that is not there
abbrev pub blank : Row
blank = record { kind = 0; a = 0; b = 0; c = 0; d = 0 }

-- the row whose first byte is byte o: kind, A, B of two bytes, C of four, D of eight
unfoldable pub row_from : List ℕ → ℕ → Row
row_from t o = record { kind = get_or t o 0; a = get_or t (o + 1) 0; b = le t (o + 2) 2; c = le t (o + 4) 4; d = le t (o + 8) 8 }

-- row i of the table, blank where there is no whole row i
unfoldable pub row_at : List ℕ → ℕ → Row
row_at t i = cond (ltb i (row_count t)) (row_from t (row_bytes * i)) blank

-- the kind of row i
unfoldable pub kind_at : List ℕ → ℕ → ℕ
kind_at t i = (row_at t i).kind

-- whether row i is of kind k
unfoldable pub is_kind : List ℕ → ℕ → ℕ → Bool
is_kind t k i = eqb (kind_at t i) k
