-- A procedure's rows as a part of the table, for any bytes: from its own row to the last whole row before the next of kind 1 or 4, or to the end.
use Rattle.std.specs.Prelude.{ℕ, ◌+◌, ◌-◌, ◌*◌, Bool, cond, ◌||◌, ◌&&◌, List, [], ltb, leb, take, drop}
use Rattle.laws.specs.Lists.{find, nth}
use Rattle.table.specs.Format.{row_bytes, module_kind, procedure_kind}
use Rattle.table.specs.Rows.{row_count, is_kind}

-- the bytes of the rows from `from` to before `to`
unfoldable pub rows_between : List ℕ → ℕ → ℕ → List ℕ
rows_between t from to = take (row_bytes * to - row_bytes * from) (drop (row_bytes * from) t)

-- whether the rows from `from` to before `to` lie in the table in this order
unfoldable pub in_table : List ℕ → ℕ → ℕ → Bool
in_table t from to = leb from to && leb to (row_count t)

-- the bytes of the rows from `from` to before `to`, and no bytes where they do not lie in the table
unfoldable pub part_of : List ℕ → ℕ → ℕ → List ℕ
part_of t from to = cond (in_table t from to) (rows_between t from to) []

-- the byte of the table at which that part begins
unfoldable pub part_start : List ℕ → ℕ → ℕ → ℕ
part_start t from to = cond (in_table t from to) (row_bytes * from) 0

-- the place in memory of byte o of a table that lies at this place; a place is an allocation and a byte in it
abbrev pub place_in : ℕ × ℕ → ℕ → ℕ × ℕ
place_in table o = (table.0, o + table.1)

-- the row of procedure p, or the number of rows where there is none
unfoldable pub procedure_row : List ℕ → ℕ → ℕ
procedure_row t p = nth (is_kind t procedure_kind) (row_count t) p

-- whether a procedure's rows end above row i
unfoldable pub ends_procedure : List ℕ → ℕ → Bool
ends_procedure t i = is_kind t module_kind i || is_kind t procedure_kind i

-- the first row from i on that starts a module or a procedure, or the number of rows
unfoldable pub procedure_end : List ℕ → ℕ → ℕ
procedure_end t i = find (ends_procedure t) i (row_count t - i)

-- whether there is a procedure p
unfoldable pub has_procedure : List ℕ → ℕ → Bool
has_procedure t p = ltb (procedure_row t p) (row_count t)

-- the rows of procedure p; no bytes where there is no such procedure
unfoldable pub procedure_rows : List ℕ → ℕ → List ℕ
procedure_rows t p = cond (has_procedure t p) (rows_between t (procedure_row t p) (procedure_end t (procedure_row t p + 1))) []

-- the byte of the table at which they begin; 0 where there is no such procedure
unfoldable pub procedure_start : List ℕ → ℕ → ℕ
procedure_start t p = cond (has_procedure t p) (row_bytes * procedure_row t p) 0
