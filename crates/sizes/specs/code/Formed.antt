-- A table that the passes length, rows and names accept.
use Rattle.std.specs.Prelude.{ℕ, ◌≡◌, List}
use Rattle.table.specs.Verdicts.{Accepted}
use Rattle.table.specs.Rows.{row_count}
use Rattle.rows.specs.Rows.{length_of, rows_of}
use Rattle.names.specs.Names.{names_of}

pub record Formed (t : List ℕ) : Type 0 where
  pub by_length : length_of t ≡ Accepted (row_count t)
  pub by_rows : rows_of t ≡ Accepted (row_count t)
  pub by_names : names_of t ≡ Accepted (row_count t)
