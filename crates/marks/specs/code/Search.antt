-- The search for marks over a whole table, as the code makes it over its arrays.
-- Nodes are 32 times a row plus a place. On an instruction's row places 0 to 15 are a mark in local 0 to 15, 16 to 31 a mark on operand 0 to 15 from the top. On a procedure's own
-- row places 0 to 15 are its parameters' marks, 16 to 19 its results'.
use Rattle.std.specs.Prelude.{ℕ, ◌+◌, ◌-◌, ◌*◌, ◌/◌, ◌%◌, Bool, false, cond, ◌&&◌, List, [], ◌∷◌, ◌++◌, eqb, ltb, leb, length, get_or}
use Rattle.table.specs.declared.Row.{Row}
use Rattle.table.specs.declared.index.Index.{Index}
use Rattle.table.specs.Format.{procedure_kind, instruction_kind, op_mv_loc, op_cp_loc, op_st_loc, op_call, op_ret, op_branch, op_branch_cond}
use Rattle.table.specs.Rows.{row_at, is_kind}
use Rattle.flow.specs.Places.{nodes_of}
use Rattle.helpers.specs.code.Chains.{chain, along}
use Rattle.entries.specs.declared.RowEntry.{RowEntry}
use Rattle.entries.specs.code.Entries.{no_entry, makes_at}

abbrev pub per_row : ℕ
per_row = 32

-- the rows after the instruction at row `at` of a procedure whose first instruction is at row `base`
unfoldable pub next_rows : Row → ℕ → ℕ → List ℕ
next_rows row at base =
    cond (eqb row.a op_ret) []
    (cond (eqb row.a op_branch) ((base + row.b) ∷ [])
    (cond (eqb row.a op_branch_cond) ((at + 1) ∷ (base + row.b) ∷ [])
    ((at + 1) ∷ [])))

-- Arrivals: which rows walks arrive at.

-- the rows after a row
unfoldable pub rows_after : List ℕ → List RowEntry → ℕ → List ℕ
rows_after t rows r = cond (is_kind t instruction_kind r) (nodes_of 1 (next_rows (row_at t r) r (get_or rows r no_entry).base) (0 ∷ [])) []

-- the first instruction's row, at a procedure's own
unfoldable pub first_at : List ℕ → List RowEntry → ℕ → List ℕ
first_at t rows r = cond (is_kind t procedure_kind r) ((get_or rows r no_entry).base ∷ []) []

-- Marks.

-- the place where a mark at place x is after an instruction; 32 or more where it is gone
unfoldable pub goes_to : Row → ℕ → ℕ → ℕ → ℕ
goes_to row takes gives x =
    cond (ltb x 16)
    (cond (eqb row.b x) (cond (eqb row.a op_mv_loc) 16 (cond (eqb row.a op_st_loc) per_row x)) x)
    (cond (ltb (x - 16) takes)
    (cond (eqb row.a op_st_loc && ltb row.b 16) row.b per_row)
    (x - takes + gives))

-- whether the instruction also pushes a copy of it
unfoldable pub copies : Row → ℕ → Bool
copies row x = ltb x 16 && eqb row.a op_cp_loc && eqb row.b x

-- the node of the procedure's own row that gets a mark on operand j: of a helper's parameters, of the own results
unfoldable pub sent_to : Row → ℕ → ℕ → ℕ → List ℕ
sent_to row takes sends x =
    cond (leb 16 x && ltb (x - 16) takes && ltb 0 sends)
    ((per_row * (sends - 1) + cond (eqb row.a op_call) 0 16 + (takes - 1 - (x - 16))) ∷ [])
    []

-- the nodes after place x of the instruction at row `at`: where the mark goes to, where its copy does, and what it is sent to
abbrev pub gone : Row → ℕ → ℕ → ℕ → ℕ → ℕ → List ℕ
gone row at base takes gives x = cond (ltb (goes_to row takes gives x) per_row) (nodes_of per_row (next_rows row at base) (goes_to row takes gives x ∷ [])) []

abbrev pub copied : Row → ℕ → ℕ → ℕ → List ℕ
copied row at base x = cond (copies row x) (nodes_of per_row (next_rows row at base) (16 ∷ [])) []

unfoldable pub code_edges : Row → ℕ → ℕ → ℕ → ℕ → ℕ → ℕ → List ℕ
code_edges row at base takes gives sends x = gone row at base takes gives x ++ copied row at base x ++ sent_to row takes sends x

-- what result r of a procedure with so many results is pushed as, at a Call that walks arrive at
unfoldable pub pushed_at : List Bool → ℕ → ℕ → ℕ → List ℕ
pushed_at arrives results r row = cond (get_or arrives row false) ((per_row * (row + 1) + (16 + (results - 1 - r))) ∷ []) []

-- the nodes after result r, along the call sites from `start`
unfoldable pub result_edges : List ℕ → List Bool → ℕ → ℕ → ℕ → List ℕ
result_edges before arrives results start r =
    cond (ltb r results) (along (pushed_at arrives results r) (chain (λ (k : ℕ). get_or before k 0) (length before) start)) []

-- the nodes after place x of a procedure's own row
unfoldable pub head_edges : List ℕ → List Bool → ℕ → ℕ → ℕ → ℕ → ℕ → List ℕ
head_edges before arrives params results base start x =
    cond (ltb x 16) (cond (ltb x params) ((per_row * base + x) ∷ []) [])
    (result_edges before arrives results start (x - 16))

-- the nodes after a node, from a table and the arrays
module _ (t : List ℕ) (rows : List RowEntry) (before last : List ℕ) (arrives : List Bool) where
  unfoldable pub place_edges : ℕ → ℕ → List ℕ
  place_edges r x = let e = get_or rows r no_entry in
      cond (is_kind t procedure_kind r) (head_edges before arrives e.takes e.gives e.base (get_or last e.sends 0) x)
      (cond (is_kind t instruction_kind r) (code_edges (row_at t r) r e.base e.takes e.gives e.sends x)
      [])

  unfoldable pub edges : ℕ → List ℕ
  edges u = place_edges (u / per_row) (u % per_row)

-- where marks are made, at a row
unfoldable pub made_at : List ℕ → Index → List RowEntry → List Bool → ℕ → List ℕ
made_at t ix rows arrives r = cond (get_or arrives r false && makes_at t ix r) (nodes_of per_row (next_rows (row_at t r) r (get_or rows r no_entry).base) (16 ∷ [])) []
