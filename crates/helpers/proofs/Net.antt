-- The net: one graph over the whole table in which a search finds the smallest marks.
-- Nodes are 32 times a row plus a place. On an instruction's row places 0 to 15 are a mark in local 0 to 15, 16 to 31 a mark on operand 0 to 15 from the top. On a procedure's own
-- row places 0 to 15 are its parameters' marks, 16 to 19 its results'. Whether walks arrive at an instruction depends on no mark and is found before.
use Prim.Native.Nat.{ℕ, zero, suc, ◌+◌, ◌-◌, ◌*◌, ◌/◌, ◌%◌, ◌<◌}
use mathlib.Core.Path.{◌≡◌}
use mathlib.Core.Bool.{Bool, false, cond, ◌&&◌}
use mathlib.Core.List.{List, [], ◌∷◌, ◌++◌}
use lib.Dec.{eqb, ltb}
use lib.ListN.{length, get_or, replicate}
use Rattle.laws.specs.Lists.{tabulate}
use Rattle.reach.specs.Reach.{iter, mark}
use Rattle.table.specs.Format.{op_call}
use Rattle.flow.specs.Places.{nodes_of, place_moves}
use Rattle.helpers.specs.Marks.{Procedure, per_procedure, step_under}
use Rattle.helpers.specs.Rounds.{up_to, sends}

-- what a row is: a procedure's own, instruction i of procedure q, or another
pub data Spot : Type 0 where
  heads : ℕ → Spot
  codes : ℕ → ℕ → Spot
  blank : Spot

-- where procedures stand: the row of each, the row of its first instruction, what each row is, and how many rows there are
pub record Layout : Type 0 where
  pub head : ℕ → ℕ
  pub base : ℕ → ℕ
  pub spot : ℕ → Spot
  pub rows : ℕ

abbrev pub per_row : ℕ
per_row = 32

pub record Placed (code : ℕ → Procedure) (count : ℕ) (at : Layout) : Type 0 where
  pub heads_at : (q : ℕ) → q < count → (at.head q < at.rows) × (at.spot (at.head q) ≡ heads q)
  pub codes_at : (q i : ℕ) → q < count → i < (code q).size → (at.base q + i < at.rows) × (at.spot (at.base q + i) ≡ codes q i)
  pub head_there : (row q : ℕ) → at.spot row ≡ heads q → (q < count) × (row ≡ at.head q)
  pub code-there : (row q i : ℕ) → at.spot row ≡ codes q i → (q < count) × (i < (code q).size) × (row ≡ at.base q + i)

-- the rows of the listed instructions, of a procedure whose first is at row b
unfoldable pub rows_from : ℕ → List ℕ → List ℕ
rows_from b [] = []
rows_from b (j ∷ js) = (b + j) ∷ rows_from b js

-- the places of a row, from those of an instruction that count the bare one as 0
unfoldable pub lower : List ℕ → List ℕ
lower [] = []
lower (zero ∷ xs) = lower xs
lower (suc x ∷ xs) = x ∷ lower xs

-- the node of a place of the marks
unfoldable pub mark_node : Layout → ℕ → ℕ
mark_node at v = per_row * at.head (v / per_procedure) + v % per_procedure

unfoldable pub mark_nodes_of : Layout → List ℕ → List ℕ
mark_nodes_of at [] = []
mark_nodes_of at (v ∷ vs) = mark_node at v ∷ mark_nodes_of at vs

-- whether a row is a Call of procedure q
unfoldable pub calls_at : (ℕ → Procedure) → ℕ → Spot → Bool
calls_at code q (heads p) = false
calls_at code q (codes p i) = eqb ((code p).step i).opcode op_call && eqb ((code p).step i).operand q
calls_at code q blank = false

module _ (code : ℕ → Procedure) (at : Layout) where
  -- the instructions after i, as rows
  unfoldable pub after : ℕ → ℕ → List ℕ
  after q i = rows_from (at.base q) ((code q).next i)

  -- Arrivals: rows that some walk of their procedure arrives at.

  unfoldable pub follow : Spot → List ℕ
  follow (heads q) = []
  follow (codes q i) = after q i
  follow blank = []

  unfoldable pub follows : ℕ → List ℕ
  follows row = follow (at.spot row)

  unfoldable pub entry_of : Spot → List ℕ
  entry_of (heads q) = at.base q ∷ []
  entry_of (codes q i) = []
  entry_of blank = []

  unfoldable pub entries : List ℕ
  entries = up_to (λ (row : ℕ). entry_of (at.spot row)) at.rows

  unfoldable pub arrived : List Bool
  arrived = iter follows at.rows (mark (replicate at.rows false) entries)

  -- Marks.

  -- where place x moves within procedure q, by instruction i
  unfoldable pub inside : ℕ → ℕ → ℕ → List ℕ
  inside q i x = nodes_of per_row (after q i) (lower (place_moves (λ (i : ℕ). step_under [] ((code q).step i)) i x))

  -- what a Call of q at a row pushes as result r, if walks arrive there
  unfoldable pub pushed_at : ℕ → ℕ → Spot → List ℕ
  pushed_at row r (heads p) = []
  pushed_at row r (codes p i) =
      cond (get_or arrived row false && ltb r (length ((code p).step i).fresh))
      (nodes_of per_row (after p i) ((16 + (length ((code p).step i).fresh - 1 - r)) ∷ []))
      []
  pushed_at row r blank = []

  -- where result r of procedure q goes at a row
  unfoldable pub result_to : ℕ → ℕ → ℕ → List ℕ
  result_to q r row = cond (calls_at code q (at.spot row)) (pushed_at row r (at.spot row)) []

  -- the successors of place x of a row
  unfoldable pub edges : Spot → ℕ → List ℕ
  edges (heads q) x =
      cond (ltb x 16) (cond (ltb x (code q).params) ((per_row * at.base q + x) ∷ []) [])
      (up_to (result_to q (x - 16)) at.rows)
  edges (codes q i) x = inside q i (suc x) ++ cond (ltb x 16) [] (mark_nodes_of at (sends (code q) q i (x - 16)))
  edges blank x = []

  unfoldable pub graph : ℕ → List ℕ
  graph u = edges (at.spot (u / per_row)) (u % per_row)

  -- where the search starts: what instructions mark of themselves, if walks arrive at them
  unfoldable pub source_of : ℕ → Spot → List ℕ
  source_of row (heads q) = []
  source_of row (codes q i) = cond (get_or arrived row false) (inside q i 0) []
  source_of row blank = []

  unfoldable pub sources : List ℕ
  sources = up_to (λ (row : ℕ). source_of row (at.spot row)) at.rows

  unfoldable pub source_set : List Bool
  source_set = mark (replicate (per_row * at.rows) false) sources

  -- the nodes that the search visits
  unfoldable pub found : List Bool
  found = iter graph (per_row * at.rows) source_set

-- the marks that are read off the nodes
unfoldable pub read_off : Layout → ℕ → List Bool → List Bool
read_off at count nodes = tabulate (λ (v : ℕ). get_or nodes (mark_node at v) false) (per_procedure * count)
