-- Facts about one place: "local l is empty (full) on arriving at instruction i", "local l (operand j) is marked on arriving at instruction i". Each is
-- a node of a finite graph whose nodes are instruction and place, and is shown by a walk exactly where the node is reached.
use Rattle.std.specs.Prelude.{ℕ, zero, suc, ◌+◌, ◌-◌, ◌*◌, ◌/◌, ◌%◌, Bool, false, cond, ◌&&◌, List, [], ◌∷◌, ◌++◌, eqb, ltb, length, get_or, replicate}
use Rattle.reach.specs.Reach.{mark, sweep, settle}
use Rattle.table.specs.Format.{op_mv_loc, op_cp_loc, op_st_loc}
use Rattle.flow.specs.Steps.{Step}

-- node: instruction times the number of places, plus place
unfoldable pub nodes_at : ℕ → ℕ → List ℕ → List ℕ
nodes_at width j [] = []
nodes_at width j (x ∷ xs) = (width * j + x) ∷ nodes_at width j xs

unfoldable pub nodes_of : ℕ → List ℕ → List ℕ → List ℕ
nodes_of width [] xs = []
nodes_of width (j ∷ js) xs = nodes_at width j xs ++ nodes_of width js xs

-- a place graph: `next i` are the instructions after i, `moves i x` the places that what is at place x is in after instruction i
unfoldable pub succs : ℕ → (ℕ → List ℕ) → (ℕ → ℕ → List ℕ) → ℕ → List ℕ
succs width next moves u = nodes_of width (next (u / width)) (moves (u / width) (u % width))

-- the nodes that are reached from the places `from` of the first of n instructions
unfoldable pub reached : ℕ → (ℕ → List ℕ) → (ℕ → ℕ → List ℕ) → ℕ → List ℕ → List Bool
reached width next moves n from = settle (sweep (succs width next moves)) (width * n) (mark (replicate (width * n) false) from)

-- One local: two places, 0 for full and 1 for empty.
unfoldable pub status_after : Step → ℕ → ℕ → ℕ
status_after s l x = cond (eqb s.operand l) (cond (eqb s.opcode op_mv_loc) 1 (cond (eqb s.opcode op_st_loc) 0 x)) x

unfoldable pub local_moves : (ℕ → Step) → ℕ → ℕ → ℕ → List ℕ
local_moves step l i x = status_after (step i) l x ∷ []

unfoldable pub start_status : ℕ → ℕ → ℕ
start_status params l = cond (ltb l params) 0 1

unfoldable pub local_nodes : (ℕ → List ℕ) → (ℕ → Step) → ℕ → ℕ → ℕ → List Bool
local_nodes next step params n l = reached 2 next (local_moves step l) n (start_status params l ∷ [])

-- whether some walk arrives at instruction i with local l full, or empty
abbrev pub can_be_full : List Bool → ℕ → Bool
can_be_full nodes i = get_or nodes (2 * i) false

abbrev pub can_be_empty : List Bool → ℕ → Bool
can_be_empty nodes i = get_or nodes (2 * i + 1) false

-- Marks: 33 places: 0 the bare instruction, 1 to 16 a mark in local 0 to 15, 17 to 32 a mark on operand 0 to 15, counted from the top.
abbrev pub mark_places : ℕ
mark_places = 33

abbrev pub local_place : ℕ → ℕ
local_place l = l + 1

abbrev pub operand_place : ℕ → ℕ
operand_place j = j + 17

-- the operands that are marked of themselves after the instruction, as places; the first pushed is the lowest
unfoldable pub fresh_places : List Bool → List ℕ
fresh_places [] = []
fresh_places (m ∷ ms) = cond m (operand_place (length ms) ∷ fresh_places ms) (fresh_places ms)

-- a place where there is one: operands past the 16th have none
unfoldable pub within : List ℕ → List ℕ
within [] = []
within (x ∷ xs) = cond (ltb x mark_places) (x ∷ within xs) (within xs)

-- where a mark goes: what makes it, from the bare instruction; out of a local, by MvLoc and CpLoc; off it, by StLoc; with an operand, into a local by StLoc
unfoldable pub mark_moves : Step → ℕ → List ℕ
mark_moves s x =
    cond (eqb x 0) (0 ∷ fresh_places s.fresh)
    (cond (ltb x 17)
    (cond (eqb (local_place s.operand) x)
    (cond (eqb s.opcode op_mv_loc) (operand_place 0 ∷ [])
    (cond (eqb s.opcode op_cp_loc) (x ∷ operand_place 0 ∷ [])
    (cond (eqb s.opcode op_st_loc) []
    (x ∷ []))))
    (x ∷ []))
    (cond (ltb (x - 17) s.takes)
    (cond (eqb s.opcode op_st_loc && ltb s.operand 16) (local_place s.operand ∷ [])
    (cond s.carries (operand_place 0 ∷ []) []))
    ((x - s.takes + length s.fresh) ∷ [])))

unfoldable pub place_moves : (ℕ → Step) → ℕ → ℕ → List ℕ
place_moves step i x = within (mark_moves (step i) x)

-- the start: the bare first instruction, and the parameters that are given as marked
unfoldable pub start_places : (ℕ → Bool) → ℕ → List ℕ
start_places given zero = 0 ∷ []
start_places given (suc l) = cond (given l) (local_place l ∷ start_places given l) (start_places given l)

unfoldable pub mark_nodes : (ℕ → List ℕ) → (ℕ → Step) → (ℕ → Bool) → ℕ → ℕ → List Bool
mark_nodes next step given params n = reached mark_places next (place_moves step) n (start_places given params)

-- whether some walk arrives at instruction i with a mark in local l, or on operand j from the top
abbrev pub local_marked : List Bool → ℕ → ℕ → Bool
local_marked nodes i l = get_or nodes (mark_places * i + local_place l) false

abbrev pub operand_marked : List Bool → ℕ → ℕ → Bool
operand_marked nodes i j = get_or nodes (mark_places * i + operand_place j) false
