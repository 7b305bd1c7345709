-- How a search goes on from the node that is followed.
use Rattle.std.specs.Prelude.{ℕ, ◌+◌, ◌*◌, ◌<◌, ◌≤◌, ◌≡◌, Bool, cond, List, [], ◌∷◌, Option, None, Some, eqb, length}
use Rattle.reach.specs.Reach.{Inside, count_true}
use Rattle.reach.specs.code.Search.{Searched, Visit, max_node}
use Rattle.table.specs.declared.Row.{Row}
use Rattle.table.specs.Format.{op_ret, op_branch, op_branch_cond}
use Rattle.flow.specs.Steps.{below, next_of}
use Rattle.flow.specs.Places.{nodes_of}

-- the instruction that a walk is followed to from instruction i of n, and n where there is none
unfoldable pub followed_of : ℕ → Row → ℕ → ℕ
followed_of n row i = cond (eqb row.a op_ret) n (cond (eqb row.a op_branch) row.b (i + 1))

-- the other one, by BranchCond
unfoldable pub aside_of : Row → List ℕ
aside_of row = cond (eqb row.a op_branch_cond) (row.b ∷ []) []

-- the node that is followed at instruction r, and `none` where there is none
abbrev pub node_followed : ℕ → ℕ → ℕ → Option ℕ → ℕ
node_followed width place none None = none
node_followed width place none (Some j) = width * j + place

-- How a search goes on from node u, at instruction i of n with `width` places each, whose successors are one place at the instructions after it: they are visited,
-- and one of them is followed next where it is new.
pub record GoesOn (width n : ℕ) (row : Row) (i place : ℕ) (x y : Visit) (r : Option ℕ) : Type 0 where
  pub search :
      (succs : ℕ → List ℕ) (s : List Bool) (head u : ℕ)
      → succs u ≡ nodes_of width (below n (next_of row i)) (place ∷ [])
      → Inside succs (length s)
      → length s ≡ width * n
      → length s ≤ max_node + 1
      → u < length s
      → Searched succs s x.visited x.queue head x.tail u
      → Searched succs s y.visited y.queue head y.tail (node_followed width place (length s) r)
  pub grown : count_true x.visited ≤ count_true y.visited
  pub new : (j : ℕ) → r ≡ Some j → (count_true x.visited < count_true y.visited) × (j < n)
  -- the set and the queue keep their sizes
  pub sized : (length y.visited ≡ length x.visited) × (length y.queue ≡ length x.queue)
