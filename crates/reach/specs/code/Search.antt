-- Search that visits each node once, in any order.
-- `seen` is the set of the nodes visited so far. Each of them is expanded (its successors are visited), or waits in `queue` from `head` to before `tail`,
-- or is `at`: the node that is followed. Where `at` is no node, none is followed.
use Rattle.std.specs.Prelude.{ℕ, ◌+◌, ◌<◌, ◌≤◌, ◌≡◌, List, [], ◌∷◌, Bool, true, false, cond, not, ◌&&◌, ltb, leb, length, get_or, set}
use Rattle.reach.specs.Reach.{Mem, At, Reached, count_true}
use Rattle.reach.specs.declared.Traversal.{Traversal}

-- where a visited node u stands
pub data Standing (succs : ℕ → List ℕ) (seen : List Bool) (queue : List ℕ) (head tail at u : ℕ) : Type 0 where
  followed : u ≡ at → Standing succs seen queue head tail at u
  waiting : (i : ℕ) → head ≤ i → i < tail → get_or queue i 0 ≡ u → Standing succs seen queue head tail at u
  expanded : ((v : ℕ) → Mem v (succs u) → At seen v) → Standing succs seen queue head tail at u

-- every visited node is reached from s and stands so; there are no more entries in the queue than visited nodes
pub record Visited (succs : ℕ → List ℕ) (s seen : List Bool) (queue : List ℕ) (head tail at : ℕ) : Type 0 where
  pub sized : length seen ≡ length s
  pub room : length s ≤ length queue
  pub ahead : head ≤ tail
  pub counted : tail ≤ count_true seen
  pub reached : (v : ℕ) → At seen v → Reached succs s v
  pub queued : (i : ℕ) → i < tail → At seen (get_or queue i 0)
  pub entered : at < length s → At seen at
  pub standing : (u : ℕ) → At seen u → Standing succs seen queue head tail at u

-- the search from s: besides, the nodes of s are visited
pub record Searched (succs : ℕ → List ℕ) (s seen : List Bool) (queue : List ℕ) (head tail at : ℕ) : Type 0 where
  pub visits : Visited succs s seen queue head tail at
  pub holds : (v : ℕ) → At s v → At seen v

-- the largest node number that an entry of the queue has room for
abbrev pub max_node : ℕ
max_node = 65535

-- what a visit leaves: the set of visited nodes, the queue and its end
pub record Visit : Type 0 where
  pub visited : List Bool
  pub queue : List ℕ
  pub tail : ℕ

-- the three put together
abbrev pub after : List Bool → List ℕ → ℕ → Visit
after seen queue tail = record { visited = seen; queue = queue; tail = tail }

-- those of a search, and that it is over the same two slices as another
abbrev pub state : Traversal → Visit
state s = after s.visited.now s.queue.now s.tail

abbrev pub SameSlices : Traversal → Traversal → Type 0
SameSlices s r = (r.visited.ghost_name ≡ s.visited.ghost_name) × (r.queue.ghost_name ≡ s.queue.ghost_name)

-- whether v is a node, not visited yet, and the queue has room for it
unfoldable pub is_new : List Bool → List ℕ → ℕ → ℕ → Bool
is_new seen queue tail v = ltb v (length seen) && not (get_or seen v false) && ltb tail (length queue) && leb v max_node

-- a visit of v: a new node is marked and put at the end of the queue, and any other number changes nothing
unfoldable pub visit_of : List Bool → List ℕ → ℕ → ℕ → Visit
visit_of seen queue tail v =
    cond (is_new seen queue tail v) (after (set seen v true) (set queue tail v) (tail + 1)) (after seen queue tail)

-- visits of the listed nodes, one after the other
unfoldable pub visit_all : Visit → List ℕ → Visit
visit_all x [] = x
visit_all x (v ∷ vs) = visit_all (visit_of x.visited x.queue x.tail v) vs

-- whether v is a node that is not visited yet, and the set with it then
unfoldable pub is_unvisited : List Bool → ℕ → Bool
is_unvisited seen v = ltb v (length seen) && not (get_or seen v false)

abbrev pub entering : List Bool → ℕ → List Bool
entering seen v = cond (is_unvisited seen v) (set seen v true) seen
