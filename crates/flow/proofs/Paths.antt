-- The reached nodes of a place graph are exactly where its paths arrive, and a path of at most as many steps as there are nodes arrives at each.
use mathlib.Core.List.{[]}
use Prim.Native.Nat.{ℕ, ◌+◌, ◌*◌, ◌/◌, ◌%◌, ◌<◌, ◌≤◌}
use mathlib.Core.Path.{◌≡◌, refl, ap, ◌∙◌}
use mathlib.Core.List.Memᴰ
use mathlib.Core.List.{List, ◌∷◌}
use mathlib.Core.Bool.{Bool, true, false}
use mathlib.Core.Logic.{⊎_elim}
use native.Mathlib.Nat.{mul_comm, mod-lt, mod-eq_of_lt, div-eq_of_lt, mul-zero, zero-add}
use lib.Arith.{digits_div, digits_mod, digits_lt}
use lib.ListN.{length, get_or, replicate, length-replicate}
use Rattle.reach.specs.Reach.{Mem, here, there, At, Inside, Walk, start, step, mark}
use Rattle.reach.proofs.Laws.{none-at, length-mark, mark-new, mark_inv, sound, complete}
use Rattle.reach.proofs.Settle.{settle-iter}
use Rattle.flow.specs.Places.{nodes_at, nodes_of, succs, reached}
use Rattle.flow.specs.code.Paths.{Path, at_first, onwards}

-- Nodes.

pub node_div : (w j x : ℕ) → x < w → (w * j + x) / w ≡ j
node_div w j x h = rw (mul_comm w j) (digits_div j h)

pub node_mod : (w j x : ℕ) → x < w → (w * j + x) % w ≡ x
node_mod w j x h = rw (mul_comm w j) (digits_mod j h)

pub node_lt : (w j n x : ℕ) → j < n → x < w → w * j + x < w * n
node_lt w j n x h g = rw (mul_comm w j, mul_comm w n) (digits_lt h g)

node_first : (w x : ℕ) → w * 0 + x ≡ x
node_first w x = rw (mul-zero, zero-add) refl

nodes_at_inv : (w j : ℕ) (xs : List ℕ) {v : ℕ} → Mem v (nodes_at w j xs) → (x : ℕ) × Mem x xs × (v ≡ w * j + x)
unfolding nodes_at
nodes_at_inv w j [] {v = v} x' = elim x' [ ]
nodes_at_inv w j (x ∷ xs) (here e) = (x, here refl, e)
nodes_at_inv w j (x ∷ xs) (there m) = let r = nodes_at_inv w j xs m in (r.0, there r.1, r.2)

nodes_at_mem : (w j : ℕ) {x : ℕ} {xs : List ℕ} → Mem x xs → Mem (w * j + x) (nodes_at w j xs)
unfolding nodes_at
nodes_at_mem w j (here e) = here (ap (λ (y : ℕ). w * j + y) e)
nodes_at_mem w j (there m) = there (nodes_at_mem w j m)

-- the nodes of some instructions and some places are those of one of each
pub nodes_of_mem : (w : ℕ) {j x : ℕ} {js xs : List ℕ} → Mem j js → Mem x xs → Mem (w * j + x) (nodes_of w js xs)
unfolding nodes_of
nodes_of_mem w {xs = xs} (here {x = i} {xs = js} e) m = rw e (Memᴰ.append_left (nodes_of w js xs) (nodes_at_mem w i m))
nodes_of_mem w {xs = xs} (there {x = i} g) m = Memᴰ.append_right (nodes_at w i xs) (nodes_of_mem w g m)

pub nodes_of_inv : (w : ℕ) (js xs : List ℕ) {v : ℕ} → Mem v (nodes_of w js xs) → (j x : ℕ) × Mem j js × Mem x xs × (v ≡ w * j + x)
unfolding nodes_of
nodes_of_inv w [] xs {v = v} m = elim m [ ]
nodes_of_inv w (j ∷ js) xs m =
    ⊎_elim
    (λ a. let r = nodes_at_inv w j xs a in (j, r.0, here refl, r.1, r.2))
    (λ b. let r = nodes_of_inv w js xs b in (r.0, r.1, there r.2, r.3, r.4))
    (Memᴰ.append_cases (nodes_at w j xs) m)

-- the set of the nodes that paths start from
first : ℕ → ℕ → List ℕ → List Bool
first width n from = mark (replicate (width * n) false) from

length-first : (width n : ℕ) (from : List ℕ) → length (first width n from) ≡ width * n
unfolding first
length-first width n from = length-mark from (replicate (width * n) false) ∙ length-replicate (width * n) false

first_inv : (width n : ℕ) (from : List ℕ) (v : ℕ) → At (first width n from) v → Mem v from
unfolding first
first_inv width n from v h = ⊎_elim (λ a. absurd (none-at (width * n) v a)) (λ m. m) (mark_inv from (replicate (width * n) false) v h)

first-new : (width n : ℕ) (from : List ℕ) (v : ℕ) → Mem v from → v < width * n → At (first width n from) v
unfolding first
first-new width n from v m h = mark-new m (replicate (width * n) false) (rw length-replicate h)

module _ (width : ℕ) (next : ℕ → List ℕ) (moves : ℕ → ℕ → List ℕ) (n : ℕ) (from : List ℕ) (wide : 0 < width) (some : 0 < n)
    (from_below : (x : ℕ) → Mem x from → x < width) (moves_below : (i x y : ℕ) → x < width → Mem y (moves i x) → y < width)
    (next_below : (i j : ℕ) → Mem j (next i) → j < n) where
  -- a path arrives at one of the places of one of the instructions
  pub path_place : {k i x : ℕ} → Path next moves from k i x → x < width
  path_place (at_first m) = from_below _ m
  path_place (onwards {i = i} {x = x} p h m) = moves_below i x _ (path_place p) m

  -- a step of the graph is a move to a place of a next instruction
  step_inv : (u v : ℕ) → Mem v (succs width next moves u)
      → (j y : ℕ) × Mem j (next (u / width)) × Mem y (moves (u / width) (u % width)) × (v ≡ width * j + y) × (j < n) × (y < width)
  unfolding succs
  step_inv u v m =
      let r = nodes_of_inv width (next (u / width)) (moves (u / width) (u % width)) m in
      (r.0, r.1, r.2, r.3, r.4, next_below _ _ r.2, moves_below (u / width) (u % width) r.1 (mod-lt u wide) r.3)

  inside : Inside (succs width next moves) (length (first width n from))
  inside u v h m = let r = step_inv u v m in rw (length-first, r.4) (node_lt width r.0 n r.1 r.5 r.6)

  to_path : {k v : ℕ} → Walk (succs width next moves) (first width n from) k v → Path next moves from k (v / width) (v % width)
  to_path {v = v} (start h) =
      let m = first_inv width n from v h in
      rw (div-eq_of_lt (from_below v m), mod-eq_of_lt (from_below v m)) (at_first m)
  to_path {v = v} (step {u = u} w m) =
      let r = step_inv u v m in
      rw (r.4, node_div width r.0 r.1 r.6, node_mod width r.0 r.1 r.6) (onwards (to_path w) r.2 r.3)

  to_walk : {k i x : ℕ} → Path next moves from k i x → Walk (succs width next moves) (first width n from) k (width * i + x)
  unfolding succs
  to_walk {x = x} (at_first m) =
      rw (node_first width x) (start (first-new width n from x m (rw node_first at (node_lt width 0 n x some (from_below x m)))))
  to_walk (onwards {i = i} {j = j} {x = x} {y = y} p h m) =
      let l = path_place p in
      step {v = width * j + y} (to_walk p) (rw (node_div width i x l, node_mod width i x l) (nodes_of_mem width h m))

  -- a reached node is shown by a path of at most as many steps as there are nodes
  pub path_shown : (i x : ℕ) → x < width → get_or (reached width next moves n from) (width * i + x) false ≡ true → (k : ℕ) × (k ≤ width * n) × Path next moves from k i x
  unfolding reached first
  path_shown i x h e =
      let r = sound (succs width next moves) (width * n) (first width n from) (width * i + x) (rw (settle-iter (succs width next moves) (width * n) (first width n from)) at e) in
      (r.0, r.1, rw (node_div width i x h, node_mod width i x h) at (to_path r.2))

  -- where a path arrives is reached
  pub path_found : {k i x : ℕ} → Path next moves from k i x → get_or (reached width next moves n from) (width * i + x) false ≡ true
  unfolding reached first
  path_found {k} {i} {x} p = rw (settle-iter (succs width next moves) (width * n) (first width n from)) (rw length-first at (complete (succs width next moves) (first width n from) inside k (width * i + x) (to_walk p)))
