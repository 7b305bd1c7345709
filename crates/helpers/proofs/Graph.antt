-- The one graph over the whole table finds the smallest marks, and within each procedure what the analysis under these marks finds.
use Prim.Native.Nat.{ℕ, zero, suc, ◌+◌, ◌-◌, ◌*◌, ◌/◌, ◌%◌, ◌<◌, ◌≤◌}
use mathlib.Core.Path.{◌≡◌, refl, ap, sym, ◌∙◌}
use mathlib.Core.List.Memᴰ
use mathlib.Core.List.{List, [], ◌∷◌}
use mathlib.Core.Bool.{Bool, true, false, cond, false≢true, ◌&&◌}
use mathlib.Core.Logic.{⊎_elim}
use native.Mathlib.Nat.{add-zero, mod-lt}
use native.Mathlib.Omega.{arith}
use borrow.Author.Tests.{eqb-true, ltb-true, ltb-false, lt-ltb, le-ltb, eq-eqb}
use lib.Dec.{eqb, ltb}
use lib.ListN.{length, get_or, replicate, length-replicate}
use Rattle.laws.proofs.Lists.{length-tabulate, get_d_tabulate}
use Rattle.laws.proofs.Tests.{and_both, both_and, same_test}
use Rattle.reach.specs.Reach.{Mem, here, there, At, Inside, Walk, start, step, mark, push, sweep, rounds}
use Rattle.reach.proofs.Laws.{at-below, none-at, length-mark, mark-new, mark_inv, stays, length-iter, sound, complete}
use Rattle.table.specs.Format.{op_call}
use Rattle.flow.specs.Places.{operand_place, operand_marked, mark_places, place_moves}
use Rattle.flow.specs.code.Paths.{at_first, onwards}
use Rattle.flow.proofs.Paths.{node_div, node_mod, node_lt, nodes_of_inv, nodes_of_mem}
use Rattle.helpers.specs.Marks.{Procedure, per_procedure, result_at, parameter_of, result_of, step_under, Below}
use Rattle.helpers.specs.Rounds.{up_to, sends, nodes_under, given_of}
use Rattle.helpers.proofs.Fits.{Fits}
use Rattle.helpers.proofs.Net.{Spot, heads, codes, blank, Layout, per_row, Placed, mark_node, mark_nodes_of, calls_at, after, follow, follows, entry_of, entries, arrived, inside, pushed_at, result_to, edges, graph, source_of, sources, source_set, found, read_off}
use Rattle.helpers.proofs.Lists.{cond_mem, cond_inv, up_to_mem, up_to_inv, rows_inv, rows_mem, lower_mem, lower_inv}
use Rattle.helpers.proofs.Under.{length-fresh, call-fresh, own_fresh, fresh-under, moves-same, bare_inv, bare_mem, bare_stays, moves_mono, start_bare, start_inv, start_mem, places_small, PathUnder, Sent, path_below, path_small, sends-below, node_shown, node_found}
use Rattle.helpers.proofs.Smallest.{only-sent}

-- Nodes.

whole : (v : ℕ) → per_procedure * (v / per_procedure) + v % per_procedure ≡ v
whole v = omega arith

part : (v n : ℕ) → v < per_procedure * n → v / per_procedure < n
part v n h = omega arith

none_below : (m : List Bool) → Below [] m
none_below m v h = absurd (false≢true h)

nodes_inv : (at : Layout) (vs : List ℕ) {u : ℕ} → Mem u (mark_nodes_of at vs) → (v : ℕ) × Mem v vs × (u ≡ mark_node at v)
unfolding mark_nodes_of
nodes_inv at [] {u = u} x' = elim x' [ ]
nodes_inv at (v ∷ vs) (here e) = (v, here refl, e)
nodes_inv at (v ∷ vs) (there m) = let r = nodes_inv at vs m in (r.0, there r.1, r.2)

nodes_mem : (at : Layout) {v : ℕ} {vs : List ℕ} → Mem v vs → Mem (mark_node at v) (mark_nodes_of at vs)
unfolding mark_nodes_of
nodes_mem at (here e) = here (ap (mark_node at) e)
nodes_mem at (there m) = there (nodes_mem at m)

-- With no source the search finds nothing.

push-none : (n : ℕ) (succs : ℕ → List ℕ) (u : ℕ) (acc : List Bool) → push succs u (replicate n false) acc ≡ acc
unfolding push
push-none zero succs u acc = refl
push-none (suc n) succs u acc = push-none n succs (u + 1) acc

sweep-none : (n : ℕ) (succs : ℕ → List ℕ) → sweep succs (replicate n false) ≡ replicate n false
unfolding sweep
sweep-none n succs = push-none n succs 0 (replicate n false)

pub no_sources : (code : ℕ → Procedure) (at : Layout) → sources code at ≡ [] → found code at ≡ replicate (per_row * at.rows) false
unfolding found source_set mark rounds
no_sources code at e =
    rw e
    (sym (stays (sweep (graph code at)) (replicate (per_row * at.rows) false) 0 (per_row * at.rows) (sweep-none (per_row * at.rows) (graph code at)) (omega arith)))

-- Searches of the code that are done have found these.
module _ (code : ℕ → Procedure) (at : Layout) where
  -- the set of the first rows
  entry_set : List Bool
  entry_set = mark (replicate at.rows false) (entries code at)

  length-entries : length entry_set ≡ at.rows
  unfolding entry_set
  length-entries = length-mark _ (replicate at.rows false) ∙ length-replicate at.rows false

  pub length_arrived : length (arrived code at) ≡ at.rows
  unfolding arrived entry_set
  length_arrived = length-iter (follows code at) at.rows entry_set ∙ length-entries

  pub length_sources : length (source_set code at) ≡ per_row * at.rows
  unfolding source_set
  length_sources = length-mark _ (replicate (per_row * at.rows) false) ∙ length-replicate (per_row * at.rows) false

  pub length_found : length (found code at) ≡ per_row * at.rows
  unfolding found
  length_found = length-iter (graph code at) (per_row * at.rows) (source_set code at) ∙ length_sources

module _ (code : ℕ → Procedure) (count : ℕ) (fit : Fits code count) (at : Layout) (placed : Placed code count at) where
  -- Arrivals.

  -- what a row that is arrived at says
  Comes : List Bool → Spot → Type 0
  Comes m (heads q) = ⊥
  Comes m (codes q i) = (k : ℕ) × PathUnder code m q k i 0
  Comes m blank = ⊥

  first-row : (q : ℕ) → q < count → (at.base q < at.rows) × (at.spot (at.base q) ≡ codes q 0)
  first-row q h = rw add-zero at (placed.codes_at q 0 h (fit.some q h))

  follow_inv : (s : Spot) {v : ℕ} → Mem v (follow code at s) → (q i j : ℕ) × (s ≡ codes q i) × Mem j ((code q).next i) × (v ≡ at.base q + j)
  unfolding follow after
  follow_inv (heads q) t = absurd (Memᴰ.not-nil t)
  follow_inv (codes q i) t = let r = rows_inv (at.base q) ((code q).next i) t in (q, i, r.0, refl, r.1, r.2)
  follow_inv blank t = absurd (Memᴰ.not-nil t)

  -- a row goes on to a row of the same procedure
  follows_inv : (row : ℕ) {v : ℕ} → Mem v (follows code at row)
      → (q i j : ℕ) × (at.spot row ≡ codes q i) × Mem j ((code q).next i) × (v ≡ at.base q + j) × (at.base q + j < at.rows) × (at.spot (at.base q + j) ≡ codes q j)
  unfolding follows
  follows_inv row t =
      let r = follow_inv (at.spot row) t in
      let c = (placed.code-there row r.0 r.1 r.3).0 in
      let d = placed.codes_at r.0 r.2 c (fit.next_below r.0 c r.1 r.2 r.4) in
      (r.0, r.1, r.2, r.3, r.4, r.5, d.0, d.1)

  pub rows_inside : Inside (follows code at) at.rows
  rows_inside u v h t = let r = follows_inv u t in rw r.5 r.6

  entry_inv : (s : Spot) {v : ℕ} → Mem v (entry_of code at s) → (q : ℕ) × (s ≡ heads q) × (v ≡ at.base q)
  unfolding entry_of
  entry_inv (heads q) t = (q, refl, Memᴰ.eq_of_singleton t)
  entry_inv (codes q i) t = absurd (Memᴰ.not-nil t)
  entry_inv blank t = absurd (Memᴰ.not-nil t)

  entries_inv : {v : ℕ} → Mem v (entries code at) → (q : ℕ) × (q < count) × (v ≡ at.base q)
  unfolding entries
  entries_inv t =
      let r = up_to_inv _ at.rows t in
      let e = entry_inv (at.spot r.0) r.2 in
      (e.0, (placed.head_there r.0 e.0 e.1).0, e.2)

  pub entries_below : (v : ℕ) → Mem v (entries code at) → v < at.rows
  entries_below v t = let r = entries_inv t in rw r.2 (first-row r.0 r.1).0

  row_comes : (m : List Bool) {k v : ℕ} → Walk (follows code at) (entry_set code at) k v → Comes m (at.spot v)
  unfolding entry_set Comes
  row_comes m {v = v} (start h) =
      ⊎_elim
      (λ a. absurd (none-at at.rows v a))
      (λ t. let r = entries_inv t in rw (r.2, (first-row r.0 r.1).1) (0, at_first (start_bare (parameter_of m r.0) (code r.0).params)))
      (mark_inv _ (replicate at.rows false) v h)
  row_comes m (step {u = u} w t) =
      let r = follows_inv u t in
      let c : (k : ℕ) × PathUnder code m r.0 k r.1 0 = rw r.3 at (row_comes m w) in
      rw (r.5, r.7) (suc c.0, onwards c.1 r.4 (bare_stays (λ (i : ℕ). step_under m ((code r.0).step i)) r.1))

  path_row : (m : List Bool) (q : ℕ) → q < count → {k i x : ℕ} → PathUnder code m q k i x → Walk (follows code at) (entry_set code at) k (at.base q + i)
  unfolding entry_set entries entry_of follows follow after
  path_row m q h (at_first t) =
      let c = placed.heads_at q h in
      rw add-zero (start {v = at.base q} (mark-new (up_to_mem _ at.rows (at.head q) c.0 (rw c.1 (here refl))) (replicate at.rows false) (rw length-replicate (first-row q h).0)))
  path_row m q h (onwards {i = i} {j = j} p n t) =
      step {v = at.base q + j} (path_row m q h p) (rw (placed.codes_at q i h (path_below code count fit m q h p)).1 (rows_mem (at.base q) n))

  -- THE ARRIVALS, which do not depend on the marks
  pub arrives_shown : (m : List Bool) (q i : ℕ) → q < count → i < (code q).size → get_or (arrived code at) (at.base q + i) false ≡ true → (k : ℕ) × PathUnder code m q k i 0
  unfolding arrived entry_set Comes
  arrives_shown m q i h b e = rw (placed.codes_at q i h b).1 at (row_comes m (sound (follows code at) at.rows (entry_set code at) (at.base q + i) e).2)

  pub arrives_found : (m : List Bool) (q : ℕ) → q < count → {k i x : ℕ} → PathUnder code m q k i x → get_or (arrived code at) (at.base q + i) false ≡ true
  unfolding arrived entry_set
  arrives_found m q h {k = k} {i = i} p = rw (length-entries code at) at (complete (follows code at) (entry_set code at) (rw (length-entries code at) rows_inside) k (at.base q + i) (path_row m q h p))

  -- Edges.

  inside_inv : (q i x : ℕ) {v : ℕ} → Mem v (inside code at q i x)
      → (j y : ℕ) × Mem j ((code q).next i) × Mem (suc y) (place_moves (λ (i : ℕ). step_under [] ((code q).step i)) i x) × (v ≡ per_row * (at.base q + j) + y) × (y < per_row)
  unfolding inside after
  inside_inv q i x t =
      let a = nodes_of_inv per_row _ _ t in
      let b = rows_inv (at.base q) ((code q).next i) a.2 in
      let c = lower_inv _ a.3 in
      (b.0, a.1, b.1, c, rw b.2 at a.4, omega (arith, places_small (λ (i : ℕ). step_under [] ((code q).step i)) i x c))

  inside_mem : (q i x j y : ℕ) → Mem j ((code q).next i) → Mem (suc y) (place_moves (λ (i : ℕ). step_under [] ((code q).step i)) i x) → Mem (per_row * (at.base q + j) + y) (inside code at q i x)
  unfolding inside after
  inside_mem q i x j y h t = nodes_of_mem per_row (rows_mem (at.base q) h) (lower_mem _ t)

  -- what an edge is
  data Edge (v : ℕ) : Spot → ℕ → Type 0 where
    entering : (q x : ℕ) → x < (code q).params → v ≡ per_row * at.base q + x → Edge v (heads q) x
    pushing : (q x p i j : ℕ) → 16 ≤ x → p < count → i < (code p).size → get_or (arrived code at) (at.base p + i) false ≡ true → eqb ((code p).step i).opcode op_call ≡ true → ((code p).step i).operand ≡ q
        → x - 16 < length ((code p).step i).fresh → Mem j ((code p).next i) → v ≡ per_row * (at.base p + j) + (16 + (length ((code p).step i).fresh - 1 - (x - 16))) → Edge v (heads q) x
    moving : (q i x j y : ℕ) → Mem j ((code q).next i) → Mem (suc y) (place_moves (λ (i : ℕ). step_under [] ((code q).step i)) i (suc x)) → v ≡ per_row * (at.base q + j) + y → y < per_row → Edge v (codes q i) x
    sending : (q i x w : ℕ) → 16 ≤ x → Mem w (sends (code q) q i (x - 16)) → v ≡ mark_node at w → Edge v (codes q i) x

  pushed_inv : (q x row : ℕ) {v : ℕ} → 16 ≤ x → (s : Spot) → at.spot row ≡ s → Mem v (cond (calls_at code q s) (pushed_at code at row (x - 16) s) []) → Edge v (heads q) x
  unfolding calls_at pushed_at after
  pushed_inv q x row l (heads p) f t = absurd (Memᴰ.not-nil t)
  pushed_inv q x row l (codes p i) f t =
      let c = cond_inv (eqb ((code p).step i).opcode op_call && eqb ((code p).step i).operand q) t in
      let a = and_both (eqb ((code p).step i).opcode op_call) (eqb ((code p).step i).operand q) c.0 in
      let d = cond_inv (get_or (arrived code at) row false && ltb (x - 16) (length ((code p).step i).fresh)) c.1 in
      let b = and_both (get_or (arrived code at) row false) (ltb (x - 16) (length ((code p).step i).fresh)) d.0 in
      let n = nodes_of_inv per_row _ _ d.1 in
      let r = rows_inv (at.base p) ((code p).next i) n.2 in
      let w = placed.code-there row p i f in
      pushing q x p i r.0 l w.0 w.1 (rw w.2 at b.0) a.0 (eqb-true ((code p).step i).operand q a.1) (ltb-true (x - 16) (length ((code p).step i).fresh) b.1) r.1
      (rw (r.2, Memᴰ.eq_of_singleton n.3) at n.4)
  pushed_inv q x row l blank f t = absurd (Memᴰ.not-nil t)

  edge_inv : (s : Spot) (x : ℕ) {v : ℕ} → Mem v (edges code at s x) → Edge v s x
  unfolding edges result_to
  edge_inv (heads q) x {v} t = go (ltb x 16) refl t
    where
      go : (b : Bool) → ltb x 16 ≡ b
          → Mem v (cond b (cond (ltb x (code q).params) ((per_row * at.base q + x) ∷ []) []) (up_to (result_to code at q (x - 16)) at.rows))
          → Edge v (heads q) x
      go true e t = let c = cond_inv (ltb x (code q).params) t in entering q x (ltb-true x (code q).params c.0) (Memᴰ.eq_of_singleton c.1)
      go false e t = let r = up_to_inv _ at.rows t in pushed_inv q x r.0 (ltb-false x 16 e) (at.spot r.0) refl r.2
  edge_inv (codes q i) x {v} t =
      ⊎_elim
      (λ a. let r = inside_inv q i (suc x) a in moving q i x r.0 r.1 r.2 r.3 r.4 r.5)
      (λ b. go (ltb x 16) refl b)
      (Memᴰ.append_cases (inside code at q i (suc x)) t)
    where
      go : (b : Bool) → ltb x 16 ≡ b → Mem v (cond b [] (mark_nodes_of at (sends (code q) q i (x - 16)))) → Edge v (codes q i) x
      go true e t = absurd (Memᴰ.not-nil t)
      go false e t = let r = nodes_inv at _ t in sending q i x r.0 (ltb-false x 16 e) r.1 r.2
  edge_inv blank x t = absurd (Memᴰ.not-nil t)

  mark-below : (w : ℕ) → w < per_procedure * count → mark_node at w < per_row * at.rows
  unfolding mark_node
  mark-below w h =
      let b : w % per_procedure < per_procedure = mod-lt w (omega arith) in
      node_lt per_row (at.head (w / per_procedure)) at.rows (w % per_procedure) (placed.heads_at (w / per_procedure) (part w count h)).0 (omega arith)

  code_below : (q j y : ℕ) → q < count → j < (code q).size → y < per_row → per_row * (at.base q + j) + y < per_row * at.rows
  code_below q j y h b l = node_lt per_row (at.base q + j) at.rows y (placed.codes_at q j h b).0 l

  edge-below : (s : Spot) (x : ℕ) {v : ℕ} → ((q : ℕ) → s ≡ heads q → q < count) → ((q i : ℕ) → s ≡ codes q i → q < count) → Edge v s x → v < per_row * at.rows
  edge-below _ _ f g (entering q x h e) =
      let c = f q refl in
      rw (e, ← add-zero (at.base q)) (code_below q 0 x c (fit.some q c) (omega (arith, fit.fits q c, fit.small q c)))
  edge-below _ _ f g (pushing q x p i j l h s a o b r n e) =
      rw e (code_below p j (16 + (length ((code p).step i).fresh - 1 - (x - 16))) h (fit.next_below p h i j n) (omega (arith, (fit.called p h i (eqb-true ((code p).step i).opcode op_call o)).1)))
  edge-below _ _ f g (moving q i x j y n t e b) = let c = g q i refl in rw e (code_below q j y c (fit.next_below q c i j n) b)
  edge-below _ _ f g (sending q i x w l t e) = rw e (mark-below w (sends-below code count fit q (g q i refl) i (x - 16) t))

  pub stays-inside : Inside (graph code at) (per_row * at.rows)
  unfolding graph
  stays-inside u v h t =
      edge-below (at.spot (u / per_row)) (u % per_row) (λ q e. (placed.head_there (u / per_row) q e).0) (λ q i e. (placed.code-there (u / per_row) q i e).0)
      (edge_inv (at.spot (u / per_row)) (u % per_row) t)

  source_inv : (row : ℕ) (s : Spot) {v : ℕ} → at.spot row ≡ s → Mem v (source_of code at row s)
      → (q i j y : ℕ) × (q < count) × (i < (code q).size) × (get_or (arrived code at) (at.base q + i) false ≡ true) × Mem j ((code q).next i)
      × Mem (suc y) (place_moves (λ (i : ℕ). step_under [] ((code q).step i)) i 0) × (v ≡ per_row * (at.base q + j) + y) × (y < per_row)
  unfolding source_of
  source_inv row (heads q) f t = absurd (Memᴰ.not-nil t)
  source_inv row (codes q i) f t =
      let w = placed.code-there row q i f in
      let d = cond_inv (get_or (arrived code at) row false) t in
      let r = inside_inv q i 0 d.1 in
      (q, i, r.0, r.1, w.0, w.1, rw w.2 at d.0, r.2, r.3, r.4, r.5)
  source_inv row blank f t = absurd (Memᴰ.not-nil t)

  sources_inv : {v : ℕ} → Mem v (sources code at)
      → (q i j y : ℕ) × (q < count) × (i < (code q).size) × (get_or (arrived code at) (at.base q + i) false ≡ true) × Mem j ((code q).next i)
      × Mem (suc y) (place_moves (λ (i : ℕ). step_under [] ((code q).step i)) i 0) × (v ≡ per_row * (at.base q + j) + y) × (y < per_row)
  unfolding sources
  sources_inv t = let r = up_to_inv _ at.rows t in source_inv r.0 (at.spot r.0) refl r.2

  pub sources_below : (v : ℕ) → Mem v (sources code at) → v < per_row * at.rows
  sources_below v t = let r = sources_inv t in rw r.9 (code_below r.0 r.2 r.3 r.4 (fit.next_below r.0 r.4 r.1 r.2 r.7) r.10)

  -- Soundness: what the graph reaches is marked under all closed marks.

  -- what a node says under marks m
  Means : List Bool → Spot → ℕ → Type 0
  Means m (heads q) x = (x < per_procedure) × At m (per_procedure * q + x)
  Means m (codes q i) x = (k : ℕ) × PathUnder code m q k i (suc x)
  Means m blank x = ⊥

  Holds : List Bool → ℕ → Type 0
  Holds m v = Means m (at.spot (v / per_row)) (v % per_row)

  holds-code : (m : List Bool) (q k j y : ℕ) → q < count → j < (code q).size → y < per_row → PathUnder code m q k j (suc y) → Holds m (per_row * (at.base q + j) + y)
  unfolding Holds Means
  holds-code m q k j y h b l p = rw (node_div per_row (at.base q + j) y l, node_mod per_row (at.base q + j) y l, (placed.codes_at q j h b).1) (k, p)

  holds-mark : (m : List Bool) (w : ℕ) → w < per_procedure * count → At m w → Holds m (mark_node at w)
  unfolding Holds Means mark_node
  holds-mark m w h a =
      let b : w % per_procedure < per_procedure = mod-lt w (omega arith) in
      rw (node_div per_row (at.head (w / per_procedure)) (w % per_procedure) (omega arith), node_mod per_row (at.head (w / per_procedure)) (w % per_procedure) (omega arith), (placed.heads_at (w / per_procedure) (part w count h)).1)
      (b, rw (whole w) a)

  mark-holds : (m : List Bool) (w : ℕ) → w < per_procedure * count → Holds m (mark_node at w) → At m w
  unfolding Holds Means mark_node
  mark-holds m w h a =
      let b : w % per_procedure < per_procedure = mod-lt w (omega arith) in
      rw (whole w) at
      (rw (node_div per_row (at.head (w / per_procedure)) (w % per_procedure) (omega arith), node_mod per_row (at.head (w / per_procedure)) (w % per_procedure) (omega arith), (placed.heads_at (w / per_procedure) (part w count h)).1) at a).1

  code_holds : (m : List Bool) (q j y : ℕ) → q < count → j < (code q).size → y < per_row → Holds m (per_row * (at.base q + j) + y) → (k : ℕ) × PathUnder code m q k j (suc y)
  unfolding Holds Means
  code_holds m q j y h b l a = rw (node_div per_row (at.base q + j) y l, node_mod per_row (at.base q + j) y l, (placed.codes_at q j h b).1) at a

  module _ (m : List Bool) (closed : Sent code count m) where
    edge-holds : (s : Spot) (x : ℕ) {v : ℕ} → ((q : ℕ) → s ≡ heads q → q < count) → ((q i : ℕ) → s ≡ codes q i → q < count) → Edge v s x → Means m s x → Holds m v
    unfolding Means parameter_of result_of
    edge-holds _ _ f g (entering q x h e) a =
        let c = f q refl in
        rw (e, ← add-zero (at.base q)) (holds-code m q 0 0 x c (fit.some q c) (omega (arith, fit.fits q c, fit.small q c)) (at_first (start_mem (parameter_of m q) (code q).params x h a.1)))
    edge-holds _ _ f g (pushing q x p i j l h s r o b c n e) a =
        let path = arrives_shown m p i h s r in
        let fewer = (fit.called p h i (eqb-true ((code p).step i).opcode op_call o)).1 in
        let len = length-fresh m ((code p).step i) in
        let z : result_at q (x - 16) ≡ per_procedure * q + x = omega arith in
        let marked : get_or (step_under m ((code p).step i)).fresh (x - 16) false ≡ true = call-fresh m ((code p).step i) (x - 16) o c ∙ (rw (b, z) a.1) in
        let t = bare_mem (λ (i : ℕ). step_under m ((code p).step i)) i (x - 16) (rw len c) marked (rw len (omega (arith, fewer))) in
        let y : operand_place (length ((code p).step i).fresh - 1 - (x - 16)) ≡ suc (16 + (length ((code p).step i).fresh - 1 - (x - 16))) = omega arith in
        rw e (holds-code m p (suc path.0) j (16 + (length ((code p).step i).fresh - 1 - (x - 16))) h (fit.next_below p h i j n) (omega (arith, fewer)) (onwards path.1 n (rw (len, y) at t)))
    edge-holds _ _ f g (moving q i x j y n t e b) a =
        let c = g q i refl in
        rw e (holds-code m q (suc a.0) j y c (fit.next_below q c i j n) b (onwards a.1 n (moves_mono [] m (none_below m) (code q).step i (suc x) t)))
    edge-holds _ _ f g (sending q i x w l t e) a =
        let c = g q i refl in
        let z : suc x ≡ operand_place (x - 16) = omega arith in
        rw e (holds-mark m w (sends-below code count fit q c i (x - 16) t) (closed q c a.0 i (x - 16) (rw z at a.1) w t))

    source_holds : {v : ℕ} → Mem v (sources code at) → Holds m v
    source_holds t =
        let r = sources_inv t in
        let p = arrives_shown m r.0 r.1 r.4 r.5 r.6 in
        rw r.9
        (holds-code m r.0 (suc p.0) r.2 r.3 r.4 (fit.next_below r.0 r.4 r.1 r.2 r.7) r.10
        (onwards p.1 r.7 (moves_mono [] m (none_below m) (code r.0).step r.1 0 r.8)))

    walk_holds : {k v : ℕ} → Walk (graph code at) (source_set code at) k v → Holds m v
    unfolding graph source_set Holds
    walk_holds {v = v} (start h) =
        ⊎_elim
        (λ a. absurd (none-at (per_row * at.rows) v a))
        (λ t. source_holds t)
        (mark_inv _ (replicate (per_row * at.rows) false) v h)
    walk_holds (step {u = u} w t) =
        edge-holds (at.spot (u / per_row)) (u % per_row) (λ q e. (placed.head_there (u / per_row) q e).0) (λ q i e. (placed.code-there (u / per_row) q i e).0)
        (edge_inv (at.spot (u / per_row)) (u % per_row) t) (walk_holds w)

    found-holds : (v : ℕ) → At (found code at) v → Holds m v
    unfolding found
    found-holds v h = walk_holds (sound (graph code at) (per_row * at.rows) (source_set code at) v h).2

  -- Completeness: the marks that are read off are closed.

  found_walk : {k v : ℕ} → Walk (graph code at) (source_set code at) k v → At (found code at) v
  unfolding found
  found_walk {k} {v} w = rw (length_sources code at) at (complete (graph code at) (source_set code at) (rw (length_sources code at) stays-inside) k v w)

  found-edge : (u : ℕ) {v : ℕ} → At (found code at) u → Mem v (graph code at u) → At (found code at) v
  unfolding found
  found-edge u h t = found_walk (step (sound (graph code at) (per_row * at.rows) (source_set code at) u h).2 t)

  found_source : (v : ℕ) → Mem v (sources code at) → At (found code at) v
  unfolding source_set
  found_source v t = found_walk (start (mark-new t (replicate (per_row * at.rows) false) (rw length-replicate (sources_below v t))))

  -- the successors of a place of a procedure's own row, and of an instruction's
  head_graph : (q x : ℕ) → q < count → x < per_row → graph code at (per_row * at.head q + x) ≡ edges code at (heads q) x
  unfolding graph
  head_graph q x h l = rw (node_div per_row (at.head q) x l, node_mod per_row (at.head q) x l, (placed.heads_at q h).1) refl

  code_graph : (q i x : ℕ) → q < count → i < (code q).size → x < per_row → graph code at (per_row * (at.base q + i) + x) ≡ edges code at (codes q i) x
  unfolding graph
  code_graph q i x h b l = rw (node_div per_row (at.base q + i) x l, node_mod per_row (at.base q + i) x l, (placed.codes_at q i h b).1) refl

  found_first : (q x : ℕ) → q < count → x < (code q).params → At (found code at) (per_row * at.head q + x) → At (found code at) (per_row * (at.base q + 0) + x)
  unfolding edges
  found_first q x h b a =
      let l : x < 16 = omega (arith, fit.fits q h, fit.small q h) in
      rw add-zero (found-edge (per_row * at.head q + x) a (rw (head_graph q x h (omega arith), lt-ltb x 16 l, lt-ltb x (code q).params b) (here refl)))

  found-pushed : (p i j r : ℕ) → p < count → i < (code p).size → get_or (arrived code at) (at.base p + i) false ≡ true → eqb ((code p).step i).opcode op_call ≡ true
      → r < length ((code p).step i).fresh → Mem j ((code p).next i) → At (found code at) (per_row * at.head ((code p).step i).operand + (16 + r))
      → At (found code at) (per_row * (at.base p + j) + (16 + (length ((code p).step i).fresh - 1 - r)))
  unfolding edges result_to calls_at pushed_at after
  found-pushed p i j r h b e o c n a =
      let d = fit.called p h i (eqb-true ((code p).step i).opcode op_call o) in
      let z : 16 + r - 16 ≡ r = omega arith in
      found-edge (per_row * at.head ((code p).step i).operand + (16 + r)) a
      (rw (head_graph ((code p).step i).operand (16 + r) d.0 (omega (arith, d.1)), le-ltb (16 + r) 16 (omega arith), z)
      (up_to_mem _ at.rows (at.base p + i) (placed.codes_at p i h b).0
      (rw (placed.codes_at p i h b).1
      (cond_mem (both_and o (eq-eqb ((code p).step i).operand ((code p).step i).operand refl))
      (cond_mem (both_and e (lt-ltb r (length ((code p).step i).fresh) c)) (nodes_of_mem per_row (rows_mem (at.base p) n) (here refl)))))))

  found-moved : (q i x j y : ℕ) → q < count → i < (code q).size → x < per_row → Mem j ((code q).next i) → Mem (suc y) (place_moves (λ (i : ℕ). step_under [] ((code q).step i)) i (suc x))
      → At (found code at) (per_row * (at.base q + i) + x) → At (found code at) (per_row * (at.base q + j) + y)
  unfolding edges
  found-moved q i x j y h b l n t a = found-edge (per_row * (at.base q + i) + x) a (rw (code_graph q i x h b l) (Memᴰ.append_left _ (inside_mem q i (suc x) j y n t)))

  found-sent : (q i j w : ℕ) → q < count → i < (code q).size → j < 16 → Mem w (sends (code q) q i j) → At (found code at) (per_row * (at.base q + i) + (16 + j)) → At (found code at) (mark_node at w)
  unfolding edges
  found-sent q i j w h b l t a =
      let z : 16 + j - 16 ≡ j = omega arith in
      found-edge (per_row * (at.base q + i) + (16 + j)) a
      (rw (code_graph q i (16 + j) h b (omega arith), le-ltb (16 + j) 16 (omega arith), z) (Memᴰ.append_right (inside code at q i (suc (16 + j))) (nodes_mem at t)))

  found-own : (q i j y : ℕ) → q < count → i < (code q).size → get_or (arrived code at) (at.base q + i) false ≡ true → Mem j ((code q).next i)
      → Mem (suc y) (place_moves (λ (i : ℕ). step_under [] ((code q).step i)) i 0) → At (found code at) (per_row * (at.base q + j) + y)
  unfolding sources source_of
  found-own q i j y h b e n t =
      found_source _ (up_to_mem _ at.rows (at.base q + i) (placed.codes_at q i h b).0 (rw (placed.codes_at q i h b).1 (cond_mem e (inside_mem q i 0 j y n t))))

  -- the marks that the search finds
  marks : List Bool
  marks = read_off at count (found code at)

  length_marks : length marks ≡ per_procedure * count
  unfolding marks read_off
  length_marks = length-tabulate _ (per_procedure * count)

  mark-at : (w : ℕ) → w < per_procedure * count → get_or marks w false ≡ get_or (found code at) (mark_node at w) false
  unfolding marks read_off
  mark-at w h = get_d_tabulate _ false (per_procedure * count) w h

  place_at : (q x : ℕ) → q < count → x < per_procedure → get_or marks (per_procedure * q + x) false ≡ get_or (found code at) (per_row * at.head q + x) false
  unfolding mark_node
  place_at q x h l = mark-at (per_procedure * q + x) (omega arith) ∙ ap (λ (u : ℕ). get_or (found code at) u false) same
    where
      same : mark_node at (per_procedure * q + x) ≡ per_row * at.head q + x
      same = rw (node_div per_procedure q x l, node_mod per_procedure q x l) refl

  -- what is marked of itself under these marks, on arriving, is found
  found-fresh : (q i j r : ℕ) → q < count → i < (code q).size → get_or (arrived code at) (at.base q + i) false ≡ true → Mem j ((code q).next i) → r < length ((code q).step i).fresh
      → 16 + (length ((code q).step i).fresh - 1 - r) < per_row → get_or (step_under marks ((code q).step i)).fresh r false ≡ true
      → At (found code at) (per_row * (at.base q + j) + (16 + (length ((code q).step i).fresh - 1 - r)))
  unfolding result_of
  found-fresh q i j r h b e n c l g =
      ⊎_elim
      (λ a.
      let d = fit.called q h i (eqb-true ((code q).step i).opcode op_call a.0) in
      found-pushed q i j r h b e a.0 c n (sym (place_at ((code q).step i).operand (16 + r) d.0 (omega (arith, d.1))) ∙ a.1))
      (λ a.
      let f = own_fresh [] ((code q).step i) a.0 in
      let z : operand_place (length ((code q).step i).fresh - 1 - r) ≡ suc (16 + (length ((code q).step i).fresh - 1 - r)) = omega arith in
      found-own q i j (16 + (length ((code q).step i).fresh - 1 - r)) h b e n
      (rw (f, z) at (bare_mem (λ (i : ℕ). step_under [] ((code q).step i)) i r (rw f c) (rw f a.1) (rw f (omega arith)))))
      (fresh-under marks ((code q).step i) r c g)

  found_bare : (q i j y : ℕ) → q < count → i < (code q).size → get_or (arrived code at) (at.base q + i) false ≡ true → Mem j ((code q).next i)
      → (r : ℕ) → r < length (step_under marks ((code q).step i)).fresh → get_or (step_under marks ((code q).step i)).fresh r false ≡ true
      → suc y ≡ operand_place (length (step_under marks ((code q).step i)).fresh - 1 - r) → suc y < mark_places → At (found code at) (per_row * (at.base q + j) + y)
  found_bare q i j y h b a n r c g e l =
      let len = length-fresh marks ((code q).step i) in
      let z : y ≡ 16 + (length ((code q).step i).fresh - 1 - r) = omega (arith, e, len) in
      rw z (found-fresh q i j r h b a n (rw len at c) (omega (arith, l, z)) g)

  -- what walks under these marks come to is found
  found_path : (q : ℕ) → q < count → {k i x : ℕ} → PathUnder code marks q k i x → (y : ℕ) → x ≡ suc y → At (found code at) (per_row * (at.base q + i) + y)
  unfolding parameter_of place_moves
  found_path q h (at_first t) y e =
      let s = start_inv (parameter_of marks q) (code q).params (rw e at t) in
      found_first q y h s.0 (sym (place_at q y h (omega (arith, s.0, fit.fits q h, fit.small q h))) ∙ s.1)
  found_path q h (onwards {i = i} {j = j} {x = zero} p n t) y e =
      ⊎_elim
      (λ z. absurd (omega (arith, z, e)))
      (λ f. found_bare q i j y h (path_below code count fit marks q h p) (arrives_found marks q h p) n f.0 f.1 f.2 (sym e ∙ f.3) (rw e at f.4))
      (bare_inv (λ (i : ℕ). step_under marks ((code q).step i)) i t)
  found_path q h (onwards {i = i} {j = j} {x = suc x} p n t) y e =
      found-moved q i x j y h (path_below code count fit marks q h p) (omega (arith, path_small code count fit marks q h p)) n (rw (e, moves-same marks [] ((code q).step i) x) at t) (found_path q h p x refl)

  marks_sent : Sent code count marks
  marks_sent q h k i j p w t =
      let z : operand_place j ≡ suc (16 + j) = omega arith in
      mark-at w (sends-below code count fit q h i j t) ∙ found-sent q i j w h (path_below code count fit marks q h p) (omega (arith, path_small code count fit marks q h p)) t (found_path q h p (16 + j) z)

  -- they are the smallest
  least : (m : List Bool) → Sent code count m → (w : ℕ) → w < per_procedure * count → At marks w → At m w
  least m s w b a = mark-holds m w b (found-holds m s (mark_node at w) (sym (mark-at w b) ∙ a))

  marks_given : marks ≡ given_of code count
  marks_given = only-sent code count fit marks length_marks marks_sent (λ m s w a. least m s w (rw length_marks at (at-below marks w a)) a)

  -- THE SEARCH FINDS THE SMALLEST MARKS
  pub found-given : read_off at count (found code at) ≡ given_of code count
  unfolding marks
  found-given = marks_given

  -- and within a procedure what the analysis under them finds
  found-under : (q i x : ℕ) → q < count → i < (code q).size → x < per_row → get_or (found code at) (per_row * (at.base q + i) + x) false ≡ get_or (nodes_under code marks q) (mark_places * i + suc x) false
  found-under q i x h b l =
      same_test _ _
      (λ a. node_found code count fit marks q h (code_holds marks q i x h b l (found-holds marks marks_sent (per_row * (at.base q + i) + x) a)).1)
      (λ a. let p = node_shown code count fit marks q h i (suc x) (omega arith) a in found_path q h p.1 x refl)

  pub found_nodes : (q i x : ℕ) → q < count → i < (code q).size → x < per_row
      → get_or (found code at) (per_row * (at.base q + i) + x) false ≡ get_or (nodes_under code (given_of code count) q) (mark_places * i + suc x) false
  found_nodes q i x h b l = found-under q i x h b l ∙ ap (λ (m : List Bool). get_or (nodes_under code m q) (mark_places * i + suc x) false) marks_given

  -- what the leaks pass asks of operand j
  pub found-operand : (q i j : ℕ) → q < count → i < (code q).size → j < 16
      → get_or (found code at) (per_row * (at.base q + i) + (16 + j)) false ≡ operand_marked (nodes_under code (given_of code count) q) i j
  found-operand q i j h b l =
      let z : mark_places * i + suc (16 + j) ≡ mark_places * i + operand_place j = omega arith in
      found_nodes q i (16 + j) h b (omega arith) ∙ ap (λ (u : ℕ). get_or (nodes_under code (given_of code count) q) u false) z
