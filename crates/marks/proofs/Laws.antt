-- Laws of the search for marks: what each list of nodes is, as the code tests it, and visits of them.
use Prim.Native.Nat.{ℕ, zero, suc, ◌+◌, ◌-◌, ◌*◌, ◌<◌, ◌≤◌}
use mathlib.Core.Path.{◌≡◌, refl, ap, sym, subst⁻¹, ◌∙◌}
use mathlib.Core.Bool.{Bool, true, false}
use mathlib.Core.List.{List, [], ◌∷◌, ◌++◌}
use native.Mathlib.Nat.{mul-le-mul}
use native.Mathlib.Omega.{arith}
use borrow.Author.Tests.{lt-ltb, le-ltb, eq-eqb, ne_eqb}
use lib.ListN.{length, get_or, replicate, length-replicate}
use Rattle.reach.specs.Reach.{Mem, Inside, Reached, iter, mark}
use Rattle.reach.specs.code.Search.{Searched, Visit, after, max_node, visit_of, visit_all}
use Rattle.reach.proofs.Laws.{length-mark}
use Rattle.reach.proofs.Search.{reached-step, visited-left, visits-visited, visits-at, seen_stays_all, search_from, taken, finish, tail-le, queued-below}
use Rattle.table.specs.declared.Row.{Row}
use Rattle.table.specs.declared.index.Index.{Index}
use Rattle.table.specs.Format.{procedure_kind, instruction_kind, op_ret, op_branch, op_branch_cond}
use Rattle.table.specs.Rows.{row_at, kind_at, is_kind}
use Rattle.flow.specs.Places.{nodes_at, nodes_of}
use Rattle.helpers.specs.Rounds.{up_to}
use Rattle.helpers.specs.code.Chains.{chain, along}
use Rattle.entries.specs.declared.RowEntry.{RowEntry}
use Rattle.entries.specs.code.Entries.{no_entry, makes_at}
use Rattle.marks.specs.code.Search.{next_rows, rows_after, first_at, goes_to, copies, gone, copied, sent_to, code_edges, pushed_at, result_edges, head_edges, place_edges, made_at}

-- The node that is followed is expanded once its successors are visited, and then none is followed.
module _ {succs : ℕ → List ℕ} {s seen : List Bool} {queue : List ℕ} {head tail u : ℕ} (state : Searched succs s seen queue head tail u) (inside : Inside succs (length s)) (few : length s ≤ max_node + 1) (here-is : u < length s) where
  next-reached : (w : ℕ) → Mem w (succs u) → Reached succs s w
  next-reached w m = reached-step succs s (state.visits.reached u (state.visits.entered here-is)) m

  follow_all : {x : Visit} → x ≡ visit_all (after seen queue tail) (succs u) → Searched succs s x.visited x.queue head x.tail (length s)
  follow_all e =
      subst⁻¹ (λ (x : Visit). Searched succs s x.visited x.queue head x.tail (length s)) e (record {
        visits = visited-left (visits-visited succs s head u (succs u) next-reached start state.visits) (length s) (omega arith) (λ w l m. visits-at succs s m next-reached (inside u w l m) (omega (arith, inside u w l m)) start state.visits);
        holds = λ w a. seen_stays_all start (succs u) w (state.holds w a);
      })
    where
      start : Visit
      start = after seen queue tail

-- a node's number is small
pub node_small : (width j : ℕ) → width ≤ 32 → j ≤ 131070 → width * j ≤ 4194240
node_small width j h l = mul-le-mul h l

-- Visits of a place of the rows after an instruction.
module _ (row : Row) (at base width place : ℕ) (x : Visit) where
  abbrev places : List ℕ
  places = nodes_of width (next_rows row at base) (place ∷ [])

  pub next_none : row.a ≡ op_ret → x ≡ visit_all x places
  unfolding next_rows nodes_of visit_all
  next_none e = rw e refl

  pub next_branch : {y : Visit} → row.a ≡ op_branch → y ≡ visit_of x.visited x.queue x.tail (width * (base + row.b) + place) → y ≡ visit_all x places
  unfolding next_rows nodes_of nodes_at visit_all
  next_branch e h = rw e h

  module _ {y : Visit} (first : y ≡ visit_of x.visited x.queue x.tail (width * (at + 1) + place)) where
    pub next_both : {z : Visit} → row.a ≡ op_branch_cond → z ≡ visit_of y.visited y.queue y.tail (width * (base + row.b) + place) → z ≡ visit_all x places
    unfolding next_rows nodes_of nodes_at visit_all
    next_both e h = rw (e, ← first) h

    pub next_one : (row.a ≡ op_ret → ⊥) → (row.a ≡ op_branch → ⊥) → (row.a ≡ op_branch_cond → ⊥) → y ≡ visit_all x places
    unfolding next_rows nodes_of nodes_at visit_all
    next_one r b c = rw (ne_eqb row.a op_ret r, ne_eqb row.a op_branch b, ne_eqb row.a op_branch_cond c) first

-- Visits of several lists, one after the other.
pub visits_append : (xs ys : List ℕ) (x : Visit) → visit_all x (xs ++ ys) ≡ visit_all (visit_all x xs) ys
unfolding visit_all
visits_append [] ys x = refl
visits_append (v ∷ xs) ys x = visits_append xs ys (visit_of x.visited x.queue x.tail v)

pub visits-two : (xs ys : List ℕ) (w : Visit) {x y : Visit} → x ≡ visit_all w xs → y ≡ visit_all x ys → y ≡ visit_all w (xs ++ ys)
visits-two xs ys w p q = rw (visits_append, ← p) q

-- what is left of the visits, after those of the first list
visits-rest : (xs ys : List ℕ) (i x : Visit) {y : Visit} → i ≡ visit_all x (xs ++ ys) → y ≡ visit_all x xs → i ≡ visit_all y ys
visits-rest xs ys i x e v = e ∙ visits_append xs ys x ∙ ap (λ (z : Visit). visit_all z ys) (sym v)

-- Where a mark goes to after an instruction, and where its copy does.
module _ (row : Row) (at base : ℕ) (w : Visit) where
  pub gone_some : (takes gives x : ℕ) {y : Visit} {place : ℕ} → place ≡ goes_to row takes gives x → place < 32 → y ≡ visit_all w (nodes_of 32 (next_rows row at base) (place ∷ [])) → y ≡ visit_all w (gone row at base takes gives x)
  gone_some takes gives x {place = place} e h q = rw (← e, lt-ltb place 32 h) q

  pub gone_none : (takes gives x : ℕ) {place : ℕ} → place ≡ goes_to row takes gives x → 32 ≤ place → w ≡ visit_all w (gone row at base takes gives x)
  unfolding visit_all
  gone_none takes gives x {place} e h = rw (← e, le-ltb place 32 h)

  pub copied_some : (x : ℕ) {y : Visit} → copies row x ≡ true → y ≡ visit_all w (nodes_of 32 (next_rows row at base) (16 ∷ [])) → y ≡ visit_all w (copied row at base x)
  copied_some x e q = rw e q

  pub copied_none : (x : ℕ) → copies row x ≡ false → w ≡ visit_all w (copied row at base x)
  unfolding visit_all
  copied_none x e = rw e

  pub code_visits : (takes gives sends x : ℕ) {y z v : Visit} → y ≡ visit_all w (gone row at base takes gives x) → z ≡ visit_all y (copied row at base x) → v ≡ visit_all z (sent_to row takes sends x) → v ≡ visit_all w (code_edges row at base takes gives sends x)
  unfolding code_edges
  code_visits takes gives sends x p q r = visits-two (gone row at base takes gives x ++ copied row at base x) (sent_to row takes sends x) w (visits-two (gone row at base takes gives x) (copied row at base x) w p q) r

-- Along a chain that falls.
module _ (before : ℕ → ℕ) (falls : (k : ℕ) → before k ≤ k) where
  chain_more : (left r : ℕ) → r ≤ left → chain before left r ≡ chain before (suc left) r
  unfolding chain
  chain_more zero zero h = refl
  chain_more zero (suc r) h = absurd (omega arith)
  chain_more (suc left) zero h = refl
  chain_more (suc left) (suc r) h = ap (λ (xs : List ℕ). r ∷ xs) (chain_more left (before r) (omega (arith, falls r)))

  chain-step : (n row : ℕ) → row < n → chain before n (suc row) ≡ row ∷ chain before n (before row)
  unfolding chain
  chain-step zero row h = absurd (omega arith)
  chain-step (suc n) row h = ap (λ (xs : List ℕ). row ∷ xs) (chain_more n (before row) (omega (arith, falls row)))

  -- what a row of the chain leads to is visited, and the rest is left
  chain_visit :
      (f : ℕ → List ℕ) (n row : ℕ) (i x : Visit) {y : Visit}
      → row < n
      → i ≡ visit_all x (along f (chain before n (suc row)))
      → y ≡ visit_all x (f row)
      → i ≡ visit_all y (along f (chain before n (before row)))
  unfolding along
  chain_visit f n row i x h e v = visits-rest (f row) (along f (chain before n (before row))) i x (e ∙ ap (λ (xs : List ℕ). visit_all x (along f xs)) (chain-step n row h)) v

chain-end : (before : ℕ → ℕ) (f : ℕ → List ℕ) (n : ℕ) (i x : Visit) → i ≡ visit_all x (along f (chain before n 0)) → i ≡ x
unfolding along chain visit_all
chain-end before f zero i x e = e
chain-end before f (suc n) i x e = e

-- Visits of what result r is pushed as, along the call sites.
module _ (before : List ℕ) (arrives : List Bool) (results r : ℕ) where
  pub pushed_yes : (row : ℕ) (x : Visit) {y : Visit} → get_or arrives row false ≡ true → y ≡ visit_of x.visited x.queue x.tail (32 * (row + 1) + (16 + (results - 1 - r))) → y ≡ visit_all x (pushed_at arrives results r row)
  unfolding pushed_at visit_all
  pushed_yes row x e h = rw e h

  pub pushed_no : (row : ℕ) (x : Visit) → get_or arrives row false ≡ false → x ≡ visit_all x (pushed_at arrives results r row)
  unfolding pushed_at visit_all
  pushed_no row x e = rw e

  pub results_past : (start : ℕ) (x : Visit) → results ≤ r → x ≡ visit_all x (result_edges before arrives results start r)
  unfolding result_edges visit_all
  results_past start x h = rw (le-ltb r results h)

  module _ (below : r < results) (at : ℕ) (i x : Visit) (rest : i ≡ visit_all x (result_edges before arrives results at r)) where
    pub results_next : {y : Visit} → ((k : ℕ) → get_or before k 0 ≤ k) → 0 < at → at ≤ length before → y ≡ visit_all x (pushed_at arrives results r (at - 1)) → i ≡ visit_all y (result_edges before arrives results (get_or before (at - 1) 0) r)
    unfolding result_edges
    results_next falls pos le v =
        let z : suc (at - 1) ≡ at = omega arith in
        rw (lt-ltb r results below) (chain_visit (λ (k : ℕ). get_or before k 0) falls (pushed_at arrives results r) (length before) (at - 1) i x (omega arith) (rw z (rw (lt-ltb r results below) at rest)) v)

    pub results_end : at ≡ 0 → i ≡ x
    unfolding result_edges
    results_end z = chain-end (λ (k : ℕ). get_or before k 0) (pushed_at arrives results r) (length before) i x (rw (z, lt-ltb r results below) at rest)

-- Visits of the lists of rows, the last row first.
module _ (f : ℕ → List ℕ) (r : ℕ) (i x : Visit) (rest : i ≡ visit_all x (up_to f r)) where
  pub up_next : {y : Visit} → 0 < r → y ≡ visit_all x (f (r - 1)) → i ≡ visit_all y (up_to f (r - 1))
  unfolding up_to
  up_next h v =
      let s : r ≡ suc (r - 1) = omega arith in
      visits-rest (f (r - 1)) (up_to f (r - 1)) i x (rest ∙ ap (λ (k : ℕ). visit_all x (up_to f k)) s) v

  pub up_end : r ≡ 0 → i ≡ x
  unfolding up_to visit_all
  up_end z = rw z at rest

-- A row's kind.
module _ (t : List ℕ) (r : ℕ) {row : Row} (e : row ≡ row_at t r) where
  kind-is : {k : ℕ} → row.kind ≡ k → is_kind t k r ≡ true
  unfolding is_kind kind_at
  kind-is {k} q = eq-eqb (row_at t r).kind k (sym (ap (λ (z : Row). z.kind) e) ∙ q)

  kind-not : {k : ℕ} → (row.kind ≡ k → ⊥) → is_kind t k r ≡ false
  unfolding is_kind kind_at
  kind-not {k} q = ne_eqb (row_at t r).kind k (λ z. q (ap (λ (z : Row). z.kind) e ∙ z))

-- Visits of a procedure's first row, and of the rows after a row.
module _ (t : List ℕ) (rows : List RowEntry) (r : ℕ) (x : Visit) where
  pub first_some : {kind : ℕ} {y : Visit} → kind ≡ kind_at t r → kind ≡ procedure_kind → y ≡ visit_of x.visited x.queue x.tail (get_or rows r no_entry).base → y ≡ visit_all x (first_at t rows r)
  unfolding first_at is_kind visit_all
  first_some k e h = rw (← k, e) h

  pub first_none : {kind : ℕ} → kind ≡ kind_at t r → (kind ≡ procedure_kind → ⊥) → x ≡ visit_all x (first_at t rows r)
  unfolding first_at is_kind visit_all
  first_none {kind} k e = rw (← k, ne_eqb kind procedure_kind e)

  pub after_some : {row : Row} {y : Visit} → row ≡ row_at t r → row.kind ≡ instruction_kind → y ≡ visit_all x (nodes_of 1 (next_rows row r (get_or rows r no_entry).base) (0 ∷ [])) → y ≡ visit_all x (rows_after t rows r)
  unfolding rows_after
  after_some e k h = rw (kind-is t r e k, ← e) h

  pub after_none : {row : Row} → row ≡ row_at t r → (row.kind ≡ instruction_kind → ⊥) → x ≡ visit_all x (rows_after t rows r)
  unfolding rows_after visit_all
  after_none e k = rw (kind-not t r e k)

-- Visits of where marks are made at a row.
module _ (t : List ℕ) (ix : Index) (rows : List RowEntry) (arrives : List Bool) (r : ℕ) (x : Visit) where
  pub made_some : {row : Row} {y : Visit} → get_or arrives r false ≡ true → makes_at t ix r ≡ true → row ≡ row_at t r → y ≡ visit_all x (nodes_of 32 (next_rows row r (get_or rows r no_entry).base) (16 ∷ [])) → y ≡ visit_all x (made_at t ix rows arrives r)
  unfolding made_at
  made_some a m e h = rw (a, m, ← e) h

  pub made_none : get_or arrives r false ≡ true → makes_at t ix r ≡ false → x ≡ visit_all x (made_at t ix rows arrives r)
  unfolding made_at visit_all
  made_none a m = rw (a, m)

  pub made_missed : get_or arrives r false ≡ false → x ≡ visit_all x (made_at t ix rows arrives r)
  unfolding made_at visit_all
  made_missed a = rw a

-- Visits of what comes after a procedure's own row.
module _ (before : List ℕ) (arrives : List Bool) (params results base start x : ℕ) (w : Visit) where
  pub head_given : {y : Visit} → x < 16 → x < params → y ≡ visit_of w.visited w.queue w.tail (32 * base + x) → y ≡ visit_all w (head_edges before arrives params results base start x)
  unfolding head_edges visit_all
  head_given h k q = rw (lt-ltb x 16 h, lt-ltb x params k) q

  pub head_past : x < 16 → params ≤ x → w ≡ visit_all w (head_edges before arrives params results base start x)
  unfolding head_edges visit_all
  head_past h k = rw (lt-ltb x 16 h, le-ltb x params k)

  pub head_result : {y : Visit} → 16 ≤ x → y ≡ visit_all w (result_edges before arrives results start (x - 16)) → y ≡ visit_all w (head_edges before arrives params results base start x)
  unfolding head_edges
  head_result h q = rw (le-ltb x 16 h) q

-- Visits of what comes after a row.
module _ (t : List ℕ) (rows : List RowEntry) (before last : List ℕ) (arrives : List Bool) (r x : ℕ) (w : Visit) {row : Row} (e : row ≡ row_at t r) where
  pub place_head : {y : Visit} {start : ℕ} → row.kind ≡ procedure_kind → start ≡ get_or last (get_or rows r no_entry).sends 0 → y ≡ visit_all w (head_edges before arrives (get_or rows r no_entry).takes (get_or rows r no_entry).gives (get_or rows r no_entry).base start x) → y ≡ visit_all w (place_edges t rows before last arrives r x)
  unfolding place_edges
  place_head k s h = rw (kind-is t r e k, ← s) h

  pub place_code : {y : Visit} → (row.kind ≡ procedure_kind → ⊥) → row.kind ≡ instruction_kind → y ≡ visit_all w (code_edges row r (get_or rows r no_entry).base (get_or rows r no_entry).takes (get_or rows r no_entry).gives (get_or rows r no_entry).sends x) → y ≡ visit_all w (place_edges t rows before last arrives r x)
  unfolding place_edges
  place_code n k h = rw (kind-not t r e n, kind-is t r e k, ← e) h

  pub place_none : (row.kind ≡ procedure_kind → ⊥) → (row.kind ≡ instruction_kind → ⊥) → w ≡ visit_all w (place_edges t rows before last arrives r x)
  unfolding place_edges visit_all
  place_none n k = rw (kind-not t r e n, kind-not t r e k)

-- The search of n nodes from the listed ones, where none is followed.
module _ (succs : ℕ → List ℕ) (n : ℕ) (vs : List ℕ) where
  abbrev first : List Bool
  first = mark (replicate n false) vs

  length-first : length first ≡ n
  length-first = length-mark vs (replicate n false) ∙ length-replicate n false

  abbrev pub Stands : List Bool → List ℕ → ℕ → ℕ → Type 0
  Stands seen queue head tail = Searched succs first seen queue head tail (length first)

  pub stands_first :
      (seen : List Bool) (queue : List ℕ) {x : Visit}
      → seen ≡ replicate n false
      → n ≤ length queue
      → n ≤ 65536
      → ((v : ℕ) → Mem v vs → v < n)
      → x ≡ visit_all (after seen queue 0) vs
      → Stands x.visited x.queue 0 x.tail
  stands_first seen queue e room few inside h = rw length-first (search_from succs n queue vs room few inside (rw e at h))

  module _ {seen : List Bool} {queue : List ℕ} {head tail : ℕ} (state : Stands seen queue head tail) where
    pub stands_tail : tail ≤ n
    stands_tail = omega (arith, tail-le state.visits, length-first)

    pub stands_room : n ≤ length queue
    stands_room = omega (arith, state.visits.room, length-first)

    pub stands_queued : head < tail → get_or queue head 0 < n
    stands_queued h = omega (arith, queued-below state.visits head h, length-first)

    -- the successors of the node at the head of the queue are visited
    pub stands_next :
        {x : Visit}
        → Inside succs n
        → n ≤ 65536
        → head < tail
        → x ≡ visit_all (after seen queue tail) (succs (get_or queue head 0))
        → Stands x.visited x.queue (head + 1) x.tail
    stands_next inside few h e = follow_all (taken state (omega arith) h) (rw length-first inside) (omega (arith, length-first)) (queued-below state.visits head h) e

    pub stands_done : tail ≤ head → seen ≡ iter succs n first
    stands_done h = rw length-first at (finish state (omega arith) h)
