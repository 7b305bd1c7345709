-- Laws of the search for what walks leave in a local, and of the faults that follow from it.
use Prim.Native.Nat.{ℕ, zero, suc, ◌+◌, ◌*◌, ◌/◌, ◌%◌, ◌<◌, ◌≤◌, min}
use mathlib.Core.Path.{◌≡◌, refl, sym, ap, ◌∙◌}
use mathlib.Core.Bool.{Bool, true, false, cond, ◌&&◌, ◌||◌, or-false, and-false, false≢true}
use mathlib.Core.List.Memᴰ
use mathlib.Core.List.{List, [], ◌∷◌}
use native.Mathlib.Nat.{mul-le-mul, add-zero, zero-add}
use native.Mathlib.Decide.{dec_lt}
use native.Mathlib.Omega.{arith}
use borrow.Author.Tests.{ltb-true, eqb-true}
use lib.Dec.{eqb, ltb}
use lib.ListN.{length, get_or, take, drop, replicate, length-replicate}
use Rattle.std.specs.List.{list_any, range_with_len}
use Rattle.std.proofs.lemmas.List.{take_all}
use Rattle.laws.proofs.First.{first-same, from, whole, fine, faulty_with, done}
use Rattle.std.specs.Prelude.{None, Some}
use Rattle.reach.specs.Reach.{Mem, Inside, mark}
use Rattle.reach.specs.code.Search.{Searched, Visit, after, entering}
use Rattle.reach.proofs.Laws.{length-mark}
use Rattle.reach.proofs.Settle.{settle-iter}
use Rattle.reach.proofs.Search.{search-one, taken, finish, tail-le, queued-below}
use Rattle.table.specs.declared.Row.{Row}
use Rattle.std.specs.Bool.{then_some}
use Rattle.table.specs.Verdicts.{Verdict, Accepted, Refused, number_of_reason, fault_of}
use Rattle.table.specs.declared.refusals.Reason.{Reason}
use Rattle.table.specs.declared.index.Index.{Index}
use Rattle.table.specs.Index.{no_procedure}
use Rattle.declarations.specs.code.Limits.{over_limits}
use Rattle.declarations.proofs.Laws.{limits-held, procedures_of, pass_start, pass_from, pass_end, pass_on, pass_refused, on_part}
use Rattle.table.specs.declared.index.ProcedureEntry.{ProcedureEntry}
use Rattle.table.specs.Format.{op_mv_loc, op_cp_loc, op_st_loc, op_borrow_loc, op_ret}
use Rattle.table.specs.Rows.{row_count, row_at}
use Rattle.declarations.specs.Program.{code_of, code_verdict, local_count, local_kind, is_record, parameter_count}
use Rattle.flow.specs.Steps.{below, next_of, nexts}
use Rattle.flow.specs.Places.{nodes_of as nodes_from, succs, local_moves, status_after, start_status, local_nodes, reached, can_be_empty, can_be_full}
use Rattle.flow.proofs.Paths.{node_div, node_mod}
use Rattle.flow.specs.code.Going.{GoesOn}
use Rattle.flow.proofs.Laws.{graph_inside, next-below}
use Rattle.locals.specs.declared.LocalSet.{LocalSet}
use Rattle.locals.specs.code.Sets.{those}
use Rattle.locals.specs.Locals.{row_step, bare_step, needs_full, nodes_of, leaves_empty, leaves_full, leaves_record, leaves_some, local_fault}
use Rattle.locals.specs.code.Faults.{empty_at, full_at, record_at, some_record, fault_from}
use Rattle.locals.proofs.Sets.{contains-those}
use Rattle.locals.proofs.Parts.{part_at}

-- The search from the status that local l starts with.

pub start-below : (params l : ℕ) → start_status params l < 2
unfolding start_status
start-below params l = go (ltb l params)
  where
    go : (b : Bool) → cond b 0 1 < 2
    go true = omega arith
    go false = omega arith

-- the status after an instruction is one of the two
pub after-below : (row : Row) (l x : ℕ) → x < 2 → status_after (row_step row) l x < 2
unfolding status_after
after-below row l x h = go (eqb row.b l) (eqb row.a op_mv_loc) (eqb row.a op_st_loc)
  where
    go : (a b c : Bool) → cond a (cond b 1 (cond c 0 x)) x < 2
    go true true c = omega arith
    go true false true = omega arith
    go true false false = h
    go false b c = h

module _ (code : List ℕ) (params l : ℕ) where
  -- the graph of its nodes, and the set of the first one
  abbrev graph : ℕ → List ℕ
  graph = succs 2 (nexts code) (local_moves (bare_step code) l)

  abbrev first : List Bool
  first = mark (replicate (2 * row_count code) false) (start_status params l ∷ [])

  -- where a search stands that follows the local at instruction i with status x, and one that follows nothing
  abbrev pub Spreading : List Bool → List ℕ → ℕ → ℕ → ℕ → ℕ → Type 0
  Spreading seen queue head tail i x = Searched graph first seen queue head tail (2 * i + x)

  abbrev pub Waiting : List Bool → List ℕ → ℕ → ℕ → Type 0
  Waiting seen queue head tail = Searched graph first seen queue head tail (length first)

  status_below : (i x y : ℕ) → x < 2 → Mem y (local_moves (bare_step code) l i x) → y < 2
  unfolding local_moves
  status_below i x y h m = rw (Memᴰ.eq_of_singleton m) (after-below (row_at code i) l x h)

  length-first : length first ≡ 2 * row_count code
  length-first = length-mark (start_status params l ∷ []) (replicate (2 * row_count code) false) ∙ length-replicate (2 * row_count code) false

  inside : Inside graph (length first)
  inside = rw length-first (graph_inside 2 (nexts code) (local_moves (bare_step code) l) (row_count code) (omega arith) status_below (next-below code))

  -- the nodes that go on from a node, with what the code reads and computes of it
  nodes_after :
      (i x : ℕ) {row : Row} {y : ℕ}
      → x < 2
      → row ≡ row_at code i
      → y ≡ status_after (row_step row) l x
      → graph (2 * i + x) ≡ nodes_from 2 (below (row_count code) (next_of row i)) (y ∷ [])
  unfolding succs nexts local_moves
  nodes_after i x h e q = rw (node_div 2 i x h, node_mod 2 i x h, q, e)

  pub local-start :
      (queue : List ℕ) (empty : List Bool) {v : Visit}
      → 0 < row_count code
      → 512 ≤ length queue
      → row_count code ≤ 256
      → empty ≡ replicate (2 * row_count code) false
      → v ≡ after (entering empty (start_status params l)) queue 0
      → Spreading v.visited v.queue 0 v.tail 0 (start_status params l)
  local-start queue empty some room few e h =
      let z : 2 * 0 + start_status params l ≡ start_status params l = omega arith in
      rw (h, e, z) (search-one graph (2 * row_count code) queue (start_status params l) (omega arith) (omega (arith, start-below params l)) refl)

  pub local-sized : {seen : List Bool} {queue : List ℕ} {head tail : ℕ} (i x : ℕ) → Spreading seen queue head tail i x → length seen ≡ 2 * row_count code
  local-sized i x state = state.visits.sized ∙ length-first

  module _ {seen : List Bool} {queue : List ℕ} {head tail i x : ℕ} (state : Spreading seen queue head tail i x) where
    -- the search goes on from the node that is followed: to another that is followed, or none is
    module _ {row : Row} {y : ℕ} {v : Visit} (few : row_count code ≤ 256) (below : i < row_count code) (two : x < 2) (e : row ≡ row_at code i) (q : y ≡ status_after (row_step row) l x) where
      pub local-still : {j : ℕ} → GoesOn 2 (row_count code) row i y (after seen queue tail) v (Some j) → Spreading v.visited v.queue head v.tail j y
      local-still on = on.search graph first head (2 * i + x) (nodes_after i x two e q) inside length-first (omega (arith, length-first)) (omega (arith, length-first)) state

      pub local-rests : GoesOn 2 (row_count code) row i y (after seen queue tail) v None → Waiting v.visited v.queue head v.tail
      local-rests on = on.search graph first head (2 * i + x) (nodes_after i x two e q) inside length-first (omega (arith, length-first)) (omega (arith, length-first)) state

  module _ {seen : List Bool} {queue : List ℕ} {head tail : ℕ} (state : Waiting seen queue head tail) where
    pub local-tail : tail ≤ 2 * row_count code
    local-tail = omega (arith, length-first, tail-le state.visits)

    pub local-room : 2 * row_count code ≤ length queue
    local-room = omega (arith, length-first, state.visits.room)

    pub local-queued : head < tail → get_or queue head 0 < 2 * row_count code
    local-queued h = omega (arith, length-first, queued-below state.visits head h)

    pub local-next : head < tail → Spreading seen queue (head + 1) tail (get_or queue head 0 / 2) (get_or queue head 0 % 2)
    local-next h = let z : 2 * (get_or queue head 0 / 2) + get_or queue head 0 % 2 ≡ get_or queue head 0 = omega arith in rw z (taken state (omega arith) h)

    pub local-found : tail ≤ head → seen ≡ nodes_of code params l
    unfolding nodes_of local_nodes reached
    local-found h = (rw length-first at (finish state (omega arith) h)) ∙ sym (settle-iter _ (2 * row_count code) _)

-- the nodes of l locals
pub nodes_fit : (n l : ℕ) → n ≤ 256 → l ≤ 16 → 2 * n * l ≤ 8192
nodes_fit n l h k = let d : 2 * n ≤ 512 = omega arith in mul-le-mul d k

-- an opcode that needs its local full is neither StLoc nor Ret
pub full-only : (op : ℕ) → needs_full op ≡ true → (eqb op op_st_loc ≡ false) × (eqb op op_ret ≡ false)
unfolding needs_full
full-only op h = go (eqb op op_mv_loc) (eqb op op_cp_loc) (eqb op op_borrow_loc) refl refl refl h
  where
    go : (a b c : Bool) → eqb op op_mv_loc ≡ a → eqb op op_cp_loc ≡ b → eqb op op_borrow_loc ≡ c → (a || b || c) ≡ true → (eqb op op_st_loc ≡ false) × (eqb op op_ret ≡ false)
    go true b c p q r e = rw (eqb-true op op_mv_loc p) (refl, refl)
    go false true c p q r e = rw (eqb-true op op_cp_loc q) (refl, refl)
    go false false true p q r e = rw (eqb-true op op_borrow_loc r) (refl, refl)
    go false false false p q r e = absurd (false≢true e)

-- The faults of procedure p, from the nodes of its locals one after the other.
module _ (t : List ℕ) (p : ProcedureEntry) (nodes : List Bool) (few : local_count p ≤ 16)
    (parts : (l : ℕ) → l < local_count p → take (2 * row_count (code_of t p)) (drop (2 * row_count (code_of t p) * l) nodes) ≡ nodes_of (code_of t p) (parameter_count t p) l)
    (i : ℕ) (there : i < row_count (code_of t p)) where
  node_at : (l k : ℕ) → l < local_count p → k < 2 * row_count (code_of t p) → get_or nodes (2 * row_count (code_of t p) * l + k) false ≡ get_or (nodes_of (code_of t p) (parameter_count t p) l) k false
  node_at l k h e = part_at _ _ nodes _ k false e (parts l h)

  -- whether local l is a record
  abbrev is_kept : ℕ → Bool
  is_kept l = is_record (local_kind t p l)

  empty-same : (l : ℕ) → (ltb l (local_count p) && empty_at nodes (row_count (code_of t p)) l i) ≡ leaves_empty t p l i
  unfolding leaves_empty
  empty-same l = go (ltb l (local_count p)) refl
    where
      go : (b : Bool) → ltb l (local_count p) ≡ b → (b && empty_at nodes (row_count (code_of t p)) l i) ≡ (b && can_be_empty (nodes_of (code_of t p) (parameter_count t p) l) i)
      go true e = node_at l (2 * i + 1) (ltb-true l (local_count p) e) (omega arith)
      go false e = refl

  record_same : (l : ℕ) → record_at nodes (row_count (code_of t p)) (local_count p) (those is_kept (local_count p)) i l ≡ leaves_record t p l i
  unfolding leaves_record leaves_full
  record_same l = rw (contains-those is_kept (local_count p) l few) (go (ltb l (local_count p)) refl)
    where
      go : (b : Bool) → ltb l (local_count p) ≡ b → (b && (b && is_kept l && full_at nodes (row_count (code_of t p)) l i)) ≡ (is_kept l && (b && can_be_full (nodes_of (code_of t p) (parameter_count t p) l) i))
      go true e = ap (λ (x : Bool). is_kept l && x) (node_at l (2 * i) (ltb-true l (local_count p) e) (omega arith))
      go false e = sym (and-false (is_kept l))

  some_same : (k : ℕ) → some_record nodes (row_count (code_of t p)) (local_count p) (those is_kept (local_count p)) i k ≡ leaves_some t p k i
  unfolding some_record leaves_some
  some_same zero = refl
  some_same (suc k) = rw (some_same k, record_same k)

  fault_same : fault_from nodes (row_at (code_of t p) i) (row_count (code_of t p)) (local_count p) (those is_kept (local_count p)) i ≡ local_fault t p i
  unfolding fault_from local_fault
  fault_same = rw (empty-same, record_same, some_same)

-- a test on the numbers below n, from the first on
or_assoc : (a b c : Bool) → (a || (b || c)) ≡ ((a || b) || c)
or_assoc true b c = refl
or_assoc false b c = refl

any_range : (test : ℕ → Bool) (a n : ℕ) → list_any test (range_with_len a (suc n)) ≡ (list_any test (range_with_len a n) || test (a + n))
any_range test a zero = rw (or-false, add-zero)
any_range test a (suc n) = let e : a + 1 + n ≡ a + suc n = omega arith in rw (any_range test (a + 1) n, e, or_assoc)

pub any_below : (test below : ℕ → Bool) → below 0 ≡ false → ((n : ℕ) → below (suc n) ≡ (below n || test n)) → (n : ℕ) → list_any test (range_with_len 0 n) ≡ below n
any_below test below z s zero = sym z
any_below test below z s (suc n) = any_range test 0 n ∙ rw (zero-add, any_below test below z s n) (sym (s n))

-- verdicts with the same faults
pub verdict_same : (f g : ℕ → ℕ) (start n : ℕ) → ((i : ℕ) → i < n → f i ≡ g i) → code_verdict f start n ≡ code_verdict g start n
unfolding code_verdict
verdict_same f g start n h = first-same Accepted (λ (number i : ℕ). Refused number (start + i)) f g 0 n (λ j lo hi. h j (omega arith))

-- the limits that a procedure keeps, whose code is c
pub within : (t : List ℕ) (p : ProcedureEntry) {c : List ℕ} {over : Bool} → c ≡ code_of t p → over ≡ over_limits t p → over ≡ false → (local_count p ≤ 16) × (row_count c ≤ 256)
within t p e o h = rw e (limits-held _ _ (sym o ∙ h))

-- the verdict on the code of procedure p
pub procedure_verdict :
    (t c : List ℕ) (p : ProcedureEntry) (nodes : List Bool) (count params : ℕ) (records : LocalSet) (v : Verdict)
    → c ≡ code_of t p
    → count ≡ local_count p
    → params ≡ parameter_count t p
    → records ≡ those (λ (l : ℕ). is_record (local_kind t p l)) count
    → local_count p ≤ 16
    → ((l : ℕ) → l < count → take (2 * row_count c) (drop (2 * row_count c * l) nodes) ≡ nodes_of c params l)
    → v ≡ code_verdict (λ (i : ℕ). fault_from nodes (row_at c i) (row_count c) count records i) p.code (row_count c)
    → v ≡ code_verdict (local_fault t p) p.code (row_count c)
procedure_verdict t c p nodes count params records v e n q r few parts h =
    rw e ((rw (r, n, e) at h) ∙ verdict_same _ (local_fault t p) p.code (row_count (code_of t p)) (fault_same t p nodes few (rw (n, q, e) at parts)))

-- A loop over the procedures of an index with room for 128, `count` of them: what is left of the pass when it comes to procedure p.
module _ (fault : ℕ → ProcedureEntry → ℕ → ℕ) (ix : Index) (t : List ℕ) {count : ℕ} (size : count ≡ min ix.procedures 128) (room : length ix.procedure_entries ≡ 128) where
  listed : take count ix.procedure_entries ≡ procedures_of ix
  listed = rw size (go (dec_lt ix.procedures 128))
    where
      go : Dec (ix.procedures < 128) → take (min ix.procedures 128) ix.procedure_entries ≡ procedures_of ix
      go (yes h) = let e : min ix.procedures 128 ≡ ix.procedures = omega arith in rw e
      go (no h) = let e : min ix.procedures 128 ≡ 128 = omega arith in rw e (take_all 128 ix.procedure_entries (omega arith) ∙ sym (take_all ix.procedures ix.procedure_entries (omega arith)))

  pub procedures_done : (p : ℕ) → length (take count ix.procedure_entries) ≤ p → pass_from fault ix t p ≡ Accepted (row_count t)
  procedures_done p h = pass_end fault ix t p (rw listed at h)

  -- the verdict on procedure p, whose code is c
  module _ (p : ℕ) (h : p < length (take count ix.procedure_entries)) {c : List ℕ} (q : c ≡ code_of t (get_or (take count ix.procedure_entries) p no_procedure)) where
    abbrev own : ProcedureEntry
    own = get_or (take count ix.procedure_entries) p no_procedure

    pub procedure_accepted : {n : ℕ} → Accepted n ≡ code_verdict (fault p own) own.code (row_count c) → pass_from fault ix t p ≡ pass_from fault ix t (p + 1)
    procedure_accepted {n} e = pass_on fault ix t p n own (rw listed at h) (ap (λ (l : List ProcedureEntry). get_or l p no_procedure) listed) (on_part fault ix t c p own (Accepted n) q e)

    pub procedure_refused : {number row : ℕ} → Refused number row ≡ code_verdict (fault p own) own.code (row_count c) → pass_from fault ix t p ≡ Refused number row
    procedure_refused {number} {row} e = pass_refused fault ix t p number row own (rw listed at h) (ap (λ (l : List ProcedureEntry). get_or l p no_procedure) listed) (on_part fault ix t c p own (Refused number row) q e)

-- a reason's number is not 0
some_number : (r : Reason) → number_of_reason r ≡ 0 → ⊥
some_number r = grind arith

-- what is left of a procedure's verdict when it comes to instruction i
module _ (fault : ℕ → ℕ) (start n : ℕ) where
  unfoldable pub verdict_from : ℕ → Verdict
  verdict_from i = from Accepted (λ (number j : ℕ). Refused number (start + j)) fault n i

  pub verdict_start : code_verdict fault start n ≡ verdict_from 0
  unfolding code_verdict verdict_from
  verdict_start = whole Accepted (λ (number j : ℕ). Refused number (start + j)) fault n

  pub verdict_next : {i : ℕ} → i < n → fault i ≡ 0 → verdict_from i ≡ verdict_from (i + 1)
  unfolding verdict_from
  verdict_next h e = fine Accepted (λ (number j : ℕ). Refused number (start + j)) fault n _ h e

  pub verdict_refused : {i : ℕ} (r : Reason) → i < n → fault i ≡ number_of_reason r → verdict_from i ≡ Refused (number_of_reason r) (start + i)
  unfolding verdict_from
  verdict_refused r h e = faulty_with Accepted (λ (number j : ℕ). Refused number (start + j)) fault n _ _ h e (some_number r)

  pub verdict_end : {i : ℕ} → n ≤ i → i ≤ n → verdict_from i ≡ Accepted n
  unfolding verdict_from
  verdict_end {i} h k = let e : i ≡ n = omega arith in rw e (done Accepted (λ (number j : ℕ). Refused number (start + j)) fault n)

pub ruleset passing = (pass_start, procedures_done)

pub ruleset judging = (verdict_start, verdict_next, verdict_refused, verdict_end)

pub fault_if : (b : Bool) (r : Reason) → fault_of (then_some b r) ≡ cond b (number_of_reason r) 0
fault_if true r = refl
fault_if false r = refl

pub ruleset faults = (full-only, fault_if)
