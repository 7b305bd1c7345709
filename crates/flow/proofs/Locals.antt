-- Locals: `can_be_empty` and `can_be_full` hold exactly where a walk arrives with the local so, and one of at most 2 n instructions does.
use Prim.Native.Nat.{ℕ, ◌+◌, ◌*◌, ◌<◌, ◌≤◌}
use mathlib.Core.Path.{◌≡◌, refl, ap, sym, ◌∙◌}
use mathlib.Core.List.Memᴰ
use mathlib.Core.List.{List, [], ◌∷◌}
use mathlib.Core.Bool.{Bool, true, false, cond}
use native.Mathlib.Nat.{add-zero}
use native.Mathlib.Omega.{arith}
use borrow.Author.Tests.{eqb-true, eqb-false}
use lib.Dec.{eqb, ltb}
use lib.ListN.{length, get_or, set, length-set}
use lib.Seq.{get_or-set_same, get_or-set_other}
use Rattle.laws.proofs.Lists.{length-tabulate, get_d_tabulate}
use Rattle.table.specs.Format.{op_mv_loc, op_st_loc}
use Rattle.reach.specs.Reach.{Mem, here}
use Rattle.flow.specs.Steps.{Step}
use Rattle.flow.specs.Walks.{Slot, empty, full, top_mark, locals_after, marks_after, Walk, starts, goes_on, entry}
use Rattle.flow.specs.Places.{status_after, local_moves, start_status, local_nodes, can_be_full, can_be_empty}
use Rattle.flow.specs.code.Paths.{Path, at_first, onwards}
use Rattle.flow.proofs.Paths.{path_shown, path_found}

-- what is in a list after an element of it is set
get_d_set : {A : Type 0} (xs : List A) (i j : ℕ) (v d : A) → j < length xs → get_or (set xs i v) j d ≡ cond (eqb i j) v (get_or xs j d)
get_d_set {A} xs i j v d h = go (eqb i j) refl
  where
    go : (b : Bool) → eqb i j ≡ b → get_or (set xs i v) j d ≡ cond b v (get_or xs j d)
    go true e = rw (eqb-true i j e) (get_or-set_same xs j v d h)
    go false e = get_or-set_other xs i j v d (λ q. eqb-false i j e (sym q))

cond_same : {A : Type 0} (b : Bool) (x : A) → cond b x x ≡ x
cond_same true x = refl
cond_same false x = refl

cond_ap : {A B : Type 0} (f : A → B) (b : Bool) (x y : A) → f (cond b x y) ≡ cond b (f x) (f y)
cond_ap f true x y = refl
cond_ap f false x y = refl

-- the place of a slot
abbrev pub status_of : Slot → ℕ
status_of empty = 1
status_of (full m) = 0

status_empty : (s : Slot) → status_of s ≡ 1 → s ≡ empty
status_empty empty e = refl
status_empty (full m) e = absurd (omega arith)

status_full : (s : Slot) → status_of s ≡ 0 → (m : Bool) × (s ≡ full m)
status_full empty e = absurd (omega arith)
status_full (full m) e = (m, refl)

-- how the locals start
pub length-entry : (given : ℕ → Bool) (params count : ℕ) → length (entry given params count) ≡ count
unfolding entry
length-entry given params count = length-tabulate _ count

pub entry_at : (given : ℕ → Bool) (params count l : ℕ) → l < count → get_or (entry given params count) l empty ≡ cond (ltb l params) (full (given l)) empty
unfolding entry
entry_at given params count l h = get_d_tabulate _ empty count l h

-- what holds of the locals emptied, filled and left holds of those after an instruction
pub after_cases : (s : Step) (ls : List Slot) (ms : List Bool) (P : List Slot → Type 0)
    → P (set ls s.operand empty) → P (set ls s.operand (full (top_mark ms))) → P ls → P (locals_after s ls ms)
unfolding locals_after
after_cases s ls ms P emptied filled left = go (eqb s.opcode op_mv_loc) (eqb s.opcode op_st_loc)
  where
    go : (a b : Bool) → P (cond a (set ls s.operand empty) (cond b (set ls s.operand (full (top_mark ms))) ls))
    go true b = emptied
    go false true = filled
    go false false = left

-- an instruction, and a walk, keep the number of locals
length-after : (s : Step) (ls : List Slot) (ms : List Bool) → length (locals_after s ls ms) ≡ length ls
length-after s ls ms = after_cases s ls ms (λ r. length r ≡ length ls) (length-set ls _ _) (length-set ls _ _) refl

pub walk_length : {next : ℕ → List ℕ} {step : ℕ → Step} {start : List Slot} {k i : ℕ} {ls : List Slot} {ms : List Bool}
    → Walk next step start k i ls ms → length ls ≡ length start
walk_length starts = refl
walk_length {step = step} (goes_on {i = i} {ls = ls} {ms = ms} w m) = length-after (step i) ls ms ∙ walk_length w

-- so a walk has as many locals as it starts with
pub walk_count : (given : ℕ → Bool) (params count : ℕ) {next : ℕ → List ℕ} {step : ℕ → Step} {k i : ℕ} {ls : List Slot} {ms : List Bool}
    → Walk next step (entry given params count) k i ls ms → length ls ≡ count
walk_count given params count w = walk_length w ∙ length-entry given params count

-- what an instruction does to a local's place
status-after : (s : Step) (l : ℕ) (ls : List Slot) (ms : List Bool) → l < length ls
    → status_of (get_or (locals_after s ls ms) l empty) ≡ status_after s l (status_of (get_or ls l empty))
unfolding locals_after status_after
status-after s l ls ms h = go (eqb s.opcode op_mv_loc) (eqb s.opcode op_st_loc)
  where
    put : (v : Slot) → status_of (get_or (set ls s.operand v) l empty) ≡ cond (eqb s.operand l) (status_of v) (status_of (get_or ls l empty))
    put v = ap status_of (get_d_set ls s.operand l v empty h) ∙ cond_ap status_of (eqb s.operand l) v (get_or ls l empty)

    go : (b c : Bool) → status_of (get_or (cond b (set ls s.operand empty) (cond c (set ls s.operand (full (top_mark ms))) ls)) l empty)
        ≡ cond (eqb s.operand l) (cond b 1 (cond c 0 (status_of (get_or ls l empty)))) (status_of (get_or ls l empty))
    go true c = put empty
    go false true = put (full (top_mark ms))
    go false false = sym (cond_same (eqb s.operand l) _)

status_small : (s : Step) (l x : ℕ) → x < 2 → status_after s l x < 2
unfolding status_after
status_small s l x h = go (eqb s.operand l) (eqb s.opcode op_mv_loc) (eqb s.opcode op_st_loc)
  where
    go : (a b c : Bool) → cond a (cond b 1 (cond c 0 x)) x < 2
    go true true c = omega arith
    go true false true = omega arith
    go true false false = h
    go false b c = h

start_small : (params l : ℕ) → start_status params l < 2
unfolding start_status
start_small params l = go (ltb l params)
  where
    go : (a : Bool) → cond a 0 1 < 2
    go true = omega arith
    go false = omega arith

module _ (next : ℕ → List ℕ) (step : ℕ → Step) (given : ℕ → Bool) (params count l : ℕ) (there : l < count) where
  start-status : status_of (get_or (entry given params count) l empty) ≡ start_status params l
  unfolding start_status
  start-status = ap status_of (entry_at given params count l there) ∙ cond_ap status_of (ltb l params) (full (given l)) empty

  walk_after : {k i : ℕ} {ls : List Slot} {ms : List Bool} → Walk next step (entry given params count) k i ls ms
      → status_of (get_or (locals_after (step i) ls ms) l empty) ≡ status_after (step i) l (status_of (get_or ls l empty))
  walk_after {i = i} {ls = ls} {ms = ms} w = status-after (step i) l ls ms (rw (walk_count given params count w) there)

  -- a walk is a path of the local's place
  pub walk_status : {k i : ℕ} {ls : List Slot} {ms : List Bool} → Walk next step (entry given params count) k i ls ms
      → Path next (local_moves step l) (start_status params l ∷ []) k i (status_of (get_or ls l empty))
  unfolding local_moves
  walk_status starts = at_first (here start-status)
  walk_status (goes_on w m) = onwards (walk_status w) m (here (walk_after w))

  -- a path of the local's place is a walk
  pub status_walk : {k i x : ℕ} → Path next (local_moves step l) (start_status params l ∷ []) k i x
      → (ls : List Slot) × (ms : List Bool) × Walk next step (entry given params count) k i ls ms × (status_of (get_or ls l empty) ≡ x)
  unfolding local_moves
  status_walk (at_first m) = (entry given params count, [], starts, start-status ∙ sym (Memᴰ.eq_of_singleton m))
  status_walk (onwards {i = i} p h m) =
      let r = status_walk p in
      (locals_after (step i) r.0 r.1, marks_after (step i) r.0 r.1, goes_on r.2 h, walk_after r.2 ∙ ap (status_after (step i) l) r.3 ∙ sym (Memᴰ.eq_of_singleton m))

  module _ (n : ℕ) (some : 0 < n) (next_below : (i j : ℕ) → Mem j (next i) → j < n) where
    from_small : (x : ℕ) → Mem x (start_status params l ∷ []) → x < 2
    from_small x m = rw (Memᴰ.eq_of_singleton m) (start_small params l)

    moves_small : (i x y : ℕ) → x < 2 → Mem y (local_moves step l i x) → y < 2
    unfolding local_moves
    moves_small i x y h m = rw (Memᴰ.eq_of_singleton m) (status_small (step i) l x h)

    status_shown : (i x : ℕ) → x < 2 → get_or (local_nodes next step params n l) (2 * i + x) false ≡ true
        → (k : ℕ) × (k ≤ 2 * n) × (ls : List Slot) × (ms : List Bool) × Walk next step (entry given params count) k i ls ms × (status_of (get_or ls l empty) ≡ x)
    unfolding local_nodes
    status_shown i x h e =
        let r = path_shown 2 next (local_moves step l) n (start_status params l ∷ []) (omega arith) some from_small moves_small next_below i x h e in
        let w = status_walk r.2 in
        (r.0, r.1, w.0, w.1, w.2, w.3)

    status_found : {k i : ℕ} {ls : List Slot} {ms : List Bool} → Walk next step (entry given params count) k i ls ms
        → get_or (local_nodes next step params n l) (2 * i + status_of (get_or ls l empty)) false ≡ true
    unfolding local_nodes
    status_found w = path_found 2 next (local_moves step l) n (start_status params l ∷ []) (omega arith) some from_small moves_small next_below (walk_status w)

    -- where the local can be empty a walk of at most 2 n instructions shows it
    pub empty-shown : (i : ℕ) → can_be_empty (local_nodes next step params n l) i ≡ true
        → (k : ℕ) × (k ≤ 2 * n) × (ls : List Slot) × (ms : List Bool) × Walk next step (entry given params count) k i ls ms × (get_or ls l empty ≡ empty)
    empty-shown i e = let r = status_shown i 1 (omega arith) e in (r.0, r.1, r.2, r.3, r.4, status_empty _ r.5)

    -- where a walk arrives with the local empty it can be empty
    pub empty-found : {k i : ℕ} {ls : List Slot} {ms : List Bool} → Walk next step (entry given params count) k i ls ms
        → get_or ls l empty ≡ empty → can_be_empty (local_nodes next step params n l) i ≡ true
    empty-found w e = rw e at (status_found w)

    -- where the local can be full a walk of at most 2 n instructions shows it
    pub full-shown : (i : ℕ) → can_be_full (local_nodes next step params n l) i ≡ true
        → (k : ℕ) × (k ≤ 2 * n) × (ls : List Slot) × (ms : List Bool) × (m : Bool) × Walk next step (entry given params count) k i ls ms × (get_or ls l empty ≡ full m)
    full-shown i e =
        let r = status_shown i 0 (omega arith) (rw add-zero e) in
        let f = status_full _ r.5 in
        (r.0, r.1, r.2, r.3, f.0, r.4, f.1)

    -- where a walk arrives with the local full it can be full
    pub full-found : {k i : ℕ} {ls : List Slot} {ms : List Bool} → Walk next step (entry given params count) k i ls ms
        → (m : Bool) → get_or ls l empty ≡ full m → can_be_full (local_nodes next step params n l) i ≡ true
    full-found w m e = rw (e, add-zero) at (status_found w)
