-- Marks: `local_marked` and `operand_marked` hold exactly where a walk arrives with the mark, and one of at most 33 n instructions does.
use Prim.Native.Nat.{ℕ, zero, suc, ◌+◌, ◌-◌, ◌*◌, ◌<◌, ◌≤◌}
use mathlib.Core.Path.{◌≡◌, refl, ap, sym, ◌∙◌}
use mathlib.Core.List.Memᴰ
use mathlib.Core.List.{List, [], ◌∷◌}
use mathlib.Core.Bool.{Bool, true, false, cond, false≢true, ◌&&◌, ◌||◌}
use mathlib.Core.Logic.{◌⊎◌, inl, inr, ⊎_elim}
use native.Mathlib.Nat.{add-zero, zero-add}
use native.Mathlib.Decide.{dec_lt, ℕ_discrete}
use native.Mathlib.Omega.{arith}
use borrow.Author.Tests.{eqb-true, ltb-true, lt-ltb, le-ltb, eq-eqb, ne_eqb}
use lib.Dec.{eqb, ltb}
use lib.ListN.{length, get_or, set, drop}
use lib.Seq.{get_or-set_same, get_or-set_other, get_or-drop}
use Rattle.table.specs.Format.{op_mv_loc, op_cp_loc, op_st_loc}
use Rattle.reach.specs.Reach.{Mem, here, there}
use Rattle.reach.proofs.Laws.{at-below}
use Rattle.flow.specs.Steps.{Step}
use Rattle.flow.specs.Walks.{Slot, empty, full, mark_of, top_mark, pushed_on, locals_after, some_top, pushes, marks_after, Walk, starts, goes_on, entry}
use Rattle.flow.specs.Places.{local_place, operand_place, mark_places, fresh_places, within, mark_moves, place_moves, start_places, mark_nodes, local_marked, operand_marked}
use Rattle.flow.specs.code.Paths.{Path, at_first, onwards, Regular, Shallow}
use Rattle.flow.proofs.Paths.{path_shown, path_found}
use Rattle.flow.proofs.Locals.{length-entry, entry_at, after_cases, walk_count}

-- place x is marked in these locals and on these operands; the bare instruction always is
pub data MarkedAt (ls : List Slot) (ms : List Bool) : ℕ → Type 0 where
  bare : MarkedAt ls ms 0
  in_local : (l : ℕ) → l < 16 → mark_of (get_or ls l empty) ≡ true → MarkedAt ls ms (local_place l)
  on_operand : (j : ℕ) → j < 16 → get_or ms j false ≡ true → MarkedAt ls ms (operand_place j)

-- what is marked is one of the places
pub marked-place : {ls : List Slot} {ms : List Bool} {x : ℕ} → MarkedAt ls ms x → x < mark_places
marked-place bare = omega arith
marked-place (in_local l h e) = omega arith
marked-place (on_operand j h e) = omega arith

-- Lists with an element only where a test holds.

pass : {A : Type 0} {y : A} {xs : List A} (b : Bool) (x : A) → Mem y xs → Mem y (cond b (x ∷ xs) xs)
pass true x m = there m
pass false x m = m

pass_inv : {A : Type 0} {x y : A} {xs : List A} (b : Bool) → Mem y (cond b (x ∷ xs) xs) → ((b ≡ true) × (y ≡ x)) ⊎ Mem y xs
pass_inv true m = ⊎_elim (λ e. inl (refl, e)) (λ r. inr r) (Memᴰ.cases_cons m)
pass_inv false m = inr m

within_inv : (xs : List ℕ) {y : ℕ} → Mem y (within xs) → Mem y xs × (y < mark_places)
unfolding within
within_inv [] {y = y} m = elim m [ ]
within_inv (x ∷ xs) m =
    ⊎_elim
    (λ q. (here q.1, rw q.1 (ltb-true x mark_places q.0)))
    (λ r. let t = within_inv xs r in (there t.0, t.1))
    (pass_inv (ltb x mark_places) m)

within_mem : {y : ℕ} {xs : List ℕ} → Mem y xs → y < mark_places → Mem y (within xs)
unfolding within
within_mem (here {x = x} e) h = rw (lt-ltb x mark_places (rw e at h)) (here e)
within_mem (there {x = x} m) h = pass (ltb x mark_places) x (within_mem m h)

-- Operands that are pushed.

-- those below keep their marks
pushed_old : (xs ms : List Bool) (j : ℕ) → get_or (pushed_on xs ms) (length xs + j) false ≡ get_or ms j false
unfolding pushed_on
pushed_old [] ms j = rw zero-add refl
pushed_old (x ∷ xs) ms j = let e : suc (length xs) + j ≡ length xs + suc j = omega arith in rw e (pushed_old xs (x ∷ ms) (suc j))

pushed-lowest : (x : Bool) (xs ms : List Bool) → get_or (pushed_on xs (x ∷ ms)) (length xs) false ≡ x
pushed-lowest x xs ms = rw add-zero at (pushed_old xs (x ∷ ms) 0)

-- the fresh places are the marks of those that are pushed
fresh_mem : (xs ms : List Bool) (j : ℕ) → j < length xs → get_or (pushed_on xs ms) j false ≡ true → Mem (operand_place j) (fresh_places xs)
unfolding pushed_on fresh_places
fresh_mem [] ms j h e = absurd (omega arith)
fresh_mem (x ∷ xs) ms j h e = go (dec_lt j (length xs)) (λ l. fresh_mem xs (x ∷ ms) j l e)
  where
    go : Dec (j < length xs) → (j < length xs → Mem (operand_place j) (fresh_places xs)) → Mem (operand_place j) (fresh_places (x ∷ xs))
    go (yes l) rest = pass x (operand_place (length xs)) (rest l)
    go (no l) rest =
        let q : j ≡ length xs = omega arith in
        let t : x ≡ true = sym (pushed-lowest x xs ms) ∙ (rw q at e) in
        rw (t, q) (here refl)

fresh_inv : (xs ms : List Bool) {y : ℕ} → Mem y (fresh_places xs) → (j : ℕ) × (j < length xs) × (y ≡ operand_place j) × (get_or (pushed_on xs ms) j false ≡ true)
unfolding pushed_on fresh_places
fresh_inv [] ms {y = y} m = elim m [ ]
fresh_inv (x ∷ xs) ms m =
    ⊎_elim
    (λ q. (length xs, omega arith, q.1, pushed-lowest x xs ms ∙ q.0))
    (λ r. let t = fresh_inv xs (x ∷ ms) r in (t.0, omega arith, t.2, t.3))
    (pass_inv x m)

-- Where marks go, by the place that they come from.

moves_bare : (s : Step) → mark_moves s 0 ≡ 0 ∷ fresh_places s.fresh
unfolding mark_moves
moves_bare s = refl

-- from the instruction's own local
own_moves : Step → List ℕ
own_moves s =
    cond (eqb s.opcode op_mv_loc) (operand_place 0 ∷ [])
    (cond (eqb s.opcode op_cp_loc) (local_place s.operand ∷ operand_place 0 ∷ [])
    (cond (eqb s.opcode op_st_loc) []
    (local_place s.operand ∷ [])))

moves-own : (s : Step) → s.operand < 16 → mark_moves s (local_place s.operand) ≡ own_moves s
unfolding mark_moves own_moves
moves-own s h =
    rw (ne_eqb (local_place s.operand) 0 (λ e. omega arith), lt-ltb (local_place s.operand) 17 (omega arith), eq-eqb (local_place s.operand) (local_place s.operand) refl)

-- from another local
moves_other : (s : Step) (l : ℕ) → l < 16 → (l ≡ s.operand → ⊥) → mark_moves s (local_place l) ≡ local_place l ∷ []
unfolding mark_moves
moves_other s l h ne =
    rw (ne_eqb (local_place l) 0 (λ e. omega arith), lt-ltb (local_place l) 17 (omega arith), ne_eqb (local_place s.operand) (local_place l) (λ e. ne (omega arith)))

-- from an operand that is taken, and from one that is not
moves-taken : (s : Step) (j : ℕ) → j < s.takes
    → mark_moves s (operand_place j) ≡ cond (eqb s.opcode op_st_loc && ltb s.operand 16) (local_place s.operand ∷ []) (cond s.carries (operand_place 0 ∷ []) [])
unfolding mark_moves
moves-taken s j h =
    rw (ne_eqb (operand_place j) 0 (λ e. omega arith), le-ltb (operand_place j) 17 (omega arith), lt-ltb (operand_place j - 17) s.takes (omega arith))

moves-left : (s : Step) (j : ℕ) → mark_moves s (operand_place (s.takes + j)) ≡ operand_place (length s.fresh + j) ∷ []
unfolding mark_moves
moves-left s j =
    let e : operand_place (s.takes + j) - s.takes + length s.fresh ≡ operand_place (length s.fresh + j) = omega arith in
    rw (ne_eqb (operand_place (s.takes + j)) 0 (λ e. omega arith), le-ltb (operand_place (s.takes + j)) 17 (omega arith), le-ltb (operand_place (s.takes + j) - 17) s.takes (omega arith), e)

-- What instructions do, by opcode: they empty their local, copy it, fill it, or leave the locals.
data Kind (s : Step) (count : ℕ) : Type 0 where
  empties : s.opcode ≡ op_mv_loc → s.takes ≡ 0 → s.fresh ≡ false ∷ [] → Kind s count
  copies : s.opcode ≡ op_cp_loc → s.takes ≡ 0 → s.fresh ≡ false ∷ [] → Kind s count
  fills : s.opcode ≡ op_st_loc → s.takes ≡ 1 → s.fresh ≡ [] → s.carries ≡ false → s.operand < count → Kind s count
  leaves : eqb s.opcode op_mv_loc ≡ false → eqb s.opcode op_cp_loc ≡ false → eqb s.opcode op_st_loc ≡ false → s.carries ≡ false → Kind s count
  hands : eqb s.opcode op_mv_loc ≡ false → eqb s.opcode op_cp_loc ≡ false → eqb s.opcode op_st_loc ≡ false → s.carries ≡ true → s.fresh ≡ false ∷ [] → Kind s count

none-carried : {x : Bool} {xs : List Bool} (d : Bool) → x ≡ d → xs ≡ [] → (x ≡ true → xs ≡ false ∷ []) → x ≡ false
none-carried true e f c = absurd (Memᴰ.not-nil (rw (sym (c e) ∙ f) at (here {x = false} {xs = []} refl)))
none-carried false e f c = e

kind-of : (step : ℕ → Step) (count : ℕ) → Regular step → ((i : ℕ) → (step i).opcode ≡ op_st_loc → (step i).operand < count) → (i : ℕ) → Kind (step i) count
kind-of step count r h i = go (eqb (step i).opcode op_mv_loc) (eqb (step i).opcode op_cp_loc) (eqb (step i).opcode op_st_loc) (step i).carries refl refl refl refl
  where
    go : (a b c d : Bool) → eqb (step i).opcode op_mv_loc ≡ a → eqb (step i).opcode op_cp_loc ≡ b → eqb (step i).opcode op_st_loc ≡ c → (step i).carries ≡ d → Kind (step i) count
    go true b c d p q t u = let e = eqb-true _ _ p in empties e (r.moving i e).0 (r.moving i e).1
    go false true c d p q t u = let e = eqb-true _ _ q in copies e (r.copying i e).0 (r.copying i e).1
    go false false true d p q t u = let e = eqb-true _ _ t in fills e (r.storing i e).0 (r.storing i e).1 (none-carried d u (r.storing i e).1 (r.carrying i)) (h i e)
    go false false false false p q t u = leaves p q t u
    go false false false true p q t u = hands p q t u (r.carrying i u)

-- some one of the first n is marked exactly if one is
some-top : (n : ℕ) (ms : List Bool) (j : ℕ) → j < n → get_or ms j false ≡ true → some_top n ms ≡ true
unfolding some_top
some-top zero ms j h e = absurd (omega arith)
some-top (suc n) ms j h e = go (ℕ_discrete j n) (λ b. some-top n ms j b e)
  where
    either : (a : Bool) → (a || true) ≡ true
    either true = refl
    either false = refl

    go : Dec (j ≡ n) → (j < n → some_top n ms ≡ true) → (some_top n ms || get_or ms n false) ≡ true
    go (yes q) rest = rw (← q, e) (either (some_top j ms))
    go (no q) rest = rw (rest (omega arith)) refl

top-some : (n : ℕ) (ms : List Bool) → some_top n ms ≡ true → (j : ℕ) × (j < n) × (get_or ms j false ≡ true)
unfolding some_top
top-some zero ms e = absurd (false≢true e)
top-some (suc n) ms e = go (some_top n ms) (top-some n ms) refl e
  where
    go : (a : Bool) → (some_top n ms ≡ true → (j : ℕ) × (j < n) × (get_or ms j false ≡ true)) → some_top n ms ≡ a → (a || get_or ms n false) ≡ true → (j : ℕ) × (j < suc n) × (get_or ms j false ≡ true)
    go true ih q d = let r = ih q in (r.0, omega (arith, r.1), r.2)
    go false ih q d = (n, omega arith, d)

-- the locals that are not the instruction's own stay
others_stay : (s : Step) (ls : List Slot) (ms : List Bool) (l : ℕ) → (l ≡ s.operand → ⊥) → get_or (locals_after s ls ms) l empty ≡ get_or ls l empty
others_stay s ls ms l ne =
    after_cases s ls ms (λ r. get_or r l empty ≡ get_or ls l empty)
    (get_or-set_other ls s.operand l _ _ ne)
    (get_or-set_other ls s.operand l _ _ ne)
    refl

-- what is pushed: the mark of the instruction's own local, that of what it takes, or the fresh operands
data Pushed (s : Step) (ls : List Slot) (ms : List Bool) : Type 0 where
  own_one : pushes s ls ms ≡ mark_of (get_or ls s.operand empty) ∷ [] → s.fresh ≡ false ∷ [] → Mem (operand_place 0) (own_moves s) → Pushed s ls ms
  carried_one : pushes s ls ms ≡ some_top s.takes ms ∷ [] → s.fresh ≡ false ∷ [] → eqb s.opcode op_st_loc ≡ false → s.carries ≡ true → Pushed s ls ms
  fresh_ones : pushes s ls ms ≡ s.fresh → Pushed s ls ms

pushes_of : (s : Step) (count : ℕ) (ls : List Slot) (ms : List Bool) → Kind s count → Pushed s ls ms
unfolding pushes own_moves
pushes_of s count ls ms (empties e t f) = own_one (rw e refl) f (rw e (here refl))
pushes_of s count ls ms (copies e t f) = own_one (rw e refl) f (rw e (there (here refl)))
pushes_of s count ls ms (fills e t f c h) = fresh_ones (rw (e, c) refl)
pushes_of s count ls ms (leaves p q r u) = fresh_ones (rw (p, q, u) refl)
pushes_of s count ls ms (hands p q r u f) = carried_one (rw (p, q, u) refl) f r u

-- where the mark of the own local goes: on what is pushed, or it stays in a local that is left
own_inv : (s : Step) (count : ℕ) (ls : List Slot) (ms : List Bool) → Kind s count → {y : ℕ} → Mem y (own_moves s)
    → ((y ≡ operand_place 0) × (pushes s ls ms ≡ mark_of (get_or ls s.operand empty) ∷ [])) ⊎ ((y ≡ local_place s.operand) × (locals_after s ls ms ≡ ls))
unfolding own_moves pushes locals_after
own_inv s count ls ms (empties o t f) m = inl (Memᴰ.eq_of_singleton (rw o at m), rw o refl)
own_inv s count ls ms (copies o t f) m =
    ⊎_elim (λ e. inr (e, rw o refl)) (λ r. inl (Memᴰ.eq_of_singleton r, rw o refl)) (Memᴰ.cases_cons (rw o at m))
own_inv s count ls ms (fills o t f c h) m = absurd (Memᴰ.not-nil (rw o at m))
own_inv s count ls ms (leaves p q r u) m = inr (Memᴰ.eq_of_singleton (rw (p, q, r) at m), rw (p, r) refl)
own_inv s count ls ms (hands p q r u f) m = inr (Memᴰ.eq_of_singleton (rw (p, q, r) at m), rw (p, r) refl)

top-first : (ms : List Bool) → top_mark ms ≡ get_or ms 0 false
top-first [] = refl
top-first (m ∷ ms) = refl

emptied : (ls : List Slot) (l : ℕ) → get_or (set ls l empty) l empty ≡ empty
emptied [] l = refl
emptied (s ∷ ls) zero = refl
emptied (s ∷ ls) (suc l) = emptied ls l

-- a local that is marked is there
marked-there : (ls : List Slot) (l : ℕ) → mark_of (get_or ls l empty) ≡ true → l < length ls
marked-there [] l e = absurd (false≢true e)
marked-there (s ∷ ls) zero e = omega arith
marked-there (s ∷ ls) (suc l) e = omega (arith, marked-there ls l e)

-- a mark before the instruction that moves to place y
abbrev Source : Step → List Slot → List Bool → ℕ → Type 0
Source s ls ms y = (x : ℕ) × MarkedAt ls ms x × Mem y (mark_moves s x)

-- One instruction: a place is marked after it exactly if a mark before it moves there.
module _ (s : Step) (count : ℕ) (small : count ≤ 16) (kind : Kind s count) (ls : List Slot) (ms : List Bool) (sized : length ls ≡ count) where
  -- the operands that are not taken keep their marks, below what is pushed
  length-pushes : length (pushes s ls ms) ≡ length s.fresh
  length-pushes = go (pushes_of s count ls ms kind)
    where
      go : Pushed s ls ms → length (pushes s ls ms) ≡ length s.fresh
      go (own_one e f m) = ap length e ∙ sym (ap length f)
      go (carried_one e f r u) = ap length e ∙ sym (ap length f)
      go (fresh_ones e) = ap length e

  left-mark : (j : ℕ) → get_or (marks_after s ls ms) (length s.fresh + j) false ≡ get_or ms (s.takes + j) false
  unfolding marks_after
  left-mark j = rw (← length-pushes) (pushed_old (pushes s ls ms) (drop s.takes ms) j ∙ get_or-drop s.takes ms j false)

  -- the only operand that is pushed
  one-mark : {m : Bool} → pushes s ls ms ≡ m ∷ [] → get_or (marks_after s ls ms) 0 false ≡ m
  unfolding marks_after pushed_on
  one-mark e = rw e refl

  handed : eqb s.opcode op_mv_loc ≡ false → eqb s.opcode op_cp_loc ≡ false → s.carries ≡ true → pushes s ls ms ≡ some_top s.takes ms ∷ []
  unfolding pushes
  handed p q u = rw (p, q, u) refl

  -- a local that StLoc fills
  filled-mark : s.opcode ≡ op_st_loc → s.operand < count → mark_of (get_or (locals_after s ls ms) s.operand empty) ≡ get_or ms 0 false
  unfolding locals_after
  filled-mark o h = rw (o, get_or-set_same ls s.operand (full (top_mark ms)) empty (rw sized h)) (top-first ms)

  -- Forwards.

  fresh-marked : {y : ℕ} → Mem y (fresh_places s.fresh) → y < mark_places → MarkedAt (locals_after s ls ms) (marks_after s ls ms) y
  unfolding marks_after fresh_places
  fresh-marked {y} m h = go (pushes_of s count ls ms kind)
    where
      go : Pushed s ls ms → MarkedAt (locals_after s ls ms) (marks_after s ls ms) y
      go (own_one e f q) = absurd (Memᴰ.not-nil (rw f at m))
      go (carried_one e f r u) = absurd (Memᴰ.not-nil (rw f at m))
      go (fresh_ones e) = let r = fresh_inv (pushes s ls ms) (drop s.takes ms) (rw (← e) at m) in rw r.2 (on_operand r.0 (omega arith) r.3)

  own-marked : {y : ℕ} → s.operand < 16 → mark_of (get_or ls s.operand empty) ≡ true → Mem y (own_moves s) → MarkedAt (locals_after s ls ms) (marks_after s ls ms) y
  own-marked h e m =
      ⊎_elim
      (λ q. rw q.0 (on_operand 0 (omega arith) (one-mark q.1 ∙ e)))
      (λ q. rw q.0 (in_local s.operand h (rw q.1 e)))
      (own_inv s count ls ms kind m)

  local-marked : (l : ℕ) {y : ℕ} → l < 16 → mark_of (get_or ls l empty) ≡ true → Mem y (mark_moves s (local_place l)) → MarkedAt (locals_after s ls ms) (marks_after s ls ms) y
  local-marked l {y} h e m = go (ℕ_discrete l s.operand)
    where
      go : Dec (l ≡ s.operand) → MarkedAt (locals_after s ls ms) (marks_after s ls ms) y
      go (yes q) = own-marked (rw q at h) (rw q at e) (rw (q, moves-own s (rw q at h)) at m)
      go (no q) = rw (Memᴰ.eq_of_singleton (rw (moves_other s l h q) at m)) (in_local l h (rw (others_stay s ls ms l q) e))

  taken-marked : (j : ℕ) {y : ℕ} → j < s.takes → get_or ms j false ≡ true → Mem y (mark_moves s (operand_place j)) → MarkedAt (locals_after s ls ms) (marks_after s ls ms) y
  taken-marked j {y} h e m = go kind (rw (moves-taken s j h) at m)
    where
      go : Kind s count → Mem y (cond (eqb s.opcode op_st_loc && ltb s.operand 16) (local_place s.operand ∷ []) (cond s.carries (operand_place 0 ∷ []) [])) → MarkedAt (locals_after s ls ms) (marks_after s ls ms) y
      go (empties o t f) m = absurd (omega (arith, t))
      go (copies o t f) m = absurd (omega (arith, t))
      go (fills o t f c b) m =
          let z : j ≡ 0 = omega arith in
          rw (Memᴰ.eq_of_singleton (rw (o, lt-ltb s.operand 16 (omega arith)) at m)) (in_local s.operand (omega arith) (filled-mark o b ∙ (rw z at e)))
      go (leaves p q r u) m = absurd (Memᴰ.not-nil (rw (r, u) at m))
      go (hands p q r u f) m = rw (Memᴰ.eq_of_singleton (rw (r, u) at m)) (on_operand 0 (omega arith) (one-mark (handed p q u) ∙ some-top s.takes ms j h e))

  left-marked : (j : ℕ) {y : ℕ} → get_or ms (s.takes + j) false ≡ true → Mem y (mark_moves s (operand_place (s.takes + j))) → y < mark_places
      → MarkedAt (locals_after s ls ms) (marks_after s ls ms) y
  left-marked j e m b =
      let q = Memᴰ.eq_of_singleton (rw moves-left at m) in
      rw q (on_operand (length s.fresh + j) (omega arith) (left-mark j ∙ e))

  after-marked : {x y : ℕ} → MarkedAt ls ms x → Mem y (mark_moves s x) → y < mark_places → MarkedAt (locals_after s ls ms) (marks_after s ls ms) y
  after-marked bare m h = ⊎_elim (λ e. rw e bare) (λ r. fresh-marked r h) (Memᴰ.cases_cons (rw moves_bare at m))
  after-marked (in_local l b e) m h = local-marked l b e m
  after-marked {y = y} (on_operand j b e) m h = go (dec_lt j s.takes)
    where
      go : Dec (j < s.takes) → MarkedAt (locals_after s ls ms) (marks_after s ls ms) y
      go (yes t) = taken-marked j t e m
      go (no t) = let z : j ≡ s.takes + (j - s.takes) = omega arith in left-marked (j - s.takes) (rw z at e) (rw z at m) h

  -- Backwards.

  own_from : s.operand < 16 → mark_of (get_or (locals_after s ls ms) s.operand empty) ≡ true → Source s ls ms (local_place s.operand)
  unfolding locals_after own_moves
  own_from h e = go kind
    where
      go : Kind s count → Source s ls ms (local_place s.operand)
      go (empties o t f) = absurd (false≢true (ap mark_of (sym (emptied ls s.operand)) ∙ (rw o at e)))
      go (copies o t f) = (local_place s.operand, in_local s.operand h (rw o at e), rw (moves-own s h, o) (here refl))
      go (fills o t f c b) =
          (operand_place 0, on_operand 0 (omega arith) (sym (filled-mark o b) ∙ e), rw (moves-taken s 0 (omega arith), o, lt-ltb s.operand 16 h) (here refl))
      go (leaves p q r u) = (local_place s.operand, in_local s.operand h (rw (p, r) at e), rw (moves-own s h, p, q, r) (here refl))
      go (hands p q r u f) = (local_place s.operand, in_local s.operand h (rw (p, r) at e), rw (moves-own s h, p, q, r) (here refl))

  local_from : (l : ℕ) → l < 16 → mark_of (get_or (locals_after s ls ms) l empty) ≡ true → Source s ls ms (local_place l)
  local_from l h e = go (ℕ_discrete l s.operand)
    where
      go : Dec (l ≡ s.operand) → Source s ls ms (local_place l)
      go (yes q) = rw q (own_from (rw q at h) (rw q at e))
      go (no q) = (local_place l, in_local l h (rw (others_stay s ls ms l q) at e), rw (moves_other s l h q) (here refl))

  carried_from : length ms ≤ 16 → eqb s.opcode op_st_loc ≡ false → s.carries ≡ true → (k : ℕ) → k < s.takes → get_or ms k false ≡ true → Source s ls ms (operand_place 0)
  carried_from few r u k h e = let b = at-below ms k e in (operand_place k, on_operand k (omega arith) e, rw (moves-taken s k h, r, u) (here refl))

  pushed_from : length ms ≤ 16 → (j : ℕ) → j < length s.fresh → get_or (marks_after s ls ms) j false ≡ true → Source s ls ms (operand_place j)
  unfolding marks_after
  pushed_from few j h e = go (pushes_of s count ls ms kind)
    where
      go : Pushed s ls ms → Source s ls ms (operand_place j)
      go (own_one p f q) =
          let z : j ≡ 0 = omega (arith, ap length f) in
          let a : mark_of (get_or ls s.operand empty) ≡ true = sym (one-mark p) ∙ (rw z at e) in
          let b : s.operand < 16 = omega (arith, marked-there ls s.operand a) in
          (local_place s.operand, in_local s.operand b a, rw (z, moves-own s b) q)
      go (carried_one p f r u) =
          let z : j ≡ 0 = omega (arith, ap length f) in
          let a = top-some s.takes ms (sym (one-mark p) ∙ (rw z at e)) in
          rw z (carried_from few r u a.0 a.1 a.2)
      go (fresh_ones q) = (0, bare, rw moves_bare (there (fresh_mem s.fresh (drop s.takes ms) j h (rw q at e))))

  left_from : length ms ≤ 16 → (j : ℕ) → get_or (marks_after s ls ms) (length s.fresh + j) false ≡ true → Source s ls ms (operand_place (length s.fresh + j))
  left_from few j e =
      let a = sym (left-mark j) ∙ e in
      let b = at-below ms (s.takes + j) a in
      (operand_place (s.takes + j), on_operand (s.takes + j) (omega arith) a, rw moves-left (here refl))

  before-marked : length ms ≤ 16 → {y : ℕ} → MarkedAt (locals_after s ls ms) (marks_after s ls ms) y → Source s ls ms y
  before-marked few bare = (0, bare, rw moves_bare (here refl))
  before-marked few (in_local l h e) = local_from l h e
  before-marked few (on_operand j h e) = go (dec_lt j (length s.fresh))
    where
      go : Dec (j < length s.fresh) → Source s ls ms (operand_place j)
      go (yes b) = pushed_from few j b e
      go (no b) = let z : j ≡ length s.fresh + (j - length s.fresh) = omega arith in rw z (left_from few (j - length s.fresh) (rw z at e))

-- How the locals start.

start_bare : (given : ℕ → Bool) (p : ℕ) → Mem 0 (start_places given p)
unfolding start_places
start_bare given zero = here refl
start_bare given (suc p) = pass (given p) (local_place p) (start_bare given p)

start_mem : (given : ℕ → Bool) (p l : ℕ) → l < p → given l ≡ true → Mem (local_place l) (start_places given p)
unfolding start_places
start_mem given zero l h e = absurd (omega arith)
start_mem given (suc p) l h e = go (ℕ_discrete l p) (λ b. start_mem given p l b e)
  where
    go : Dec (l ≡ p) → (l < p → Mem (local_place l) (start_places given p)) → Mem (local_place l) (start_places given (suc p))
    go (yes q) rest = rw (← q, e) (here refl)
    go (no q) rest = pass (given p) (local_place p) (rest (omega arith))

start_inv : (given : ℕ → Bool) (p : ℕ) {x : ℕ} → Mem x (start_places given p) → (x ≡ 0) ⊎ ((l : ℕ) × (x ≡ local_place l) × (l < p) × (given l ≡ true))
unfolding start_places
start_inv given zero m = inl (Memᴰ.eq_of_singleton m)
start_inv given (suc p) m =
    ⊎_elim
    (λ q. inr (p, q.1, omega arith, q.0))
    (λ r. ⊎_elim (λ e. inl e) (λ t. inr (t.0, t.1, omega arith, t.3)) (start_inv given p r))
    (pass_inv (given p) m)

-- a local that is marked at the start is a parameter that is given as marked
entry_inv : (given : ℕ → Bool) (params count l : ℕ) → mark_of (get_or (entry given params count) l empty) ≡ true → (l < params) × (given l ≡ true)
entry_inv given params count l e =
    go (ltb l params) refl (rw (entry_at given params count l (rw length-entry at (marked-there (entry given params count) l e))) at e)
  where
    go : (b : Bool) → ltb l params ≡ b → mark_of (cond b (full (given l)) empty) ≡ true → (l < params) × (given l ≡ true)
    go true q e = (ltb-true l params q, e)
    go false q e = absurd (false≢true e)

module _ (given : ℕ → Bool) (params count : ℕ) (fits : params ≤ count) (small : count ≤ 16) where
  -- the places that are marked at the start are the start's places
  entry-start : {x : ℕ} → MarkedAt (entry given params count) [] x → Mem x (start_places given params)
  entry-start bare = start_bare given params
  entry-start (in_local l h e) = let r = entry_inv given params count l e in start_mem given params l r.0 r.1
  entry-start (on_operand j h e) = absurd (false≢true e)

  start-entry : {x : ℕ} → Mem x (start_places given params) → MarkedAt (entry given params count) [] x
  start-entry m =
      ⊎_elim
      (λ e. rw e bare)
      (λ r. rw r.1 (in_local r.0 (omega arith) (rw (entry_at given params count r.0 (omega arith), lt-ltb r.0 params r.2) r.3)))
      (start_inv given params m)

-- Walks and paths.

local_inv : {ls : List Slot} {ms : List Bool} {x : ℕ} → MarkedAt ls ms x → (l : ℕ) → l < 16 → x ≡ local_place l → mark_of (get_or ls l empty) ≡ true
local_inv bare l h q = absurd (omega arith)
local_inv (in_local a b e) l h q = let z : l ≡ a = omega arith in rw z e
local_inv (on_operand a b e) l h q = absurd (omega arith)

operand_inv : {ls : List Slot} {ms : List Bool} {x : ℕ} → MarkedAt ls ms x → (j : ℕ) → x ≡ operand_place j → get_or ms j false ≡ true
operand_inv bare j q = absurd (omega arith)
operand_inv (in_local a b e) j q = absurd (omega arith)
operand_inv (on_operand a b e) j q = let z : j ≡ a = omega arith in rw z e

module _ (next : ℕ → List ℕ) (step : ℕ → Step) (given : ℕ → Bool) (params count : ℕ) (fits : params ≤ count) (small : count ≤ 16)
    (regular : Regular step) (shallow : Shallow next step (entry given params count)) (stores : (i : ℕ) → (step i).opcode ≡ op_st_loc → (step i).operand < count) where
  -- a mark that a walk arrives with is a path's
  pub walk_marks : {k i : ℕ} {ls : List Slot} {ms : List Bool} {x : ℕ} → Walk next step (entry given params count) k i ls ms → MarkedAt ls ms x
      → Path next (place_moves step) (start_places given params) k i x
  unfolding place_moves
  walk_marks starts a = at_first (entry-start given params count fits small a)
  walk_marks (goes_on {i = i} {ls = ls} {ms = ms} w m) a =
      let r = before-marked (step i) count small (kind-of step count regular stores i) ls ms (walk_count given params count w) (shallow.few w) a in
      onwards (walk_marks w r.1) m (within_mem r.2 (marked-place a))

  -- a path's end is marked by a walk
  pub marks_walk : {k i x : ℕ} → Path next (place_moves step) (start_places given params) k i x
      → (ls : List Slot) × (ms : List Bool) × Walk next step (entry given params count) k i ls ms × MarkedAt ls ms x
  unfolding place_moves
  marks_walk (at_first m) = (entry given params count, [], starts, start-entry given params count fits small m)
  marks_walk (onwards {i = i} {x = x} p h m) =
      let r = marks_walk p in
      let y = within_inv (mark_moves (step i) x) m in (
        locals_after (step i) r.0 r.1,
        marks_after (step i) r.0 r.1,
        goes_on r.2 h,
        after-marked (step i) count small (kind-of step count regular stores i) r.0 r.1 (walk_count given params count r.2) r.3 y.0 y.1,
      )

  module _ (n : ℕ) (some : 0 < n) (next_below : (i j : ℕ) → Mem j (next i) → j < n) where
    from_small : (x : ℕ) → Mem x (start_places given params) → x < mark_places
    from_small x m = marked-place (start-entry given params count fits small m)

    moves_small : (i x y : ℕ) → x < mark_places → Mem y (place_moves step i x) → y < mark_places
    unfolding place_moves
    moves_small i x y h m = (within_inv (mark_moves (step i) x) m).1

    place-shown : (i x : ℕ) → x < mark_places → get_or (mark_nodes next step given params n) (mark_places * i + x) false ≡ true
        → (k : ℕ) × (k ≤ mark_places * n) × (ls : List Slot) × (ms : List Bool) × Walk next step (entry given params count) k i ls ms × MarkedAt ls ms x
    unfolding mark_nodes
    place-shown i x h e =
        let r = path_shown mark_places next (place_moves step) n (start_places given params) (omega arith) some from_small moves_small next_below i x h e in
        let w = marks_walk r.2 in
        (r.0, r.1, w.0, w.1, w.2, w.3)

    place_found : {k i : ℕ} {ls : List Slot} {ms : List Bool} {x : ℕ} → Walk next step (entry given params count) k i ls ms → MarkedAt ls ms x
        → get_or (mark_nodes next step given params n) (mark_places * i + x) false ≡ true
    unfolding mark_nodes
    place_found w a = path_found mark_places next (place_moves step) n (start_places given params) (omega arith) some from_small moves_small next_below (walk_marks w a)

    -- where a local is marked a walk of at most 33 n instructions shows it
    pub local_mark_shown : (i l : ℕ) → l < 16 → local_marked (mark_nodes next step given params n) i l ≡ true
        → (k : ℕ) × (k ≤ mark_places * n) × (ls : List Slot) × (ms : List Bool) × Walk next step (entry given params count) k i ls ms × (mark_of (get_or ls l empty) ≡ true)
    local_mark_shown i l h e = let r = place-shown i (local_place l) (omega arith) e in (r.0, r.1, r.2, r.3, r.4, local_inv r.5 l h refl)

    -- where a walk arrives with a mark in a local the local is marked
    pub local_mark_found : {k i : ℕ} {ls : List Slot} {ms : List Bool} → Walk next step (entry given params count) k i ls ms → (l : ℕ) → l < 16
        → mark_of (get_or ls l empty) ≡ true → local_marked (mark_nodes next step given params n) i l ≡ true
    local_mark_found w l h e = place_found w (in_local l h e)

    -- where an operand is marked a walk of at most 33 n instructions shows it
    pub operand_mark_shown : (i j : ℕ) → j < 16 → operand_marked (mark_nodes next step given params n) i j ≡ true
        → (k : ℕ) × (k ≤ mark_places * n) × (ls : List Slot) × (ms : List Bool) × Walk next step (entry given params count) k i ls ms × (get_or ms j false ≡ true)
    operand_mark_shown i j h e = let r = place-shown i (operand_place j) (omega arith) e in (r.0, r.1, r.2, r.3, r.4, operand_inv r.5 j refl)

    -- where a walk arrives with a mark on an operand the operand is marked
    pub operand_mark_found : {k i : ℕ} {ls : List Slot} {ms : List Bool} → Walk next step (entry given params count) k i ls ms → (j : ℕ) → j < 16
        → get_or ms j false ≡ true → operand_marked (mark_nodes next step given params n) i j ≡ true
    operand_mark_found w j h e = place_found w (on_operand j h e)
