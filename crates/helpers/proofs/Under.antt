-- Paths of a procedure under marks: they grow with the marks, are the marks of walks, and say when marks are closed.
use Prim.Native.Nat.{ℕ, zero, suc, ◌+◌, ◌-◌, ◌*◌, ◌<◌}
use mathlib.Core.Path.{◌≡◌, refl, ap, sym, ◌∙◌}
use mathlib.Core.List.Memᴰ
use mathlib.Core.List.{List, [], ◌∷◌}
use mathlib.Core.Bool.{Bool, true, false, cond, false≢true, ◌&&◌}
use mathlib.Core.Logic.{◌⊎◌, inl, inr, ⊎_elim}
use native.Mathlib.Decide.{ℕ_discrete}
use native.Mathlib.Omega.{arith}
use borrow.Author.Tests.{eqb-true, ltb-true, lt-ltb, ne_eqb}
use lib.Dec.{eqb, ltb}
use lib.ListN.{length, get_or}
use Rattle.laws.specs.Lists.{tabulate}
use Rattle.laws.proofs.Lists.{length-tabulate, get_d_tabulate}
use Rattle.laws.proofs.Tests.{and_both}
use Rattle.table.specs.Format.{op_mv_loc, op_cp_loc, op_st_loc, op_call, op_ret}
use Rattle.reach.specs.Reach.{Mem, here, there, At}
use Rattle.reach.proofs.Laws.{at-below}
use Rattle.flow.specs.Steps.{Step}
use Rattle.flow.specs.Walks.{Slot}
use Rattle.flow.specs.Places.{local_place, operand_place, mark_places, fresh_places, mark_moves, place_moves, start_places, mark_nodes}
use Rattle.flow.specs.code.Paths.{Path, at_first, onwards, Regular}
use Rattle.flow.proofs.Paths.{path_shown, path_found}
use Rattle.flow.proofs.Marks.{MarkedAt, bare, in_local, on_operand, walk_marks, marks_walk}
use Rattle.flow.proofs.Same.{marks_same}
use Rattle.steps.specs.Steps.{no_step}
use Rattle.helpers.specs.Marks.{Procedure, per_procedure, parameter_at, result_at, parameter_of, result_of, step_under, WalkUnder, Closed, Below}
use Rattle.helpers.specs.Rounds.{sends, nodes_under}
use Rattle.helpers.proofs.Fits.{Fits, Walkable}
use Rattle.helpers.proofs.Lists.{cond_inv, pass, pass_inv, within_inv, within_mem, fresh_mem, fresh_inv}

-- Instructions under marks.

pub length-fresh : (m : List Bool) (s : Step) → length (step_under m s).fresh ≡ length s.fresh
unfolding step_under
length-fresh m s = go (eqb s.opcode op_call)
  where
    go : (b : Bool) → length (cond b (tabulate (result_of m s.operand) (length s.fresh)) s.fresh) ≡ length s.fresh
    go true = length-tabulate (result_of m s.operand) (length s.fresh)
    go false = refl

-- what a Call pushes is marked as the results are, and what another pushes as of itself
pub call-fresh : (m : List Bool) (s : Step) (r : ℕ) → eqb s.opcode op_call ≡ true → r < length s.fresh → get_or (step_under m s).fresh r false ≡ result_of m s.operand r
unfolding step_under
call-fresh m s r e h = rw e (get_d_tabulate (result_of m s.operand) false (length s.fresh) r h)

pub own_fresh : (m : List Bool) (s : Step) → eqb s.opcode op_call ≡ false → (step_under m s).fresh ≡ s.fresh
unfolding step_under
own_fresh m s e = rw e refl

pub fresh-under : (m : List Bool) (s : Step) (r : ℕ) → r < length s.fresh → get_or (step_under m s).fresh r false ≡ true
    → ((eqb s.opcode op_call ≡ true) × (result_of m s.operand r ≡ true)) ⊎ ((eqb s.opcode op_call ≡ false) × (get_or s.fresh r false ≡ true))
fresh-under m s r h e = go (eqb s.opcode op_call) refl
  where
    go : (b : Bool) → eqb s.opcode op_call ≡ b → ((eqb s.opcode op_call ≡ true) × (result_of m s.operand r ≡ true)) ⊎ ((eqb s.opcode op_call ≡ false) × (get_or s.fresh r false ≡ true))
    go true q = inl (q, sym (call-fresh m s r q h) ∙ e)
    go false q = inr (q, rw (own_fresh m s q) at e)

-- fresh marks grow with the marks
fresh_mono : (m n : List Bool) → Below m n → (s : Step) (r : ℕ) → r < length s.fresh → get_or (step_under m s).fresh r false ≡ true → get_or (step_under n s).fresh r false ≡ true
unfolding result_of
fresh_mono m n below s r h e =
    ⊎_elim (λ q. call-fresh n s r q.0 h ∙ below (result_at s.operand r) q.1) (λ q. rw (own_fresh n s q.0) q.1) (fresh-under m s r h e)

-- where marks go does not depend on the marks, but for the bare instruction
goes : Step → ℕ → ℕ → List ℕ
goes s gives x =
    cond (ltb x 17)
    (cond (eqb (local_place s.operand) x)
    (cond (eqb s.opcode op_mv_loc) (operand_place 0 ∷ [])
    (cond (eqb s.opcode op_cp_loc) (x ∷ operand_place 0 ∷ [])
    (cond (eqb s.opcode op_st_loc) []
    (x ∷ []))))
    (x ∷ []))
    (cond (ltb (x - 17) s.takes)
    (cond (eqb s.opcode op_st_loc && ltb s.operand 16) (local_place s.operand ∷ [])
    (cond s.carries (operand_place 0 ∷ []) []))
    ((x - s.takes + gives) ∷ []))

moves_by : (s : Step) (x : ℕ) → mark_moves s (suc x) ≡ goes s (length s.fresh) (suc x)
unfolding mark_moves goes
moves_by s x = rw (ne_eqb (suc x) 0 (λ e. omega arith)) refl

pub moves-same : (m n : List Bool) (s : Step) (x : ℕ) → mark_moves (step_under m s) (suc x) ≡ mark_moves (step_under n s) (suc x)
unfolding step_under goes
moves-same m n s x =
    moves_by (step_under m s) x
    ∙ ap (λ (g : ℕ). goes s g (suc x)) (length-fresh m s ∙ sym (length-fresh n s))
    ∙ sym (moves_by (step_under n s) x)

-- marks move from the bare instruction to what is marked of itself
pub bare_inv : (step : ℕ → Step) (i : ℕ) {y : ℕ} → Mem y (place_moves step i 0)
    → (y ≡ 0) ⊎ ((r : ℕ) × (r < length (step i).fresh) × (get_or (step i).fresh r false ≡ true) × (y ≡ operand_place (length (step i).fresh - 1 - r)) × (y < mark_places))
unfolding place_moves mark_moves
bare_inv step i m =
    let w = within_inv (0 ∷ fresh_places (step i).fresh) m in
    ⊎_elim (λ e. inl e) (λ t. let f = fresh_inv (step i).fresh t in inr (f.0, f.1, f.2, f.3, w.1)) (Memᴰ.cases_cons w.0)

pub bare_mem : (step : ℕ → Step) (i r : ℕ) → r < length (step i).fresh → get_or (step i).fresh r false ≡ true → operand_place (length (step i).fresh - 1 - r) < mark_places
    → Mem (operand_place (length (step i).fresh - 1 - r)) (place_moves step i 0)
unfolding place_moves mark_moves
bare_mem step i r h e b = within_mem (there (fresh_mem (step i).fresh r h e)) b

pub bare_stays : (step : ℕ → Step) (i : ℕ) → Mem 0 (place_moves step i 0)
unfolding place_moves mark_moves
bare_stays step i = within_mem (here refl) (omega arith)

-- all moves grow with the marks
pub moves_mono : (m n : List Bool) → Below m n → (step : ℕ → Step) (i x : ℕ) {y : ℕ}
    → Mem y (place_moves (λ (i : ℕ). step_under m (step i)) i x) → Mem y (place_moves (λ (i : ℕ). step_under n (step i)) i x)
unfolding place_moves
moves_mono m n below step i zero t =
    ⊎_elim
    (λ e. rw e (bare_stays (λ (i : ℕ). step_under n (step i)) i))
    (λ f.
    let a : f.0 < length (step i).fresh = rw length-fresh at f.1 in
    let z : length (step_under m (step i)).fresh ≡ length (step_under n (step i)).fresh = length-fresh m (step i) ∙ sym (length-fresh n (step i)) in
    rw (f.3, z) (bare_mem (λ (i : ℕ). step_under n (step i)) i f.0 (rw length-fresh a) (fresh_mono m n below (step i) f.0 a f.2) (rw (f.3, z) at f.4)))
    (bare_inv (λ (i : ℕ). step_under m (step i)) i t)
moves_mono m n below step i (suc x) t = rw (moves-same m n (step i) x) at t

-- Starts.

pub start_bare : (given : ℕ → Bool) (n : ℕ) → Mem 0 (start_places given n)
unfolding start_places
start_bare given zero = here refl
start_bare given (suc n) = pass (given n) (local_place n) (start_bare given n)

pub start_mono : (f g : ℕ → Bool) → ((l : ℕ) → f l ≡ true → g l ≡ true) → (n : ℕ) {x : ℕ} → Mem x (start_places f n) → Mem x (start_places g n)
unfolding start_places
start_mono f g h zero t = t
start_mono f g h (suc n) t = ⊎_elim (λ q. rw (h n q.0) (here q.1)) (λ r. pass (g n) (local_place n) (start_mono f g h n r)) (pass_inv (f n) t)

pub start_inv : (f : ℕ → Bool) (n : ℕ) {x : ℕ} → Mem (suc x) (start_places f n) → (x < n) × (f x ≡ true)
unfolding start_places
start_inv f zero t = absurd (omega (arith, Memᴰ.eq_of_singleton t))
start_inv f (suc n) {x} t =
    ⊎_elim (λ q. let z : x ≡ n = omega (arith, q.1) in (omega arith, rw z q.0)) (λ r. let s = start_inv f n r in (omega (arith, s.0), s.1)) (pass_inv (f n) t)

pub start_mem : (f : ℕ → Bool) (n x : ℕ) → x < n → f x ≡ true → Mem (suc x) (start_places f n)
unfolding start_places
start_mem f zero x h e = absurd (omega arith)
start_mem f (suc n) x h e = go (ℕ_discrete x n) (λ b. start_mem f n x b e)
  where
    go : Dec (x ≡ n) → (x < n → Mem (suc x) (start_places f n)) → Mem (suc x) (cond (f n) (local_place n ∷ start_places f n) (start_places f n))
    go (yes q) rest = let z : suc x ≡ local_place x = omega arith in rw (← q, e) (here z)
    go (no q) rest = pass (f n) (local_place n) (rest (omega arith))

-- Paths.

abbrev pub PathUnder : (ℕ → Procedure) → List Bool → ℕ → ℕ → ℕ → ℕ → Type 0
PathUnder code m q = Path (code q).next (place_moves (λ (i : ℕ). step_under m ((code q).step i))) (start_places (parameter_of m q) (code q).params)

-- what walks under the marks give and return is in them, by paths
abbrev pub Sent : (ℕ → Procedure) → ℕ → List Bool → Type 0
Sent code count m = (q : ℕ) → q < count → (k i j : ℕ) → PathUnder code m q k i (operand_place j) → (v : ℕ) → Mem v (sends (code q) q i j) → At m v

pub path_mono : (code : ℕ → Procedure) (m n : List Bool) → Below m n → (q : ℕ) {k i x : ℕ} → PathUnder code m q k i x → PathUnder code n q k i x
unfolding parameter_of
path_mono code m n below q (at_first t) = at_first (start_mono (parameter_of m q) (parameter_of n q) (λ l. below (parameter_at q l)) (code q).params t)
path_mono code m n below q (onwards {i = i} {x = x} p h t) = onwards (path_mono code m n below q p) h (moves_mono m n below (code q).step i x t)

pub sends_inv : (p : Procedure) (q i j : ℕ) {v : ℕ} → Mem v (sends p q i j) → (j < (p.step i).takes)
    × (((p.helper i ≡ true) × (v ≡ parameter_at (p.step i).operand ((p.step i).takes - 1 - j)))
    ⊎ ((p.is_private ≡ true) × ((p.step i).opcode ≡ op_ret) × (v ≡ result_at q ((p.step i).takes - 1 - j))))
unfolding sends
sends_inv p q i j {v} t =
    let c = cond_inv (ltb j (p.step i).takes) t in
    (ltb-true j (p.step i).takes c.0, go (p.helper i) refl c.1)
  where
    go : (b : Bool) → p.helper i ≡ b
        → Mem v (cond b (parameter_at (p.step i).operand ((p.step i).takes - 1 - j) ∷ []) (cond (p.is_private && eqb (p.step i).opcode op_ret) (result_at q ((p.step i).takes - 1 - j) ∷ []) []))
        → ((p.helper i ≡ true) × (v ≡ parameter_at (p.step i).operand ((p.step i).takes - 1 - j)))
        ⊎ ((p.is_private ≡ true) × ((p.step i).opcode ≡ op_ret) × (v ≡ result_at q ((p.step i).takes - 1 - j)))
    go true e t = inl (e, Memᴰ.eq_of_singleton t)
    go false e t =
        let c = cond_inv (p.is_private && eqb (p.step i).opcode op_ret) t in
        let a = and_both p.is_private (eqb (p.step i).opcode op_ret) c.0 in
        inr (a.0, eqb-true (p.step i).opcode op_ret a.1, Memᴰ.eq_of_singleton c.1)

pub sends-call : (p : Procedure) (q i j : ℕ) → j < (p.step i).takes → p.helper i ≡ true → Mem (parameter_at (p.step i).operand ((p.step i).takes - 1 - j)) (sends p q i j)
unfolding sends
sends-call p q i j h e = rw (lt-ltb j (p.step i).takes h, e) (here refl)

pub sends_return : (p : Procedure) (q i j : ℕ) → j < (p.step i).takes → p.helper i ≡ false → p.is_private ≡ true → (p.step i).opcode ≡ op_ret
    → Mem (result_at q ((p.step i).takes - 1 - j)) (sends p q i j)
unfolding sends
sends_return p q i j h e f o = rw (lt-ltb j (p.step i).takes h, e, f, o) (here refl)

-- A place is one of 33.

pub places_small : (f : ℕ → Step) (i x : ℕ) {y : ℕ} → Mem y (place_moves f i x) → y < mark_places
unfolding place_moves
places_small f i x m = (within_inv _ m).1

-- Where marks come to, by steps that are not listed.

pub nodes_are : (code : ℕ → Procedure) (m : List Bool) (q : ℕ)
    → nodes_under code m q ≡ mark_nodes (code q).next (λ (i : ℕ). step_under m ((code q).step i)) (parameter_of m q) (code q).params (code q).size
unfolding nodes_under
nodes_are code m q = marks_same _ _ _ _ _ _ (λ i h. get_d_tabulate (λ (i : ℕ). step_under m ((code q).step i)) no_step (code q).size i h)

-- What rows and names give is enough for paths.
module _ (code : ℕ → Procedure) (count : ℕ) (fit : Fits code count) where
  pub path_below : (m : List Bool) (q : ℕ) → q < count → {k i x : ℕ} → PathUnder code m q k i x → i < (code q).size
  path_below m q h (at_first t) = fit.some q h
  path_below m q h (onwards {i = i} {j = j} p n t) = fit.next_below q h i j n

  -- a path comes to a place
  pub path_small : (m : List Bool) (q : ℕ) → q < count → {k i x : ℕ} → PathUnder code m q k i x → x < mark_places
  path_small m q h {x = zero} p = omega arith
  path_small m q h {x = suc x} (at_first t) = let s = start_inv (parameter_of m q) (code q).params t in omega (arith, s.0, fit.fits q h, fit.small q h)
  path_small m q h {x = suc x} (onwards {i = i} {x = u} p n t) = places_small (λ (i : ℕ). step_under m ((code q).step i)) i u t

  -- what is sent is one of the places of marks
  pub sends-below : (q : ℕ) → q < count → (i j : ℕ) {v : ℕ} → Mem v (sends (code q) q i j) → v < per_procedure * count
  sends-below q h i j t =
      let s = sends_inv (code q) q i j t in
      ⊎_elim
      (λ a. let c = fit.helped q h i a.0 in let d = fit.called q h i c.0 in omega (arith, s.0, a.1, c.1, d.0))
      (λ a. omega (arith, s.0, a.2, fit.returned q h i a.1, h))
      s.1

  -- the analysis of one procedure under marks finds exactly where paths come to
  module _ (m : List Bool) (q : ℕ) (h : q < count) where
    abbrev steps : ℕ → Step
    steps i = step_under m ((code q).step i)

    pub node_shown : (i x : ℕ) → x < mark_places → get_or (nodes_under code m q) (mark_places * i + x) false ≡ true → (k : ℕ) × PathUnder code m q k i x
    unfolding mark_nodes
    node_shown i x b e =
        let r = path_shown mark_places (code q).next (place_moves steps) (code q).size (start_places (parameter_of m q) (code q).params)
        (omega arith) (fit.some q h) (λ y t. path_small m q h (at_first t)) (λ i x y c t. places_small steps i x t) (fit.next_below q h) i x b (rw (nodes_are code m q) at e) in
        (r.0, r.2)

    pub node_found : {k i x : ℕ} → PathUnder code m q k i x → get_or (nodes_under code m q) (mark_places * i + x) false ≡ true
    unfolding mark_nodes
    node_found p =
        rw (nodes_are code m q)
        (path_found mark_places (code q).next (place_moves steps) (code q).size (start_places (parameter_of m q) (code q).params)
        (omega arith) (fit.some q h) (λ y t. path_small m q h (at_first t)) (λ i x y c t. places_small steps i x t) (fit.next_below q h) p)

-- Walks.

-- a mark on an operand
operand_inv : {ls : List Slot} {ms : List Bool} {x : ℕ} → MarkedAt ls ms x → (j : ℕ) → x ≡ operand_place j → (j < 16) × (get_or ms j false ≡ true)
operand_inv bare j q = absurd (omega arith)
operand_inv (in_local a b e) j q = absurd (omega arith)
operand_inv (on_operand a b e) j q = let z : j ≡ a = omega arith in (omega arith, rw z e)

regular_under : (m : List Bool) (step : ℕ → Step) → Regular step → ((i : ℕ) → (step i).opcode ≡ op_call → (step i).carries ≡ false) → Regular (λ (i : ℕ). step_under m (step i))
unfolding step_under
regular_under m step r c = record {
  moving = λ i e. ((r.moving i e).0, own_fresh m (step i) (rw e refl) ∙ (r.moving i e).1);
  copying = λ i e. ((r.copying i e).0, own_fresh m (step i) (rw e refl) ∙ (r.copying i e).1);
  storing = λ i e. ((r.storing i e).0, own_fresh m (step i) (rw e refl) ∙ (r.storing i e).1);
  carrying = λ i e. own_fresh m (step i) (no_call i e) ∙ r.carrying i e;
}
  where
    no_call : (i : ℕ) → (step i).carries ≡ true → eqb (step i).opcode op_call ≡ false
    no_call i e = go (eqb (step i).opcode op_call) refl
      where
        go : (b : Bool) → eqb (step i).opcode op_call ≡ b → b ≡ false
        go true q = absurd (false≢true (sym (c i (eqb-true (step i).opcode op_call q)) ∙ e))
        go false q = refl

module _ (code : ℕ → Procedure) (count : ℕ) (fit : Fits code count) (walkable : Walkable code count) where
  regular_at : (m : List Bool) (q : ℕ) → q < count → Regular (λ (i : ℕ). step_under m ((code q).step i))
  regular_at m q h = regular_under m (code q).step (walkable.regular q h) (walkable.uncarried q h)

  pub to_path : (m : List Bool) (q : ℕ) → q < count → {k i : ℕ} {ls : List Slot} {ms : List Bool} {x : ℕ} → WalkUnder code m q k i ls ms → MarkedAt ls ms x → PathUnder code m q k i x
  unfolding step_under
  to_path m q h =
      walk_marks (code q).next (λ (i : ℕ). step_under m ((code q).step i)) (parameter_of m q) (code q).params (code q).locals
      (fit.fits q h) (fit.small q h) (regular_at m q h) (walkable.shallow q h m) (walkable.stores q h)

  pub to_walk : (m : List Bool) (q : ℕ) → q < count → {k i : ℕ} (j : ℕ) → PathUnder code m q k i (operand_place j)
      → (ls : List Slot) × (ms : List Bool) × WalkUnder code m q k i ls ms × (j < 16) × (get_or ms j false ≡ true)
  unfolding step_under
  to_walk m q h j p =
      let r = marks_walk (code q).next (λ (i : ℕ). step_under m ((code q).step i)) (parameter_of m q) (code q).params (code q).locals
      (fit.fits q h) (fit.small q h) (regular_at m q h) (walkable.shallow q h m) (walkable.stores q h) p in
      let o = operand_inv r.3 j refl in
      (r.0, r.1, r.2, o.0, o.1)

  -- closed marks are those that hold what paths send
  pub closed-sent : (m : List Bool) → Closed code count m → Sent code count m
  unfolding parameter_of result_of
  closed-sent m c q h k i j p v t =
      let w = to_walk m q h j p in
      let s = sends_inv (code q) q i j t in
      let z : ((code q).step i).takes - 1 - (((code q).step i).takes - 1 - j) ≡ j = omega (arith, s.0) in
      ⊎_elim
      (λ a. rw a.1 (c.calls q h w.2 a.0 (((code q).step i).takes - 1 - j) (omega (arith, s.0)) (rw z w.4)))
      (λ a. rw a.2 (c.returns q h w.2 a.0 a.1 (((code q).step i).takes - 1 - j) (omega (arith, s.0)) (rw z w.4)))
      s.1

  pub sent-closed : (m : List Bool) → Sent code count m → Closed code count m
  unfolding parameter_of result_of
  sent-closed m s = record {
    calls = λ q h {k} {i} {ls} {ms} w e l b a.
        let z : ((code q).step i).takes - 1 - (((code q).step i).takes - 1 - l) ≡ l = omega arith in
        rw z at (s q h k i (((code q).step i).takes - 1 - l) (path q h w (((code q).step i).takes - 1 - l) a) _ (sends-call (code q) q i (((code q).step i).takes - 1 - l) (omega arith) e));
    returns = λ q h {k} {i} {ls} {ms} w e o r b a.
        let z : ((code q).step i).takes - 1 - (((code q).step i).takes - 1 - r) ≡ r = omega arith in
        rw z at (s q h k i (((code q).step i).takes - 1 - r) (path q h w (((code q).step i).takes - 1 - r) a) _ (sends_return (code q) q i (((code q).step i).takes - 1 - r) (omega arith) (no_helper q h i o) e o));
  }
    where
      path : (q : ℕ) → q < count → {k i : ℕ} {ls : List Slot} {ms : List Bool} → WalkUnder code m q k i ls ms → (j : ℕ) → get_or ms j false ≡ true → PathUnder code m q k i (operand_place j)
      path q h {ms = ms} w j a = to_path m q h w (on_operand j (omega (arith, at-below ms j a, (walkable.shallow q h m).few w)) a)

      no_helper : (q : ℕ) → q < count → (i : ℕ) → ((code q).step i).opcode ≡ op_ret → (code q).helper i ≡ false
      no_helper q h i o = go ((code q).helper i) refl
        where
          go : (b : Bool) → (code q).helper i ≡ b → b ≡ false
          go true e = absurd (omega (arith, o, (fit.helped q h i e).0))
          go false e = refl
