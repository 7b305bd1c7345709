-- Laws of the rounds: what is in a round is reached by a walk of so many steps, and what walks reach is in the round numbered as there are nodes, which no sweep changes.
use Prim.Native.Nat.{ℕ, zero, suc, ◌+◌, ◌-◌, ◌<◌, ◌≤◌}
use mathlib.Core.Path.{◌≡◌, refl, ap, sym, ◌∙◌}
use mathlib.Core.List.{List, [], ◌∷◌}
use mathlib.Core.Bool.{Bool, true, false, false≢true}
use mathlib.Core.Logic.{◌⊎◌, inl, inr, ⊎_elim}
use native.Mathlib.Nat.{add-zero, zero-add, suc-add}
use native.Mathlib.Decide.{dec_le}
use native.Mathlib.Omega.{arith}
use lib.ListN.{length, get_or, set, replicate, length-set}
use lib.Seq.{get_or-set_same, ext_get_or}
use Rattle.reach.specs.Reach.{Mem, here, there, At, Inside, Walk, start, step, Reached, mark, push, sweep, rounds, iter, count_true}

-- Sets.

-- what is in a set is one of the nodes
pub at-below : (s : List Bool) (v : ℕ) → At s v → v < length s
at-below [] v h = absurd (false≢true h)
at-below (x ∷ s) zero h = omega arith
at-below (x ∷ s) (suc v) h = omega (arith, at-below s v h)

-- nothing is in the empty set
pub none-at : (n v : ℕ) → At (replicate n false) v → ⊥
none-at zero v h = false≢true h
none-at (suc n) zero h = false≢true h
none-at (suc n) (suc v) h = none-at n v h

-- sets with as many nodes and the same nodes in them are equal
pub same_set : (s t : List Bool) → length s ≡ length t → ((v : ℕ) → At s v → At t v) → ((v : ℕ) → At t v → At s v) → s ≡ t
same_set s t l f g = ext_get_or false s t l (λ v h. agree (get_or s v false) (get_or t v false) (f v) (g v))
  where
    agree : (a b : Bool) → (a ≡ true → b ≡ true) → (b ≡ true → a ≡ true) → a ≡ b
    agree true b f g = sym (f refl)
    agree false true f g = g refl
    agree false false f g = refl

-- a node more leaves what was there
pub set_old : (s : List Bool) (w v : ℕ) → At s v → At (set s w true) v
set_old [] w v h = h
set_old (x ∷ s) zero zero h = refl
set_old (x ∷ s) zero (suc v) h = h
set_old (x ∷ s) (suc w) zero h = h
set_old (x ∷ s) (suc w) (suc v) h = set_old s w v h

-- and adds no other
pub set_inv : (s : List Bool) (w v : ℕ) → At (set s w true) v → At s v ⊎ (v ≡ w)
set_inv [] w v h = inl h
set_inv (x ∷ s) zero zero h = inr refl
set_inv (x ∷ s) zero (suc v) h = inl h
set_inv (x ∷ s) (suc w) zero h = inl h
set_inv (x ∷ s) (suc w) (suc v) h = ⊎_elim (λ a. inl a) (λ e. inr (ap suc e)) (set_inv s w v h)

-- so for a list of nodes
pub length-mark : (vs : List ℕ) (s : List Bool) → length (mark s vs) ≡ length s
unfolding mark
length-mark [] s = refl
length-mark (v ∷ vs) s = length-mark vs (set s v true) ∙ length-set s v true

pub mark_old : (vs : List ℕ) (s : List Bool) (v : ℕ) → At s v → At (mark s vs) v
unfolding mark
mark_old [] s v h = h
mark_old (w ∷ vs) s v h = mark_old vs (set s w true) v (set_old s w v h)

pub mark-new : {v : ℕ} {vs : List ℕ} → Mem v vs → (s : List Bool) → v < length s → At (mark s vs) v
unfolding mark
mark-new {v} (here {xs = vs} e) s h = rw (← e) (mark_old vs (set s v true) v (get_or-set_same s v true false h))
mark-new (there {x = w} m) s h = mark-new m (set s w true) (rw length-set h)

pub mark_inv : (vs : List ℕ) (s : List Bool) (v : ℕ) → At (mark s vs) v → At s v ⊎ Mem v vs
unfolding mark
mark_inv [] s v h = inl h
mark_inv (w ∷ vs) s v h =
    ⊎_elim (λ a. ⊎_elim (λ b. inl b) (λ e. inr (here e)) (set_inv s w v a)) (λ m. inr (there m)) (mark_inv vs (set s w true) v h)

-- Counts.

pub count-le : (s : List Bool) → count_true s ≤ length s
unfolding count_true
count-le [] = omega arith
count-le (true ∷ s) = omega (arith, count-le s)
count-le (false ∷ s) = omega (arith, count-le s)

-- a new node adds one to the count
pub count_set : (s : List Bool) (v : ℕ) → v < length s → (At s v → ⊥) → count_true (set s v true) ≡ count_true s + 1
unfolding count_true
count_set [] v h n = absurd (omega arith)
count_set (true ∷ s) zero h n = absurd (n refl)
count_set (false ∷ s) zero h n = omega arith
count_set (true ∷ s) (suc v) h n = omega (arith, count_set s v (omega arith) n)
count_set (false ∷ s) (suc v) h n = count_set s v (omega arith) n

-- a set that lacks a node has fewer in it than there are nodes
pub count_lt : (s : List Bool) (v : ℕ) → v < length s → (At s v → ⊥) → count_true s < length s
count_lt s v h n = omega (arith, count_set s v h n, count-le (set s v true), length-set s v true)

-- a set with as many nodes that holds another has more in it, or is the other
pub grow : (s t : List Bool) → length s ≡ length t → ((v : ℕ) → At s v → At t v) → (count_true s < count_true t) ⊎ (t ≡ s)
unfolding count_true
grow [] [] e h = inr refl
grow [] (y ∷ t) e h = absurd (omega arith)
grow (x ∷ s) [] e h = absurd (omega arith)
grow (true ∷ s) (true ∷ t) e h = ⊎_elim (λ a. inl (omega arith)) (λ a. inr (rw a refl)) (grow s t (omega arith) (λ v. h (suc v)))
grow (true ∷ s) (false ∷ t) e h = absurd (false≢true (h 0 refl))
grow (false ∷ s) (true ∷ t) e h = ⊎_elim (λ a. inl (omega arith)) (λ a. inl (omega (arith, ap count_true a))) (grow s t (omega arith) (λ v. h (suc v)))
grow (false ∷ s) (false ∷ t) e h = ⊎_elim (λ a. inl (omega arith)) (λ a. inr (rw a refl)) (grow s t (omega arith) (λ v. h (suc v)))

-- Rounds of a function on sets.
module _ (f : List Bool → List Bool) where
  -- a round that the function does not change is every later round
  pub stays : (s : List Bool) (k n : ℕ) → f (rounds f k s) ≡ rounds f k s → k ≤ n → rounds f k s ≡ rounds f n s
  unfolding rounds
  stays s k n e h = let z : n - k + k ≡ n = omega arith in sym (rw z at (later (n - k)))
    where
      later : (j : ℕ) → rounds f (j + k) s ≡ rounds f k s
      later zero = rw zero-add refl
      later (suc j) = rw suc-add (ap f (later j) ∙ e)

  -- of one that keeps the number of nodes and what is there
  module _ (sized : (s : List Bool) → length (f s) ≡ length s) (keeps : (s : List Bool) (v : ℕ) → At s v → At (f s) v) where
    pub length-rounds : (k : ℕ) (s : List Bool) → length (rounds f k s) ≡ length s
    unfolding rounds
    length-rounds zero s = refl
    length-rounds (suc k) s = sized (rounds f k s) ∙ length-rounds k s

    grows : (s : List Bool) (k : ℕ) → (count_true (rounds f k s) < count_true (f (rounds f k s))) ⊎ (f (rounds f k s) ≡ rounds f k s)
    grows s k = grow (rounds f k s) (f (rounds f k s)) (sym (sized (rounds f k s))) (keeps (rounds f k s))

    -- the rounds grow until one is not changed
    chain : (s : List Bool) (k : ℕ) → (f (rounds f k s) ≡ rounds f k s) ⊎ (k ≤ count_true (rounds f k s))
    unfolding rounds
    chain s zero = inr (omega arith)
    chain s (suc k) = ⊎_elim (λ e. inl (ap f e)) (λ l. ⊎_elim (λ a. inr (omega arith)) (λ e. inl (ap f e)) (grows s k)) (chain s k)

    -- so the round numbered as there are nodes is stable
    pub settles : (s : List Bool) → f (rounds f (length s) s) ≡ rounds f (length s) s
    settles s = ⊎_elim (λ e. e) (λ l. ⊎_elim (λ a. absurd (omega (arith, few))) (λ e. e) (grows s (length s))) (chain s (length s))
      where
        few : count_true (f (rounds f (length s) s)) ≤ length s
        few = omega (arith, count-le (f (rounds f (length s) s)), sized (rounds f (length s) s), length-rounds (length s) s)

module _ (succs : ℕ → List ℕ) where
  -- One sweep.

  length_push : (s : List Bool) (u : ℕ) (acc : List Bool) → length (push succs u s acc) ≡ length acc
  unfolding push
  length_push [] u acc = refl
  length_push (true ∷ s) u acc = length_push s (u + 1) (mark acc (succs u)) ∙ length-mark (succs u) acc
  length_push (false ∷ s) u acc = length_push s (u + 1) acc

  push_old : (s : List Bool) (u : ℕ) (acc : List Bool) (v : ℕ) → At acc v → At (push succs u s acc) v
  unfolding push
  push_old [] u acc v h = h
  push_old (true ∷ s) u acc v h = push_old s (u + 1) (mark acc (succs u)) v (mark_old (succs u) acc v h)
  push_old (false ∷ s) u acc v h = push_old s (u + 1) acc v h

  shift : (u w : ℕ) → u + suc w ≡ u + 1 + w
  shift u w = omega arith

  push-new : (s : List Bool) (u : ℕ) (acc : List Bool) (w v : ℕ) → At s w → Mem v (succs (u + w)) → v < length acc → At (push succs u s acc) v
  unfolding push
  push-new [] u acc w v h m l = absurd (false≢true h)
  push-new (true ∷ s) u acc zero v h m l = push_old s (u + 1) (mark acc (succs u)) v (mark-new (rw add-zero at m) acc l)
  push-new (false ∷ s) u acc zero v h m l = absurd (false≢true h)
  push-new (true ∷ s) u acc (suc w) v h m l = push-new s (u + 1) (mark acc (succs u)) w v h (rw (shift u w) at m) (rw length-mark l)
  push-new (false ∷ s) u acc (suc w) v h m l = push-new s (u + 1) acc w v h (rw (shift u w) at m) l

  push_inv : (s : List Bool) (u : ℕ) (acc : List Bool) (v : ℕ) → At (push succs u s acc) v → At acc v ⊎ ((w : ℕ) × At s w × Mem v (succs (u + w)))
  unfolding push
  push_inv [] u acc v h = inl h
  push_inv (true ∷ s) u acc v h =
      ⊎_elim
      (λ a. ⊎_elim (λ b. inl b) (λ m. inr (0, refl, rw add-zero m)) (mark_inv (succs u) acc v a))
      (λ t. inr (suc t.0, t.1, rw (shift u t.0) t.2))
      (push_inv s (u + 1) (mark acc (succs u)) v h)
  push_inv (false ∷ s) u acc v h =
      ⊎_elim (λ a. inl a) (λ t. inr (suc t.0, t.1, rw (shift u t.0) t.2)) (push_inv s (u + 1) acc v h)

  -- a sweep leaves what was there, adds the successors, and nothing else
  pub sweep_old : (s : List Bool) (v : ℕ) → At s v → At (sweep succs s) v
  unfolding sweep
  sweep_old s v h = push_old s _ s v h

  pub sweep-new : (s : List Bool) (u v : ℕ) → At s u → Mem v (succs u) → v < length s → At (sweep succs s) v
  unfolding sweep
  sweep-new s u v h m l = push-new s 0 s u v h (rw zero-add m) l

  pub sweep_inv : (s : List Bool) (v : ℕ) → At (sweep succs s) v → At s v ⊎ ((u : ℕ) × At s u × Mem v (succs u))
  unfolding sweep
  sweep_inv s v h = ⊎_elim (λ a. inl a) (λ t. inr (t.0, t.1, rw zero-add at t.2)) (push_inv s 0 s v h)

  pub length-sweep : (s : List Bool) → length (sweep succs s) ≡ length s
  unfolding sweep
  length-sweep s = length_push s _ s

  -- Rounds.

  pub length-iter : (k : ℕ) (s : List Bool) → length (iter succs k s) ≡ length s
  length-iter = length-rounds (sweep succs) length-sweep sweep_old

  -- soundness: what is in round k ends a walk of at most k steps
  pub sound : (k : ℕ) (s : List Bool) (v : ℕ) → At (iter succs k s) v → (j : ℕ) × (j ≤ k) × Walk succs s j v
  unfolding rounds
  sound zero s v h = (0, omega arith, start h)
  sound (suc k) s v h =
      ⊎_elim
      (λ a. let r = sound k s v a in (r.0, omega arith, r.2))
      (λ t. let r = sound k s t.0 t.1 in (suc r.0, omega arith, step r.2 t.2))
      (sweep_inv (iter succs k s) v h)

  -- the round numbered as there are nodes is stable
  pub stable : (s : List Bool) → sweep succs (iter succs (length s) s) ≡ iter succs (length s) s
  stable = settles (sweep succs) length-sweep sweep_old

  -- later rounds leave what was there
  iter_old : (s : List Bool) (k j : ℕ) (v : ℕ) → At (iter succs k s) v → At (iter succs (j + k) s) v
  unfolding rounds
  iter_old s k zero v h = rw zero-add h
  iter_old s k (suc j) v h = rw suc-add (sweep_old (iter succs (j + k) s) v (iter_old s k j v h))

  pub iter_more : (s : List Bool) (k n v : ℕ) → k ≤ n → At (iter succs k s) v → At (iter succs n s) v
  iter_more s k n v h a = let z : n - k + k ≡ n = omega arith in rw z at (iter_old s k (n - k) v a)

  -- Walks that stay among the nodes.
  module _ (s : List Bool) (inside : (k u v : ℕ) → Walk succs s k u → Mem v (succs u) → v < length s) where
    walk_at : (k v : ℕ) → Walk succs s k v → At (iter succs k s) v
    unfolding rounds
    walk_at k v (start h) = h
    walk_at k v (step {k = j} {u = u} w m) = sweep-new (iter succs j s) u v (walk_at j u w) m (rw length-iter (inside j u v w m))

    walk_in : (k n v : ℕ) → Walk succs s k v → k ≤ n → At (iter succs n s) v
    walk_in k n v w h = iter_more s k n v h (walk_at k v w)

    walk_last : (k v : ℕ) → Walk succs s k v → At (iter succs (length s) s) v
    walk_last k v w = go (dec_le k (length s))
      where
        go : Dec (k ≤ length s) → At (iter succs (length s) s) v
        go (yes h) = walk_in k (length s) v w h
        go (no h) = rw (stays (sweep succs) s (length s) k (stable s) (omega arith)) (walk_at k v w)

  -- where a walk ends is one of the nodes
  pub walk_below : (s : List Bool) → Inside succs (length s) → (k v : ℕ) → Walk succs s k v → v < length s
  walk_below s inside k v (start h) = at-below s v h
  walk_below s inside k v (step {k = j} {u = u} w m) = inside u v (walk_below s inside j u w) m

  -- the rounds are exact: a walk of at most k steps ends in round k
  pub exact : (s : List Bool) → Inside succs (length s) → (j k v : ℕ) → Walk succs s j v → j ≤ k → At (iter succs k s) v
  exact s inside = walk_in s (λ k u v w m. inside u v (walk_below s inside k u w) m)

  -- completeness: every walk ends in the round numbered as there are nodes
  pub complete : (s : List Bool) → Inside succs (length s) → (k v : ℕ) → Walk succs s k v → At (iter succs (length s) s) v
  complete s inside = walk_last s (λ k u v w m. inside u v (walk_below s inside k u w) m)

  -- a set of reached nodes that holds s and its own successors is that round
  pub settled :
      (s seen : List Bool)
      → length seen ≡ length s
      → ((v : ℕ) → At s v → At seen v)
      → ((u v : ℕ) → At seen u → Mem v (succs u) → At seen v)
      → ((v : ℕ) → At seen v → Reached succs s v)
      → seen ≡ iter succs (length s) s
  settled s seen l holds closed ends =
      same_set seen (iter succs (length s) s) (l ∙ sym (length-iter (length s) s))
      (λ v h. walk_last s (λ k u w p m. rw l at (at-below seen w (closed u w (kept k u p) m))) (ends v h).0 v (ends v h).1)
      (λ v h. let r = sound (length s) s v h in kept r.0 v r.2)
    where
      kept : (k v : ℕ) → Walk succs s k v → At seen v
      kept k v (start h) = holds v h
      kept k v (step {k = j} {u = u} w m) = closed u v (kept j u w) m
