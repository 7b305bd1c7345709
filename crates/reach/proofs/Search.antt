-- Laws of the search: where it starts, what a visit keeps and adds, how a node is followed, and that a search in which nothing waits and nothing is followed has
-- found what is reached.
use Prim.Native.Nat.{ℕ, suc, ◌+◌, ◌<◌, ◌≤◌}
use mathlib.Core.Path.{◌≡◌, refl, sym, subst⁻¹, ◌∙◌}
use mathlib.Core.List.{List, [], ◌∷◌}
use mathlib.Core.Bool.{Bool, true, false, not, ◌&&◌, false≢true, and-false}
use mathlib.Core.Logic.{◌⊎◌, ⊎_elim}
use native.Mathlib.Decide.{ℕ_discrete}
use native.Mathlib.Omega.{arith}
use borrow.Author.Tests.{ltb-true, lt-ltb, le-ltb, le-leb, lt-leb}
use lib.Dec.{ltb, leb}
use lib.ListN.{length, get_or, set, replicate, length-set, length-replicate}
use lib.Seq.{get_or-set_same, get_or-set_other}
use Rattle.reach.specs.Reach.{Mem, here, there, At, Inside, start, step, Reached, mark, iter, count_true}
use Rattle.reach.specs.code.Search.{Standing, followed, waiting, expanded, Visited, Searched, Visit, after, max_node, is_new, visit_of, visit_all, is_unvisited, entering}
use Rattle.reach.proofs.Laws.{at-below, set_old, set_inv, none-at, length-mark, mark-new, mark_inv, count-le, count_set, count_lt, settled}

module _ (succs : ℕ → List ℕ) (s : List Bool) where
  -- a node of s is reached, and so is a successor of a reached node
  pub reached-start : {v : ℕ} → At s v → Reached succs s v
  reached-start h = (0, start h)

  pub reached-step : {u v : ℕ} → Reached succs s u → Mem v (succs u) → Reached succs s v
  reached-step r m = (suc r.0, step r.1 m)

  -- nothing is visited
  pub visited-none : (queue : List ℕ) (at : ℕ) → length s ≤ length queue → length s ≤ at → Visited succs s (replicate (length s) false) queue 0 0 at
  visited-none queue at h n = record {
    sized = length-replicate (length s) false;
    room = h;
    ahead = omega arith;
    counted = omega arith;
    reached = λ v a. absurd (none-at (length s) v a);
    queued = λ i l. absurd (omega arith);
    entered = λ l. absurd (omega arith);
    standing = λ u a. absurd (none-at (length s) u a);
  }

-- an expanded node stays so when nodes are visited
standing_more : {succs : ℕ → List ℕ} {seen more : List Bool} {queue other : List ℕ} {head tail later at u : ℕ}
    → ((v : ℕ) → At seen v → At more v)
    → tail ≤ later
    → ((i : ℕ) → i < tail → get_or other i 0 ≡ get_or queue i 0)
    → Standing succs seen queue head tail at u
    → Standing succs more other head later at u
standing_more grows longer kept (followed e) = followed e
standing_more grows longer kept (waiting i l h e) = waiting i l (omega arith) (kept i h ∙ e)
standing_more grows longer kept (expanded all) = expanded (λ v m. grows v (all v m))

module _ {succs : ℕ → List ℕ} {s seen : List Bool} {queue : List ℕ} {head tail at : ℕ} (visits : Visited succs s seen queue head tail at) where
  -- there are at most as many entries in the queue as nodes
  pub tail-le : tail ≤ length s
  tail-le = omega (arith, visits.counted, visits.sized, count-le seen)

  -- what is visited is a node
  pub seen_below : (v : ℕ) → At seen v → v < length s
  seen_below v a = omega (arith, visits.sized, at-below seen v a)

  -- the queue holds nodes
  pub queued-below : (i : ℕ) → i < tail → get_or queue i 0 < length s
  queued-below i h = seen_below (get_or queue i 0) (visits.queued i h)

  -- the queue has room for a node that is not visited
  pub tail_lt : (v : ℕ) → v < length s → (At seen v → ⊥) → tail < length queue
  tail_lt v h n = omega (arith, visits.counted, visits.sized, visits.room, count_lt seen v (omega (arith, visits.sized)) n)

  -- a visit of a new node that is reached
  pub visited-new : (v : ℕ) → v < length s → (At seen v → ⊥) → Reached succs s v → Visited succs s (set seen v true) (set queue tail v) head (tail + 1) at
  visited-new v h n r = record {
    sized = length-set seen v true ∙ visits.sized;
    room = rw length-set visits.room;
    ahead = omega (arith, visits.ahead);
    counted = omega (arith, visits.counted, count_set seen v below n);
    reached = λ w a. ⊎_elim (visits.reached w) (λ e. rw e r) (set_inv seen v w a);
    queued = λ i l. queued i l (ℕ_discrete i tail);
    entered = λ l. set_old seen v at (visits.entered l);
    standing = λ u a. ⊎_elim (λ b. standing_more (set_old seen v) (omega arith) kept (visits.standing u b)) (λ e. waiting tail visits.ahead (omega arith) (last ∙ sym e)) (set_inv seen v u a);
  }
    where
      below : v < length seen
      below = omega (arith, visits.sized)

      last : get_or (set queue tail v) tail 0 ≡ v
      last = get_or-set_same queue tail v 0 (tail_lt v h n)

      kept : (i : ℕ) → i < tail → get_or (set queue tail v) i 0 ≡ get_or queue i 0
      kept i l = get_or-set_other queue tail i v 0 (λ e. absurd (omega arith))

      queued : (i : ℕ) → i < tail + 1 → Dec (i ≡ tail) → At (set seen v true) (get_or (set queue tail v) i 0)
      queued i l (yes e) = rw (e, last) (get_or-set_same seen v true false below)
      queued i l (no e) = rw (kept i (omega arith)) (set_old seen v (get_or queue i 0) (visits.queued i (omega arith)))

  -- the node that is followed is expanded once its successors are visited
  pub visited-left : (none : ℕ) → length s ≤ none → ((v : ℕ) → at < length s → Mem v (succs at) → At seen v) → Visited succs s seen queue head tail none
  visited-left none past all = record {
    sized = visits.sized;
    room = visits.room;
    ahead = visits.ahead;
    counted = visits.counted;
    reached = visits.reached;
    queued = visits.queued;
    entered = λ l. absurd (omega arith);
    standing = λ u a. stands u a (visits.standing u a);
  }
    where
      stands : (u : ℕ) → At seen u → Standing succs seen queue head tail at u → Standing succs seen queue head tail none u
      stands u a (followed e) = expanded (λ v m. all v (rw e at (seen_below u a)) (rw e at m))
      stands u a (waiting i l h e) = waiting i l h e
      stands u a (expanded more) = expanded more

  -- a new node that is reached is followed next, where with it the successors of the one that is followed are visited
  pub visited-entered :
      (v : ℕ)
      → v < length s
      → (At seen v → ⊥)
      → Reached succs s v
      → ((w : ℕ) → at < length s → Mem w (succs at) → At (set seen v true) w)
      → Visited succs s (set seen v true) queue head tail v
  visited-entered v h n r all = record {
    sized = length-set seen v true ∙ visits.sized;
    room = visits.room;
    ahead = visits.ahead;
    counted = omega (arith, visits.counted, count_set seen v (omega (arith, visits.sized)) n);
    reached = λ w a. ⊎_elim (visits.reached w) (λ e. rw e r) (set_inv seen v w a);
    queued = λ i l. set_old seen v (get_or queue i 0) (visits.queued i l);
    entered = λ l. get_or-set_same seen v true false (omega (arith, visits.sized));
    standing = λ u a. ⊎_elim (λ b. stands u b (visits.standing u b)) (λ e. followed e) (set_inv seen v u a);
  }
    where
      stands : (u : ℕ) → At seen u → Standing succs seen queue head tail at u → Standing succs (set seen v true) queue head tail v u
      stands u a (followed e) = expanded (λ w m. all w (rw e at (seen_below u a)) (rw e at m))
      stands u a (waiting i l h e) = waiting i l h e
      stands u a (expanded more) = expanded (λ w m. set_old seen v w (more w m))

  -- where none is followed, the node at the head of the queue is
  pub visited-taken : length s ≤ at → head < tail → Visited succs s seen queue (head + 1) tail (get_or queue head 0)
  visited-taken past h = record {
    sized = visits.sized;
    room = visits.room;
    ahead = omega arith;
    counted = visits.counted;
    reached = visits.reached;
    queued = visits.queued;
    entered = λ l. visits.queued head h;
    standing = λ u a. stands u a (visits.standing u a);
  }
    where
      stands : (u : ℕ) → At seen u → Standing succs seen queue head tail at u → Standing succs seen queue (head + 1) tail (get_or queue head 0) u
      stands u a (followed e) = absurd (omega (arith, seen_below u a))
      stands u a (waiting i l m e) = next (ℕ_discrete i head)
        where
          next : Dec (i ≡ head) → Standing succs seen queue (head + 1) tail (get_or queue head 0) u
          next (yes q) = followed (rw q at (sym e))
          next (no q) = waiting i (omega arith) m e
      stands u a (expanded all) = expanded all

-- A visit.

module _ (seen : List Bool) (queue : List ℕ) (tail v : ℕ) where
  -- a visit of a visited node changes nothing
  pub visit_old : At seen v → visit_of seen queue tail v ≡ after seen queue tail
  unfolding visit_of is_new
  visit_old h = simp (h, and-false)

  -- nor does one of a number that is no node, one with a full queue, and one of a number that is too large for the queue
  pub visit_outside : length seen ≤ v → visit_of seen queue tail v ≡ after seen queue tail
  unfolding visit_of is_new
  visit_outside h = rw (le-ltb v (length seen) h)

  pub visit_full : length queue ≤ tail → visit_of seen queue tail v ≡ after seen queue tail
  unfolding visit_of is_new
  visit_full h = rw (le-ltb tail (length queue) h, and-false)

  pub visit_large : max_node < v → visit_of seen queue tail v ≡ after seen queue tail
  unfolding visit_of is_new
  visit_large h = rw (lt-leb v max_node h, and-false)

  -- a visit of a new node marks it and puts it into the queue
  pub visit_fresh :
      v < length seen
      → get_or seen v false ≡ false
      → tail < length queue
      → v ≤ max_node
      → visit_of seen queue tail v ≡ after (set seen v true) (set queue tail v) (tail + 1)
  unfolding visit_of is_new
  visit_fresh h n r f = rw (lt-ltb v (length seen) h, n, lt-ltb tail (length queue) r, le-leb v max_node f)

  -- what holds if nothing changes, and after a visit of a new node, holds after every visit
  pub visit_by :
      (P : Visit → Type 0)
      → P (after seen queue tail)
      → (v < length seen → get_or seen v false ≡ false → P (after (set seen v true) (set queue tail v) (tail + 1)))
      → {x : Visit} → x ≡ visit_of seen queue tail v → P x
  unfolding visit_of is_new
  visit_by P old new e = subst⁻¹ P e (go (ltb v (length seen)) (get_or seen v false) (ltb tail (length queue)) (leb v max_node) refl refl refl refl)
    where
      go :
          (a b c d : Bool)
          → ltb v (length seen) ≡ a
          → get_or seen v false ≡ b
          → ltb tail (length queue) ≡ c
          → leb v max_node ≡ d
          → P (visit_of seen queue tail v)
      go false b c d p q r f = rw p old
      go true true c d p q r f = rw (p, q) old
      go true false false d p q r f = rw (p, q, r) old
      go true false true false p q r f = rw (p, q, r, f) old
      go true false true true p q r f = rw (p, q, r, f) (new (ltb-true v (length seen) p) q)

  -- a visit keeps what was visited
  pub seen_stays : {x : Visit} → x ≡ visit_of seen queue tail v → (w : ℕ) → At seen w → At x.visited w
  seen_stays e w a = visit_by (λ x. At x.visited w) a (λ h n. set_old seen v w a) e

module _ {succs : ℕ → List ℕ} {s seen : List Bool} {queue : List ℕ} {head tail at : ℕ} (visits : Visited succs s seen queue head tail at) where
  -- the visits go on by a visit of any reached node
  pub visit_visited : {v : ℕ} → Reached succs s v → {x : Visit} → x ≡ visit_of seen queue tail v → Visited succs s x.visited x.queue head x.tail at
  visit_visited {v} r e =
      visit_by seen queue tail v (λ x. Visited succs s x.visited x.queue head x.tail at) visits
      (λ h n. visited-new visits v (omega (arith, visits.sized)) (λ a. false≢true (sym n ∙ a)) r) e

  -- after a visit of a node the node is visited
  pub visit_at : {v : ℕ} → v < length s → v ≤ max_node → {x : Visit} → x ≡ visit_of seen queue tail v → At x.visited v
  visit_at {v} h f {x} e = go (get_or seen v false) refl
    where
      below : v < length seen
      below = omega (arith, visits.sized)

      go : (b : Bool) → get_or seen v false ≡ b → At x.visited v
      go true q = seen_stays seen queue tail v e v q
      go false q = rw (e ∙ visit_fresh seen queue tail v below q (tail_lt visits v h (λ a. false≢true (sym q ∙ a))) f) (get_or-set_same seen v true false below)

module _ {succs : ℕ → List ℕ} {s seen : List Bool} {queue : List ℕ} {head tail at : ℕ} (state : Searched succs s seen queue head tail at) where
  -- where none is followed, the node at the head of the queue is
  pub taken : length s ≤ at → head < tail → Searched succs s seen queue (head + 1) tail (get_or queue head 0)
  taken past h = record { visits = visited-taken state.visits past h; holds = state.holds }

  -- a search in which nothing waits and nothing is followed has visited what is reached
  pub finish : length s ≤ at → tail ≤ head → seen ≡ iter succs (length s) s
  finish past done = settled succs s seen state.visits.sized state.holds (λ u v a. closed u v a (state.visits.standing u a)) state.visits.reached
    where
      closed : (u v : ℕ) → At seen u → Standing succs seen queue head tail at u → Mem v (succs u) → At seen v
      closed u v a (followed e) m = absurd (omega (arith, seen_below state.visits u a))
      closed u v a (waiting i l h e) m = absurd (omega arith)
      closed u v a (expanded all) m = all v m

-- Visits of a list of nodes.

-- what each visit keeps, all keep
pub visits_by :
    (P : Visit → Type 0) (vs : List ℕ)
    → ((x : Visit) (v : ℕ) → Mem v vs → P x → P (visit_of x.visited x.queue x.tail v))
    → (x : Visit)
    → P x
    → P (visit_all x vs)
unfolding visit_all
visits_by P [] keep x p = p
visits_by P (v ∷ vs) keep x p = visits_by P vs (λ y w m. keep y w (there m)) _ (keep x v (here refl) p)

pub seen_stays_all : (x : Visit) (vs : List ℕ) (w : ℕ) → At x.visited w → At (visit_all x vs).visited w
seen_stays_all x vs w = visits_by (λ y. At y.visited w) vs (λ y v m. seen_stays y.visited y.queue y.tail v refl w) x

pub count_stays_all : (x : Visit) (vs : List ℕ) → count_true x.visited ≤ count_true (visit_all x vs).visited
count_stays_all x vs =
    visits_by (λ y. count_true x.visited ≤ count_true y.visited) vs
    (λ y v m p. visit_by y.visited y.queue y.tail v (λ z. count_true x.visited ≤ count_true z.visited) p (λ h n. omega (arith, count_set y.visited v h (λ a. false≢true (sym n ∙ a)))) refl) x (omega arith)

pub length-visits : (x : Visit) (vs : List ℕ) → (length (visit_all x vs).visited ≡ length x.visited) × (length (visit_all x vs).queue ≡ length x.queue)
length-visits x vs =
    visits_by (λ y. (length y.visited ≡ length x.visited) × (length y.queue ≡ length x.queue)) vs
    (λ y v m p. visit_by y.visited y.queue y.tail v (λ z. (length z.visited ≡ length x.visited) × (length z.queue ≡ length x.queue)) p (λ h n. (simp length-set p.0, simp length-set p.1)) refl) x (refl, refl)

module _ (succs : ℕ → List ℕ) (s : List Bool) where
  -- visits of reached nodes keep how the others stand, and visit them all
  pub visits-visited :
      (head at : ℕ) (vs : List ℕ)
      → ((w : ℕ) → Mem w vs → Reached succs s w)
      → (x : Visit)
      → Visited succs s x.visited x.queue head x.tail at
      → Visited succs s (visit_all x vs).visited (visit_all x vs).queue head (visit_all x vs).tail at
  visits-visited head at vs r = visits_by (λ y. Visited succs s y.visited y.queue head y.tail at) vs (λ y v m p. visit_visited p (r v m) refl)

  pub visits-at :
      {v : ℕ} {vs : List ℕ}
      → Mem v vs
      → ((w : ℕ) → Mem w vs → Reached succs s w)
      → v < length s
      → v ≤ max_node
      → (x : Visit) {head at : ℕ}
      → Visited succs s x.visited x.queue head x.tail at
      → At (visit_all x vs).visited v
  unfolding visit_all
  visits-at {v} (here {xs = vs} e) r h f x visits = rw (← e) (seen_stays_all _ vs v (visit_at visits h f refl))
  visits-at (there {x = w} m) r h f x visits = visits-at m (λ u n. r u (there n)) h f _ (visit_visited visits (r w (here refl)) refl)

-- Entering a node.

module _ (seen : List Bool) (v : ℕ) where
  pub unvisited_below : is_unvisited seen v ≡ true → v < length seen
  unfolding is_unvisited
  unvisited_below e = go (ltb v (length seen)) refl e
    where
      go : (b : Bool) → ltb v (length seen) ≡ b → (b && not (get_or seen v false)) ≡ true → v < length seen
      go true p q = ltb-true v (length seen) p
      go false p q = absurd (false≢true q)

  pub unvisited_not : is_unvisited seen v ≡ true → At seen v → ⊥
  unfolding is_unvisited
  unvisited_not e a = false≢true (sym (and-false (ltb v (length seen))) ∙ rw a at e)

  -- a node that is not one of those is visited
  pub visited_else : is_unvisited seen v ≡ false → v < length seen → At seen v
  unfolding is_unvisited
  visited_else e h = go (get_or seen v false) (rw (lt-ltb v (length seen) h) at e)
    where
      go : (b : Bool) → not b ≡ false → b ≡ true
      go true q = refl
      go false q = sym q

  -- entering a node counts it
  pub count-entered : is_unvisited seen v ≡ true → count_true (set seen v true) ≡ count_true seen + 1
  count-entered e = count_set seen v (unvisited_below e) (unvisited_not e)

-- The successors of the node u that is followed are v, if that is a node, and others, vs. The others are visited; then v is entered and followed if it is new, and
-- else none is.
module _ {succs : ℕ → List ℕ} {s seen : List Bool} {queue : List ℕ} {head tail u : ℕ} (state : Searched succs s seen queue head tail u)
    (inside : Inside succs (length s)) (few : length s ≤ max_node + 1) (here-is : u < length s)
    (v : ℕ) (vs : List ℕ) (others : (w : ℕ) → Mem w vs → Mem w (succs u)) (all : (w : ℕ) → Mem w (succs u) → (w ≡ v) ⊎ Mem w vs) (own : v < length s → Mem v (succs u))
    {x : Visit} (visited : x ≡ visit_all (after seen queue tail) vs) where
  next-reached : {w : ℕ} → Mem w (succs u) → Reached succs s w
  next-reached m = reached-step succs s (state.visits.reached u (state.visits.entered here-is)) m

  visits : Visited succs s x.visited x.queue head x.tail u
  visits = subst⁻¹ (λ (y : Visit). Visited succs s y.visited y.queue head y.tail u) visited (visits-visited succs s head u vs (λ w m. next-reached (others w m)) (after seen queue tail) state.visits)

  seen_more : (w : ℕ) → At seen w → At x.visited w
  seen_more w a = rw visited (seen_stays_all (after seen queue tail) vs w a)

  other_at : (w : ℕ) → Mem w vs → At x.visited w
  other_at w m =
      let l : w < length s = inside u w here-is (others w m) in
      rw visited (visits-at succs s m (λ z k. next-reached (others z k)) l (omega arith) (after seen queue tail) state.visits)

  pub follow-on : is_unvisited x.visited v ≡ true → Searched succs s (set x.visited v true) x.queue head x.tail v
  follow-on e = record {
    visits = visited-entered visits v below (unvisited_not x.visited v e) (next-reached (own below)) (λ w l m. ⊎_elim (λ q. rw q (get_or-set_same x.visited v true false (unvisited_below x.visited v e))) (λ k. set_old x.visited v w (other_at w k)) (all w m));
    holds = λ w a. set_old x.visited v w (seen_more w (state.holds w a));
  }
    where
      below : v < length s
      below = omega (arith, visits.sized, unvisited_below x.visited v e)

  pub follow-end : is_unvisited x.visited v ≡ false → Searched succs s x.visited x.queue head x.tail (length s)
  follow-end e = record {
    visits = visited-left visits (length s) (omega arith) (λ w l m. ⊎_elim (λ q. rw q (visited_else x.visited v e (omega (arith, visits.sized, rw q at (inside u w l m))))) (other_at w) (all w m));
    holds = λ w a. seen_more w (state.holds w a);
  }

-- the search from a list of nodes begins by visits of them
pub search_from :
    (succs : ℕ → List ℕ) (n : ℕ) (queue vs : List ℕ)
    → n ≤ length queue
    → n ≤ max_node + 1
    → ((v : ℕ) → Mem v vs → v < n)
    → {x : Visit}
    → x ≡ visit_all (after (replicate n false) queue 0) vs
    → Searched succs (mark (replicate n false) vs) x.visited x.queue 0 x.tail n
search_from succs n queue vs room few inside e =
    subst⁻¹ (λ (x : Visit). Searched succs s x.visited x.queue 0 x.tail n) e (record {
      visits = visits-visited succs s 0 n vs r begin none;
      holds = λ v a. ⊎_elim (λ b. absurd (none-at n v b)) (at v) (mark_inv vs (replicate n false) v a);
    })
  where
    s : List Bool
    s = mark (replicate n false) vs

    begin : Visit
    begin = after (replicate n false) queue 0

    size : length s ≡ n
    size = length-mark vs (replicate n false) ∙ length-replicate n false

    r : (v : ℕ) → Mem v vs → Reached succs s v
    r v m = reached-start succs s (mark-new m (replicate n false) (rw length-replicate (inside v m)))

    none : Visited succs s (replicate n false) queue 0 0 n
    none = rw size at (visited-none succs s queue n (omega (arith, size)) (omega (arith, size)))

    at : (v : ℕ) → Mem v vs → At (visit_all begin vs).visited v
    at v m = visits-at succs s m r (rw size (inside v m)) (omega (arith, inside v m)) begin none

-- the search from one node begins by following it
pub search-one :
    (succs : ℕ → List ℕ) (n : ℕ) (queue : List ℕ) (v : ℕ)
    → n ≤ length queue
    → v < n
    → {seen : List Bool}
    → seen ≡ entering (replicate n false) v
    → Searched succs (mark (replicate n false) (v ∷ [])) seen queue 0 0 v
unfolding mark is_unvisited
search-one succs n queue v room h e = rw (e, length-replicate, lt-ltb v n h, unseen) (record {
  visits = visited-entered none v (rw size h) (none-at n v) (reached-start succs s there-is) (λ w l m. absurd (omega (arith, size)));
  holds = λ w a. a;
})
  where
    s : List Bool
    s = set (replicate n false) v true

    size : length s ≡ n
    size = length-set (replicate n false) v true ∙ length-replicate n false

    there-is : At s v
    there-is = get_or-set_same (replicate n false) v true false (rw length-replicate h)

    unseen : get_or (replicate n false) v false ≡ false
    unseen = go (get_or (replicate n false) v false) (none-at n v)
      where
        go : (b : Bool) → (b ≡ true → ⊥) → b ≡ false
        go true k = absurd (k refl)
        go false k = refl

    none : Visited succs s (replicate n false) queue 0 0 n
    none = rw size at (visited-none succs s queue n (omega (arith, size)) (omega (arith, size)))
