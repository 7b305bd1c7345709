-- The end of a call in a chain: of which call of the list, with which budget, after which moments.
use Prim.Native.Nat.{ℕ, suc}
use mathlib.Core.Path.{◌≡◌, refl, ap, sym, ◌∙◌}
use mathlib.Core.List.{List, [], ◌∷◌, ◌++◌, append_assoc, append-nil}
use mathlib.Core.Option.{some}
use lib.ListN.{get_elem? as nth}
use Rattle.table.specs.declared.index.Index.{Index}
use Rattle.semantics.specs.Limits.{budget_spent}
use Rattle.semantics.specs.Machine.{State, Outcome, next, stopped}
use Rattle.semantics.specs.Calls.{Call, call}
use Rattle.semantics.specs.History.{Base, Event, moment, ended, row_up, begin, afterwards}
use Rattle.semantics.specs.Chain.{Moments, spent, steps, done, Chained, no_call, one-call}
use Rattle.semantics.proofs.Changes.{clash}
use Rattle.semantics.proofs.Ends.{ends}

-- lists
pub tail-same : {A : Type 0} {x y : A} {xs ys : List A} → x ∷ xs ≡ y ∷ ys → xs ≡ ys
tail-same e = cc

module _ (t : List ℕ) (ix : Index) where
  -- An end in a chain, after the events `front`: it is that of the call of the list before which so many ended; these are the call's moments, from what there was
  -- before it, within its budget; what the end tells is the state, row and outcome of the last one, and what it leaves is what is left afterwards
  pub record EndOf (cs : List Call) (front : List Event) (before : Base) (s : State) (r : ℕ) (o : Outcome) (after : Base) : Type 0 where
    pub procedure : ℕ
    pub budget : ℕ
    pub arguments : List ℕ
    pub called : nth cs (ends front) ≡ some (call procedure budget arguments)
    pub earlier : List Event
    pub own : List Event
    pub stand : front ≡ earlier ++ own
    pub moments : Moments t ix budget (begin t ix procedure arguments before) own s o
    pub at_row : r ≡ row_up t ix s
    pub left : after ≡ afterwards before s o

  -- a place of an end in the events of a call and what follows them is in what follows
  pub past : {budget : ℕ} {s z : State} {o : Outcome} {es : List Event} → Moments t ix budget s es z o → (rest front : List Event) (b : Base) (z' : State) (r : ℕ) (o' : Outcome) (b' : Base) (more : List Event)
      → es ++ rest ≡ front ++ (ended b z' r o' b' ∷ more) → (f : List Event) × (front ≡ es ++ f) × (ends front ≡ ends f) × (rest ≡ f ++ (ended b z' r o' b' ∷ more))
  past spent rest [] b z' r o' b' more e = absurd (clash (cc))
  past {s} spent rest (x ∷ f) b z' r o' b' more e = let u : x ≡ moment s (row_up t ix s) (stopped budget_spent) = cc in rw u (f, refl, refl, tail-same e)
  past (steps d m) rest [] b z' r o' b' more e = absurd (clash (cc))
  past (steps {s} {s'} d m) rest (x ∷ f) b z' r o' b' more e =
      let u : moment s (row_up t ix s) (next s') ≡ x = cc in
      let k = past m rest f b z' r o' b' more (tail-same e) in
      rw (← u) (k.0, ap (λ (l : List Event). moment s (row_up t ix s) (next s') ∷ l) k.1, k.2, k.3)
  past (done d g h) rest [] b z' r o' b' more e = absurd (clash (cc))
  past {s} {o} (done d g h) rest (x ∷ f) b z' r o' b' more e = let u : x ≡ moment s (row_up t ix s) o = cc in rw u (f, refl, refl, tail-same e)

  pub end_of : {cs : List Call} {b : Base} {l : List Event} → Chained t ix cs b l → (front rest : List Event) (before after : Base) (s : State) (r : ℕ) (o : Outcome) → l ≡ front ++ (ended before s r o after ∷ rest)
      → EndOf cs front before s r o after
  end_of no_call [] rest before after s r o e = absurd (clash (cc))
  end_of no_call (x ∷ front) rest before after s r o e = absurd (clash (cc))
  end_of (one-call {q} {budget} {args} {cs} {b} {es} {more} {z} {o = w} m c) front rest before after s r o e =
      let k = past m (ended b z (row_up t ix z) w (afterwards b z w) ∷ more) front before s r o after rest e in
      go k.0 k.1 k.2 k.3 (λ f q. end_of c f rest before after s r o q)
    where
      go : (f : List Event) → front ≡ es ++ f → ends front ≡ ends f → ended b z (row_up t ix z) w (afterwards b z w) ∷ more ≡ f ++ (ended before s r o after ∷ rest)
          → ((f : List Event) → more ≡ f ++ (ended before s r o after ∷ rest) → EndOf cs f before s r o after) → EndOf (call q budget args ∷ cs) front before s r o after
      go [] h n e' ih =
          let a : b ≡ before = cc in let d : z ≡ s = cc in let g : w ≡ o = cc in let i : row_up t ix z ≡ r = cc in let j : afterwards b z w ≡ after = cc in
          record {
            procedure = q;
            budget = budget;
            arguments = args;
            called = rw n refl;
            earlier = [];
            own = es;
            stand = h ∙ append-nil es;
            moments = rw (← a, ← d, ← g) m;
            at_row = rw (← d) (sym i);
            left = rw (← a, ← d, ← g) (sym j);
          }
      go (x ∷ f) h n e' ih =
          let v = ih f (tail-same e') in
          let u : x ≡ ended b z (row_up t ix z) w (afterwards b z w) = cc in
          let n' : ends front ≡ suc (ends f) = n ∙ ap (λ (y : Event). ends (y ∷ f)) u in
          record {
            procedure = v.procedure;
            budget = v.budget;
            arguments = v.arguments;
            called = rw n' v.called;
            earlier = es ++ (x ∷ v.earlier);
            own = v.own;
            stand = h ∙ ap (λ (l : List Event). es ++ (x ∷ l)) v.stand ∙ sym (append_assoc es (x ∷ v.earlier) v.own);
            moments = v.moments;
            at_row = v.at_row;
            left = v.left;
          }
