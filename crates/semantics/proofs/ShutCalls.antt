-- Wrong ends of calls are not safe, and wrong lists of events are not chained: the wrong machines that these clauses of the claim shut out.
use Prim.Native.Nat.{ℕ, zero, suc, ◌-◌, ◌<◌}
use mathlib.Core.Path.{◌≡◌, refl}
use mathlib.Core.List.{List, [], ◌∷◌, ◌++◌, map}
use mathlib.Core.Logic.{◌⊎◌, ⊎_elim, ◌≢◌}
use mathlib.Core.Option.{Option, none, some}
use native.Mathlib.Omega.{arith}
use lib.ListN.{length, get_elem? as nth}
use Rattle.table.specs.declared.index.Index.{Index}
use Rattle.table.specs.Format.{max_results}
use Rattle.declarations.specs.Program.{procedure_in, local_count}
use Rattle.semantics.specs.Limits.{budget_spent}
use Rattle.reach.specs.Reach.{Mem}
use Rattle.semantics.specs.Machine.{Value, num, Cell, here, Entry, Frame, frame, State, state, Outcome, next, finished, stopped, stuck}
use Rattle.semantics.specs.Step.{step}
use Rattle.semantics.specs.Calls.{Call, call}
use Rattle.semantics.specs.History.{Base, base, Event, moment, ended}
use Rattle.semantics.specs.Words.{Exists, NumberIn, IsEntry}
use Rattle.semantics.specs.Claim.{All, IsNumber, Restored, SafeEnd, finishes, restores, Reached, Later, Safe, ends}
use Rattle.semantics.specs.Chain.{Chained}
use Rattle.semantics.proofs.Changes.{clash}
use Rattle.semantics.proofs.Handing.{all_out}
use Rattle.semantics.proofs.Consequences.{nth_outside, start-at, led, begun, begins_after, no_more, empty}

-- CLAUSE 5, `Restored`: a call is stopped
module _ (t : List ℕ) (ix : Index) (rs : List Cell) (st : List Entry) (n : ℕ) (last : State) (row k : ℕ) (rs' : List Cell) (st' : List Entry) (n' : ℕ) where
  abbrev pub Stopped : Type 0
  Stopped = Safe t ix (ended (base rs st n) last row (stopped k) (base rs' st' n'))

  restored_of : Stopped → Restored t ix (base rs st n) (base rs' st' n')
  restored_of (ends (restores c r) l) = r

  -- it keeps a changed number
  pub not_kept_number : (c y j : ℕ) → NumberIn rs c y j 500 → NumberIn rs' c y j 1 → Stopped → ⊥
  not_kept_number c y j a b s =
      let d = (restored_of s).1 c (here y a.fields) a.exists in
      let e : a.fields ≡ b.fields = cc (d, b.exists) in
      let w : ◌≡◌ {A = ℕ} 500 1 = cc (e, a.number, b.number) in
      omega arith

  -- it keeps another record in a field
  pub not_kept_nested : (c y : ℕ) {vs vs' : List Value} → nth rs c ≡ some (here y vs) → nth rs' c ≡ some (here y vs') → vs ≢ vs' → Stopped → ⊥
  not_kept_nested c y {vs} a b f s = let d = (restored_of s).1 c (here y vs) a in f (cc (d, b))

  -- it keeps an entry made in it, or one that it withdrew is missing
  pub not_kept_entry : {y a c : ℕ} → IsEntry st' y a c → ¬ (IsEntry st y a c) → Stopped → ⊥
  not_kept_entry e f s = f (rw (restored_of s).0 at e)

  pub not_lost_entry : {y a c : ℕ} → IsEntry st y a c → ¬ (IsEntry st' y a c) → Stopped → ⊥
  not_lost_entry e f s = f (rw (restored_of s).0 e)

  -- it keeps a record made in it, or one that it broke up is missing
  pub not_kept_record : (c y : ℕ) → Exists rs' c y → ¬ (Exists rs c y) → Stopped → ⊥
  not_kept_record c y e f s = go (nth rs c) refl
    where
      go : (o : Option Cell) → nth rs c ≡ o → ⊥
      go none d = (restored_of s).2 c y (nth_outside rs c d) e
      go (some x) d = f (e.0, cc ((restored_of s).1 c x d, d, e.1))

  pub not-lost_record : (c y : ℕ) → Exists rs c y → ¬ (Exists rs' c y) → Stopped → ⊥
  not-lost_record c y e f s = f (e.0, (restored_of s).1 c (here y e.0) e.1)

-- `Later` and `Between`: a call ends, in any way
module _ (t : List ℕ) (ix : Index) (before : Base) (fs : List Frame) (rs : List Cell) (st : List Entry) (n row : ℕ) (o : Outcome) (rs' : List Cell) (st' : List Entry) (n' : ℕ) where
  abbrev pub Ended : Type 0
  Ended = Safe t ix (ended before (state fs rs st n) row o (base rs' st' n'))

  later_of : Ended → Later t ix (state fs rs st n) (base rs' st' n')
  later_of (ends d l) = l

  -- the count of frames goes back, or that of records: identities are used again
  pub not_frames_again : n' < n → Ended → ⊥
  not_frames_again l s = omega (arith, (later_of s).1, l)

  pub not_records_again : length rs' < length rs → Ended → ⊥
  not_records_again l s = omega (arith, (later_of s).0, l)

  -- an entry is left whose record does not exist
  pub not_left_of_none : {y a c : ℕ} → IsEntry st' y a c → ¬ (Exists rs' c y) → Ended → ⊥
  not_left_of_none {y} {a} {c} e f s = f ((later_of s).2.sound.entered y a c e)

  -- a record lives on that is in no entry and in no record under one
  pub not_adrift : {c y : ℕ} → Exists rs' c y → ¬ (Reached rs' st' c) → Ended → ⊥
  not_adrift {c} {y} e f s = f ((later_of s).2.reached c y e)

-- `SafeEnd`: a call is done
module _ (t : List ℕ) (ix : Index) (before : Base) (last : State) (row : ℕ) (vs : List Value) where
  left_as : {z : State} {after : Base} → Safe t ix (ended before last row (finished vs z) after) → (rs : List Cell) × (st : List Entry) × (n : ℕ) × (z ≡ state [] rs st n) × (after ≡ base rs st n)
  left_as (ends (finishes {rs} {st} {n} a b) l) = (rs, st, n, refl, refl)

  numbers-only : {z : State} {after : Base} → Safe t ix (ended before last row (finished vs z) after) → All IsNumber vs
  numbers-only (ends (finishes a b) l) = a

  -- it leaves other entries or records than its last step
  pub not_left_else : {fs : List Frame} {rs rs' : List Cell} {st st' : List Entry} {n n' : ℕ} → (st' ≢ st) ⊎ (rs' ≢ rs) → Safe t ix (ended before last row (finished vs (state fs rs st n)) (base rs' st' n')) → ⊥
  not_left_else f s = let z = left_as s in ⊎_elim (λ u. u (cc (z.3, z.4))) (λ u. u (cc (z.3, z.4))) f

  -- it returns something else than a number, or more than four
  pub not_no_number : {v : Value} {z : State} {after : Base} → Mem v vs → ¬ (IsNumber v) → Safe t ix (ended before last row (finished vs z) after) → ⊥
  not_no_number {v} m f s = f (all_out (numbers-only s) v m)

  pub not-too_many : {z : State} {after : Base} → max_results < length vs → Safe t ix (ended before last row (finished vs z) after) → ⊥
  not-too_many l (ends (finishes a b) q) = omega (arith, b, l)

  -- a call ends in no other way than done or stopped
  over : {last : State} {row : ℕ} {o : Outcome} {after : Base} → SafeEnd t ix before last row o after → (o ≡ stuck) ⊎ ((s : State) × (o ≡ next s)) → ⊥
  over (finishes a b) e = ⊎_elim (λ q. clash (cc (q))) (λ q. clash (cc q.1)) e
  over (restores c r) e = ⊎_elim (λ q. clash (cc (q))) (λ q. clash (cc q.1)) e

  pub not_ended_else : {o : Outcome} {after : Base} → (o ≡ stuck) ⊎ ((s : State) × (o ≡ next s)) → Safe t ix (ended before last row o after) → ⊥
  not_ended_else e (ends d l) = over d e

-- an argument by its place
map_at : (args : List ℕ) (j : ℕ) {x : ℕ} → nth args j ≡ some x → nth (map num args) j ≡ some (num x)
map_at [] j e = absurd (clash (cc))
map_at (a ∷ args) zero e = cc (e)
map_at (a ∷ args) (suc j) e = map_at args j e

-- THE CHAIN, `Moments` and `Chained`
module _ (t : List ℕ) (ix : Index) where
  -- Anywhere in the events of a list of calls, from any base
  module _ (cs : List Call) (b : Base) (front more : List Event) (s : State) (r : ℕ) where
    -- a moment is left out, or another state is put in its place: the next one does not stand where the step led
    pub not_skipped : (s' s'' : State) (r' : ℕ) (o : Outcome) → s'' ≢ s' → Chained t ix cs b (front ++ (moment s r (next s') ∷ moment s'' r' o ∷ more)) → ⊥
    not_skipped s' s'' r' o f c = let k = (led t ix c front s r (next s') (moment s'' r' o ∷ more) refl).1 s' refl in f (cc k.2)

    -- a call ends after a step that goes on; the events end there
    pub not_broken_off : (s' last : State) (b₁ b₂ : Base) (r' : ℕ) (o : Outcome) → Chained t ix cs b (front ++ (moment s r (next s') ∷ ended b₁ last r' o b₂ ∷ more)) → ⊥
    not_broken_off s' last b₁ b₂ r' o c = let k = (led t ix c front s r (next s') (ended b₁ last r' o b₂ ∷ more) refl).1 s' refl in clash (cc k.2)

    pub not_cut : (s' : State) → Chained t ix cs b (front ++ (moment s r (next s') ∷ [])) → ⊥
    not_cut s' c = let k = (led t ix c front s r (next s') [] refl).1 s' refl in clash (cc k.2)

    -- a moment says that something else was done than the step does
    pub not_led : (o : Outcome) → o ≢ step t ix s → o ≢ stopped budget_spent → Chained t ix cs b (front ++ (moment s r o ∷ more)) → ⊥
    not_led o f g c = ⊎_elim (λ q. f q) (λ q. g q) (led t ix c front s r o more refl).0

    -- a call begins with another store than the one before left, the empty one for instance, or with other records
    module _ (rs rs' : List Cell) (st st' : List Entry) (n n' r' : ℕ) (b₁ : Base) (fs : List Frame) (o o' : Outcome) where
      abbrev Apart : Type 0
      Apart = Chained t ix cs b (front ++ (ended b₁ s r o (base rs st n) ∷ moment (state fs rs' st' n') r' o' ∷ more))

      pub not_from_another_store : st' ≢ st → Apart → ⊥
      not_from_another_store f c = let w = begins_after t ix front b₁ s r o (base rs st n) (state fs rs' st' n') r' o' more c in f (cc w.2)

      pub not_from_other_records : rs' ≢ rs → Apart → ⊥
      not_from_other_records f c = let w = begins_after t ix front b₁ s r o (base rs st n) (state fs rs' st' n') r' o' more c in f (cc w.2)

  -- A call of procedure q with these arguments
  module _ (q budget : ℕ) (args : List ℕ) (cs : List Call) (rs₀ : List Cell) (st₀ : List Entry) (n₀ : ℕ) where
    -- its events are left out, though it is in the list; there are events, though it is not
    pub not_left_out : Chained t ix (call q budget args ∷ cs) (base rs₀ st₀ n₀) [] → ⊥
    not_left_out c = empty t ix c refl

    pub not_invented : (e : Event) (es : List Event) → Chained t ix [] (base rs₀ st₀ n₀) (e ∷ es) → ⊥
    not_invented e es c = no_more t ix c refl refl

    -- its first moment is of another procedure
    module _ (id p i : ℕ) (ops : List Value) (ls : List (Option Value)) (fs : List Frame) (rs : List Cell) (st : List Entry) (n r : ℕ) (o : Outcome) (more : List Event) where
      abbrev First : Type 0
      First = Chained t ix (call q budget args ∷ cs) (base rs₀ st₀ n₀) (moment (state (frame id p i ops ls ∷ fs) rs st n) r o ∷ more)

      pub not_another_procedure : p ≢ q → First → ⊥
      not_another_procedure f c = let w = begun t ix c (state (frame id p i ops ls ∷ fs) rs st n) r o more refl in f (cc (w))

      -- it begins from another store than there is, under an old identity, or over another frame
      pub not_another_start : (st ≢ st₀) ⊎ ((id ≢ n₀) ⊎ (fs ≢ [])) → First → ⊥
      not_another_start f c = let w = begun t ix c (state (frame id p i ops ls ∷ fs) rs st n) r o more refl in ⊎_elim (λ u. u (cc (w))) (λ u. ⊎_elim (λ v. v (cc (w))) (λ v. v (cc (w))) u) f

      -- it has another argument in a parameter
      pub not_another_argument : (j : ℕ) → nth args j ≡ some 7 → nth ls j ≡ some (some (num 8)) → First → ⊥
      not_another_argument j a d c =
          let w = begun t ix c (state (frame id p i ops ls ∷ fs) rs st n) r o more refl in
          let u : ◌≡◌ {A = ℕ} 7 8 = cc (w, d, start-at (map num args) (local_count (procedure_in ix q) - length args) j (num 7) (map_at args j a)) in
          omega arith
