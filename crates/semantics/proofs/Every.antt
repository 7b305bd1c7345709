-- The history of a list of calls has every state on the way.
use Prim.Native.Nat.{ℕ, zero, suc}
use mathlib.Core.Path.{◌≡◌, refl, ap, sym, ◌∙◌}
use mathlib.Core.List.{List, [], ◌∷◌, ◌++◌}
use Rattle.table.specs.declared.index.Index.{Index}
use Rattle.semantics.specs.Machine.{State, Outcome, next, finished, stopped, stuck}
use Rattle.semantics.specs.Step.{step}
use Rattle.semantics.specs.Calls.{Call, call}
use Rattle.semantics.specs.History.{Base, Event, moment, ended, afterwards, Run, ran, after_moment, row_up, onward, go, begin, events_of, base_after, history}
use Rattle.semantics.specs.Chain.{Moments, spent, steps, done, Chained, no_call, one-call}
use Rattle.semantics.proofs.Changes.{clash}
use Rattle.semantics.proofs.Causes.{never_spent}

app_assoc : {A : Type 0} (xs : List A) (y : A) (zs : List A) → (xs ++ (y ∷ [])) ++ zs ≡ xs ++ (y ∷ zs)
app_assoc [] y zs = refl
app_assoc (x ∷ xs) y zs = ap (λ (l : List _). x ∷ l) (app_assoc xs y zs)

module _ (t : List ℕ) (ix : Index) where
  -- a run's moments are all of them, and the row told is that of the last
  abbrev pub WholeRun : ℕ → State → Run → Type 0
  WholeRun budget s (ran es z r o) = Moments t ix budget s es z o × (r ≡ row_up t ix z)

  add : (budget : ℕ) (s s' : State) (r : Run) → step t ix s ≡ next s' → WholeRun budget s' r → WholeRun (suc budget) s (after_moment (moment s (row_up t ix s) (next s')) r)
  add budget s s' (ran es z r o) e w = (steps e w.0, w.1)

  onward-whole : (budget : ℕ) (s : State) (o : Outcome) → step t ix s ≡ o → ((s' : State) → WholeRun budget s' (go t ix budget s')) → WholeRun (suc budget) s (onward t ix s o (go t ix budget))
  onward-whole budget s (next s') e ih = add budget s s' (go t ix budget s') e (ih s')
  onward-whole budget s (finished vs s') e ih = (done e (λ s'' q. clash (cc (q))) (λ q. clash (cc (q))), refl)
  onward-whole budget s (stopped k) e ih = (done e (λ s'' q. clash (cc (q))) (λ q. never_spent t ix s (e ∙ q)), refl)
  onward-whole budget s stuck e ih = (done e (λ s'' q. clash (cc (q))) (λ q. clash (cc (q))), refl)

  pub go-whole : (budget : ℕ) (s : State) → WholeRun budget s (go t ix budget s)
  unfolding go
  go-whole zero s = (spent, refl)
  go-whole (suc budget) s = onward-whole budget s (step t ix s) refl (go-whole budget)

  join : (q budget : ℕ) (args : List ℕ) (cs : List Call) (b : Base) (r : Run) → WholeRun budget (begin t ix q args b) r → Chained t ix cs (base_after t ix b r) (history t ix cs (base_after t ix b r))
      → Chained t ix (call q budget args ∷ cs) b (events_of t ix b r ++ history t ix cs (base_after t ix b r))
  join q budget args cs b (ran es z r o) w c = rw (app_assoc es (ended b z r o (afterwards b z o)) (history t ix cs (afterwards b z o)), w.1) (one-call w.0 c)

  pub chained : (cs : List Call) (b : Base) → Chained t ix cs b (history t ix cs b)
  unfolding history
  chained [] b = no_call
  chained (call q budget args ∷ cs) b = join q budget args cs b (go t ix budget (begin t ix q args b)) (go-whole budget (begin t ix q args b)) (chained cs (base_after t ix b (go t ix budget (begin t ix q args b))))

  -- and no other events are chained: a call's moments are those of `go`, and so are the calls
  moments_are : {budget : ℕ} {s z : State} {o : Outcome} {es : List Event} → Moments t ix budget s es z o → go t ix budget s ≡ ran es z (row_up t ix z) o
  unfolding go
  moments_are spent = refl
  moments_are (steps {budget} {s} {s'} e m) = ap (λ (x : Outcome). onward t ix s x (go t ix budget)) e ∙ ap (after_moment (moment s (row_up t ix s) (next s'))) (moments_are m)
  moments_are (done {budget} {s} {o} e f h) = ap (λ (x : Outcome). onward t ix s x (go t ix budget)) e ∙ last o f
    where
      last : (o : Outcome) → ((s' : State) → o ≡ next s' → ⊥) → onward t ix s o (go t ix budget) ≡ ran (moment s (row_up t ix s) o ∷ []) s (row_up t ix s) o
      last (next s') g = absurd (g s' refl)
      last (finished vs s') g = refl
      last (stopped k) g = refl
      last stuck g = refl

  pub only-chain : {cs : List Call} {b : Base} {es : List Event} → Chained t ix cs b es → es ≡ history t ix cs b
  unfolding history
  only-chain no_call = refl
  only-chain (one-call {q} {budget} {args} {cs} {b} {es} {more} {z} {o} m c) =
      let run = moments_are m in
      rw run (ap (λ (l : List Event). es ++ (ended b z (row_up t ix z) o (afterwards b z o) ∷ l)) (only-chain c) ∙ sym (app_assoc es (ended b z (row_up t ix z) o (afterwards b z o)) (history t ix cs (afterwards b z o))))
