-- Under a rule file no step of any run over a table that is accepted under it enters a procedure by a forbidden pair.
use Prim.Native.Nat.{ℕ, ◌+◌, ◌<◌}
use mathlib.Core.Path.{◌≡◌, refl, ap, sym, ◌∙◌}
use mathlib.Core.Bool.{Bool, true, false, cond}
use mathlib.Core.List.{List, [], ◌∷◌}
use mathlib.Core.Option.{Option, some}
use native.Mathlib.Omega.{arith}
use lib.Dec.{eqb}
use lib.ListN.{set}
use Rattle.table.specs.declared.index.ProcedureEntry.{ProcedureEntry}
use Rattle.table.specs.Verdicts.{Accepted}
use Rattle.table.specs.Format.{op_call}
use Rattle.table.specs.Rows.{row_count, row_at, kind_at}
use Rattle.table.specs.Index.{index_of, owner_at}
use Rattle.declarations.specs.Program.{code_of}
use Rattle.sizes.proofs.Rows.{own}
use Rattle.sizes.proofs.Inside.{code-size, code_below}
use Rattle.policy.specs.Allowed.{MayCall, IsCall, called_at}
use Rattle.judging.specs.Judging.{judge_of, judge_under}
use Rattle.judging.proofs.Under.{under_accepts}
use Rattle.acceptance.specs.Judged.{Bytes, Judged}
use Rattle.acceptance.proofs.Judged.{judged}
use Rattle.acceptance.proofs.RuleRefusals.{under-allowed}
use Rattle.semantics.specs.Machine.{Value, num, put_local, Cell, Entry, Frame, frame, State, state, Outcome, next, finished}
use Rattle.semantics.specs.Calls.{Call, list_of, calls_of}
use Rattle.semantics.specs.History.{Event, moment, ended, nothing}
use Rattle.semantics.specs.Run.{history_of}
use Rattle.semantics.specs.Words.{procedure_count, module_of, body_of, instruction_row}
use Rattle.semantics.specs.Callable.{GoodCall}
use Rattle.semantics.specs.Permitted.{stack, stack_of, Leads, stays, leaves, enters, ByRule, no_frame, by-list, by_call, PermittedMoment, Permitted}
use Rattle.semantics.specs.Claim.{All, Linked, first, under, Ready, Handed, goes_on, writes, calls, returns, SafeOutcome, goes, returns_last, stops, Safe, safe}
use Rattle.semantics.specs.Chain.{Chained}
use Rattle.semantics.proofs.Changes.{clash}
use Rattle.semantics.proofs.Worded.{passed, procedures_are, procedure-is, module_is}
use Rattle.semantics.proofs.Placed.{place_is, kind-is, owner_is}
use Rattle.semantics.proofs.Callable.{good-calls}
use Rattle.semantics.proofs.Invariant.{EventOk, chain_ok, nothing_ok}
use Rattle.semantics.proofs.Demand3.{all_map, safe-moment}
use Rattle.semantics.proofs.Every.{chained}

-- a write to a local leaves each frame in its procedure
put-kept : (fs : List Frame) (f l : ℕ) (v : Value) → stack (put_local fs f l v) ≡ stack fs
put-kept [] f l v = refl
put-kept (frame id p i ops ls ∷ fs) f l v = go (eqb id f) (put-kept fs f l v)
  where
    go : (b : Bool) → stack (put_local fs f l v) ≡ stack fs → stack (cond b (frame id p i ops (set ls l (some v)) ∷ fs) (frame id p i ops ls ∷ put_local fs f l v)) ≡ (id, p) ∷ stack fs
    go true e = refl
    go false e = ap (λ (ps : List (ℕ × ℕ)). (id, p) ∷ ps) e

module _ (r t : List ℕ) (J : Judged t (index_of t)) (may : (i : ℕ) → IsCall t i → MayCall r (owner_at t i) (called_at t i)) where
  -- a Call in the code of procedure p is a Call of its module
  module _ {row p : ℕ} (i : ℕ) (known : p < procedure_count t) (place : row ≡ instruction_row t p i) (inside : row < (body_of t p).end) (op : (row_at t row).a ≡ op_call) where
    call-there : IsCall t row × (owner_at t row ≡ module_of t p)
    call-there =
        let a = J.accepted in
        let there : p < (index_of t).procedures = omega (arith, procedures_are t a) in
        let few = (J.procedure p there).low in
        let body = procedure-is t a p there few in
        let start = ap (λ (e : ProcedureEntry). e.code) body in
        let end = ap (λ (e : ProcedureEntry). e.end) body in
        let within : i < row_count (code_of t (own t p)) = omega (arith, code-size t (passed t a) p there, start, end) in
        let here : row ≡ (own t p).code + i = place ∙ sym (place_is t a p there few i within) in
        ((omega (arith, code_below t (passed t a) p there i within, here), ap (kind_at t) here ∙ kind-is t a p there few i within, op), ap (owner_at t) here ∙ owner_is t a p there few i within ∙ module_is t a p there few)

  -- each frame stands at the Call of the one above it
  by_rule : {id q : ℕ} {fs : List Frame} → Linked t q fs → ByRule r t ((id, q) ∷ stack fs)
  by_rule first = by-list
  by_rule (under {i} known inside op named l) = let z = call-there i known refl inside op in by_call (rw (z.1, named) at (may _ z.0)) (by_rule l)

  -- where a step leads, and that the frames were so entered there
  leads-on : {row id p i n n' : ℕ} {ops : List Value} {ls : List (Option Value)} {fs fs' : List Frame} {s : State} → Ready t (index_of t) row p i ops s → Handed t (index_of t) row id p i ops ls fs n fs' n' → Leads t row ((id, p) ∷ stack fs) (stack fs')
  leads-on u (goes_on a b) = stays
  leads-on {id} {p} {i} {ls} {fs} u (writes {f} {l} {z} {rest} a b) = rw (put-kept (frame id p (i + 1) rest ls ∷ fs) f l (num z)) stays
  leads-on {i} u (calls a b) = enters (call-there i u.procedure u.place u.inside a).0 u.stands_in
  leads-on u (returns a b c) = rw c leaves

  led : {row : ℕ} {fs gs : List (ℕ × ℕ)} → Leads t row fs gs → ByRule r t fs → ByRule r t gs
  led stays e = e
  led leaves by-list = no_frame
  led leaves (by_call m e) = e
  led {row} (enters c o) e = by_call (rw o at (may row c)) e

  onward : {row id p i n : ℕ} {ops : List Value} {ls : List (Option Value)} {fs : List Frame} {rs : List Cell} {st : List Entry} {o : Outcome} {s : State} → Ready t (index_of t) row p i ops s
      → SafeOutcome t (index_of t) row id p i ops ls fs rs st n o → (s' : State) → o ≡ next s' → Leads t row ((id, p) ∷ stack fs) (stack_of s')
  onward u (goes {fs'} {rs'} {st'} {n'} a b h c d g) s' q = let z : state fs' rs' st' n' ≡ s' = cc (q) in rw (← z) (leads-on u h)
  onward u (returns_last a b c) s' q = absurd (clash (cc (q)))
  onward u (stops a) s' q = absurd (clash (cc (q)))

  -- the last one leaves none
  emptied : {row id p i n : ℕ} {ops : List Value} {ls : List (Option Value)} {fs : List Frame} {rs : List Cell} {st : List Entry} {o : Outcome} → SafeOutcome t (index_of t) row id p i ops ls fs rs st n o
      → (vs : List Value) (s' : State) → o ≡ finished vs s' → stack_of s' ≡ []
  emptied (goes a b h c d g) vs s' q = absurd (clash (cc (q)))
  emptied {n} {rs} {st} (returns_last a b c) vs s' q = let z : state [] rs st n ≡ s' = cc (q) in rw (← z) refl
  emptied (stops a) vs s' q = absurd (clash (cc (q)))

  -- a moment that is safe
  pub permitted_moment : {s : State} {row : ℕ} {o : Outcome} → Safe t (index_of t) (moment s row o) → PermittedMoment r t s row o
  permitted_moment (safe {row} u d) =
      let e = by_rule u.linked in
      record { before = e; comes_up = may row; leads = onward u.ready d; after = λ s' q. led (onward u.ready d s' q) e; none_left = emptied d }

  permitted_event : (e : Event) → EventOk t J e → Permitted r t e
  permitted_event (moment s row o) m = permitted_moment (safe-moment t J s row o m)
  permitted_event (ended b s row o b') m = (permitted_moment (safe-moment t J s row o m.last)).before

-- where every Call of the table may call: every event of a list of good calls
pub permitted_if : (r t : List ℕ) (n : ℕ) → Bytes t → judge_of t ≡ Accepted n → ((i : ℕ) → IsCall t i → MayCall r (owner_at t i) (called_at t i)) → (cs : List Call) → All (GoodCall t (index_of t)) cs → (es : List Event)
    → Chained t (index_of t) cs nothing es → All (Permitted r t) es
permitted_if r t n bt e may cs good es c = let J = judged t n bt e in all_map (permitted_event r t J may) (chain_ok t J c good (nothing_ok t J))

-- so of a table that is accepted under a rule file
pub permitted_calls : (has : ℕ) (r t : List ℕ) (n : ℕ) → Bytes t → (has ≡ 0 → ⊥) → judge_under has r t ≡ Accepted n → (cs : List Call) → All (GoodCall t (index_of t)) cs → (es : List Event) → Chained t (index_of t) cs nothing es → All (Permitted r t) es
permitted_calls has r t n bt file e = permitted_if r t n bt (under_accepts has r t n e) (under-allowed has r t n e file).calls

-- and of the bytes of a list
pub permitted : (has : ℕ) (r t l : List ℕ) (n k : ℕ) → Bytes t → Bytes l → (has ≡ 0 → ⊥) → judge_under has r t ≡ Accepted n → list_of t (index_of t) l ≡ Accepted k → All (Permitted r t) (history_of t l)
unfolding history_of
permitted has r t l n k bt bl file e d = permitted_calls has r t n bt file e (calls_of l) (good-calls t (index_of t) l k bl d) (history_of t l) (chained t (index_of t) (calls_of l) nothing)
