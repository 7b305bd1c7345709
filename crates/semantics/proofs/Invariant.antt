-- What holds of every event of the history of a list of calls. Claims about every state are read off it.
use Prim.Native.Nat.{ℕ, zero, suc, ◌+◌, ◌-◌, ◌^◌, ◌<◌, ◌≤◌}
use mathlib.Core.Path.{◌≡◌, refl, ap, sym, ◌∙◌}
use mathlib.Core.List.{List, [], ◌∷◌, ◌++◌, map}
use mathlib.Core.Bool.{Bool, true}
use mathlib.Core.Logic.{◌⊎◌, inl, inr, ⊎_elim}
use native.Mathlib.Omega.{arith}
use borrow.Author.Tests.{eqb-true}
use lib.ListN.{length, drop, replicate, length-append, length-replicate, length-map, length-drop}
use Rattle.laws.proofs.Lists.{length-tabulate}
use Rattle.laws.proofs.Tests.{and_both}
use Rattle.table.specs.declared.index.Index.{Index}
use Rattle.table.specs.Index.{index_of}
use Rattle.table.specs.Rows.{row_at}
use Rattle.declarations.specs.Program.{number, procedure_in, local_count, parameter_kinds}
use Rattle.acceptance.specs.Judged.{Judged}
use Rattle.semantics.specs.Limits.{budget_spent}
use Rattle.semantics.specs.Machine.{Value, num, Cell, gone, here, Entry, Frame, frame, State, state, Outcome, next, finished, stopped, stuck, live_count}
use Rattle.semantics.specs.Step.{instruction, step}
use Rattle.semantics.specs.Calls.{Call, all_numbers}
use Rattle.semantics.specs.History.{Base, base, Event, moment, ended, bury, restored, afterwards, Run, ran, row_up, go, begin, base_after, nothing}
use Rattle.semantics.specs.Ownership.{in_values, in_records, lives_at}
use Rattle.semantics.specs.Words.{Exists}
use Rattle.semantics.specs.Callable.{Callable, GoodCall}
use Rattle.semantics.specs.Claim.{All, none_left, also, Rising, Takes, Handed, Origin}
use Rattle.semantics.specs.Chain.{Moments, spent, steps, done, Chained, no_call, one-call}
use Rattle.semantics.proofs.Every.{WholeRun, go-whole}
use Rattle.semantics.proofs.Counts.{held_start}
use Rattle.semantics.proofs.Changes.{clash, Limited, limits, grows}
use Rattle.semantics.proofs.Sounds.{nth_app}
use Rattle.semantics.proofs.Typing.{Has, hnil, hcons, fnum, CellOk, ◌⊑◌, snoc_last, cells_more, entries_more}
use Rattle.semantics.proofs.Frames.{bottom, Stack, runs, type_of}
use Rattle.semantics.proofs.Entering.{entered}
use Rattle.semantics.proofs.Running.{Rest, OutcomeOk}
use Rattle.semantics.proofs.Steps.{StateOk, DidAt, step_ok, writes_through}
use Rattle.semantics.proofs.Worded.{procedure-is}
use Rattle.semantics.proofs.Placed.{row_is}
use Rattle.semantics.proofs.Outcomes.{OutQ, goes}
use Rattle.semantics.proofs.Handing.{handed, handed_rising}

-- Restored records: those of the beginning, the others gone
buried_held : (r : ℕ) (h l : List Cell) → in_records r (h ++ map bury l) ≡ in_records r h
buried_held r [] [] = refl
buried_held r [] (gone y ∷ l) = omega (arith, buried_held r [] l)
buried_held r [] (here y vs ∷ l) = omega (arith, buried_held r [] l)
buried_held r (c ∷ h) l = omega (arith, buried_held r h l)

buried_lives : (r : ℕ) (h l : List Cell) → lives_at (h ++ map bury l) r ≡ lives_at h r
buried_lives r [] [] = refl
buried_lives zero [] (gone y ∷ l) = refl
buried_lives zero [] (here y vs ∷ l) = refl
buried_lives (suc r) [] (c ∷ l) = buried_lives r [] l
buried_lives zero (c ∷ h) l = refl
buried_lives (suc r) (c ∷ h) l = buried_lives r h l

pub buried_count : (h l : List Cell) → live_count (h ++ map bury l) ≡ live_count h
buried_count [] [] = refl
buried_count [] (gone y ∷ l) = omega (arith, buried_count [] l)
buried_count [] (here y vs ∷ l) = omega (arith, buried_count [] l)
buried_count (c ∷ h) l = omega (arith, buried_count h l)

buried_types : (h l : List Cell) → map type_of (h ++ map bury l) ≡ map type_of h ++ map type_of l
buried_types [] [] = refl
buried_types [] (gone y ∷ l) = rw (buried_types [] l)
buried_types [] (here y vs ∷ l) = rw (buried_types [] l)
buried_types (c ∷ h) l = rw (buried_types h l)

buried_cells : (t : List ℕ) (ix : Index) (T : List ℕ) (h l : List Cell) → All (CellOk t ix T) h → All (CellOk t ix T) (h ++ map bury l)
buried_cells t ix T [] [] a = none_left
buried_cells t ix T [] (gone y ∷ l) a = also tt (buried_cells t ix T [] l none_left)
buried_cells t ix T [] (here y vs ∷ l) a = also tt (buried_cells t ix T [] l none_left)
buried_cells t ix T (c ∷ h) l (also k a) = also k (buried_cells t ix T h l a)

pub buried_dead : (h l : List Cell) (id y : ℕ) → length h ≤ id → ¬ (Exists (h ++ map bury l) id y)
buried_dead [] [] id y b a = clash (cc a.1)
buried_dead [] (gone u ∷ l) zero y b a = clash (cc a.1)
buried_dead [] (here u vs ∷ l) zero y b a = clash (cc a.1)
buried_dead [] (c ∷ l) (suc id) y b a = buried_dead [] l id y (omega arith) a
buried_dead (c ∷ h) l zero y b a = omega arith
buried_dead (c ∷ h) l (suc id) y b a = buried_dead h l id y (omega arith) a

all_append : {B : Type 0} {Q : B → Type 0} {l r : List B} → All Q l → All Q r → All Q (l ++ r)
all_append none_left b = b
all_append (also k a) b = also k (all_append a b)

restored-rest : (t : List ℕ) (h h' : List Cell) (st : List Entry) → Rest t h st → Rest t (restored h h') st
restored-rest t h h' st v =
    let l = drop (length h) h' in
    let U = map type_of h ++ map type_of l in
    let g : ◌⊑◌ v.T U = λ i y e. nth_app (map type_of h) (map type_of l) i y (rw v.types e) in
    record {
      T = U;
      types = buried_types h l;
      records = buried_cells t (index_of t) U h l (cells_more t (index_of t) v.T U g v.records);
      store = entries_more v.T U g v.store;
      owned = λ r. omega (arith, v.owned r, buried_held r h l, buried_lives r h l);
    }

pub restored-length : (h h' : List Cell) → length h ≤ length h' → length h' ≤ length (restored h h')
restored-length h h' l = simp (length-append, length-map, length-drop) (omega arith)

-- arguments are numbers
numbers_fit : {t : List ℕ} {ix : Index} {T W : List ℕ} {m : ℕ} (ks args : List ℕ) (cs : List Bool) → all_numbers ks ≡ true → length args ≡ length ks → length cs ≡ length ks → All (λ (x : ℕ). x < 2 ^ 64) args
    → Has t ix T W m (map num args) ks cs
unfolding all_numbers
numbers_fit [] [] [] e a c w = hnil
numbers_fit [] [] (b ∷ cs) e a c w = absurd (omega arith)
numbers_fit [] (x ∷ args) cs e a c w = absurd (omega arith)
numbers_fit (k ∷ ks) [] cs e a c w = absurd (omega arith)
numbers_fit (k ∷ ks) (x ∷ args) [] e a c w = absurd (omega arith)
numbers_fit (k ∷ ks) (x ∷ args) (b ∷ cs) e a c (also u w) = let z = and_both _ _ e in hcons (fnum u (eqb-true k number z.0)) (numbers_fit ks args cs z.1 (omega arith) (omega arith) w)

numbers_free : (r : ℕ) (args : List ℕ) → in_values r (map num args) ≡ 0
numbers_free r [] = refl
numbers_free r (x ∷ args) = omega (arith, numbers_free r args)

-- how many records there have been
abbrev pub used : Base → ℕ
used (base h st n) = length h

abbrev pub used_at : State → ℕ
used_at (state fs h st n) = length h

module _ (t : List ℕ) (J : Judged t (index_of t)) where
  nonempty : {T W : List ℕ} {fs : List Frame} → Stack t (index_of t) T W fs → fs ≡ [] → ⊥
  nonempty (runs f s) e = clash (cc)

  pub no_frame : {h : List Cell} {st : List Entry} {n : ℕ} → StateOk t (state [] h st n) → ⊥
  no_frame v = nonempty v.frames refl

  -- within the limits, and the frames' identities rise
  abbrev pub Within : State → Type 0
  Within (state fs h st n) = Limited h st × Rising n fs

  -- what there is between calls
  unfoldable pub BaseOk : Base → Type 0
  BaseOk (base h st n) = Rest t h st × Limited h st

  -- A moment: a state on the way, the row that comes up, and what `step` makes of it, or that the budget is spent
  pub record MomentOk (s : State) (row : ℕ) (o : Outcome) : Type 0 where
    pub holds : StateOk t s
    pub within : Within s
    pub at : row ≡ row_up t (index_of t) s
    pub did : (o ≡ step t (index_of t) s) ⊎ (o ≡ stopped budget_spent)

  -- The end of a call: its last moment, after which it does not go on, what there was at its beginning, and what there is after it
  pub record EndOk (before : Base) (s : State) (row : ℕ) (o : Outcome) (after : Base) : Type 0 where
    pub last : MomentOk s row o
    pub over : (s' : State) → o ≡ next s' → ⊥
    pub began : BaseOk before
    pub longer : used before ≤ used_at s
    pub leaves : after ≡ afterwards before s o

  abbrev pub EventOk : Event → Type 0
  EventOk (moment s row o) = MomentOk s row o
  EventOk (ended before s row o after) = EndOk before s row o after

  -- what a step leaves of the frames
  abbrev pub HandedAt : State → Outcome → Type 0
  HandedAt (state [] h st n) o = ⊥
  HandedAt (state (frame id p i ops ls ∷ fs) h st n) o =
      OutQ
      (λ (fs' : List Frame) (n' : ℕ). Handed t (index_of t) ((procedure_in (index_of t) p).code + i) id p i ops ls fs n fs' n' × Origin t (index_of t) ((procedure_in (index_of t) p).code + i) id p i ops ls fs h st fs')
      (λ (vs : List Value) (s : State). ((row_at t ((procedure_in (index_of t) p).code + i)).a ≡ 16) × Takes t (index_of t) p i ops vs [] × (fs ≡ []) × (s ≡ state [] h st n))
      (λ (k : ℕ). Unit {0})
      o

  pub handed_at : (s : State) → StateOk t s → Within s → HandedAt s (step t (index_of t) s)
  unfolding instruction
  handed_at (state fs h st n) v w = go fs v.frames w.1
    where
      go : (fs : List Frame) → Stack t (index_of t) v.T v.W fs → Rising n fs → HandedAt (state fs h st n) (step t (index_of t) (state fs h st n))
      go fs (runs {id} {p} {i} {ops} {ls} {fs = gs} f s) r =
          let few = (J.procedure p f.there).low in
          let found = row_is t J.accepted p f.there few i f.inside in
          handed t (index_of t) v.T ((procedure_in (index_of t) p).code + i) id p i ops ls gs h st n v.records r (procedure-is t J.accepted p f.there few)
          (λ e. let q = (J.instruction p i f.there f.inside).called (ap (λ (x : _). x.a) found ∙ e) in rw found at (procedure-is t J.accepted _ q (J.procedure _ q).low))
          (rw found at (writes_through t J f)) found

  rises : (s : State) (fs' : List Frame) (h' : List Cell) (st' : List Entry) (n' : ℕ) → HandedAt s (next (state fs' h' st' n')) → Within s → Rising n' fs'
  rises (state [] h st n) fs' h' st' n' q w = absurd q
  rises (state (frame id p i ops ls ∷ fs) h st n) fs' h' st' n' (goes q) w = handed_rising t (index_of t) _ id p i ops ls fs n q.0 w.1

  did-limits : (s : State) (h' : List Cell) (st' : List Entry) → DidAt t s h' st' → Within s → Limited h' st' × (used_at s ≤ length h')
  did-limits (state [] h st n) h' st' d w = absurd d
  did-limits (state (frame id p i ops ls ∷ fs) h st n) h' st' d w = (limits d w.0, grows d)

  -- A call's moments, from a state in which at least z records have been used
  abbrev RunOk : ℕ → List Event → State → Outcome → Type 0
  RunOk z es s o = All EventOk es × MomentOk s (row_up t (index_of t) s) o × ((s' : State) → o ≡ next s' → ⊥) × (z ≤ used_at s)

  next_ok : (s s' : State) → StateOk t s → Within s → step t (index_of t) s ≡ next s' → StateOk t s' × Within s' × (used_at s ≤ used_at s')
  next_ok s (state fs' h' st' n') v w e =
      let k : OutcomeOk t (DidAt t s) (next (state fs' h' st' n')) = rw e at (step_ok t J s v) in
      let d = did-limits s h' st' k.1 w in
      (k.0, (d.0, rises s fs' h' st' n' (rw e at (handed_at s v w)) w), d.1)

  moments_ok : (z : ℕ) {budget : ℕ} {s last : State} {o : Outcome} {es : List Event} → Moments t (index_of t) budget s es last o → StateOk t s → Within s → z ≤ used_at s → RunOk z es last o
  moments_ok z (spent {s}) v w l =
      let m : MomentOk s (row_up t (index_of t) s) (stopped budget_spent) = record { holds = v; within = w; at = refl; did = inr refl } in
      (also {x = moment s (row_up t (index_of t) s) (stopped budget_spent)} m none_left, m, (λ s' e. clash (cc (e))), l)
  moments_ok z (steps {s} {s'} e m) v w l =
      let k = next_ok s s' v w e in
      let r = moments_ok z m k.0 k.1 (omega (arith, k.2)) in
      let now : MomentOk s (row_up t (index_of t) s) (next s') = record { holds = v; within = w; at = refl; did = inl (sym e) } in
      (also {x = moment s (row_up t (index_of t) s) (next s')} now r.0, r.1, r.2, r.3)
  moments_ok z (done {s} {o} e f h) v w l =
      let m : MomentOk s (row_up t (index_of t) s) o = record { holds = v; within = w; at = refl; did = inl (sym e) } in
      (also {x = moment s (row_up t (index_of t) s) o} m none_left, m, f, l)

  -- the state in which a call begins
  pub begin_ok : (q budget : ℕ) (args : List ℕ) (h : List Cell) (st : List Entry) (n : ℕ) → Callable t (index_of t) q budget args → Rest t h st → StateOk t (begin t (index_of t) q args (base h st n))
  begin_ok q budget args h st n c v =
      let f = entered {T = v.T} {W = replicate n 0 ++ (q ∷ [])} J n q c.there (rw (length-replicate {A = ℕ} n 0) at (snoc_last (replicate n 0) q)) (map num args)
      (numbers_fit (parameter_kinds t (procedure_in (index_of t) q)) args _ c.takes c.count (length-tabulate _ _) c.words) in
      let same_length : length (map num args) ≡ length args = length-map args num in
      record {
        T = v.T;
        W = replicate n 0 ++ (q ∷ []);
        types = v.types;
        serial = simp (length-append, length-replicate) (omega arith);
        frames = runs (rw same_length at f) (bottom c.gives (J.procedure q c.there).results);
        records = v.records;
        store = v.store;
        owned = λ r. omega (arith, v.owned r, held_start r (map num args) (local_count (procedure_in (index_of t) q) - length args), numbers_free r args);
      }

  -- what comes of a moment
  pub outcome_ok : (s : State) (row : ℕ) (o : Outcome) → MomentOk s row o → OutcomeOk t (DidAt t s) o
  outcome_ok s row o m = ⊎_elim (λ e. rw e (step_ok t J s m.holds)) (λ e. rw e tt) m.did

  -- what a call leaves: a stopped one the records of its beginning, with the others gone
  pub restored_ok : (h h' : List Cell) (st : List Entry) → Rest t h st → Limited h st → Rest t (restored h h') st × Limited (restored h h') st
  restored_ok h h' st v w = (restored-rest t h h' st v, record { few = omega (arith, buried_count h (drop (length h) h'), w.few); entries = w.entries; keys = w.keys })

  left_ok : (b : Base) (s : State) (o : Outcome) → BaseOk b → OutcomeOk t (DidAt t s) o → Within s → BaseOk (afterwards b s o)
  unfolding BaseOk
  left_ok (base h st n) (state fs h' st' n') (next s) v k w = restored_ok h h' st v.0 v.1
  left_ok (base h st n) (state fs h' st' n') stuck v k w = absurd k
  left_ok (base h st n) (state fs h' st' n') (finished vs (state gs h'' st'' n'')) v k w = (k.0, (did-limits (state fs h' st' n') h'' st'' k.1 w).0)
  left_ok (base h st n) (state fs h' st' n') (stopped j) v k w = restored_ok h h' st v.0 v.1

  -- a call's moments and its end, and what there is after it
  call_ok : (q budget : ℕ) (args : List ℕ) (b : Base) {es : List Event} {last : State} {o : Outcome} → Callable t (index_of t) q budget args → BaseOk b → Moments t (index_of t) budget (begin t (index_of t) q args b) es last o
      → RunOk (used b) es last o × BaseOk (afterwards b last o)
  unfolding BaseOk
  call_ok q budget args (base h st n) {last} {o} c v m =
      let r = moments_ok (length h) m (begin_ok q budget args h st n c v.0) (v.1, (omega arith, tt)) (omega arith) in
      (r, left_ok (base h st n) last o v (outcome_ok last (row_up t (index_of t) last) o r.1) r.1.within)

  -- every event of a list of calls
  pub chain_ok : {cs : List Call} {b : Base} {es : List Event} → Chained t (index_of t) cs b es → All (GoodCall t (index_of t)) cs → BaseOk b → All EventOk es
  chain_ok no_call c v = none_left
  chain_ok (one-call {q} {budget} {args} {b} {z} {o} m later) (also c cs) v =
      let r = call_ok q budget args b c v m in
      let end : EndOk b z (row_up t (index_of t) z) o (afterwards b z o) = record { last = r.0.1; over = r.0.2; began = v; longer = r.0.3; leaves = refl } in
      all_append r.0.0 (also {x = ended b z (row_up t (index_of t) z) o (afterwards b z o)} end (chain_ok later cs r.1))

  -- what there is after a call
  pub call_run : (q budget : ℕ) (args : List ℕ) (b : Base) → Callable t (index_of t) q budget args → BaseOk b → BaseOk (base_after t (index_of t) b (go t (index_of t) budget (begin t (index_of t) q args b)))
  call_run q budget args b c v = after_run (go t (index_of t) budget (begin t (index_of t) q args b)) (go-whole t (index_of t) budget (begin t (index_of t) q args b))
    where
      after_run : (r : Run) → WholeRun t (index_of t) budget (begin t (index_of t) q args b) r → BaseOk (base_after t (index_of t) b r)
      after_run (ran es z row o) w = (call_ok q budget args b c v w.0).1

  pub nothing_ok : BaseOk nothing
  unfolding BaseOk
  nothing_ok = (record { T = []; types = refl; records = none_left; store = none_left; owned = λ r. refl }, record { few = omega arith; entries = omega arith; keys = λ y a. omega arith })
