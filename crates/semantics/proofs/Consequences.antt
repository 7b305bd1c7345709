-- What follows from the claim: of operands taken, frames, numbers, references, and what stands between the moments of a list of calls.
use Prim.Native.Nat.{ℕ, zero, suc, ◌+◌, ◌-◌, ◌%◌, ◌<◌, ◌≤◌}
use mathlib.Core.Path.{◌≡◌, refl, ap, sym, subst, ◌∙◌}
use mathlib.Core.Bool.{Bool, true, false, cond}
use mathlib.Core.List.Memᴰ
use mathlib.Core.List.{List, [], ◌∷◌, ◌++◌, map}
use mathlib.Core.Logic.{◌⊎◌, inl, inr, ⊎_elim, ◌≢◌}
use mathlib.Core.Option.{Option, none, some}
use native.Mathlib.Omega.{arith}
use lib.ListN.{length, set, replicate, get_elem? as nth}
use lib.Dec.{eqb}
use borrow.Author.Tests.{eqb-true}
use Rattle.table.specs.declared.index.Index.{Index}
use Rattle.table.specs.Format.{op_write_ref, op_borrow_loc, op_borrow_fld, op_borrow_global, op_call, op_ret, op_freeze}
use Rattle.table.specs.Rows.{row_at}
use Rattle.declarations.specs.Program.{number, number_ref, record_ref, reference_to, local_kind, local_count}
use Rattle.semantics.specs.Limits.{budget_spent}
use Rattle.reach.specs.Reach.{Mem}
use Rattle.semantics.specs.Machine.{Ref, to_local, to_field, to_record, Value, value_kind, writable, num, obj, refer, put_local, local_of, Cell, gone, here, Entry, Frame, frame, State, state, Outcome, next, stopped, Target, a_number, a_record, stale, wrong, in_cell, in_local, number_in, in_field, target}
use Rattle.semantics.specs.Step.{pushed_on, start_locals, Taken, missing, took, also_taken, taken, effect_at, step}
use Rattle.semantics.specs.Calls.{Call, call}
use Rattle.semantics.specs.History.{Base, Event, moment, ended, row_up, begin, afterwards}
use Rattle.semantics.specs.Words.{procedure_count, kinds_in, body_of, instruction_row, Holds, operand, local, Exists, NumberIn, IsEntry}
use Rattle.semantics.specs.Claim.{Sound, Rising, IsReference, Labelled, Typed, typed, Linked, first, under as at_call, Makes, local-made, field-made, nested-made, entry-made, frozen-made, Takes, Handed, goes_on, writes, calls, returns, Origin, SafeState, goes, Safe, safe}
use Rattle.semantics.specs.Chain.{Moments, spent, steps, done, Chained, no_call, one-call}
use Rattle.semantics.proofs.Changes.{clash}
use Rattle.semantics.proofs.EndOf.{tail-same, past}
use Rattle.semantics.proofs.Sounds.{nth-set, head_of, found-there}
use Rattle.semantics.proofs.Sorts.{as_large}
use Rattle.semantics.proofs.Handing.{taken_shape}

-- what was taken has the kinds taken, and as many values
also-kinds : (k : ℕ) (ks : List ℕ) (x : Taken) (vs under : List Value) → also_taken k x ≡ took vs under → ((us rest : List Value) → x ≡ took us rest → map value_kind us ≡ ks) → map value_kind vs ≡ k ∷ ks
also-kinds k ks missing vs under e f = absurd (clash (cc))
also-kinds k ks (took us []) vs under e f = absurd (clash (cc))
also-kinds k ks (took us (v ∷ rest)) vs under e f = go (eqb (value_kind v) k) refl e
  where
    go : (c : Bool) → eqb (value_kind v) k ≡ c → cond c (took (v ∷ us) rest) missing ≡ took vs under → map value_kind vs ≡ k ∷ ks
    go true d q = let y : v ∷ us ≡ vs = cc in rw (← y) (cc (eqb-true (value_kind v) k d, f us (v ∷ rest) refl))
    go false d q = absurd (clash (cc))

pub taken-kinds : (ks : List ℕ) (ops vs under : List Value) → taken ks ops ≡ took vs under → map value_kind vs ≡ ks
taken-kinds [] ops vs under e = let y : [] ≡ vs = cc in rw (← y) refl
taken-kinds (k ∷ ks) ops vs under e = also-kinds k ks (taken ks ops) vs under e (λ us rest q. taken-kinds ks ops us rest q)

pub length-pushed : (vs ops : List Value) → length (pushed_on vs ops) ≡ length vs + length ops
length-pushed [] ops = omega arith
length-pushed (v ∷ vs) ops = omega (arith, length-pushed vs (v ∷ ops))

pub pushed-same : (us vs a b : List Value) → length us ≡ length vs → pushed_on us a ≡ pushed_on vs b → (us ≡ vs) × (a ≡ b)
pushed-same [] [] a b l e = (refl, e)
pushed-same [] (v ∷ vs) a b l e = absurd (omega arith)
pushed-same (u ∷ us) [] a b l e = absurd (omega arith)
pushed-same (u ∷ us) (v ∷ vs) a b l e = let z = pushed-same us vs (u ∷ a) (v ∷ b) (omega arith) e in (cc (z.0, z.1), cc z.1)

pub nth_outside : {A : Type 0} (l : List A) (i : ℕ) → nth l i ≡ none → length l ≤ i
nth_outside [] i e = omega arith
nth_outside (y ∷ l) zero e = absurd (clash (cc))
nth_outside (y ∷ l) (suc i) e = omega (arith, nth_outside l i e)

-- a frame's identity, its procedure, and the row that it is at
abbrev pub identity : Frame → ℕ
identity (frame id p i ops ls) = id

abbrev pub procedure : Frame → ℕ
procedure (frame id p i ops ls) = p

abbrev pub row_of : List ℕ → Frame → ℕ
row_of t (frame id p i ops ls) = instruction_row t p i

head_same : {A : Type 0} {x y : A} {xs ys : List A} → x ∷ xs ≡ y ∷ ys → x ≡ y
head_same e = cc

-- what a frame holds is what it says; a local's value is of the declared kind
pub label : {t : List ℕ} {fs : List Frame} {rs : List Cell} {n : ℕ} {f : Frame} → Typed t fs rs n f → (v : Value) → Holds f v → Labelled t fs rs n v
label (typed a b) = a

pub placed : {t : List ℕ} {fs : List Frame} {rs : List Cell} {n id p i : ℕ} {ops : List Value} {ls : List (Option Value)} → Typed t fs rs n (frame id p i ops ls) → (l : ℕ) (v : Value) → nth ls l ≡ some (some v)
    → (l < local_count (body_of t p)) × (value_kind v ≡ local_kind t (body_of t p) l)
placed (typed a b) = b

-- a frame stands at the Call of the one above it, and has a higher identity than those under it
pub stands : {t : List ℕ} {q id i : ℕ} {ops : List Value} {ls : List (Option Value)} {gs : List Frame} (above : List Frame) (f g : Frame) (rest : List Frame) → Linked t q gs → frame id q i ops ls ∷ gs ≡ above ++ (f ∷ g ∷ rest)
    → (procedure g < procedure_count t) × ((row_at t (row_of t g)).a ≡ op_call) × ((row_at t (row_of t g)).b ≡ procedure f) × (row_of t g < (body_of t (procedure g)).end)
stands [] f g rest first e = absurd (clash (cc))
stands (x ∷ []) f g rest first e = absurd (clash (cc))
stands (x ∷ y ∷ above) f g rest first e = absurd (clash (cc))
stands {q} {id} {i} {ops} {ls} [] f g rest (at_call {id = id'} {p} {i = i'} {ops = ops'} {ls = ls'} a b c d l) e =
    let z : frame id q i ops ls ≡ f = cc in let w : frame id' p i' ops' ls' ≡ g = cc in rw (← w, ← z) (a, c, d, b)
stands (x ∷ above) f g rest (at_call a b c d l) e = stands above f g rest l (tail-same e)

pub rises : (n : ℕ) (f : Frame) (gs : List Frame) → Rising n gs → Mem f gs → identity f < n
rises n f [] r m = absurd (Memᴰ.not-nil m)
rises n f (frame id' p' i' ops' ls' ∷ gs) r m = ⊎_elim (λ e. omega (arith, r.0, ap identity e)) (λ q. omega (arith, r.0, rises id' f gs r.1 q)) (Memᴰ.cases_cons m)

pub risen : (above : List Frame) (f : Frame) (rest : List Frame) (n : ℕ) → Rising n (above ++ (f ∷ rest)) → Rising (identity f) rest
risen [] (frame id p i ops ls) rest n r = r.1
risen (frame id' p' i' ops' ls' ∷ above) f rest n r = risen above f rest id' r.1

-- a number field of a record that exists has a number in it
number-kind : (v : Value) → value_kind v ≡ number → (x : ℕ) × (v ≡ num x)
number-kind (num x) e = (x, refl)
number-kind (obj c y) e = absurd (omega arith)
number-kind (refer w (to_local f l k)) e = absurd (omega (arith, as_large w (reference_to k), e))
number-kind (refer w (to_field c y j)) e = absurd (omega (arith, as_large w number_ref, e))
number-kind (refer w (to_record c y)) e = absurd (omega (arith, as_large w (record_ref y), e))

number-in : (vs : List Value) (j : ℕ) → nth (map value_kind vs) j ≡ some number → (x : ℕ) × (nth vs j ≡ some (num x))
number-in [] j e = absurd (clash (cc))
number-in (v ∷ vs) zero e = let z = number-kind v (cc) in (z.0, ap {B = Option Value} some z.1)
number-in (v ∷ vs) (suc j) e = number-in vs j e

pub number-there : {t : List ℕ} {fs : List Frame} {rs : List Cell} {st : List Entry} → Sound t fs rs st → (c y j : ℕ) → Exists rs c y → nth (kinds_in t y) j ≡ some number → (x : ℕ) × NumberIn rs c y j x
number-there s c y j e d = let z = number-in e.0 j (ap (λ (l : List ℕ). nth l j) (s.shaped c y e.0 e.1).1 ∙ d) in (z.0, record { fields = e.0; exists = e.1; number = z.1 })

-- what a frame holds after a push, a Call or a write to a local
in_pushed : {v : Value} (ws ops : List Value) → Mem v (pushed_on ws ops) → Mem v ws ⊎ Mem v ops
in_pushed [] ops m = inr m
in_pushed (w ∷ ws) ops m = ⊎_elim (λ q. inl (Memᴰ.tail q)) (λ q. ⊎_elim (λ e. inl (Memᴰ.head e)) (λ r. inr r) (Memᴰ.cases_cons q)) (in_pushed ws (w ∷ ops) m)

pushed-in : {v : Value} (ws ops : List Value) → Mem v ws ⊎ Mem v ops → Mem v (pushed_on ws ops)
pushed-in [] ops m = ⊎_elim (λ q. absurd (Memᴰ.not-nil q)) (λ q. q) m
pushed-in (w ∷ ws) ops m = pushed-in ws (w ∷ ops) (⊎_elim (λ q. ⊎_elim (λ e. inr (Memᴰ.head e)) (λ r. inl r) (Memᴰ.cases_cons q)) (λ q. inr (Memᴰ.tail q)) m)

none-there : (v : Value) (k l : ℕ) → nth (replicate k none) l ≡ some (some v) → ⊥
none-there v zero l e = clash (cc)
none-there v (suc k) zero e = clash (cc)
none-there v (suc k) (suc l) e = none-there v k l e

in_start : (v : Value) (vs : List Value) (k l : ℕ) → nth (start_locals vs k) l ≡ some (some v) → Mem v vs
in_start v [] k l e = absurd (none-there v k l e)
in_start v (w ∷ vs) k zero e = let q : v ≡ w = cc in Memᴰ.head q
in_start v (w ∷ vs) k (suc l) e = Memᴰ.tail (in_start v vs k l e)

pub start-at : (vs : List Value) (k j : ℕ) (v : Value) → nth vs j ≡ some v → nth (start_locals vs k) j ≡ some (some v)
start-at [] k j v e = absurd (clash (cc))
start-at (w ∷ vs) k zero v e = cc (e)
start-at (w ∷ vs) k (suc j) v e = start-at vs k j v e

-- some frame of these holds it
abbrev pub HeldBy : List Frame → Value → Type 0
HeldBy fs v = (g : Frame) × Mem g fs × Holds g v

-- the frame with this one's identity does
abbrev HeldAs : List Frame → Value → Frame → Type 0
HeldAs fs v g = (g' : Frame) × Mem g' fs × Holds g' v × (identity g' ≡ identity g)

-- what is no number a frame holds after a write to a local only if it held it before
held_put : {v : Value} (gs : List Frame) (f l z : ℕ) → num z ≢ v → (g : Frame) → Mem g (put_local gs f l (num z)) → Holds g v → HeldAs gs v g
held_put [] f l z r g m h = (g, m, h, refl)
held_put {v} (frame id p i ops ls ∷ gs) f l z r g m h = go (eqb id f) m (λ q. held_put gs f l z r g q h)
  where
    here_put : Holds (frame id p i ops (set ls l (some (num z)))) v → Holds (frame id p i ops ls) v
    here_put (operand q) = operand q
    here_put (local k e) = ⊎_elim (λ q. absurd (r (cc q.1))) (λ q. local k q) (nth-set ls l k (some (num z)) (some v) e)

    go : (b : Bool) → Mem g (cond b (frame id p i ops (set ls l (some (num z))) ∷ gs) (frame id p i ops ls ∷ put_local gs f l (num z))) → (Mem g (put_local gs f l (num z)) → HeldAs gs v g) → HeldAs (frame id p i ops ls ∷ gs) v g
    go true q ih = ⊎_elim (λ e. (frame id p i ops ls, Memᴰ.head refl, here_put (subst (λ (x : Frame). Holds x v) e h), ap identity (sym e))) (λ u. (g, Memᴰ.tail u, h, refl)) (Memᴰ.cases_cons q)
    go false q ih = ⊎_elim (λ e. (g, Memᴰ.head e, h, refl)) (λ u. let w = ih u in (w.0, Memᴰ.tail w.1, w.2, w.3)) (Memᴰ.cases_cons q)

no_number : (v : Value) (z : ℕ) → IsReference v → num z ≢ v
no_number v z r e = subst (λ (x : Value). IsReference x) (sym e) r

-- the state of a safe moment
pub safe-state : {t : List ℕ} {ix : Index} {row id p i n : ℕ} {ops : List Value} {ls : List (Option Value)} {fs : List Frame} {rs : List Cell} {st : List Entry} {o : Outcome}
    → Safe t ix (moment (state (frame id p i ops ls ∷ fs) rs st n) row o) → SafeState t ix row id p i ops ls fs rs st n
safe-state (safe s d) = s

-- what a step leaves of the frames, by its opcode
module _ {t : List ℕ} {ix : Index} {row id p i n : ℕ} {ops : List Value} {ls : List (Option Value)} {fs : List Frame} where
  pub under_same : {fs'' : List Frame} {m : ℕ} (g : Frame) (gs : List Frame) → fs'' ≡ g ∷ gs → (row_at t row).a ≢ op_write_ref → (row_at t row).a ≢ op_call → (row_at t row).a ≢ op_ret → Handed t ix row id p i ops ls fs n fs'' m → gs ≡ fs
  under_same g gs e a b c (goes_on d f) = cc (e)
  under_same g gs e a b c (writes d f) = absurd (a d)
  under_same g gs e a b c (calls d f) = absurd (b d)
  under_same g gs e a b c (returns d f h) = absurd (c d)

  pub called_as : {fs'' : List Frame} {m : ℕ} {f : Frame} {gs : List Frame} → (row_at t row).a ≡ op_call → fs'' ≡ f ∷ gs → Handed t ix row id p i ops ls fs n fs'' m → (identity f ≡ n) × (m ≡ n + 1) × (procedure f ≡ (row_at t row).b)
  called_as e d (goes_on a b) = absurd (a e)
  called_as e d (writes a b) = absurd (omega arith)
  called_as e d (calls a b) = (ap identity (head_same (sym d)), refl, ap procedure (head_same (sym d)))
  called_as e d (returns a b c) = absurd (omega arith)

  pub runs_on : {fs'' : List Frame} {m : ℕ} {f : Frame} {gs : List Frame} → fs'' ≡ f ∷ gs → (row_at t row).a ≢ op_call → (row_at t row).a ≢ op_ret → Handed t ix row id p i ops ls fs n fs'' m → (procedure f ≡ p) × (identity f ≡ id)
  runs_on e a b (goes_on c d) = (ap procedure (head_same (sym e)), ap identity (head_same (sym e)))
  runs_on e a b (writes {f = g} {l} {z} {rest} c d) = go (eqb id g) e
    where
      go : (b : Bool) {f : Frame} {gs : List Frame} → cond b (frame id p (i + 1) rest (set ls l (some (num z))) ∷ fs) (frame id p (i + 1) rest ls ∷ put_local fs g l (num z)) ≡ f ∷ gs → (procedure f ≡ p) × (identity f ≡ id)
      go true q = (ap procedure (head_same (sym q)), ap identity (head_same (sym q)))
      go false q = (ap procedure (head_same (sym q)), ap identity (head_same (sym q)))
  runs_on e a b (calls c d) = absurd (a c)
  runs_on e a b (returns c d f) = absurd (b c)

  pub call-under : {fs'' : List Frame} {m : ℕ} {f g : Frame} {gs : List Frame} → (row_at t row).a ≡ op_call → fs'' ≡ f ∷ g ∷ gs → Handed t ix row id p i ops ls fs n fs'' m → (gs ≡ fs) × (identity g ≡ id)
  call-under e d (goes_on a b) = absurd (a e)
  call-under e d (writes a b) = absurd (omega arith)
  call-under e d (calls a b) = (cc (d), ap identity (head_same (tail-same (sym d))))
  call-under e d (returns a b c) = absurd (omega arith)

  pub ret-under : {fs'' : List Frame} {m : ℕ} {f g : Frame} {gs rest : List Frame} → (row_at t row).a ≡ op_ret → fs ≡ f ∷ rest → fs'' ≡ g ∷ gs → Handed t ix row id p i ops ls fs n fs'' m → gs ≡ rest
  ret-under e c d (goes_on a b) = absurd (b e)
  ret-under e c d (writes a b) = absurd (omega arith)
  ret-under e c d (calls a b) = absurd (omega arith)
  ret-under e c d (returns a b q) = cc (c, d, q)

  pub write_under : {fs'' : List Frame} {m c y : ℕ} {g : Frame} → (row_at t row).a ≡ op_write_ref → Mem g fs'' → Holds g (obj c y) → identity g ≢ id → Handed t ix row id p i ops ls fs n fs'' m
      → (g' : Frame) × Mem g' fs × Holds g' (obj c y) × (identity g' ≡ identity g)
  write_under {g} e k h f (goes_on a b) = ⊎_elim (λ q. absurd (f (ap identity q))) (λ q. (g, q, h, refl)) (Memᴰ.cases_cons k)
  write_under {g} e k h f (writes {f = u} {l} {z} {rest} a b) =
      let w = held_put (frame id p (i + 1) rest ls ∷ fs) u l z (λ q. clash (cc (q))) g k h in
      ⊎_elim (λ q. absurd (f (sym w.3 ∙ ap identity q))) (λ q. (w.0, q, w.2, w.3)) (Memᴰ.cases_cons w.1)
  write_under e k h f (calls a b) = absurd (omega arith)
  write_under e k h f (returns a b c) = absurd (omega arith)

  -- what a Call takes is in the called frame's locals, in order; what Ret takes lies on the caller's operands
  pub called_with : {fs'' : List Frame} {m id' p' i' : ℕ} {ops' vs rest : List Value} {ls' : List (Option Value)} {gs : List Frame} → (row_at t row).a ≡ op_call → fs'' ≡ frame id' p' i' ops' ls' ∷ gs → Takes t ix p i ops vs rest
      → Handed t ix row id p i ops ls fs n fs'' m → (j : ℕ) (v : Value) → nth vs j ≡ some v → nth ls' j ≡ some (some v)
  called_with e d w (goes_on a b) j v q = absurd (a e)
  called_with e d w (writes a b) j v q = absurd (omega arith)
  called_with {vs} {ls'} e d w (calls {vs = us} a b) j v q =
      let z : us ≡ vs = cc (b, w) in
      let k : start_locals us (local_count (body_of t (row_at t row).b) - length us) ≡ ls' = cc (d) in
      rw (← k) (start-at us (local_count (body_of t (row_at t row).b) - length us) j v (rw (← z) at q))
  called_with e d w (returns a b c) j v q = absurd (omega arith)

  pub left_with : {fs'' : List Frame} {m id' p' i' : ℕ} {f : Frame} {ops' vs rest : List Value} {ls' : List (Option Value)} {gs : List Frame} → (row_at t row).a ≡ op_call → fs'' ≡ f ∷ frame id' p' i' ops' ls' ∷ gs
      → Takes t ix p i ops vs rest → Handed t ix row id p i ops ls fs n fs'' m → ops' ≡ rest
  left_with e d w (goes_on a b) = absurd (a e)
  left_with e d w (writes a b) = absurd (omega arith)
  left_with e d w (calls a b) = cc (d, b, w)
  left_with e d w (returns a b c) = absurd (omega arith)

  pub returned-to : {fs'' : List Frame} {m id' p' i' id'' p'' i'' : ℕ} {ops' ops'' vs rest : List Value} {ls' ls'' : List (Option Value)} {gs hs : List Frame} → (row_at t row).a ≡ op_ret → fs ≡ frame id' p' i' ops' ls' ∷ gs
      → fs'' ≡ frame id'' p'' i'' ops'' ls'' ∷ hs → Takes t ix p i ops vs rest → Handed t ix row id p i ops ls fs n fs'' m → (ops'' ≡ pushed_on vs ops') × (i'' ≡ i' + 1)
  returned-to e g d w (goes_on a b) = absurd (b e)
  returned-to e g d w (writes a b) = absurd (omega arith)
  returned-to e g d w (calls a b) = absurd (omega arith)
  returned-to {i'} {i''} {ops'} {vs} e g d w (returns {vs = us} {i' = j} {ops' = os} a b c) =
      let z : us ≡ vs = cc (b, w) in let k : os ≡ ops' = cc (c, g) in let u : j ≡ i' = cc (c, g) in let q : j + 1 ≡ i'' = cc (d) in (rw (← z, ← k) (cc (d)), sym q ∙ ap (λ (x : ℕ). x + 1) u)

-- where a search in records and store leads
leads-to : (id : ℕ) (o : Option Cell) {d : ℕ} {fields : List Value} → in_cell id o ≡ a_record d fields → d ≡ id
leads-to id none e = absurd (clash (cc))
leads-to id (some (gone y)) e = absurd (clash (cc))
leads-to id (some (here y vs)) e = cc

-- a reference to a field leads to no record
no_record_in : (o : Option Value) {d : ℕ} {fields : List Value} → number_in o ≡ a_record d fields → ⊥
no_record_in none e = clash (cc)
no_record_in (some (num x)) e = clash (cc)
no_record_in (some (obj c y)) e = clash (cc)
no_record_in (some (refer w r)) e = clash (cc)

no_record : (x : Target) (j : ℕ) {d : ℕ} {fields : List Value} → in_field x j ≡ a_record d fields → ⊥
no_record (a_number x) j e = clash (cc)
no_record (a_record c vs) j e = no_record_in (nth vs j) e
no_record stale j e = clash (cc)
no_record wrong j e = clash (cc)

-- the step of a row over these operands lends a writable reference: BorrowLoc, BorrowGlobal, or BorrowFld through a writable one
abbrev pub Lends : List ℕ → ℕ → List Value → Type 0
Lends t row ops = ((row_at t row).a ≡ op_borrow_loc) ⊎ (((row_at t row).a ≡ op_borrow_global) ⊎ (((row_at t row).a ≡ op_borrow_fld) × ((v : Value) × (under : List Value) × (ops ≡ v ∷ under) × (writable v ≡ true))))

-- what a reference that is made leads to, and the opcodes that make one
module _ {t : List ℕ} {row id p i : ℕ} {ops : List Value} {ls : List (Option Value)} {fs : List Frame} {rs : List Cell} {st : List Entry} where
  pub to-field : {w : Bool} {c y j d : ℕ} {v r : Value} {rest fields : List Value} → v ≡ refer w (to_field c y j) → ops ≡ r ∷ rest → target (frame id p i ops ls ∷ fs) rs r ≡ a_record d fields → Makes t row id p ops (frame id p i ops ls ∷ fs) rs st v → c ≡ d
  to-field e s z (local-made a) = absurd (clash (cc))
  to-field {r} e s z (field-made {r = q} a b w) = let x : q ≡ r = cc (b, s) in cc (e, rw x at w, z)
  to-field e s z (nested-made a b w u) = absurd (clash (cc))
  to-field e s z (entry-made a b w) = absurd (clash (cc))
  to-field {c} {y} {j} {r} e s z (frozen-made a b) = let x : r ≡ refer true (to_field c y j) = cc (e, b, s) in absurd (no_record (in_cell c (nth rs c)) j (rw x at z))

  pub to-local : {f l k : ℕ} {v : Value} → v ≡ refer true (to_local f l k) → Makes t row id p ops (frame id p i ops ls ∷ fs) rs st v → f ≡ id
  to-local e (local-made a) = cc (e)
  to-local e (field-made a b w) = absurd (clash (cc))
  to-local e (nested-made a b w u) = absurd (clash (cc))
  to-local e (entry-made a b w) = absurd (clash (cc))
  to-local e (frozen-made a b) = absurd (clash (cc))

  -- through a reference to a record, to a field of that record; through one to a local, to a field of the record in it
  pub through_record : {w u : Bool} {c y j c' y' : ℕ} {v : Value} {rest : List Value} → v ≡ refer w (to_field c y j) → ops ≡ refer u (to_record c' y') ∷ rest → Makes t row id p ops (frame id p i ops ls ∷ fs) rs st v → c ≡ c'
  through_record e s (local-made a) = absurd (clash (cc))
  through_record {u = f} {c'} {y'} e s (field-made {r = q} {c = d} a b w) = let x : q ≡ refer f (to_record c' y') = cc (b, s) in let u = leads-to c' (nth rs c') (rw x at w) in cc (e, u)
  through_record e s (nested-made a b w u) = absurd (clash (cc))
  through_record e s (entry-made a b w) = absurd (clash (cc))
  through_record e s (frozen-made a b) = absurd (clash (cc))

  pub through-local : {w u : Bool} {c y j f l k c' y' : ℕ} {v : Value} {rest : List Value} → v ≡ refer w (to_field c y j) → ops ≡ refer u (to_local f l k) ∷ rest → local_of (frame id p i ops ls ∷ fs) f l ≡ some (obj c' y')
      → Makes t row id p ops (frame id p i ops ls ∷ fs) rs st v → c ≡ c'
  through-local e s z (local-made a) = absurd (clash (cc))
  through-local {u = h} {f} {l} {k} {c'} e s z (field-made {r = q} {fields} {c = d} a b w) =
      let x : q ≡ refer h (to_local f l k) = cc (b, s) in
      let g : in_local rs (local_of (frame id p i ops ls ∷ fs) f l) ≡ a_record d fields = rw x at w in
      let u = leads-to c' (nth rs c') (sym (ap (in_local rs) z) ∙ g) in
      cc (e, u)
  through-local e s z (nested-made a b w u) = absurd (clash (cc))
  through-local e s z (entry-made a b w) = absurd (clash (cc))
  through-local e s z (frozen-made a b) = absurd (clash (cc))

  -- to the record that stands in the field
  pub to_nested : {w : Bool} {c y c' y' d : ℕ} {v r : Value} {rest fields : List Value} → v ≡ refer w (to_record c y) → (row_at t row).a ≡ op_borrow_fld → ops ≡ r ∷ rest → target (frame id p i ops ls ∷ fs) rs r ≡ a_record d fields
      → nth fields ((row_at t row).b % 8) ≡ some (obj c' y') → Makes t row id p ops (frame id p i ops ls ∷ fs) rs st v → c ≡ c'
  to_nested e g s z k (local-made b) = absurd (clash (cc))
  to_nested e g s z k (field-made b w u) = absurd (clash (cc))
  to_nested {r} {fields} e g s z k (nested-made {r = q} {fields = ws} b w u h) = let x : q ≡ r = cc (w, s) in let y : ws ≡ fields = cc (rw x at u, z) in cc (e, h, k, y)
  to_nested e g s z k (entry-made b w u) = absurd (omega (arith, b, g))
  to_nested e g s z k (frozen-made b w) = absurd (omega (arith, b, g))

  -- BorrowGlobal's is to the record under the key
  pub to_entry : {w : Bool} {c y a : ℕ} {v : Value} {rest : List Value} → v ≡ refer w (to_record c y) → (row_at t row).a ≡ op_borrow_global → ops ≡ num a ∷ rest → Makes t row id p ops (frame id p i ops ls ∷ fs) rs st v → IsEntry st y a c
  to_entry e g s (local-made b) = absurd (clash (cc))
  to_entry e g s (field-made b d w) = absurd (clash (cc))
  to_entry e g s (nested-made b d w u) = absurd (omega (arith, b, g))
  to_entry {c} {y} {a} e g s (entry-made {a = a'} {c = c'} b d w) =
      let x : a' ≡ a = cc (d, s) in let u : c' ≡ c = cc (e) in let q : (row_at t row).b ≡ y = cc (e) in
      rw (← x, ← u, ← q) (found-there st (row_at t row).b a' c' w)
  to_entry e g s (frozen-made b w) = absurd (omega (arith, b, g))

  -- Freeze's is the read-only one to what the operand leads to
  pub to_frozen : {w : Bool} {r : Ref} {v : Value} {rest : List Value} → (row_at t row).a ≡ op_freeze → ops ≡ refer w r ∷ rest → Makes t row id p ops (frame id p i ops ls ∷ fs) rs st v → v ≡ refer false r
  to_frozen g s (local-made b) = absurd (omega (arith, b, g))
  to_frozen g s (field-made b d w) = absurd (omega (arith, b, g))
  to_frozen g s (nested-made b d w u) = absurd (omega (arith, b, g))
  to_frozen g s (entry-made b d w) = absurd (omega (arith, b, g))
  to_frozen {r} g s (frozen-made {r = q} b d) = let x : q ≡ r = cc (d, s) in ap (λ (y : Ref). refer false y) x

  -- a writable one comes of a step that lends
  pub lends : {r : Ref} {v : Value} → v ≡ refer true r → Makes t row id p ops (frame id p i ops ls ∷ fs) rs st v → Lends t row ops
  lends e (local-made b) = inl b
  lends e (field-made {r = q} {under} b d w) = inr (inr (b, (q, under, d, cc (e))))
  lends e (nested-made {r = q} {under} b d w u) = inr (inr (b, (q, under, d, cc (e))))
  lends e (entry-made b d w) = inr (inl b)
  lends e (frozen-made b d) = absurd (clash (cc))

  pub borrows : {v : Value} → Makes t row id p ops (frame id p i ops ls ∷ fs) rs st v → ((row_at t row).a ≡ op_borrow_loc) ⊎ (((row_at t row).a ≡ op_borrow_fld) ⊎ (((row_at t row).a ≡ op_borrow_global) ⊎ ((row_at t row).a ≡ op_freeze)))
  borrows (local-made a) = inl a
  borrows (field-made a b w) = inr (inl a)
  borrows (nested-made a b w u) = inr (inl a)
  borrows (entry-made a b w) = inr (inr (inl a))
  borrows (frozen-made a b) = inr (inr (inr a))

-- where references come from: frame id of procedure p is at instruction i
module _ (t : List ℕ) (ix : Index) (row id p i : ℕ) (ops : List Value) (ls : List (Option Value)) (fs : List Frame) (rs : List Cell) (st : List Entry) (n : ℕ) where
  shape : {vs rest : List Value} {v : Value} → Takes t ix p i ops vs rest → Mem v vs ⊎ Mem v rest → Mem v ops
  shape {vs} {rest} {v} e m = subst (λ (l : List Value). Mem v l) (sym (taken_shape (effect_at t ix p i ops).takes ops vs rest e)) (pushed-in vs rest m)

  fewer : {j : ℕ} {rest : List Value} {v : Value} → (Mem v rest → Mem v ops) → Holds (frame id p j rest ls) v → Holds (frame id p i ops ls) v
  fewer f (operand m) = operand (f m)
  fewer f (local l e) = local l e

  run_or_under : {j : ℕ} {rest : List Value} {v : Value} → (Mem v rest → Mem v ops) → HeldBy (frame id p j rest ls ∷ fs) v → HeldBy (frame id p i ops ls ∷ fs) v
  run_or_under {v} f (g, m, h) = ⊎_elim (λ e. (frame id p i ops ls, Memᴰ.head refl, fewer f (subst (λ (x : Frame). Holds x v) e h))) (λ q. (g, Memᴰ.tail q, h)) (Memᴰ.cases_cons m)

  in_called : {vs rest : List Value} {v : Value} {m q : ℕ} (k : ℕ) → Takes t ix p i ops vs rest → Holds (frame m q 0 [] (start_locals vs k)) v → Mem v ops
  in_called k e (operand m) = absurd (Memᴰ.not-nil m)
  in_called {vs} {v} k e (local l d) = shape e (inl (in_start v vs k l d))

  in_caller : {vs : List Value} {v : Value} {id' p' i' : ℕ} {ops' : List Value} {ls' : List (Option Value)} {rest : List Frame} → Takes t ix p i ops vs [] → fs ≡ frame id' p' i' ops' ls' ∷ rest
      → Holds (frame id' p' (i' + 1) (pushed_on vs ops') ls') v → HeldBy (frame id p i ops ls ∷ fs) v
  in_caller {vs} {id'} {p'} {i'} {ops'} {ls'} e d (operand m) =
      ⊎_elim (λ q. (frame id p i ops ls, Memᴰ.head refl, operand (shape e (inl q)))) (λ q. (frame id' p' i' ops' ls', Memᴰ.tail (head_of d), operand q)) (in_pushed vs ops' m)
  in_caller {id'} {p'} {i'} {ops'} {ls'} e d (local l q) = (frame id' p' i' ops' ls', Memᴰ.tail (head_of d), local l q)

  from_before : {fs'' : List Frame} {m : ℕ} (v : Value) → IsReference v → Handed t ix row id p i ops ls fs n fs'' m → Origin t ix row id p i ops ls fs rs st fs'' → HeldBy fs'' v
      → HeldBy (frame id p i ops ls ∷ fs) v ⊎ Makes t row id p ops (frame id p i ops ls ∷ fs) rs st v
  from_before v r (goes_on a b) o (g, m, h) =
      ⊎_elim (λ e. ⊎_elim (λ q. inl (frame id p i ops ls, Memᴰ.head refl, q)) (λ q. inr q) (o refl v r (subst (λ (x : Frame). Holds x v) e h))) (λ q. inl (g, Memᴰ.tail q, h)) (Memᴰ.cases_cons m)
  from_before v r (writes {f} {l} {z} {rest} a b) o (g, m, h) =
      let w = held_put (frame id p (i + 1) rest ls ∷ fs) f l z (no_number v z r) g m h in inl (run_or_under (λ q. rw b (Memᴰ.tail (Memᴰ.tail q))) (w.0, w.1, w.2))
  from_before v r (calls {vs} a b) o (g, m, h) =
      inl (⊎_elim (λ e. (frame id p i ops ls, Memᴰ.head refl, operand (in_called (local_count (body_of t (row_at t row).b) - length vs) b (subst (λ (x : Frame). Holds x v) e h)))) (λ q. run_or_under (λ k. shape b (inr k)) (g, q, h)) (Memᴰ.cases_cons m))
  from_before v r (returns a b c) o (g, m, h) =
      inl (⊎_elim (λ e. in_caller b c (subst (λ (x : Frame). Holds x v) e h)) (λ q. (g, Memᴰ.tail (rw c (Memᴰ.tail q)), h)) (Memᴰ.cases_cons m))

  -- a reference that any frame holds after a safe step some frame held before, or the step made it
  pub held-before : {fs' : List Frame} {rs' : List Cell} {st' : List Entry} {n' : ℕ} → Safe t ix (moment (state (frame id p i ops ls ∷ fs) rs st n) row (next (state fs' rs' st' n')))
      → (v : Value) → IsReference v → (f : Frame) → Mem f fs' → Holds f v → HeldBy (frame id p i ops ls ∷ fs) v ⊎ Makes t row id p ops (frame id p i ops ls ∷ fs) rs st v
  held-before (safe s (goes u a b c d g)) v r f m h = from_before v r b c (f, m, h)

-- the events of a list of calls
module _ (t : List ℕ) (ix : Index) where
  -- a call's moments begin with its first state
  starts : {budget : ℕ} {s z : State} {o : Outcome} {es : List Event} → Moments t ix budget s es z o → (o' : Outcome) × (more : List Event) × (es ≡ moment s (row_up t ix s) o' ∷ more)
  starts {o} spent = (o, [], refl)
  starts (steps {s'} {es} e m) = (next s', es, refl)
  starts {o} (done e f h) = (o, [], refl)

  -- what stands after the end of a call is chained from what it left
  onwards : {cs : List Call} {b : Base} {l : List Event} → Chained t ix cs b l → (front : List Event) (b₁ : Base) (z : State) (r : ℕ) (o : Outcome) (b₂ : Base) (more : List Event) → l ≡ front ++ (ended b₁ z r o b₂ ∷ more)
      → (cs' : List Call) × Chained t ix cs' b₂ more
  onwards no_call [] b₁ z r o b₂ more e = absurd (clash (cc))
  onwards no_call (x ∷ front) b₁ z r o b₂ more e = absurd (clash (cc))
  onwards (one-call {cs} {b} {more = rest} {z = y} {o = w} m c) front b₁ z r o b₂ more e =
      let k = past t ix m (ended b y (row_up t ix y) w (afterwards b y w) ∷ rest) front b₁ z r o b₂ more e in
      go k.0 k.3 (λ f q. onwards c f b₁ z r o b₂ more q)
    where
      go : (f : List Event) → ended b y (row_up t ix y) w (afterwards b y w) ∷ rest ≡ f ++ (ended b₁ z r o b₂ ∷ more) → ((f : List Event) → rest ≡ f ++ (ended b₁ z r o b₂ ∷ more) → (cs' : List Call) × Chained t ix cs' b₂ more)
          → (cs' : List Call) × Chained t ix cs' b₂ more
      go [] q ih = let u : afterwards b y w ≡ b₂ = cc in let v : rest ≡ more = cc in (cs, rw (← u, ← v) c)
      go (x ∷ f) q ih = ih f (tail-same q)

  -- a moment says what the step does, or that the budget is spent, and the next one stands where the step leads
  abbrev pub Led : State → Outcome → List Event → Type 0
  Led s o more = ((o ≡ step t ix s) ⊎ (o ≡ stopped budget_spent)) × ((s' : State) → o ≡ next s' → (o' : Outcome) × (l : List Event) × (more ≡ moment s' (row_up t ix s') o' ∷ l))

  led_in : {budget : ℕ} {s₀ z : State} {o₀ : Outcome} {es : List Event} → Moments t ix budget s₀ es z o₀ → (rest front : List Event) (s : State) (r : ℕ) (o : Outcome) (more : List Event) → es ++ rest ≡ front ++ (moment s r o ∷ more)
      → Led s o more ⊎ ((f : List Event) × (rest ≡ f ++ (moment s r o ∷ more)))
  led_in spent rest [] s r o more e = let u : o ≡ stopped budget_spent = cc in inl (inr u, λ s' q. absurd (clash (cc (u, q))))
  led_in spent rest (x ∷ f) s r o more e = inr (f, tail-same e)
  led_in (steps {s = s₀} {s' = s₁} {es} d m) rest [] s r o more e =
      let a : s₀ ≡ s = cc in let b : o ≡ next s₁ = cc in let c : es ++ rest ≡ more = cc in let k = starts m in
      inl (inl (b ∙ sym d ∙ ap (step t ix) a), λ s' q. let w : s₁ ≡ s' = cc (b, q) in rw (← w) (k.0, k.1 ++ rest, sym c ∙ ap (λ (l : List Event). l ++ rest) k.2))
  led_in (steps d m) rest (x ∷ f) s r o more e = led_in m rest f s r o more (tail-same e)
  led_in (done {s = s₀} {o = o₁} d g h) rest [] s r o more e =
      let a : s₀ ≡ s = cc in let b : o₁ ≡ o = cc in inl (inl (sym b ∙ sym d ∙ ap (step t ix) a), λ s' q. absurd (g s' (b ∙ q)))
  led_in (done d g h) rest (x ∷ f) s r o more e = inr (f, tail-same e)

  pub led : {cs : List Call} {b : Base} {l : List Event} → Chained t ix cs b l → (front : List Event) (s : State) (r : ℕ) (o : Outcome) (more : List Event) → l ≡ front ++ (moment s r o ∷ more) → Led s o more
  led no_call [] s r o more e = absurd (clash (cc))
  led no_call (x ∷ front) s r o more e = absurd (clash (cc))
  led (one-call {b} {more = rest} {z} {o = w} m c) front s r o more e =
      ⊎_elim (λ q. q) (λ q. go q.0 q.1 (λ f u. led c f s r o more u)) (led_in m (ended b z (row_up t ix z) w (afterwards b z w) ∷ rest) front s r o more e)
    where
      go : (f : List Event) → ended b z (row_up t ix z) w (afterwards b z w) ∷ rest ≡ f ++ (moment s r o ∷ more) → ((f : List Event) → rest ≡ f ++ (moment s r o ∷ more) → Led s o more) → Led s o more
      go [] q ih = absurd (clash (cc))
      go (x ∷ f) q ih = ih f (tail-same q)

  pub begun : {q budget : ℕ} {args : List ℕ} {cs : List Call} {b : Base} {l : List Event} → Chained t ix (call q budget args ∷ cs) b l → (s : State) (r : ℕ) (o : Outcome) (more : List Event) → l ≡ moment s r o ∷ more → s ≡ begin t ix q args b
  begun (one-call m c) s r o more e = let k = starts m in cc (k.2, e)

  begins : {cs : List Call} {b : Base} {l : List Event} → Chained t ix cs b l → (s : State) (r : ℕ) (o : Outcome) (more : List Event) → l ≡ moment s r o ∷ more → (q : ℕ) × (args : List ℕ) × (s ≡ begin t ix q args b)
  begins no_call s r o more e = absurd (clash (cc))
  begins (one-call {q} {args} m c) s r o more e = (q, args, begun (one-call m c) s r o more e)

  pub begins_after : {cs : List Call} {b : Base} (front : List Event) (b₁ : Base) (z : State) (r : ℕ) (o : Outcome) (b₂ : Base) (s : State) (r' : ℕ) (o' : Outcome) (more : List Event)
      → Chained t ix cs b (front ++ (ended b₁ z r o b₂ ∷ moment s r' o' ∷ more)) → (q : ℕ) × (args : List ℕ) × (s ≡ begin t ix q args b₂)
  begins_after front b₁ z r o b₂ s r' o' more c = begins (onwards c front b₁ z r o b₂ (moment s r' o' ∷ more) refl).1 s r' o' more refl

  pub no_more : {cs : List Call} {b : Base} {l : List Event} {e : Event} {es : List Event} → Chained t ix cs b l → cs ≡ [] → l ≡ e ∷ es → ⊥
  no_more no_call d e = clash (cc)
  no_more (one-call m c) d e = clash (cc)

  pub empty : {q budget : ℕ} {args : List ℕ} {cs : List Call} {b : Base} {l : List Event} → Chained t ix (call q budget args ∷ cs) b l → l ≡ [] → ⊥
  empty (one-call m c) e = let k = starts m in clash (cc (k.2, e))
