-- A property of what an instruction comes to, brought through the parts of which `actions` is made.
use Prim.Native.Nat.{ℕ, zero, suc, ◌+◌, ◌≤◌}
use mathlib.Core.Path.{◌≡◌, refl, ap}
use mathlib.Core.List.{List, [], ◌∷◌}
use mathlib.Core.Bool.{Bool, true, false, cond}
use mathlib.Core.Option.{Option, none, some}
use native.Mathlib.Omega.{arith}
use borrow.Author.Tests.{ltb-false}
use lib.Dec.{ltb}
use lib.ListN.{get_or}
use Rattle.semantics.specs.Machine.{Ref, to_field, to_record, Value, num, obj, refer, Cell, Entry, Frame, State, state, Outcome, next, finished, stopped, stuck, Target, a_number, a_record, stale, wrong}
use Rattle.semantics.specs.Limits.{stale_reference}
use Rattle.semantics.specs.Step.{one, two, with_number, with_record, with_reference, number_at, record_at, fields_at, with_local, is_object, fillable, nothing_under, field_reference, under_key}

-- G of the frames and their count where it goes on, E of the results and the state where the call is done, S of the number of a stop
module _ (G : List Frame → ℕ → Type 0) (E : List Value → State → Type 0) (S : ℕ → Type 0) where
  pub data OutQ : Outcome → Type 0 where
    goes : {fs : List Frame} {rs : List Cell} {st : List Entry} {n : ℕ} → G fs n → OutQ (next (state fs rs st n))
    ends : {vs : List Value} {s : State} → E vs s → OutQ (finished vs s)
    stops : {k : ℕ} → S k → OutQ (stopped k)
    sticks : OutQ stuck

  pub cond_q : (c : Bool) (x y : Outcome) → OutQ x → OutQ y → OutQ (cond c x y)
  cond_q true x y a d = a
  cond_q false x y a d = d

  -- below a limit or not
  pub limit_q : (m n : ℕ) (x y : Outcome) → OutQ x → (n ≤ m → OutQ y) → OutQ (cond (ltb m n) x y)
  limit_q m n x y a d = go (ltb m n) refl
    where
      go : (c : Bool) → ltb m n ≡ c → OutQ (cond c x y)
      go true e = a
      go false e = d (ltb-false m n e)

  pub local_q : (o : Option (Option Value)) (k : Value → Outcome) → ((v : Value) → o ≡ some (some v) → OutQ (k v)) → OutQ (with_local o k)
  local_q none k f = sticks
  local_q (some none) k f = sticks
  local_q (some (some v)) k f = f v refl

  pub one_q : (vs : List Value) (k : Value → Outcome) → ((v : Value) → vs ≡ v ∷ [] → OutQ (k v)) → OutQ (one vs k)
  one_q [] k f = sticks
  one_q (v ∷ []) k f = f v refl
  one_q (v ∷ w ∷ vs) k f = sticks

  pub two_q : (vs : List Value) (k : Value → Value → Outcome) → ((v w : Value) → vs ≡ v ∷ w ∷ [] → OutQ (k v w)) → OutQ (two vs k)
  two_q [] k f = sticks
  two_q (v ∷ vs) k f = one_q vs (k v) (λ w e. f v w (ap (λ (l : List Value). v ∷ l) e))

  pub number_q : (v : Value) (k : ℕ → Outcome) → ((n : ℕ) → v ≡ num n → OutQ (k n)) → OutQ (with_number v k)
  number_q (num n) k f = f n refl
  number_q (obj a y) k f = sticks
  number_q (refer w r) k f = sticks

  pub record_q : (v : Value) (k : ℕ → Outcome) → ((n y : ℕ) → v ≡ obj n y → OutQ (k n)) → OutQ (with_record v k)
  record_q (num n) k f = sticks
  record_q (obj a y) k f = f a y refl
  record_q (refer w r) k f = sticks

  pub reference_q : (v : Value) (k : Ref → Outcome) → ((w : Bool) (r : Ref) → v ≡ refer w r → OutQ (k r)) → OutQ (with_reference v k)
  reference_q (num n) k f = sticks
  reference_q (obj a y) k f = sticks
  reference_q (refer w r) k f = f w r refl

  pub number_at_q : (x : Target) (k : ℕ → Outcome) → (x ≡ stale → S stale_reference) → ((n : ℕ) → OutQ (k n)) → OutQ (number_at x k)
  number_at_q (a_number n) k c f = f n
  number_at_q (a_record a vs) k c f = sticks
  number_at_q stale k c f = stops (c refl)
  number_at_q wrong k c f = sticks

  pub record_at_q : (x : Target) (k : ℕ → List Value → Outcome) → (x ≡ stale → S stale_reference) → ((a : ℕ) (vs : List Value) → x ≡ a_record a vs → OutQ (k a vs)) → OutQ (record_at x k)
  record_at_q (a_number n) k c f = sticks
  record_at_q (a_record a vs) k c f = f a vs refl
  record_at_q stale k c f = stops (c refl)
  record_at_q wrong k c f = sticks

  pub fields_at_q : (x : Target) (k : List Value → Outcome) → ((a : ℕ) (vs : List Value) → x ≡ a_record a vs → OutQ (k vs)) → OutQ (fields_at x k)
  fields_at_q (a_number n) k f = sticks
  fields_at_q (a_record a vs) k f = f a vs refl
  fields_at_q stale k f = sticks
  fields_at_q wrong k f = sticks

  pub fillable_q : (o : Option (Option Value)) (x : Outcome) → OutQ x → OutQ (fillable o x)
  fillable_q none x a = sticks
  fillable_q (some none) x a = a
  fillable_q (some (some v)) x a = cond_q (is_object v) stuck x sticks a

  pub field_q : (a y j : ℕ) (w : Option Value) (k : Ref → Outcome) → OutQ (k (to_field a y j)) → ((c d : ℕ) → w ≡ some (obj c d) → OutQ (k (to_record c d))) → OutQ (field_reference a y j w k)
  field_q a y j none k f g = sticks
  field_q a y j (some (num n)) k f g = f
  field_q a y j (some (obj c d)) k f g = g c d refl
  field_q a y j (some (refer w r)) k f g = sticks

  pub key_q : (o : Option ℕ) (x : Outcome) (k : ℕ → Outcome) → (o ≡ none → OutQ x) → ((r : ℕ) → o ≡ some r → OutQ (k r)) → OutQ (under_key o x k)
  key_q none x k a f = a refl
  key_q (some r) x k a f = f r refl

  pub under_q : (ops : List Value) (x : Outcome) → (ops ≡ [] → OutQ x) → OutQ (nothing_under ops x)
  under_q [] x a = a refl
  under_q (v ∷ ops) x a = sticks

  -- by opcode
  abbrev pub Each : ℕ → ℕ → List Outcome → Type 0
  Each op k [] = Unit {0}
  Each op k (x ∷ l) = (op ≡ k → OutQ x) × Each op (suc k) l

  pub pick : (op k : ℕ) (l : List Outcome) → Each op k l → (i : ℕ) → op ≡ k + i → OutQ (get_or l i stuck)
  pick op k [] a i e = sticks
  pick op k (x ∷ l) a zero e = a.0 (omega arith)
  pick op k (x ∷ l) a (suc i) e = pick op (suc k) l a.1 i (omega arith)
