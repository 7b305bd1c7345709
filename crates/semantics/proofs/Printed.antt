-- How long the text of values is: each record that is printed is held once, so that eating the records one by one as they are printed bounds it.
use Prim.Native.Nat.{ℕ, zero, suc, ◌+◌, ◌*◌, ◌/◌, ◌%◌, ◌≤◌}
use mathlib.Core.Path.{◌≡◌, refl}
use mathlib.Core.Bool.{Bool, true, false, cond}
use mathlib.Core.List.{List, [], ◌∷◌, ◌++◌}
use mathlib.Core.Option.{some}
use native.Mathlib.Omega.{arith}
use lib.Dec.{ltb}
use lib.ListN.{length, set, length-append, get_elem? as nth}
use Rattle.semantics.specs.Machine.{Value, num, obj, refer, Cell, gone, here, live_count}
use Rattle.semantics.specs.Ascii.{ascii}
use Rattle.semantics.specs.Text.{digits, decimal, spaced, values, fields_text}
use Rattle.semantics.specs.Ownership.{in_values, in_records, lives_at}
use Rattle.semantics.proofs.Counts.{heap_set, alive_set, same-one}
use Rattle.semantics.proofs.Changes.{clash, live_put}
use Rattle.semantics.proofs.Owning.{in_cells}

-- a decimal has at most as many digits as there may be
digits-few : (k n : ℕ) (after : List ℕ) → length (digits k n after) ≤ k + length after
unfolding digits
digits-few zero n after = omega arith
digits-few (suc k) n after = go (ltb n 10) (digits-few k (n / 10) ((48 + n % 10) ∷ after))
  where
    go : (b : Bool) → length (digits k (n / 10) ((48 + n % 10) ∷ after)) ≤ k + suc (length after)
        → length (cond b ((48 + n) ∷ after) (digits k (n / 10) ((48 + n % 10) ∷ after))) ≤ suc k + length after
    go true l = omega arith
    go false l = omega arith

-- in the text, 20
pub decimal-few : (n : ℕ) → length (decimal n) ≤ 20
unfolding decimal
decimal-few n = digits-few 20 n []

-- with its space, 21 bytes
spaced-few : (n : ℕ) → length (spaced (decimal n)) ≤ 21
unfolding ascii
spaced-few n = omega (arith, decimal-few n)

-- the text of a number, and of what is after it
pub number_text : (f : ℕ → List ℕ) (n : ℕ) (vs : List Value) → length (values f (num n ∷ vs)) ≤ 21 + length (values f vs)
number_text f n vs = omega (arith, spaced-few n, length-append (spaced (decimal n)) (values f vs))

-- the text of a record: a space, a bracket, its type, its fields, a bracket
pub record_text : (f : ℕ → List ℕ) (id y : ℕ) (vs : List Value) → length (values f (obj id y ∷ vs)) ≡ 3 + length (decimal y) + length (f id) + length (values f vs)
unfolding ascii
record_text f id y vs = simp length-append (omega arith)

-- what is printed of nested records that are not held here does not matter
same-values : (f g : ℕ → List ℕ) (vs : List Value) → ((id : ℕ) → 1 ≤ in_values id vs → f id ≡ g id) → values f vs ≡ values g vs
same-values f g [] e = refl
same-values f g (num n ∷ vs) e = rw (same-values f g vs (λ id l. e id (omega arith)))
same-values f g (obj a y ∷ vs) e = rw (e a (omega (arith, same-one a)), same-values f g vs (λ id l. e id (omega arith)))
same-values f g (refer w x ∷ vs) e = same-values f g vs (λ id l. e id (omega arith))

-- the records of one heap are records of another, with the same fields
Sub : List Cell → List Cell → Type 0
Sub h' h = (i y : ℕ) (vs : List Value) → nth h' i ≡ some (here y vs) → nth h i ≡ some (here y vs)

-- a record that lives is there
alive_here : (h : List Cell) (i : ℕ) → 1 ≤ lives_at h i → (y : ℕ) × (vs : List Value) × (nth h i ≡ some (here y vs))
alive_here [] i l = absurd (omega arith)
alive_here (gone y ∷ h) zero l = absurd (omega arith)
alive_here (here y vs ∷ h) zero l = (y, vs, refl)
alive_here (c ∷ h) (suc i) l = alive_here h i l

-- a heap with a record eaten has no other records than before
set_sub : (h : List Cell) (a u : ℕ) → Sub (set h a (gone u)) h
unfolding Sub
set_sub [] a u i y vs e = e
set_sub (c ∷ h) zero u zero y vs e = absurd (clash (cc))
set_sub (c ∷ h) zero u (suc i) y vs e = e
set_sub (c ∷ h) (suc a) u zero y vs e = e
set_sub (c ∷ h) (suc a) u (suc i) y vs e = set_sub h a u i y vs e

-- records that are not met may be gone: the text is the same, to any depth
same_text : (k : ℕ) (h h' : List Cell) (vs : List Value) → Sub h' h → ((r : ℕ) → in_records r h' ≤ lives_at h' r) → ((r : ℕ) → in_values r vs ≤ lives_at h' r)
    → values (fields_text k h) vs ≡ values (fields_text k h') vs
unfolding Sub fields_text
same_text zero h h' vs s c o = refl
same_text (suc k) h h' vs s c o = same-values (fields_text (suc k) h) (fields_text (suc k) h') vs (λ id l. let w = alive_here h' id (omega (arith, o id)) in
    rw (w.2, s id w.0 w.1 w.2) (same_text k h h' w.1 s c (λ r. omega (arith, in_cells r id w.0 h' w.1 w.2, c r))))

-- and as long
same_size : (k : ℕ) (h h' : List Cell) (vs : List Value) → Sub h' h → ((r : ℕ) → in_records r h' ≤ lives_at h' r) → ((r : ℕ) → in_values r vs ≤ lives_at h' r)
    → length (values (fields_text k h) vs) ≡ length (values (fields_text k h') vs)
same_size k h h' vs s c o = rw (same_text k h h' vs s c o) refl

-- at most 8 fields a record
Small : List Cell → Type 0
Small h = (i y : ℕ) (vs : List Value) → nth h i ≡ some (here y vs) → length vs ≤ 8

-- The text of the values vs, to a depth, with what they hold eaten from the heap: what is left still holds what it has and the values ws, and the
-- text has at most 23 bytes for each value and 8 · 23 for each record that was eaten
record Eaten (k : ℕ) (h : List Cell) (vs ws : List Value) : Type 0 where
  left : List Cell
  sub : Sub left h
  owned : (r : ℕ) → in_values r ws + in_records r left ≤ lives_at left r
  bound : length (values (fields_text k h) vs) + 184 * live_count left ≤ 23 * length vs + 184 * live_count h

-- any values can be eaten whose records are held once, among other values and a heap
Eat : ℕ → Type 0
Eat k = (h : List Cell) (vs ws : List Value) → Small h → ((r : ℕ) → in_values r vs + in_values r ws + in_records r h ≤ lives_at h r) → Eaten k h vs ws

-- what two lists of values hold
held_append : (r : ℕ) (vs ws : List Value) → in_values r (vs ++ ws) ≡ in_values r vs + in_values r ws
held_append r [] ws = omega arith
held_append r (v ∷ vs) ws = omega (arith, held_append r vs ws)

-- at depth 0 nothing nested is printed
shallow : (h : List Cell) (vs : List Value) → length (values (fields_text 0 h) vs) ≤ 23 * length vs
unfolding fields_text
shallow h [] = omega arith
shallow h (num n ∷ vs) = omega (arith, number_text (fields_text 0 h) n vs, shallow h vs)
shallow h (obj a y ∷ vs) = omega (arith, record_text (fields_text 0 h) a y vs, decimal-few y, shallow h vs)
shallow h (refer w x ∷ vs) = omega (arith, shallow h vs)

-- one level deeper: a record is eaten, then its fields, then the other values
eat_more : (k : ℕ) → Eat k → Eat (suc k)
unfolding Sub Small Eat fields_text
eat_more k ih h [] ws sm o = record { left = h; sub = λ i y vs e. e; owned = λ r. omega (arith, o r); bound = omega arith }
eat_more k ih h (num n ∷ vs) ws sm o =
    let e = eat_more k ih h vs ws sm (λ r. omega (arith, o r)) in
    record { left = e.left; sub = e.sub; owned = e.owned; bound = omega (arith, e.bound, number_text (fields_text (suc k) h) n vs) }
eat_more k ih h (refer w x ∷ vs) ws sm o =
    let e = eat_more k ih h vs ws sm (λ r. omega (arith, o r)) in
    record { left = e.left; sub = e.sub; owned = e.owned; bound = omega (arith, e.bound) }
eat_more k ih h (obj a y ∷ vs) ws sm o =
    let w = alive_here h a (omega (arith, o a, same-one a)) in
    let h₁ : List Cell = set h a (gone w.0) in
    let s₁ : Sub h₁ h = set_sub h a w.0 in
    let o₁ : (r : ℕ) → in_values r w.1 + in_values r (vs ++ ws) + in_records r h₁ ≤ lives_at h₁ r
    = λ r. omega (arith, o r, held_append r vs ws, heap_set r h a (gone w.0) (here w.0 w.1) w.2, alive_set r h a w.0 w.1 w.2) in
    let e₁ = ih h₁ w.1 (vs ++ ws) (λ i u us q. sm i u us (s₁ i u us q)) o₁ in
    let h₂ = e₁.left in
    let o₂ : (r : ℕ) → in_values r vs + in_values r ws + in_records r h₂ ≤ lives_at h₂ r = λ r. omega (arith, e₁.owned r, held_append r vs ws) in
    let s₂ : Sub h₂ h = λ i u us q. s₁ i u us (e₁.sub i u us q) in
    let e₂ = eat_more k ih h₂ vs ws (λ i u us q. sm i u us (s₂ i u us q)) o₂ in
    let x₁ = same_size k h h₁ w.1 s₁ (λ r. omega (arith, o₁ r)) (λ r. omega (arith, o₁ r)) in
    let x₂ = same_size (suc k) h h₂ vs s₂ (λ r. omega (arith, o₂ r)) (λ r. omega (arith, o₂ r)) in
    let z : length (fields_text (suc k) h a) ≡ length (values (fields_text k h) w.1) = rw w.2 refl in
    record {
      left = e₂.left;
      sub = λ i u us q. s₂ i u us (e₂.sub i u us q);
      owned = e₂.owned;
      bound = omega (arith, x₁, x₂, z, e₁.bound, e₂.bound, record_text (fields_text (suc k) h) a y vs, decimal-few y, live_put h a (gone w.0) (here w.0 w.1) w.2, sm a w.0 w.1 w.2);
    }

-- to any depth
eat : (k : ℕ) → Eat k
unfolding Eat Small Sub
eat zero h vs ws sm o = record { left = h; sub = λ i y us e. e; owned = λ r. omega (arith, o r); bound = omega (arith, shallow h vs) }
eat (suc k) h vs ws sm o = eat_more k (eat k) h vs ws sm o

-- the text of values that hold records at most once: 23 bytes for each value and for each field of a live record
pub text_bound : (k : ℕ) (h : List Cell) (vs : List Value) → ((i y : ℕ) (us : List Value) → nth h i ≡ some (here y us) → length us ≤ 8)
    → ((r : ℕ) → in_values r vs + in_records r h ≤ lives_at h r) → length (values (fields_text k h) vs) ≤ 23 * length vs + 184 * live_count h
unfolding Small Eat
text_bound k h vs sm o = omega (arith, (eat k h vs [] sm (λ r. omega (arith, o r))).bound)
