-- Counts of who holds a record, which add up.
use Prim.Native.Nat.{ℕ, zero, suc, ◌+◌}
use mathlib.Core.Path.{◌≡◌, refl, ap, sym}
use mathlib.Core.List.{List, [], ◌∷◌, ◌++◌}
use mathlib.Core.Bool.{Bool, true, false, cond, ◌&&◌}
use mathlib.Core.Option.{Option, some}
use native.Mathlib.Omega.{arith}
use native.Mathlib.Nat.{add-zero}
use lib.ListN.{length, set, get_elem? as nth}
use lib.Dec.{eqb}
use Rattle.semantics.specs.Machine.{Value, Cell, gone, here, Entry, entry, find_key, drop_key, put_field}
use Rattle.semantics.specs.Step.{pushed_on, start_locals}
use Rattle.semantics.specs.Ownership.{same, in_value, in_values, in_slot, in_locals, in_fields, in_records, in_store, lives_at}

pub held_rev : (i : ℕ) (vs ops : List Value) → in_values i (pushed_on vs ops) ≡ in_values i vs + in_values i ops
held_rev i [] ops = omega arith
held_rev i (v ∷ vs) ops = omega (arith, held_rev i vs (v ∷ ops))

pub held-set : (i : ℕ) (ls : List (Option Value)) (j : ℕ) (o x : Option Value) → nth ls j ≡ some x → in_locals i (set ls j o) + in_slot i x ≡ in_locals i ls + in_slot i o
held-set i [] j o x e = cc
held-set i (y ∷ ls) zero o x e = let z : y ≡ x = cc in rw z (omega arith)
held-set i (y ∷ ls) (suc j) o x e = omega (arith, held-set i ls j o x e)

pub heap_set : (i : ℕ) (h : List Cell) (j : ℕ) (c x : Cell) → nth h j ≡ some x → in_records i (set h j c) + in_fields i x ≡ in_records i h + in_fields i c
heap_set i [] j c x e = cc
heap_set i (y ∷ h) zero c x e = let z : y ≡ x = cc in rw z (omega arith)
heap_set i (y ∷ h) (suc j) c x e = omega (arith, heap_set i h j c x e)

pub heap_snoc : (i : ℕ) (h : List Cell) (c : Cell) → in_records i (h ++ (c ∷ [])) ≡ in_records i h + in_fields i c
heap_snoc i [] c = omega arith
heap_snoc i (y ∷ h) c = omega (arith, heap_snoc i h c)

pub held_start : (i : ℕ) (vs : List Value) (n : ℕ) → in_locals i (start_locals vs n) ≡ in_values i vs
held_start i [] zero = refl
held_start i [] (suc n) = omega (arith, held_start i [] n)
held_start i (v ∷ vs) n = omega (arith, held_start i vs n)

pub alive_set : (i : ℕ) (h : List Cell) (j t : ℕ) (vs : List Value) → nth h j ≡ some (here t vs) → lives_at (set h j (gone t)) i + same i j ≡ lives_at h i
alive_set i [] j t vs e = cc
alive_set zero (y ∷ h) zero t vs e = let z : y ≡ here t vs = cc in rw z refl
alive_set (suc i) (y ∷ h) zero t vs e = add-zero _
alive_set zero (y ∷ h) (suc j) t vs e = add-zero _
alive_set (suc i) (y ∷ h) (suc j) t vs e = alive_set i h j t vs e

pub alive_snoc : (i : ℕ) (h : List Cell) (t : ℕ) (vs : List Value) → lives_at (h ++ (here t vs ∷ [])) i ≡ lives_at h i + same i (length h)
alive_snoc zero [] t vs = refl
alive_snoc (suc i) [] t vs = refl
alive_snoc zero (y ∷ h) t vs = sym (add-zero _)
alive_snoc (suc i) (y ∷ h) t vs = alive_snoc i h t vs

pub alive_put : (i : ℕ) (h : List Cell) (j t : ℕ) (vs ws : List Value) → nth h j ≡ some (here t vs) → lives_at (set h j (here t ws)) i ≡ lives_at h i
alive_put i [] j t vs ws e = cc
alive_put zero (y ∷ h) zero t vs ws e = let z : y ≡ here t vs = cc in rw z refl
alive_put (suc i) (y ∷ h) zero t vs ws e = refl
alive_put zero (y ∷ h) (suc j) t vs ws e = refl
alive_put (suc i) (y ∷ h) (suc j) t vs ws e = alive_put i h j t vs ws e

pub vals_set : (i : ℕ) (vs : List Value) (j : ℕ) (v x : Value) → nth vs j ≡ some x → in_values i (set vs j v) + in_value i x ≡ in_values i vs + in_value i v
vals_set i [] j v x e = cc
vals_set i (y ∷ vs) zero v x e = let z : y ≡ x = cc in rw z (omega arith)
vals_set i (y ∷ vs) (suc j) v x e = omega (arith, vals_set i vs j v x e)

pub same-one : (i : ℕ) → same i i ≡ 1
same-one zero = refl
same-one (suc i) = same-one i

pub alive_gone : (i : ℕ) (h : List Cell) (t : ℕ) → nth h i ≡ some (gone t) → lives_at h i ≡ 0
alive_gone i [] t e = cc
alive_gone zero (y ∷ h) t e = let z : y ≡ gone t = cc in rw z refl
alive_gone (suc i) (y ∷ h) t e = alive_gone i h t e

find_drop_go : (b : Bool) (i t a r : ℕ) (t' a' j : ℕ) (st : List Entry) → cond b (some j) (find_key st t a) ≡ some r → (find_key st t a ≡ some r → in_store i (drop_key st t a) + same i r ≡ in_store i st)
    → in_store i (cond b st (entry t' a' j ∷ drop_key st t a)) + same i r ≡ same i j + in_store i st
find_drop_go true i t a r t' a' j st e ih = let z : j ≡ r = cc in rw z (omega arith)
find_drop_go false i t a r t' a' j st e ih = omega (arith, ih e)

pub find-drop : (i : ℕ) (st : List Entry) (t a r : ℕ) → find_key st t a ≡ some r → in_store i (drop_key st t a) + same i r ≡ in_store i st
find-drop i [] t a r e = cc
find-drop i (entry t' a' j ∷ st) t a r e = find_drop_go (eqb t' t && eqb a' a) i t a r t' a' j st e (find-drop i st t a r)

-- a field that is put into a record that lives
pub put-set : (rs : List Cell) (id j y : ℕ) (vs : List Value) (v : Value) → nth rs id ≡ some (here y vs) → put_field rs id j v ≡ set rs id (here y (set vs j v))
put-set [] id j y vs v e = refl
put-set (gone z ∷ rs) zero j y vs v e = cc
put-set (here z ws ∷ rs) zero j y vs v e = cc
put-set (c ∷ rs) (suc id) j y vs v e = ap (λ (l : List Cell). c ∷ l) (put-set rs id j y vs v e)
