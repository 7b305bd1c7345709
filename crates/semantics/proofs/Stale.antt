-- A reference leads nowhere exactly where it is stale: its record was unpacked, its frame has returned, or its local is empty.
use Prim.Native.Nat.{ℕ, ◌<◌}
use mathlib.Core.Path.{◌≡◌, refl, ap, sym}
use mathlib.Core.Bool.{Bool, true, false, cond}
use mathlib.Core.List.Memᴰ
use mathlib.Core.List.{List, [], ◌∷◌}
use mathlib.Core.Logic.{◌⊎◌, inl, inr, ⊎_elim}
use mathlib.Core.Option.{Option, none, some}
use native.Mathlib.Omega.{arith}
use borrow.Author.Tests.{eqb-true, eqb-false, eq-eqb, ne_eqb}
use lib.Dec.{eqb}
use lib.ListN.{get_elem? as nth}
use Rattle.reach.specs.Reach.{Mem}
use Rattle.semantics.specs.Machine.{Ref, to_local, to_field, to_record, Value, num, obj, refer, Cell, gone, here, Frame, frame, content, local_of, Target, a_number, a_record, stale, wrong, in_cell, in_local, number_in, in_field, leads_to, target}
use Rattle.semantics.specs.Stops.{the-record, of_field, in-local, Stale, unpacked, has-returned, is-empty}
use Rattle.semantics.specs.Claim.{Rising}
use Rattle.semantics.proofs.Changes.{clash}

-- where a frame of this identity stands
abbrev Stands : List Frame → ℕ → (List (Option Value) → Type 0) → Type 0
Stands fs f Q = (p i : ℕ) × (ops : List Value) × (ls : List (Option Value)) × Mem (frame f p i ops ls) fs × Q ls

abbrev Absent : List Frame → ℕ → Type 0
Absent fs f = (p i : ℕ) (ops : List Value) (ls : List (Option Value)) → ¬ (Mem (frame f p i ops ls) fs)

-- what is found of a local: its frame is not there, or it is and this is what the local holds
abbrev Found : List Frame → ℕ → ℕ → Option Value → Type 0
Found fs f l o = (Absent fs f × (o ≡ none)) ⊎ Stands fs f (λ (ls : List (Option Value)). o ≡ content (nth ls l))

found_local : (fs : List Frame) (f l : ℕ) → Found fs f l (local_of fs f l)
found_local [] f l = inl ((λ p i ops ls m. Memᴰ.not-nil m), refl)
found_local (frame id p i ops ls ∷ fs) f l = go (eqb id f) refl (found_local fs f l)
  where
    go : (b : Bool) → eqb id f ≡ b → Found fs f l (local_of fs f l) → Found (frame id p i ops ls ∷ fs) f l (cond b (content (nth ls l)) (local_of fs f l))
    go true e ih = let same : frame f p i ops ls ≡ frame id p i ops ls = ap (λ (x : ℕ). frame x p i ops ls) (sym (eqb-true id f e)) in inr (p, i, ops, ls, Memᴰ.head same, refl)
    go false e (inl a) = inl ((λ q j os ks m. ⊎_elim (λ h. let z : id ≡ f = cc (h) in eqb-false id f e z) (λ h. a.0 q j os ks h) (Memᴰ.cases_cons m)), a.1)
    go false e (inr s) = inr (s.0, s.1, s.2, s.3, Memᴰ.tail s.4, s.5)

-- frames have identities of their own, so that any frame of this identity is the one that is found
below : (n : ℕ) (fs : List Frame) {f p i : ℕ} {ops : List Value} {ls : List (Option Value)} → Rising n fs → Mem (frame f p i ops ls) fs → f < n
below n [] r m = absurd (Memᴰ.not-nil m)
below n (frame id p i ops ls ∷ fs) {f} r m = ⊎_elim (λ h. let z : f ≡ id = cc (h) in omega (arith, z, r.0)) (λ h. omega (arith, below id fs r.1 h, r.0)) (Memᴰ.cases_cons m)

held-local : (n : ℕ) (fs : List Frame) {f p i : ℕ} {ops : List Value} {ls : List (Option Value)} (l : ℕ) → Rising n fs → Mem (frame f p i ops ls) fs → local_of fs f l ≡ content (nth ls l)
held-local n [] l r m = absurd (Memᴰ.not-nil m)
held-local n (frame id q j os ks ∷ fs) {f} {ls} l r m =
    ⊎_elim
    (λ h. let z : id ≡ f = cc (h) in let w : ls ≡ ks = cc (h) in rw (eq-eqb id f z, w) refl)
    (λ h. let o = below id fs r.1 h in rw (ne_eqb id f (λ z. omega (arith, o, z))) (held-local id fs l r.1 h))
    (Memᴰ.cases_cons m)

-- what leads nowhere is stale
content-none : (o : Option (Option Value)) → content o ≡ none → (v : Value) → ¬ (o ≡ some (some v))
content-none none e v q = clash (cc (q))
content-none (some none) e v q = clash (cc (q))
content-none (some (some w)) e v q = clash (cc (e))

content-some : (o : Option (Option Value)) (v : Value) → content o ≡ some v → o ≡ some (some v)
content-some none v e = absurd (clash (cc (e)))
content-some (some none) v e = absurd (clash (cc (e)))
content-some (some (some w)) v e = let z : w ≡ v = cc (e) in rw z refl

cell_gone : (id : ℕ) (o : Option Cell) → in_cell id o ≡ stale → (y : ℕ) × (o ≡ some (gone y))
cell_gone id none e = absurd (clash (cc (e)))
cell_gone id (some (gone y)) e = (y, refl)
cell_gone id (some (here y vs)) e = absurd (clash (cc (e)))

field-gone : (x : Target) (j : ℕ) → in_field x j ≡ stale → x ≡ stale
field-gone (a_number n) j e = absurd (clash (cc (e)))
field-gone stale j e = refl
field-gone wrong j e = absurd (clash (cc (e)))
field-gone (a_record id vs) j e = absurd (go (nth vs j) e)
  where
    go : (o : Option Value) → number_in o ≡ stale → ⊥
    go none q = clash (cc (q))
    go (some (num n)) q = clash (cc (q))
    go (some (obj id y)) q = clash (cc (q))
    go (some (refer w r)) q = clash (cc (q))

module _ (fs : List Frame) (rs : List Cell) where
  local_stale : (f l k : ℕ) (o : Option Value) → Found fs f l o → in_local rs o ≡ stale → Stale fs rs (to_local f l k)
  local_stale f l k o (inl a) e = has-returned a.0
  local_stale f l k none (inr s) e = is-empty s.4 (content-none (nth s.3 l) (sym s.5))
  local_stale f l k (some (num n)) (inr s) e = absurd (clash (cc (e)))
  local_stale f l k (some (obj id y)) (inr s) e = let g = cell_gone id (nth rs id) e in unpacked (in-local s.4 (content-some (nth s.3 l) (obj id y) (sym s.5))) g.1
  local_stale f l k (some (refer w r)) (inr s) e = absurd (clash (cc (e)))

  leads_nowhere : (r : Ref) → leads_to fs rs r ≡ stale → Stale fs rs r
  leads_nowhere (to_local f l k) e = local_stale f l k (local_of fs f l) (found_local fs f l) e
  leads_nowhere (to_field id y j) e = unpacked of_field (cell_gone id (nth rs id) (field-gone (in_cell id (nth rs id)) j e)).1
  leads_nowhere (to_record id y) e = unpacked the-record (cell_gone id (nth rs id) e).1

  pub stale_value : (v : Value) → target fs rs v ≡ stale → (w : Bool) × (r : Ref) × (v ≡ refer w r) × Stale fs rs r
  stale_value (num n) e = absurd (clash (cc (e)))
  stale_value (obj id y) e = absurd (clash (cc (e)))
  stale_value (refer w r) e = (w, r, refl, leads_nowhere r e)

  -- what is stale leads nowhere
  pub stale_leads : (n : ℕ) → Rising n fs → (r : Ref) → Stale fs rs r → leads_to fs rs r ≡ stale
  stale_leads n q (to_record id y) (unpacked the-record e) = rw e refl
  stale_leads n q (to_field id y j) (unpacked of_field e) = rw e refl
  stale_leads n q (to_local f l k) (unpacked (in-local m h) e) = rw (held-local n fs l q m, h, e) refl
  stale_leads n q (to_local f l k) (has-returned a) = ⊎_elim (λ z. rw z.1 refl) (λ s. absurd (a s.0 s.1 s.2 s.3 s.4)) (found_local fs f l)
  stale_leads n q (to_local f l k) (is-empty {ls} m h) = rw (held-local n fs l q m) (go (nth ls l) h)
    where
      go : (o : Option (Option Value)) → ((v : Value) → ¬ (o ≡ some (some v))) → in_local rs (content o) ≡ stale
      go none h = refl
      go (some none) h = refl
      go (some (some v)) h = absurd (h v refl)
