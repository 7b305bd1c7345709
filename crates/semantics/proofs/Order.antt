-- Entries in order: each once, the keys rising, and no other order is so.
use Prim.Native.Nat.{ℕ, ◌<◌, ◌≤◌}
use mathlib.Core.Path.{◌≡◌, refl, sym, subst, ◌∙◌}
use mathlib.Core.Bool.{Bool, true, false, cond, ◌&&◌}
use mathlib.Core.List.Memᴰ
use mathlib.Core.List.{List, [], ◌∷◌}
use mathlib.Core.Logic.{◌⊎◌, inl, inr, ⊎_elim}
use native.Mathlib.Omega.{arith}
use borrow.Author.Tests.{ltb-true, ltb-false, eqb-true, eqb-false, eq-eqb}
use lib.Dec.{eqb}
use Rattle.laws.specs.Sorting.{insert_by, sort_by}
use Rattle.reach.specs.Reach.{Mem}
use Rattle.semantics.specs.Machine.{Entry, entry}
use Rattle.semantics.specs.Text.{key_before, entry_before}
use Rattle.semantics.specs.Claim.{All, none_left, also}
use Rattle.semantics.specs.Told.{KeyBelow, lower-type, lower-address, Ordered, no-entry, lowest-first, Rearranged, none_at_all, same_first, first-swapped, one-after-another}
use Rattle.semantics.proofs.Changes.{key_count}
use Rattle.semantics.proofs.Handing.{all_out}

-- Each entry once
rearranged_same : (es : List Entry) → Rearranged es es
rearranged_same [] = none_at_all
rearranged_same (e ∷ es) = same_first (rearranged_same es)

insert_once : (e : Entry) (es : List Entry) → Rearranged (e ∷ es) (insert_by entry_before e es)
unfolding insert_by
insert_once e [] = rearranged_same (e ∷ [])
insert_once e (e' ∷ es) = go (entry_before e e') (insert_once e es)
  where
    go : (b : Bool) → Rearranged (e ∷ es) (insert_by entry_before e es) → Rearranged (e ∷ e' ∷ es) (cond b (e ∷ e' ∷ es) (e' ∷ insert_by entry_before e es))
    go true m = rearranged_same (e ∷ e' ∷ es)
    go false m = one-after-another first-swapped (same_first m)

pub each_once : (st : List Entry) → Rearranged st (sort_by entry_before st)
unfolding sort_by
each_once [] = none_at_all
each_once (e ∷ st) = one-after-another (same_first (each_once st)) (insert_once e (sort_by entry_before st))

-- a rearranged store has the same entries, under the same keys
pub rearranged_in : {es es' : List Entry} → Rearranged es es' → (x : Entry) → (Mem x es → Mem x es') × (Mem x es' → Mem x es)
rearranged_in none_at_all x = (λ m. m, λ m. m)
rearranged_in (same_first m) x =
    let r = rearranged_in m x in
    (λ i. ⊎_elim (λ q. Memᴰ.head q) (λ q. Memᴰ.tail (r.0 q)) (Memᴰ.cases_cons i), λ i. ⊎_elim (λ q. Memᴰ.head q) (λ q. Memᴰ.tail (r.1 q)) (Memᴰ.cases_cons i))
rearranged_in first-swapped x = (swapped, swapped)
  where
    swapped : {e e' : Entry} {es : List Entry} → Mem x (e ∷ e' ∷ es) → Mem x (e' ∷ e ∷ es)
    swapped i = ⊎_elim (λ q. Memᴰ.tail (Memᴰ.head q)) (λ r. ⊎_elim (λ q. Memᴰ.head q) (λ q. Memᴰ.tail (Memᴰ.tail q)) (Memᴰ.cases_cons r)) (Memᴰ.cases_cons i)
rearranged_in (one-after-another m m') x =
    let r = rearranged_in m x in
    let r' = rearranged_in m' x in
    (λ i. r'.0 (r.0 i), λ i. r.1 (r'.1 i))

rearranged_keys : (y a : ℕ) {es es' : List Entry} → Rearranged es es' → key_count y a es' ≡ key_count y a es
rearranged_keys y a none_at_all = refl
rearranged_keys y a (same_first {e = entry y' a' id} m) = omega (arith, rearranged_keys y a m)
rearranged_keys y a (first-swapped {e = entry y' a' id} {e' = entry y'' a'' id''}) = omega arith
rearranged_keys y a (one-after-another m m') = rearranged_keys y a m' ∙ rearranged_keys y a m

-- Keys: one below another below a third; the test; none is below itself
below_trans : {e e' e'' : Entry} → KeyBelow e e' → KeyBelow e' e'' → KeyBelow e e''
below_trans (lower-type {y = y} l) (lower-type {y' = y''} l') = lower-type {y = y} {y' = y''} (omega arith)
below_trans (lower-type l) (lower-address l') = lower-type l
below_trans (lower-address l) (lower-type l') = lower-type l'
below_trans (lower-address {a = a} l) (lower-address {a' = a''} l') = lower-address {a = a} {a' = a''} (omega arith)

below_all : {e e' : Entry} {es : List Entry} → KeyBelow e e' → All (KeyBelow e') es → All (KeyBelow e) es
below_all l none_left = none_left
below_all l (also l' a) = also (below_trans l l') (below_all l a)

abbrev type_of : Entry → ℕ
type_of (entry y a id) = y

abbrev address_of : Entry → ℕ
address_of (entry y a id) = a

one-lower : {e e' : Entry} → KeyBelow e e' → (type_of e < type_of e') ⊎ (address_of e < address_of e')
one-lower (lower-type l) = inl l
one-lower (lower-address l) = inr l

not-below : {e : Entry} → KeyBelow e e → ⊥
not-below k = ⊎_elim (λ l. omega arith) (λ l. omega arith) (one-lower k)

apart : {e e' : Entry} → e' ≡ e → KeyBelow e e' → ⊥
apart {e} q l = not-below (subst (KeyBelow e) q l)

before-below : (y a id y' a' id' : ℕ) → key_before y a y' a' ≡ true → KeyBelow (entry y a id) (entry y' a' id')
before-below y a id y' a' id' e = go (eqb y y') refl
  where
    go : (b : Bool) → eqb y y' ≡ b → KeyBelow (entry y a id) (entry y' a' id')
    go true q = rw (eqb-true y y' q) (lower-address (ltb-true a a' (rw q at e)))
    go false q = lower-type (ltb-true y y' (rw q at e))

-- keys that differ: where one does not stand before the other, the other is below it
after-below : (y a id y' a' id' : ℕ) → (y ≡ y' → a ≡ a' → ⊥) → key_before y a y' a' ≡ false → KeyBelow (entry y' a' id') (entry y a id)
after-below y a id y' a' id' apart e = go (eqb y y') refl
  where
    lower : (m n : ℕ) → (n ≡ m → ⊥) → m ≤ n → m < n
    lower m n f l = omega (arith, f)

    go : (b : Bool) → eqb y y' ≡ b → KeyBelow (entry y' a' id') (entry y a id)
    go true q = rw (eqb-true y y' q) (lower-address (lower a' a (apart (eqb-true y y' q)) (ltb-false a a' (rw q at e))))
    go false q = lower-type (lower y' y (eqb-false y y' q) (ltb-false y y' (rw q at e)))

key_apart : (y a y' a' id' : ℕ) (es : List Entry) → key_count y a (entry y' a' id' ∷ es) ≡ 0 → y ≡ y' → a ≡ a' → ⊥
key_apart y a y' a' id' es z e d = omega (arith, rw (eq-eqb y' y (sym e), eq-eqb a' a (sym d)) at z)

all_insert : (P : Entry → Type 0) (e : Entry) (es : List Entry) → P e → All P es → All P (insert_by entry_before e es)
unfolding insert_by
all_insert P e [] p a = also p none_left
all_insert P e (e' ∷ es) p (also p' a) = go (entry_before e e') (all_insert P e es p a)
  where
    go : (b : Bool) → All P (insert_by entry_before e es) → All P (cond b (e ∷ e' ∷ es) (e' ∷ insert_by entry_before e es))
    go true i = also p (also p' a)
    go false i = also p' i

insert_rises : (y a id : ℕ) (es : List Entry) → key_count y a es ≡ 0 → Ordered es → Ordered (insert_by entry_before (entry y a id) es)
unfolding insert_by
insert_rises y a id [] z r = lowest-first none_left no-entry
insert_rises y a id (entry y' a' id' ∷ es) z (lowest-first l r) = go (key_before y a y' a') refl (insert_rises y a id es (omega arith) r)
  where
    go : (b : Bool) → key_before y a y' a' ≡ b → Ordered (insert_by entry_before (entry y a id) es) → Ordered (cond b (entry y a id ∷ entry y' a' id' ∷ es) (entry y' a' id' ∷ insert_by entry_before (entry y a id) es))
    go true e i = let below = before-below y a id y' a' id' e in lowest-first (also below (below_all below l)) (lowest-first l r)
    go false e i = lowest-first (all_insert (KeyBelow (entry y' a' id')) (entry y a id) es (after-below y a id y' a' id' (key_apart y a y' a' id' es z) e) l) i

-- the entries of a store rise, if no key is there twice
pub rises : (st : List Entry) → ((y a : ℕ) → key_count y a st ≤ 1) → Ordered (sort_by entry_before st)
unfolding sort_by
rises [] k = no-entry
rises (entry y a id ∷ st) k =
    insert_rises y a id (sort_by entry_before st) (omega (arith, k y a, rearranged_keys y a (each_once st), first_counted)) (rises st (λ y' a'. omega (arith, k y' a')))
  where
    first_counted : cond {A = ℕ} (eqb y y && eqb a a) 1 0 ≡ 1
    first_counted = rw (eq-eqb y y refl, eq-eqb a a refl)

-- One order. Ordered lists with the same entries are the same
same_entries : (es es' : List Entry) → Ordered es → Ordered es' → ((x : Entry) → (Mem x es → Mem x es') × (Mem x es' → Mem x es)) → es ≡ es'
same_entries [] [] r r' s = refl
same_entries [] (e' ∷ es') r r' s = absurd (Memᴰ.not-nil ((s e').1 (Memᴰ.head refl)))
same_entries (e ∷ es) [] r r' s = absurd (Memᴰ.not-nil ((s e).0 (Memᴰ.head refl)))
same_entries (e ∷ es) (e' ∷ es') (lowest-first l r) (lowest-first l' r') s = rw (first, same_entries es es' r r' rest)
  where
    first : e ≡ e'
    first = ⊎_elim (λ q. q) (λ m. ⊎_elim (λ q. sym q) (λ m'. absurd (not-below (below_trans (all_out l e' m') (all_out l' e m)))) (Memᴰ.cases_cons ((s e').1 (Memᴰ.head refl)))) (Memᴰ.cases_cons ((s e).0 (Memᴰ.head refl)))

    rest : (x : Entry) → (Mem x es → Mem x es') × (Mem x es' → Mem x es)
    rest x = (
      λ m. ⊎_elim (λ q. let same : x ≡ e = q ∙ sym first in absurd (apart same (all_out l x m))) (λ m'. m') (Memᴰ.cases_cons ((s x).0 (Memᴰ.tail m))),
      λ m. ⊎_elim (λ q. let same : x ≡ e' = q ∙ first in absurd (apart same (all_out l' x m))) (λ m'. m') (Memᴰ.cases_cons ((s x).1 (Memᴰ.tail m))),
    )

-- of one store there is one list that rises and has each entry once
pub one-order : {st es es' : List Entry} → Rearranged st es → Ordered es → Rearranged st es' → Ordered es' → es ≡ es'
one-order {es} {es'} m r m' r' = same_entries es es' r r' λ x. (λ i. (rearranged_in m' x).0 ((rearranged_in m x).1 i), λ i. (rearranged_in m x).0 ((rearranged_in m' x).1 i))
