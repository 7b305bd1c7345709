-- What a change of records and store means for guarded numbers, records and entries.
use Prim.Native.Nat.{ℕ, zero, suc, ◌<◌, ◌≤◌}
use mathlib.Core.Path.{◌≡◌, refl, ap, sym, ◌∙◌}
use mathlib.Core.List.Memᴰ
use mathlib.Core.List.{List, [], ◌∷◌, ◌++◌}
use mathlib.Core.Bool.{Bool, true, false, cond, ◌&&◌}
use mathlib.Core.Option.{Option, none, some}
use mathlib.Core.Logic.{◌⊎◌, inl, inr, ⊎_elim, ◌≢◌}
use native.Mathlib.Omega.{arith}
use lib.ListN.{length, set, get_elem? as nth}
use lib.Dec.{eqb}
use borrow.Author.Tests.{eqb-true, eq-eqb}
use Rattle.table.specs.Format.{op_write_ref, op_pack, op_unpack, op_move_to, op_move_from}
use Rattle.reach.specs.Reach.{Mem}
use Rattle.semantics.specs.Machine.{to_field, Value, num, obj, refer, Cell, gone, here, Entry, entry, find_key, drop_key}
use Rattle.semantics.specs.Step.{pushed_on}
use Rattle.semantics.specs.Words.{Exists, NumberIn, IsEntry}
use Rattle.semantics.specs.Stops.{NoEntry}
use Rattle.semantics.proofs.Changes.{clash, key_count, free, Change, same, wrote, packed, unpacked, published, withdrew}

module _ {A : Type 0} where
  pub nth-set : (h : List A) (a id : ℕ) (c d : A) → nth (set h a c) id ≡ some d → ((id ≡ a) × (c ≡ d)) ⊎ (nth h id ≡ some d)
  nth-set [] a id c d e = inr e
  nth-set (x ∷ h) zero zero c d e = inl (refl, cc)
  nth-set (x ∷ h) zero (suc id) c d e = inr e
  nth-set (x ∷ h) (suc a) zero c d e = inr e
  nth-set (x ∷ h) (suc a) (suc id) c d e = ⊎_elim (λ q. inl (ap suc q.0, q.1)) (λ q. inr q) (nth-set h a id c d e)

  pub nth_back : (h : List A) (a id : ℕ) (c d : A) → nth h id ≡ some d → ((id ≡ a) × (nth (set h a c) id ≡ some c)) ⊎ (nth (set h a c) id ≡ some d)
  nth_back [] a id c d e = inr e
  nth_back (x ∷ h) zero zero c d e = inl (refl, refl)
  nth_back (x ∷ h) zero (suc id) c d e = inr e
  nth_back (x ∷ h) (suc a) zero c d e = inr e
  nth_back (x ∷ h) (suc a) (suc id) c d e = ⊎_elim (λ q. inl (ap suc q.0, q.1)) (λ q. inr q) (nth_back h a id c d e)

  pub nth_put : (h : List A) (a : ℕ) (c d : A) → nth (set h a c) a ≡ some d → c ≡ d
  nth_put [] a c d e = absurd (clash (cc))
  nth_put (x ∷ h) zero c d e = cc
  nth_put (x ∷ h) (suc a) c d e = nth_put h a c d e

  pub nth_app : (h l : List A) (id : ℕ) (d : A) → nth h id ≡ some d → nth (h ++ l) id ≡ some d
  nth_app [] l id d e = absurd (clash (cc))
  nth_app (x ∷ h) l zero d e = e
  nth_app (x ∷ h) l (suc id) d e = nth_app h l id d e

  pub nth_inside : (h : List A) (id : ℕ) (d : A) → nth h id ≡ some d → id < length h
  nth_inside [] id d e = absurd (clash (cc))
  nth_inside (x ∷ h) zero d e = omega arith
  nth_inside (x ∷ h) (suc id) d e = omega (arith, nth_inside h id d e)

  pub nth_snoc : (h : List A) (c : A) (id : ℕ) (d : A) → nth (h ++ (c ∷ [])) id ≡ some d → (nth h id ≡ some d) ⊎ (c ≡ d)
  nth_snoc [] c zero d e = inr (cc)
  nth_snoc [] c (suc id) d e = absurd (clash (cc))
  nth_snoc (x ∷ h) c zero d e = inl e
  nth_snoc (x ∷ h) c (suc id) d e = nth_snoc h c id d e

  pub nth_last : (h : List A) (c : A) (id : ℕ) (d : A) → nth (h ++ (c ∷ [])) id ≡ some d → (nth h id ≡ some d) ⊎ ((id ≡ length h) × (c ≡ d))
  nth_last [] c zero d e = inr (refl, cc)
  nth_last [] c (suc id) d e = absurd (clash (cc))
  nth_last (x ∷ h) c zero d e = inl e
  nth_last (x ∷ h) c (suc id) d e = ⊎_elim (λ q. inl q) (λ q. inr (ap suc q.0, q.1)) (nth_last h c id d e)

  pub nth-new : (h : List A) (c : A) (id : ℕ) (d : A) → nth (h ++ (c ∷ [])) id ≡ some d → (nth h id ≡ some d) ⊎ (length h ≤ id)
  nth-new [] c id d e = inr (omega arith)
  nth-new (x ∷ h) c zero d e = inl e
  nth-new (x ∷ h) c (suc id) d e = ⊎_elim (λ q. inl q) (λ q. inr (omega (arith, q))) (nth-new h c id d e)

  pub head_of : {l r : List A} {v : A} → l ≡ v ∷ r → Mem v l
  head_of {r} {v} e = rw e (Memᴰ.head refl)

uniq : (h : List Cell) (id t j x y : ℕ) → NumberIn h id t j x → NumberIn h id t j y → x ≡ y
uniq h id t j x y a b = let z : a.fields ≡ b.fields = cc (a.exists, b.exists) in cc (z, a.number, b.number)

drop_in_go : (b : Bool) (e x : Entry) (st l : List Entry) → Mem e (cond b st (x ∷ l)) → (Mem e l → Mem e st) → Mem e (x ∷ st)
drop_in_go true e x st l m ih = Memᴰ.tail m
drop_in_go false e x st l m ih = ⊎_elim (λ q. Memᴰ.head q) (λ q. Memᴰ.tail (ih q)) (Memᴰ.cases_cons m)

drop_in : (e : Entry) (st : List Entry) (t a : ℕ) → Mem e (drop_key st t a) → Mem e st
drop_in e [] t a m = m
drop_in e (entry t' a' id ∷ st) t a m = drop_in_go (eqb t' t && eqb a' a) e (entry t' a' id) st (drop_key st t a) m (drop_in e st t a)

drop_out_go : (b c : Bool) (t a r t' a' t'' a'' id : ℕ) (st l : List Entry) → eqb t'' t' ≡ b → eqb a'' a' ≡ c → Mem (entry t a r) (entry t'' a'' id ∷ st) → (Mem (entry t a r) st → ((t ≡ t') × (a ≡ a')) ⊎ Mem (entry t a r) l)
    → ((t ≡ t') × (a ≡ a')) ⊎ Mem (entry t a r) (cond (b && c) st (entry t'' a'' id ∷ l))
drop_out_go true true t a r t' a' t'' a'' id st l e d m ih = ⊎_elim (λ q. let y : t'' ≡ t' = eqb-true t'' t' e in let z : a'' ≡ a' = eqb-true a'' a' d in inl (cc (q, y), cc (q, z))) (λ q. inr q) (Memᴰ.cases_cons m)
drop_out_go true false t a r t' a' t'' a'' id st l e d m ih = ⊎_elim (λ q. inr (Memᴰ.head q)) (λ q. ⊎_elim (λ y. inl y) (λ y. inr (Memᴰ.tail y)) (ih q)) (Memᴰ.cases_cons m)
drop_out_go false true t a r t' a' t'' a'' id st l e d m ih = ⊎_elim (λ q. inr (Memᴰ.head q)) (λ q. ⊎_elim (λ y. inl y) (λ y. inr (Memᴰ.tail y)) (ih q)) (Memᴰ.cases_cons m)
drop_out_go false false t a r t' a' t'' a'' id st l e d m ih = ⊎_elim (λ q. inr (Memᴰ.head q)) (λ q. ⊎_elim (λ y. inl y) (λ y. inr (Memᴰ.tail y)) (ih q)) (Memᴰ.cases_cons m)

drop_out : (t a r : ℕ) (st : List Entry) (t' a' : ℕ) → Mem (entry t a r) st → ((t ≡ t') × (a ≡ a')) ⊎ Mem (entry t a r) (drop_key st t' a')
drop_out t a r [] t' a' m = inr m
drop_out t a r (entry t'' a'' id ∷ st) t' a' m = drop_out_go (eqb t'' t') (eqb a'' a') t a r t' a' t'' a'' id st (drop_key st t' a') refl refl m (drop_out t a r st t' a')

-- one record under a key, where the key is counted once
key_here : (y a c y' a' c' : ℕ) → entry y a c ≡ entry y' a' c' → ◌≡◌ {A = ℕ} (cond (eqb y' y && eqb a' a) 1 0) 1
key_here y a c y' a' c' e = let u : y' ≡ y = cc in let w : a' ≡ a = cc in rw (eq-eqb y' y u, eq-eqb a' a w)

key_counted : (y a c : ℕ) (st : List Entry) → Mem (entry y a c) st → 1 ≤ key_count y a st
key_counted y a c [] m = absurd (Memᴰ.not-nil m)
key_counted y a c (entry y' a' c' ∷ st) m = ⊎_elim (λ e. omega (arith, key_here y a c y' a' c' e)) (λ r. omega (arith, key_counted y a c st r)) (Memᴰ.cases_cons m)

pub key_once : (y a c c' : ℕ) (st : List Entry) → key_count y a st ≤ 1 → Mem (entry y a c) st → Mem (entry y a c') st → c ≡ c'
key_once y a c c' [] l m n = absurd (Memᴰ.not-nil m)
key_once y a c c' (entry y' a' id ∷ st) l m n =
    ⊎_elim
    (λ e. ⊎_elim (λ d. cc (e, d)) (λ r. absurd (omega (arith, key_here y a c y' a' id e, key_counted y a c' st r, l))) (Memᴰ.cases_cons n))
    (λ q. ⊎_elim (λ d. absurd (omega (arith, key_here y a c' y' a' id d, key_counted y a c st q, l))) (λ r. key_once y a c c' st (omega (arith, l)) q r) (Memᴰ.cases_cons n))
    (Memᴰ.cases_cons m)

-- what is under a key: the record that is found, or none
pub found-there : (st : List Entry) (y a c : ℕ) → find_key st y a ≡ some c → IsEntry st y a c
found-there [] y a c e = absurd (clash (cc))
found-there (entry y' a' id ∷ st) y a c e = go (eqb y' y) (eqb a' a) refl refl e (found-there st y a c)
  where
    go : (b d : Bool) → eqb y' y ≡ b → eqb a' a ≡ d → cond (b && d) (some id) (find_key st y a) ≡ some c → (find_key st y a ≡ some c → IsEntry st y a c) → IsEntry (entry y' a' id ∷ st) y a c
    go true true p q u ih = let z : id ≡ c = cc in let w : entry y a c ≡ entry y' a' id = cc (eqb-true y' y p, eqb-true a' a q, z) in Memᴰ.head w
    go true false p q u ih = Memᴰ.tail (ih u)
    go false true p q u ih = Memᴰ.tail (ih u)
    go false false p q u ih = Memᴰ.tail (ih u)

pub none_found : (st : List Entry) (y a : ℕ) → find_key st y a ≡ none → NoEntry st y a
none_found st y a e id m = omega (arith, free y a st e, key_counted y a id st m)

pub find_none : (st : List Entry) (y a : ℕ) → NoEntry st y a → find_key st y a ≡ none
find_none st y a f = go (find_key st y a) refl
  where
    go : (o : Option ℕ) → find_key st y a ≡ o → o ≡ none
    go none e = refl
    go (some c) e = absurd (f c (found-there st y a c e))

module _ {decl : ℕ → ℕ} {m op o : ℕ} {ops : List Value} {h h' : List Cell} {st st' : List Entry} where
  -- a number that differs was written
  pub changed_ok : Change decl m op o ops h st h' st' → (id t j x y : ℕ) → NumberIn h id t j x → NumberIn h' id t j y → x ≢ y → (op ≡ op_write_ref) × ((under : List Value) × (ops ≡ refer true (to_field id t j) ∷ num y ∷ under))
  changed_ok (same c e d) id t j x y a b n = absurd (n (uniq h id t j x y a (rw e at b)))
  changed_ok (wrote c t' j' x' vs under q r l e d) id t j x y a b n =
      ⊎_elim
      (λ z. let w : nth (set vs j' (num x')) j ≡ some (num y) = cc (z.1, b.number) in
      ⊎_elim
      (λ u. (q, (under, cc (r, z.0, z.1, u.0, u.1))))
      (λ u. let v : here t' vs ≡ here t a.fields = cc (l, z.0, a.exists) in absurd (n (cc (u, v, a.number))))
      (nth-set vs j' j (num x') (num y) w))
      (λ z. absurd (n (uniq h id t j x y a (record { fields = b.fields; exists = z; number = b.number }))))
      (nth-set h c id (here t' (set vs j' (num x'))) (here t b.fields) (rw e at b.exists))
  changed_ok (packed vs lt q m e d w) id t j x y a b n =
      absurd (n (uniq (h ++ (here o vs ∷ [])) id t j x y (record { fields = a.fields; exists = nth_app h (here o vs ∷ []) id (here t a.fields) a.exists; number = a.number }) (rw e at b)))
  changed_ok (unpacked c vs q m l e d w) id t j x y a b n =
      ⊎_elim (λ z. absurd (clash (cc z.1))) (λ z. absurd (n (uniq h id t j x y a (record { fields = b.fields; exists = z; number = b.number }))))
      (nth-set h c id (gone o) (here t b.fields) (rw e at b.exists))
  changed_ok (published c r fk lt q m e d w) id t j x y a b n = absurd (n (uniq h id t j x y a (rw e at b)))
  changed_ok (withdrew c q m e d w) id t j x y a b n = absurd (n (uniq h id t j x y a (rw e at b)))

  pub fields_ok : Change decl m op o ops h st h' st' → (id t : ℕ) (vs vs' : List Value) → nth h id ≡ some (here t vs) → nth h' id ≡ some (here t vs')
      → (vs' ≡ vs) ⊎ ((j z : ℕ) × (vs' ≡ set vs j (num z)) × (op ≡ op_write_ref) × ((under : List Value) × (ops ≡ refer true (to_field id t j) ∷ num z ∷ under)))
  fields_ok (same c e d) id t vs vs' a b = inl (cc (a, rw e at b))
  fields_ok (wrote c t' j' x' us under q r l e d) id t vs vs' a b =
      ⊎_elim
      (λ z. let w : here t' us ≡ here t vs = cc (l, z.0, a) in let v : us ≡ vs = cc (w) in let u : set us j' (num x') ≡ vs' = cc z.1 in inr (j', x', sym u ∙ ap (λ (k : List Value). set k j' (num x')) v, q, (under, cc (r, z.0, z.1))))
      (λ z. inl (cc (a, z)))
      (nth-set h c id (here t' (set us j' (num x'))) (here t vs') (rw e at b))
  fields_ok (packed us lt q m e d w) id t vs vs' a b = inl (cc (nth_app h (here o us ∷ []) id (here t vs) a, rw e at b))
  fields_ok (unpacked c us q m l e d w) id t vs vs' a b = ⊎_elim (λ z. absurd (clash (cc z.1))) (λ z. inl (cc (a, z))) (nth-set h c id (gone o) (here t vs') (rw e at b))
  fields_ok (published c r fk lt q m e d w) id t vs vs' a b = inl (cc (a, rw e at b))
  fields_ok (withdrew c q m e d w) id t vs vs' a b = inl (cc (a, rw e at b))

  pub made_ok : Change decl m op o ops h st h' st' → (id t : ℕ) → Exists h' id t → ¬ (Exists h id t) → (op ≡ op_pack) × (o ≡ t) × (decl t ≡ m)
  made_ok (same c e d) id t a n = absurd (n (a.0, rw e at a.1))
  made_ok (wrote c t' j' x' vs under q r l e d) id t a n =
      ⊎_elim (λ z. absurd (n (vs, cc (l, z.0, z.1)))) (λ z. absurd (n (a.0, z))) (nth-set h c id (here t' (set vs j' (num x'))) (here t a.0) (rw e at a.1))
  made_ok (packed vs lt q m e d w) id t a n = ⊎_elim (λ z. absurd (n (a.0, z))) (λ z. let y : o ≡ t = cc (z) in (q, y, rw y at m)) (nth_snoc h (here o vs) id (here t a.0) (rw e at a.1))
  made_ok (unpacked c vs q m l e d w) id t a n = ⊎_elim (λ z. absurd (clash (cc z.1))) (λ z. absurd (n (a.0, z))) (nth-set h c id (gone o) (here t a.0) (rw e at a.1))
  made_ok (published c r fk lt q m e d w) id t a n = absurd (n (a.0, rw e at a.1))
  made_ok (withdrew c q m e d w) id t a n = absurd (n (a.0, rw e at a.1))

  pub fresh_ok : Change decl m op o ops h st h' st' → (id t : ℕ) → Exists h' id t → ¬ (Exists h id t) → length h ≤ id
  fresh_ok (same c e d) id t a n = absurd (n (a.0, rw e at a.1))
  fresh_ok (wrote c t' j' x' vs under q r l e d) id t a n =
      ⊎_elim (λ z. absurd (n (vs, cc (l, z.0, z.1)))) (λ z. absurd (n (a.0, z))) (nth-set h c id (here t' (set vs j' (num x'))) (here t a.0) (rw e at a.1))
  fresh_ok (packed vs lt q m e d w) id t a n = ⊎_elim (λ z. absurd (n (a.0, z))) (λ z. z) (nth-new h (here o vs) id (here t a.0) (rw e at a.1))
  fresh_ok (unpacked c vs q m l e d w) id t a n = ⊎_elim (λ z. absurd (clash (cc z.1))) (λ z. absurd (n (a.0, z))) (nth-set h c id (gone o) (here t a.0) (rw e at a.1))
  fresh_ok (published c r fk lt q m e d w) id t a n = absurd (n (a.0, rw e at a.1))
  fresh_ok (withdrew c q m e d w) id t a n = absurd (n (a.0, rw e at a.1))

  -- what Pack makes has the next identity, and what it took as its fields
  pub packs_ok : Change decl m op o ops h st h' st' → (id t : ℕ) (us : List Value) → nth h' id ≡ some (here t us) → ¬ (Exists h id t) → (id ≡ length h) × ((under : List Value) × (ops ≡ pushed_on us under))
  packs_ok (same c e d) id t us a n = absurd (n (us, rw e at a))
  packs_ok (wrote c t' j' x' vs under q r l e d) id t us a n =
      ⊎_elim (λ z. absurd (n (vs, cc (l, z.0, z.1)))) (λ z. absurd (n (us, z))) (nth-set h c id (here t' (set vs j' (num x'))) (here t us) (rw e at a))
  packs_ok (packed vs lt q m e d w) id t us a n =
      ⊎_elim (λ z. absurd (n (us, z))) (λ z. let y : vs ≡ us = cc z.1 in (z.0, (w.0, w.1 ∙ ap (λ (l : List Value). pushed_on l w.0) y))) (nth_last h (here o vs) id (here t us) (rw e at a))
  packs_ok (unpacked c vs q m l e d w) id t us a n = ⊎_elim (λ z. absurd (clash (cc z.1))) (λ z. absurd (n (us, z))) (nth-set h c id (gone o) (here t us) (rw e at a))
  packs_ok (published c r fk lt q m e d w) id t us a n = absurd (n (us, rw e at a))
  packs_ok (withdrew c q m e d w) id t us a n = absurd (n (us, rw e at a))

  -- what Unpack breaks up is what it took
  pub unpacks_ok : Change decl m op o ops h st h' st' → (id t : ℕ) → Exists h id t → ¬ (Exists h' id t) → (under : List Value) × (ops ≡ obj id t ∷ under)
  unpacks_ok (same c e d) id t a n = absurd (n (a.0, rw e a.1))
  unpacks_ok (wrote c t' j' x' vs under q r l e d) id t a n =
      ⊎_elim (λ z. let y : t' ≡ t = cc (l, z.0, a.1) in absurd (n (set vs j' (num x'), rw (e, ← y) z.1))) (λ z. absurd (n (a.0, rw e z))) (nth_back h c id (here t' (set vs j' (num x'))) (here t a.0) a.1)
  unpacks_ok (packed vs lt q m e d w) id t a n = absurd (n (a.0, rw e (nth_app h (here o vs ∷ []) id (here t a.0) a.1)))
  unpacks_ok (unpacked c vs q m l e d w) id t a n =
      ⊎_elim (λ z. let y : o ≡ t = cc (l, z.0, a.1) in (w.0, cc (w.1, y, z.0))) (λ z. absurd (n (a.0, rw e z))) (nth_back h c id (gone o) (here t a.0) a.1)
  unpacks_ok (published c r fk lt q m e d w) id t a n = absurd (n (a.0, rw e a.1))
  unpacks_ok (withdrew c q m e d w) id t a n = absurd (n (a.0, rw e a.1))

  -- the key that MoveTo and MoveFrom work on is the address that they took, and the record that is published the one taken
  pub keyed_ok : Change decl m op o ops h st h' st' → (t a r : ℕ) → Mem (entry t a r) st' → ¬ (Mem (entry t a r) st) → (under : List Value) × (ops ≡ num a ∷ obj r t ∷ under)
  keyed_ok (same c e d) t a r k n = absurd (n (rw d at k))
  keyed_ok (wrote c t' j' x' vs under q y l e d) t a r k n = absurd (n (rw d at k))
  keyed_ok (packed vs lt q m e d w) t a r k n = absurd (n (rw d at k))
  keyed_ok (unpacked c vs q m l e d w) t a r k n = absurd (n (rw d at k))
  keyed_ok (published c r' fk lt q m e d w) t a r k n = ⊎_elim (λ z. (w.0, cc (w.1, z))) (λ z. absurd (n z)) (Memᴰ.cases_cons (rw d at k))
  keyed_ok (withdrew c q m e d w) t a r k n = absurd (n (drop_in (entry t a r) st o c (rw d at k)))

  pub unkeyed_ok : Change decl m op o ops h st h' st' → (t a r : ℕ) → Mem (entry t a r) st → ¬ (Mem (entry t a r) st') → (under : List Value) × (ops ≡ num a ∷ under)
  unkeyed_ok (same c e d) t a r k n = absurd (n (rw d k))
  unkeyed_ok (wrote c t' j' x' vs under q y l e d) t a r k n = absurd (n (rw d k))
  unkeyed_ok (packed vs lt q m e d w) t a r k n = absurd (n (rw d k))
  unkeyed_ok (unpacked c vs q m l e d w) t a r k n = absurd (n (rw d k))
  unkeyed_ok (published c r' fk lt q m e d w) t a r k n = absurd (n (rw d (Memᴰ.tail k)))
  unkeyed_ok (withdrew c q m e d w) t a r k n = ⊎_elim (λ z. (w.0, cc (w.1, z.1))) (λ z. absurd (n (rw d z))) (drop_out t a r st o c k)

  pub broken_ok : Change decl m op o ops h st h' st' → (id t : ℕ) → Exists h id t → ¬ (Exists h' id t) → (op ≡ op_unpack) × (o ≡ t) × (decl t ≡ m)
  broken_ok (same c e d) id t a n = absurd (n (a.0, rw e a.1))
  broken_ok (wrote c t' j' x' vs under q r l e d) id t a n =
      ⊎_elim (λ z. let y : t' ≡ t = cc (l, z.0, a.1) in absurd (n (set vs j' (num x'), rw (e, ← y) z.1))) (λ z. absurd (n (a.0, rw e z))) (nth_back h c id (here t' (set vs j' (num x'))) (here t a.0) a.1)
  broken_ok (packed vs lt q m e d w) id t a n = absurd (n (a.0, rw e (nth_app h (here o vs ∷ []) id (here t a.0) a.1)))
  broken_ok (unpacked c vs q m l e d w) id t a n =
      ⊎_elim (λ z. let y : o ≡ t = cc (l, z.0, a.1) in (q, y, rw y at m)) (λ z. absurd (n (a.0, rw e z))) (nth_back h c id (gone o) (here t a.0) a.1)
  broken_ok (published c r fk lt q m e d w) id t a n = absurd (n (a.0, rw e a.1))
  broken_ok (withdrew c q m e d w) id t a n = absurd (n (a.0, rw e a.1))

  pub entered_ok : Change decl m op o ops h st h' st' → (t a r : ℕ) → Mem (entry t a r) st' → ¬ (Mem (entry t a r) st) → (op ≡ op_move_to) × (o ≡ t) × (decl t ≡ m)
  entered_ok (same c e d) t a r k n = absurd (n (rw d at k))
  entered_ok (wrote c t' j' x' vs under q y l e d) t a r k n = absurd (n (rw d at k))
  entered_ok (packed vs lt q m e d w) t a r k n = absurd (n (rw d at k))
  entered_ok (unpacked c vs q m l e d w) t a r k n = absurd (n (rw d at k))
  entered_ok (published c r' fk lt q m e d w) t a r k n = ⊎_elim (λ z. let y : o ≡ t = cc (z) in (q, y, rw y at m)) (λ z. absurd (n z)) (Memᴰ.cases_cons (rw d at k))
  entered_ok (withdrew c q m e d w) t a r k n = absurd (n (drop_in (entry t a r) st o c (rw d at k)))

  pub left_ok : Change decl m op o ops h st h' st' → (t a r : ℕ) → Mem (entry t a r) st → ¬ (Mem (entry t a r) st') → (op ≡ op_move_from) × (o ≡ t) × (decl t ≡ m)
  left_ok (same c e d) t a r k n = absurd (n (rw d k))
  left_ok (wrote c t' j' x' vs under q y l e d) t a r k n = absurd (n (rw d k))
  left_ok (packed vs lt q m e d w) t a r k n = absurd (n (rw d k))
  left_ok (unpacked c vs q m l e d w) t a r k n = absurd (n (rw d k))
  left_ok (published c r' fk lt q m e d w) t a r k n = absurd (n (rw d (Memᴰ.tail k)))
  left_ok (withdrew c q m e d w) t a r k n = ⊎_elim (λ z. (q, sym z.0, rw (← z.0) at m)) (λ z. absurd (n (rw d z))) (drop_out t a r st o c k)

  -- a number that is written is there afterwards
  pub written_ok : Change decl m op o ops h st h' st' → (id t j x z : ℕ) (under : List Value) → NumberIn h' id t j x → op ≡ op_write_ref → ops ≡ refer true (to_field id t j) ∷ num z ∷ under → x ≡ z
  written_ok (same c e d) id t j x z under b q r = absurd (c q id t j z under r)
  written_ok (wrote c t' j' x' vs under' q' r' l e d) id t j x z under b q r =
      let same_id : c ≡ id = cc (r, r') in
      let same-field : j' ≡ j = cc (r, r') in
      let same_number : x' ≡ z = cc (r, r') in
      let w : here t' (set vs j' (num x')) ≡ here t b.fields = nth_put h c (here t' (set vs j' (num x'))) (here t b.fields) (cc (same_id, ap (λ (l : List Cell). nth l id) e, b.exists)) in
      let u : nth (set vs j' (num x')) j' ≡ some (num x) = cc (w, same-field, b.number) in
      let v : num x' ≡ num x = nth_put vs j' (num x') (num x) u in
      cc (v, same_number)
  written_ok (packed vs lt q' m e d w) id t j x z under b q r = absurd (omega (arith, q, q'))
  written_ok (unpacked c vs q' m l e d w) id t j x z under b q r = absurd (omega (arith, q, q'))
  written_ok (published c r' fk lt q' m e d w) id t j x z under b q r = absurd (omega (arith, q, q'))
  written_ok (withdrew c q' m e d w) id t j x z under b q r = absurd (omega (arith, q, q'))
