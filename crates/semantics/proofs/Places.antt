-- Fields and locals: what is taken out of them and put into them fits.
use Prim.Native.Nat.{ℕ, zero, suc}
use mathlib.Core.Path.{◌≡◌, refl, ap, sym, ◌∙◌}
use mathlib.Core.List.{List, [], ◌∷◌, ◌++◌, map}
use mathlib.Core.Bool.{Bool, true, false, true≢false}
use mathlib.Core.Option.{Option, none, some}
use native.Mathlib.Omega.{arith}
use lib.ListN.{length, get_or, set, replicate, get_elem? as nth}
use Rattle.table.specs.declared.index.Index.{Index}
use Rattle.declarations.specs.Program.{number, record_of, number_ref, record_ref, reference_to, frozen, is_record, is_reference}
use Rattle.flow.specs.Walks.{Slot, empty, full}
use Rattle.semantics.specs.Machine.{Ref, to_local, to_field, to_record, ref_kind, Value, num, obj, refer, value_kind, Outcome, content}
use Rattle.semantics.specs.Step.{start_locals, none_held, fillable}
use Rattle.semantics.specs.Ownership.{in_value, in_slot, in_locals}
use Rattle.semantics.proofs.Changes.{clash}
use Rattle.semantics.proofs.Sorts.{record_is, record_plain, Writable, number-writable, record_writable, to_writable, as-reference, as_large, as_same}
use Rattle.semantics.proofs.Typing.{Word, Fit, fnum, fobj, floc, ffld, frec, Has, hnil, hcons, Slots, snil, sempty, sfull, Fields, dnil, dnum, dobj, fit-kind, fit_record}

-- no kind of a list is a reference
abbrev pub Plain : List ℕ → Type 0
Plain ks = (j k : ℕ) → nth ks j ≡ some k → is_reference k ≡ false

module _ {t : List ℕ} {ix : Index} {T W : List ℕ} {m : ℕ} where
  as_field : {v : Value} {k : ℕ} {b : Bool} {vs : List Value} {ks : List ℕ} → is_reference k ≡ false → Fit t ix T W m v k b → Fields T vs ks → Fields T (v ∷ vs) (k ∷ ks)
  unfolding is_reference
  as_field p (fnum y q) h = dnum y q h
  as_field p (fobj e q) h = dobj e q h
  as_field p (floc {w} {c} e d r q) h = absurd (true≢false (sym (as-reference w (reference_to c) (to_writable c r)) ∙ ap is_reference (sym q) ∙ p))
  as_field p (ffld {w} e d c q) h = absurd (true≢false (sym (as-reference w number_ref number-writable) ∙ ap is_reference (sym q) ∙ p))
  as_field p (frec {w} {y} e q) h = absurd (true≢false (sym (as-reference w (record_ref y) (record_writable y)) ∙ ap is_reference (sym q) ∙ p))

  -- what Pack takes becomes fields, and fields become what Unpack pushes
  pub as_fields : {ks : List ℕ} {vs : List Value} {bs : List Bool} → Plain ks → Has t ix T W m vs ks bs → Fields T vs ks
  as_fields p hnil = dnil
  as_fields p (hcons f h) = as_field (p 0 _ refl) f (as_fields (λ j k e. p (suc j) k e) h)

  pub of_fields : {vs : List Value} {ks : List ℕ} (bs : List Bool) → length bs ≡ length ks → Fields T vs ks → Has t ix T W m vs ks bs
  of_fields [] l dnil = hnil
  of_fields [] l (dnum y q h) = absurd (omega arith)
  of_fields [] l (dobj e q h) = absurd (omega arith)
  of_fields (b ∷ bs) l dnil = absurd (omega arith)
  of_fields (b ∷ bs) l (dnum y q h) = hcons (fnum y q) (of_fields bs (omega arith) h)
  of_fields (b ∷ bs) l (dobj e q h) = hcons (fobj e q) (of_fields bs (omega arith) h)

  -- a value that is no record holds none
  pub loose : {v : Value} {k : ℕ} {b : Bool} → Fit t ix T W m v k b → is_record k ≡ false → (r : ℕ) → in_value r v ≡ 0
  loose (fnum y q) c r = refl
  loose (fobj {y} e q) c r = absurd (true≢false (sym (record_is y) ∙ ap is_record (sym q) ∙ c))
  loose (floc e d x q) c r = refl
  loose (ffld e d g q) c r = refl
  loose (frec e q) c r = refl

  -- a number, a record of a type, by kind
  pub as_number : {v : Value} {k : ℕ} {b : Bool} → Fit t ix T W m v k b → k ≡ number → (n : ℕ) × (v ≡ num n) × Word n
  as_number (fnum {n} y q) e = (n, refl, y)
  as_number (fobj a q) e = absurd (omega arith)
  as_number (floc {w} {c} a d r q) e = absurd (omega (arith, as_large w (reference_to c), q, e))
  as_number (ffld {w} a d c q) e = absurd (omega (arith, as_large w number_ref, q, e))
  as_number (frec {w} {y} a q) e = absurd (omega (arith, as_large w (record_ref y), q, e))

  pub as-record : {v : Value} {k : ℕ} {b : Bool} (y : ℕ) → Fit t ix T W m v k b → k ≡ record_of y → (id : ℕ) × (v ≡ obj id y) × (nth T id ≡ some y)
  as-record y (fnum w q) e = absurd (omega arith)
  as-record y (fobj {id} {y = z} a q) e = let x : z ≡ y = omega arith in (id, rw x refl, rw x at a)
  as-record y (floc {w} {c} a d r q) e = absurd (true≢false (sym (as-reference w (reference_to c) (to_writable c r)) ∙ ap is_reference (sym q ∙ e) ∙ record_plain y))
  as-record y (ffld {w} a d c q) e = absurd (true≢false (sym (as-reference w number_ref number-writable) ∙ ap is_reference (sym q ∙ e) ∙ record_plain y))
  as-record y (frec {w} {y = z} a q) e = absurd (true≢false (sym (as-reference w (record_ref z) (record_writable z)) ∙ ap is_reference (sym q ∙ e) ∙ record_plain y))

  -- a value of the kind of a writable reference is one, and frozen it fits at any place
  pub as_writable : {v : Value} {k : ℕ} {b : Bool} → Fit t ix T W m v k b → Writable k → (r : Ref) × (v ≡ refer true r) × ((c : Bool) → Fit t ix T W m (refer false r) (frozen k) c)
  as_writable (fnum w q) e = absurd (omega (arith, q, e.0))
  as_writable (fobj {y} a q) e = absurd (omega (arith, q, e.0))
  as_writable (floc {w} {f} {l} {c = i} a d r q) e = let z = as_same true w _ _ e (to_writable i r) q in let o : w ≡ true = sym z.0 in (to_local f l i, ap (λ (x : Bool). refer x (to_local f l i)) o, λ c. floc a d r (ap frozen z.1))
  as_writable (ffld {w} {id} {y} {j} a d g q) e = let z = as_same true w _ _ e number-writable q in let o : w ≡ true = sym z.0 in (to_field id y j, ap (λ (x : Bool). refer x (to_field id y j)) o, λ c. ffld a d (λ v u. absurd (true≢false (sym v))) (ap frozen z.1))
  as_writable (frec {w} {id} {y} a q) e = let z = as_same true w _ _ e (record_writable y) q in let o : w ≡ true = sym z.0 in (to_record id y, ap (λ (x : Bool). refer x (to_record id y)) o, λ c. frec a (ap frozen z.1))

  -- so is the top operand where its kind is such
  pub top_refers : {ops : List Value} {ks : List ℕ} {O : List Bool} (k : ℕ) (under : List ℕ) → Writable k → Has t ix T W m ops ks O → ks ≡ k ∷ under → (r : Ref) × (rest : List Value) × (ops ≡ refer true r ∷ rest) × (ref_kind r ≡ k)
  top_refers k under h hnil e = absurd (clash (cc))
  top_refers k under h (hcons {k = c} {vs} f g) e =
      let z : k ≡ c = cc in let a = as_writable f (rw z at h) in (a.0, vs, ap (λ (v : Value). v ∷ vs) a.1, sym (ap value_kind a.1) ∙ fit-kind f ∙ sym z)

  pub slot_full : {ls : List (Option Value)} {ks : List ℕ} {L : List Slot} → Slots t ix T W m ls ks L → (i : ℕ) (b : Bool) → get_or L i empty ≡ full b
      → (v : Value) × (k : ℕ) × (nth ls i ≡ some (some v)) × (nth ks i ≡ some k) × Fit t ix T W m v k b
  slot_full snil i b e = absurd (clash (cc))
  slot_full (sempty s) zero b e = absurd (clash (cc))
  slot_full (sempty s) (suc i) b e = slot_full s i b e
  slot_full (sfull {v} {k} {b = c} f s) zero b e = let z : c ≡ b = cc in (v, k, refl, refl, rw z at f)
  slot_full (sfull f s) (suc i) b e = slot_full s i b e

  pub slot_clear : {ls : List (Option Value)} {ks : List ℕ} {L : List Slot} → Slots t ix T W m ls ks L → (i : ℕ) → Slots t ix T W m (set ls i none) ks (set L i empty)
  slot_clear snil i = snil
  slot_clear (sempty s) zero = sempty s
  slot_clear (sempty s) (suc i) = sempty (slot_clear s i)
  slot_clear (sfull f s) zero = sempty s
  slot_clear (sfull f s) (suc i) = sfull f (slot_clear s i)

  pub slot_put : {ls : List (Option Value)} {ks : List ℕ} {L : List Slot} → Slots t ix T W m ls ks L → (i k : ℕ) {v : Value} {b : Bool} → nth ks i ≡ some k → Fit t ix T W m v k b
      → Slots t ix T W m (set ls i (some v)) ks (set L i (full b))
  slot_put snil i k e g = snil
  slot_put (sempty {k = c} s) zero k e g = let z : k ≡ c = cc in sfull (rw z at g) s
  slot_put (sempty s) (suc i) k e g = sempty (slot_put s i k e g)
  slot_put (sfull {k = c} f s) zero k e g = let z : k ≡ c = cc in sfull (rw z at g) s
  slot_put (sfull f s) (suc i) k e g = sfull f (slot_put s i k e g)

  -- what StLoc overwrites is no record
  pub slot_free : {ls : List (Option Value)} {ks : List ℕ} {L : List Slot} → Slots t ix T W m ls ks L → (i k : ℕ) → nth ks i ≡ some k → (is_record k ≡ true → get_or L i empty ≡ empty)
      → (x : Option Value) × (nth ls i ≡ some x) × ((r : ℕ) → in_slot r x ≡ 0) × ((o : Outcome) → fillable (nth ls i) o ≡ o)
  slot_free snil i k e c = absurd (clash (cc))
  slot_free (sempty s) zero k e c = (none, refl, (λ r. refl), (λ o. refl))
  slot_free (sempty s) (suc i) k e c = slot_free s i k e c
  slot_free (sfull {v} {k = d} {b} f s) zero k e c = let z : k ≡ d = cc in go (is_record d) refl (λ q. c (rw z q))
    where
      go : (a : Bool) → is_record d ≡ a → (is_record d ≡ true → full b ≡ empty)
          → (x : Option Value) × (◌≡◌ {A = Option (Option Value)} (some (some v)) (some x)) × ((r : ℕ) → in_slot r x ≡ 0) × ((o : Outcome) → fillable (some (some v)) o ≡ o)
      go true e c = absurd (clash (cc (c e)))
      go false e c = (some v, refl, loose f e, (λ o. rw (fit_record f ∙ e) refl))
  slot_free (sfull f s) (suc i) k e c = slot_free s i k e c

  pub slot_read : {ls : List (Option Value)} {ks : List ℕ} {L : List Slot} → Slots t ix T W m ls ks L → (i k : ℕ) (v : Value) → nth ks i ≡ some k → content (nth ls i) ≡ some v → (b : Bool) × Fit t ix T W m v k b
  slot_read snil i k v d e = absurd (clash (cc))
  slot_read (sempty s) zero k v d e = absurd (clash (cc))
  slot_read (sempty s) (suc i) k v d e = slot_read s i k v d e
  slot_read (sfull {v = w} {k = c} {b} f s) zero k v d e = let z : w ≡ v = cc in let y : c ≡ k = cc in (b, rw (z, y) at f)
  slot_read (sfull f s) (suc i) k v d e = slot_read s i k v d e

  num-kind : {x n : ℕ} {w : Value} {k : ℕ} {b : Bool} → Fit t ix T W m w k b → w ≡ num x → Word n → Fit t ix T W m (num n) k b
  num-kind (fnum y q) e u = fnum u q
  num-kind (fobj a q) e u = absurd (clash (cc))
  num-kind (floc a d c q) e u = absurd (clash (cc))
  num-kind (ffld a d g q) e u = absurd (clash (cc))
  num-kind (frec a q) e u = absurd (clash (cc))

  pub slot_write : {ls : List (Option Value)} {ks : List ℕ} {L : List Slot} → Slots t ix T W m ls ks L → (i x n : ℕ) → content (nth ls i) ≡ some (num x) → Word n → Slots t ix T W m (set ls i (some (num n))) ks L
  slot_write snil i x n e u = snil
  slot_write (sempty s) zero x n e u = absurd (clash (cc))
  slot_write (sempty s) (suc i) x n e u = sempty (slot_write s i x n e u)
  slot_write (sfull f s) zero x n e u = sfull (num-kind {x = x} f (cc) u) s
  slot_write (sfull f s) (suc i) x n e u = sfull f (slot_write s i x n e u)

  -- no local is full of a record
  pub emptied : {ls : List (Option Value)} {ks : List ℕ} {L : List Slot} → Slots t ix T W m ls ks L → ((l k : ℕ) → nth ks l ≡ some k → is_record k ≡ true → get_or L l empty ≡ empty)
      → ((r : ℕ) → in_locals r ls ≡ 0) × (none_held ls ≡ true)
  emptied snil c = ((λ r. refl), refl)
  emptied (sempty s) c = let h = emptied s (λ l. c (suc l)) in ((λ r. omega (arith, h.0 r)), h.1)
  emptied (sfull {v} {k} {b} {ls} f s) c = let h = emptied s (λ l. c (suc l)) in go (is_record k) refl h.0 h.1
    where
      go : (a : Bool) → is_record k ≡ a → ((r : ℕ) → in_locals r ls ≡ 0) → none_held ls ≡ true → ((r : ℕ) → in_locals r (some v ∷ ls) ≡ 0) × (none_held (some v ∷ ls) ≡ true)
      go true e h₀ h₁ = absurd (clash (cc (c 0 k refl e)))
      go false e h₀ h₁ = ((λ r. omega (arith, h₀ r, loose f e r)), (rw (fit_record f ∙ e) h₁))

  nones : (ks : List ℕ) → Slots t ix T W m (replicate (length ks) none) ks (map (λ (k : ℕ). empty) ks)
  nones [] = snil
  nones (k ∷ ks) = sempty (nones ks)

  -- the locals of a frame that is entered
  pub enter : {vs : List Value} {ks : List ℕ} {bs : List Bool} → Has t ix T W m vs ks bs → (rest : List ℕ)
      → Slots t ix T W m (start_locals vs (length rest)) (ks ++ rest) (map full bs ++ map (λ (k : ℕ). empty) rest)
  enter hnil rest = nones rest
  enter (hcons f h) rest = sfull f (enter h rest)

pub held_write : (r : ℕ) (ls : List (Option Value)) (i x n : ℕ) → content (nth ls i) ≡ some (num x) → in_locals r (set ls i (some (num n))) ≡ in_locals r ls
held_write r [] i x n e = refl
held_write r (none ∷ ls) zero x n e = absurd (clash (cc))
held_write r (some w ∷ ls) zero x n e = let z : w ≡ num x = cc in rw z refl
held_write r (o ∷ ls) (suc i) x n e = omega (arith, held_write r ls i x n e)
