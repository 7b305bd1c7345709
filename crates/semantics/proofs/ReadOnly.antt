-- Read-only references: where they lead, what Freeze and ReadRef do, and that none is written through or becomes writable.
use Prim.Native.Nat.{ℕ, ◌+◌, ◌/◌, ◌%◌}
use mathlib.Core.Path.{◌≡◌, refl, ap, sym, ◌∙◌}
use mathlib.Core.Bool.{Bool, true, false, or-true, false≢true}
use mathlib.Core.List.{List, [], ◌∷◌}
use mathlib.Core.Logic.{◌⊎◌, inl, inr, ⊎_elim}
use mathlib.Core.Option.{Option}
use borrow.Author.Tests.{eq-eqb}
use lib.Dec.{eqb}
use lib.ListN.{get_elem? as nth}
use Rattle.table.specs.declared.index.Index.{Index}
use Rattle.table.specs.Format.{op_read_ref, op_write_ref, op_borrow_fld, op_freeze}
use Rattle.table.specs.Rows.{row_at}
use Rattle.declarations.specs.Program.{number, number_ref, record_ref, frozen, is_writable, procedure_in}
use Rattle.reach.specs.Reach.{Mem}
use Rattle.effects.specs.Effects.{effect_if, effects, reads}
use Rattle.semantics.specs.Limits.{budget_spent}
use Rattle.semantics.specs.Machine.{Ref, ref_kind, as_kind, Value, num, refer, Cell, Entry, Frame, frame, State, state, Outcome, next, stopped, leads_to, target}
use Rattle.semantics.specs.Step.{number_at, record_at, field_reference, actions, instruction, effect_at, act, step}
use Rattle.semantics.specs.History.{moment}
use Rattle.semantics.specs.Words.{Holds}
use Rattle.semantics.specs.Claim.{Safe, safe, goes, stops}
use Rattle.semantics.proofs.Instructions.{effect-at}
use Rattle.semantics.proofs.Stops.{others}
use Rattle.semantics.proofs.Consequences.{safe-state, HeldBy, held-before, Lends, lends}

-- it leads where the writable one does
pub frozen-leads : (fs : List Frame) (rs : List Cell) (r : Ref) → target fs rs (refer false r) ≡ target fs rs (refer true r)
frozen-leads fs rs r = refl

-- The rules: a reference lies on top of the operands of a running frame
module _ (t : List ℕ) (ix : Index) (id p i : ℕ) (ops : List Value) (ls : List (Option Value)) (fs : List Frame) (rs : List Cell) (st : List Entry) (n : ℕ) (r : Ref) where
  abbrev With : Bool → State
  With w = state (frame id p i (refer w r ∷ ops) ls ∷ fs) rs st n

  -- Freeze makes a writable one read-only, wherever it leads, and does no more
  pub freezes : (instruction t ix p i).a ≡ op_freeze → is_writable (ref_kind r) ≡ true → step t ix (With true) ≡ next (state (frame id p (i + 1) (refer false r ∷ ops) ls ∷ fs) rs st n)
  unfolding act actions instruction effect_at effects
  freezes e w =
      let x : effect_at t ix p i (refer true r ∷ ops) ≡ effect_if (is_writable (ref_kind r)) (ref_kind r ∷ []) (frozen (ref_kind r) ∷ []) = effect-at t ix (procedure_in ix p) i op_freeze (ref_kind r) e in
      rw (x, w, eq-eqb (ref_kind r) (ref_kind r) refl, e) refl

  -- ReadRef gives the number that it leads to, or stops, whether it is writable or not
  reads-number : (w : Bool) → (instruction t ix p i).a ≡ op_read_ref → ref_kind r ≡ number_ref
      → step t ix (With w) ≡ number_at (leads_to (frame id p i ops ls ∷ fs) rs r) (λ (x : ℕ). next (state (frame id p (i + 1) (num x ∷ ops) ls ∷ fs) rs st n))
  unfolding act actions instruction effect_at effects reads
  reads-number w e k =
      let top : as_kind w (ref_kind r) ≡ as_kind w number_ref = ap (as_kind w) k in
      let x : effect_at t ix p i (refer w r ∷ ops) ≡ effect_if (reads number_ref (as_kind w (ref_kind r))) (as_kind w (ref_kind r) ∷ []) (number ∷ []) = effect-at t ix (procedure_in ix p) i op_read_ref (as_kind w (ref_kind r)) e in
      rw (x, ap (reads number_ref) top ∙ read w, eq-eqb (as_kind w (ref_kind r)) (as_kind w (ref_kind r)) refl, e) refl
    where
      read : (w : Bool) → reads number_ref (as_kind w number_ref) ≡ true
      read true = refl
      read false = refl

  pub reads-alike : (instruction t ix p i).a ≡ op_read_ref → ref_kind r ≡ number_ref → step t ix (With false) ≡ step t ix (With true)
  reads-alike e k = reads-number false e k ∙ sym (reads-number true e k)

-- BorrowFld through it does what it does through the writable one: to the same field or record, read-only where it is, or the same stop
module _ (t : List ℕ) (ix : Index) (id p i : ℕ) (ops : List Value) (ls : List (Option Value)) (fs : List Frame) (rs : List Cell) (st : List Entry) (n : ℕ) (r : Ref) where
  pub borrows_alike : (w : Bool) → (instruction t ix p i).a ≡ op_borrow_fld → ref_kind r ≡ record_ref ((instruction t ix p i).b / 8)
      → step t ix (state (frame id p i (refer w r ∷ ops) ls ∷ fs) rs st n)
      ≡ record_at (leads_to (frame id p i ops ls ∷ fs) rs r) (λ (c : ℕ) (fields : List Value).
      field_reference c ((instruction t ix p i).b / 8) ((instruction t ix p i).b % 8) (nth fields ((instruction t ix p i).b % 8)) (λ (x : Ref). next (state (frame id p (i + 1) (refer w x ∷ ops) ls ∷ fs) rs st n)))
  unfolding act actions instruction effect_at effects reads
  borrows_alike w e k =
      let b = (instruction t ix p i).b in
      let top : as_kind w (ref_kind r) ≡ as_kind w (record_ref (b / 8)) = ap (as_kind w) k in
      let x = effect-at t ix (procedure_in ix p) i op_borrow_fld (as_kind w (ref_kind r)) e in
      rw (x, ap (reads (record_ref (b / 8))) top ∙ read w (record_ref (b / 8)), eq-eqb (as_kind w (ref_kind r)) (as_kind w (ref_kind r)) refl, e) refl
    where
      read : (w : Bool) (k : ℕ) → reads k (as_kind w k) ≡ true
      read true k = rw (eq-eqb k k refl)
      read false k = rw (eq-eqb (frozen k) (frozen k) refl) (or-true (eqb (frozen k) k))

-- The claim: frame id of procedure p is at instruction i over the frames fs, and `row` is told
module _ {t : List ℕ} {ix : Index} {row id p i : ℕ} {ops : List Value} {ls : List (Option Value)} {fs : List Frame} {rs : List Cell} {st : List Entry} {n : ℕ} where
  -- Freeze stops for the budget alone
  pub freeze-goes_on : {k : ℕ} → Safe t ix (moment (state (frame id p i ops ls ∷ fs) rs st n) row (stopped k)) → (row_at t row).a ≡ op_freeze → k ≡ budget_spent
  freeze-goes_on (safe s (stops c)) e = ⊎_elim (λ k. k) (λ q. absurd ((others q).1 e)) c

  -- WriteRef comes up with no read-only reference, whatever comes of it
  pub read_only_kept : {o : Outcome} → Safe t ix (moment (state (frame id p i ops ls ∷ fs) rs st n) row o) → (row_at t row).a ≡ op_write_ref → (r : Ref) (rest : List Value) → ops ≡ refer false r ∷ rest → ⊥
  read_only_kept s e r rest q = false≢true ((safe-state s).ready.through e false r rest q)

  -- a writable reference that the frame holds after a step it held before, or the step is BorrowLoc, BorrowGlobal, or BorrowFld through a writable one
  pub never_thawed : {p' i' n' : ℕ} {ops' : List Value} {ls' : List (Option Value)} {fs' : List Frame} {rs' : List Cell} {st' : List Entry}
      → Safe t ix (moment (state (frame id p i ops ls ∷ fs) rs st n) row (next (state (frame id p' i' ops' ls' ∷ fs') rs' st' n')))
      → (r : Ref) → Holds (frame id p' i' ops' ls') (refer true r) → Holds (frame id p i ops ls) (refer true r) ⊎ Lends t row ops
  never_thawed (safe s (goes u a b c d g)) r h = ⊎_elim (λ q. inl q) (λ q. inr (lends refl q)) (c refl (refer true r) tt h)

  -- so with every frame: one that any frame holds after it some frame held before
  pub none_thawed : {n' : ℕ} {fs' : List Frame} {rs' : List Cell} {st' : List Entry} → Safe t ix (moment (state (frame id p i ops ls ∷ fs) rs st n) row (next (state fs' rs' st' n')))
      → (r : Ref) (f : Frame) → Mem f fs' → Holds f (refer true r) → HeldBy (frame id p i ops ls ∷ fs) (refer true r) ⊎ Lends t row ops
  none_thawed s r f m h = ⊎_elim (λ q. inl q) (λ q. inr (lends refl q)) (held-before t ix row id p i ops ls fs rs st n s (refer true r) tt f m h)
