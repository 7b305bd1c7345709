-- Wrong steps are not safe: for each clause of the claim about what a step does, the wrong machines that it shuts out.
use Prim.Native.Nat.{ℕ, ◌+◌, ◌%◌, ◌<◌, ◌≤◌}
use mathlib.Core.Path.{◌≡◌, refl, ap, sym, ◌∙◌}
use mathlib.Core.Bool.{Bool, true, false}
use mathlib.Core.List.Memᴰ
use mathlib.Core.List.{List, [], ◌∷◌}
use mathlib.Core.Logic.{◌⊎◌, ⊎_elim, ◌≢◌}
use mathlib.Core.Option.{Option, some}
use native.Mathlib.Omega.{arith}
use lib.ListN.{length, set, get_elem? as nth}
use Rattle.table.specs.declared.index.Index.{Index}
use Rattle.table.specs.Format.{op_write_ref, op_borrow_loc, op_borrow_fld, op_borrow_global, op_call, op_ret, op_pack, op_unpack, op_move_to, op_move_from, op_freeze}
use Rattle.table.specs.Rows.{row_at}
use Rattle.reach.specs.Reach.{Mem}
use Rattle.semantics.specs.Step.{pushed_on}
use Rattle.semantics.specs.Machine.{Ref, to_local, to_field, to_record, Value, num, obj, refer, writable, local_of, Cell, gone, here, Entry, Frame, frame, state, next, a_record, target}
use Rattle.semantics.specs.History.{moment}
use Rattle.semantics.specs.Words.{type_count, module_of, declarer, guest, guarded_field, Holds, operand, Exists, NumberIn, IsEntry, InStore}
use Rattle.semantics.specs.Claim.{IsReference, Writes, Proper, Makes, Takes, Handed, Origin, Freezes, goes, Safe, safe}
use Rattle.semantics.proofs.Changes.{clash}
use Rattle.semantics.proofs.Sounds.{nth-set, head_of, nth_inside}
use Rattle.semantics.proofs.Consequences.{safe-state, pushed-same, identity, procedure, under_same, call-under, ret-under, write_under, called_as, runs_on, to-local, to-field, borrows, called_with, left_with, returned-to, to_nested, through_record, through-local, to_entry, to_frozen, Lends, lends}
use Rattle.semantics.proofs.Shut.{not-in_guest}

-- A step is done: frame id of procedure p is at instruction i over the frames fs, `row` is told, and it leads to the state after
module _ (t : List ℕ) (ix : Index) (row id p i : ℕ) (ops : List Value) (ls : List (Option Value)) (fs : List Frame) (rs : List Cell) (st : List Entry) (n : ℕ) (fs' : List Frame) (rs' : List Cell) (st' : List Entry) (n' : ℕ) where
  abbrev pub Done : Type 0
  Done = Safe t ix (moment (state (frame id p i ops ls ∷ fs) rs st n) row (next (state fs' rs' st' n')))

  proper_of : Done → Proper t row ops rs st rs' st'
  proper_of (safe s (goes u a b c d g)) = a

  handed_of : Done → Handed t ix row id p i ops ls fs n fs' n'
  handed_of (safe s (goes u a b c d g)) = b

  origin_of : Done → Origin t ix row id p i ops ls fs rs st fs'
  origin_of (safe s (goes u a b c d g)) = c

  freezes_of : Done → Freezes t ix row id p i ops ls fs rs st fs' rs' st'
  freezes_of (safe s (goes u a b c d g)) = d

  -- CLAUSE 5, `Freezes`: Freeze leaves the reference writable, or does something else besides; it takes what is read-only already
  pub not_left_writable : {gs : List Frame} {j : ℕ} {r : Ref} {rest : List Value} {ls' : List (Option Value)} → (row_at t row).a ≡ op_freeze → fs' ≡ frame id p j (refer true r ∷ rest) ls' ∷ gs → Done → ⊥
  not_left_writable g e s = let z = (freezes_of s g).3 in clash (cc (e, z))

  pub not_frozen_besides : {r : Ref} {rest : List Value} → (row_at t row).a ≡ op_freeze → ops ≡ refer true r ∷ rest → fs' ≢ frame id p (i + 1) (refer false r ∷ rest) ls ∷ fs → Done → ⊥
  not_frozen_besides g e f s = let z = freezes_of s g in let a = z.2 in let b = z.3 in f (cc (e, a, b))

  pub not_frozen_again : {r : Ref} {rest : List Value} → (row_at t row).a ≡ op_freeze → ops ≡ refer false r ∷ rest → Done → ⊥
  not_frozen_again g e s = let z = (freezes_of s g).2 in clash (cc (e, z))

  -- Record c of type y
  module _ (c y : ℕ) where
    -- CLAUSE 3, `changed`, `written`, `own`
    writer : {j x x' : ℕ} → guarded_field t y j ≡ true → NumberIn rs c y j x → NumberIn rs' c y j x' → x ≢ x' → Done → (z : ℕ) × Writes t row ops c y j z
    writer {j} {x} {x'} g a b f s = let w = ((proper_of s).changed c y j x x' g a b).0 f in (w.0, w.1)

    -- a guarded number changes by another instruction than WriteRef
    pub not_changed_else : {j : ℕ} → guarded_field t y j ≡ true → NumberIn rs c y j 500 → NumberIn rs' c y j 1 → (row_at t row).a ≢ op_write_ref → Done → ⊥
    not_changed_else g a b f s = f (writer g a b (λ e. omega arith) s).1.0

    -- it changes by a WriteRef through a reference to another field, or to that field of another record, or through a read-only one
    pub not_changed_through : {j : ℕ} {r : Value} {under : List Value} → guarded_field t y j ≡ true → NumberIn rs c y j 500 → NumberIn rs' c y j 1 → ops ≡ r ∷ under → r ≢ refer true (to_field c y j) → Done → ⊥
    not_changed_through g a b e f s = let w = (writer g a b (λ q. omega arith) s).1.1 in f (cc (e, w.1))

    -- it changes in another module than the one that declares the type; in a guest
    pub not_changed_outside : {j : ℕ} → guarded_field t y j ≡ true → NumberIn rs c y j 500 → NumberIn rs' c y j 1 → declarer t y ≢ module_of t p → Done → ⊥
    not_changed_outside {j} g a b f s = let w = writer g a b (λ e. omega arith) s in f ((proper_of s).own c y j w.0 g w.1 ∙ (safe-state s).ready.stands_in)

    pub not_changed_by_guest : {j : ℕ} → guarded_field t y j ≡ true → NumberIn rs c y j 500 → NumberIn rs' c y j 1 → guest t p ≡ true → Done → ⊥
    not_changed_by_guest g a b d s = not-in_guest t ix row id p i ops ls fs rs st n (Memᴰ.head refl) d g (operand (head_of (writer g a b (λ e. omega arith) s).1.1.1)) s

    -- it stays although another number was written to it
    pub not_unwritten : {j : ℕ} {under : List Value} → guarded_field t y j ≡ true → (row_at t row).a ≡ op_write_ref → ops ≡ refer true (to_field c y j) ∷ num 1 ∷ under → NumberIn rs c y j 500 → NumberIn rs' c y j 500 → Done → ⊥
    not_unwritten {j} {under} g e d a b s = ((proper_of s).changed c y j 500 500 g a b).1 (1, (e, (under, d)), λ q. omega arith) refl

    -- another number is there than the one written
    pub not_miswritten : {j : ℕ} {under : List Value} → (row_at t row).a ≡ op_write_ref → ops ≡ refer true (to_field c y j) ∷ num 1 ∷ under → NumberIn rs c y j 500 → NumberIn rs' c y j 2 → Done → ⊥
    not_miswritten {j} {under} e d a b s = omega (arith, (proper_of s).written c y j 500 2 1 a b (e, (under, d)))

    -- `fields`: a number, guarded or not, or a nested record changes by another instruction than WriteRef
    pub not_altered : {vs vs' : List Value} → nth rs c ≡ some (here y vs) → nth rs' c ≡ some (here y vs') → vs' ≢ vs → (row_at t row).a ≢ op_write_ref → Done → ⊥
    not_altered {vs} {vs'} a b f g s = ⊎_elim (λ e. f e) (λ e. g e.3.0) ((proper_of s).fields c y vs vs' a b)

    -- two records that stand in fields are swapped, by any instruction
    pub not_swapped : {c₁ c₂ y₁ y₂ : ℕ} {vs vs' : List Value} (j : ℕ) → nth rs c ≡ some (here y vs) → nth rs' c ≡ some (here y vs') → nth vs j ≡ some (obj c₁ y₁) → nth vs' j ≡ some (obj c₂ y₂) → c₁ ≢ c₂ → Done → ⊥
    not_swapped {c₁} {c₂} {y₁} {y₂} {vs} {vs'} j a b d e f s =
        ⊎_elim (λ q. f (cc (d, e, q)))
        (λ q. let w : nth (set vs q.0 (num q.1)) j ≡ some (obj c₂ y₂) = cc (e, q.2) in ⊎_elim (λ u. clash (cc u.1)) (λ u. f (cc (d, u))) (nth-set vs q.0 j (num q.1) (obj c₂ y₂) w))
        ((proper_of s).fields c y vs vs' a b)

    -- CLAUSE 4, `made`, `fresh`
    -- a record is made by another instruction than Pack of its type
    pub not_made_else : Exists rs' c y → ¬ (Exists rs c y) → (row_at t row).a ≢ op_pack → Done → ⊥
    not_made_else a b f s = f ((proper_of s).made c y a b).opcode

    pub not_made_other : Exists rs' c y → ¬ (Exists rs c y) → (row_at t row).b ≢ y → Done → ⊥
    not_made_other a b f s = f ((proper_of s).made c y a b).operand

    -- it is made of a type that does not exist
    pub not_made_of_none : Exists rs' c y → ¬ (Exists rs c y) → type_count t ≤ y → Done → ⊥
    not_made_of_none a b l s = omega (arith, ((proper_of s).made c y a b).there, l)

    -- it is made in another module than the one that declares the type, a guest for instance
    pub not_made_outside : Exists rs' c y → ¬ (Exists rs c y) → declarer t y ≢ module_of t p → Done → ⊥
    not_made_outside a b f s = f (((proper_of s).made c y a b).own ∙ (safe-state s).ready.stands_in)

    -- it is made as one that was there before; one that was broken up exists again
    pub not_made_again : Exists rs' c y → ¬ (Exists rs c y) → c < length rs → Done → ⊥
    not_made_again a b l s = omega (arith, (proper_of s).fresh c y a b, l)

    pub not_revived : {y' : ℕ} → nth rs c ≡ some (gone y') → Exists rs' c y → Done → ⊥
    not_revived {y'} e a s = not_made_again a (λ b. clash (cc (b.1, e))) (nth_inside rs c (gone y') e) s

    -- a record turns into one of another type
    pub not_retyped : {y' : ℕ} → Exists rs c y' → Exists rs' c y → y' ≢ y → Done → ⊥
    not_retyped {y'} a b f s = not_made_again b (λ d. f (cc (a.1, d.1))) (nth_inside rs c (here y' a.0) a.1) s

    -- `broken`: a record is broken up by another instruction than Unpack, or by a step of another module
    pub not_broken_else : Exists rs c y → ¬ (Exists rs' c y) → (row_at t row).a ≢ op_unpack → Done → ⊥
    not_broken_else a b f s = f ((proper_of s).broken c y a b).opcode

    pub not_broken_outside : Exists rs c y → ¬ (Exists rs' c y) → declarer t y ≢ module_of t p → Done → ⊥
    not_broken_outside a b f s = f (((proper_of s).broken c y a b).own ∙ (safe-state s).ready.stands_in)

    -- `published`: a record becomes an entry by another instruction than MoveTo, or by a step of another module
    pub not_published_else : Exists rs' c y → InStore st' c → ¬ (InStore st c) → (row_at t row).a ≢ op_move_to → Done → ⊥
    not_published_else e a b f s = f ((proper_of s).published c y e a b).opcode

    pub not_published_outside : Exists rs' c y → InStore st' c → ¬ (InStore st c) → declarer t y ≢ module_of t p → Done → ⊥
    not_published_outside e a b f s = f (((proper_of s).published c y e a b).own ∙ (safe-state s).ready.stands_in)

    -- `withdrawn`: an entry's record stops being one by another instruction than MoveFrom, or by a step of another module
    pub not_withdrawn_else : Exists rs c y → InStore st c → ¬ (InStore st' c) → (row_at t row).a ≢ op_move_from → Done → ⊥
    not_withdrawn_else e a b f s = f ((proper_of s).withdrawn c y e a b).opcode

    pub not_withdrawn_outside : Exists rs c y → InStore st c → ¬ (InStore st' c) → declarer t y ≢ module_of t p → Done → ⊥
    not_withdrawn_outside e a b f s = f (((proper_of s).withdrawn c y e a b).own ∙ (safe-state s).ready.stands_in)

    -- `packs`: Pack makes a record of other fields than it takes, or under another identity than the next
    pub not_other_fields : {vs : List Value} (us rest : List Value) → nth rs' c ≡ some (here y vs) → ¬ (Exists rs c y) → ops ≡ pushed_on us rest → length us ≡ length vs → us ≢ vs → Done → ⊥
    not_other_fields {vs} us rest e f g l h s = let z = ((proper_of s).packs c y vs e f).1 in h (pushed-same us vs rest z.0 l (sym g ∙ z.1)).0

    pub not-ahead : Exists rs' c y → ¬ (Exists rs c y) → c ≢ length rs → Done → ⊥
    not-ahead e f g s = g ((proper_of s).packs c y e.0 e.1 f).0

    -- `unpacks`, `keyed`, `unkeyed`: another record is broken up than the one taken; another is published, or one under another address; one is withdrawn
    -- from another address
    pub not_broken_other : {v : Value} {rest : List Value} → Exists rs c y → ¬ (Exists rs' c y) → ops ≡ v ∷ rest → v ≢ obj c y → Done → ⊥
    not_broken_other e f g h s = let z = (proper_of s).unpacks c y e f in h (cc (g, z.1))

    pub not_published_other : {a : ℕ} {v w : Value} {rest : List Value} → IsEntry st' y a c → ¬ (IsEntry st y a c) → ops ≡ w ∷ v ∷ rest → (v ≢ obj c y) ⊎ (w ≢ num a) → Done → ⊥
    not_published_other {a} e f g h s = let z = (proper_of s).keyed y a c e f in ⊎_elim (λ q. q (cc (g, z.1))) (λ q. q (cc (g, z.1))) h

    pub not_withdrawn_other : {a : ℕ} {w : Value} {rest : List Value} → IsEntry st y a c → ¬ (IsEntry st' y a c) → ops ≡ w ∷ rest → w ≢ num a → Done → ⊥
    not_withdrawn_other {a} e f g h s = let z = (proper_of s).unkeyed y a c e f in h (cc (g, z.1))

    -- `entered`, `left`: an entry changes its key in one step, though its record stays one
    pub not_rekeyed : {a y' a' : ℕ} → IsEntry st y a c → ¬ (IsEntry st' y a c) → IsEntry st' y' a' c → ¬ (IsEntry st y' a' c) → Done → ⊥
    not_rekeyed {a} {y'} {a'} k l m o s = omega (arith, ((proper_of s).left y a c k l).opcode, ((proper_of s).entered y' a' c m o).opcode)

  -- identities of records are given back
  pub not_forgotten : length rs' < length rs → Done → ⊥
  not_forgotten l s = omega (arith, (proper_of s).grows, l)

  -- FRAMES, `Handed`
  -- the running frame changes its procedure or identity by a step that is no Call or Ret; a Call enters another procedure than it names
  pub not_another_running : {f : Frame} {gs : List Frame} → fs' ≡ f ∷ gs → (row_at t row).a ≢ op_call → (row_at t row).a ≢ op_ret → (procedure f ≢ p) ⊎ (identity f ≢ id) → Done → ⊥
  not_another_running e a b f s = let z = runs_on e a b (handed_of s) in ⊎_elim (λ u. u z.0) (λ u. u z.1) f

  pub not_another_callee : {f : Frame} {gs : List Frame} → (row_at t row).a ≡ op_call → fs' ≡ f ∷ gs → procedure f ≢ (row_at t row).b → Done → ⊥
  not_another_callee e d f s = f (called_as e d (handed_of s)).2

  -- records are swapped with those of a suspended frame: frames under the running one change by a step that is no WriteRef, Call or Ret
  pub not_reached_under : {g : Frame} {gs : List Frame} → fs' ≡ g ∷ gs → (row_at t row).a ≢ op_write_ref → (row_at t row).a ≢ op_call → (row_at t row).a ≢ op_ret → gs ≢ fs → Done → ⊥
  not_reached_under {g} {gs} e a b c f s = f (under_same g gs e a b c (handed_of s))

  -- a Call changes the frames under the caller; a Ret those under it
  pub not_reached_by_call : {f g : Frame} {gs : List Frame} → (row_at t row).a ≡ op_call → fs' ≡ f ∷ g ∷ gs → gs ≢ fs → Done → ⊥
  not_reached_by_call e d f s = f (call-under e d (handed_of s)).0

  pub not_reached_by_ret : {f g : Frame} {gs rest : List Frame} → (row_at t row).a ≡ op_ret → fs ≡ f ∷ rest → fs' ≡ g ∷ gs → gs ≢ rest → Done → ⊥
  not_reached_by_ret e c d f s = f (ret-under e c d (handed_of s))

  -- by a WriteRef a suspended frame comes to a record that it did not hold
  pub not_swapped_by_write : {g : Frame} {c y : ℕ} → (row_at t row).a ≡ op_write_ref → Mem g fs' → Holds g (obj c y) → identity g ≢ id → ((g' : Frame) → Mem g' fs → identity g' ≡ identity g → ¬ (Holds g' (obj c y))) → Done → ⊥
  not_swapped_by_write e m h d f s = let w = write_under e m h d (handed_of s) in f w.0 w.1 w.3 w.2

  -- a called frame does not get the count of frames as its identity, or the count stays
  pub not_an_old_frame : {f : Frame} {gs : List Frame} → (row_at t row).a ≡ op_call → fs' ≡ f ∷ gs → identity f ≢ n → Done → ⊥
  not_an_old_frame e d f s = f (called_as e d (handed_of s)).0

  pub not_uncounted : {f : Frame} {gs : List Frame} → (row_at t row).a ≡ op_call → fs' ≡ f ∷ gs → n' ≢ n + 1 → Done → ⊥
  not_uncounted e d f s = f (called_as e d (handed_of s)).1

  -- a called frame gets another value for a parameter than the Call takes there; the caller gets another result than Ret takes
  pub not_another_parameter : {id' p' i' : ℕ} {ops' vs rest : List Value} {ls' : List (Option Value)} {gs : List Frame} {v : Value} (j : ℕ) → (row_at t row).a ≡ op_call → fs' ≡ frame id' p' i' ops' ls' ∷ gs → Takes t ix p i ops vs rest
      → nth vs j ≡ some v → nth ls' j ≢ some (some v) → Done → ⊥
  not_another_parameter {v} j e d w q f s = f (called_with e d w (handed_of s) j v q)

  pub not_another_result : {id' p' i' id'' p'' i'' : ℕ} {ops' ops'' rest : List Value} {ls' ls'' : List (Option Value)} {gs hs : List Frame} {v : Value} → (row_at t row).a ≡ op_ret → fs ≡ frame id' p' i' ops' ls' ∷ gs
      → fs' ≡ frame id'' p'' i'' ops'' ls'' ∷ hs → Takes t ix p i ops (v ∷ []) rest → ops'' ≢ v ∷ ops' → Done → ⊥
  not_another_result e g d w f s = f (returned-to e g d w (handed_of s)).0

  -- the caller keeps what the Call takes, or goes on elsewhere than after its Call
  pub not_kept_by_caller : {f : Frame} {id' p' i' : ℕ} {ops' vs rest : List Value} {ls' : List (Option Value)} {gs : List Frame} → (row_at t row).a ≡ op_call → fs' ≡ f ∷ frame id' p' i' ops' ls' ∷ gs → Takes t ix p i ops vs rest
      → ops' ≢ rest → Done → ⊥
  not_kept_by_caller e d w f s = f (left_with e d w (handed_of s))

  pub not_returned_elsewhere : {id' p' i' id'' p'' i'' : ℕ} {ops' ops'' vs rest : List Value} {ls' ls'' : List (Option Value)} {gs hs : List Frame} → (row_at t row).a ≡ op_ret → fs ≡ frame id' p' i' ops' ls' ∷ gs
      → fs' ≡ frame id'' p'' i'' ops'' ls'' ∷ hs → Takes t ix p i ops vs rest → i'' ≢ i' + 1 → Done → ⊥
  not_returned_elsewhere e g d w f s = f (returned-to e g d w (handed_of s)).1

  -- REFERENCES, `Origin`
  module _ {j : ℕ} {ops' : List Value} {ls' : List (Option Value)} {gs : List Frame} (top : fs' ≡ frame id p j ops' ls' ∷ gs) where
    came : {v : Value} → IsReference v → Holds (frame id p j ops' ls') v → Done → Holds (frame id p i ops ls) v ⊎ Makes t row id p ops (frame id p i ops ls ∷ fs) rs st v
    came {v} r h s = let o : Origin t ix row id p i ops ls fs rs st (frame id p j ops' ls' ∷ gs) = rw top at (origin_of s) in o refl v r h

    -- the running frame comes to a reference to a field of another record than the one that BorrowFld's operand leads to
    pub not_another : {w : Bool} {c y k d : ℕ} {r : Value} {rest fields : List Value} → Holds (frame id p j ops' ls') (refer w (to_field c y k)) → ¬ (Holds (frame id p i ops ls) (refer w (to_field c y k))) → ops ≡ r ∷ rest
        → target (frame id p i ops ls ∷ fs) rs r ≡ a_record d fields → c ≢ d → Done → ⊥
    not_another h m e z f s = ⊎_elim (λ q. m q) (λ q. f (to-field refl e z q)) (came tt h s)

    -- the same where the operand is a reference to a record; to a local that holds a record
    pub not_another_record : {w u : Bool} {c y k c' y' : ℕ} {rest : List Value} → Holds (frame id p j ops' ls') (refer w (to_field c y k)) → ¬ (Holds (frame id p i ops ls) (refer w (to_field c y k))) → ops ≡ refer u (to_record c' y') ∷ rest → c ≢ c' → Done → ⊥
    not_another_record h m e f s = ⊎_elim (λ q. m q) (λ q. f (through_record refl e q)) (came tt h s)

    pub not_another_local : {w u : Bool} {c y k g l z c' y' : ℕ} {rest : List Value} → Holds (frame id p j ops' ls') (refer w (to_field c y k)) → ¬ (Holds (frame id p i ops ls) (refer w (to_field c y k))) → ops ≡ refer u (to_local g l z) ∷ rest
        → local_of (frame id p i ops ls ∷ fs) g l ≡ some (obj c' y') → c ≢ c' → Done → ⊥
    not_another_local h m e d f s = ⊎_elim (λ q. m q) (λ q. f (through-local refl e d q)) (came tt h s)

    -- BorrowFld gives a reference to another record than the one that stands in the field
    pub not_another_nested : {w : Bool} {c y c' y' d : ℕ} {r : Value} {rest fields : List Value} → Holds (frame id p j ops' ls') (refer w (to_record c y)) → ¬ (Holds (frame id p i ops ls) (refer w (to_record c y))) → (row_at t row).a ≡ op_borrow_fld → ops ≡ r ∷ rest
        → target (frame id p i ops ls ∷ fs) rs r ≡ a_record d fields → nth fields ((row_at t row).b % 8) ≡ some (obj c' y') → c ≢ c' → Done → ⊥
    not_another_nested h m g e z k f s = ⊎_elim (λ q. m q) (λ q. f (to_nested refl g e z k q)) (came tt h s)

    -- BorrowLoc gives a reference to a local of another frame
    pub not_another_frame : {f l k : ℕ} → Holds (frame id p j ops' ls') (refer true (to_local f l k)) → ¬ (Holds (frame id p i ops ls) (refer true (to_local f l k))) → f ≢ id → Done → ⊥
    not_another_frame h m f s = ⊎_elim (λ q. m q) (λ q. f (to-local refl q)) (came tt h s)

    -- BorrowGlobal gives a reference to another record than the one under the key
    pub not_another_entry : {w : Bool} {c y a : ℕ} {rest : List Value} → Holds (frame id p j ops' ls') (refer w (to_record c y)) → ¬ (Holds (frame id p i ops ls) (refer w (to_record c y))) → (row_at t row).a ≡ op_borrow_global → ops ≡ num a ∷ rest → ¬ (IsEntry st y a c)
        → Done → ⊥
    not_another_entry h m g e f s = ⊎_elim (λ q. m q) (λ q. f (to_entry refl g e q)) (came tt h s)

    -- it comes to a reference that a suspended frame holds, or no frame, by a step that neither borrows nor freezes
    pub not_from_under : {v : Value} → IsReference v → Holds (frame id p j ops' ls') v → ¬ (Holds (frame id p i ops ls) v) → (row_at t row).a ≢ op_borrow_loc → (row_at t row).a ≢ op_borrow_fld → (row_at t row).a ≢ op_borrow_global → (row_at t row).a ≢ op_freeze
        → Done → ⊥
    not_from_under r h m a b c d s = ⊎_elim (λ q. m q) (λ q. ⊎_elim (λ u. a u) (λ u. ⊎_elim (λ w. b w) (λ w. ⊎_elim (λ x. c x) (λ x. d x) w) u) (borrows q)) (came r h s)

    -- by Freeze it comes to another reference than the read-only one to what the operand leads to
    pub not_frozen_else : {w : Bool} {q : Ref} {v : Value} {rest : List Value} → IsReference v → Holds (frame id p j ops' ls') v → ¬ (Holds (frame id p i ops ls) v) → (row_at t row).a ≡ op_freeze → ops ≡ refer w q ∷ rest → v ≢ refer false q
        → Done → ⊥
    not_frozen_else r h m g e f s = ⊎_elim (λ q. m q) (λ q. f (to_frozen g e q)) (came r h s)

    -- where it comes to a writable reference, the step lends one
    lent : {r : Ref} → Holds (frame id p j ops' ls') (refer true r) → ¬ (Holds (frame id p i ops ls) (refer true r)) → Done → Lends t row ops
    lent h m s = ⊎_elim (λ q. absurd (m q)) (λ q. lends refl q) (came tt h s)

    -- by Freeze it comes to a writable one
    pub not_thawed : {r : Ref} → Holds (frame id p j ops' ls') (refer true r) → ¬ (Holds (frame id p i ops ls) (refer true r)) → (row_at t row).a ≡ op_freeze → Done → ⊥
    not_thawed h m g s = ⊎_elim (λ u. omega (arith, u, g)) (λ u. ⊎_elim (λ w. omega (arith, w, g)) (λ w. omega (arith, w.0, g)) u) (lent h m s)

    -- by BorrowFld through a read-only reference it comes to a writable one
    pub not_lent_writable : {r q : Ref} {rest : List Value} → Holds (frame id p j ops' ls') (refer true r) → ¬ (Holds (frame id p i ops ls) (refer true r)) → (row_at t row).a ≡ op_borrow_fld → ops ≡ refer false q ∷ rest → Done → ⊥
    not_lent_writable {q} h m g e s =
        ⊎_elim (λ u. omega (arith, u, g)) (λ u. ⊎_elim (λ w. omega (arith, w, g)) (λ w. let x : w.1.0 ≡ refer false q = cc (w.1.2, e) in clash (cc (sym w.1.3 ∙ ap writable x))) u) (lent h m s)
