-- Wrong states are not safe: for each clause of the claim about a moment, the wrong machines that it shuts out. `ShutSteps` has those of steps, `ShutCalls` those of calls and lists.
use Prim.Native.Nat.{ℕ, ◌+◌, ◌/◌, ◌<◌, ◌≤◌}
use mathlib.Core.Path.{◌≡◌, refl, ap, sym, subst, ◌∙◌}
use mathlib.Core.Bool.{Bool, true, false}
use mathlib.Core.List.Memᴰ
use mathlib.Core.List.{List, [], ◌∷◌, ◌++◌, map}
use mathlib.Core.Logic.{⊎_elim, ◌≢◌}
use mathlib.Core.Option.{Option, some}
use native.Mathlib.Omega.{arith}
use borrow.Author.Tests.{ne_eqb}
use lib.ListN.{length, get_elem? as nth, length-map}
use Rattle.table.specs.declared.index.Index.{Index}
use Rattle.table.specs.Format.{instruction_kind, op_read_ref, op_write_ref, op_borrow_fld, op_call, op_ret, op_freeze}
use Rattle.table.specs.Rows.{row_at, kind_at}
use Rattle.table.specs.Index.{owner_at}
use Rattle.declarations.specs.Program.{number, number_ref, record_of, record_ref, frozen, is_reference, procedure_in, local_kind, local_count}
use Rattle.arithmetic.specs.Arithmetic.{past_numbers}
use Rattle.semantics.specs.Limits.{budget_spent, stale_reference}
use Rattle.reach.specs.Reach.{Mem}
use Rattle.effects.specs.Kinds.{good}
use Rattle.effects.specs.Effects.{Effect, effects, reads}
use Rattle.operands.specs.Operands.{kinds_before}
use Rattle.semantics.specs.Machine.{to_local, to_field, to_record, Value, value_kind, num, obj, refer, Cell, gone, here, Entry, Frame, frame, State, state, Outcome, finished, stopped, stuck}
use Rattle.semantics.specs.Step.{pushed_on, instruction, effect_at, step}
use Rattle.semantics.specs.History.{moment}
use Rattle.semantics.specs.Ownership.{in_frames, in_records, in_store}
use Rattle.semantics.specs.Words.{procedure_count, module_of, declarer, in_guest, guest, guarded_field, kinds_in, body_of, instruction_row, Holds, local, Exists, NumberIn, IsEntry}
use Rattle.semantics.specs.Claim.{IsReference, Plain, Rising, Typed, Takes, Ready, SafeOutcome, goes, returns_last, stops, Safe, safe}
use Rattle.semantics.proofs.Changes.{clash}
use Rattle.semantics.proofs.Instructions.{effect-at}
use Rattle.semantics.proofs.Owning.{held_once, in_cells, entry-counted, lives_once}
use Rattle.semantics.proofs.Labels.{held-counted}
use Rattle.semantics.proofs.Handing.{all_out, taken_shape}
use Rattle.semantics.proofs.Consequences.{safe-state, taken-kinds, length-pushed, pushed-same, identity, procedure, row_of, label, placed, stands, rises, risen, number-there}
use Rattle.semantics.proofs.ReadOnly.{freeze-goes_on, read_only_kept}

-- A moment: frame id of procedure p is at instruction i over the frames fs, and `row` is told
module _ (t : List ℕ) (ix : Index) (row id p i : ℕ) (ops : List Value) (ls : List (Option Value)) (fs : List Frame) (rs : List Cell) (st : List Entry) (n : ℕ) where
  -- it is safe with this outcome
  abbrev pub SafeWith : Outcome → Type 0
  SafeWith o = Safe t ix (moment (state (frame id p i ops ls ∷ fs) rs st n) row o)

  ready_of : {o : Outcome} → SafeWith o → Ready t ix row p i ops (state (frame id p i ops ls ∷ fs) rs st n)
  ready_of s = (safe-state s).ready

  -- CLAUSE 1, `Ready`; the outcome o is any, a stop with 31 too
  -- the running frame has fewer operands than the instruction that comes up takes
  pub not-missing : {o : Outcome} → length ops < length (effect_at t ix p i ops).takes → SafeWith o → ⊥
  not-missing l s =
      let z = (ready_of s).operands in
      let e = taken_shape (effect_at t ix p i ops).takes ops z.0 z.1 z.2 in
      let k = taken-kinds (effect_at t ix p i ops).takes ops z.0 z.1 z.2 in
      omega (arith, ap length e ∙ length-pushed z.0 z.1, sym (length-map z.0 value_kind) ∙ ap length k)

  -- an operand is of another sort or type than the one taken there
  pub not_another_kind : {o : Outcome} (vs rest : List Value) → ops ≡ pushed_on vs rest → length vs ≡ length (effect_at t ix p i ops).takes → map value_kind vs ≢ (effect_at t ix p i ops).takes → SafeWith o → ⊥
  not_another_kind vs rest e l f s =
      let z = (ready_of s).operands in
      let d = taken_shape (effect_at t ix p i ops).takes ops z.0 z.1 z.2 in
      let k = taken-kinds (effect_at t ix p i ops).takes ops z.0 z.1 z.2 in
      let same = pushed-same z.0 vs z.1 rest (sym (length-map z.0 value_kind) ∙ ap length k ∙ sym l) (sym d ∙ e) in
      f (ap (map value_kind) (sym same.0) ∙ k)

  -- a number where a reference to a number is taken, as by StLoc or Call, also where the budget is spent there
  pub not-a_number : {x : ℕ} {under : List Value} → (effect_at t ix p i ops).takes ≡ number_ref ∷ [] → ops ≡ num x ∷ under → SafeWith (stopped budget_spent) → ⊥
  not-a_number {x} {under} e d = not_another_kind (num x ∷ []) under d (ap length (sym e)) (λ q. clash (let z : number ∷ [] ≡ number_ref ∷ [] = q ∙ e in let w : number ≡ number_ref = cc in omega (arith, w)))

  -- its local, or the top operand, is unfit: a number at ReadRef for instance; it is stuck
  pub not_unfit : {o : Outcome} → (effect_at t ix p i ops).fit ≡ false → SafeWith o → ⊥
  not_unfit e s = clash (cc (e, (ready_of s).fit))

  pub not_read_number : {o : Outcome} {x : ℕ} {under : List Value} → (instruction t ix p i).a ≡ op_read_ref → ops ≡ num x ∷ under → SafeWith o → ⊥
  unfolding instruction effect_at effects reads
  not_read_number e d = not_unfit (ap (λ (l : List Value). (effect_at t ix p i l).fit) d ∙ ap (λ (y : Effect). y.fit) (effect-at t ix (procedure_in ix p) i op_read_ref number e))

  pub not_borrowed_record : {o : Outcome} {c y : ℕ} {under : List Value} → (instruction t ix p i).a ≡ op_borrow_fld → ops ≡ obj c y ∷ under → SafeWith o → ⊥
  unfolding instruction effect_at effects reads
  not_borrowed_record {y} e d =
      not_unfit (ap (λ (l : List Value). (effect_at t ix p i l).fit) d ∙ ap (λ (x : Effect). x.fit) (effect-at t ix (procedure_in ix p) i op_borrow_fld (record_of y) e)
      ∙ rw (ne_eqb (record_of y) (record_ref ((instruction t ix p i).b / 8)) (λ z. omega (arith, z)), ne_eqb (record_of y) (frozen (record_ref ((instruction t ix p i).b / 8))) (λ z. omega (arith, z))))

  -- the operands have other kinds than the judge found: one is read-only to the judge and writable in the frame
  pub not_other_kinds : {o : Outcome} → kinds_before t ix (procedure_in ix p) i ≢ good (map value_kind ops) → SafeWith o → ⊥
  not_other_kinds e s = e (ready_of s).kinds

  pub not_stuck : {o : Outcome} → step t ix (state (frame id p i ops ls ∷ fs) rs st n) ≡ stuck → SafeWith o → ⊥
  not_stuck e s = (ready_of s).moves e

  comes : {o : Outcome} → SafeOutcome t ix row id p i ops ls fs rs st n o → o ≡ stuck → ⊥
  comes (goes u a b c d g) e = clash (cc)
  comes (returns_last a b c) e = clash (cc)
  comes (stops f) e = clash (cc)

  pub not_told_stuck : SafeWith stuck → ⊥
  not_told_stuck (safe s d) = comes d refl

  -- WriteRef comes up with a read-only reference: to a field; to a local
  pub not_written_through : {o : Outcome} {c y j : ℕ} {rest : List Value} → (row_at t row).a ≡ op_write_ref → ops ≡ refer false (to_field c y j) ∷ rest → SafeWith o → ⊥
  not_written_through {c} {y} {j} {rest} e d s = read_only_kept s e (to_field c y j) rest d

  pub not_written_to_local : {o : Outcome} {f l k : ℕ} {rest : List Value} → (row_at t row).a ≡ op_write_ref → ops ≡ refer false (to_local f l k) ∷ rest → SafeWith o → ⊥
  not_written_to_local {f} {l} {k} {rest} e d s = read_only_kept s e (to_local f l k) rest d

  -- Freeze stops at a stale reference
  pub not_stale_freeze : (row_at t row).a ≡ op_freeze → SafeWith (stopped stale_reference) → ⊥
  not_stale_freeze e s = omega (arith, freeze-goes_on s e)

  -- the row told is no instruction, of another place, behind the procedure's last row, in another module, or of no procedure
  pub not_other_row : {o : Outcome} → kind_at t row ≢ instruction_kind → SafeWith o → ⊥
  not_other_row f s = f (ready_of s).kind

  pub not_other_place : {o : Outcome} → row ≢ instruction_row t p i → SafeWith o → ⊥
  not_other_place f s = f (ready_of s).place

  pub not_past_end : {o : Outcome} → (body_of t p).end ≤ row → SafeWith o → ⊥
  not_past_end l s = omega (arith, (ready_of s).inside, l)

  pub not_other_module : {o : Outcome} → owner_at t row ≢ module_of t p → SafeWith o → ⊥
  not_other_module f s = f (ready_of s).stands_in

  pub not-no_procedure : {o : Outcome} → procedure_count t ≤ p → SafeWith o → ⊥
  not-no_procedure l s = omega (arith, (ready_of s).procedure, l)

  -- another instruction is done than the row told; a guest's row is done for a procedure of a trusted module, or the other way round
  pub not_another_instruction : {o : Outcome} → instruction t ix p i ≢ row_at t row → SafeWith o → ⊥
  not_another_instruction f s = f (ready_of s).found

  pub not_guests_row : {o : Outcome} → in_guest t row ≢ guest t p → SafeWith o → ⊥
  not_guests_row f s = f (ready_of s).guests

  -- CLAUSE 2, `Kept`, of any frame, running or suspended
  module _ {o : Outcome} {id' p' i' : ℕ} {ops' : List Value} {ls' : List (Option Value)} (among : Mem (frame id' p' i' ops' ls') (frame id p i ops ls ∷ fs)) where
    -- a frame of a guest holds a writable reference to a guarded field
    pub not-in_guest : {c y j : ℕ} → guest t p' ≡ true → guarded_field t y j ≡ true → Holds (frame id' p' i' ops' ls') (refer true (to_field c y j)) → SafeWith o → ⊥
    not-in_guest {c} {y} {j} g d h s = let z = all_out (safe-state s).kept _ among (refer true (to_field c y j)) h (c, y, j, refl, d) in clash (cc (g, z.0))

    -- a frame of another trusted module than the declaring one holds one
    pub not_in_another : {c y j : ℕ} → declarer t y ≢ module_of t p' → guarded_field t y j ≡ true → Holds (frame id' p' i' ops' ls') (refer true (to_field c y j)) → SafeWith o → ⊥
    not_in_another {c} {y} {j} f d h s = f ((all_out (safe-state s).kept _ among (refer true (to_field c y j)) h (c, y, j, refl, d)).1 c y j refl)

  -- a suspended frame of a guest keeps one in a local, after the record was unpacked
  pub not_stale_in_guest : {o : Outcome} {id' p' i' c y j : ℕ} {ops' : List Value} {ls' : List (Option Value)} (l : ℕ) → Mem (frame id' p' i' ops' ls') fs → guest t p' ≡ true → guarded_field t y j ≡ true
      → nth ls' l ≡ some (some (refer true (to_field c y j))) → nth rs c ≡ some (gone y) → SafeWith o → ⊥
  not_stale_in_guest l m g d e stale s = not-in_guest (Memᴰ.tail m) g d (local l e) s

  -- LABELS, `Typed`, of any frame
  module _ {o : Outcome} {id' p' i' : ℕ} {ops' : List Value} {ls' : List (Option Value)} (among : Mem (frame id' p' i' ops' ls') (frame id p i ops ls ∷ fs)) where
    typed_of : SafeWith o → Typed t (frame id p i ops ls ∷ fs) rs n (frame id' p' i' ops' ls')
    typed_of s = all_out (safe-state s).types _ among

    -- a frame holds a record under another type than it has; one that was broken up
    pub not_mislabelled : {c y y' : ℕ} {vs : List Value} → Holds (frame id' p' i' ops' ls') (obj c y) → nth rs c ≡ some (here y' vs) → y' ≢ y → SafeWith o → ⊥
    not_mislabelled {c} {y} h e f s = let z = label (typed_of s) (obj c y) h in f (cc (e, z.1))

    pub not_dead : {c y y' : ℕ} → Holds (frame id' p' i' ops' ls') (obj c y) → nth rs c ≡ some (gone y') → SafeWith o → ⊥
    not_dead {c} {y} h e s = let z = label (typed_of s) (obj c y) h in clash (cc (e, z.1))

    -- a reference to a field that is no number of the type, or names a record by another type
    pub not_no_field : {w : Bool} {c y j : ℕ} → Holds (frame id' p' i' ops' ls') (refer w (to_field c y j)) → nth (kinds_in t y) j ≢ some number → SafeWith o → ⊥
    not_no_field {w} {c} {y} {j} h f s = f (label (typed_of s) (refer w (to_field c y j)) h).1

    pub not_other_type : {w : Bool} {c y j y' : ℕ} {vs : List Value} → Holds (frame id' p' i' ops' ls') (refer w (to_field c y j)) → nth rs c ≡ some (here y' vs) → y' ≢ y → SafeWith o → ⊥
    not_other_type {w} {c} {y} {j} h e f s = ⊎_elim (λ q. clash (cc (e, q))) (λ q. f (cc (e, q.1))) (label (typed_of s) (refer w (to_field c y j)) h).0

    -- a number of more than 64 bits
    pub not-too_large : {x : ℕ} → Holds (frame id' p' i' ops' ls') (num x) → past_numbers ≤ x → SafeWith o → ⊥
    not-too_large {x} h l s = omega (arith, label (typed_of s) (num x) h, l)

    -- a reference to a record under another type; to a local that holds a reference; to a local of a frame that is yet to come
    pub not_record_of_other : {w : Bool} {c y y' : ℕ} {vs : List Value} → Holds (frame id' p' i' ops' ls') (refer w (to_record c y)) → nth rs c ≡ some (here y' vs) → y' ≢ y → SafeWith o → ⊥
    not_record_of_other {w} {c} {y} h e f s = ⊎_elim (λ q. clash (cc (e, q))) (λ q. f (cc (e, q.1))) (label (typed_of s) (refer w (to_record c y)) h)

    pub not_to_reference : {w : Bool} {f l k : ℕ} → Holds (frame id' p' i' ops' ls') (refer w (to_local f l k)) → is_reference k ≡ true → SafeWith o → ⊥
    not_to_reference {w} {f} {l} {k} h e s = let z = (label (typed_of s) (refer w (to_local f l k)) h).1 in clash (cc (e, z))

    pub not_to_come : {w : Bool} {f l k : ℕ} → Holds (frame id' p' i' ops' ls') (refer w (to_local f l k)) → n ≤ f → SafeWith o → ⊥
    not_to_come {w} {f} {l} {k} h e s = omega (arith, (label (typed_of s) (refer w (to_local f l k)) h).0, e)

    -- a reference to a local has another kind than its procedure declares; so has the value in a local
    pub not_other_local : {w : Bool} {f l k q i'' : ℕ} {ops'' : List Value} {ls'' : List (Option Value)} → Holds (frame id' p' i' ops' ls') (refer w (to_local f l k)) → Mem (frame f q i'' ops'' ls'') (frame id p i ops ls ∷ fs) → local_kind t (body_of t q) l ≢ k
        → SafeWith o → ⊥
    not_other_local {w} {f} {l} {k} {q} {i''} {ops''} {ls''} h m g s = g ((label (typed_of s) (refer w (to_local f l k)) h).2 q i'' ops'' ls'' m).1

    pub not-misplaced : {v : Value} (l : ℕ) → nth ls' l ≡ some (some v) → value_kind v ≢ local_kind t (body_of t p') l → SafeWith o → ⊥
    not-misplaced {v} l e f s = f (placed (typed_of s) l v e).1

    -- a value stands in a local that the procedure does not have
    pub not_no_local : {v : Value} (l : ℕ) → nth ls' l ≡ some (some v) → local_count (body_of t p') ≤ l → SafeWith o → ⊥
    not_no_local {v} l e f s = omega (arith, (placed (typed_of s) l v e).0, f)

  -- RECORDS AND ENTRIES, `Sound`
  -- a record has no number in a number field; an entry's record does not exist, or is of another type than the key's
  pub not_numberless : {o : Outcome} (c y j : ℕ) → Exists rs c y → nth (kinds_in t y) j ≡ some number → ((x : ℕ) → ¬ (NumberIn rs c y j x)) → SafeWith o → ⊥
  not_numberless c y j e d f s = let z = number-there (safe-state s).sound c y j e d in f z.0 z.1

  pub not_entry_of_none : {o : Outcome} {c y a : ℕ} → IsEntry st y a c → ¬ (Exists rs c y) → SafeWith o → ⊥
  not_entry_of_none {c} {y} {a} e f s = f ((safe-state s).sound.entered y a c e)

  pub not_entry_of_other : {o : Outcome} {c y a y' : ℕ} {vs : List Value} → IsEntry st y a c → nth rs c ≡ some (here y' vs) → y' ≢ y → SafeWith o → ⊥
  not_entry_of_other {c} {y} {a} e d f s = let z = (safe-state s).sound.entered y a c e in f (cc (d, z.1))

  -- two records stand under one key
  pub not_two_under_key : {o : Outcome} {y a c c' : ℕ} → IsEntry st y a c → IsEntry st y a c' → c ≢ c' → SafeWith o → ⊥
  not_two_under_key {y = y} {a} {c} {c'} m m' f s = f ((safe-state s).sound.keys y a c c' m m')

  -- a field holds a reference
  pub not_in_a_field : {o : Outcome} (c y : ℕ) {v : Value} {vs : List Value} → nth rs c ≡ some (here y vs) → Mem v vs → IsReference v → SafeWith o → ⊥
  not_in_a_field c y {v} {vs} e m r s = no_reference v r (all_out ((safe-state s).sound.plain c y vs e) v m)
    where
      no_reference : (v : Value) → IsReference v → Plain v → ⊥
      no_reference (num x) r k = r
      no_reference (obj a b) r k = r
      no_reference (refer w x) r k = k

  -- a record is in two places: a frame holds it, and it is an entry or stands in a field
  pub not_in_two_places : {o : Outcome} {c y y' a : ℕ} {f : Frame} → Mem f (frame id p i ops ls ∷ fs) → Holds f (obj c y) → IsEntry st y' a c → SafeWith o → ⊥
  not_in_two_places {c} {y} {y'} {a} {f} m h e s =
      let z = (safe-state s).sound.entered y' a c e in
      omega (arith, (safe-state s).sound.owned c, held-counted c y f (frame id p i ops ls ∷ fs) m h, entry-counted st y' a c e, lives_once rs c y' z.0 z.1)

  pub not_held_and_nested : {o : Outcome} {c y : ℕ} {f : Frame} {vs : List Value} (d z : ℕ) → Mem f (frame id p i ops ls ∷ fs) → Holds f (obj c y) → nth rs d ≡ some (here z vs) → Mem (obj c y) vs → SafeWith o → ⊥
  not_held_and_nested {c} {y} {f} {vs} d z m h e k s =
      let w = ((safe-state s).sound.nested d z vs e c y k).1 in
      omega (arith, (safe-state s).sound.owned c, held-counted c y f (frame id p i ops ls ∷ fs) m h, held_once c y vs k, in_cells c d z rs vs e, lives_once rs c y w.0 w.1)

  -- a record is in no place: it was dropped
  pub not-dropped : {o : Outcome} (c y : ℕ) → Exists rs c y → in_frames c (frame id p i ops ls ∷ fs) + in_records c rs + in_store c st ≡ 0 → SafeWith o → ⊥
  not-dropped c y e z s = omega (arith, z, (safe-state s).sound.owned c, lives_once rs c y e.0 e.1)

  -- a record stands in a field of its own
  pub not_in_itself : {o : Outcome} (c y : ℕ) {y' : ℕ} {vs : List Value} → nth rs c ≡ some (here y vs) → Mem (obj c y') vs → SafeWith o → ⊥
  not_in_itself c y {y'} {vs} e m s = let z = (safe-state s).sound.nested c y vs e c y' m in let w : y ≡ y' = cc (e, z.1.1) in omega (arith, z.0, w)

  -- FRAMES, `Linked` and `Rising`: frame g waits directly under frame f
  module _ {o : Outcome} (above : List Frame) (f g : Frame) (rest : List Frame) (waits : frame id p i ops ls ∷ fs ≡ above ++ (f ∷ g ∷ rest)) where
    -- it stands at no Call, at the Call of another procedure, or is of a procedure that does not exist
    pub not_at_call : (row_at t (row_of t g)).a ≢ op_call → SafeWith o → ⊥
    not_at_call d s = d (stands above f g rest (safe-state s).linked waits).1

    pub not_at_its_call : (row_at t (row_of t g)).b ≢ procedure f → SafeWith o → ⊥
    not_at_its_call d s = d (stands above f g rest (safe-state s).linked waits).2

    pub not_of_none : procedure_count t ≤ procedure g → SafeWith o → ⊥
    not_of_none l s = omega (arith, (stands above f g rest (safe-state s).linked waits).0, l)

    -- its place is behind its procedure's last row
    pub not_behind : (body_of t (procedure g)).end ≤ row_of t g → SafeWith o → ⊥
    not_behind l s = omega (arith, (stands above f g rest (safe-state s).linked waits).3, l)

  -- two frames have one identity
  pub not_one_identity : {o : Outcome} (above : List Frame) (f g : Frame) (rest : List Frame) → frame id p i ops ls ∷ fs ≡ above ++ (f ∷ rest) → Mem g rest → identity g ≡ identity f → SafeWith o → ⊥
  not_one_identity above f g rest e m d s = omega (arith, rises (identity f) g rest (risen above f rest n (subst (λ (l : List Frame). Rising n l) e (safe-state s).rising)) m, d)

  -- THE LAST RET, `returns_last`
  last-ret : {vs : List Value} {z : State} → SafeWith (finished vs z) → ((row_at t row).a ≡ op_ret) × Takes t ix p i ops vs [] × (fs ≡ []) × (z ≡ state [] rs st n)
  last-ret (safe s (returns_last a b c)) = (a, b, c, refl)

  -- a call is done by another instruction than Ret; while a frame waits; with other results than Ret takes; leaving other records or entries than there are
  pub not_halfway : {vs : List Value} {z : State} → (row_at t row).a ≢ op_ret → SafeWith (finished vs z) → ⊥
  not_halfway f s = f (last-ret s).0

  pub not_while_waiting : {vs : List Value} {z : State} {g : Frame} {gs : List Frame} → fs ≡ g ∷ gs → SafeWith (finished vs z) → ⊥
  not_while_waiting e s = let w = (last-ret s).2 in clash (cc (e, w))

  pub not_other_results : {vs us rest : List Value} {z : State} → Takes t ix p i ops us rest → us ≢ vs → SafeWith (finished vs z) → ⊥
  not_other_results d f s = let w = (last-ret s).1 in f (cc (d, w))

  pub not_other_end : {vs : List Value} {z : State} → z ≢ state [] rs st n → SafeWith (finished vs z) → ⊥
  not_other_end f s = f (last-ret s).3
