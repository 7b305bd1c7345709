-- No instruction of an accepted table is stuck, and each keeps what holds: the cases by opcode.
use Prim.Native.Nat.{ℕ, ◌+◌, ◌-◌, ◌/◌, ◌%◌, ◌<◌, ◌≤◌}
use mathlib.Core.Path.{◌≡◌, refl, ap, sym, ◌∙◌}
use mathlib.Core.List.{List, [], ◌∷◌, ◌++◌, map}
use mathlib.Core.Bool.{Bool, true, false, cond, not, or-true, true≢false}
use mathlib.Core.Option.{Option, none, some}
use mathlib.Core.Logic.{◌⊎◌, inl, inr, ⊎_elim}
use native.Mathlib.Omega.{arith}
use lib.ListN.{length, get_or, set, drop, length-append, get_elem? as nth}
use lib.Dec.{eqb, ltb}
use borrow.Author.Tests.{eq-eqb, eqb-true, ltb-true, not-true}
use Rattle.laws.specs.Lists.{tabulate}
use Rattle.laws.proofs.Lists.{length-tabulate}
use Rattle.laws.proofs.Tests.{and_both}
use Rattle.table.specs.Format
use Rattle.table.specs.Index.{index_of}
use Rattle.declarations.specs.Program.{number, number_ref, record_ref, reference_to, frozen, is_record, procedure_in, type_in, field_kinds, result_kinds, code_of, local_count, local_kind, instruction_in}
use Rattle.reach.specs.Reach.{Mem}
use Rattle.effects.specs.Effects.{Effect, effects, no_effect}
use Rattle.operands.specs.Operands.{named_type, ends_block, last_of_block}
use Rattle.operands.specs.Flow.{onto, effect_in}
use Rattle.flow.specs.Steps.{nexts}
use Rattle.flow.specs.Walks.{Slot, empty, full, mark_of, top_mark, pushed_on as marks_on}
use Rattle.locals.specs.Locals.{needs_full}
use Rattle.helpers.specs.Marks.{result_of}
use Rattle.helpers.specs.Tables.{is_private, is_helper, marks_in}
use Rattle.acceptance.specs.Checked.{starts_in, Unmarked, MarkedAs}
use Rattle.acceptance.specs.Judged.{local_kinds, Judged}
use Rattle.arithmetic.specs.Arithmetic.{Calculated, Value as Gives, TooLarge, BelowZero, Unknown, calculation}
use Rattle.arithmetic.proofs.Range.{four, word}
use Rattle.semantics.specs.Machine.{Ref, to_field, to_record, Value, num, obj, refer, as_kind, writable, Cell, gone, here, Entry, Frame, frame, State, state, Outcome, next, stopped, stuck, find_key, put_field, live_count, target, write_frames, write_records}
use Rattle.semantics.specs.Calls.{all_numbers}
use Rattle.semantics.specs.Step.{pushed_on, number_at, record_at, field_reference, under_key, calculated, actions, returned, none_held}
use Rattle.semantics.specs.Ownership.{in_value, in_values, in_locals, in_frames, in_records, in_store, lives_at}
use Rattle.semantics.proofs.Indexed.{module_in}
use Rattle.semantics.specs.Claim.{All, none_left, also, IsNumber}
use Rattle.semantics.proofs.Counts.{held_rev, held-set, held_start, heap_set, heap_snoc, alive_set, alive_snoc, alive_put, vals_set, same-one, alive_gone, find-drop, put-set}
use Rattle.semantics.proofs.Changes.{clash, same, wrote, packed, unpacked, published, withdrew}
use Rattle.semantics.proofs.Sounds.{nth_inside}
use Rattle.semantics.proofs.Sorts.{number-writable, record_writable, is-writable, as_loose, reads_as, alike_as}
use Rattle.semantics.proofs.Typing.{Word, Fit, fnum, fobj, floc, ffld, frec, Has, hnil, hcons, has_push, has_more, may_go, Slots, slots_more, Fields, CellOk, cells_more, EntryOk, entries_more, snoc_more, snoc_last}
use Rattle.semantics.proofs.Places.{as_fields, of_fields, loose, as_number, as-record, as_writable, slot_full, slot_clear, slot_put, slot_free, emptied}
use Rattle.semantics.proofs.Frames.{result_marks, Suspended, bottom, over, suspended_more, runs, type_of, write, held-local, cell_at, all_set, all_snoc, types-set, types_snoc, types-length, find-key, drop-key, field_put, NumberAt, lost, in_aLocal, in_aField, number-at, RecordAt, lost_record, leads, record-at, FieldAt, number_field, record_field, field_at}
use Rattle.semantics.proofs.Entering.{entered, has_length}
use Rattle.semantics.proofs.Instructions.{effect-at, locals-kept, locals-moved, locals_stored, pushes-moved, pushes-copied, pushes-field, pushes-called, pushes-length}
use Rattle.semantics.proofs.Running.{OutcomeOk, Running, one-taken, two-taken, none-taken, push-none, push-one, target-same, given, pushed_marks, locals_then, Did, stands, waits, goes_on_lem, then, keeps}

module _ {t : List ℕ} {T W : List ℕ} {id p i : ℕ} {ops vs under : List Value} {ls : List (Option Value)} {fs : List Frame} {h : List Cell} {st : List Entry} {n : ℕ}
    (R : Running t T W id p i ops vs under ls fs h st n) where
  -- the instruction's opcode, operand and constant
  abbrev op : ℕ
  op = (instruction_in t (index_of t) p i).a

  abbrev b : ℕ
  b = (instruction_in t (index_of t) p i).b

  -- its effect
  abbrev effect : ℕ → Effect
  effect a = get_or (effects t (procedure_in (index_of t) p) (type_in (index_of t) (cond (eqb a Format.op_borrow_fld) (b / 8) b)) (procedure_in (index_of t) b) b R.instr.flow.top) a no_effect

  effect_is : (a : ℕ) → op ≡ a → effect_in t (index_of t) (procedure_in (index_of t) p) R.instr.flow.top i ≡ effect a
  effect_is a e = effect-at t (index_of t) (procedure_in (index_of t) p) i a R.instr.flow.top e

  has_at : (a : ℕ) → op ≡ a → Has t (index_of t) T W (module_in (index_of t) p) vs (effect a).takes R.bs
  has_at a e = rw (ap (λ (x : Effect). x.takes) (effect_is a e)) at R.has

  given-at : (a : ℕ) → op ≡ a → given R ≡ (effect a).gives
  given-at a e = ap (λ (x : Effect). x.gives) (effect_is a e)

  fit_at : (a : ℕ) → op ≡ a → (effect a).fit ≡ true
  fit_at a e = sym (ap (λ (x : Effect). x.fit) (effect_is a e)) ∙ R.instr.flow.fit

  marks_length : length (pushed_marks R) ≡ length (given R)
  marks_length = pushes-length t (index_of t) (procedure_in (index_of t) p) i R.L R.O R.instr.flow.top

  -- a walk goes on with the next instruction, and its locals stay
  fall : (a : ℕ) → op ≡ a → (a ≡ Format.op_ret → ⊥) → (a ≡ Format.op_branch → ⊥) → Mem (i + 1) (nexts (code_of t (procedure_in (index_of t) p)) i)
  fall a e x y = R.instr.falls (λ q. x (sym e ∙ q)) (λ q. y (sym e ∙ q))

  kept : (a : ℕ) → op ≡ a → eqb a Format.op_mv_loc ≡ false → eqb a Format.op_st_loc ≡ false
      → Slots t (index_of t) T W (module_in (index_of t) p) ls (local_kinds t (procedure_in (index_of t) p)) (locals_then R)
  kept a e x y = rw (locals-kept t (index_of t) (procedure_in (index_of t) p) i R.L R.O a e x y) R.slots

  -- nothing is pushed, or one value that fits at any place
  no_value : {U X : List ℕ} (a : ℕ) → op ≡ a → (effect a).gives ≡ [] → Has t (index_of t) U X (module_in (index_of t) p) [] (given R) (pushed_marks R)
  no_value a e g = rw (given-at a e ∙ g) (push-none (pushed_marks R) (marks_length ∙ ap length (given-at a e ∙ g)))

  a_value : {U X : List ℕ} (a : ℕ) → op ≡ a → {v : Value} {k : ℕ} → (effect a).gives ≡ k ∷ [] → ((m : Bool) → Fit t (index_of t) U X (module_in (index_of t) p) v k m)
      → Has t (index_of t) U X (module_in (index_of t) p) (v ∷ []) (given R) (pushed_marks R)
  a_value a e g f = rw (given-at a e ∙ g) (push-one (pushed_marks R) (marks_length ∙ ap length (given-at a e ∙ g)) f)

  -- what the instruction does, by opcode
  abbrev pub Case : ℕ → Type 0
  Case a = op ≡ a
      → OutcomeOk t (Did R)
      (get_or (actions b (instruction_in t (index_of t) p i).d (local_kind t (procedure_in (index_of t) p) b) (local_count (procedure_in (index_of t) b) - length vs) vs id p i under ls fs h st n) a stuck)

  pub ok_pop : Case 0
  unfolding actions effects
  ok_pop e =
      let q = one-taken (has_at 0 e) in
      keeps R (λ q. omega (arith, e, q)) (i + 1) (fall 0 e (λ z. omega arith) (λ z. omega arith)) (no_value 0 e refl) (kept 0 e refl refl)
      (λ r. omega (arith, R.owned r, ap (in_values r) q.2, loose q.4 (not-true _ (fit_at 0 e)) r))

  pub ok_load : Case 1
  unfolding actions effects
  ok_load e =
      keeps R (λ q. omega (arith, e, q)) (i + 1) (fall 1 e (λ z. omega arith) (λ z. omega arith)) (a_value 1 e refl (λ m. fnum R.instr.constant refl)) (kept 1 e refl refl)
      (λ r. omega (arith, R.owned r, ap (in_values r) (none-taken (has_at 1 e))))

  -- the local that an instruction names
  local-is : op ≡ Format.op_mv_loc ⊎ (op ≡ Format.op_cp_loc ⊎ (op ≡ Format.op_st_loc ⊎ op ≡ Format.op_borrow_loc)) → nth (local_kinds t (procedure_in (index_of t) p)) b ≡ some (local_kind t (procedure_in (index_of t) p) b)
  local-is e = (R.judged.procedure p R.there).local_at b (R.instr.local-named (low e) (high e))
    where
      low : op ≡ Format.op_mv_loc ⊎ (op ≡ Format.op_cp_loc ⊎ (op ≡ Format.op_st_loc ⊎ op ≡ Format.op_borrow_loc)) → Format.op_mv_loc ≤ op
      low (inl e) = omega arith
      low (inr (inl e)) = omega arith
      low (inr (inr (inl e))) = omega arith
      low (inr (inr (inr e))) = omega arith

      high : op ≡ Format.op_mv_loc ⊎ (op ≡ Format.op_cp_loc ⊎ (op ≡ Format.op_st_loc ⊎ op ≡ Format.op_borrow_loc)) → op ≤ Format.op_borrow_loc
      high (inl e) = omega arith
      high (inr (inl e)) = omega arith
      high (inr (inr (inl e))) = omega arith
      high (inr (inr (inr e))) = omega arith

  -- it is full, with a value of its kind
  full-local : op ≡ Format.op_mv_loc ⊎ (op ≡ Format.op_cp_loc ⊎ (op ≡ Format.op_st_loc ⊎ op ≡ Format.op_borrow_loc)) → needs_full op ≡ true
      → (v : Value) × (m : Bool) × (nth ls b ≡ some (some v)) × (get_or R.L b empty ≡ full m) × Fit t (index_of t) T W (module_in (index_of t) p) v (local_kind t (procedure_in (index_of t) p) b) m
  full-local e f =
      let c = (R.instr.checked R.walk).full-there f in
      let s = slot_full R.slots b c.0 c.1 in
      let k : s.1 ≡ local_kind t (procedure_in (index_of t) p) b = cc (s.3, local-is e) in
      (s.0, c.0, s.2, c.1, rw k at s.4)

  pub ok_mv : Case 2
  unfolding actions effects needs_full
  ok_mv e =
      let f = full-local (inl e) (rw e refl) in
      let v = f.0 in
      let marks : pushed_marks R ≡ f.1 ∷ [] = pushes-moved t (index_of t) (procedure_in (index_of t) p) i R.L R.O e ∙ ap (λ (s : Slot). mark_of s ∷ []) f.3 in
      rw f.2
      (keeps R (λ q. omega (arith, e, q)) (i + 1) (fall 2 e (λ z. omega arith) (λ z. omega arith)) {ws = v ∷ []} {ls' = set ls b none} (rw (given-at 2 e, marks) (hcons f.4 hnil))
      (rw (locals-moved t (index_of t) (procedure_in (index_of t) p) i R.L R.O e) (slot_clear R.slots b))
      (λ r. omega (arith, R.owned r, ap (in_values r) (none-taken (has_at 2 e)), held-set r ls b none (some v) f.2)))

  pub ok_cp : Case 3
  unfolding actions effects needs_full
  ok_cp e =
      let f = full-local (inr (inl e)) (rw e refl) in
      let marks : pushed_marks R ≡ f.1 ∷ [] = pushes-copied t (index_of t) (procedure_in (index_of t) p) i R.L R.O e ∙ ap (λ (s : Slot). mark_of s ∷ []) f.3 in
      rw f.2
      (keeps R (λ q. omega (arith, e, q)) (i + 1) (fall 3 e (λ z. omega arith) (λ z. omega arith)) {ws = f.0 ∷ []} {ls' = ls} (rw (given-at 3 e, marks) (hcons f.4 hnil)) (kept 3 e refl refl)
      (λ r. omega (arith, R.owned r, ap (in_values r) (none-taken (has_at 3 e)), loose f.4 (not-true _ (fit_at 3 e)) r)))

  pub ok_st : Case 4
  unfolding actions effects marks_on
  ok_st e =
      let q = one-taken (has_at 4 e) in
      let s = slot_free R.slots b (local_kind t (procedure_in (index_of t) p) b) (local-is (inr (inr (inl e)))) ((R.instr.checked R.walk).none_over e) in
      let top : top_mark R.O ≡ q.1 = ap top_mark (R.marks ∙ ap (λ (l : List Bool). marks_on l (drop (length (effect_in t (index_of t) (procedure_in (index_of t) p) R.instr.flow.top i).takes) R.O)) q.3) in
      rw (q.2, s.3)
      (keeps R (λ q. omega (arith, e, q)) (i + 1) (fall 4 e (λ z. omega arith) (λ z. omega arith)) (no_value 4 e refl)
      (rw (locals_stored t (index_of t) (procedure_in (index_of t) p) i R.L R.O e, top) (slot_put R.slots b (local_kind t (procedure_in (index_of t) p) b) (local-is (inr (inr (inl e)))) q.4))
      (λ r. omega (arith, R.owned r, ap (in_values r) q.2, held-set r ls b (some q.0) s.0 s.1, s.2 r)))

  pub ok_borrow : Case 5
  unfolding actions effects needs_full
  ok_borrow e =
      let f = full-local (inr (inr (inr e))) (rw e refl) in
      rw f.2
      (keeps R (λ q. omega (arith, e, q)) (i + 1) (fall 5 e (λ z. omega arith) (λ z. omega arith)) (a_value 5 e refl (λ m. floc R.named (local-is (inr (inr (inr e)))) (not-true _ (fit_at 5 e)) refl)) (kept 5 e refl refl)
      (λ r. omega (arith, R.owned r, ap (in_values r) (none-taken (has_at 5 e)))))

  ok_read_go : op ≡ 6 → (v : Value) → vs ≡ v ∷ [] → ((r : ℕ) → in_value r v ≡ 0) → NumberAt (frame id p i ops ls ∷ fs) h T t (index_of t) v
      → OutcomeOk t (Did R) (number_at (target (frame id p i under ls ∷ fs) h v) λ (x : ℕ). next (state (frame id p (i + 1) (num x ∷ under) ls ∷ fs) h st n))
  unfolding effects
  ok_read_go e v q z (lost l) = rw (target-same id p i i under ops ls fs h v ∙ l) tt
  ok_read_go e v q z (in_aLocal w l) =
      rw l (keeps R (λ q. omega (arith, e, q)) (i + 1) (fall 6 e (λ z. omega arith) (λ z. omega arith)) (a_value 6 e refl (λ m. fnum w refl)) (kept 6 e refl refl) (λ r. omega (arith, R.owned r, ap (in_values r) q, z r)))
  ok_read_go e v q z (in_aField w l d y f) =
      rw (l, d) (keeps R (λ q. omega (arith, e, q)) (i + 1) (fall 6 e (λ z. omega arith) (λ z. omega arith)) (a_value 6 e refl (λ m. fnum w refl)) (kept 6 e refl refl) (λ r. omega (arith, R.owned r, ap (in_values r) q, z r)))

  pub ok_read : Case 6
  unfolding actions effects
  ok_read e =
      let q = one-taken (has_at 6 e) in
      let u = reads_as number_ref _ (fit_at 6 e) in
      rw q.2 (ok_read_go e q.0 q.2 (loose q.4 (ap is_record u.1 ∙ as_loose u.0 number_ref number-writable)) (number-at R.stack R.types R.records u.0 q.4 u.1))

  -- a number written to a local, or to a field
  ok_write_go : op ≡ 7 → (x : ℕ) (v : Value) → vs ≡ num x ∷ v ∷ [] → writable v ≡ true → Word x → ((r : ℕ) → in_value r v ≡ 0) → NumberAt (frame id p i ops ls ∷ fs) h T t (index_of t) v
      → OutcomeOk t (Did R)
      (number_at (target (frame id p i under ls ∷ fs) h v) λ (y : ℕ). next (state (write_frames (frame id p (i + 1) under ls ∷ fs) v (num x)) (write_records h v (num x)) st n))
  unfolding effects
  ok_write_go e x v q o u z (lost l) = rw (target-same id p i i under ops ls fs h v ∙ l) tt
  ok_write_go e x v q o u z (in_aLocal {f} {l} {n = y} w d) =
      rw d (
        record {
          T = T;
          W = W;
          types = R.types;
          serial = R.serial;
          frames = write (runs (goes_on_lem R (i + 1) (fall 7 e (λ z. omega arith) (λ z. omega arith)) (no_value 7 e refl) (kept 7 e refl refl)) R.suspended) f l y x d u;
          records = R.records;
          store = R.store;
          owned = λ r. omega (arith, R.owned r, ap (in_values r) q, z r, held-local r (frame id p (i + 1) under ls ∷ fs) f l y x d);
        },
        same (λ w a y j x' under' r. clash (cc (r, R.shape ∙ ap (λ (l : List Value). pushed_on l under) q))) refl refl,
      )
  ok_write_go e x v q g u z (in_aField {id = c} {y} {j} {n = o} {vs = ws} w l d k f) =
      let put : put_field h c j (num x) ≡ set h c (here y (set ws j (num x))) = put-set h c j y ws (num x) l in
      rw (l, d, put) (
        record {
          T = T;
          W = W;
          types = types-set h c (here y (set ws j (num x))) (here y ws) l refl ∙ R.types;
          serial = R.serial;
          frames = runs (goes_on_lem R (i + 1) (fall 7 e (λ z. omega arith) (λ z. omega arith)) (no_value 7 e refl) (kept 7 e refl refl)) R.suspended;
          records = all_set R.records c (here y (set ws j (num x))) (k, field_put f j o x d u);
          store = R.store;
          owned = λ r. omega (arith, R.owned r, ap (in_values r) q, z r, heap_set r h c (here y (set ws j (num x))) (here y ws) l, vals_set r ws j (num x) (num o) d, alive_put r h c y ws (set ws j (num x)) l);
        },
        wrote c y j x ws under e (R.shape ∙ ap (λ (l : List Value). pushed_on l under) q ∙ ap (λ (w : Bool). refer w (to_field c y j) ∷ num x ∷ under) g) l refl refl,
      )

  pub ok_write : Case 7
  unfolding actions effects is_record
  ok_write e =
      let q = two-taken (has_at 7 e) in
      let a = as_number q.5 refl in
      let shape : vs ≡ num a.0 ∷ q.1 ∷ [] = q.4 ∙ ap (λ (v : Value). v ∷ q.1 ∷ []) a.1 in
      rw shape (ok_write_go e a.0 q.1 shape (ap writable (as_writable q.6 number-writable).1) a.2 (loose q.6 refl) (number-at R.stack R.types R.records true q.6 refl))

  -- the module of the type that an instruction works on is its own
  owns : (a : ℕ) → op ≡ a → Format.op_borrow_fld ≤ a → a ≤ Format.op_exists → (type_in (index_of t) (cond (eqb a Format.op_borrow_fld) (b / 8) b)).owner ≡ module_in (index_of t) p
  unfolding named_type
  owns a e x y = rw e at (R.instr.flow.own_type (rw e x) (rw e y))

  ok_field_go : op ≡ 8 → (v : Value) → vs ≡ v ∷ [] → ((r : ℕ) → in_value r v ≡ 0) → (a k : ℕ) (w : Option Value) → nth T a ≡ some (b / 8) → nth (field_kinds t (type_in (index_of t) (b / 8))) (b % 8) ≡ some k
      → (u : Bool) → (effect 8).gives ≡ as_kind u (reference_to k) ∷ [] → FieldAt T k w
      → OutcomeOk t (Did R) (field_reference a (b / 8) (b % 8) w λ (w : Ref). next (state (frame id p (i + 1) (refer u w ∷ under) ls ∷ fs) h st n))
  ok_field_go e v q z a k w d f x g (number_field y) =
      keeps R (λ q. omega (arith, e, q)) (i + 1) (fall 8 e (λ z. omega arith) (λ z. omega arith)) {ws = refer x (to_field a (b / 8) (b % 8)) ∷ []} {ls' = ls}
      (rw (given-at 8 e ∙ g, pushes-field t (index_of t) (procedure_in (index_of t) p) i R.L R.O e)
      (hcons (ffld {w = x} d (f ∙ ap {B = Option ℕ} some y) (λ o u. (u, owns 8 e (omega arith) (omega arith))) (ap (λ (k : ℕ). as_kind x (reference_to k)) y)) hnil))
      (kept 8 e refl refl) (λ r. omega (arith, R.owned r, ap (in_values r) q, z r))
  ok_field_go e v q z a k w d f x g (record_field {id = c} {y} l y') =
      keeps R (λ q. omega (arith, e, q)) (i + 1) (fall 8 e (λ z. omega arith) (λ z. omega arith)) {ws = refer x (to_record c y) ∷ []} {ls' = ls} (a_value 8 e g (λ m. frec l (ap (as_kind x) (omega (arith, y'))))) (kept 8 e refl refl)
      (λ r. omega (arith, R.owned r, ap (in_values r) q, z r))

  ok_field_at : op ≡ 8 → (u : Bool) → R.instr.flow.top ≡ as_kind u (record_ref (b / 8)) → (v : Value) {x : Bool} → x ≡ u → vs ≡ v ∷ [] → ((r : ℕ) → in_value r v ≡ 0) → RecordAt (frame id p i ops ls ∷ fs) h T t (index_of t) (b / 8) v
      → OutcomeOk t (Did R)
      (record_at (target (frame id p i under ls ∷ fs) h v) λ (a : ℕ) (fields : List Value). field_reference a (b / 8) (b % 8) (nth fields (b % 8)) λ (w : Ref). next (state (frame id p (i + 1) (refer x w ∷ under) ls ∷ fs) h st n))
  unfolding effects
  ok_field_at e u m v s q z (lost_record l) = rw (target-same id p i i under ops ls fs h v ∙ l) tt
  ok_field_at e u m v s q z (leads a ws l d y f) =
      let k = (R.judged.declared (b / 8) y).field_at (b % 8) (R.instr.field-named e).1 in
      rw (s, target-same id p i i under ops ls fs h v ∙ l)
      (ok_field_go e v q z a _ (nth ws (b % 8)) d k u (ap (λ (c : ℕ). c ∷ []) (alike_as u _ (record_ref (b / 8)) _ (record_writable (b / 8)) m)) (field_at f (b % 8) _ k))

  pub ok_field : Case 8
  unfolding actions effects
  ok_field e =
      let q = one-taken (has_at 8 e) in
      let u = reads_as (record_ref (b / 8)) _ (fit_at 8 e) in
      let r = record-at R.stack R.types R.records u.0 (b / 8) q.4 u.1 in
      rw q.2 (ok_field_at e u.0 u.1 q.0 (cc r.0) q.2 (loose q.4 (ap is_record u.1 ∙ as_loose u.0 (record_ref (b / 8)) (record_writable (b / 8)))) r.1)

  -- a limit that is kept, or a stop
  within : (C : List Cell → List Entry → Type 0) (c : Bool) (k : ℕ) (s : State) → (c ≡ true → OutcomeOk t C (next s)) → OutcomeOk t C (cond c (next s) (stopped k))
  within C true k s f = f refl
  within C false k s f = tt

  pub ok_pack : Case 9
  unfolding actions effects
  ok_pack e =
      let more = snoc_more T b in
      let y = R.instr.type-named (rw e (omega arith)) (rw e (omega arith)) in
      let size : length T ≡ length h = ap length (sym R.types) ∙ types-length h in
      within (Did R) (ltb (live_count h) 128) 37 _
      (λ lt. (
        record {
          T = T ++ (b ∷ []);
          W = W;
          types = types_snoc h (here b vs) ∙ ap (λ (l : List ℕ). l ++ (b ∷ [])) R.types;
          serial = R.serial;
          frames = runs
              (stands R more (λ i u q. q) (i + 1) (fall 9 e (λ z. omega arith) (λ z. omega arith)) (a_value 9 e refl (λ m. fobj (rw size at (snoc_last T b)) refl)) (slots_more more (λ i u q. q) (kept 9 e refl refl)))
              (suspended_more more (λ i u q. q) R.suspended);
          records = all_snoc (cells_more t (index_of t) T (T ++ (b ∷ [])) more R.records) (here b vs) (y, as_fields {W = W} (R.judged.declared b y).plain (has_more more (λ i u q. q) (has_at 9 e)));
          store = entries_more T (T ++ (b ∷ [])) more R.store;
          owned = λ r. omega (arith, R.owned r, heap_snoc r h (here b vs), alive_snoc r h b vs);
        },
        packed vs (ltb-true (live_count h) 128 lt) e (owns 9 e (omega arith) (omega arith)) refl refl (under, R.shape),
      ))

  -- a record that is held lives
  held-here : (a : ℕ) → vs ≡ obj a b ∷ [] → nth T a ≡ some b → (ws : List Value) × (nth h a ≡ some (here b ws)) × (b < (index_of t).types) × Fields T ws (field_kinds t (type_in (index_of t) b))
  held-here a q d =
      ⊎_elim (λ z. absurd (omega (arith, R.owned a, ap (in_values a) q, same-one a, alive_gone a h b z))) (λ z. z) (cell_at t (index_of t) T h a b (rw R.types d) R.records)

  pub ok_unpack : Case 10
  unfolding actions effects
  ok_unpack e =
      let q = one-taken (has_at 10 e) in
      let o = as-record b q.4 refl in
      let shape : vs ≡ obj o.0 b ∷ [] = q.2 ∙ ap (λ (v : Value). v ∷ []) o.1 in
      let d = held-here o.0 shape o.2 in
      rw (shape, d.1) (
        record {
          T = T;
          W = W;
          types = types-set h o.0 (gone b) (here b d.0) d.1 refl ∙ R.types;
          serial = R.serial;
          frames = runs (goes_on_lem R (i + 1) (fall 10 e (λ z. omega arith) (λ z. omega arith)) {ws = d.0} {ls' = ls} (rw (given-at 10 e) (of_fields (pushed_marks R) (marks_length ∙ ap length (given-at 10 e)) d.3)) (kept 10 e refl refl)) R.suspended;
          records = all_set R.records o.0 (gone b) tt;
          store = R.store;
          owned = λ r. omega (arith, R.owned r, ap (in_values r) shape, held_rev r d.0 under, heap_set r h o.0 (gone b) (here b d.0) d.1, alive_set r h o.0 b d.0 d.1);
        },
        unpacked o.0 d.0 e (owns 10 e (omega arith) (omega arith)) d.1 refl refl (under, R.shape ∙ ap (λ (l : List Value). pushed_on l under) shape),
      )

  -- what is under a key, or not
  by_key : (C : List Cell → List Entry → Type 0) (q : Option ℕ) (x : Outcome) (k : ℕ → Outcome) → (q ≡ none → OutcomeOk t C x) → ((j : ℕ) → q ≡ some j → OutcomeOk t C (k j)) → OutcomeOk t C (under_key q x k)
  by_key C none x k a c = a refl
  by_key C (some j) x k a c = c j refl

  pub ok_to : Case 11
  unfolding actions effects
  ok_to e =
      let q = two-taken (has_at 11 e) in
      let o = as-record b q.5 refl in
      let a = as_number q.6 refl in
      let shape : vs ≡ obj o.0 b ∷ num a.0 ∷ [] = q.4 ∙ cc (o.1, a.1) in
      rw shape
      (by_key (Did R) (find_key st b a.0) _ _
      (λ free. within (Did R) (ltb (length st) 64) 38 _
      (λ lt. (
        then R (i + 1) (fall 11 e (λ z. omega arith) (λ z. omega arith)) (no_value 11 e refl) (kept 11 e refl refl) (also (o.2, a.2) R.store) (λ r. omega (arith, R.owned r, ap (in_values r) shape)),
        published a.0 o.0 free (ltb-true (length st) 64 lt) e (owns 11 e (omega arith) (omega arith)) refl refl (under, R.shape ∙ ap (λ (l : List Value). pushed_on l under) shape),
      )))
      (λ j z. tt))

  -- an address
  address : (a : ℕ) → op ≡ a → (effect a).takes ≡ number ∷ [] → (x : ℕ) × (vs ≡ num x ∷ [])
  address a e g = let q = one-taken (rw g at (has_at a e)) in let x = as_number q.4 refl in (x.0, q.2 ∙ ap (λ (v : Value). v ∷ []) x.1)

  pub ok_from : Case 12
  unfolding actions effects
  ok_from e =
      let a = address 12 e refl in
      rw a.1
      (by_key (Did R) (find_key st b a.0) _ _ (λ free. tt)
      (λ j z. (
        then R (i + 1) (fall 12 e (λ z. omega arith) (λ z. omega arith)) (a_value 12 e refl (λ m. fobj (find-key T st R.store b a.0 j z) refl)) (kept 12 e refl refl) (drop-key T st R.store b a.0)
            (λ r. omega (arith, R.owned r, ap (in_values r) a.1, find-drop r st b a.0 j z)),
        withdrew a.0 e (owns 12 e (omega arith) (omega arith)) refl refl (under, R.shape ∙ ap (λ (l : List Value). pushed_on l under) a.1),
      )))

  pub ok_global : Case 13
  unfolding actions effects
  ok_global e =
      let a = address 13 e refl in
      rw a.1
      (by_key (Did R) (find_key st b a.0) _ _ (λ free. tt)
      (λ j z. keeps R (λ q. omega (arith, e, q)) (i + 1) (fall 13 e (λ z. omega arith) (λ z. omega arith)) (a_value 13 e refl (λ m. frec (find-key T st R.store b a.0 j z) refl)) (kept 13 e refl refl)
      (λ r. omega (arith, R.owned r, ap (in_values r) a.1))))

  pub ok_exists : Case 14
  unfolding actions effects
  ok_exists e =
      let a = address 14 e refl in
      rw a.1
      (by_key (Did R) (find_key st b a.0) _ _
      (λ free. keeps R (λ q. omega (arith, e, q)) (i + 1) (fall 14 e (λ z. omega arith) (λ z. omega arith)) (a_value 14 e refl (λ m. fnum (omega arith) refl)) (kept 14 e refl refl) (λ r. omega (arith, R.owned r, ap (in_values r) a.1)))
      (λ j z. keeps R (λ q. omega (arith, e, q)) (i + 1) (fall 14 e (λ z. omega arith) (λ z. omega arith)) (a_value 14 e refl (λ m. fnum (omega arith) refl)) (kept 14 e refl refl) (λ r. omega (arith, R.owned r, ap (in_values r) a.1))))

  -- what a Call or a Ret takes goes to places with these marks: within the module marked where it is, elsewhere unmarked
  crosses : (a : ℕ) → op ≡ a → (m : ℕ) (marked : ℕ → Bool) (inner : Bool) → (inner ≡ true → (module_in (index_of t) p ≡ m) × MarkedAs (effect a).takes R.O marked) → (inner ≡ false → Unmarked (effect a).takes R.O)
      → Has t (index_of t) T W m vs (effect a).takes (tabulate marked (length (effect a).takes))
  crosses a e m marked inner f g =
      let ks = ap (λ (x : Effect). x.takes) (effect_is a e) in
      rw ks at (R.out m (tabulate marked (length (effect a).takes)) (length-tabulate _ _ ∙ ap length (sym ks)) (rw ks (may_go (module_in (index_of t) p) m (effect a).takes R.O marked inner f g)))

  -- a helper stands in the same module
  helper_near : is_helper t (procedure_in (index_of t) p) (procedure_in (index_of t) b) ≡ true → module_in (index_of t) p ≡ module_in (index_of t) b
  unfolding is_helper
  helper_near h = sym (eqb-true _ _ (and_both (is_private t (procedure_in (index_of t) b)) _ h).1)

  pub ok_call : Case 15
  unfolding actions effects
  ok_call e =
      let later = snoc_more W b in
      let c = R.instr.checked R.walk in
      within (Did R) (ltb (length fs + 1) 16) 36 _
      (λ lt. (
        record {
          T = T;
          W = W ++ (b ∷ []);
          types = R.types;
          serial = simp length-append (omega (arith, R.serial));
          frames = runs
              (entered R.judged n b (R.instr.called e) (rw R.serial at (snoc_last W b)) vs
              (has_more (λ i u z. z) later (crosses 15 e (module_in (index_of t) b) (starts_in t b) (is_helper t (procedure_in (index_of t) p) (procedure_in (index_of t) b)) (λ h. (helper_near h, c.given-marked e h)) (c.none-given e))))
              (over e refl (rw (given-at 15 e, pushes-called t (index_of t) (procedure_in (index_of t) p) i R.L R.O e) at (waits R {U = T} {X = W ++ (b ∷ [])} (λ i u z. z) later (fall 15 e (λ z. omega arith) (λ z. omega arith)) (kept 15 e refl refl))) (suspended_more (λ i u z. z) later R.suspended));
          records = R.records;
          store = R.store;
          owned = λ r. omega (arith, R.owned r, held_start r vs (local_count (procedure_in (index_of t) b) - length vs));
        },
        same (λ q a y j x under' r. omega (arith, e, q)) refl refl,
      ))

  pub ok_branch : Case 17
  unfolding actions effects
  ok_branch e =
      keeps R (λ q. omega (arith, e, q)) b (R.instr.jumps (inl e)) (no_value 17 e refl) (kept 17 e refl refl) (λ r. omega (arith, R.owned r, ap (in_values r) (none-taken (has_at 17 e))))

  pub ok_cond : Case 18
  unfolding actions effects
  ok_cond e =
      let a = address 18 e refl in
      rw a.1 (keeps R (λ q. omega (arith, e, q)) (cond (eqb a.0 0) (i + 1) b) (go (eqb a.0 0)) (no_value 18 e refl) (kept 18 e refl refl) (λ r. omega (arith, R.owned r, ap (in_values r) a.1)))
    where
      go : (c : Bool) → Mem (cond c (i + 1) b) (nexts (code_of t (procedure_in (index_of t) p)) i)
      go true = fall 18 e (λ z. omega arith) (λ z. omega arith)
      go false = R.instr.jumps (inr e)

  -- a number pushed by Op
  number_pushed : op ≡ 19 → (x y z : ℕ) → vs ≡ num x ∷ num y ∷ [] → Word z → OutcomeOk t (Did R) (next (state (frame id p (i + 1) (num z ∷ under) ls ∷ fs) h st n))
  unfolding effects
  number_pushed e x y z q w = keeps R (λ q. omega (arith, e, q)) (i + 1) (fall 19 e (λ z. omega arith) (λ z. omega arith)) (a_value 19 e refl (λ m. fnum w refl)) (kept 19 e refl refl) (λ r. omega (arith, R.owned r, ap (in_values r) q))

  calculated_ok : op ≡ 19 → (x y : ℕ) → vs ≡ num x ∷ num y ∷ [] → Word x → (c : Calculated) → calculation b x y ≡ c
      → OutcomeOk t (Did R) (calculated b (instruction_in t (index_of t) p i).d (local_kind t (procedure_in (index_of t) p) b) (local_count (procedure_in (index_of t) b) - length vs) vs id p i under ls fs h st n c)
  calculated_ok e x y q w (Gives z) g = number_pushed e x y z q (word b x y w g)
  calculated_ok e x y q w TooLarge g = tt
  calculated_ok e x y q w BelowZero g = tt
  calculated_ok e x y q w Unknown g = omega (arith, (four b x y).0 g, R.instr.calculates e)

  pub ok_op : Case 19
  unfolding actions effects
  ok_op e =
      let q = two-taken (has_at 19 e) in
      let x = as_number q.5 refl in
      let y = as_number q.6 refl in
      let shape : vs ≡ num x.0 ∷ num y.0 ∷ [] = q.4 ∙ cc (x.1, y.1) in
      rw shape (calculated_ok e x.0 y.0 shape x.2 _ refl)

  -- what Freeze pushes is read-only
  ok_freeze_go : op ≡ 20 → (r : Ref) → vs ≡ refer true r ∷ [] → ((c : Bool) → Fit t (index_of t) T W (module_in (index_of t) p) (refer false r) (frozen R.instr.flow.top) c) → {x : Bool} → x ≡ false
      → OutcomeOk t (Did R) (next (state (frame id p (i + 1) (refer x r ∷ under) ls ∷ fs) h st n))
  unfolding effects
  ok_freeze_go e r q f d =
      rw d (keeps R (λ q. omega (arith, e, q)) (i + 1) (fall 20 e (λ z. omega arith) (λ z. omega arith)) (a_value 20 e refl f) (kept 20 e refl refl) (λ r. omega (arith, R.owned r, ap (in_values r) q)))

  pub ok_freeze : Case 20
  unfolding actions effects
  ok_freeze e =
      let q = one-taken (has_at 20 e) in
      let z = as_writable q.4 (is-writable _ (fit_at 20 e)) in
      let shape : vs ≡ refer true z.0 ∷ [] = q.2 ∙ ap (λ (v : Value). v ∷ []) z.1 in
      rw shape (ok_freeze_go e z.0 shape z.2 (cc))

-- numbers hold no record
numbers_hold : {t : List ℕ} {T W : List ℕ} {m : ℕ} {vs : List Value} {bs : List Bool} (ks : List ℕ) → all_numbers ks ≡ true → Has t (index_of t) T W m vs ks bs → (r : ℕ) → in_values r vs ≡ 0
unfolding all_numbers is_record
numbers_hold [] e hnil r = refl
numbers_hold (k ∷ ks) e (hcons f h) r = let c = and_both _ _ e in omega (arith, loose f (ap is_record (eqb-true k number c.0)) r, numbers_hold ks c.1 h r)

are_numbers : {t : List ℕ} {T W : List ℕ} {m : ℕ} {vs : List Value} {bs : List Bool} (ks : List ℕ) → all_numbers ks ≡ true → Has t (index_of t) T W m vs ks bs → All IsNumber vs
unfolding all_numbers
are_numbers [] e hnil = none_left
are_numbers (k ∷ ks) e (hcons f h) = let c = and_both _ _ e in also (as_number f (eqb-true k number c.0)) (are_numbers ks c.1 h)

-- the results reach the caller; that of a private procedure stands in the same module
pub arrive : {t : List ℕ} {T W : List ℕ} {q : ℕ} {fs : List Frame} → Judged t (index_of t) → (vs : List Value) (h : List Cell) (st : List Entry) (n : ℕ) → Suspended t (index_of t) T W q fs
    → ((m : ℕ) → (is_private t (procedure_in (index_of t) q) ≡ true → module_in (index_of t) q ≡ m) → Has t (index_of t) T W m vs (result_kinds t (procedure_in (index_of t) q)) (result_marks t (index_of t) q))
    → map type_of h ≡ T → length W ≡ n → All (CellOk t (index_of t) T) h → All (EntryOk T) st → ((r : ℕ) → in_values r vs + in_frames r fs + in_records r h + in_store r st ≡ lives_at h r)
    → (C : List Cell → List Entry → Type 0) → C h st → OutcomeOk t C (returned fs vs h st n)
unfolding onto marks_on is_private
arrive {t} {T} {q} J vs h st n (bottom z x) a ty se hp sr g C c =
    let ks = result_kinds t (procedure_in (index_of t) q) in
    let given = a (module_in (index_of t) q) (λ y. refl) in
    (record { T = T; types = ty; records = hp; store = sr; owned = λ r. omega (arith, g r, numbers_hold ks z given r) }, c, are_numbers ks z given, rw (has_length given) x)
arrive {t} {T} {W} {q} J vs h st n (over {p} {i} {ops} e d f s) a ty se hp sr g C c = (
  record {
    T = T;
    W = W;
    types = ty;
    serial = se;
    frames = runs (record {
      named = f.named;
      there = f.there;
      inside = f.inside;
      rest = _;
      O = marks_on (result_marks t (index_of t) q) f.O;
      L = f.L;
      len = f.len;
      kinds = f.kinds;
      has = has_push (a (module_in (index_of t) p) near) f.has;
      slots = f.slots;
      walk = f.walk;
    }) s;
    records = hp;
    store = sr;
    owned = λ r. omega (arith, g r, held_rev r vs ops);
  },
  c,
)
  where
    near : is_private t (procedure_in (index_of t) q) ≡ true → module_in (index_of t) q ≡ module_in (index_of t) p
    near y = ⊎_elim (λ o. absurd (true≢false (sym y ∙ ap not (eq-eqb _ 1 (rw d at o))))) (λ o. rw d at o) ((J.instruction p i f.there (omega (arith, f.inside))).flow.may_call e)

module _ {t : List ℕ} {T W : List ℕ} {id p i : ℕ} {ops vs under : List Value} {ls : List (Option Value)} {fs : List Frame} {h : List Cell} {st : List Entry} {n : ℕ}
    (R : Running t T W id p i ops vs under ls fs h st n) where
  -- Ret is the last of its block, so that nothing lies under the results
  ret-last : op R ≡ 16 → last_of_block (code_of t (procedure_in (index_of t) p)) i ≡ true
  unfolding last_of_block ends_block
  ret-last e = rw (e, or-true)

  no_rest : {ks : List ℕ} {cs : List Bool} {us : List Value} {m : ℕ} → ks ≡ [] → Has t (index_of t) T W m us ks cs → us ≡ []
  no_rest e hnil = refl
  no_rest e (hcons f a) = absurd (clash (cc))

  nothing-under : op R ≡ 16 → under ≡ []
  unfolding effects onto
  nothing-under e = no_rest (ap (λ (g : List ℕ). onto g R.instr.flow.rest) (sym (given-at R 16 e)) ∙ R.instr.flow.edge (ret-last e)) R.left

  -- no record stays behind in a local
  locals_free : op R ≡ 16 → ((r : ℕ) → in_locals r ls ≡ 0) × (none_held ls ≡ true)
  locals_free e = emptied R.slots (λ l k d y. ret-local l k d y)
    where
      ret-local : (l k : ℕ) → nth (local_kinds t (procedure_in (index_of t) p)) l ≡ some k → is_record k ≡ true → get_or R.L l empty ≡ empty
      ret-local l k d y =
          let Q = R.judged.procedure p R.there in
          let there : l < local_count (procedure_in (index_of t) p) = rw Q.locals at (nth_inside (local_kinds t (procedure_in (index_of t) p)) l k d) in
          let z : k ≡ local_kind t (procedure_in (index_of t) p) l = cc (d, Q.local_at l there) in
          (R.instr.checked R.walk).none_left e l there (rw z at y)

  pub ok_ret : Case R 16
  unfolding actions effects
  ok_ret e =
      let free = locals_free e in
      let c = R.instr.checked R.walk in
      rw (free.1, nothing-under e)
      (arrive R.judged vs h st n R.suspended (λ m o. crosses R 16 e m (result_of (marks_in t) p) (is_private t (procedure_in (index_of t) p)) (λ y. (o y, c.returned-marked e y)) (c.none-returned e)) R.types R.serial R.records R.store
      (λ r. omega (arith, R.owned r, free.0 r, ap (in_values r) (nothing-under e))) (Did R) (same (λ q a y j x under' r. omega (arith, e, q)) refl refl))
