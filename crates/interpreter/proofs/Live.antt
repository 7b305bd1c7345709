-- States on the way of an accepted table: what comes after one, and what holds of the frame that runs.
use Prim.Native.Nat.{ℕ, ◌+◌, ◌-◌, ◌/◌, ◌<◌, ◌≤◌}
use mathlib.Core.Path.{◌≡◌, refl, ap, sym, ◌∙◌}
use mathlib.Core.Bool.{Bool, true, false, cond, true≢false}
use mathlib.Core.List.{List, [], ◌∷◌, map}
use mathlib.Core.Logic.{⊎_elim}
use mathlib.Core.Option.{Option, none, some}
use native.Mathlib.Omega.{arith}
use borrow.Author.Tests.{not-true}
use lib.Dec.{eqb}
use lib.ListN.{length, get_or, get_elem? as nth}
use Rattle.table.specs.Format.{op_borrow_loc, op_borrow_fld}
use Rattle.table.specs.Index.{index_of}
use Rattle.table.specs.Rows.{row_at}
use Rattle.declarations.specs.Program.{number, is_reference, type_in, procedure_in, local_kind, code_of}
use Rattle.effects.specs.Effects.{Effect, effects, no_effect}
use Rattle.operands.specs.Flow.{onto, effect_in}
use Rattle.steps.proofs.Fixed.{counts_at, is_fixed, fixed_takes, fixed_gives}
use Rattle.locals.specs.Locals.{needs_full}
use Rattle.leaks.specs.Leaks.{guarded_marks}
use Rattle.acceptance.proofs.Regular.{guarded-plain, step-takes}
use Rattle.acceptance.proofs.Depth.{length-onto, good-same, deep}
use Rattle.acceptance.specs.Judged.{Instruction, Judged}
use Rattle.semantics.specs.Machine.{Value, obj, Cell, Entry, Frame, frame, state, Outcome}
use Rattle.semantics.specs.Claim.{All, none_left, also, Owned, IsNumber}
use Rattle.semantics.proofs.Counts.{held-set, same-one, alive_gone}
use Rattle.semantics.proofs.Changes.{clash}
use Rattle.semantics.proofs.Sorts.{to_writable, number-writable, record_writable, as-reference}
use Rattle.semantics.proofs.Typing.{Fit, fnum, fobj, floc, ffld, frec, CellOk}
use Rattle.semantics.proofs.Places.{slot_full}
use Rattle.semantics.proofs.Frames.{FrameOk, type_of, cell_at}
use Rattle.semantics.proofs.Entering.{has_length}
use Rattle.semantics.proofs.Instructions.{effect-at}
use Rattle.semantics.proofs.Running.{OutcomeOk}
use Rattle.semantics.proofs.Steps.{StateOk, DidAt, step_ok}
use Rattle.state.specs.declared.Operand.{Operand}
use Rattle.state.specs.declared.Operand.TheVariants.{Empty, Number, Record, Refer}
use Rattle.machine.specs.code.Machine.{MFrame, MRoom, MEntry, MState, mstate, MOutcome, mnext, mfinished, mstopped, mbroken}
use Rattle.machine.proofs.Represents.{Represents, number as a-number, whole, to_aLocal, to_aField, to_aRecord, ShowsAll, no_more, and, SameOutcome, goes_on, ends, stops, never}
use Rattle.machine.specs.code.Runs.{takes_at, mstep}
use Rattle.machine.proofs.Runs.{same_step}

-- a state of the machine that represents one of the rules on the way of an accepted table
abbrev pub Live : List ℕ → MState → Type 0
Live t (mstate f ms rooms recs es n) =
    (R D : List ℕ) × (fs : List Frame) × (rs : List Cell) × (st : List Entry) × (m : ℕ) × Represents R D f ms rooms recs es n fs rs st m × StateOk t (state fs rs st m)

-- operands that are all numbers
abbrev pub Numbers : List Operand → Type 0
Numbers [] = Unit
Numbers (Empty ∷ xs) = ⊥
Numbers (Number n ∷ xs) = Numbers xs
Numbers (Record s r y ∷ xs) = ⊥
Numbers (Refer r ∷ xs) = ⊥

-- what shows numbers are numbers
numbers-shown : {R D : List ℕ} {xs : List Operand} {vs : List Value} → ShowsAll R D xs vs → All IsNumber vs → Numbers xs
numbers-shown no_more none_left = tt
numbers-shown (and a-number a) (also k h) = numbers-shown a h
numbers-shown (and (whole q) a) (also k h) = absurd (clash (cc k.1))
numbers-shown (and (to_aLocal q) a) (also k h) = absurd (clash (cc k.1))
numbers-shown (and (to_aField q) a) (also k h) = absurd (clash (cc k.1))
numbers-shown (and (to_aRecord q) a) (also k h) = absurd (clash (cc k.1))

-- what a step of a state on the way comes to
abbrev pub LiveOutcome : List ℕ → MOutcome → Type 0
LiveOutcome t (mnext v) = Live t v
LiveOutcome t (mfinished xs v) = Numbers xs
LiveOutcome t (mstopped k) = Unit
LiveOutcome t mbroken = ⊥

module _ (t : List ℕ) (judged : Judged t (index_of t)) where
  pub live_step : {f : MFrame} {ms : List MFrame} {rooms : List (Option MRoom)} {recs : ℕ} {es : List MEntry} {n : ℕ} → Live t (mstate f ms rooms recs es n)
      → LiveOutcome t (mstep t (index_of t) (mstate f ms rooms recs es n))
  live_step (R, D, fs, rs, st, m, r, v) = go (same_step t r) (step_ok t judged (state fs rs st m) v)
    where
      go : {mo : MOutcome} {o : Outcome} → SameOutcome R D mo o → OutcomeOk t (DidAt t (state fs rs st m)) o → LiveOutcome t mo
      go (goes_on R' D' g w q) k = (R', D', _, _, _, _, q, k.0)
      go (ends a b) k = numbers-shown a k.2
      go stops k = tt
      go never k = absurd k

  -- the frame that runs
  module _ {T W : List ℕ} {id p i : ℕ} {vs : List Value} {os : List (Option Value)} (F : FrameOk t (index_of t) T W i [] [] id p vs os) where
    pub instr : Instruction t (index_of t) p i
    instr = judged.instruction p i F.there F.inside

    -- what its instruction takes, by opcode: an entry of the table where that is fixed
    pub takes_fixed : (a : ℕ) → is_fixed a ≡ true → (row_at (code_of t (procedure_in (index_of t) p)) i).a ≡ a → takes_at t (index_of t) p i ≡ (counts_at a).takes
    unfolding takes_at effect_in
    takes_fixed a f e = fixed_takes t _ _ _ _ number a f e

    pub takes_at_lem : (a : ℕ) → (row_at (code_of t (procedure_in (index_of t) p)) i).a ≡ a
        → takes_at t (index_of t) p i
        ≡ length (get_or (effects t (procedure_in (index_of t) p) (type_in (index_of t) (cond (eqb a op_borrow_fld) ((row_at (code_of t (procedure_in (index_of t) p)) i).b / 8) (row_at (code_of t (procedure_in (index_of t) p)) i).b))
        (procedure_in (index_of t) (row_at (code_of t (procedure_in (index_of t) p)) i).b) (row_at (code_of t (procedure_in (index_of t) p)) i).b number) a no_effect).takes
    unfolding takes_at
    takes_at_lem a e = ap (λ (x : Effect). length x.takes) (effect-at t (index_of t) (procedure_in (index_of t) p) i a number e)

    -- what it takes lies on the rest
    pub stands : length vs ≡ takes_at t (index_of t) p i + length instr.flow.rest
    unfolding onto takes_at
    stands =
        let top = instr.flow.top in
        let own = procedure_in (index_of t) p in
        let kinds : F.rest ≡ onto (effect_in t (index_of t) own top i).takes instr.flow.rest = good-same (sym F.kinds ∙ instr.flow.before) in
        let lie = length-onto (effect_in t (index_of t) own top i).takes instr.flow.rest in
        omega (arith, has_length F.has, ap length kinds, lie, step-takes t (index_of t) (guarded_marks t) own top i, step-takes t (index_of t) (guarded_marks t) own number i)

    -- where it pushes an operand there is room for it
    pub room : 0 < length (effect_in t (index_of t) (procedure_in (index_of t) p) instr.flow.top i).gives → length vs - takes_at t (index_of t) p i < 16
    room h = omega (arith, stands, length-onto (effect_in t (index_of t) (procedure_in (index_of t) p) instr.flow.top i).gives instr.flow.rest, instr.flow.few)

    pub room_fixed : (a : ℕ) → is_fixed a ≡ true → (row_at (code_of t (procedure_in (index_of t) p)) i).a ≡ a → 0 < (counts_at a).gives → length vs - takes_at t (index_of t) p i < 16
    unfolding effect_in
    room_fixed a f e h = room (rw (fixed_gives t (procedure_in (index_of t) p) _ _ (row_at (code_of t (procedure_in (index_of t) p)) i) instr.flow.top a f e) h)

    -- there are at most 16 operands
    pub low : length vs ≤ 16
    unfolding onto
    low =
        let own = procedure_in (index_of t) p in
        let d = deep t (index_of t) (guarded_marks t) (guarded-plain t) own _ (judged.procedure p F.there).some-code (λ j h. (judged.instruction p j F.there h).flow) F.walk in
        omega (arith, has_length F.has, ap length (good-same (sym F.kinds ∙ d.before)), d.depth, d.bounded)

    -- the kind of a local that BorrowLoc finds full
    fit_low : (h : List Cell) (st : List Entry) (fs : List Frame) (l : ℕ) {m : ℕ} {v : Value} {k : ℕ} {b : Bool} → map type_of h ≡ T → All (CellOk t (index_of t) T) h → Owned (frame id p i vs os ∷ fs) h st
        → nth os l ≡ some (some v) → is_reference k ≡ false → Fit t (index_of t) T W m v k b → k < 65536
    unfolding is_reference
    fit_low h st fs l types records owned e c (fnum w q) = omega (arith, q)
    fit_low h st fs l types records owned e c (fobj {id = r} {y} a q) =
        ⊎_elim (λ z. absurd (omega (arith, owned r, held-set r os l none (some (obj r y)) e, same-one r, alive_gone r h y z)))
        (λ z. omega (arith, q, (judged.declared y z.2).low)) (cell_at t (index_of t) T h r y (rw types a) records)
    fit_low h st fs l types records owned e c (floc {w} {c = d} a x r q) = absurd (true≢false (sym (as-reference w _ (to_writable d r)) ∙ ap is_reference (sym q) ∙ c))
    fit_low h st fs l types records owned e c (ffld {w} a d g q) = absurd (true≢false (sym (as-reference w _ number-writable) ∙ ap is_reference (sym q) ∙ c))
    fit_low h st fs l types records owned e c (frec {w} {y} a q) = absurd (true≢false (sym (as-reference w _ (record_writable y)) ∙ ap is_reference (sym q) ∙ c))

    pub kind-low : (h : List Cell) (st : List Entry) (fs : List Frame) → map type_of h ≡ T → All (CellOk t (index_of t) T) h → Owned (frame id p i vs os ∷ fs) h st
        → (row_at (code_of t (procedure_in (index_of t) p)) i).a ≡ op_borrow_loc → local_kind t (procedure_in (index_of t) p) (row_at (code_of t (procedure_in (index_of t) p)) i).b < 65536
    unfolding effects needs_full
    kind-low h st fs types records owned e =
        let own = procedure_in (index_of t) p in
        let b = (row_at (code_of t own) i).b in
        let c = (instr.checked F.walk).full-there (rw e refl) in
        let s = slot_full F.slots b c.0 c.1 in
        let k : s.1 ≡ local_kind t own b = cc (s.3, (judged.procedure p F.there).local_at b (instr.local-named (rw e (omega arith)) (rw e (omega arith)))) in
        let fit = ap (λ (x : Effect). x.fit) (effect-at t (index_of t) own i 5 instr.flow.top e) in
        fit_low h st fs b types records owned s.2 (not-true _ (sym fit ∙ instr.flow.fit)) (rw k at s.4)
