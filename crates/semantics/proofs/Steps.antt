-- A step of an accepted table: what comes up has its operands, is not stuck, and keeps what holds.
use Prim.Native.Nat.{ℕ, ◌<◌}
use mathlib.Core.Path.{◌≡◌, refl, ap, sym, ◌∙◌}
use mathlib.Core.List.{List, [], ◌∷◌, map}
use mathlib.Core.Bool.{Bool, true}
use mathlib.Core.Option.{Option}
use mathlib.Core.Logic.{◌⊎◌, inl, inr}
use native.Mathlib.Omega.{arith}
use Rattle.table.specs.Format.{past_opcodes, op_write_ref, op_op, op_freeze}
use Rattle.laws.proofs.Cases.{◌▸◌, below_each}
use Rattle.table.specs.Index.{index_of}
use Rattle.declarations.specs.Program.{number, number_ref, is_writable, procedure_in, instruction_in}
use Rattle.effects.specs.Kinds.{good, top_of}
use Rattle.effects.specs.Effects.{Effect, effects}
use Rattle.operands.specs.Operands.{kinds_before}
use Rattle.operands.specs.Flow.{onto, effect_in}
use Rattle.flow.specs.Walks.{pushed_on as marks_on}
use Rattle.acceptance.specs.Judged.{Instruction, Judged}
use Rattle.semantics.specs.Machine.{Ref, ref_kind, Value, num, refer, value_kind, Cell, Entry, Frame, frame, State, state, Outcome, stuck}
use Rattle.semantics.specs.Step.{pushed_on, took, taken, top_kind, instruction, effect_at, act, step}
use Rattle.semantics.specs.Ownership.{in_values}
use Rattle.semantics.proofs.Indexed.{module_in, declarer_in}
use Rattle.semantics.specs.Claim.{Owned}
use Rattle.semantics.proofs.Counts.{held_rev}
use Rattle.semantics.proofs.Changes.{Change}
use Rattle.semantics.proofs.Sorts.{number-writable, is-writable}
use Rattle.semantics.proofs.Typing.{has_kinds, Took, take_off}
use Rattle.semantics.proofs.Places.{as_number, top_refers}
use Rattle.semantics.proofs.Frames.{FrameOk, Suspended, Stack, runs, Inv}
use Rattle.semantics.proofs.Instructions.{effect-at}
use Rattle.semantics.proofs.Running.{OutcomeOk, Running, two-taken}
use Rattle.semantics.proofs.Cases.{Case, ok_pop, ok_load, ok_mv, ok_cp, ok_st, ok_borrow, ok_read, ok_write, ok_field, ok_pack, ok_unpack, ok_to, ok_from, ok_global, ok_exists, ok_call, ok_ret, ok_branch, ok_cond, ok_op, ok_freeze}

-- all opcodes
by_opcode : {t : List ℕ} {T W : List ℕ} {id p i : ℕ} {ops vs under : List Value} {ls : List (Option Value)} {fs : List Frame} {h : List Cell} {st : List Entry} {n : ℕ}
    (R : Running t T W id p i ops vs under ls fs h st n) (a : ℕ) → a < past_opcodes → Case R a
by_opcode R =
    below_each (Case R) past_opcodes
    (ok_pop R ▸ ok_load R ▸ ok_mv R ▸ ok_cp R ▸ ok_st R ▸ ok_borrow R ▸ ok_read R ▸ ok_write R ▸ ok_field R ▸ ok_pack R ▸ ok_unpack R
    ▸ ok_to R ▸ ok_from R ▸ ok_global R ▸ ok_exists R ▸ ok_call R ▸ ok_ret R ▸ ok_branch R ▸ ok_cond R ▸ ok_op R ▸ ok_freeze R ▸ tt)

good-same : {xs ys : List ℕ} → good xs ≡ good ys → xs ≡ ys
good-same e = cc

top-is : (ops : List Value) → top_kind ops ≡ top_of (good (map value_kind ops))
unfolding top_of
top-is [] = refl
top-is (v ∷ ops) = refl

-- what holds of a state
abbrev pub StateOk : List ℕ → State → Type 0
StateOk t (state fs h st n) = Inv t (index_of t) fs h st n

-- what the instruction that comes up may do to records and store
abbrev pub DidAt : List ℕ → State → List Cell → List Entry → Type 0
DidAt t (state [] h st n) h' st' = ⊥
DidAt t (state (frame id p i ops ls ∷ fs) h st n) h' st' =
    Change (declarer_in (index_of t)) (module_in (index_of t) p) (instruction_in t (index_of t) p i).a (instruction_in t (index_of t) p i).b ops h st h' st'

module _ (t : List ℕ) (judged : Judged t (index_of t)) where
  -- a running frame and the operands that its instruction takes
  module _ {T W : List ℕ} {id p i : ℕ} {ops : List Value} {ls : List (Option Value)} (f : FrameOk t (index_of t) T W i [] [] id p ops ls) where
    instr : Instruction t (index_of t) p i
    instr = judged.instruction p i f.there f.inside

    abbrev effect : Effect
    effect = effect_in t (index_of t) (procedure_in (index_of t) p) instr.flow.top i

    kinds_are : f.rest ≡ onto effect.takes instr.flow.rest
    unfolding onto
    kinds_are = good-same (sym f.kinds ∙ instr.flow.before)

    takes_off : Took t (index_of t) T W (module_in (index_of t) p) ops effect.takes instr.flow.rest f.O
    takes_off = take_off effect.takes (rw kinds_are at f.has)

    -- the effect is the one that the judge found
    effect-found : effect_at t (index_of t) p i ops ≡ effect
    unfolding effect_at onto
    effect-found =
        let top : top_kind ops ≡ instr.flow.top = top-is ops ∙ ap (λ (ks : List ℕ). top_of (good ks)) (has_kinds f.has) ∙ ap top_of (sym f.kinds) ∙ sym instr.flow.told in
        ap (λ (k : ℕ). effect_in t (index_of t) (procedure_in (index_of t) p) k i) top

    -- WriteRef and Freeze find a writable reference on top
    write_finds : (instruction_in t (index_of t) p i).a ≡ op_write_ref → (r : Ref) × (rest : List Value) × (ops ≡ refer true r ∷ rest)
    unfolding effects onto
    write_finds e =
        let x = effect-at t (index_of t) (procedure_in (index_of t) p) i op_write_ref instr.flow.top e in
        let a = top_refers number_ref (number ∷ instr.flow.rest) number-writable f.has (kinds_are ∙ ap (λ (y : Effect). onto y.takes instr.flow.rest) x) in
        (a.0, a.1, a.2)

    pub freeze_finds : (instruction_in t (index_of t) p i).a ≡ op_freeze → (r : Ref) × (rest : List Value) × (ops ≡ refer true r ∷ rest) × (is_writable (ref_kind r) ≡ true)
    unfolding effects onto
    freeze_finds e =
        let x = effect-at t (index_of t) (procedure_in (index_of t) p) i op_freeze instr.flow.top e in
        let fit = sym (ap (λ (y : Effect). y.fit) x) ∙ instr.flow.fit in
        let a = top_refers instr.flow.top instr.flow.rest (is-writable instr.flow.top fit) f.has (kinds_are ∙ ap (λ (y : Effect). onto y.takes instr.flow.rest) x) in
        (a.0, a.1, a.2, ap is_writable a.3 ∙ fit)

    -- Op finds two numbers
    pub op_finds : (instruction_in t (index_of t) p i).a ≡ op_op → (x y : ℕ) × (under : List Value) × (ops ≡ num y ∷ num x ∷ under)
    unfolding effects
    op_finds e =
        let ks : effect.takes ≡ number ∷ number ∷ [] = ap (λ (y : Effect). y.takes) (effect-at t (index_of t) (procedure_in (index_of t) p) i op_op instr.flow.top e) in
        let q = two-taken (rw ks at takes_off.has) in
        let x = as_number q.5 refl in
        let y = as_number q.6 refl in
        let vs : takes_off.vs ≡ num x.0 ∷ num y.0 ∷ [] = q.4 ∙ cc (x.1, y.1) in
        (x.0, y.0, takes_off.under, takes_off.stack ∙ ap (λ (l : List Value). pushed_on l takes_off.under) vs)

    pub writes_through : ((instruction_in t (index_of t) p i).a ≡ op_write_ref) ⊎ ((instruction_in t (index_of t) p i).a ≡ op_freeze) → (w : Bool) (r : Ref) (rest : List Value) → ops ≡ refer w r ∷ rest → w ≡ true
    writes_through (inl e) w r rest q = let a = (write_finds e).2 in cc (a, q)
    writes_through (inr e) w r rest q = let a = (freeze_finds e).2 in cc (a, q)

    -- the operands have the kinds that the judge found
    pub kinds-found : kinds_before t (index_of t) (procedure_in (index_of t) p) i ≡ good (map value_kind ops)
    unfolding onto
    kinds-found = f.kinds ∙ ap good (sym (has_kinds f.has))

  running : {fs : List Frame} {h : List Cell} {st : List Entry} {n : ℕ} (v : Inv t (index_of t) fs h st n) {id p i : ℕ} {ops : List Value} {ls : List (Option Value)} {gs : List Frame}
      (f : FrameOk t (index_of t) v.T v.W i [] [] id p ops ls) → Suspended t (index_of t) v.T v.W p gs → Owned (frame id p i ops ls ∷ gs) h st
      → Running t v.T v.W id p i ops (takes_off f).vs (takes_off f).under ls gs h st n
  unfolding marks_on
  running v f s o = record {
    judged = judged;
    instr = instr f;
    named = f.named;
    there = f.there;
    L = f.L;
    O = f.O;
    len = f.len;
    slots = f.slots;
    walk = f.walk;
    suspended = s;
    types = v.types;
    serial = v.serial;
    records = v.records;
    store = v.store;
    stack = runs f s;
    bs = (takes_off f).bs;
    shape = (takes_off f).stack;
    has = (takes_off f).has;
    left = (takes_off f).left;
    marks = (takes_off f).marks;
    out = (takes_off f).out;
    owned = λ r. omega (arith, o r, ap (in_values r) (takes_off f).stack, held_rev r (takes_off f).vs (takes_off f).under);
  }

  pub step_ok : (s : State) → StateOk t s → OutcomeOk t (DidAt t s) (step t (index_of t) s)
  unfolding act instruction
  step_ok (state fs h st n) v = go fs v.frames v.owned
    where
      go : (fs : List Frame) → Stack t (index_of t) v.T v.W fs → Owned fs h st → OutcomeOk t (DidAt t (state fs h st n)) (step t (index_of t) (state fs h st n))
      go fs (runs {id} {p} {i} {ops} {ls} {fs = gs} f s) o =
          rw (effect-found f, (instr f).flow.fit, (takes_off f).found) (by_opcode (running v f s o) (instruction_in t (index_of t) p i).a (instr f).opcode refl)

  -- what comes up has its operands, and is not stuck
  not_stuck : (C : List Cell → List Entry → Type 0) (o : Outcome) → OutcomeOk t C o → o ≡ stuck → ⊥
  not_stuck C o k e = rw e at k

  pub runs_on : (s : State) → StateOk t s → step t (index_of t) s ≡ stuck → ⊥
  runs_on s v = not_stuck (DidAt t s) (step t (index_of t) s) (step_ok s v)

  pub takes-there : {T W : List ℕ} {id p i : ℕ} {ops : List Value} {ls : List (Option Value)} → FrameOk t (index_of t) T W i [] [] id p ops ls
      → ((effect_at t (index_of t) p i ops).fit ≡ true) × ((vs under : List Value) × (taken (effect_at t (index_of t) p i ops).takes ops ≡ took vs under))
  takes-there {ops} f =
      (ap (λ (x : Effect). x.fit) (effect-found f) ∙ (instr f).flow.fit, ((takes_off f).vs, (takes_off f).under, ap (λ (x : Effect). taken x.takes ops) (effect-found f) ∙ (takes_off f).found))
