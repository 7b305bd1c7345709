-- What the judge's acceptance gives for the instruction that a state on the way is at.
use Prim.Native.Nat.{ℕ, suc, ◌+◌, ◌-◌, ◌/◌, ◌%◌, ◌≤◌, ◌<◌}
use mathlib.Core.Path.{◌≡◌, refl, ap, sym, ◌∙◌}
use mathlib.Core.Bool.{true, cond}
use mathlib.Core.List.{List, [], ◌∷◌}
use mathlib.Core.Option.{Option}
use native.Mathlib.Omega.{arith}
use lib.Dec.{eqb}
use lib.ListN.{length, get_or, length-append}
use Rattle.table.specs.Format.{past_opcodes}
use Rattle.table.specs.declared.Row.{Row}
use Rattle.table.specs.declared.index.ProcedureEntry.{ProcedureEntry}
use Rattle.table.specs.Index.{index_of}
use Rattle.table.specs.Rows.{row_at}
use Rattle.declarations.specs.Program.{number, type_in, procedure_in, field_count, local_count, local_kind, code_of, kinds_of, parameter_kinds, parameters_end, result_kinds, parameter_count}
use Rattle.effects.specs.Effects.{effects, effect_of, no_effect}
use Rattle.operands.specs.Flow.{effect_in}
use Rattle.steps.proofs.Fixed.{counts_at, is_fixed}
use Rattle.steps.proofs.Laws.{length-kinds}
use Rattle.acceptance.specs.Judged.{Judged}
use Rattle.semantics.specs.Machine.{Value, Cell, Entry, Frame, frame}
use Rattle.semantics.specs.Step.{instruction}
use Rattle.semantics.specs.Claim.{Owned}
use Rattle.semantics.proofs.Frames.{FrameOk, over, Stack, runs}
use Rattle.state.specs.declared.Operand.{Operand}
use Rattle.state.specs.declared.Operand.TheVariants.{Empty}
use Rattle.state.specs.declared.frames.State.{State}
use Rattle.state.specs.code.Coding.{number_of, second_of}
use Rattle.state.specs.code.Layout.{operand_cell, suspended_cell}
use Rattle.machine.specs.code.Machine.{MFrame, mframe}
use Rattle.machine.proofs.Represents.{ShowsFrames, and_frame}
use Rattle.machine.specs.code.Runs.{takes_at}
use Rattle.machine.specs.code.Views.{operands_in, below_in, view_of}
use Rattle.machine.proofs.Shows.{all_length}
use Rattle.machine.proofs.Views.{length_down}
use Rattle.interpreter.specs.code.Run.{procedure_of, type_of, row_of}
use Rattle.interpreter.proofs.Live as Live
use Rattle.interpreter.proofs.Live.{Live, instr, takes_at_lem, stands, room, room_fixed, kind-low}
use Rattle.interpreter.proofs.Frames.{low_gap}

-- the frame of the rules that the running one stands for
pub record Shown (t T W : List ℕ) (s p i : ℕ) (ops : List Operand) (h : List Cell) (st : List Entry) : Type 0 where
  pub vs : List Value
  pub os : List (Option Value)
  pub gs : List Frame
  pub many : length ops ≡ length vs
  pub owned : Owned (frame s p i vs os ∷ gs) h st
  pub ok : FrameOk t (index_of t) T W i [] [] s p vs os

found : {t : List ℕ} {R D T W : List ℕ} {s p i : ℕ} {ops ls : List Operand} {ms : List MFrame} {fs : List Frame} (h : List Cell) (st : List Entry)
    → ShowsFrames R D (mframe s p i ops ls ∷ ms) fs → Stack t (index_of t) T W fs → Owned fs h st → Shown t T W s p i ops h st
found h st (and_frame {vs} {os} {fs} d a k f) (runs F S) o = record { vs = vs; os = os; gs = fs; many = all_length a; owned = o; ok = F }

-- the caller has room for what the running frame returns
caller-room : (t : List ℕ) → Judged t (index_of t) → {R D T W : List ℕ} {s p i s' p' i' : ℕ} {ops ls ops' ls' : List Operand} {ms : List MFrame} {fs : List Frame}
    → ShowsFrames R D (mframe s p i ops ls ∷ mframe s' p' i' ops' ls' ∷ ms) fs → Stack t (index_of t) T W fs → (length ops' + length (result_kinds t (procedure_in (index_of t) p)) ≤ 16) × (i' < 256)
caller-room t J (and_frame d a k (and_frame {p = q} d' a' k' f)) (runs F (over e c G S)) =
    (omega (arith, all_length a', low_gap t J G), omega (arith, G.inside, (J.procedure q G.there).few-code))

module _ (t : List ℕ) (J : Judged t (index_of t)) where
  procedure-same : (q : ℕ) → q < (index_of t).procedures → procedure_of (index_of t) q ≡ procedure_in (index_of t) q
  unfolding procedure_in
  procedure-same q h = let e : q % 128 ≡ q = omega (arith, (J.procedure q h).low) in rw e refl

  type-same : (y : ℕ) → y < (index_of t).types → type_of (index_of t) y ≡ type_in (index_of t) y
  unfolding type_in
  type-same y h = let e : y % 64 ≡ y = omega (arith, (J.declared y h).low) in rw e refl

  module _ (cs : List Operand) (s : State) (l : Live t (view_of cs s)) where
    -- the running frame in the rules
    pub there : Shown t l.7.T l.7.W s.serial s.procedure s.at (operands_in cs s) l.3 l.4
    there = found l.3 l.4 l.6.frames l.7.frames l.7.owned

    pub F : FrameOk t (index_of t) l.7.T l.7.W s.at [] [] s.serial s.procedure there.vs there.os
    F = there.ok

    height : s.height ≡ length there.vs
    height = sym (length_down cs (operand_cell s.depth) s.height) ∙ there.many

    -- its procedure, its instruction, and how many operands that takes
    abbrev pub own : ProcedureEntry
    own = procedure_in (index_of t) s.procedure

    abbrev pub row : Row
    row = row_at (code_of t own) s.at

    abbrev pub takes : ℕ
    takes = takes_at t (index_of t) s.procedure s.at

    pub opcode : row.a < past_opcodes
    opcode = omega (arith, (instr t J F).opcode)

    pub own_same : procedure_of (index_of t) s.procedure ≡ own
    own_same = procedure-same s.procedure F.there

    pub row_same : row_of t (index_of t) s ≡ row
    unfolding row_of
    row_same = ap (λ (q : ProcedureEntry). row_at (code_of t q) s.at) own_same

    pub row-instruction : row ≡ instruction t (index_of t) s.procedure s.at
    unfolding instruction
    row-instruction = refl

    -- the operands that it takes are there
    pub taken : takes ≤ s.height
    taken = omega (arith, height, stands t J F)

    -- by opcode: how many it takes, and that there is room for what it pushes, where the counts are fixed
    pub takes_fixed : (a : ℕ) → is_fixed a ≡ true → row.a ≡ a → takes ≡ (counts_at a).takes
    takes_fixed = Live.takes_fixed t J F

    pub pushed_room : (a : ℕ) → is_fixed a ≡ true → row.a ≡ a → 0 < (counts_at a).gives → s.height - takes < 16
    pushed_room a f e h = rw height (room_fixed t J F a f e h)

    -- and where they vary
    abbrev listed : ℕ → ℕ
    listed a = length (get_or (effects t own (type_in (index_of t) (cond (eqb a 8) (row.b / 8) row.b)) (procedure_in (index_of t) row.b) row.b number) a no_effect).takes

    takes-is : (a : ℕ) → row.a ≡ a → takes ≡ listed a
    takes-is a e = takes_at_lem t J F a e

    -- a type that is named has a number below 64
    pub type-low : (a : ℕ) → row.a ≡ a → 9 ≤ a → a ≤ 14 → row.b < 64
    type-low a e lo hi = (J.declared row.b ((instr t J F).type-named (rw e lo) (rw e hi))).low

    pub field-low : row.a ≡ 8 → row.b / 8 < 256
    field-low e = let n = ((instr t J F).field-named e).0 in omega (arith, (J.declared (row.b / 8) n).low)

    -- Pack
    pub named-same : row.a ≡ 9 → type_of (index_of t) row.b ≡ type_in (index_of t) row.b
    named-same e = type-same row.b ((instr t J F).type-named (rw e (omega arith)) (rw e (omega arith)))

    pub packs : row.a ≡ 9 → (takes ≡ (type_in (index_of t) row.b).end - ((type_in (index_of t) row.b).row + 1)) × (takes ≤ 8)
    unfolding effects field_count
    packs e =
        let d = J.declared row.b ((instr t J F).type-named (rw e (omega arith)) (rw e (omega arith))) in
        (takes-is 9 e ∙ d.fields, omega (arith, takes-is 9 e, d.fields, d.few))

    pub pack-room : row.a ≡ 9 → s.height - takes < 16
    unfolding effect_in effect_of effects
    pack-room e = rw height (room t J F (rw e (omega arith)))

    -- Unpack
    pub unpacks : row.a ≡ 10 → takes ≡ 1
    unfolding effects
    unpacks e = takes-is 10 e

    -- Call
    abbrev callee : ProcedureEntry
    callee = procedure_in (index_of t) row.b

    pub callee_same : row.a ≡ 15 → procedure_of (index_of t) row.b ≡ callee
    callee_same e = procedure-same row.b ((instr t J F).called e)

    pub calls : row.a ≡ 15 → (takes ≡ parameters_end t callee - (callee.row + 1)) × (takes ≤ local_count callee) × (local_count callee ≤ 16) × (row.b < 128)
    unfolding effects parameter_count
    calls e =
        let d = J.procedure row.b ((instr t J F).called e) in
        let whole = ap length d.split ∙ length-append (parameter_kinds t callee) (kinds_of t (parameters_end t callee) callee.results) in
        (takes-is 15 e ∙ d.parameters, omega (arith, takes-is 15 e, d.locals, whole), d.few-locals, d.low)

    -- Ret
    results-length : length (result_kinds t own) ≡ own.code - own.results
    unfolding result_kinds
    results-length = length-kinds t own.results own.code

    pub returns : row.a ≡ 16 → (takes ≡ own.code - own.results) × (takes ≤ 4)
    unfolding effects
    returns e = (takes-is 16 e ∙ results-length, omega (arith, takes-is 16 e, (J.procedure s.procedure F.there).results))

    pub return_room : row.a ≡ 16 → (d : ℕ) → s.depth ≡ suc d → (second_of (get_or cs (suspended_cell d) Empty) + takes ≤ 16) × (number_of (get_or cs (suspended_cell d + 1) Empty) % 65536 < 65535)
    unfolding effects below_in
    return_room e d q =
        let r = caller-room t J (rw q at l.6.frames) l.7.frames in
        (omega (arith, r.0, takes-is 16 e, length_down cs (operand_cell d) (second_of (get_or cs (suspended_cell d) Empty))), omega (arith, r.1))

    -- BorrowLoc
    pub local-low : row.a ≡ 5 → row.b < 256
    local-low e = omega (arith, (instr t J F).local-named (rw e (omega arith)) (rw e (omega arith)), (J.procedure s.procedure F.there).few-locals)

    pub local-kind : row.a ≡ 5 → local_kind t own row.b < 65536
    local-kind = kind-low t J F l.3 l.4 there.gs l.7.types l.7.records there.owned
