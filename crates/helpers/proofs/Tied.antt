-- The procedures of a table that the passes length, rows and names accept: they are as the theory of helpers wants them, and they stand where its net looks for them.
use Prim.Native.Nat.{ℕ, ◌+◌, ◌-◌, ◌<◌, ◌≤◌}
use mathlib.Core.Path.{◌≡◌, refl, ap, sym, ◌∙◌, fun_ext}
use mathlib.Core.List.{List, []}
use mathlib.Core.Bool.{Bool, true, false, cond, false≢true, ◌&&◌}
use native.Mathlib.Decide.{dec_lt}
use native.Mathlib.Omega.{arith}
use borrow.Author.Tests.{eqb-true}
use lib.Dec.{eqb}
use lib.ListN.{length, get_or}
use Rattle.laws.specs.Lists.{tabulate, count}
use Rattle.laws.proofs.Lists.{length-tabulate}
use Rattle.laws.proofs.Tests.{and_both}
use Rattle.table.specs.declared.Row.{Row}
use Rattle.table.specs.declared.index.TypeEntry.{TypeEntry}
use Rattle.table.specs.declared.index.ProcedureEntry.{ProcedureEntry}
use Rattle.table.specs.Format.{procedure_kind, instruction_kind, op_call, op_ret}
use Rattle.table.specs.Rows.{row_count, row_at, kind_at, is_kind}
use Rattle.table.specs.Index.{index_of}
use Rattle.table.proofs.Laws.{kind_outside, is-kind, not-kind}
use Rattle.declarations.specs.Program.{number, procedure_in, code_of, parameters_end, parameter_count, parameter_kinds, result_kinds}
use Rattle.effects.specs.Effects.{effects, effect_of}
use Rattle.operands.specs.Operands.{named_type}
use Rattle.flow.specs.Steps.{Step, next_of, nexts}
use Rattle.flow.specs.Places.{mark_nodes}
use Rattle.flow.proofs.Laws.{next-below}
use Rattle.steps.specs.Steps.{step_of, step_at, no_step, steps_at, marks_of}
use Rattle.steps.proofs.Laws.{length-kinds}
use Rattle.sizes.specs.code.Formed.{Formed}
use Rattle.sizes.proofs.Rows.{own}
use Rattle.sizes.proofs.Inside as Inside
use Rattle.helpers.specs.Marks.{parameter_of, result_of, step_under}
use Rattle.helpers.specs.Rounds.{nodes_under}
use Rattle.helpers.specs.Tables.{borrows_guarded, is_helper, marks_under, procedure_of}
use Rattle.helpers.proofs.Fits.{Fits}
use Rattle.helpers.proofs.Net.{Spot, heads, codes, blank, Layout, Placed}

-- Instructions.

-- an instruction under marks is that of the analysis to which they are given
step_tied : (t : List ℕ) (m : List Bool) (p : ProcedureEntry) (named : TypeEntry) (callee : ProcedureEntry) (row : Row)
    → step_under m (step_of t (marks_under t []) p named callee row) ≡ step_of t (marks_under t m) p named callee row
unfolding step_under step_of
step_tied t m p named callee row =
    ap (λ (f : List Bool). record { opcode = row.a; operand = row.b; takes = length (effect_of t p named callee row number).takes; fresh = f; carries = false })
    (go (eqb row.a op_call) (borrows_guarded t named row) (length (effect_of t p named callee row number).gives))
  where
    go : (b g : Bool) (n : ℕ)
        → cond b (tabulate (result_of m row.b) (length (tabulate (λ (r : ℕ). cond b (result_of [] row.b r) g) n))) (tabulate (λ (r : ℕ). cond b (result_of [] row.b r) g) n)
        ≡ tabulate (λ (r : ℕ). cond b (result_of m row.b r) g) n
    go true g n = ap (tabulate (result_of m row.b)) (length-tabulate (result_of [] row.b) n)
    go false g n = refl

pub steps_tied : (t : List ℕ) (m : List Bool) (p : ProcedureEntry) → (λ (i : ℕ). step_under m (step_at t (index_of t) (marks_under t []) p i)) ≡ step_at t (index_of t) (marks_under t m) p
unfolding step_at
steps_tied t m p = fun_ext (λ i. step_tied t m p _ _ (row_at (code_of t p) i))

-- so where marks come to is the analysis of one procedure
pub nodes_tied : (t : List ℕ) (m : List Bool) (q : ℕ) → nodes_under (procedure_of t) m q ≡ marks_of t (index_of t) (marks_under t m) q (procedure_in (index_of t) q)
unfolding nodes_under marks_of steps_at procedure_of
nodes_tied t m q =
    ap (λ (f : ℕ → Step). mark_nodes (nexts (code_of t (own t q))) (λ (i : ℕ). get_or (tabulate f (row_count (code_of t (own t q)))) i no_step) (parameter_of m q) (parameter_count t (own t q)) (row_count (code_of t (own t q))))
    (steps_tied t m (own t q))

-- what a Call takes and pushes, and what Ret takes
module _ (t : List ℕ) (p : ProcedureEntry) (named : TypeEntry) (callee : ProcedureEntry) (row : Row) where
  call-takes : row.a ≡ op_call → (step_of t (marks_under t []) p named callee row).takes ≡ length (parameter_kinds t callee)
  unfolding step_of effect_of effects
  call-takes e = rw e refl

  call-gives : row.a ≡ op_call → length (step_of t (marks_under t []) p named callee row).fresh ≡ length (result_kinds t callee)
  unfolding step_of effect_of effects
  call-gives e = length-tabulate _ _ ∙ (rw e refl)

  ret-takes : row.a ≡ op_ret → (step_of t (marks_under t []) p named callee row).takes ≡ length (result_kinds t p)
  unfolding step_of effect_of effects
  ret-takes e = rw e refl

pub parameters-length : (t : List ℕ) (p : ProcedureEntry) → length (parameter_kinds t p) ≡ parameter_count t p
unfolding parameter_kinds parameter_count
parameters-length t p = length-kinds t (p.row + 1) (parameters_end t p)

pub results-length : (t : List ℕ) (p : ProcedureEntry) → length (result_kinds t p) ≡ p.code - p.results
unfolding result_kinds
results-length t p = length-kinds t p.results p.code

-- The fields of a table's procedure.
module _ (t : List ℕ) (q i : ℕ) where
  pub helper-is : (procedure_of t q).helper i ≡ (eqb (row_at (code_of t (own t q)) i).a op_call && is_helper t (own t q) (own t (row_at (code_of t (own t q)) i).b))
  unfolding procedure_of
  helper-is = refl

  -- a Call takes as many operands as the callee has parameters and pushes its results; Ret takes the procedure's results
  pub call_counts : ((procedure_of t q).step i).opcode ≡ op_call
      → (((procedure_of t q).step i).takes ≡ (procedure_of t ((procedure_of t q).step i).operand).params)
      × (length ((procedure_of t q).step i).fresh ≡ (own t ((procedure_of t q).step i).operand).code - (own t ((procedure_of t q).step i).operand).results)
  unfolding procedure_of step_at step_of
  call_counts e =
      let row = row_at (code_of t (own t q)) i in (
        call-takes t (own t q) (named_type (index_of t) row) (own t row.b) row e ∙ parameters-length t (own t row.b),
        call-gives t (own t q) (named_type (index_of t) row) (own t row.b) row e ∙ results-length t (own t row.b),
      )

  pub ret_counts : ((procedure_of t q).step i).opcode ≡ op_ret → ((procedure_of t q).step i).takes ≡ (own t q).code - (own t q).results
  unfolding procedure_of step_at step_of
  ret_counts e =
      let row = row_at (code_of t (own t q)) i in
      ret-takes t (own t q) (named_type (index_of t) row) (own t row.b) row e ∙ results-length t (own t q)

-- Where procedures stand.

-- what a row is, by its kind and the number of procedures above it
unfoldable pub spot_at : List ℕ → ℕ → Spot
spot_at t row =
    cond (is_kind t procedure_kind row) (heads (count (is_kind t procedure_kind) row))
    (cond (is_kind t instruction_kind row) (codes (count (is_kind t procedure_kind) row - 1) (row - (procedure_in (index_of t) (count (is_kind t procedure_kind) row - 1)).code))
    blank)

unfoldable pub layout_of : List ℕ → Layout
layout_of t = record { head = λ (q : ℕ). (procedure_in (index_of t) q).row; base = λ (q : ℕ). (procedure_in (index_of t) q).code; spot = spot_at t; rows = row_count t }

module _ (t : List ℕ) (row : ℕ) where
  pub spot_head : kind_at t row ≡ procedure_kind → spot_at t row ≡ heads (count (is_kind t procedure_kind) row)
  unfolding spot_at
  spot_head k = rw (is-kind t row procedure_kind refl k)

  pub spot_code : kind_at t row ≡ instruction_kind → spot_at t row ≡ codes (count (is_kind t procedure_kind) row - 1) (row - (own t (count (is_kind t procedure_kind) row - 1)).code)
  unfolding spot_at
  spot_code k = rw (not-kind t row procedure_kind refl (λ e. omega (arith, e, k)), is-kind t row instruction_kind refl k)

  pub spot_other : (kind_at t row ≡ procedure_kind → ⊥) → (kind_at t row ≡ instruction_kind → ⊥) → spot_at t row ≡ blank
  unfolding spot_at
  spot_other h k = rw (not-kind t row procedure_kind refl h, not-kind t row instruction_kind refl k)

  -- a row of a kind that is not 0 is there
  row-there : 0 < kind_at t row → row < row_count t
  row-there h = go (dec_lt row (row_count t))
    where
      go : Dec (row < row_count t) → row < row_count t
      go (yes l) = l
      go (no l) = absurd (omega (arith, h, kind_outside t row (omega arith)))

-- the parts of a spot
is_head : Spot → Bool
is_head (heads q) = true
is_head (codes q i) = false
is_head blank = false

is_code : Spot → Bool
is_code (heads q) = false
is_code (codes q i) = true
is_code blank = false

number_of : Spot → ℕ
number_of (heads q) = q
number_of (codes q i) = q
number_of blank = 0

place_of : Spot → ℕ
place_of (heads q) = 0
place_of (codes q i) = i
place_of blank = 0

head_inv : (a b : Bool) (p q r i : ℕ) → cond a (heads p) (cond b (codes r i) blank) ≡ heads q → (a ≡ true) × (p ≡ q)
unfolding is_head number_of
head_inv true b p q r i e = (refl, ap number_of e)
head_inv false true p q r i e = absurd (false≢true (ap is_head e))
head_inv false false p q r i e = absurd (false≢true (ap is_head e))

code_inv : (a b : Bool) (p q r i j : ℕ) → cond a (heads p) (cond b (codes r i) blank) ≡ codes q j → (b ≡ true) × (r ≡ q) × (i ≡ j)
unfolding is_code number_of place_of
code_inv true b p q r i j e = absurd (false≢true (ap is_code e))
code_inv false true p q r i j e = (refl, ap number_of e, ap place_of e)
code_inv false false p q r i j e = absurd (false≢true (ap is_code e))

module _ (t : List ℕ) (row : ℕ) where
  -- what a row's spot tells
  pub head_is : (q : ℕ) → spot_at t row ≡ heads q → (kind_at t row ≡ procedure_kind) × (count (is_kind t procedure_kind) row ≡ q)
  unfolding spot_at is_kind
  head_is q e = let r = head_inv (is_kind t procedure_kind row) (is_kind t instruction_kind row) _ q _ _ e in (eqb-true _ _ r.0, r.1)

  pub code_is : (q i : ℕ) → spot_at t row ≡ codes q i → (kind_at t row ≡ instruction_kind) × (count (is_kind t procedure_kind) row - 1 ≡ q) × (row - (own t (count (is_kind t procedure_kind) row - 1)).code ≡ i)
  unfolding spot_at is_kind
  code_is q i e = let r = code_inv (is_kind t procedure_kind row) (is_kind t instruction_kind row) _ q _ _ i e in (eqb-true _ _ r.0, r.1, r.2)

module _ (t : List ℕ) (f : Formed t) where
  -- the procedures of a table fit
  pub fits : Fits (procedure_of t) (index_of t).procedures
  unfolding procedure_of step_at step_of
  fits = record {
    some = λ q h. Inside.some-code t f q h;
    next_below = λ q h i j n. next-below (code_of t (own t q)) i j n;
    fits = λ q h. Inside.parameters-fit t (own t q);
    small = λ q h. Inside.locals-few t f q h;
    called = λ q h i e.
        let c = Inside.called t f q h i e in
        (c, omega (arith, (call_counts t q i e).1, Inside.results-few t f (row_at (code_of t (own t q)) i).b c));
    helped = λ q h i e.
        let o = eqb-true (row_at (code_of t (own t q)) i).a op_call (and_both _ _ e).0 in
        let c = Inside.called t f q h i o in
        let callee = own t (row_at (code_of t (own t q)) i).b in
        (o, omega (arith, (call_counts t q i o).0, Inside.parameters-fit t callee, Inside.locals-few t f (row_at (code_of t (own t q)) i).b c));
    returned = λ q h i e. omega (arith, ret_counts t q i e, Inside.results-few t f q h);
  }

  -- instruction i of procedure q by its row of the table: where walks go on, and what it is
  module _ (q : ℕ) (there : q < (index_of t).procedures) (i : ℕ) (h : i < row_count (code_of t (own t q))) where
    pub next-at : (procedure_of t q).next i ≡ next_of (row_at t ((own t q).code + i)) i
    unfolding procedure_of
    next-at = rw (Inside.code_at t f q there i h) (Inside.goes_on t f q there i h)

    pub step-at : (procedure_of t q).step i
        ≡ step_of t (marks_under t []) (own t q) (named_type (index_of t) (row_at t ((own t q).code + i))) (own t (row_at t ((own t q).code + i)).b) (row_at t ((own t q).code + i))
    unfolding procedure_of step_at
    step-at = rw (Inside.code_at t f q there i h) refl

  -- what the row of procedure q is, and that of its instruction i
  pub head_spot : (q : ℕ) → q < (index_of t).procedures → spot_at t (own t q).row ≡ heads q
  head_spot q h = spot_head t (own t q).row (Inside.head_kind t f q h) ∙ ap heads (Inside.head_number t f q h)

  pub code_spot : (q i : ℕ) → q < (index_of t).procedures → i < row_count (code_of t (own t q)) → spot_at t ((own t q).code + i) ≡ codes q i
  code_spot q i h l =
      let e : (own t q).code + i - (own t q).code ≡ i = omega arith in
      spot_code t ((own t q).code + i) (Inside.code-kind t f q h i l) ∙ rw (Inside.code-number t f q h i l, e) refl

  -- the procedures of a table stand where its net looks for them
  pub placed : Placed (procedure_of t) (index_of t).procedures (layout_of t)
  unfolding layout_of procedure_of
  placed = record {
    heads_at = λ q h. (Inside.head_below t f q h, head_spot q h);
    codes_at = λ q i h l. (Inside.code_below t f q h i l, code_spot q i h l);
    head_there = λ row q e.
        let r = head_is t row q e in
        let w = Inside.head_there t f row (row-there t row (omega (arith, r))) r.0 in
        (rw r.1 at w.0, sym (rw r.1 at w.1));
    code-there = λ row q i e.
        let r = code_is t row q i e in
        let w = Inside.code-there t f row (row-there t row (omega (arith, r))) r.0 in
        go row q i r.1 r.2 w.0 w.1 w.2;
  }
    where
      go : (row q i : ℕ) {p : ℕ} → p ≡ q → row - (own t p).code ≡ i → p < (index_of t).procedures → (own t p).code ≤ row → row - (own t p).code < row_count (code_of t (own t p))
          → (q < (index_of t).procedures) × (i < row_count (code_of t (own t q))) × (row ≡ (own t q).code + i)
      go row q i {p} e d there lo hi = rw (← e) (there, rw (← d) hi, omega arith)
