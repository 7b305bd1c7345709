-- The marks of parameters and results (document 02, paper 5), said by walks alone: a parameter of a private procedure starts marked if any walk of any procedure of its module gives it a
-- marked reference there; a call's result is marked if any walk of the called private procedure returns a marked reference in that position; the marks are the smallest for which this holds.
use Rattle.std.specs.Prelude.{ℕ, ◌<◌, ◌≡◌, Bool, true, false, List, [], ◌∷◌, ◌++◌, length}
use Rattle.table.specs.Format.{op_call, op_ret}
use Rattle.table.specs.Index.{index_of}
use Rattle.declarations.specs.Program.{procedure_in, code_of, local_count, parameter_count, parameter_kinds, result_kinds, instruction_in}
use Rattle.flow.specs.Steps.{nexts}
use Rattle.flow.specs.Walks.{Slot, Walk, entry}
use Rattle.steps.specs.Steps.{step_at}
use Rattle.helpers.specs.Marks.{parameter_of, result_of, Below}
use Rattle.helpers.specs.Tables.{is_private, is_helper, marks_under}
use Rattle.acceptance.specs.Checked.{MarkedAs}
use Rattle.acceptance.specs.Refusals.{opcode, operand, ArrivesMarked}

-- walks of procedure q of a table under marks m
abbrev pub WalkUnder : List ℕ → List Bool → ℕ → ℕ → ℕ → List Slot → List Bool → Type 0
WalkUnder t m q =
    Walk (nexts (code_of t (procedure_in (index_of t) q))) (step_at t (index_of t) (marks_under t m) (procedure_in (index_of t) q))
    (entry (parameter_of m q) (parameter_count t (procedure_in (index_of t) q)) (local_count (procedure_in (index_of t) q)))

-- the marks hold what walks under them give to helpers, and what private procedures return
pub record Closed (t : List ℕ) (m : List Bool) : Type 0 where
  pub given : (q i : ℕ) {k : ℕ} {ls : List Slot} {ms : List Bool} → q < (index_of t).procedures → WalkUnder t m q k i ls ms → (instruction_in t (index_of t) q i).a ≡ op_call
      → is_helper t (procedure_in (index_of t) q) (procedure_in (index_of t) (instruction_in t (index_of t) q i).b) ≡ true
      → MarkedAs (parameter_kinds t (procedure_in (index_of t) (instruction_in t (index_of t) q i).b)) ms (parameter_of m (instruction_in t (index_of t) q i).b)
  pub returned : (q i : ℕ) {k : ℕ} {ls : List Slot} {ms : List Bool} → q < (index_of t).procedures → WalkUnder t m q k i ls ms → (instruction_in t (index_of t) q i).a ≡ op_ret
      → is_private t (procedure_in (index_of t) q) ≡ true → MarkedAs (result_kinds t (procedure_in (index_of t) q)) ms (result_of m q)

-- they are closed, and in all that are
pub record Smallest (t : List ℕ) (m : List Bool) : Type 0 where
  pub closed : Closed t m
  pub least : (n : List Bool) → Closed t n → Below m n

-- parameter l of procedure q is given a marked reference: some walk of a procedure, whose helper q is, arrives at a Call of q with a mark on the operand for that parameter
pub record GivenTo (t : List ℕ) (q l : ℕ) : Type 0 where
  pub caller : ℕ
  pub at : ℕ
  pub before : List ℕ
  pub after : List ℕ
  pub kind : ℕ
  pub there : caller < (index_of t).procedures
  pub calls : opcode t caller at ≡ op_call
  pub names : operand t caller at ≡ q
  pub helper : is_helper t (procedure_in (index_of t) caller) (procedure_in (index_of t) q) ≡ true
  pub kinds : parameter_kinds t (procedure_in (index_of t) q) ≡ before ++ (kind ∷ after)
  pub place : length before ≡ l
  pub marked : ArrivesMarked t caller at (length after)

-- procedure q returns a marked reference as result r: it is private, and some walk of it arrives at a Ret with a mark on the operand for that result
pub record ReturnedBy (t : List ℕ) (q r : ℕ) : Type 0 where
  pub at : ℕ
  pub before : List ℕ
  pub after : List ℕ
  pub kind : ℕ
  pub there : q < (index_of t).procedures
  pub returns : opcode t q at ≡ op_ret
  pub hidden : is_private t (procedure_in (index_of t) q) ≡ true
  pub kinds : result_kinds t (procedure_in (index_of t) q) ≡ before ++ (kind ∷ after)
  pub place : length before ≡ r
  pub marked : ArrivesMarked t q at (length after)

-- 13 and 14 as document 01 has them are nowhere earned: with no parameter and no call's result marked, no walk gives a marked reference to any Call, and none returns one
pub record NoneLeaves (t : List ℕ) : Type 0 where
  pub given : (q i : ℕ) {k : ℕ} {ls : List Slot} {ms : List Bool} → q < (index_of t).procedures → WalkUnder t [] q k i ls ms → opcode t q i ≡ op_call
      → MarkedAs (parameter_kinds t (procedure_in (index_of t) (operand t q i))) ms (λ (l : ℕ). false)
  pub returned : (q i : ℕ) {k : ℕ} {ls : List Slot} {ms : List Bool} → q < (index_of t).procedures → WalkUnder t [] q k i ls ms → opcode t q i ≡ op_ret
      → MarkedAs (result_kinds t (procedure_in (index_of t) q)) ms (λ (r : ℕ). false)
