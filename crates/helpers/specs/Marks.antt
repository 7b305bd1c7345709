-- Marks of helpers: document 02, paper 5. A marked reference may be given to a private procedure of the same module (a helper), and a private procedure may return one.
-- A set of marks says which parameters of procedures start marked and which results of procedures are marked; the marks are the smallest set that is closed under what
-- walks give and return.
use Rattle.std.specs.Prelude.{ℕ, ◌+◌, ◌-◌, ◌*◌, ◌<◌, ◌≡◌, Bool, true, false, cond, List, eqb, length, get_or}
use Rattle.laws.specs.Lists.{tabulate}
use Rattle.reach.specs.Reach.{At}
use Rattle.table.specs.Format.{op_call, op_ret}
use Rattle.flow.specs.Steps.{Step}
use Rattle.flow.specs.Walks.{Slot, Walk, entry}

-- the places of a set of marks: 20 for each procedure, parameter l at 20 q + l and result r at 20 q + 16 + r
abbrev pub per_procedure : ℕ
per_procedure = 20

abbrev pub parameter_at : ℕ → ℕ → ℕ
parameter_at q l = per_procedure * q + l

abbrev pub result_at : ℕ → ℕ → ℕ
result_at q r = per_procedure * q + (16 + r)

-- whether parameter l of procedure q starts marked, and whether its result r is marked
unfoldable pub parameter_of : List Bool → ℕ → ℕ → Bool
parameter_of m q l = get_or m (parameter_at q l) false

unfoldable pub result_of : List Bool → ℕ → ℕ → Bool
result_of m q r = get_or m (result_at q r) false

-- every mark of one set is in the other
abbrev pub Below : List Bool → List Bool → Type 0
Below m n = (v : ℕ) → At m v → At n v

-- a procedure: where walks go on, its instructions with no mark on a Call's results, its numbers of parameters, locals and instructions, whether it is private, and
-- which of its instructions are Calls of a helper; the procedure that a Call names is its operand
pub record Procedure : Type 0 where
  pub next : ℕ → List ℕ
  pub step : ℕ → Step
  pub params : ℕ
  pub locals : ℕ
  pub size : ℕ
  pub is_private : Bool
  pub helper : ℕ → Bool

-- an instruction under marks m: what a Call pushes is marked as the results of the procedure that it names
unfoldable pub step_under : List Bool → Step → Step
step_under m s = record {
  opcode = s.opcode;
  operand = s.operand;
  takes = s.takes;
  fresh = cond (eqb s.opcode op_call) (tabulate (result_of m s.operand) (length s.fresh)) s.fresh;
  carries = s.carries;
}

-- walks of procedure q under marks m
abbrev pub WalkUnder : (ℕ → Procedure) → List Bool → ℕ → ℕ → ℕ → List Slot → List Bool → Type 0
WalkUnder code m q = Walk (code q).next (λ (i : ℕ). step_under m ((code q).step i)) (entry (parameter_of m q) (code q).params (code q).locals)

-- the rule: the marks hold what walks under them give to helpers and return from private procedures. Of n operands the first pushed, argument or result 0, is number n - 1 from the top
pub record Closed (code : ℕ → Procedure) (count : ℕ) (m : List Bool) : Type 0 where
  pub calls : (q : ℕ) → q < count → {k i : ℕ} {ls : List Slot} {ms : List Bool} → WalkUnder code m q k i ls ms → (code q).helper i ≡ true
      → (l : ℕ) → l < ((code q).step i).takes → get_or ms (((code q).step i).takes - 1 - l) false ≡ true → parameter_of m ((code q).step i).operand l ≡ true
  pub returns : (q : ℕ) → q < count → {k i : ℕ} {ls : List Slot} {ms : List Bool} → WalkUnder code m q k i ls ms → (code q).is_private ≡ true → ((code q).step i).opcode ≡ op_ret
      → (r : ℕ) → r < ((code q).step i).takes → get_or ms (((code q).step i).takes - 1 - r) false ≡ true → result_of m q r ≡ true
