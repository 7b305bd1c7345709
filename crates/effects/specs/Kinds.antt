-- The kinds of the operands that are present in a procedure: the operand stack of the judge.
use Rattle.std.specs.Prelude.{ℕ, zero, suc, Bool, cond, not, ◌&&◌, List, [], ◌∷◌, Option, Some, None, eqb, ltb, length, get_or}
use Rattle.laws.specs.Lists.{none}
use Rattle.table.specs.Format.{max_operands}
use Rattle.table.specs.Refusals.{wrong_operand, too_many_operands, operands_left, foreign_name}
use Rattle.declarations.specs.Program.{number}
use Rattle.effects.specs.declared.Stack.{Stack}

-- the kinds, the top first; or the number of the first fault
pub data Kinds : Type 0 where
  good : List ℕ → Kinds
  bad : ℕ → Kinds

-- fault f, unless there is one already; 0 is none
abbrev pub kinds_or : ℕ → List ℕ → Kinds
kinds_or zero ks = good ks
kinds_or (suc f) ks = bad (suc f)

unfoldable pub failed : ℕ → Kinds → Kinds
failed f (good ks) = kinds_or f ks
failed f (bad g) = bad g

-- one operand of kind k is taken: 7 where it is missing or another
unfoldable pub taken : ℕ → Kinds → Kinds
taken k (good []) = bad wrong_operand
taken k (good (x ∷ xs)) = cond (eqb x k) (good xs) (bad wrong_operand)
taken k (bad f) = bad f

-- one operand of kind k is pushed: 8 where there are 16 already
unfoldable pub pushed : ℕ → Kinds → Kinds
pushed k (good xs) = cond (ltb (length xs) max_operands) (good (k ∷ xs)) (bad too_many_operands)
pushed k (bad f) = bad f

-- several are taken, the last of the list first, and pushed, the first of the list first
unfoldable pub taken_all : List ℕ → Kinds → Kinds
taken_all [] s = s
taken_all (k ∷ ks) s = taken k (taken_all ks s)

unfoldable pub pushed_all : List ℕ → Kinds → Kinds
pushed_all [] s = s
pushed_all (k ∷ ks) s = pushed_all ks (pushed k s)

-- the top kind, a number where there is none
unfoldable pub top_of : Kinds → ℕ
top_of (good []) = number
top_of (good (x ∷ xs)) = x
top_of (bad f) = number

-- the number that a row earns with these kinds after it: 7 or 8; 9 where operands are left after a block's last row; 10
unfoldable pub fault_after : Kinds → Bool → Bool → ℕ
fault_after (bad f) last other = f
fault_after (good ks) last other = cond (last && not (none ks)) operands_left (cond other foreign_name 0)

-- the first h of a list, the last of them first
unfoldable pub top_first : List ℕ → ℕ → List ℕ
top_first ks zero = []
top_first ks (suc h) = get_or ks h 0 ∷ top_first ks h

-- the number of a stack's fault, 0 for none, by what gives a fault's number
abbrev pub fault_by : {F : Type 0} → (F → ℕ) → Option F → ℕ
fault_by fault_number None = 0
fault_by fault_number (Some fault) = fault_number fault

-- what lent kinds and a stack of the code stand for
abbrev pub view : {F : Type 0} → (F → ℕ) → List ℕ → Stack F → Kinds
view fault_number ks s = kinds_or (fault_by fault_number s.fault) (top_first ks s.height)
