-- What the analyses of locals and leaks see of a procedure's instructions.
use Rattle.std.specs.Prelude.{ℕ, ◌+◌, Bool, cond, List, [], ◌∷◌, eqb, ltb}
use Rattle.table.specs.declared.Row.{Row}
use Rattle.table.specs.Format.{op_ret, op_branch, op_branch_cond}
use Rattle.table.specs.Rows.{row_count, row_at}

-- the listed instructions that are there, of n
unfoldable pub below : ℕ → List ℕ → List ℕ
below n [] = []
below n (j ∷ js) = cond (ltb j n) (j ∷ below n js) (below n js)

-- where a walk can go on from instruction i: nowhere from Ret; BranchCond is taken either way
unfoldable pub next_of : Row → ℕ → List ℕ
next_of row i =
    cond (eqb row.a op_ret) []
    (cond (eqb row.a op_branch) (row.b ∷ [])
    (cond (eqb row.a op_branch_cond) ((i + 1) ∷ row.b ∷ [])
    ((i + 1) ∷ [])))

unfoldable pub nexts : List ℕ → ℕ → List ℕ
nexts c i = below (row_count c) (next_of (row_at c i) i)

-- an instruction: its opcode and operand, how many operands it takes, and which of those that it pushes are marked of themselves, the first pushed first
pub record Step : Type 0 where
  pub opcode : ℕ
  pub operand : ℕ
  pub takes : ℕ
  pub fresh : List Bool
  -- whether the one operand that it pushes is marked where one of those that it takes is
  pub carries : Bool
