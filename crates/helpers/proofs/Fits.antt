-- What the passes before leaks give of a table's procedures.
use Prim.Native.Nat.{ℕ, ◌<◌, ◌≤◌}
use mathlib.Core.Path.{◌≡◌}
use mathlib.Core.Bool.{Bool, true, false}
use mathlib.Core.List.{List}
use lib.ListN.{length}
use Rattle.reach.specs.Reach.{Mem}
use Rattle.table.specs.Format.{op_st_loc, op_call, op_ret}
use Rattle.flow.specs.Walks.{entry}
use Rattle.flow.specs.code.Paths.{Regular, Shallow}
use Rattle.helpers.specs.Marks.{Procedure, parameter_of, step_under}

-- rows and names
pub record Fits (code : ℕ → Procedure) (count : ℕ) : Type 0 where
  pub some : (q : ℕ) → q < count → 0 < (code q).size
  pub next_below : (q : ℕ) → q < count → (i j : ℕ) → Mem j ((code q).next i) → j < (code q).size
  pub fits : (q : ℕ) → q < count → (code q).params ≤ (code q).locals
  pub small : (q : ℕ) → q < count → (code q).locals ≤ 16
  pub called : (q : ℕ) → q < count → (i : ℕ) → ((code q).step i).opcode ≡ op_call → (((code q).step i).operand < count) × (length ((code q).step i).fresh ≤ 4)
  pub helped : (q : ℕ) → q < count → (i : ℕ) → (code q).helper i ≡ true → (((code q).step i).opcode ≡ op_call) × (((code q).step i).takes ≤ 16)
  pub returned : (q : ℕ) → q < count → (i : ℕ) → ((code q).step i).opcode ≡ op_ret → ((code q).step i).takes ≤ 4

-- besides, operands: what walks need
pub record Walkable (code : ℕ → Procedure) (count : ℕ) : Type 0 where
  pub regular : (q : ℕ) → q < count → Regular (code q).step
  -- a Call's results are marked as its procedure's are, whatever it takes
  pub uncarried : (q : ℕ) → q < count → (i : ℕ) → ((code q).step i).opcode ≡ op_call → ((code q).step i).carries ≡ false
  pub shallow : (q : ℕ) → q < count → (m : List Bool) → Shallow (code q).next (λ (i : ℕ). step_under m ((code q).step i)) (entry (parameter_of m q) (code q).params (code q).locals)
  pub stores : (q : ℕ) → q < count → (i : ℕ) → ((code q).step i).opcode ≡ op_st_loc → ((code q).step i).operand < (code q).locals
