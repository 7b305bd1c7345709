-- Paths in a place graph, and what the analyses assume of the steps.
use Rattle.std.specs.Prelude.{ℕ, suc, ◌≤◌, ◌≡◌, Bool, true, false, List, [], ◌∷◌, length}
use Rattle.reach.specs.Reach.{Mem}
use Rattle.table.specs.Format.{op_mv_loc, op_cp_loc, op_st_loc}
use Rattle.flow.specs.Steps.{Step}
use Rattle.flow.specs.Walks.{Slot, Walk}

-- a path of k steps that arrives at place x of instruction i, from one of the places `from` of the first instruction
pub data Path (next : ℕ → List ℕ) (moves : ℕ → ℕ → List ℕ) (from : List ℕ) : ℕ → ℕ → ℕ → Type 0 where
  at_first : {x : ℕ} → Mem x from → Path next moves from 0 0 x
  onwards : {k i j x y : ℕ} → Path next moves from k i x → Mem j (next i) → Mem y (moves i x) → Path next moves from (suc k) j y

-- what holds of every procedure's steps: MvLoc and CpLoc take nothing and push one operand, StLoc takes one and pushes nothing
pub record Regular (step : ℕ → Step) : Type 0 where
  pub moving : (i : ℕ) → (step i).opcode ≡ op_mv_loc → ((step i).takes ≡ 0) × ((step i).fresh ≡ false ∷ [])
  pub copying : (i : ℕ) → (step i).opcode ≡ op_cp_loc → ((step i).takes ≡ 0) × ((step i).fresh ≡ false ∷ [])
  pub storing : (i : ℕ) → (step i).opcode ≡ op_st_loc → ((step i).takes ≡ 1) × ((step i).fresh ≡ [])
  -- one that carries pushes one operand
  pub carrying : (i : ℕ) → (step i).carries ≡ true → (step i).fresh ≡ false ∷ []

-- what the operands pass gives: no walk arrives with more than 16 operands
pub record Shallow (next : ℕ → List ℕ) (step : ℕ → Step) (start : List Slot) : Type 0 where
  pub few : {k i : ℕ} {ls : List Slot} {ms : List Bool} → Walk next step start k i ls ms → length ms ≤ 16
