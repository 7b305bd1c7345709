-- Walks ("paths" in the field): document 01, "Judging". A walk starts at a procedure's first instruction and takes each branch either way; it goes on past
-- faulty rows. Parameters start full, other locals empty. Marked is a reference made by BorrowFld of a guarded field, and its copies through locals.
use Rattle.std.specs.Prelude.{ℕ, zero, suc, Bool, false, cond, ◌||◌, List, [], ◌∷◌, eqb, ltb, get_or, set, drop}
use Rattle.laws.specs.Lists.{tabulate}
use Rattle.reach.specs.Reach.{Mem}
use Rattle.table.specs.Format.{op_mv_loc, op_cp_loc, op_st_loc}
use Rattle.flow.specs.Steps.{Step}

-- what a walk leaves in a local: nothing, or a value, marked or not
pub data Slot : Type 0 where
  empty : Slot
  full : Bool → Slot

abbrev pub mark_of : Slot → Bool
mark_of empty = false
mark_of (full marked) = marked

-- whether the top operand is marked
abbrev pub top_mark : List Bool → Bool
top_mark [] = false
top_mark (m ∷ ms) = m

-- pushes, the first of the list first
unfoldable pub pushed_on : List Bool → List Bool → List Bool
pushed_on [] ms = ms
pushed_on (x ∷ xs) ms = pushed_on xs (x ∷ ms)

-- the locals after an instruction: MvLoc empties its local, StLoc fills it with the top operand
unfoldable pub locals_after : Step → List Slot → List Bool → List Slot
locals_after s ls ms =
    cond (eqb s.opcode op_mv_loc) (set ls s.operand empty)
    (cond (eqb s.opcode op_st_loc) (set ls s.operand (full (top_mark ms)))
    ls)

-- whether some one of the first n operands is marked
unfoldable pub some_top : ℕ → List Bool → Bool
some_top zero ms = false
some_top (suc n) ms = some_top n ms || get_or ms n false

-- the marks of what an instruction pushes: MvLoc and CpLoc push their local's; one that carries pushes what it takes
unfoldable pub pushes : Step → List Slot → List Bool → List Bool
pushes s ls ms =
    cond (eqb s.opcode op_mv_loc) (mark_of (get_or ls s.operand empty) ∷ [])
    (cond (eqb s.opcode op_cp_loc) (mark_of (get_or ls s.operand empty) ∷ [])
    (cond s.carries (some_top s.takes ms ∷ [])
    s.fresh))

-- the operands' marks after an instruction, the top first
unfoldable pub marks_after : Step → List Slot → List Bool → List Bool
marks_after s ls ms = pushed_on (pushes s ls ms) (drop s.takes ms)

-- a walk of k instructions that arrives at instruction i with these locals and these operands' marks
pub data Walk (next : ℕ → List ℕ) (step : ℕ → Step) (start : List Slot) : ℕ → ℕ → List Slot → List Bool → Type 0 where
  starts : Walk next step start 0 0 start []
  goes_on : {k i j : ℕ} {ls : List Slot} {ms : List Bool} → Walk next step start k i ls ms → Mem j (next i)
      → Walk next step start (suc k) j (locals_after (step i) ls ms) (marks_after (step i) ls ms)

-- how the locals start: n of them, the first `params` full, marked where that is given
unfoldable pub entry : (ℕ → Bool) → ℕ → ℕ → List Slot
entry given params n = tabulate (λ (l : ℕ). cond (ltb l params) (full (given l)) empty) n
