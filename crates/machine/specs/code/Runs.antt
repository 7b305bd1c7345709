-- A call on the machine: its instructions within a budget, and what there is after it.
use Rattle.std.specs.Prelude.{ℕ, zero, suc, ◌+◌, ◌-◌, List, length, get_or}
use Rattle.std.proofs.Math.Option.{Option}
use Rattle.table.specs.declared.Row.{Row}
use Rattle.table.specs.declared.index.Index.{Index}
use Rattle.declarations.specs.Program.{number, procedure_in, local_count, local_kind}
use Rattle.operands.specs.Flow.{effect_in}
use Rattle.semantics.specs.Limits.{budget_spent}
use Rattle.semantics.specs.Step.{instruction}
use Rattle.state.specs.declared.Operand.{Operand}
use Rattle.machine.specs.code.Machine.{MFrame, mframe, MRoom, MEntry, MState, mstate, MOutcome, mnext, mfinished, mstopped, mbroken, doings}

-- in a table with this index
module _ (t : List ℕ) (ix : Index) where
  -- how many operands instruction i of procedure p takes
  unfoldable pub takes_at : ℕ → ℕ → ℕ
  takes_at p i = length (effect_in t ix (procedure_in ix p) number i).takes

  unfoldable pub did : Row → ℕ → (s p i : ℕ) → List Operand → List Operand → List MFrame → List (Option MRoom) → ℕ → List MEntry → ℕ → MOutcome
  did row takes s p i ops ls fs rooms recs es n =
      get_or (doings row.b row.d (local_kind t (procedure_in ix p) row.b) takes (local_count (procedure_in ix row.b) - takes) s p i ops ls fs rooms recs es n) row.a mbroken

  abbrev pub mstep : MState → MOutcome
  mstep (mstate (mframe s p i ops ls) fs rooms recs es n) = did (instruction t ix p i) (takes_at p i) s p i ops ls fs rooms recs es n

  -- the row of the instruction that comes up
  abbrev pub mrow : MState → ℕ
  mrow (mstate (mframe s p i ops ls) fs rooms recs es n) = (procedure_in ix p).code + i

-- the end of a call: its last state, and what its last instruction did
pub data MEnd : Type 0 where
  mend : MState → MOutcome → MEnd

module _ (t : List ℕ) (ix : Index) where
  abbrev pub monward : MState → MOutcome → (MState → MEnd) → MEnd
  monward m (mnext m') rest = rest m'
  monward m (mfinished xs m') rest = mend m (mfinished xs m')
  monward m (mstopped k) rest = mend m (mstopped k)
  monward m mbroken rest = mend m mbroken

  unfoldable pub mgo : ℕ → MState → MEnd
  mgo zero m = mend m (mstopped budget_spent)
  mgo (suc budget) m = monward m (mstep t ix m) (mgo budget)
