-- What a walk sees of each instruction of a procedure: how many operands it takes, and which of those that it pushes are marked; and where marks come to.
use Rattle.std.specs.Prelude.{ℕ, Bool, false, List, [], length, get_or}
use Rattle.laws.specs.Lists.{tabulate}
use Rattle.table.specs.declared.Row.{Row}
use Rattle.table.specs.declared.index.Index.{Index}
use Rattle.table.specs.declared.index.TypeEntry.{TypeEntry}
use Rattle.table.specs.declared.index.ProcedureEntry.{ProcedureEntry}
use Rattle.table.specs.Rows.{row_at, row_count}
use Rattle.declarations.specs.Program.{number, procedure_in, code_of, parameter_count}
use Rattle.effects.specs.Effects.{effect_of}
use Rattle.operands.specs.Operands.{named_type}
use Rattle.flow.specs.Steps.{Step, nexts}
use Rattle.flow.specs.Places.{mark_nodes}

-- What an analysis of marks starts from.
pub record Marking : Type 0 where
  -- whether parameter l of procedure q starts marked
  pub starts : ℕ → ℕ → Bool
  -- whether operand r of those that an instruction pushes is marked of itself; the first pushed is 0, and the type is that which the instruction names
  pub makes : TypeEntry → Row → ℕ → Bool
  -- whether the one operand that an instruction pushes is marked where one of those that it takes is
  pub carries : Row → Bool

-- an instruction under a marking, where its operand names this type and this procedure
unfoldable pub step_of : List ℕ → Marking → ProcedureEntry → TypeEntry → ProcedureEntry → Row → Step
step_of t m own named callee row = record {
  opcode = row.a;
  operand = row.b;
  takes = length (effect_of t own named callee row number).takes;
  fresh = tabulate (m.makes named row) (length (effect_of t own named callee row number).gives);
  carries = m.carries row;
}

-- instruction i of procedure p in a table with this index
unfoldable pub step_at : List ℕ → Index → Marking → ProcedureEntry → ℕ → Step
step_at t ix m p i = step_of t m p (named_type ix (row_at (code_of t p) i)) (procedure_in ix (row_at (code_of t p) i).b) (row_at (code_of t p) i)

-- the instructions of procedure p, listed once
abbrev pub no_step : Step
no_step = record { opcode = 0; operand = 0; takes = 0; fresh = []; carries = false }

unfoldable pub steps_at : List ℕ → Index → Marking → ProcedureEntry → List Step
steps_at t ix m p = tabulate (step_at t ix m p) (row_count (code_of t p))

-- where the marks come to on walks of procedure q, whose entry is p
unfoldable pub marks_of : List ℕ → Index → Marking → ℕ → ProcedureEntry → List Bool
marks_of t ix m q p = let steps = steps_at t ix m p in mark_nodes (nexts (code_of t p)) (λ (i : ℕ). get_or steps i no_step) (m.starts q) (parameter_count t p) (row_count (code_of t p))
