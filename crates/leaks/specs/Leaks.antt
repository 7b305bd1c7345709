-- The leaks pass: refusals 13 and 14 of document 01 ("escape analysis" in the field), in trusted modules only.
use Rattle.std.specs.Prelude.{ℕ, Bool, false, cond, not, ◌&&◌, ◌||◌, List, [], ◌∷◌, eqb, length, get_or}
use Rattle.table.specs.Verdicts.{Verdict}
use Rattle.table.specs.declared.index.Index.{Index}
use Rattle.table.specs.declared.index.ProcedureEntry.{ProcedureEntry}
use Rattle.table.specs.Format.{op_call, op_ret}
use Rattle.table.specs.Rows.{row_at}
use Rattle.table.specs.Index.{index_of}
use Rattle.table.specs.Refusals.{mark_given, mark_returned}
use Rattle.table.specs.Flags.{is_trusted}
use Rattle.declarations.specs.Program.{number, number_ref, procedure_in, code_of, code_pass}
use Rattle.operands.specs.Flow.{effect_in}
use Rattle.flow.specs.Places.{operand_marked}
use Rattle.steps.specs.Steps.{Marking, marks_of}
use Rattle.helpers.specs.Tables.{is_private, is_helper, marks_under, marks_in}

-- the marks of guarded references: under the smallest marks that calls of helpers give
abbrev pub guarded_marks : List ℕ → Marking
guarded_marks t = marks_under t (marks_in t)

-- whether the module at a row is trusted, and whether a procedure stands in such a one
abbrev pub trusted_at : List ℕ → ℕ → Bool
trusted_at t row = is_trusted (row_at t row)

unfoldable pub in_trusted : List ℕ → Index → ProcedureEntry → Bool
in_trusted t ix p = trusted_at t (get_or ix.module_rows p.owner 0)

-- Whether some one of operands of these kinds, the last on top, is a writable reference and marked: `marked` tells of each operand, counted from the top. A read-only reference is
-- never marked: one that BorrowFld of a guarded field made does not count
unfoldable pub some_marked : (ℕ → Bool) → List ℕ → Bool
some_marked marked [] = false
some_marked marked (k ∷ ks) = (eqb k number_ref && marked (length ks)) || some_marked marked ks

-- 13: a marked reference given to a Call of a procedure that is no helper; 14: a marked reference that a procedure returns which is not private; by opcode and the kinds that the
-- instruction takes
unfoldable pub leak_in : (ℕ → Bool) → ℕ → Bool → Bool → List ℕ → ℕ
leak_in marked op helper hidden takes =
    cond (eqb op op_call && not helper && some_marked marked takes) mark_given
    (cond (eqb op op_ret && not hidden && some_marked marked takes) mark_returned 0)

-- of procedure q, whose entry is p, in a table with this index
module _ (t : List ℕ) (ix : Index) where
  -- the number that instruction i earns in a trusted module, where `marked` tells on which operands some walk arrives with a mark
  unfoldable pub leak_from : ProcedureEntry → (ℕ → ℕ → Bool) → ℕ → ℕ
  leak_from p marked i =
      leak_in (marked i) (row_at (code_of t p) i).a (is_helper t p (procedure_in ix (row_at (code_of t p) i).b)) (is_private t p) (effect_in t ix p number i).takes

  -- under marks m
  unfoldable pub leak_fault : List Bool → ℕ → ProcedureEntry → ℕ → ℕ
  leak_fault m q p = let nodes = marks_of t ix (marks_under t m) q p in λ (i : ℕ). cond (in_trusted t ix p) (leak_from p (operand_marked nodes) i) 0

-- the leaks pass over a table
unfoldable pub leaks_of : List ℕ → Verdict
leaks_of t = let m = marks_in t in code_pass (leak_fault t (index_of t) m) (index_of t) t
