-- The numbering before 18 and 19, as document 01 has it: 4 for an unused byte that is not zero, a value not allowed and a guard misplaced, by the tests of `rows/specs/Rows`, which the new
-- numbers left as they were. Nothing is judged by it.
use Rattle.std.specs.Prelude.{ℕ, cond, ◌||◌, List, [], ◌∷◌}
use Rattle.laws.specs.Lists.{member}
use Rattle.table.specs.declared.Row.{Row}
use Rattle.table.specs.Verdicts.{Verdict, Accepted, Refused, pass_over}
use Rattle.table.specs.Rows.{row_count, row_at}
use Rattle.table.specs.Refusals.{dirty_byte, wrong_value, wrong_guard}
use Rattle.rows.specs.declared.Above.{Above}
use Rattle.rows.specs.Rows.{length_of, misplaced, too_many, unused_byte, bad_value, bad_guard, above_at}
use Rattle.names.specs.Names.{names_of}
use Rattle.operands.specs.Operands.{operands_of}
use Rattle.locals.specs.Locals.{locals_of}
use Rattle.leaks.specs.Leaks.{leaks_of}
use Rattle.judging.specs.Judging.{in_order}

-- the number of a row, the rows pass and the judge
unfoldable pub row_fault_before : Above → Row → ℕ
row_fault_before s row =
    cond (misplaced s row) 2
    (cond (too_many s row) 3
    (cond (unused_byte row || bad_value s row || bad_guard s row) 4 0))

unfoldable pub rows_before : List ℕ → Verdict
rows_before t = pass_over (λ (i : ℕ). row_fault_before (above_at t i) (row_at t i)) (row_count t)

unfoldable pub judge_before : List ℕ → Verdict
judge_before t = in_order (length_of ∷ rows_before ∷ names_of ∷ operands_of ∷ locals_of ∷ leaks_of ∷ []) t

-- a verdict in the old numbers: 18 and 19 are 4, all else is as it is
unfoldable pub old_number : ℕ → ℕ
old_number number = cond (member number (wrong_value ∷ wrong_guard ∷ [])) dirty_byte number

abbrev pub in_old_numbers : Verdict → Verdict
in_old_numbers (Accepted rows) = Accepted rows
in_old_numbers (Refused number row) = Refused (old_number number) row
