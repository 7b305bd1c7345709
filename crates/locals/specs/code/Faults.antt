-- The faults of the locals pass as the code computes them: no rule, but a middle between the code and `local_fault`.
-- The nodes of all locals of a procedure with n instructions stand in one list, those of local l from 2 n l on.
use Rattle.std.specs.Prelude.{ℕ, zero, suc, ◌+◌, ◌*◌, Bool, false, cond, ◌&&◌, ◌||◌, List, eqb, ltb, get_or}
use Rattle.table.specs.declared.Row.{Row}
use Rattle.table.specs.Format.{op_st_loc, op_ret}
use Rattle.locals.specs.declared.LocalSet.{LocalSet}
use Rattle.locals.specs.code.Sets.{contains}
use Rattle.locals.specs.Locals.{needs_full}

-- whether some walk arrives at instruction i with local l empty, or full
abbrev pub empty_at : List Bool → ℕ → ℕ → ℕ → Bool
empty_at nodes n l i = get_or nodes (2 * n * l + (2 * i + 1)) false

abbrev pub full_at : List Bool → ℕ → ℕ → ℕ → Bool
full_at nodes n l i = get_or nodes (2 * n * l + 2 * i) false

-- with the first `count` locals, of which `records` are records
module _ (nodes : List Bool) (n count : ℕ) (records : LocalSet) (i : ℕ) where
  -- whether some walk arrives with a record in local l, and in any of the first k
  abbrev pub record_at : ℕ → Bool
  record_at l = ltb l count && (contains records l && full_at nodes n l i)

  unfoldable pub some_record : ℕ → Bool
  some_record zero = false
  some_record (suc k) = some_record k || record_at k

-- the fault of instruction i, which is the given row
unfoldable pub fault_from : List Bool → Row → ℕ → ℕ → LocalSet → ℕ → ℕ
fault_from nodes row n count records i =
    cond (needs_full row.a && (ltb row.b count && empty_at nodes n row.b i)) 11
    (cond (eqb row.a op_st_loc && record_at nodes n count records i row.b) 12
    (cond (eqb row.a op_ret && some_record nodes n count records i count) 12 0))
