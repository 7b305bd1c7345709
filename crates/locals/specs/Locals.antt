-- The locals pass: refusals 11 and 12 of document 01.
use Rattle.std.specs.Prelude.{ℕ, zero, suc, Bool, false, cond, ◌&&◌, ◌||◌, List, [], eqb, ltb}
use Rattle.table.specs.declared.Row.{Row}
use Rattle.table.specs.Verdicts.{Verdict}
use Rattle.table.specs.declared.index.ProcedureEntry.{ProcedureEntry}
use Rattle.table.specs.Format.{op_mv_loc, op_cp_loc, op_st_loc, op_borrow_loc, op_ret}
use Rattle.table.specs.Rows.{row_count, row_at}
use Rattle.table.specs.Index.{index_of}
use Rattle.table.specs.Refusals.{empty_local, lost_record}
use Rattle.declarations.specs.Program.{code_of, code_pass, local_count, local_kind, parameter_count, is_record}
use Rattle.flow.specs.Steps.{Step, nexts}
use Rattle.flow.specs.Places.{local_nodes, can_be_empty, can_be_full}

-- what locals depend on: opcode and operand
abbrev pub row_step : Row → Step
row_step row = record { opcode = row.a; operand = row.b; takes = 0; fresh = []; carries = false }

abbrev pub bare_step : List ℕ → ℕ → Step
bare_step c i = row_step (row_at c i)

-- opcodes that need their local full: MvLoc, CpLoc, BorrowLoc
unfoldable pub needs_full : ℕ → Bool
needs_full op = eqb op op_mv_loc || eqb op op_cp_loc || eqb op op_borrow_loc

-- what walks through the code c leave in local l: which instructions some walk comes to with the local full, and with the local empty
unfoldable pub nodes_of : List ℕ → ℕ → ℕ → List Bool
nodes_of c params l = local_nodes (nexts c) (bare_step c) params (row_count c) l

-- of procedure p in the table t
module _ (t : List ℕ) (p : ProcedureEntry) where
  -- whether some walk arrives at instruction i with local l empty, or full
  unfoldable pub leaves_empty : ℕ → ℕ → Bool
  leaves_empty l i = ltb l (local_count p) && can_be_empty (nodes_of (code_of t p) (parameter_count t p) l) i

  unfoldable pub leaves_full : ℕ → ℕ → Bool
  leaves_full l i = ltb l (local_count p) && can_be_full (nodes_of (code_of t p) (parameter_count t p) l) i

  -- whether some walk arrives with a record in local l, and in any of the first n
  unfoldable pub leaves_record : ℕ → ℕ → Bool
  leaves_record l i = is_record (local_kind t p l) && leaves_full l i

  unfoldable pub leaves_some : ℕ → ℕ → Bool
  leaves_some zero i = false
  leaves_some (suc n) i = leaves_some n i || leaves_record n i

  -- 11: MvLoc, CpLoc or BorrowLoc on a local that some walk leaves empty; 12: StLoc where some walk leaves a record in that local, or Ret in any
  unfoldable pub local_fault : ℕ → ℕ
  local_fault i =
      cond (needs_full (row_at (code_of t p) i).a && leaves_empty (row_at (code_of t p) i).b i) empty_local
      (cond (eqb (row_at (code_of t p) i).a op_st_loc && leaves_record (row_at (code_of t p) i).b i) lost_record
      (cond (eqb (row_at (code_of t p) i).a op_ret && leaves_some (local_count p) i) lost_record 0))

-- the locals pass over a table
unfoldable pub locals_of : List ℕ → Verdict
locals_of t = code_pass (λ (q : ℕ). local_fault t) (index_of t) t
