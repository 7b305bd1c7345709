-- The operands pass: refusals 7 to 10 of document 01.
use Rattle.std.specs.Prelude.{ℕ, zero, suc, ◌+◌, ◌/◌, Bool, cond, not, ◌&&◌, ◌||◌, List, [], eqb, leb}
use Rattle.table.specs.declared.Row.{Row}
use Rattle.table.specs.Verdicts.{Verdict}
use Rattle.table.specs.declared.index.Index.{Index}
use Rattle.table.specs.declared.index.TypeEntry.{TypeEntry}
use Rattle.table.specs.declared.index.ProcedureEntry.{ProcedureEntry}
use Rattle.table.specs.Format.{op_borrow_fld, op_exists, op_call, op_ret, op_branch_cond}
use Rattle.table.specs.Rows.{row_count, row_at}
use Rattle.table.specs.Index.{index_of}
use Rattle.table.specs.Flags.{is_public}
use Rattle.declarations.specs.Program.{type_in, procedure_in, code_of, code_pass, is_target}
use Rattle.effects.specs.Kinds.{Kinds, good, fault_after}
use Rattle.effects.specs.Effects.{kinds_after}

-- the type that an instruction names: B is type times 8 plus field for BorrowFld, else the type
unfoldable pub named_type : Index → Row → TypeEntry
named_type ix row = type_in ix (cond (eqb row.a op_borrow_fld) (row.b / 8) row.b)

-- whether an instruction is the last of its block: the procedure's last, Ret, Branch, BranchCond, or the next one is a jump target
unfoldable pub ends_block : ℕ → Bool
ends_block op = leb op_ret op && leb op op_branch_cond

unfoldable pub last_of_block : List ℕ → ℕ → Bool
last_of_block c i = leb (row_count c) (i + 1) || ends_block (row_at c i).a || is_target c (i + 1)

-- 10: a type of another module; a type, or a private procedure, of another module
abbrev pub foreign_type : ℕ → TypeEntry → ProcedureEntry → Bool
foreign_type op named own = leb op_borrow_fld op && leb op op_exists && not (eqb named.owner own.owner)

unfoldable pub foreign : List ℕ → ProcedureEntry → TypeEntry → ProcedureEntry → Row → Bool
foreign t own named callee row =
    foreign_type row.a named own
    || (eqb row.a op_call && not (is_public (row_at t callee.row)) && not (eqb callee.owner own.owner))

-- of procedure p, whose code is c, in a table with this index
module _ (t : List ℕ) (ix : Index) (p : ProcedureEntry) where
  -- the kinds after instruction i, where s are those before
  unfoldable pub after : ℕ → Kinds → Kinds
  after i s = kinds_after t p (named_type ix (row_at (code_of t p) i)) (procedure_in ix (row_at (code_of t p) i).b) (row_at (code_of t p) i) s

  -- the kinds before instruction i: none at the start of a block
  unfoldable pub kinds_before : ℕ → Kinds
  kinds_before zero = good []
  kinds_before (suc i) = cond (last_of_block (code_of t p) i) (good []) (after i (kinds_before i))

  -- the lowest number that instruction i earns, 0 for none
  unfoldable pub code_fault : ℕ → ℕ
  code_fault i =
      fault_after (after i (kinds_before i)) (last_of_block (code_of t p) i)
      (foreign t p (named_type ix (row_at (code_of t p) i)) (procedure_in ix (row_at (code_of t p) i).b) (row_at (code_of t p) i))

-- the operands pass over a table with a given index, and with its own
unfoldable pub operands_with : Index → List ℕ → Verdict
operands_with ix t = code_pass (λ (q : ℕ). code_fault t ix) ix t

unfoldable pub operands_of : List ℕ → Verdict
operands_of t = operands_with (index_of t) t
