-- What the names pass gives for each row of an accepted table.
use Rattle.std.specs.Prelude.{ℕ, ◌-◌, ◌/◌, ◌%◌, ◌<◌, ◌≡◌, true, ◌⊎◌, List, get_or}
use Rattle.laws.specs.Lists.{count}
use Rattle.table.specs.declared.index.Index.{Index}
use Rattle.table.specs.declared.index.ProcedureEntry.{ProcedureEntry}
use Rattle.table.specs.Format.{type_kind, field_kind, procedure_kind, local_kind, result_kind, instruction_kind, record_sort, op_ret, op_branch}
use Rattle.table.specs.Flags.{has_type}
use Rattle.table.specs.Rows.{row_at, kind_at, is_kind}
use Rattle.declarations.specs.Program.{type_in, procedure_in, field_count, local_count, code_length}
use Rattle.names.specs.Names.{Named, nothing, local_number, field_number, type_number, procedure_number, target, names}

-- what b names exists in procedure p
abbrev pub Exists : Index → ProcedureEntry → ℕ → Named → Type 0
Exists ix p b nothing = Unit {0}
Exists ix p b local_number = b < local_count p
Exists ix p b field_number = (b / 8 < ix.types) × (b % 8 < field_count (type_in ix (b / 8)))
Exists ix p b type_number = b < ix.types
Exists ix p b procedure_number = b < ix.procedures
Exists ix p b target = b < code_length p

-- row i of a table that the names pass accepts
pub record Good (t : List ℕ) (ix : Index) (i : ℕ) : Type 0 where
  -- a procedure has instructions, and the last is Ret or Branch
  pub ends : kind_at t i ≡ procedure_kind
      → ((procedure_in ix (count (is_kind t procedure_kind) i)).code < (procedure_in ix (count (is_kind t procedure_kind) i)).end)
      × (((row_at t ((procedure_in ix (count (is_kind t procedure_kind) i)).end - 1)).a ≡ op_ret) ⊎ ((row_at t ((procedure_in ix (count (is_kind t procedure_kind) i)).end - 1)).a ≡ op_branch))
  -- a field's type is lower than its own
  pub lower : kind_at t i ≡ field_kind → (row_at t i).a ≡ record_sort → (row_at t i).b < count (is_kind t type_kind) i - 1
  -- the type of a local or a result exists
  pub declared : (kind_at t i ≡ local_kind) ⊎ (kind_at t i ≡ result_kind) → has_type (row_at t i).a ≡ true → (row_at t i).b < ix.types
  -- what an instruction names exists
  pub named : kind_at t i ≡ instruction_kind → Exists ix (procedure_in ix (count (is_kind t procedure_kind) i - 1)) (row_at t i).b (get_or names (row_at t i).a nothing)
