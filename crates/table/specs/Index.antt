-- An index of a table: where each module, type and procedure stands. Rows, types and procedures are numbered from 0 in table order.
-- It is defined for any bytes; what document 01 says of its parts holds of tables that the rows pass accepts.
use Rattle.std.specs.Prelude.{ℕ, ◌+◌, ◌-◌, min, not, List}
use Rattle.laws.specs.Lists.{find, count, entries}
use Rattle.table.specs.declared.index.TypeEntry.{TypeEntry}
use Rattle.table.specs.declared.index.ProcedureEntry.{ProcedureEntry}
use Rattle.table.specs.declared.index.Index.{Index}
use Rattle.table.specs.Format.{module_kind, type_kind, field_kind, procedure_kind, local_kind, result_kind, instruction_kind, max_rows, max_modules, max_types, max_procedures}
use Rattle.table.specs.Rows.{row_count, is_kind}

-- the rows that the index covers: all of them, unless the table is longer than any that is accepted
abbrev pub indexed_rows : List ℕ → ℕ
indexed_rows t = min (row_count t) max_rows

-- the first row from i on, before row n, that is not of kind k; n where there is none
unfoldable pub run_end : List ℕ → ℕ → ℕ → ℕ → ℕ
run_end t n k i = find (λ (j : ℕ). not (is_kind t k j)) i (n - i)

-- the number of the module that row i stands in
unfoldable pub owner_at : List ℕ → ℕ → ℕ
owner_at t i = count (is_kind t module_kind) i - 1

-- the type at row i: its row, its module, and the row after its last field; its fields start below its row
unfoldable pub type_at : List ℕ → ℕ → TypeEntry
type_at t i = record { row = i; owner = owner_at t i; end = run_end t (indexed_rows t) field_kind (i + 1) }

-- of the procedure at row i: where its results start, where its instructions start, and the row after its last instruction
unfoldable pub results_start : List ℕ → ℕ → ℕ
results_start t i = run_end t (indexed_rows t) local_kind (i + 1)

unfoldable pub code_start : List ℕ → ℕ → ℕ
code_start t i = run_end t (indexed_rows t) result_kind (results_start t i)

unfoldable pub code_end : List ℕ → ℕ → ℕ
code_end t i = run_end t (indexed_rows t) instruction_kind (code_start t i)

-- the procedure at row i; its locals start below its row
unfoldable pub procedure_at : List ℕ → ℕ → ProcedureEntry
procedure_at t i = record { row = i; owner = owner_at t i; results = results_start t i; code = code_start t i; end = code_end t i }

-- the entries for a number without a type, and without a procedure
abbrev pub no_type : TypeEntry
no_type = record { row = 0; owner = 0; end = 0 }

abbrev pub no_procedure : ProcedureEntry
no_procedure = record { row = 0; owner = 0; results = 0; code = 0; end = 0 }

-- the index: how many modules, types and procedures there are, and an entry for each number below its limit; a module's entry is its row
unfoldable pub index_of : List ℕ → Index
index_of t = record {
  modules = count (is_kind t module_kind) (indexed_rows t);
  types = count (is_kind t type_kind) (indexed_rows t);
  procedures = count (is_kind t procedure_kind) (indexed_rows t);
  module_rows = entries (is_kind t module_kind) (λ (i : ℕ). i) 0 (indexed_rows t) max_modules;
  type_entries = entries (is_kind t type_kind) (type_at t) no_type (indexed_rows t) max_types;
  procedure_entries = entries (is_kind t procedure_kind) (procedure_at t) no_procedure (indexed_rows t) max_procedures;
}
