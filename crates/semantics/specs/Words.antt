-- The words of demand 3 (document 01), said of the rows of a table, and of records, entries and frames.
use Rattle.std.specs.Prelude.{ℕ, zero, suc, ◌+◌, ◌≡◌, Bool, true, cond, ◌&&◌, List, ◌⊎◌, eqb}
use Rattle.std.proofs.Math.Option.{Option, some}
use Rattle.std.proofs.Math.ListN.{get_elem? as nth}
use Rattle.laws.specs.Lists.{every, count, nth as nth_hit}
use Rattle.table.specs.declared.index.ProcedureEntry.{ProcedureEntry}
use Rattle.table.specs.Format.{module_kind, type_kind, field_kind, procedure_kind}
use Rattle.table.specs.Rows.{row_count, row_at, is_kind}
use Rattle.table.specs.Index.{owner_at, type_at, procedure_at}
use Rattle.table.specs.Procedures.{procedure_row}
use Rattle.table.specs.Flags.{is_guarded}
use Rattle.declarations.specs.Program.{field_kinds}
use Rattle.reach.specs.Reach.{Mem}
use Rattle.semantics.specs.Machine.{Value, num, refer, to_field, Cell, gone, here, Entry, entry, Frame, frame}

-- Rows. How many types and procedures there are, and the row of type y, the y-th of kind 2; `procedure_row` is that of a procedure
abbrev pub type_count : List ℕ → ℕ
type_count t = count (is_kind t type_kind) (row_count t)

abbrev pub procedure_count : List ℕ → ℕ
procedure_count t = count (is_kind t procedure_kind) (row_count t)

abbrev pub type_row : List ℕ → ℕ → ℕ
type_row t y = nth_hit (is_kind t type_kind) (row_count t) y

-- The module that a row stands in is counted from the module rows above it (`owner_at`): that of procedure p, and that which declares type y
abbrev pub module_of : List ℕ → ℕ → ℕ
module_of t p = owner_at t (procedure_row t p)

abbrev pub declarer : List ℕ → ℕ → ℕ
declarer t y = owner_at t (type_row t y)

-- the nearest module row above row i, and whether it says guest
unfoldable pub module_above : List ℕ → ℕ → ℕ
module_above t zero = 0
module_above t (suc i) = cond (is_kind t module_kind i) i (module_above t i)

unfoldable pub in_guest : List ℕ → ℕ → Bool
in_guest t i = eqb (row_at t (module_above t i)).a 0

-- whether procedure p is a guest's
abbrev pub guest : List ℕ → ℕ → Bool
guest t p = in_guest t (procedure_row t p)

-- whether field j of type y is guarded: the rows from below the type's down to the field's are fields, and its C is 1
unfoldable pub guarded_field : List ℕ → ℕ → ℕ → Bool
guarded_field t y j = every (λ (k : ℕ). is_kind t field_kind (type_row t y + 1 + k)) (suc j) && is_guarded (row_at t (type_row t y + 1 + j))

-- the kinds of the fields of type y; the rows of procedure p; the row of its instruction i
abbrev pub kinds_in : List ℕ → ℕ → List ℕ
kinds_in t y = field_kinds t (type_at t (type_row t y))

abbrev pub body_of : List ℕ → ℕ → ProcedureEntry
body_of t p = procedure_at t (procedure_row t p)

abbrev pub instruction_row : List ℕ → ℕ → ℕ → ℕ
instruction_row t p i = (body_of t p).code + i

-- a writable reference to a guarded field: one made by BorrowFld of that field, moved or copied since, stale or not
abbrev pub GuardedReference : List ℕ → Value → Type 0
GuardedReference t v = (id y j : ℕ) × (v ≡ refer true (to_field id y j)) × (guarded_field t y j ≡ true)

-- what a frame holds: its operands and full locals
pub data Holds : Frame → Value → Type 0 where
  operand : {id p i : ℕ} {ops : List Value} {ls : List (Option Value)} {v : Value} → Mem v ops → Holds (frame id p i ops ls) v
  local : {id p i : ℕ} {ops : List Value} {ls : List (Option Value)} {v : Value} (l : ℕ) → nth ls l ≡ some (some v) → Holds (frame id p i ops ls) v

-- a record that exists, and its type; one that was broken up keeps its type
abbrev pub Exists : List Cell → ℕ → ℕ → Type 0
Exists rs id y = (vs : List Value) × (nth rs id ≡ some (here y vs))

abbrev pub Existed : List Cell → ℕ → ℕ → Type 0
Existed rs id y = (nth rs id ≡ some (gone y)) ⊎ Exists rs id y

-- the number x in field j of the existing record id of type y
pub record NumberIn (rs : List Cell) (id y j x : ℕ) : Type 0 where
  pub fields : List Value
  pub exists : nth rs id ≡ some (here y fields)
  pub number : nth fields j ≡ some (num x)

-- record id is an entry of the store, under a key; under any
abbrev pub IsEntry : List Entry → ℕ → ℕ → ℕ → Type 0
IsEntry st y a id = Mem (entry y a id) st

abbrev pub InStore : List Entry → ℕ → Type 0
InStore st id = (y a : ℕ) × IsEntry st y a id
