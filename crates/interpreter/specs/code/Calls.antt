-- A call of a list: its beginning, its instructions, and what there is after it.
use Rattle.std.specs.Prelude.{ℕ, zero, suc, ◌+◌, ◌-◌, ◌*◌, Bool, true, not, cond, List, [], ◌∷◌, eqb, leb, length, get_or, set}
use Rattle.table.specs.declared.index.Index.{Index}
use Rattle.declarations.specs.Program.{procedure_in, local_count}
use Rattle.semantics.specs.Calls.{Call, call}
use Rattle.state.specs.declared.Operand.{Operand}
use Rattle.state.specs.declared.Operand.TheVariants.{Empty, Number}
use Rattle.state.specs.declared.frames.State.{State}
use Rattle.state.specs.code.Cells.{emptied}
use Rattle.state.specs.code.Layout.{room_cell}
use Rattle.state.specs.code.Frames.{stop_of, next_serial}
use Rattle.frame.specs.code.Turning.{Turning, after, done}
use Rattle.frame.specs.code.Control.{within}
use Rattle.interpreter.specs.code.Run.{run_from, same_from}

-- the k members from place `at` on put in place of those of another list
unfoldable pub carried : {A : Type 0} → A → List A → List A → ℕ → ℕ → List A
carried z ks cs at zero = ks
carried z ks cs at (suc k) = set (carried z ks cs at k) (at + k) (get_or cs (at + k) z)

-- the same for cells, where they are in both
unfoldable pub kept : List Operand → List Operand → ℕ → ℕ → List Operand
kept ks cs at k = cond (leb (at + k) (length ks)) (cond (leb (at + k) (length cs)) (carried Empty ks cs at k) ks) ks

-- the entries and the rooms of a state
abbrev pub kept_of : List Operand → List Operand → State → List Operand
kept_of ks cs s = kept (kept ks cs 544 (2 * s.entries)) cs 672 (9 * s.rooms)

-- where they are not kept already
abbrev pub kept_since : Bool → List Operand → List Operand → State → List Operand
kept_since same ks cs s = cond same ks (kept_of ks cs s)

-- the heads of n rooms from room r on emptied
unfoldable pub freed : List Operand → ℕ → ℕ → List Operand
freed cs r zero = cs
freed cs r (suc n) = set (freed cs r n) (room_cell (r + n)) Empty

-- numbers in cells, from cell `at` on
unfoldable pub filled : List Operand → ℕ → List ℕ → List Operand
filled cs at [] = cs
filled cs at (x ∷ xs) = filled (set cs at (Number x)) (at + 1) xs

-- a call of procedure p begins
abbrev pub begun : State → ℕ → ℕ → State
begun s p count = record { serial = s.frames; procedure = p; at = 0; depth = 0; height = 0; count = count; stop = 0; records = s.records; frames = next_serial s.frames; entries = s.entries; rooms = s.rooms; free = s.free }

abbrev pub begun_in : List Operand → ℕ → List ℕ → List Operand
begun_in cs count args = filled (emptied cs 16 count) 16 args

-- after a call that is not done entries and rooms are those of its beginning
abbrev pub restored : State → State → State
restored s first = record { serial = s.serial; procedure = s.procedure; at = s.at; depth = s.depth; height = s.height; count = s.count; stop = s.stop; records = s.records; frames = s.frames; entries = first.entries; rooms = first.rooms; free = first.free }

abbrev pub restored_in : List Operand → List Operand → State → State → List Operand
restored_in cs ks s first = freed (kept_of cs ks first) first.rooms (s.rooms - first.rooms)

-- `same`: entries and rooms are those of its beginning
abbrev pub restored_to : List Operand → State → Bool → Turning → Turning
restored_to ks first same (after s cs) = cond same (after s cs) (cond (eqb (stop_of s) done) (after s cs) (after (restored s first) (restored_in cs ks s first)))

-- whether they are those that are kept
abbrev pub same_restored : Bool → ℕ → Bool
same_restored same stop = cond same true (not (eqb stop done))

-- in a table with this index
module _ (t : List ℕ) (ix : Index) where
  -- whether no instruction of a call can change entries or rooms
  unfoldable pub same_call : List Operand → State → Call → Bool
  same_call cs s (call q budget args) =
      let count = within (local_count (procedure_in ix q)) in
      same_from t ix budget (begun_in cs count args) (begun s q count)

  -- a call, where `ks` is what is kept
  unfoldable pub call_turn : List Operand → List Operand → State → Call → Turning
  call_turn cs ks s (call q budget args) =
      let count = within (local_count (procedure_in ix q)) in
      let first = begun s q count in
      restored_to ks first (same_from t ix budget (begun_in cs count args) first) (run_from t ix budget (begun_in cs count args) first)
