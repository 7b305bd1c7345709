-- What holds wherever a walk arrives, in a table that every pass accepts, in the form in which a proof about running uses it.
use Rattle.std.specs.Prelude.{ℕ, ◌<◌, ◌≡◌, Bool, true, false, List, ◌∷◌, ◌++◌, length, get_or}
use Rattle.table.specs.Format.{op_st_loc, op_call, op_ret}
use Rattle.table.specs.Index.{index_of}
use Rattle.declarations.specs.Program.{number_ref, is_record, procedure_in, code_of, local_count, local_kind, parameter_count, parameter_kinds, result_kinds, instruction_in}
use Rattle.flow.specs.Steps.{Step, nexts}
use Rattle.flow.specs.Walks.{Slot, empty, full, Walk, entry, mark_of}
use Rattle.locals.specs.Locals.{needs_full}
use Rattle.steps.specs.Steps.{step_at}
use Rattle.helpers.specs.Marks.{parameter_of, result_of}
use Rattle.helpers.specs.Tables.{is_private, is_helper, marks_in}
use Rattle.leaks.specs.Leaks.{guarded_marks, in_trusted}

-- procedure q of a table: its instructions, its parameters that start marked, and its walks
module _ (t : List ℕ) (q : ℕ) where
  abbrev pub step_in : ℕ → Step
  step_in = step_at t (index_of t) (guarded_marks t) (procedure_in (index_of t) q)

  abbrev pub starts_in : ℕ → Bool
  starts_in = (guarded_marks t).starts q

  abbrev pub WalkOf : ℕ → ℕ → List Slot → List Bool → Type 0
  WalkOf = Walk (nexts (code_of t (procedure_in (index_of t) q))) step_in (entry starts_in (parameter_count t (procedure_in (index_of t) q)) (local_count (procedure_in (index_of t) q)))

-- of operands of these kinds, the last on top, no writable reference to a number is marked
abbrev pub Unmarked : List ℕ → List Bool → Type 0
Unmarked ks ms = (before after : List ℕ) → ks ≡ before ++ (number_ref ∷ after) → get_or ms (length after) false ≡ false

-- of operands of these kinds, the last on top, each that is marked is told so by its number from the first
abbrev pub MarkedAs : List ℕ → List Bool → (ℕ → Bool) → Type 0
MarkedAs ks ms marked = (before after : List ℕ) (k : ℕ) → ks ≡ before ++ (k ∷ after) → get_or ms (length after) false ≡ true → marked (length before) ≡ true

-- what instruction i finds where a walk arrives with these locals and marks
pub record Checked (t : List ℕ) (q i : ℕ) (ls : List Slot) (ms : List Bool) : Type 0 where
  -- MvLoc, CpLoc and BorrowLoc find their local full
  pub full-there : needs_full (instruction_in t (index_of t) q i).a ≡ true → (m : Bool) × (get_or ls (instruction_in t (index_of t) q i).b empty ≡ full m)
  -- StLoc finds no record in its local, Ret in none
  pub none_over : (instruction_in t (index_of t) q i).a ≡ op_st_loc → is_record (local_kind t (procedure_in (index_of t) q) (instruction_in t (index_of t) q i).b) ≡ true → get_or ls (instruction_in t (index_of t) q i).b empty ≡ empty
  pub none_left : (instruction_in t (index_of t) q i).a ≡ op_ret → (l : ℕ) → l < local_count (procedure_in (index_of t) q) → is_record (local_kind t (procedure_in (index_of t) q) l) ≡ true → get_or ls l empty ≡ empty
  -- no writable reference that a Call gives to a procedure that is no helper is marked; what is marked and given to a helper starts marked there
  pub none-given : (instruction_in t (index_of t) q i).a ≡ op_call → is_helper t (procedure_in (index_of t) q) (procedure_in (index_of t) (instruction_in t (index_of t) q i).b) ≡ false
      → Unmarked (parameter_kinds t (procedure_in (index_of t) (instruction_in t (index_of t) q i).b)) ms
  pub given-marked : (instruction_in t (index_of t) q i).a ≡ op_call → is_helper t (procedure_in (index_of t) q) (procedure_in (index_of t) (instruction_in t (index_of t) q i).b) ≡ true
      → MarkedAs (parameter_kinds t (procedure_in (index_of t) (instruction_in t (index_of t) q i).b)) ms (parameter_of (marks_in t) (instruction_in t (index_of t) q i).b)
  -- no writable reference that a procedure returns is marked, unless it is private: then it is a marked result
  pub none-returned : (instruction_in t (index_of t) q i).a ≡ op_ret → is_private t (procedure_in (index_of t) q) ≡ false → Unmarked (result_kinds t (procedure_in (index_of t) q)) ms
  pub returned-marked : (instruction_in t (index_of t) q i).a ≡ op_ret → is_private t (procedure_in (index_of t) q) ≡ true
      → MarkedAs (result_kinds t (procedure_in (index_of t) q)) ms (result_of (marks_in t) q)
  -- in a guest nothing is marked at all
  pub guest-clean : in_trusted t (index_of t) (procedure_in (index_of t) q) ≡ false → ((l : ℕ) → mark_of (get_or ls l empty) ≡ false) × ((j : ℕ) → get_or ms j false ≡ false)
