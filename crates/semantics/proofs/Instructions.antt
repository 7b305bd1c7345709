-- What instruction i of a procedure takes, pushes and does to locals and marks, by its opcode.
use Prim.Native.Nat.{ℕ, ◌/◌, ◌%◌}
use mathlib.Core.Path.{◌≡◌, refl, ◌∙◌}
use mathlib.Core.Bool.{Bool, false, cond}
use mathlib.Core.List.{List, [], ◌∷◌}
use lib.Dec.{eqb}
use lib.ListN.{length, get_or, set}
use Rattle.laws.specs.Lists.{tabulate}
use Rattle.table.specs.declared.index.Index.{Index}
use Rattle.table.specs.declared.index.ProcedureEntry.{ProcedureEntry}
use Rattle.table.specs.Format.{op_mv_loc, op_cp_loc, op_st_loc, op_borrow_fld, op_call}
use Rattle.table.specs.Rows.{row_at}
use Rattle.declarations.specs.Program.{number, type_in, procedure_in, result_kinds, code_of}
use Rattle.effects.specs.Effects.{effects, no_effect, effect_of}
use Rattle.operands.specs.Operands.{named_type}
use Rattle.operands.specs.Flow.{effect_in}
use Rattle.flow.specs.Walks.{Slot, empty, full, mark_of, top_mark, locals_after, pushes}
use Rattle.steps.specs.Steps.{step_of, step_at}
use Rattle.steps.proofs.Fixed.{fixed_gives}
use Rattle.helpers.specs.Marks.{result_of}
use Rattle.helpers.specs.Tables.{borrows_guarded, marks_in}
use Rattle.leaks.specs.Leaks.{guarded_marks}
use Rattle.acceptance.proofs.Regular.{guarded-plain, regular, step_gives}
use Rattle.acceptance.proofs.Depth.{length-pushes}
use Rattle.semantics.proofs.Indexed.{guarded_in}

module _ (t : List ℕ) (ix : Index) (own : ProcedureEntry) (i : ℕ) where
  -- the effect, by opcode
  pub effect-at : (a top : ℕ) → (row_at (code_of t own) i).a ≡ a
      → effect_in t ix own top i
      ≡ get_or (effects t own (type_in ix (cond (eqb a op_borrow_fld) ((row_at (code_of t own) i).b / 8) (row_at (code_of t own) i).b)) (procedure_in ix (row_at (code_of t own) i).b) (row_at (code_of t own) i).b top) a no_effect
  unfolding effect_in effect_of named_type
  effect-at a top e = rw e refl

  module _ (L : List Slot) (O : List Bool) where
    -- only MvLoc and StLoc change locals
    pub locals-kept : (a : ℕ) → (row_at (code_of t own) i).a ≡ a → eqb a op_mv_loc ≡ false → eqb a op_st_loc ≡ false → locals_after (step_at t ix (guarded_marks t) own i) L O ≡ L
    unfolding step_at step_of locals_after
    locals-kept a e x y = rw (e, x, y) refl

    pub locals-moved : (row_at (code_of t own) i).a ≡ op_mv_loc → locals_after (step_at t ix (guarded_marks t) own i) L O ≡ set L (row_at (code_of t own) i).b empty
    unfolding step_at step_of locals_after
    locals-moved e = rw e refl

    pub locals_stored : (row_at (code_of t own) i).a ≡ op_st_loc → locals_after (step_at t ix (guarded_marks t) own i) L O ≡ set L (row_at (code_of t own) i).b (full (top_mark O))
    unfolding step_at step_of locals_after
    locals_stored e = rw e refl

    -- MvLoc and CpLoc push their local's mark
    pub pushes-moved : (row_at (code_of t own) i).a ≡ op_mv_loc → pushes (step_at t ix (guarded_marks t) own i) L O ≡ mark_of (get_or L (row_at (code_of t own) i).b empty) ∷ []
    unfolding step_at step_of pushes
    pushes-moved e = rw e refl

    pub pushes-copied : (row_at (code_of t own) i).a ≡ op_cp_loc → pushes (step_at t ix (guarded_marks t) own i) L O ≡ mark_of (get_or L (row_at (code_of t own) i).b empty) ∷ []
    unfolding step_at step_of pushes
    pushes-copied e = rw e refl

    -- BorrowFld pushes a mark where the field is guarded
    pub pushes-field : (row_at (code_of t own) i).a ≡ op_borrow_fld
        → pushes (step_at t ix (guarded_marks t) own i) L O ≡ guarded_in t ix ((row_at (code_of t own) i).b / 8) ((row_at (code_of t own) i).b % 8) ∷ []
    unfolding step_at step_of pushes tabulate borrows_guarded named_type guarded_in
    pushes-field e = rw (fixed_gives t own _ _ (row_at (code_of t own) i) number op_borrow_fld refl e, e) refl

    -- Call pushes marks as those of the results of the procedure that it names
    pub pushes-called : (row_at (code_of t own) i).a ≡ op_call
        → pushes (step_at t ix (guarded_marks t) own i) L O ≡ tabulate (result_of (marks_in t) (row_at (code_of t own) i).b) (length (result_kinds t (procedure_in ix (row_at (code_of t own) i).b)))
    unfolding step_at step_of pushes effect_of effects
    pushes-called e = rw e refl

    -- as many marks are pushed as values
    pub pushes-length : (top : ℕ) → length (pushes (step_at t ix (guarded_marks t) own i) L O) ≡ length (effect_in t ix own top i).gives
    pushes-length top = length-pushes (step_at t ix (guarded_marks t) own) (regular t ix (guarded_marks t) own (guarded-plain t)) i L O ∙ step_gives t ix (guarded_marks t) own top i
