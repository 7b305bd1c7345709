-- The steps of a procedure: MvLoc, CpLoc and StLoc are regular, and how many operands a step takes and pushes is as many as its effect does.
use Prim.Native.Nat.{ℕ, zero, suc}
use mathlib.Core.Path.{◌≡◌, refl, sym, ap, ◌∙◌}
use mathlib.Core.Bool.{Bool, true, false, false≢true}
use mathlib.Core.List.{List, [], ◌∷◌, map}
use lib.ListN.{length, get_or}
use Rattle.laws.specs.Lists.{tabulate}
use Rattle.laws.proofs.Lists.{length-tabulate}
use Rattle.table.specs.declared.Row.{Row}
use Rattle.table.specs.declared.index.Index.{Index}
use Rattle.table.specs.declared.index.TypeEntry.{TypeEntry}
use Rattle.table.specs.declared.index.ProcedureEntry.{ProcedureEntry}
use Rattle.table.specs.Format.{op_mv_loc, op_cp_loc, op_st_loc}
use Rattle.table.specs.Rows.{row_at}
use Rattle.declarations.specs.Program.{number, code_of}
use Rattle.effects.specs.Effects.{Effect, effects, effect_of, no_effect}
use Rattle.operands.specs.Flow.{effect_in}
use Rattle.flow.specs.code.Paths.{Regular}
use Rattle.steps.specs.Steps.{Marking, step_of, step_at}
use Rattle.steps.proofs.Fixed.{counts_at, is_fixed, fixed_takes, fixed_gives}
use Rattle.helpers.specs.Tables.{borrows_guarded, marks_under}
use Rattle.leaks.specs.Leaks.{guarded_marks}

-- a marking under which steps are regular: MvLoc and CpLoc make no mark of themselves, and what carries marks pushes one operand, which is not marked of itself
pub record Plain (m : Marking) : Type 0 where
  pub moved : (named : TypeEntry) (row : Row) → row.a ≡ op_mv_loc → m.makes named row 0 ≡ false
  pub copied : (named : TypeEntry) (row : Row) → row.a ≡ op_cp_loc → m.makes named row 0 ≡ false
  pub carried : (t : List ℕ) (own : ProcedureEntry) (named : TypeEntry) (callee : ProcedureEntry) (row : Row) → m.carries row ≡ true → (step_of t m own named callee row).fresh ≡ false ∷ []

-- so are those of guarded references, under any marks
pub plain-under : (t : List ℕ) (m : List Bool) → Plain (marks_under t m)
unfolding borrows_guarded
plain-under t m = record { moved = λ named row e. rw e; copied = λ named row e. rw e; carried = λ t own named callee row e. absurd (false≢true e) }

pub guarded-plain : (t : List ℕ) → Plain (guarded_marks t)
guarded-plain t = plain-under t _

-- the step of a row: what it takes, and what is marked of what it pushes
module _ (t : List ℕ) (m : Marking) (plain : Plain m) (own : ProcedureEntry) (named : TypeEntry) (callee : ProcedureEntry) (row : Row) where
  takes : (a : ℕ) → is_fixed a ≡ true → row.a ≡ a → length (effect_of t own named callee row number).takes ≡ (counts_at a).takes
  takes = fixed_takes t own named callee row number

  gives : (a : ℕ) → is_fixed a ≡ true → row.a ≡ a → length (effect_of t own named callee row number).gives ≡ (counts_at a).gives
  gives = fixed_gives t own named callee row number

  -- MvLoc
  moving-step : row.a ≡ op_mv_loc → ((step_of t m own named callee row).takes ≡ 0) × ((step_of t m own named callee row).fresh ≡ false ∷ [])
  unfolding step_of tabulate
  moving-step e = (takes op_mv_loc refl e, rw (gives op_mv_loc refl e) (ap (λ (b : Bool). b ∷ []) (plain.moved named row e)))

  -- CpLoc
  copying-step : row.a ≡ op_cp_loc → ((step_of t m own named callee row).takes ≡ 0) × ((step_of t m own named callee row).fresh ≡ false ∷ [])
  unfolding step_of tabulate
  copying-step e = (takes op_cp_loc refl e, rw (gives op_cp_loc refl e) (ap (λ (b : Bool). b ∷ []) (plain.copied named row e)))

  -- StLoc
  storing-step : row.a ≡ op_st_loc → ((step_of t m own named callee row).takes ≡ 1) × ((step_of t m own named callee row).fresh ≡ [])
  unfolding step_of tabulate
  storing-step e = (takes op_st_loc refl e, rw (gives op_st_loc refl e))

-- MvLoc and CpLoc take nothing and push one operand, StLoc takes one and pushes nothing
pub regular : (t : List ℕ) (ix : Index) (m : Marking) (p : ProcedureEntry) → Plain m → Regular (step_at t ix m p)
unfolding step_at step_of
regular t ix m p plain = record {
  moving = λ i e. moving-step t m plain p _ _ (row_at (code_of t p) i) e;
  copying = λ i e. copying-step t m plain p _ _ (row_at (code_of t p) i) e;
  storing = λ i e. storing-step t m plain p _ _ (row_at (code_of t p) i) e;
  carrying = λ i e. plain.carried t p _ _ (row_at (code_of t p) i) e;
}

-- an element of a list that is mapped
at_map : {A : Type 0} (f : A → ℕ) (d : A) (l : List A) (a : ℕ) → f (get_or l a d) ≡ get_or (map f l) a (f d)
at_map f d [] a = refl
at_map f d (x ∷ l) zero = refl
at_map f d (x ∷ l) (suc a) = at_map f d l a

-- what is on top does not change how many operands an instruction takes, and pushes
module _ (t : List ℕ) (own : ProcedureEntry) (named : TypeEntry) (callee : ProcedureEntry) (b x y : ℕ) where
  same_takes : (a : ℕ) → length (get_or (effects t own named callee b x) a no_effect).takes ≡ length (get_or (effects t own named callee b y) a no_effect).takes
  unfolding effects
  same_takes a = at_map (λ (e : Effect). length e.takes) no_effect (effects t own named callee b x) a ∙ sym (at_map (λ (e : Effect). length e.takes) no_effect (effects t own named callee b y) a)

  same_gives : (a : ℕ) → length (get_or (effects t own named callee b x) a no_effect).gives ≡ length (get_or (effects t own named callee b y) a no_effect).gives
  unfolding effects
  same_gives a = at_map (λ (e : Effect). length e.gives) no_effect (effects t own named callee b x) a ∙ sym (at_map (λ (e : Effect). length e.gives) no_effect (effects t own named callee b y) a)

-- a step takes as many operands as its effect
pub step-takes : (t : List ℕ) (ix : Index) (m : Marking) (p : ProcedureEntry) (top i : ℕ) → (step_at t ix m p i).takes ≡ length (effect_in t ix p top i).takes
unfolding step_at step_of effect_in effect_of
step-takes t ix m p top i = same_takes t p _ _ (row_at (code_of t p) i).b number top (row_at (code_of t p) i).a

-- and pushes as many
pub step_gives : (t : List ℕ) (ix : Index) (m : Marking) (p : ProcedureEntry) (top i : ℕ) → length (step_at t ix m p i).fresh ≡ length (effect_in t ix p top i).gives
unfolding step_at step_of effect_in effect_of
step_gives t ix m p top i = length-tabulate _ _ ∙ same_gives t p _ _ (row_at (code_of t p) i).b number top (row_at (code_of t p) i).a
