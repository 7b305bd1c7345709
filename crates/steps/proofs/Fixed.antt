-- The table of operand counts: for each opcode whose counts are fixed it has the counts that the rules give.
use Prim.Native.Nat.{ℕ}
use mathlib.Core.Path.{◌≡◌, refl}
use mathlib.Core.Bool.{Bool, true, cond, not, ◌&&◌, ◌||◌}
use mathlib.Core.List.{List, [], ◌∷◌}
use borrow.Author.Tests.{eqb-true, ltb-true}
use lib.Dec.{eqb, ltb}
use lib.ListN.{length, get_or}
use Rattle.laws.specs.Lists.{every}
use Rattle.laws.proofs.Lists.{every-at}
use Rattle.laws.proofs.Tests.{and_both}
use Rattle.table.specs.declared.Row.{Row}
use Rattle.table.specs.declared.index.TypeEntry.{TypeEntry}
use Rattle.table.specs.declared.index.ProcedureEntry.{ProcedureEntry}
use Rattle.table.specs.Format.{past_opcodes, op_pack, op_unpack, op_call, op_ret}
use Rattle.effects.specs.Effects.{effects, effect_of, no_effect}
use Rattle.steps.specs.declared.Counts.{Counts}

-- the table, as the code has it
abbrev counts : ℕ → ℕ → Counts
counts takes gives = record { takes = takes; gives = gives }

abbrev varies : Counts
varies = counts 0 0

abbrev table : List Counts
table = counts 1 0 ∷ counts 0 1 ∷ counts 0 1 ∷ counts 0 1 ∷ counts 1 0 ∷ counts 0 1 ∷ counts 1 1 ∷ counts 2 0 ∷ counts 1 1 ∷ varies ∷ varies ∷ counts 2 0 ∷ counts 1 1 ∷ counts 1 1 ∷ counts 1 1 ∷ varies ∷ varies ∷ counts 0 0 ∷ counts 1 0 ∷ counts 2 1 ∷ counts 1 1 ∷ []

abbrev pub counts_at : ℕ → Counts
counts_at a = get_or table a varies

-- whether an opcode's counts are fixed: all but those of Pack, Unpack, Call and Ret
abbrev is_varying : ℕ → Bool
is_varying a = eqb a op_pack || eqb a op_unpack || eqb a op_call || eqb a op_ret

abbrev pub is_fixed : ℕ → Bool
is_fixed a = not (is_varying a) && ltb a past_opcodes

-- what the rules give
module _ (t : List ℕ) (own : ProcedureEntry) (named : TypeEntry) (callee : ProcedureEntry) (b top : ℕ) where
  abbrev taken : ℕ → ℕ
  taken a = length (get_or (effects t own named callee b top) a no_effect).takes

  abbrev pushed : ℕ → ℕ
  pushed a = length (get_or (effects t own named callee b top) a no_effect).gives

  right : ℕ → Bool
  right a = cond (is_fixed a) (eqb (taken a) (counts_at a).takes && eqb (pushed a) (counts_at a).gives) true

  -- computed once over the whole table
  all_right : every right past_opcodes ≡ true
  unfolding every right effects
  all_right = refl

  entry-is : (a : ℕ) → is_fixed a ≡ true → (taken a ≡ (counts_at a).takes) × (pushed a ≡ (counts_at a).gives)
  unfolding right
  entry-is a fixed =
      let inside = ltb-true a past_opcodes (and_both (not (is_varying a)) (ltb a past_opcodes) fixed).1 in
      let e = and_both (eqb (taken a) (counts_at a).takes) (eqb (pushed a) (counts_at a).gives) (rw fixed at (every-at right past_opcodes a all_right inside)) in
      (eqb-true _ _ e.0, eqb-true _ _ e.1)

-- so an instruction of opcode a takes and pushes what the table has
module _ (t : List ℕ) (own : ProcedureEntry) (named : TypeEntry) (callee : ProcedureEntry) (row : Row) (top a : ℕ) (fixed : is_fixed a ≡ true) (is : row.a ≡ a) where
  pub fixed_takes : length (effect_of t own named callee row top).takes ≡ (counts_at a).takes
  unfolding effect_of
  fixed_takes = rw is (entry-is t own named callee row.b top a fixed).0

  pub fixed_gives : length (effect_of t own named callee row top).gives ≡ (counts_at a).gives
  unfolding effect_of
  fixed_gives = rw is (entry-is t own named callee row.b top a fixed).1
