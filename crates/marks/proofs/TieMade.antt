-- The code's second search starts where instructions that walks arrive at mark of themselves.
use Prim.Native.Nat.{ℕ, suc, ◌*◌, ◌<◌}
use mathlib.Core.Path.{◌≡◌, refl, ◌∙◌}
use mathlib.Core.Bool.{Bool, true, false, cond, ◌&&◌}
use mathlib.Core.List.{List, [], ◌∷◌}
use native.Mathlib.Omega.{arith}
use borrow.Author.Tests.{eqb-true}
use lib.Dec.{eqb}
use lib.ListN.{length, get_or}
use Rattle.laws.specs.Lists.{tabulate}
use Rattle.laws.proofs.Lists.{length-tabulate, get_d_tabulate}
use Rattle.laws.proofs.Tests.{and_both}
use Rattle.reach.specs.Reach.{Mem}
use Rattle.table.specs.declared.Row.{Row}
use Rattle.table.specs.declared.index.TypeEntry.{TypeEntry}
use Rattle.table.specs.declared.index.ProcedureEntry.{ProcedureEntry}
use Rattle.table.specs.Format.{op_borrow_fld, op_call}
use Rattle.table.specs.Rows.{row_count, row_at}
use Rattle.table.specs.Index.{index_of}
use Rattle.declarations.specs.Program.{number}
use Rattle.effects.specs.Effects.{effect_of}
use Rattle.operands.specs.Operands.{named_type}
use Rattle.flow.specs.Places.{nodes_at, nodes_of, fresh_places, within, mark_moves, place_moves}
use Rattle.steps.specs.Steps.{step_of}
use Rattle.steps.proofs.Fixed.{fixed_gives}
use Rattle.sizes.specs.code.Formed.{Formed}
use Rattle.sizes.proofs.Rows.{own}
use Rattle.helpers.specs.Marks.{result_of, step_under}
use Rattle.helpers.specs.Rounds.{up_to}
use Rattle.helpers.specs.Tables.{borrows_guarded, marks_under, procedure_of}
use Rattle.helpers.proofs.Net.{lower, after, arrived, inside, source_of, sources}
use Rattle.helpers.proofs.Graph.{sources_below}
use Rattle.helpers.proofs.Tied.{layout_of, fits, placed}
use Rattle.entries.specs.declared.RowEntry.{RowEntry}
use Rattle.entries.specs.code.Entries.{no_entry, Filled, makes_at}
use Rattle.marks.specs.code.Search.{per_row, next_rows, made_at}
use Rattle.marks.proofs.TieRows.{RowIs, is_head, is_code, is_other, CodeRow, row_is, step_is, next_tied}
use Rattle.marks.proofs.TieArrivals.{up_to-same}

-- a list that is there only where a test holds
pub cond_same : {A : Type 0} (b : Bool) (x : A) → cond b x x ≡ x
cond_same true x = refl
cond_same false x = refl

cond_and : {A : Type 0} (a b : Bool) (xs : List A) → cond (a && b) xs [] ≡ cond a (cond b xs []) []
cond_and true b xs = refl
cond_and false b xs = refl

-- no places have no nodes
pub no_nodes : (w : ℕ) (js : List ℕ) → nodes_of w js [] ≡ []
unfolding nodes_of nodes_at
no_nodes w [] = refl
no_nodes w (j ∷ js) = no_nodes w js

-- What instructions mark of themselves.

unmarked : (xs : List Bool) → ((r : ℕ) → r < length xs → get_or xs r false ≡ false) → fresh_places xs ≡ []
unfolding fresh_places
unmarked [] h = refl
unmarked (x ∷ xs) h = let e : x ≡ false = h 0 (omega arith) in rw e (unmarked xs (λ r l. h (suc r) (omega arith)))

none-marked : (f : ℕ → Bool) (n : ℕ) → ((r : ℕ) → f r ≡ false) → fresh_places (tabulate f n) ≡ []
none-marked f n h = unmarked (tabulate f n) (λ r l. get_d_tabulate f false n r (rw length-tabulate at l) ∙ h r)

module _ (t : List ℕ) (p : ProcedureEntry) (named : TypeEntry) (callee : ProcedureEntry) (row : Row) where
  guards : borrows_guarded t named row ≡ true → row.a ≡ op_borrow_fld
  unfolding borrows_guarded
  guards e = eqb-true row.a op_borrow_fld (and_both (eqb row.a op_borrow_fld) _ e).0

  -- the places that an instruction marks of itself: the top, by BorrowFld of a guarded field
  own_places : fresh_places (step_under [] (step_of t (marks_under t []) p named callee row)).fresh ≡ cond (borrows_guarded t named row) (17 ∷ []) []
  unfolding step_under step_of tabulate fresh_places result_of
  own_places = go (eqb row.a op_call) (borrows_guarded t named row) (length (effect_of t p named callee row number).gives) refl refl (λ k. fixed_gives t p named callee row number op_borrow_fld refl (guards k))
    where
      go : (b g : Bool) (n : ℕ) → eqb row.a op_call ≡ b → borrows_guarded t named row ≡ g → (borrows_guarded t named row ≡ true → n ≡ 1)
          → fresh_places
          (cond b (tabulate (result_of [] row.b) (length (tabulate (λ (r : ℕ). cond b (result_of [] row.b r) g) n))) (tabulate (λ (r : ℕ). cond b (result_of [] row.b r) g) n))
          ≡ cond g (17 ∷ []) []
      go true true n e k one = absurd (omega (arith, eqb-true row.a op_call e, guards k))
      go true false n e k one = none-marked (result_of [] row.b) (length (tabulate (result_of [] row.b) n)) (λ r. refl)
      go false true n e k one = rw (one k) refl
      go false false n e k one = none-marked (λ (r : ℕ). false) n (λ r. refl)

  own-moves : lower (within (mark_moves (step_under [] (step_of t (marks_under t []) p named callee row)) 0)) ≡ cond (borrows_guarded t named row) (16 ∷ []) []
  unfolding lower within mark_moves
  own-moves = rw own_places (go (borrows_guarded t named row))
    where
      go : (b : Bool) → lower (within (cond b (17 ∷ []) [])) ≡ cond b (16 ∷ []) []
      go true = refl
      go false = refl

module _ (t : List ℕ) (f : Formed t) where
  -- the nodes that an instruction's row makes
  pub own-inside : {r q i : ℕ} → CodeRow t r q i
      → inside (procedure_of t) (layout_of t) q i 0 ≡ cond (borrows_guarded t (named_type (index_of t) (row_at t r)) (row_at t r)) (nodes_of per_row (after (procedure_of t) (layout_of t) q i) (16 ∷ [])) []
  unfolding inside place_moves
  own-inside {r} {q} {i} c = rw (step_is t f c, own-moves t (own t q) (named_type (index_of t) (row_at t r)) (own t (row_at t r).b) (row_at t r)) (go (borrows_guarded t (named_type (index_of t) (row_at t r)) (row_at t r)))
    where
      go : (b : Bool) → nodes_of per_row (after (procedure_of t) (layout_of t) q i) (cond b (16 ∷ []) []) ≡ cond b (nodes_of per_row (after (procedure_of t) (layout_of t) q i) (16 ∷ [])) []
      go true = refl
      go false = no_nodes per_row (after (procedure_of t) (layout_of t) q i)

  module _ {rows : List RowEntry} (filled : Filled t (index_of t) rows (row_count t)) where
    row_made : (r : ℕ) → r < row_count t → made_at t (index_of t) rows (arrived (procedure_of t) (layout_of t)) r ≡ source_of (procedure_of t) (layout_of t) r ((layout_of t).spot r)
    unfolding made_at makes_at source_of layout_of
    row_made r h = cond_and (get_or (arrived (procedure_of t) (layout_of t)) r false) (makes_at t (index_of t) r) _ ∙ go (row_is t f r h)
      where
        go : RowIs t r
            → cond (get_or (arrived (procedure_of t) (layout_of t)) r false) (cond (makes_at t (index_of t) r) (nodes_of per_row (next_rows (row_at t r) r (get_or rows r no_entry).base) (16 ∷ [])) []) []
            ≡ source_of (procedure_of t) (layout_of t) r ((layout_of t).spot r)
        go (is_head q c) = rw (c.code, c.spot) (cond_same (get_or (arrived (procedure_of t) (layout_of t)) r false) [])
        go (is_code q i c) = rw (c.code, c.spot, next_tied t f filled c, own-inside c) refl
        go (is_other c) = rw (c.code, c.spot) (cond_same (get_or (arrived (procedure_of t) (layout_of t)) r false) [])

    module _ {arrives : List Bool} (come : arrives ≡ arrived (procedure_of t) (layout_of t)) where
      -- THE START
      pub made_tied : up_to (made_at t (index_of t) rows arrives) (row_count t) ≡ sources (procedure_of t) (layout_of t)
      unfolding sources layout_of
      made_tied = rw come (up_to-same _ _ (row_count t) row_made)

      pub made-below : (v : ℕ) → Mem v (up_to (made_at t (index_of t) rows arrives) (row_count t)) → v < per_row * row_count t
      unfolding layout_of
      made-below v m = sources_below (procedure_of t) (index_of t).procedures (fits t f) (layout_of t) (placed t f) v (rw made_tied at m)
