-- The rows that the code's first search comes to are those that walks arrive at.
use Prim.Native.Nat.{ℕ, zero, suc, ◌+◌, ◌*◌, ◌<◌}
use mathlib.Core.Path.{◌≡◌, refl, ◌∙◌}
use mathlib.Core.Bool.{false}
use mathlib.Core.List.{List, [], ◌∷◌}
use native.Mathlib.Omega.{arith}
use lib.ListN.{replicate, length-replicate}
use Rattle.reach.specs.Reach.{Mem, Inside, iter, mark}
use Rattle.reach.proofs.Laws.{length-mark}
use Rattle.reach.proofs.Same.{iter-same}
use Rattle.table.specs.Rows.{row_count}
use Rattle.table.specs.Index.{index_of}
use Rattle.flow.specs.Places.{nodes_at, nodes_of}
use Rattle.sizes.specs.code.Formed.{Formed}
use Rattle.helpers.specs.Rounds.{up_to}
use Rattle.helpers.specs.Tables.{procedure_of}
use Rattle.helpers.proofs.Net.{follow, follows, entry_of, entries, arrived}
use Rattle.helpers.proofs.Graph.{rows_inside, entries_below}
use Rattle.helpers.proofs.Tied.{layout_of, fits, placed}
use Rattle.entries.specs.declared.RowEntry.{RowEntry}
use Rattle.entries.specs.code.Entries.{Filled}
use Rattle.marks.specs.code.Search.{rows_after, first_at}
use Rattle.marks.proofs.TieRows.{RowIs, is_head, is_code, is_other, row_is, next_tied, first-is}

-- lists that are the same for each number
pub up_to-same : {A : Type 0} (f g : ℕ → List A) (n : ℕ) → ((r : ℕ) → r < n → f r ≡ g r) → up_to f n ≡ up_to g n
unfolding up_to
up_to-same f g zero h = refl
up_to-same f g (suc n) h = rw (h n (omega arith), up_to-same f g n (λ r l. h r (omega arith))) refl

-- searches of n nodes in graphs with the same successors, from the same ones
pub search-same : (f g : ℕ → List ℕ) (n : ℕ) (vs ws : List ℕ) → ((u : ℕ) → u < n → f u ≡ g u) → vs ≡ ws → iter f n (mark (replicate n false) vs) ≡ iter g n (mark (replicate n false) ws)
search-same f g n vs ws h e =
    rw e (iter-same f g n (mark (replicate n false) ws) (λ u l. h u (rw (length-mark ws (replicate n false) ∙ length-replicate n false) at l)))

-- nodes with one place each
each_row : (js : List ℕ) → nodes_of 1 js (0 ∷ []) ≡ js
unfolding nodes_of nodes_at
each_row [] = refl
each_row (j ∷ js) = let z : 1 * j + 0 ≡ j = omega arith in rw (z, each_row js) refl

module _ (t : List ℕ) (f : Formed t) {rows : List RowEntry} (filled : Filled t (index_of t) rows (row_count t)) where
  pub rows_tied : (r : ℕ) → r < row_count t → rows_after t rows r ≡ follows (procedure_of t) (layout_of t) r
  unfolding rows_after follows follow layout_of
  rows_tied r h = go (row_is t f r h)
    where
      go : RowIs t r → rows_after t rows r ≡ follows (procedure_of t) (layout_of t) r
      go (is_head q c) = rw (c.code, c.spot) refl
      go (is_code q i c) = rw (c.code, c.spot) (each_row _ ∙ next_tied t f filled c)
      go (is_other c) = rw (c.code, c.spot) refl

  first_tied : (r : ℕ) → r < row_count t → first_at t rows r ≡ entry_of (procedure_of t) (layout_of t) ((layout_of t).spot r)
  unfolding first_at entry_of layout_of
  first_tied r h = go (row_is t f r h)
    where
      go : RowIs t r → first_at t rows r ≡ entry_of (procedure_of t) (layout_of t) ((layout_of t).spot r)
      go (is_head q c) = rw (c.head, c.spot, first-is t f filled c) refl
      go (is_code q i c) = rw (c.head, c.spot) refl
      go (is_other c) = rw (c.head, c.spot) refl

  pub firsts_tied : up_to (first_at t rows) (row_count t) ≡ entries (procedure_of t) (layout_of t)
  unfolding entries layout_of
  firsts_tied = up_to-same _ _ (row_count t) first_tied

  pub rows_inside' : Inside (rows_after t rows) (row_count t)
  unfolding layout_of
  rows_inside' u v h m = rows_inside (procedure_of t) (index_of t).procedures (fits t f) (layout_of t) (placed t f) u v h (rw (rows_tied u h) at m)

  pub firsts_below : (v : ℕ) → Mem v (up_to (first_at t rows) (row_count t)) → v < row_count t
  unfolding layout_of
  firsts_below v m = entries_below (procedure_of t) (index_of t).procedures (fits t f) (layout_of t) (placed t f) v (rw firsts_tied at m)

  -- THE ARRIVALS
  pub arrived_tied : iter (rows_after t rows) (row_count t) (mark (replicate (row_count t) false) (up_to (first_at t rows) (row_count t))) ≡ arrived (procedure_of t) (layout_of t)
  unfolding arrived layout_of
  arrived_tied = search-same (rows_after t rows) (follows (procedure_of t) (layout_of t)) (row_count t) _ _ rows_tied firsts_tied
