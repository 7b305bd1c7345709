-- The code's second search finds what marks come to under the smallest marks.
use Prim.Native.Nat.{ℕ, zero, suc, ◌*◌, ◌/◌, ◌%◌, ◌<◌}
use mathlib.Core.Path.{◌≡◌, refl, ap, ◌∙◌}
use mathlib.Core.Bool.{Bool, false}
use mathlib.Core.List.{List, []}
use native.Mathlib.Decide.{ℕ_discrete}
use native.Mathlib.Omega.{arith}
use lib.ListN.{length, get_or, replicate}
use Rattle.laws.proofs.Tests.{neither}
use Rattle.reach.specs.Reach.{Inside, iter, mark}
use Rattle.table.specs.Rows.{row_count, row_at}
use Rattle.table.specs.Index.{index_of}
use Rattle.operands.specs.Operands.{named_type}
use Rattle.flow.specs.Places.{operand_marked}
use Rattle.sizes.specs.code.Formed.{Formed}
use Rattle.helpers.specs.Rounds.{up_to}
use Rattle.helpers.specs.Tables.{borrows_guarded, procedure_of, marks_in}
use Rattle.helpers.proofs.Net as Net
use Rattle.helpers.proofs.Graph.{no_sources, stays-inside, found-operand}
use Rattle.helpers.proofs.Tied.{layout_of, fits, placed, nodes_tied}
use Rattle.entries.specs.declared.RowEntry.{RowEntry}
use Rattle.entries.specs.code.Entries.{Filled, Linked, makes_at, makes_some}
use Rattle.marks.specs.code.Search.{per_row, place_edges, edges, made_at}
use Rattle.marks.specs.code.Found.{Found}
use Rattle.marks.proofs.TieRows.{RowIs, is_head, is_code, is_other, row_is}
use Rattle.marks.proofs.TieArrivals.{search-same}
use Rattle.marks.proofs.TieMade.{cond_same, own-inside, made_tied}
use Rattle.marks.proofs.TieCode.{code_tied}
use Rattle.marks.proofs.TieHeads.{head_tied}

up_to-none : {A : Type 0} (g : ℕ → List A) (n : ℕ) → ((r : ℕ) → r < n → g r ≡ []) → up_to g n ≡ []
unfolding up_to
up_to-none g zero h = refl
up_to-none g (suc n) h = rw (h n (omega arith)) (up_to-none g n (λ r l. h r (omega arith)))

module _ (t : List ℕ) (f : Formed t) where
  found_are : Found t (Net.found (procedure_of t) (layout_of t))
  unfolding layout_of procedure_of marks_in
  found_are = record {
    operands = λ q i j h b l.
        found-operand (procedure_of t) (index_of t).procedures (fits t f) (layout_of t) (placed t f) q i j h b l
        ∙ ap (λ (nodes : List Bool). operand_marked nodes i j) (nodes_tied t (marks_in t) q);
  }

  -- Where no instruction marks of itself there is nothing to find.

  makes_none : (n r : ℕ) → makes_some t (index_of t) n ≡ false → r < n → makes_at t (index_of t) r ≡ false
  unfolding makes_some
  makes_none zero r e h = absurd (omega arith)
  makes_none (suc n) r e h = let w = neither (makes_some t (index_of t) n) (makes_at t (index_of t) n) e in go (ℕ_discrete r n) w.1 (λ b. makes_none n r w.0 b)
    where
      go : Dec (r ≡ n) → makes_at t (index_of t) n ≡ false → (r < n → makes_at t (index_of t) r ≡ false) → makes_at t (index_of t) r ≡ false
      go (yes d) k rest = rw d k
      go (no d) k rest = rest (omega arith)

  source_none : (r : ℕ) → r < row_count t → makes_at t (index_of t) r ≡ false → Net.source_of (procedure_of t) (layout_of t) r ((layout_of t).spot r) ≡ []
  unfolding makes_at Net.source_of layout_of
  source_none r h e = go (row_is t f r h)
    where
      go : RowIs t r → Net.source_of (procedure_of t) (layout_of t) r ((layout_of t).spot r) ≡ []
      go (is_head q c) = rw c.spot refl
      go (is_code q i c) =
          let g : borrows_guarded t (named_type (index_of t) (row_at t r)) (row_at t r) ≡ false = rw c.code at e in
          rw (c.spot, own-inside t f c, g) (cond_same (get_or (Net.arrived (procedure_of t) (layout_of t)) r false) [])
      go (is_other c) = rw c.spot refl

  pub none_found : makes_some t (index_of t) (row_count t) ≡ false → Found t (replicate (per_row * row_count t) false)
  unfolding Net.sources layout_of
  none_found e = rw (no_sources (procedure_of t) (layout_of t) (up_to-none _ (row_count t) (λ r h. source_none r h (makes_none (row_count t) r e h)))) at found_are

  module _ {rows : List RowEntry} {before last : List ℕ} (filled : Filled t (index_of t) rows (row_count t)) (linked : Linked rows last before (row_count t))
      (lasts : length last ≡ 128) (befores : length before ≡ row_count t) {arrives : List Bool} (come : arrives ≡ Net.arrived (procedure_of t) (layout_of t)) where
    place_tied : (r x : ℕ) → r < row_count t → place_edges t rows before last arrives r x ≡ Net.edges (procedure_of t) (layout_of t) ((layout_of t).spot r) x
    unfolding place_edges Net.edges layout_of
    place_tied r x h = rw come (go (row_is t f r h))
      where
        go : RowIs t r → place_edges t rows before last (Net.arrived (procedure_of t) (layout_of t)) r x ≡ Net.edges (procedure_of t) (layout_of t) ((layout_of t).spot r) x
        go (is_head q c) = rw (c.head, c.spot) (head_tied t f filled linked lasts befores c x)
        go (is_code q i c) = rw (c.head, c.code, c.spot) (code_tied t f c filled x)
        go (is_other c) = rw (c.head, c.code, c.spot) refl

    -- THE GRAPH
    pub edges_tied : (u : ℕ) → u < per_row * row_count t → edges t rows before last arrives u ≡ Net.graph (procedure_of t) (layout_of t) u
    unfolding edges Net.graph
    edges_tied u h = place_tied (u / per_row) (u % per_row) (omega arith)

    pub edges-inside : Inside (edges t rows before last arrives) (per_row * row_count t)
    unfolding layout_of
    edges-inside u v h m = stays-inside (procedure_of t) (index_of t).procedures (fits t f) (layout_of t) (placed t f) u v h (rw (edges_tied u h) at m)

    -- THE SEARCH
    pub found_tied : iter (edges t rows before last arrives) (per_row * row_count t) (mark (replicate (per_row * row_count t) false) (up_to (made_at t (index_of t) rows arrives) (row_count t)))
        ≡ Net.found (procedure_of t) (layout_of t)
    unfolding Net.found Net.source_set layout_of
    found_tied = search-same (edges t rows before last arrives) (Net.graph (procedure_of t) (layout_of t)) (per_row * row_count t) _ _ edges_tied (made_tied t f filled come)

    pub is_found : {seen : List Bool}
        → seen ≡ iter (edges t rows before last arrives) (per_row * row_count t) (mark (replicate (per_row * row_count t) false) (up_to (made_at t (index_of t) rows arrives) (row_count t)))
        → Found t seen
    is_found e = rw (e ∙ found_tied) found_are
