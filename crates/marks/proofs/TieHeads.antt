-- The nodes after a place of a procedure's own row: a result's along the call sites.
use Prim.Native.Nat.{ℕ, zero, suc, ◌+◌, ◌-◌, ◌*◌, ◌<◌, ◌≤◌}
use mathlib.Core.Path.{◌≡◌, refl, sym, ◌∙◌}
use mathlib.Core.Bool.{Bool, true, false, cond, false≢true, ◌&&◌}
use mathlib.Core.List.{List, [], ◌∷◌}
use native.Mathlib.Omega.{arith}
use borrow.Author.Tests.{eqb-true, eqb-false, ltb-false, eq-eqb, ne_eqb}
use lib.Dec.{eqb, ltb}
use lib.ListN.{length, get_or}
use Rattle.laws.proofs.Tests.{and_both}
use Rattle.table.specs.Format.{op_call}
use Rattle.table.specs.Rows.{row_count, row_at}
use Rattle.table.specs.Index.{index_of}
use Rattle.flow.specs.Places.{nodes_at, nodes_of}
use Rattle.sizes.specs.code.Formed.{Formed}
use Rattle.sizes.proofs.Rows.{own}
use Rattle.sizes.proofs.Inside as Inside
use Rattle.helpers.specs.Rounds.{up_to}
use Rattle.helpers.specs.code.Chains.{along}
use Rattle.helpers.specs.Tables.{procedure_of}
use Rattle.helpers.proofs.Net as Net
use Rattle.helpers.proofs.Sites.{last_site, sites, result-edges}
use Rattle.helpers.proofs.Tied.{layout_of, call_counts}
use Rattle.entries.specs.declared.RowEntry.{RowEntry}
use Rattle.entries.specs.code.Entries.{no_entry, kept, called_by, last_call, Filled, Linked}
use Rattle.marks.specs.code.Search.{per_row, pushed_at, result_edges, head_edges}
use Rattle.marks.proofs.TieRows.{HeadRow, RowIs, is_head, is_code, is_other, row_is, calls_are, parameters_are, results_are, first-is, number_is, head_calls, other_calls}
use Rattle.marks.proofs.TieCode.{opcode_tied, operand_tied, one-next}

-- Chains.

-- a test that all of them make
along-cond : {A : Type 0} (b : Bool) (f : ℕ → List A) (rs : List ℕ) → cond b (along f rs) [] ≡ along (λ (r : ℕ). cond b (f r) []) rs
unfolding along
along-cond true f rs = refl
along-cond false f [] = refl
along-cond false f (r ∷ rs) = along-cond false f rs

-- a kept number is another plus one where it is that one
kept_same : (b q : ℕ) → q < 65535 → eqb (kept b) (q + 1) ≡ eqb b q
unfolding kept
kept_same b q h = go (ltb b 65535) (eqb b q) refl refl
  where
    go : (l e : Bool) → ltb b 65535 ≡ l → eqb b q ≡ e → eqb (cond l (b + 1) 0) (q + 1) ≡ e
    go true true k d = let z = eqb-true b q d in eq-eqb (b + 1) (q + 1) (omega arith)
    go true false k d = ne_eqb (b + 1) (q + 1) (λ z. eqb-false b q d (omega arith))
    go false true k d = absurd (omega (arith, ltb-false b 65535 k, eqb-true b q d))
    go false false k d = ne_eqb 0 (q + 1) (λ z. omega arith)

module _ (t : List ℕ) (f : Formed t) {rows : List RowEntry} (filled : Filled t (index_of t) rows (row_count t)) where
  -- Call sites.

  site_tied : (q r : ℕ) → q < 65535 → r < row_count t → eqb (get_or rows r no_entry).calls (q + 1) ≡ sites (procedure_of t) (layout_of t) q r
  unfolding Net.calls_at layout_of called_by
  site_tied q r h b = go (row_is t f r b)
    where
      none : eqb 0 (q + 1) ≡ false
      none = ne_eqb 0 (q + 1) (λ z. omega arith)

      called : (k : Bool) (n : ℕ) → eqb (cond k (kept n) 0) (q + 1) ≡ (k && eqb n q)
      called true n = kept_same n q h
      called false n = none

      go : RowIs t r → eqb (get_or rows r no_entry).calls (q + 1) ≡ sites (procedure_of t) (layout_of t) q r
      go (is_head p c) = rw (head_calls t f filled c, c.spot) none
      go (is_code p i c) = rw (calls_are t f filled c, c.spot, opcode_tied t f c, operand_tied t f c) (called (eqb (row_at t r).a op_call) (row_at t r).b)
      go (is_other c) = rw (other_calls t f filled c b, c.spot) none

  last_tied : (q n : ℕ) → q < 65535 → n ≤ row_count t → last_call rows q n ≡ last_site (sites (procedure_of t) (layout_of t)) q n
  unfolding last_call last_site
  last_tied q zero h b = refl
  last_tied q (suc n) h b = rw (site_tied q n h (omega arith), last_tied q n h (omega arith)) refl

  -- what result k of procedure q is pushed as, at a call site
  pushed_tied : (q k r : ℕ) → r < row_count t → sites (procedure_of t) (layout_of t) q r ≡ true
      → cond (ltb k ((own t q).code - (own t q).results)) (pushed_at (Net.arrived (procedure_of t) (layout_of t)) ((own t q).code - (own t q).results) k r) []
      ≡ Net.pushed_at (procedure_of t) (layout_of t) r k ((layout_of t).spot r)
  unfolding Net.calls_at layout_of pushed_at Net.pushed_at nodes_of nodes_at
  pushed_tied q k r b s = go (row_is t f r b)
    where
      push : (a l : Bool) (v : ℕ) → cond l (cond a (v ∷ []) []) [] ≡ cond (a && l) (v ∷ []) []
      push true l v = refl
      push false true v = refl
      push false false v = refl

      go : RowIs t r
          → cond (ltb k ((own t q).code - (own t q).results)) (pushed_at (Net.arrived (procedure_of t) (layout_of t)) ((own t q).code - (own t q).results) k r) []
          ≡ Net.pushed_at (procedure_of t) (layout_of t) r k ((layout_of t).spot r)
      go (is_head p c) = absurd (false≢true (rw c.spot at s))
      go (is_code p i c) =
          let w = and_both (eqb ((procedure_of t p).step i).opcode op_call) (eqb ((procedure_of t p).step i).operand q) (rw c.spot at s) in
          let o = eqb-true ((procedure_of t p).step i).opcode op_call w.0 in
          let e = sym (opcode_tied t f c) ∙ o in
          let n : length ((procedure_of t p).step i).fresh ≡ (own t q).code - (own t q).results = rw (eqb-true ((procedure_of t p).step i).operand q w.1) at (call_counts t p i o).1 in
          rw (c.spot, n, one-next t f c (rw e refl) (rw e refl) (rw e refl))
          (push (get_or (Net.arrived (procedure_of t) (layout_of t)) r false) (ltb k ((own t q).code - (own t q).results)) (per_row * (r + 1) + (16 + ((own t q).code - (own t q).results - 1 - k))))
      go (is_other c) = absurd (false≢true (rw c.spot at s))

  module _ {before last : List ℕ} (linked : Linked rows last before (row_count t)) (lasts : length last ≡ 128) (befores : length before ≡ row_count t) where
    before_tied : (q r : ℕ) → q < 128 → r < row_count t → sites (procedure_of t) (layout_of t) q r ≡ true → get_or before r 0 ≡ last_site (sites (procedure_of t) (layout_of t)) q r
    before_tied q r h b s =
        linked.befores r q b (rw lasts h) (eqb-true (get_or rows r no_entry).calls (q + 1) (site_tied q r (omega arith) b ∙ s)) ∙ last_tied q r (omega arith) (omega arith)

    -- the nodes after result k of procedure q
    result_tied : (q k : ℕ) → q < 128
        → result_edges before (Net.arrived (procedure_of t) (layout_of t)) ((own t q).code - (own t q).results) (get_or last q 0) k ≡ up_to (Net.result_to (procedure_of t) (layout_of t) q k) (row_count t)
    unfolding result_edges layout_of
    result_tied q k h =
        rw (befores, linked.lasts q (rw lasts h), last_tied q (row_count t) (omega arith) (omega arith), along-cond (ltb k ((own t q).code - (own t q).results)))
        (result-edges (procedure_of t) (layout_of t) q k _ (λ (r : ℕ). get_or before r 0) (pushed_tied q k) (λ r b s. before_tied q r h b s))

    -- THE NODES AFTER A PLACE OF A PROCEDURE'S OWN ROW
    pub head_tied : {r q : ℕ} → HeadRow t r q → (x : ℕ)
        → head_edges before (Net.arrived (procedure_of t) (layout_of t)) (get_or rows r no_entry).takes (get_or rows r no_entry).gives (get_or rows r no_entry).base (get_or last (get_or rows r no_entry).sends 0) x
        ≡ Net.edges (procedure_of t) (layout_of t) (Net.heads q) x
    unfolding head_edges Net.edges layout_of
    head_tied {r} {q} c x =
        rw (parameters_are t f filled c, results_are t f filled c, first-is t f filled c, number_is t f filled c, result_tied q (x - 16) (Inside.few t f q c.there)) refl
