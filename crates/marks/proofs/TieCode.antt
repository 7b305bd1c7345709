-- The nodes after a place of an instruction's row.
use Prim.Native.Nat.{ℕ, suc, ◌+◌, ◌-◌, ◌*◌, ◌<◌}
use mathlib.Core.Path.{◌≡◌, refl, sym, ◌∙◌}
use mathlib.Core.Bool.{Bool, true, false, cond, ◌&&◌}
use mathlib.Core.List.{List, [], ◌∷◌, ◌++◌}
use native.Mathlib.Omega.{arith}
use borrow.Author.Tests.{eqb-true, ltb-true, ltb-false, lt-ltb, le-leb, lt-leb}
use lib.Dec.{eqb, ltb, leb}
use lib.ListN.{length, get_or}
use Rattle.table.specs.Format.{op_call, op_ret, op_branch, op_branch_cond}
use Rattle.table.specs.Rows.{row_count, row_at}
use Rattle.table.specs.Index.{index_of}
use Rattle.declarations.specs.Program.{code_of}
use Rattle.flow.proofs.Paths.{node_div, node_mod}
use Rattle.steps.specs.Steps.{step_of}
use Rattle.sizes.specs.code.Formed.{Formed}
use Rattle.sizes.proofs.Rows.{own}
use Rattle.sizes.proofs.Inside as Inside
use Rattle.flow.specs.Places.{nodes_of, place_moves}
use Rattle.helpers.specs.Marks.{per_procedure, parameter_at, result_at, step_under}
use Rattle.helpers.specs.Rounds.{sends}
use Rattle.helpers.specs.Tables.{is_private, is_helper, procedure_of}
use Rattle.helpers.proofs.Net.{codes, Layout, mark_node, mark_nodes_of, after, inside, edges}
use Rattle.helpers.proofs.Under.{length-fresh}
use Rattle.helpers.proofs.Tied.{layout_of, fits, helper-is}
use Rattle.entries.specs.declared.RowEntry.{RowEntry}
use Rattle.entries.specs.code.Entries.{no_entry, kept, sends_to, Filled}
use Rattle.marks.specs.code.Search.{per_row, next_rows, goes_to, copies, sent_to, code_edges}
use Rattle.marks.proofs.TieRows.{CodeRow, step_is, next-rows, takes_are, gives_are, base-is, sends_are}
use Rattle.marks.proofs.TieMoves.{nodes_if, moved}

-- a row of a table, kept
kept_row : (v : ℕ) → v < 65535 → kept v ≡ v + 1
unfolding kept
kept_row v h = rw (lt-ltb v 65535 h) refl

-- the node of a parameter's mark, and of a result's
mark-node : (at : Layout) (q x : ℕ) → x < per_procedure → mark_node at (per_procedure * q + x) ≡ per_row * at.head q + x
unfolding mark_node
mark-node at q x h = rw (node_div per_procedure q x h, node_mod per_procedure q x h) refl

module _ (t : List ℕ) (f : Formed t) where
  -- a procedure's own row is kept
  own-kept : (q : ℕ) → q < (index_of t).procedures → kept (own t q).row ≡ (own t q).row + 1
  own-kept q h = kept_row (own t q).row (omega (arith, Inside.head_below t f q h, Inside.rows_few t f))

  module _ {r q i : ℕ} (c : CodeRow t r q i) where
    row_same : row_at (code_of t (own t q)) i ≡ row_at t r
    row_same = sym (rw c.row at (Inside.code_at t f q c.there i c.inside))

    pub opcode_tied : ((procedure_of t q).step i).opcode ≡ (row_at t r).a
    unfolding step_of
    opcode_tied = rw (step_is t f c) refl

    pub operand_tied : ((procedure_of t q).step i).operand ≡ (row_at t r).b
    unfolding step_of
    operand_tied = rw (step_is t f c) refl

    carries-none : ((procedure_of t q).step i).carries ≡ false
    unfolding step_of
    carries-none = rw (step_is t f c) refl

    helper_tied : (procedure_of t q).helper i ≡ (eqb (row_at t r).a op_call && is_helper t (own t q) (own t (row_at t r).b))
    helper_tied = rw row_same at (helper-is t q i)

    private-is : (procedure_of t q).is_private ≡ is_private t (own t q)
    unfolding procedure_of
    private-is = refl

    -- after an instruction that goes on to the next one alone
    pub one-next : (eqb (row_at t r).a op_ret ≡ false) → (eqb (row_at t r).a op_branch ≡ false) → (eqb (row_at t r).a op_branch_cond ≡ false) → after (procedure_of t) (layout_of t) q i ≡ (r + 1) ∷ []
    unfolding next_rows
    one-next x y z = sym (next-rows t f c) ∙ (rw (x, y, z) refl)

    -- within the procedure
    code-moved : (x : ℕ)
        → nodes_if (after (procedure_of t) (layout_of t) q i) (goes_to (row_at t r) ((procedure_of t q).step i).takes (length ((procedure_of t q).step i).fresh) x)
        ++ cond (copies (row_at t r) x) (nodes_of per_row (after (procedure_of t) (layout_of t) q i) (16 ∷ [])) []
        ≡ inside (procedure_of t) (layout_of t) q i (suc x)
    unfolding inside place_moves step_under
    code-moved x =
        moved (step_under [] ((procedure_of t q).step i)) (row_at t r) opcode_tied operand_tied carries-none (length ((procedure_of t q).step i).fresh) (length-fresh [] ((procedure_of t q).step i))
        (after (procedure_of t) (layout_of t) q i) x (λ e. (r + 1, one-next (rw e refl) (rw e refl) (rw e refl)))

    -- what is sent, by the rows of the helper that is called and of the procedure
    sent-to : (n : ℕ)
        → ((eqb (row_at t r).a op_call && is_helper t (own t q) (own t (row_at t r).b)) ≡ true → ((row_at t r).b < (index_of t).procedures) × (n < per_procedure))
        → ((row_at t r).a ≡ op_ret → 16 + n < per_procedure)
        → cond (ltb 0 (sends_to t (own t q) (own t (row_at t r).b) (row_at t r)))
        ((per_row * (sends_to t (own t q) (own t (row_at t r).b) (row_at t r) - 1) + cond (eqb (row_at t r).a op_call) 0 16 + n) ∷ []) []
        ≡ mark_nodes_of (layout_of t)
        (cond (eqb (row_at t r).a op_call && is_helper t (own t q) (own t (row_at t r).b)) (parameter_at (row_at t r).b n ∷ [])
        (cond (is_private t (own t q) && eqb (row_at t r).a op_ret) (result_at q n ∷ []) []))
    unfolding sends_to mark_nodes_of layout_of
    sent-to n called returned = go (eqb (row_at t r).a op_call) (is_helper t (own t q) (own t (row_at t r).b)) (eqb (row_at t r).a op_ret) (is_private t (own t q)) refl refl called
      where
        go : (k h y p : Bool) → eqb (row_at t r).a op_call ≡ k → eqb (row_at t r).a op_ret ≡ y → ((k && h) ≡ true → ((row_at t r).b < (index_of t).procedures) × (n < per_procedure))
            → cond (ltb 0 (cond (k && h) (kept (own t (row_at t r).b).row) (cond (y && p) (kept (own t q).row) 0)))
            ((per_row * (cond (k && h) (kept (own t (row_at t r).b).row) (cond (y && p) (kept (own t q).row) 0) - 1) + cond k 0 16 + n) ∷ []) []
            ≡ mark_nodes_of (layout_of t) (cond (k && h) (parameter_at (row_at t r).b n ∷ []) (cond (p && y) (result_at q n ∷ []) []))
        go true true y p d e call =
            let w = call refl in
            let z : per_row * ((own t (row_at t r).b).row + 1 - 1) + 0 + n ≡ per_row * (own t (row_at t r).b).row + n = omega arith in
            rw (own-kept (row_at t r).b w.0, lt-ltb 0 ((own t (row_at t r).b).row + 1) (omega arith), z, mark-node (layout_of t) (row_at t r).b n w.1) refl
        go true false true p d e call = absurd (omega (arith, eqb-true (row_at t r).a op_call d, eqb-true (row_at t r).a op_ret e))
        go true false false true d e call = refl
        go true false false false d e call = refl
        go false h true true d e call =
            let z : per_row * ((own t q).row + 1 - 1) + 16 + n ≡ per_row * (own t q).row + (16 + n) = omega arith in
            rw (own-kept q c.there, lt-ltb 0 ((own t q).row + 1) (omega arith), z, mark-node (layout_of t) q (16 + n) (returned (eqb-true (row_at t r).a op_ret e))) refl
        go false h true false d e call = refl
        go false h false true d e call = refl
        go false h false false d e call = refl

    sent_tied : (x : ℕ) → sent_to (row_at t r) ((procedure_of t q).step i).takes (sends_to t (own t q) (own t (row_at t r).b) (row_at t r)) x
        ≡ cond (ltb x 16) [] (mark_nodes_of (layout_of t) (sends (procedure_of t q) q i (x - 16)))
    unfolding sent_to sends mark_nodes_of
    sent_tied x = rw (helper_tied, private-is, opcode_tied, operand_tied) (go (ltb x 16) (ltb (x - 16) ((procedure_of t q).step i).takes) refl refl)
      where
        go : (b l : Bool) → ltb x 16 ≡ b → ltb (x - 16) ((procedure_of t q).step i).takes ≡ l
            → cond (leb 16 x && l && ltb 0 (sends_to t (own t q) (own t (row_at t r).b) (row_at t r)))
            ((per_row * (sends_to t (own t q) (own t (row_at t r).b) (row_at t r) - 1) + cond (eqb (row_at t r).a op_call) 0 16 + (((procedure_of t q).step i).takes - 1 - (x - 16))) ∷ []) []
            ≡ cond b []
            (mark_nodes_of (layout_of t)
            (cond l
            (cond (eqb (row_at t r).a op_call && is_helper t (own t q) (own t (row_at t r).b)) (parameter_at (row_at t r).b (((procedure_of t q).step i).takes - 1 - (x - 16)) ∷ [])
            (cond (is_private t (own t q) && eqb (row_at t r).a op_ret) (result_at q (((procedure_of t q).step i).takes - 1 - (x - 16)) ∷ []) []))
            []))
        go true l e d = let h = ltb-true x 16 e in rw (lt-leb 16 x h) refl
        go false false e d = let h = ltb-false x 16 e in rw (le-leb 16 x h) refl
        go false true e d =
            let h = ltb-false x 16 e in
            rw (le-leb 16 x h)
            (sent-to (((procedure_of t q).step i).takes - 1 - (x - 16))
            (λ k.
            let w = (fits t f).helped q c.there i (helper_tied ∙ k) in
            (rw operand_tied at ((fits t f).called q c.there i w.0).0, omega (arith, w.1, ltb-true (x - 16) ((procedure_of t q).step i).takes d)))
            (λ k. omega (arith, (fits t f).returned q c.there i (opcode_tied ∙ k), ltb-true (x - 16) ((procedure_of t q).step i).takes d)))

    -- THE NODES AFTER A PLACE OF AN INSTRUCTION
    pub code_tied : {rows : List RowEntry} → Filled t (index_of t) rows (row_count t) → (x : ℕ)
        → code_edges (row_at t r) r (get_or rows r no_entry).base (get_or rows r no_entry).takes (get_or rows r no_entry).gives (get_or rows r no_entry).sends x ≡ edges (procedure_of t) (layout_of t) (codes q i) x
    unfolding code_edges edges
    code_tied filled x =
        rw (base-is t f filled c, takes_are t f filled c, gives_are t f filled c, sends_are t f filled c, next-rows t f c, sent_tied x, code-moved x) refl
