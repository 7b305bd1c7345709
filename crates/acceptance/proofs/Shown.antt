-- What the analyses find of a procedure is what walks show, both ways, in a table that the passes before locals accept.
use Prim.Native.Nat.{ℕ, zero, suc, ◌<◌, ◌≤◌}
use mathlib.Core.Path.{◌≡◌, refl, sym, ap, ◌∙◌}
use mathlib.Core.Bool.{Bool, true, false, ◌||◌, false≢true}
use mathlib.Core.List.{List}
use native.Mathlib.Numerals.{add-one}
use native.Mathlib.Decide.{dec_lt}
use native.Mathlib.Omega.{arith}
use borrow.Author.Tests.{eqb-true, lt-ltb, ltb-true}
use lib.Dec.{eqb, ltb}
use lib.ListN.{length, get_or, get_or-eq_default}
use Rattle.laws.proofs.Tests.{and_both}
use Rattle.table.specs.Format.{op_mv_loc, op_cp_loc, op_st_loc, op_borrow_loc, op_call, op_ret}
use Rattle.table.specs.Rows.{row_count}
use Rattle.table.specs.Index.{index_of}
use Rattle.declarations.specs.Program.{number, procedure_in, code_of, local_count, parameter_kinds, result_kinds, parameter_count}
use Rattle.names.specs.Names.{nothing, local_number, names}
use Rattle.effects.specs.Kinds.{good}
use Rattle.effects.specs.Effects.{effects, effect_of}
use Rattle.operands.specs.Operands.{operands_of, last_of_block, kinds_before}
use Rattle.operands.specs.Flow.{onto, effect_in, Flow}
use Rattle.operands.proofs.Flow.{operands-flow}
use Rattle.flow.specs.Steps.{nexts}
use Rattle.flow.specs.Walks.{Slot, entry}
use Rattle.flow.specs.Places.{status_after, local_moves, local_nodes, operand_marked, mark_nodes}
use Rattle.flow.specs.code.Paths.{Shallow}
use Rattle.flow.proofs.Locals as locals
use Rattle.flow.proofs.Marks.{operand_mark_shown, operand_mark_found}
use Rattle.locals.specs.Locals.{needs_full, nodes_of, leaves_empty, leaves_full}
use Rattle.steps.specs.Steps.{step_of, step_at, marks_of}
use Rattle.steps.proofs.Laws.{marks_are}
use Rattle.sizes.proofs.Sizes.{sized}
use Rattle.sizes.proofs.Rows.{own, entries_long, code-some, local-there}
use Rattle.sizes.proofs.Inside.{parameters-fit}
use Rattle.leaks.specs.Leaks.{guarded_marks}
use Rattle.judging.specs.Judging.{UpToOperands}
use Rattle.acceptance.specs.Checked.{step_in, starts_in, WalkOf}
use Rattle.acceptance.specs.Refusals.{opcode, operand, ArrivesEmpty, ArrivesFull, ArrivesMarked}
use Rattle.acceptance.proofs.Regular.{guarded-plain, regular, step-takes}
use Rattle.acceptance.proofs.Follow.{next_below}
use Rattle.acceptance.proofs.Depth.{Deep, deep, shallow, length-onto, good-same}

-- opcodes that need their local full name a local
pub needs_local : (op : ℕ) → needs_full op ≡ true → get_or names op nothing ≡ local_number
unfolding needs_full names
needs_local op e = go (eqb op op_mv_loc) (eqb op op_cp_loc) refl refl e
  where
    go : (a b : Bool) → eqb op op_mv_loc ≡ a → eqb op op_cp_loc ≡ b → (a || b || eqb op op_borrow_loc) ≡ true → get_or names op nothing ≡ local_number
    go true b p q e = rw (eqb-true op op_mv_loc p)
    go false true p q e = rw (eqb-true op op_cp_loc q)
    go false false p q e = rw (eqb-true op op_borrow_loc e)

-- so does StLoc
pub stores_local : (op : ℕ) → op ≡ op_st_loc → get_or names op nothing ≡ local_number
unfolding names
stores_local op e = rw e

module _ (t : List ℕ) (q : ℕ) where
  -- the nodes of a local are the same with whole steps
  nodes_same : (l : ℕ) → nodes_of (code_of t (own t q)) (parameter_count t (own t q)) l ≡ local_nodes (nexts (code_of t (own t q))) (step_in t q) (parameter_count t (own t q)) (row_count (code_of t (own t q))) l
  unfolding nodes_of local_nodes local_moves status_after step_at step_of
  nodes_same l = refl

  -- a step's opcode and operand
  pub step-opcode : (i : ℕ) → (step_in t q i).opcode ≡ opcode t q i
  unfolding step_at step_of
  step-opcode i = refl

  pub step-operand : (i : ℕ) → (step_in t q i).operand ≡ operand t q i
  unfolding step_at step_of
  step-operand i = refl

  -- a Call takes its parameters, Ret the results
  pub call-takes : (i : ℕ) → opcode t q i ≡ op_call → (effect_in t (index_of t) (own t q) number i).takes ≡ parameter_kinds t (procedure_in (index_of t) (operand t q i))
  unfolding effect_in effect_of effects
  call-takes i e = rw e

  pub ret-takes : (i : ℕ) → opcode t q i ≡ op_ret → (effect_in t (index_of t) (own t q) number i).takes ≡ result_kinds t (own t q)
  unfolding effect_in effect_of effects
  ret-takes i e = rw e

-- Procedure q of a table that the passes before locals accept.
module _ (t : List ℕ) (a : UpToOperands t) (q : ℕ) (there : q < (index_of t).procedures) (few : q < 128) where
  -- the flow of operands at its instructions
  pub flow-at : (i : ℕ) → i < row_count (code_of t (own t q)) → Flow t (index_of t) (own t q) i
  unfolding operands_of
  flow-at = operands-flow t (index_of t) (row_count t) a.by_operands q there (entries_long t q few)

  -- it has instructions
  some : 0 < row_count (code_of t (own t q))
  some = code-some t q there few (row_count t) a.by_names

  -- what they name as a local is there
  pub named-local : (i : ℕ) → get_or names (opcode t q i) nothing ≡ local_number → operand t q i < local_count (own t q)
  named-local = local-there t q there few (row_count t) a.by_names

  -- StLoc's local is there
  stores : (i : ℕ) → (step_in t q i).opcode ≡ op_st_loc → (step_in t q i).operand < local_count (own t q)
  stores i e = rw (step-operand t q i) (named-local i (stores_local _ (sym (step-opcode t q i) ∙ e)))

  -- no walk arrives with more than 16 operands
  few-operands : Shallow (nexts (code_of t (own t q))) (step_in t q)
      (entry (starts_in t q) (parameter_count t (own t q)) (local_count (own t q)))
  few-operands = shallow t (index_of t) (guarded_marks t) (guarded-plain t) (own t q) _ some flow-at

  -- where a walk arrives
  pub arrived : {k i : ℕ} {ls : List Slot} {ms : List Bool} → WalkOf t q k i ls ms → Deep t (index_of t) (own t q) i ms
  arrived = deep t (index_of t) (guarded_marks t) (guarded-plain t) (own t q) _ some flow-at

  -- local l on arriving at instruction i
  module _ (l i : ℕ) where
    pub empty-shown : leaves_empty t (own t q) l i ≡ true → ArrivesEmpty t q i l
    unfolding leaves_empty
    empty-shown e =
        let b = and_both (ltb l (local_count (own t q))) _ e in
        let r = locals.empty-shown (nexts (code_of t (own t q))) (step_in t q) (starts_in t q)
        (parameter_count t (own t q)) (local_count (own t q)) l (ltb-true l _ b.0) (row_count (code_of t (own t q))) some (next_below (code_of t (own t q))) i (rw nodes_same at b.1) in
        (r.0, r.2, r.3, r.4, r.5)

    pub full-shown : leaves_full t (own t q) l i ≡ true → ArrivesFull t q i l
    unfolding leaves_full
    full-shown e =
        let b = and_both (ltb l (local_count (own t q))) _ e in
        let r = locals.full-shown (nexts (code_of t (own t q))) (step_in t q) (starts_in t q)
        (parameter_count t (own t q)) (local_count (own t q)) l (ltb-true l _ b.0) (row_count (code_of t (own t q))) some (next_below (code_of t (own t q))) i (rw nodes_same at b.1) in
        (r.0, r.2, r.3, r.4, r.5, r.6)

    module _ (h : l < local_count (own t q)) where
      pub empty-found : ArrivesEmpty t q i l → leaves_empty t (own t q) l i ≡ true
      unfolding leaves_empty
      empty-found (k, ls, ms, w, z) = rw (lt-ltb l _ h, nodes_same)
          (locals.empty-found (nexts (code_of t (own t q))) (step_in t q) (starts_in t q)
          (parameter_count t (own t q)) (local_count (own t q)) l h (row_count (code_of t (own t q))) some (next_below (code_of t (own t q))) w z)

      pub full-found : ArrivesFull t q i l → leaves_full t (own t q) l i ≡ true
      unfolding leaves_full
      full-found (k, ls, ms, m, w, z) = rw (lt-ltb l _ h, nodes_same)
          (locals.full-found (nexts (code_of t (own t q))) (step_in t q) (starts_in t q)
          (parameter_count t (own t q)) (local_count (own t q)) l h (row_count (code_of t (own t q))) some (next_below (code_of t (own t q))) w m z)

  -- operand j on arriving at instruction i
  module _ (i j : ℕ) where
    pub marked-shown : j < 16 → operand_marked (marks_of t (index_of t) (guarded_marks t) q (own t q)) i j ≡ true → ArrivesMarked t q i j
    marked-shown h e =
        let r = operand_mark_shown (nexts (code_of t (own t q))) (step_in t q) (starts_in t q)
        (parameter_count t (own t q)) (local_count (own t q)) (parameters-fit t (own t q)) ((sized t (row_count t) a.by_rows).locals q there)
        (regular t (index_of t) (guarded_marks t) (own t q) (guarded-plain t)) few-operands stores (row_count (code_of t (own t q))) some (next_below (code_of t (own t q))) i j h (rw (marks_are t (index_of t) (guarded_marks t) q (own t q)) at e) in
        (r.0, r.2, r.3, r.4, r.5)

    pub marked-found : ArrivesMarked t q i j → operand_marked (marks_of t (index_of t) (guarded_marks t) q (own t q)) i j ≡ true
    marked-found (k, ls, ms, w, z) = rw (marks_are t (index_of t) (guarded_marks t) q (own t q)) (go (dec_lt j 16))
      where
        go : Dec (j < 16) → operand_marked (mark_nodes (nexts (code_of t (own t q))) (step_in t q) (starts_in t q) (parameter_count t (own t q)) (row_count (code_of t (own t q)))) i j ≡ true
        go (yes h) = operand_mark_found (nexts (code_of t (own t q))) (step_in t q) (starts_in t q)
            (parameter_count t (own t q)) (local_count (own t q)) (parameters-fit t (own t q)) ((sized t (row_count t) a.by_rows).locals q there)
            (regular t (index_of t) (guarded_marks t) (own t q) (guarded-plain t)) few-operands stores (row_count (code_of t (own t q))) some (next_below (code_of t (own t q))) w j h z
        go (no h) = absurd (false≢true (sym (get_or-eq_default ms false {n = j} (omega (arith, (arrived w).bounded))) ∙ z))

  -- there are at most 16 operands before an instruction, whether a walk arrives or not, so it takes at most 16
  before-few : (i : ℕ) → i < row_count (code_of t (own t q)) → (ks rest : List ℕ) → kinds_before t (index_of t) (own t q) i ≡ good (onto ks rest) → length ks ≤ 16
  unfolding kinds_before
  before-few zero h ks rest e = let z : length (onto ks rest) ≡ 0 = ap length (sym (good-same e)) in omega (arith, z, length-onto ks rest)
  before-few (suc i) h ks rest e = go (last_of_block (code_of t (own t q)) i) refl
    where
      go : (b : Bool) → last_of_block (code_of t (own t q)) i ≡ b → length ks ≤ 16
      go true l = let z : length (onto ks rest) ≡ 0 = ap length (sym (good-same (rw l at e))) in omega (arith, z, length-onto ks rest)
      go false l =
          let f = flow-at i (omega arith) in
          let n : kinds_before t (index_of t) (own t q) (suc i) ≡ good (onto (effect_in t (index_of t) (own t q) f.top i).gives f.rest) = rw add-one at (f.next l) in
          let z = ap length (good-same (sym n ∙ e)) in
          omega (arith, z, f.few, length-onto ks rest)

  pub takes-few : (i : ℕ) → i < row_count (code_of t (own t q)) → (step_in t q i).takes ≤ 16
  takes-few i h =
      let f = flow-at i h in
      let n = before-few i h (effect_in t (index_of t) (own t q) f.top i).takes f.rest f.before in
      omega (arith, n, step-takes t (index_of t) (guarded_marks t) (own t q) f.top i)
