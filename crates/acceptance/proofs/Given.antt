-- Each mark of a table is there for a cause: a parameter starts marked exactly if some walk gives it a marked reference, and a result is marked exactly if some walk returns one.
use Prim.Native.Nat.{ℕ, ◌+◌, ◌-◌, ◌/◌, ◌%◌, ◌<◌}
use mathlib.Core.Path.{◌≡◌, refl, sym, ap, ◌∙◌, subst}
use mathlib.Core.Bool.{true, false, and-true}
use mathlib.Core.List.{List, ◌∷◌, ◌++◌}
use mathlib.Core.Logic.{◌↔◌, ⊎_elim}
use native.Mathlib.Omega.{arith}
use borrow.Author.Tests.{eqb-true, eq-eqb}
use lib.Dec.{eqb}
use lib.ListN.{length, get_or}
use Rattle.laws.proofs.Tests.{and_both}
use Rattle.table.specs.Format.{op_call, max_locals, max_results}
use Rattle.table.specs.Index.{index_of}
use Rattle.table.specs.Rows.{row_count}
use Rattle.declarations.specs.Program.{code_of, parameter_kinds, result_kinds}
use Rattle.flow.proofs.Paths.{node_div, node_mod}
use Rattle.steps.specs.Steps.{step_of, step_at}
use Rattle.sizes.proofs.Rows.{own}
use Rattle.sizes.proofs.Inside as Inside
use Rattle.helpers.specs.Marks.{per_procedure, parameter_at, result_at, parameter_of, result_of}
use Rattle.helpers.specs.Tables.{is_private, is_helper, procedure_of, marks_in}
use Rattle.helpers.proofs.Tied.{fits}
use Rattle.helpers.proofs.Under.{sends_inv, to_walk}
use Rattle.helpers.proofs.Smallest.{each-sent}
use Rattle.judging.specs.Judging.{UpToOperands}
use Rattle.acceptance.specs.Refusals.{opcode, operand}
use Rattle.acceptance.specs.Helpers.{GivenTo, ReturnedBy}
use Rattle.acceptance.proofs.Shown.{flow-at}
use Rattle.acceptance.proofs.Helpers.{formed, walkable, walk_out, around, from_top, call-kinds, ret-kinds, smallest}

-- a parameter's place is no result's
apart : (q l p r : ℕ) → l < max_locals → r < max_results → parameter_at q l ≡ result_at p r → ⊥
apart q l p r b c e = omega (arith, b, c, e)

module _ (t : List ℕ) (a : UpToOperands t) where
  parameter-shown : (q l : ℕ) → l < max_locals → parameter_of (marks_in t) q l ≡ true → GivenTo t q l
  unfolding parameter_of marks_in procedure_of step_at step_of
  parameter-shown q l b m =
      let f = fits t (formed a) in
      let e = each-sent (procedure_of t) (index_of t).procedures f (parameter_at q l) m in
      let p = e.0 in
      let i = e.2 in
      let j = e.3 in
      let w = to_walk (procedure_of t) (index_of t).procedures f (walkable t a) (marks_in t) p e.4 j e.5 in
      let s = sends_inv (procedure_of t p) p i j e.6 in
      let n = ((procedure_of t p).step i).takes in
      let callee = operand t p i in
      ⊎_elim
      (λ c.
      let d = and_both (eqb (opcode t p i) op_call) (is_helper t (own t p) (own t callee)) c.0 in
      let o = eqb-true _ _ d.0 in
      let x : n - 1 - j < per_procedure = omega (arith, (f.helped p e.4 i c.0).1) in
      let y : l < per_procedure = omega arith in
      let same : q ≡ callee = sym (node_div per_procedure q l y) ∙ ap (λ (u : ℕ). u / per_procedure) c.1 ∙ node_div per_procedure callee (n - 1 - j) x in
      let nth : l ≡ n - 1 - j = sym (node_mod per_procedure q l y) ∙ ap (λ (u : ℕ). u % per_procedure) c.1 ∙ node_mod per_procedure callee (n - 1 - j) x in
      let k = call-kinds t p i o in
      let r = around (parameter_kinds t (own t callee)) l (omega (arith, s.0, nth, k)) in
      let z = (from_top (parameter_kinds t (own t callee)) k r.0 r.1 r.2 r.3).1 in
      let g : j ≡ length r.1 = omega (arith, z, r.4, nth, s.0) in
      record {
        caller = p;
        at = i;
        before = r.0;
        after = r.1;
        kind = r.2;
        there = e.4;
        calls = o;
        names = sym same;
        helper = subst (λ (u : ℕ). is_helper t (own t p) (own t u) ≡ true) (sym same) d.1;
        kinds = subst (λ (u : ℕ). parameter_kinds t (own t u) ≡ r.0 ++ (r.2 ∷ r.1)) (sym same) r.3;
        place = r.4;
        marked = (e.1, w.0, w.1, walk_out t (marks_in t) p w.2, subst (λ (u : ℕ). get_or w.1 u false ≡ true) g w.4);
      })
      (λ c. absurd (apart q l p (n - 1 - j) b (omega (arith, f.returned p e.4 i c.1)) c.2))
      s.1

  result-shown : (q r : ℕ) → r < max_results → result_of (marks_in t) q r ≡ true → ReturnedBy t q r
  unfolding result_of marks_in procedure_of step_at step_of
  result-shown q l b m =
      let f = fits t (formed a) in
      let e = each-sent (procedure_of t) (index_of t).procedures f (result_at q l) m in
      let p = e.0 in
      let i = e.2 in
      let j = e.3 in
      let w = to_walk (procedure_of t) (index_of t).procedures f (walkable t a) (marks_in t) p e.4 j e.5 in
      let s = sends_inv (procedure_of t p) p i j e.6 in
      let n = ((procedure_of t p).step i).takes in
      ⊎_elim
      (λ c. absurd (apart (operand t p i) (n - 1 - j) q l (omega (arith, s.0, (f.helped p e.4 i c.0).1)) b (sym c.1)))
      (λ c.
      let h = f.returned p e.4 i c.1 in
      let x : 16 + (n - 1 - j) < per_procedure = omega (arith, h, s.0) in
      let y : 16 + l < per_procedure = omega arith in
      let same : p ≡ q = sym (node_div per_procedure p (16 + (n - 1 - j)) x) ∙ ap (λ (u : ℕ). u / per_procedure) (sym c.2) ∙ node_div per_procedure q (16 + l) y in
      let nth : 16 + l ≡ 16 + (n - 1 - j) = sym (node_mod per_procedure q (16 + l) y) ∙ ap (λ (u : ℕ). u % per_procedure) c.2 ∙ node_mod per_procedure p (16 + (n - 1 - j)) x in
      let k = ret-kinds t p i c.1 in
      let r = around (result_kinds t (own t p)) l (omega (arith, s.0, nth, k)) in
      let z = (from_top (result_kinds t (own t p)) k r.0 r.1 r.2 r.3).1 in
      let g : j ≡ length r.1 = omega (arith, z, r.4, nth, s.0) in
      subst (λ (u : ℕ). ReturnedBy t u l) same (record {
        at = i;
        before = r.0;
        after = r.1;
        kind = r.2;
        there = e.4;
        returns = c.1;
        hidden = c.0;
        kinds = r.3;
        place = r.4;
        marked = (e.1, w.0, w.1, walk_out t (marks_in t) p w.2, subst (λ (u : ℕ). get_or w.1 u false ≡ true) g w.4);
      }))
      s.1

  -- a parameter starts marked exactly if some walk gives it a marked reference
  pub parameter-given : (q l : ℕ) → l < max_locals → (parameter_of (marks_in t) q l ≡ true) ↔ GivenTo t q l
  parameter-given q l b = (parameter-shown q l b, from)
    where
      from : GivenTo t q l → parameter_of (marks_in t) q l ≡ true
      from g =
          let w = g.marked in
          rw (g.names, g.place) at
          ((smallest t a).closed.given g.caller g.at g.there w.3 g.calls (rw g.names g.helper) g.before g.after g.kind (rw g.names g.kinds) w.4)

  -- a result is marked exactly if some walk returns a marked reference there
  pub result-returned : (q r : ℕ) → r < max_results → (result_of (marks_in t) q r ≡ true) ↔ ReturnedBy t q r
  result-returned q r b = (result-shown q r b, from)
    where
      from : ReturnedBy t q r → result_of (marks_in t) q r ≡ true
      from g =
          let w = g.marked in
          rw g.place at ((smallest t a).closed.returned q g.at g.there w.3 g.returns g.hidden g.before g.after g.kind g.kinds w.4)

  -- what a Call names is a helper exactly if it is private: a private procedure of another module is refused before, with 10
  pub helper-private : (q i : ℕ) → q < (index_of t).procedures → i < row_count (code_of t (own t q)) → opcode t q i ≡ op_call
      → is_helper t (own t q) (own t (operand t q i)) ≡ is_private t (own t (operand t q i))
  unfolding is_helper is_private
  helper-private q i h l o =
      ⊎_elim (λ x. rw x refl) (λ x. let z = eq-eqb _ _ x in rw z (and-true _)) ((flow-at t a q h (Inside.few t (formed a) q h) i l).may_call o)
