-- The marks of a table that the passes before locals accept: they hold what walks under them give to helpers and return from private procedures, and are the smallest that do.
use Prim.Native.Nat.{ℕ, zero, suc, ◌+◌, ◌-◌, ◌<◌}
use mathlib.Core.Path.{◌≡◌, refl, sym, ap, ◌∙◌, subst, subst⁻¹}
use mathlib.Core.Bool.{Bool, true, false}
use mathlib.Core.List.{List, [], ◌∷◌, ◌++◌}
use native.Mathlib.Omega.{arith}
use borrow.Author.Tests.{eqb-true, eq-eqb}
use lib.Dec.{eqb}
use lib.ListN.{length, get_or, length-append}
use Rattle.laws.proofs.Tests.{and_both, both_and}
use Rattle.table.specs.Format.{op_call, op_ret}
use Rattle.table.specs.Index.{index_of}
use Rattle.declarations.specs.Program.{code_of, local_count, parameter_count, parameter_kinds, result_kinds, instruction_in}
use Rattle.flow.specs.Steps.{Step, nexts}
use Rattle.flow.specs.Walks.{Slot, Walk, entry}
use Rattle.flow.specs.code.Paths.{Shallow}
use Rattle.steps.specs.Steps.{step_of, step_at}
use Rattle.sizes.specs.code.Formed.{Formed}
use Rattle.sizes.proofs.Rows.{own}
use Rattle.sizes.proofs.Inside as Inside
use Rattle.helpers.specs.Marks.{parameter_of, result_of, step_under, WalkUnder as WalkIn, Closed as ClosedIn}
use Rattle.helpers.specs.Tables.{is_helper, marks_under, procedure_of, marks_in}
use Rattle.helpers.proofs.Fits.{Walkable}
use Rattle.helpers.proofs.Smallest.{smallest as smallest-in}
use Rattle.helpers.proofs.Tied.{steps_tied, parameters-length, results-length, call_counts, ret_counts, fits}
use Rattle.judging.specs.Judging.{UpToOperands}
use Rattle.acceptance.specs.Checked.{MarkedAs}
use Rattle.acceptance.specs.Helpers.{WalkUnder, Closed, Smallest}
use Rattle.acceptance.proofs.Regular.{plain-under, regular}
use Rattle.acceptance.proofs.Depth.{shallow}
use Rattle.acceptance.proofs.Shown.{stores_local, flow-at, named-local}

-- a table that the passes before locals accept is one that length, rows and names do
pub formed : {t : List ℕ} → UpToOperands t → Formed t
formed a = record { by_length = a.by_length; by_rows = a.by_rows; by_names = a.by_names }

-- Walks of a table's procedure under marks are those of the theory of helpers.
module _ (t : List ℕ) (m : List Bool) (q : ℕ) where
  abbrev WalkBy : (ℕ → Step) → ℕ → ℕ → List Slot → List Bool → Type 0
  WalkBy step = Walk (nexts (code_of t (own t q))) step (entry (parameter_of m q) (parameter_count t (own t q)) (local_count (own t q)))

  pub walk_in : {k i : ℕ} {ls : List Slot} {ms : List Bool} → WalkUnder t m q k i ls ms → WalkIn (procedure_of t) m q k i ls ms
  unfolding procedure_of
  walk_in {k} {i} {ls} {ms} w = subst⁻¹ (λ (f : ℕ → Step). WalkBy f k i ls ms) (steps_tied t m (own t q)) w

  pub walk_out : {k i : ℕ} {ls : List Slot} {ms : List Bool} → WalkIn (procedure_of t) m q k i ls ms → WalkUnder t m q k i ls ms
  unfolding procedure_of
  walk_out {k} {i} {ls} {ms} w = subst (λ (f : ℕ → Step). WalkBy f k i ls ms) (steps_tied t m (own t q)) w

-- a list around its element l
pub around : (ks : List ℕ) (l : ℕ) → l < length ks → (before after : List ℕ) × (k : ℕ) × (ks ≡ before ++ (k ∷ after)) × (length before ≡ l)
around [] l h = absurd (omega arith)
around (k ∷ ks) zero h = ([], ks, k, refl, refl)
around (k ∷ ks) (suc l) h = let r = around ks l (omega arith) in (k ∷ r.0, r.1, r.2, ap (λ (xs : List ℕ). k ∷ xs) r.3, ap suc r.4)

-- Operands by their kinds, and by their numbers: of n the first is number n - 1 from the top.
module _ {n : ℕ} (ks : List ℕ) (counted : n ≡ length ks) where
  pub from_top : (before after : List ℕ) (k : ℕ) → ks ≡ before ++ (k ∷ after) → (length before < n) × (n - 1 - length before ≡ length after)
  from_top before after k e = let c : length ks ≡ length before + suc (length after) = ap length e ∙ length-append before (k ∷ after) in (omega (arith, counted, c), omega (arith, counted, c))

  module _ (ms : List Bool) (marked : ℕ → Bool) where
    by_kinds : ((l : ℕ) → l < n → get_or ms (n - 1 - l) false ≡ true → marked l ≡ true) → MarkedAs ks ms marked
    by_kinds f before after k e g = let z = from_top before after k e in f (length before) z.0 (rw z.1 g)

    by_numbers : MarkedAs ks ms marked → (l : ℕ) → l < n → get_or ms (n - 1 - l) false ≡ true → marked l ≡ true
    by_numbers f l h g =
        let r = around ks l (omega (arith, counted)) in
        let z : n - 1 - l ≡ length r.1 = rw r.4 at (from_top r.0 r.1 r.2 r.3).1 in
        rw r.4 at (f r.0 r.1 r.2 r.3 (rw z at g))

-- what a Call and a Ret of procedure q take
module _ (t : List ℕ) (q i : ℕ) where
  pub call-kinds : (instruction_in t (index_of t) q i).a ≡ op_call → ((procedure_of t q).step i).takes ≡ length (parameter_kinds t (own t (instruction_in t (index_of t) q i).b))
  unfolding procedure_of step_at step_of
  call-kinds e = (call_counts t q i e).0 ∙ sym (parameters-length t (own t (instruction_in t (index_of t) q i).b))

  pub ret-kinds : (instruction_in t (index_of t) q i).a ≡ op_ret → ((procedure_of t q).step i).takes ≡ length (result_kinds t (own t q))
  unfolding procedure_of step_at step_of
  ret-kinds e = ret_counts t q i e ∙ sym (results-length t (own t q))

-- so marks are closed by walks of the table exactly if they are by the theory
module _ (t : List ℕ) (m : List Bool) where
  closed_out : ClosedIn (procedure_of t) (index_of t).procedures m → Closed t m
  unfolding procedure_of step_at step_of
  closed_out c = record {
    given = λ q i {k} {ls} {ms} h w o e.
        let callee = (instruction_in t (index_of t) q i).b in
        by_kinds (parameter_kinds t (own t callee)) (call-kinds t q i o) ms (parameter_of m callee) (c.calls q h (walk_in t m q w) (both_and (eq-eqb _ op_call o) e));
    returned = λ q i {k} {ls} {ms} h w o e. by_kinds (result_kinds t (own t q)) (ret-kinds t q i o) ms (result_of m q) (c.returns q h (walk_in t m q w) e o);
  }

  closed_in : Closed t m → ClosedIn (procedure_of t) (index_of t).procedures m
  unfolding procedure_of step_at step_of
  closed_in c = record {
    calls = λ q h {k} {i} {ls} {ms} w e.
        let callee = (instruction_in t (index_of t) q i).b in
        let b = and_both (eqb (instruction_in t (index_of t) q i).a op_call) (is_helper t (own t q) (own t callee)) e in
        let o = eqb-true _ _ b.0 in
        by_numbers (parameter_kinds t (own t callee)) (call-kinds t q i o) ms (parameter_of m callee) (c.given q i h (walk_out t m q w) o b.1);
    returns = λ q h {k} {i} {ls} {ms} w e o. by_numbers (result_kinds t (own t q)) (ret-kinds t q i o) ms (result_of m q) (c.returned q i h (walk_out t m q w) o e);
  }

module _ (t : List ℕ) (a : UpToOperands t) where
  -- under any marks no walk arrives with more than 16 operands
  shallow_under : (q : ℕ) → q < (index_of t).procedures → (m : List Bool)
      → Shallow (procedure_of t q).next (λ (i : ℕ). step_under m ((procedure_of t q).step i)) (entry (parameter_of m q) (procedure_of t q).params (procedure_of t q).locals)
  unfolding procedure_of
  shallow_under q h m =
      let few = Inside.few t (formed a) q h in
      subst⁻¹ (λ (f : ℕ → Step). Shallow (nexts (code_of t (own t q))) f (entry (parameter_of m q) (parameter_count t (own t q)) (local_count (own t q)))) (steps_tied t m (own t q))
      (shallow t (index_of t) (marks_under t m) (plain-under t m) (own t q) _ (Inside.some-code t (formed a) q h) (flow-at t a q h few))

  -- what walks of its procedures need
  pub walkable : Walkable (procedure_of t) (index_of t).procedures
  unfolding procedure_of step_at step_of
  walkable = record {
    regular = λ q h. regular t (index_of t) (marks_under t []) (own t q) (plain-under t []);
    uncarried = λ q h i e. refl;
    shallow = shallow_under;
    stores = λ q h i e. named-local t a q h (Inside.few t (formed a) q h) i (stores_local _ e);
  }

  -- THE MARKS of a table are the smallest
  pub smallest : Smallest t (marks_in t)
  unfolding marks_in
  smallest =
      let s = smallest-in (procedure_of t) (index_of t).procedures (fits t (formed a)) walkable in
      record { closed = closed_out t (marks_in t) s.0; least = λ n c. s.1 n (closed_in t n c) }
