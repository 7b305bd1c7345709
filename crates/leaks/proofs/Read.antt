-- The pass over the marks that a search has found is the leaks pass.
use Prim.Native.Nat.{ℕ, zero, suc, ◌+◌, ◌*◌, ◌<◌, ◌≤◌}
use mathlib.Core.Path.{◌≡◌, refl, sym, ap, ap₂, ◌∙◌}
use mathlib.Core.Bool.{Bool, true, false, cond, not, ◌&&◌, ◌||◌, and-false}
use mathlib.Core.List.{List, [], ◌∷◌}
use native.Mathlib.Nat.{add-zero, zero-add}
use native.Mathlib.Omega.{arith}
use borrow.Author.Tests.{eqb-true}
use lib.Dec.{eqb}
use lib.ListN.{length, get_or, replicate, length-take}
use lib.Seq.{get_or-take}
use Rattle.laws.proofs.First.{first-same}
use Rattle.table.specs.Verdicts.{Accepted, Refused, and_then}
use Rattle.table.specs.declared.index.Index.{Index}
use Rattle.table.specs.declared.index.ProcedureEntry.{ProcedureEntry}
use Rattle.table.specs.Format.{op_call, op_ret}
use Rattle.table.specs.Rows.{row_count, row_at}
use Rattle.table.specs.Index.{index_of, no_procedure}
use Rattle.declarations.specs.Program.{number, number_ref, procedure_in, code_of, code_verdict, over_procedures, code_pass}
use Rattle.declarations.proofs.Laws.{procedures_of}
use Rattle.declarations.proofs.Passes.{pass_clean}
use Rattle.effects.specs.Effects.{effects, effect_of}
use Rattle.operands.specs.Flow.{effect_in}
use Rattle.flow.specs.Places.{operand_marked}
use Rattle.steps.specs.Steps.{marks_of}
use Rattle.sizes.specs.code.Formed.{Formed}
use Rattle.sizes.proofs.Inside as Inside
use Rattle.helpers.specs.Tables.{marks_under, marks_in}
use Rattle.helpers.proofs.Tied.{parameters-length, results-length}
use Rattle.marks.specs.code.Search.{per_row}
use Rattle.marks.specs.code.Found.{Found}
use Rattle.leaks.specs.Leaks.{in_trusted, some_marked, leak_in, leak_from, leak_fault, leaks_of}
use Rattle.leaks.specs.code.Read.{marked_at, marked_in, read_fault, read_pass}

-- Passes that find the same faults at every instruction are the same.
module _ (f g : ℕ → ProcedureEntry → ℕ → ℕ) (t : List ℕ) where
  list_same : (s : ℕ) (ps : List ProcedureEntry)
      → ((q : ℕ) → q < length ps → (i : ℕ) → i < row_count (code_of t (get_or ps q no_procedure)) → f (s + q) (get_or ps q no_procedure) i ≡ g (s + q) (get_or ps q no_procedure) i)
      → over_procedures f t s ps ≡ over_procedures g t s ps
  unfolding over_procedures code_verdict
  list_same s [] h = refl
  list_same s (p ∷ ps) h =
      ap₂ and_then (first-same Accepted (λ (number i : ℕ). Refused number (p.code + i)) (f s p) (g s p) 0 (row_count (code_of t p)) (λ j lo hi. rw add-zero at (h 0 (omega arith) j (omega arith))))
      (list_same (s + 1) ps (λ q l. let z : s + suc q ≡ s + 1 + q = omega arith in rw z at (h (suc q) (omega arith))))

  pass_same : (ix : Index) → ((q i : ℕ) → q < ix.procedures → i < row_count (code_of t (procedure_in ix q)) → f q (procedure_in ix q) i ≡ g q (procedure_in ix q) i) → code_pass f ix t ≡ code_pass g ix t
  unfolding code_pass procedure_in
  pass_same ix h = list_same 0 (procedures_of ix) (λ q l.
      let b : q < ix.procedures = omega (arith, length-take ix.procedures ix.procedure_entries) in
      rw (zero-add, get_or-take ix.procedures ix.procedure_entries q no_procedure b) (λ i k. h q i b k))

-- Marked operands.
pub some_same : (f g : ℕ → Bool) (ks : List ℕ) → ((j : ℕ) → j < length ks → f j ≡ g j) → some_marked f ks ≡ some_marked g ks
unfolding some_marked
some_same f g [] h = refl
some_same f g (k ∷ ks) h = ap₂ (λ (a b : Bool). (eqb k number_ref && a) || b) (h (length ks) (omega arith)) (some_same f g ks (λ j l. h j (omega arith)))

none-some : (f : ℕ → Bool) (ks : List ℕ) → ((j : ℕ) → f j ≡ false) → some_marked f ks ≡ false
unfolding some_marked
none-some f [] h = refl
none-some f (k ∷ ks) h = rw (h (length ks), and-false, none-some f ks h)

-- what an instruction earns, by the marks of what a Call and Ret take
leak_same : (f g : ℕ → Bool) (op : ℕ) (helper hidden : Bool) (takes : List ℕ)
    → (op ≡ op_call → some_marked f takes ≡ some_marked g takes)
    → (op ≡ op_ret → some_marked f takes ≡ some_marked g takes)
    → leak_in f op helper hidden takes ≡ leak_in g op helper hidden takes
unfolding leak_in
leak_same f g op helper hidden takes called returned = go (eqb op op_call) (eqb op op_ret) refl refl
  where
    go : (x y : Bool) → eqb op op_call ≡ x → eqb op op_ret ≡ y → leak_in f op helper hidden takes ≡ leak_in g op helper hidden takes
    go true y k l = rw (called (eqb-true _ _ k))
    go false true k l = rw (returned (eqb-true _ _ l))
    go false false k l = rw (k, l)

leak_none : (f : ℕ → Bool) (op : ℕ) (helper hidden : Bool) (takes : List ℕ) → some_marked f takes ≡ false → leak_in f op helper hidden takes ≡ 0
unfolding leak_in
leak_none f op helper hidden takes e = rw (e, and-false (eqb op op_call && not helper), and-false (eqb op op_ret && not hidden))

nothing-at : (n i : ℕ) → get_or (replicate n false) i false ≡ false
nothing-at zero i = refl
nothing-at (suc n) zero = refl
nothing-at (suc n) (suc i) = nothing-at n i

module _ (t : List ℕ) (f : Formed t) where
  module _ (q i : ℕ) (there : q < (index_of t).procedures) where
    -- what a Call and Ret take are operands of the first 16
    call-few : (row_at (code_of t (procedure_in (index_of t) q)) i).a ≡ op_call → length (effect_in t (index_of t) (procedure_in (index_of t) q) number i).takes ≤ 16
    unfolding effect_in effect_of effects
    call-few e =
        let b = (row_at (code_of t (procedure_in (index_of t) q)) i).b in
        let callee = procedure_in (index_of t) b in
        rw e (omega (arith, parameters-length t callee, Inside.parameters-fit t callee, Inside.locals-few t f b (Inside.called t f q there i e)))

    ret-few : (row_at (code_of t (procedure_in (index_of t) q)) i).a ≡ op_ret → length (effect_in t (index_of t) (procedure_in (index_of t) q) number i).takes ≤ 16
    unfolding effect_in effect_of effects
    ret-few e = rw e (omega (arith, results-length t (procedure_in (index_of t) q), Inside.results-few t f q there))

    -- so the pass reads the marks that its faults ask for
    module _ (seen : List Bool) (found : Found t seen) (inside : i < row_count (code_of t (procedure_in (index_of t) q))) where
      marked-same : (j : ℕ) → j < 16 → marked_in seen (procedure_in (index_of t) q) i j ≡ operand_marked (marks_of t (index_of t) (marks_under t (marks_in t)) q (procedure_in (index_of t) q)) i j
      unfolding marked_at
      marked-same j h = found.operands q i j there inside h

      fault_same : read_fault t (index_of t) seen q (procedure_in (index_of t) q) i ≡ leak_fault t (index_of t) (marks_in t) q (procedure_in (index_of t) q) i
      unfolding read_fault leak_fault leak_from
      fault_same =
          ap (λ (k : ℕ). cond (in_trusted t (index_of t) (procedure_in (index_of t) q)) k 0)
          (leak_same _ _ (row_at (code_of t (procedure_in (index_of t) q)) i).a _ _ _
          (λ e. some_same _ _ _ (λ j h. marked-same j (omega (arith, h, call-few e))))
          (λ e. some_same _ _ _ (λ j h. marked-same j (omega (arith, h, ret-few e)))))

  pub read_is : (seen : List Bool) → Found t seen → read_pass t (index_of t) seen ≡ leaks_of t
  unfolding read_pass leaks_of
  read_is seen found = pass_same (read_fault t (index_of t) seen) (leak_fault t (index_of t) (marks_in t)) t (index_of t) (λ q i there inside. fault_same q i there seen found inside)

-- where nothing is marked nothing leaks
none_fault : (t : List ℕ) (ix : Index) (n q : ℕ) (p : ProcedureEntry) (i : ℕ) → read_fault t ix (replicate n false) q p i ≡ 0
unfolding read_fault leak_from marked_at
none_fault t ix n q p i = go (in_trusted t ix p) (leak_none _ _ _ _ _ (none-some _ _ (λ j. nothing-at n _)))
  where
    go : (b : Bool) {k : ℕ} → k ≡ 0 → cond b k 0 ≡ 0
    go true e = e
    go false e = refl

pub none_leaks : (t : List ℕ) → Formed t → Found t (replicate (per_row * row_count t) false) → leaks_of t ≡ Accepted (row_count t)
unfolding read_pass
none_leaks t f found =
    sym (read_is t f (replicate (per_row * row_count t) false) found)
    ∙ pass_clean (read_fault t (index_of t) (replicate (per_row * row_count t) false)) (index_of t) t (λ q i h k l. none_fault t (index_of t) (per_row * row_count t) q (procedure_in (index_of t) q) i)
