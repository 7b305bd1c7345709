-- The value of a verdict, a row or the number of rows, is at most 2,048.
use Prim.Native.Nat.{ℕ, zero, suc, ◌+◌, ◌%◌, ◌<◌, ◌≤◌}
use mathlib.Core.Path.{◌≡◌, refl}
use mathlib.Core.Bool.{Bool, true, false, cond, not, ◌||◌}
use mathlib.Core.List.{List, [], ◌∷◌}
use native.Mathlib.Omega.{arith}
use borrow.Author.Tests.{ltb-false}
use lib.Dec.{eqb, ltb}
use lib.ListN.{length, get_or, take, length-take}
use lib.Seq.{get_or-take}
use Rattle.laws.specs.First.{first_fault, unless}
use Rattle.laws.proofs.Lists.{length-entries}
use Rattle.table.specs.Verdicts.{Verdict, Accepted, Refused, and_then, value_of}
use Rattle.table.specs.declared.index.ProcedureEntry.{ProcedureEntry}
use Rattle.table.specs.Format.{procedure_kind}
use Rattle.table.specs.Rows.{row_count, is_kind}
use Rattle.table.specs.Index.{index_of, indexed_rows, procedure_at, no_procedure}
use Rattle.rows.specs.Rows.{length_of, rows_of}
use Rattle.declarations.specs.Program.{code_of, code_verdict, over_procedures, code_pass, procedure_in}
use Rattle.declarations.proofs.Laws.{procedure-ends}
use Rattle.names.specs.Names.{names_of, names_with}
use Rattle.operands.specs.Operands.{operands_of, operands_with}
use Rattle.locals.specs.Locals.{locals_of}
use Rattle.sizes.proofs.Sizes.{part_between}
use Rattle.leaks.specs.Leaks.{leaks_of}
use Rattle.judging.specs.Judging.{judge_of, in_order, passes}

-- a pass over rows answers a row at most as high as it has come
pub first_value : (bad : ℕ → ℕ → Verdict) (start : ℕ) → ((k j : ℕ) → value_of (bad k j) ≤ start + j) → (f : ℕ → ℕ) (i left : ℕ) → value_of (first_fault Accepted bad f i left) ≤ start + i + left
unfolding first_fault
first_value bad start low f i zero = omega arith
first_value bad start low f i (suc left) = go (f i) refl (first_value bad start low f (i + 1) left)
  where
    go : (k : ℕ) → f i ≡ k → value_of (first_fault Accepted bad f (i + 1) left) ≤ start + (i + 1) + left → value_of (unless (f i) (bad (f i) i) (first_fault Accepted bad f (i + 1) left)) ≤ start + i + suc left
    go zero e ih = rw e (omega arith)
    go (suc k) e ih = rw e (omega (arith, low (suc k) i))

-- the length pass: what it accepts is short
length_value : (t : List ℕ) → (value_of (length_of t) ≤ 2048) × ((n : ℕ) → length_of t ≡ Accepted n → row_count t ≤ 2048)
unfolding length_of
length_value t = go (eqb (length t) 0) (eqb (length t % 16) 0) (ltb 32768 (length t)) refl
  where
    go : (a b c : Bool) → ltb 32768 (length t) ≡ c → (value_of (cond (a || not b || c) (Refused 1 0) (Accepted (row_count t))) ≤ 2048) × ((n : ℕ) → cond (a || not b || c) (Refused 1 0) (Accepted (row_count t)) ≡ Accepted n → row_count t ≤ 2048)
    go true b c e = (omega arith, λ n q. absurd (let z : ◌≡◌ {A = ℕ} 0 1 = cc in omega arith))
    go false false c e = (omega arith, λ n q. absurd (let z : ◌≡◌ {A = ℕ} 0 1 = cc in omega arith))
    go false true true e = (omega arith, λ n q. absurd (let z : ◌≡◌ {A = ℕ} 0 1 = cc in omega arith))
    go false true false e = let h = ltb-false 32768 (length t) e in (omega arith, λ n q. omega arith)

-- a pass over instructions, where every procedure ends by row 2,048
code_value : (f : ℕ → ℕ) (t : List ℕ) (p : ProcedureEntry) → p.end ≤ 2048 → value_of (code_verdict f p.code (row_count (code_of t p))) ≤ 2048
unfolding code_verdict code_of first_fault
code_value f t p h = go (row_count (code_of t p)) refl
  where
    go : (n : ℕ) → row_count (code_of t p) ≡ n → value_of (code_verdict f p.code (row_count (code_of t p))) ≤ 2048
    go zero e = rw e (omega arith)
    go (suc n) e = omega (arith, first_value (λ (k j : ℕ). Refused k (p.code + j)) p.code (λ k j. omega arith) f 0 (row_count (code_of t p)), part_between t p.code p.end)

pub then_value : (v w : Verdict) → value_of v ≤ 2048 → value_of w ≤ 2048 → value_of (and_then v w) ≤ 2048
then_value (Accepted n) w h k = k
then_value (Refused a b) w h k = h

over_value : (fault : ℕ → ProcedureEntry → ℕ → ℕ) (t : List ℕ) → row_count t ≤ 2048 → (s : ℕ) (ps : List ProcedureEntry) → ((q : ℕ) → q < length ps → (get_or ps q no_procedure).end ≤ 2048) → value_of (over_procedures fault t s ps) ≤ 2048
unfolding over_procedures
over_value fault t r s [] h = r
over_value fault t r s (p ∷ ps) h =
    then_value (code_verdict (fault s p) p.code (row_count (code_of t p))) (over_procedures fault t (s + 1) ps) (code_value (fault s p) t p (h 0 (omega arith))) (over_value fault t r (s + 1) ps (λ q l. h (suc q) (omega arith)))

pub pass_value : (fault : ℕ → ProcedureEntry → ℕ → ℕ) (t : List ℕ) → row_count t ≤ 2048 → value_of (code_pass fault (index_of t) t) ≤ 2048
unfolding code_pass index_of procedure_in
pass_value fault t r = over_value fault t r 0 (take (index_of t).procedures (index_of t).procedure_entries) ends
  where
    ends : (q : ℕ) → q < length (take (index_of t).procedures (index_of t).procedure_entries) → (get_or (take (index_of t).procedures (index_of t).procedure_entries) q no_procedure).end ≤ 2048
    ends q h =
        let size = length-entries (is_kind t procedure_kind) (procedure_at t) no_procedure (indexed_rows t) 128 in
        let few = length-take (index_of t).procedures (index_of t).procedure_entries in
        let lo : q < (index_of t).procedures = omega (arith, few) in
        let hi : q < 128 = omega (arith, few, size) in
        rw (get_or-take (index_of t).procedures (index_of t).procedure_entries q no_procedure lo) (procedure-ends t q lo hi)

pub rows_value : (f : ℕ → ℕ) (n : ℕ) → n ≤ 2048 → value_of (first_fault Accepted Refused f 0 n) ≤ 2048
rows_value f n h = omega (arith, first_value Refused 0 (λ k j. omega arith) f 0 n)

-- the value of the verdict on any bytes
pub value_small : (t : List ℕ) → value_of (judge_of t) ≤ 2048
unfolding judge_of in_order passes rows_of names_of names_with operands_of operands_with locals_of leaks_of
value_small t = go (length_of t) refl (length_value t)
  where
    later : row_count t ≤ 2048 → value_of (in_order (rows_of ∷ names_of ∷ operands_of ∷ locals_of ∷ leaks_of ∷ []) t) ≤ 2048
    later r =
        then_value (rows_of t) (in_order (names_of ∷ operands_of ∷ locals_of ∷ leaks_of ∷ []) t) (rows_value _ (row_count t) r)
        (then_value (names_of t) (in_order (operands_of ∷ locals_of ∷ leaks_of ∷ []) t) (rows_value _ (row_count t) r)
        (then_value (operands_of t) (in_order (locals_of ∷ leaks_of ∷ []) t) (pass_value _ t r)
        (then_value (locals_of t) (in_order (leaks_of ∷ []) t) (pass_value _ t r)
        (then_value (leaks_of t) (in_order [] t) (pass_value _ t r) r))))

    go : (v : Verdict) → length_of t ≡ v → (value_of v ≤ 2048) × ((n : ℕ) → v ≡ Accepted n → row_count t ≤ 2048) → value_of (and_then v (in_order (rows_of ∷ names_of ∷ operands_of ∷ locals_of ∷ leaks_of ∷ []) t)) ≤ 2048
    go (Refused a b) e h = h.0
    go (Accepted n) e h = later (h.1 n refl)
