-- Laws of marked operands, and of the faults that follow from them.
use Prim.Native.Nat.{ℕ, zero, suc, ◌+◌, ◌-◌, ◌<◌, ◌≤◌}
use mathlib.Core.Path.{◌≡◌, refl, sym, ap, ◌∙◌}
use mathlib.Core.Bool.{Bool, true, false, cond, ◌&&◌, ◌||◌}
use mathlib.Core.List.{List, ◌∷◌, ◌++◌}
use native.Mathlib.Omega.{arith}
use lib.Dec.{eqb}
use lib.ListN.{length, take, replicate, length-replicate, length-append}
use Rattle.laws.proofs.First.{clean_all}
use Rattle.table.specs.declared.Row.{Row}
use Rattle.table.specs.Verdicts.{Verdict, Accepted}
use Rattle.table.specs.declared.index.Index.{Index}
use Rattle.table.specs.declared.index.TypeEntry.{TypeEntry}
use Rattle.table.specs.declared.index.ProcedureEntry.{ProcedureEntry}
use Rattle.table.specs.Rows.{row_at}
use Rattle.declarations.specs.Program.{number, number_ref, row_kind, kinds_of, procedure_in, code_of, code_verdict}
use Rattle.effects.specs.Effects.{effect_of}
use Rattle.effects.proofs.Laws.{kinds-none, kinds-first}
use Rattle.operands.specs.Flow.{effect_in}
use Rattle.steps.proofs.Laws.{length-kinds}
use Rattle.helpers.specs.Tables.{is_private, is_helper}
use Rattle.leaks.specs.Leaks.{in_trusted, some_marked, leak_in, leak_from}
use Rattle.leaks.specs.code.Read.{marked_at, marked_in, read_fault}

-- the first of a row of equal ones
pub take-replicate : {A : Type 0} (n m : ℕ) (a : A) → n ≤ m → take n (replicate m a) ≡ replicate n a
take-replicate zero m a h = refl
take-replicate (suc n) zero a h = absurd (omega arith)
take-replicate {A} (suc n) (suc m) a h = ap {B = List A} (λ r. a ∷ r) (take-replicate n m a (omega arith))

pub length_prefix : {A : Type 0} (n m : ℕ) (a : A) → n ≤ m → length (take n (replicate m a)) ≡ n
length_prefix n m a h = ap length (take-replicate n m a h) ∙ length-replicate n a

pub prefix_there : {A : Type 0} (xs ys : List A) (n : ℕ) → length xs ≡ n → n ≤ length (xs ++ ys)
prefix_there xs ys n e = omega (arith, e, length-append xs ys)

-- marked operands
module _ (marked : ℕ → Bool) where
  pub some_first : (k : ℕ) (ks : List ℕ) → (eqb k number_ref && marked (length ks)) ≡ true → some_marked marked (k ∷ ks) ≡ true
  unfolding some_marked
  some_first k ks e = rw e

  pub some_next : (k : ℕ) (ks : List ℕ) → (eqb k number_ref && marked (length ks)) ≡ false → some_marked marked ks ≡ false → some_marked marked (k ∷ ks) ≡ false
  unfolding some_marked
  some_next k ks e h = rw (e, h)

-- marked operands that rows declare
module _ (marked : ℕ → Bool) (t : List ℕ) (j to : ℕ) where
  pub some_none : to ≤ j → some_marked marked (kinds_of t j to) ≡ false
  unfolding some_marked
  some_none h = rw (kinds-none t j to h) refl

  module _ {row : Row} {b : Bool} (below : j < to) (e : row ≡ row_at t j) (is : b ≡ (eqb (row_kind row) number_ref && marked (to - 1 - j))) where
    first : some_marked marked (kinds_of t j to) ≡ (b || some_marked marked (kinds_of t (j + 1) to))
    unfolding some_marked
    first = let z : to - 1 - j ≡ to - (j + 1) = omega arith in rw (is, kinds-first t j to below, length-kinds t (j + 1) to, z, e) refl

    pub some_here : b ≡ true → some_marked marked (kinds_of t j to) ≡ true
    some_here h = first ∙ (rw h refl)

    pub some_later : b ≡ false → some_marked marked (kinds_of t j to) ≡ some_marked marked (kinds_of t (j + 1) to)
    some_later h = first ∙ (rw h refl)

-- the fault of an instruction, from what the code has of it
pub fault_is :
    (t c : List ℕ) (ix : Index) (p : ProcedureEntry) (seen : List Bool) (row : Row) (callee : ProcedureEntry) (i : ℕ) {f : ℕ}
    → c ≡ code_of t p
    → row ≡ row_at c i
    → callee ≡ procedure_in ix row.b
    → ((named : TypeEntry) → f ≡ leak_in (marked_at seen (p.code + i)) row.a (is_helper t p callee) (is_private t p) (effect_of t p named callee row number).takes)
    → leak_from t ix p (marked_in seen p) i ≡ f
unfolding leak_from effect_in
fault_is t c ix p seen row callee i part e q h = rw (← part, ← e, ← q) (sym (h _))

-- the verdict on a procedure of a trusted module is that on its code, and any other procedure is accepted
module _ (t : List ℕ) (ix : Index) (seen : List Bool) (q : ℕ) (p : ProcedureEntry) (n : ℕ) where
  pub trusted_verdict : {v : Verdict} → in_trusted t ix p ≡ true → v ≡ code_verdict (leak_from t ix p (marked_in seen p)) p.code n → v ≡ code_verdict (read_fault t ix seen q p) p.code n
  unfolding read_fault
  trusted_verdict trusted h = h ∙ ap (λ (b : Bool). code_verdict (λ (i : ℕ). cond b (leak_from t ix p (marked_in seen p) i) 0) p.code n) (sym trusted)

  pub guest_verdict : in_trusted t ix p ≡ false → Accepted n ≡ code_verdict (read_fault t ix seen q p) p.code n
  unfolding read_fault code_verdict
  guest_verdict guest = sym (clean_all Accepted _ _ n (λ j h. rw guest))
