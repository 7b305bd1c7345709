-- A pass over procedures whose faults tell causes refuses exactly the lowest row that earns a number, with the lowest number that it earns.
use Prim.Native.Nat.{ℕ, ◌<◌, ◌≤◌}
use mathlib.Core.Path.{◌≡◌, refl, ap₂}
use mathlib.Core.List.{List}
use mathlib.Core.Logic.{◌⊎◌, inl, inr, ⊎_elim}
use native.Mathlib.Decide.{dec_lt, ℕ_discrete}
use native.Mathlib.Omega.{arith}
use Rattle.table.specs.Verdicts.{Verdict, Accepted, Refused}
use Rattle.table.specs.declared.index.ProcedureEntry.{ProcedureEntry}
use Rattle.table.specs.Rows.{row_count}
use Rattle.table.specs.Index.{index_of}
use Rattle.declarations.specs.Program.{code_of, code_pass}
use Rattle.declarations.proofs.Passes.{pass_fine, pass_clean, First, pass_first}
use Rattle.sizes.proofs.Rows.{own, entries_long, inside-few, code_rises}
use Rattle.acceptance.specs.Refusals.{Earns, Lowest}

-- there is one lowest row with one lowest number, so that `Lowest` leaves no choice
pub lowest-one : (E : ℕ → ℕ → Type 0) {number row number' row' : ℕ} → Lowest E number row → Lowest E number' row' → (number ≡ number') × (row ≡ row')
lowest-one E {number} {row} {number'} {row'} a b =
    ⊎_elim
    (λ x. ⊎_elim (λ y. absurd (omega arith)) (λ y. absurd (omega (arith, x, y))) (b.first number row a.earned))
    (λ x. ⊎_elim (λ y. absurd (omega (arith, x, y))) (λ y. omega (arith, x, y)) (b.first number row a.earned))
    (a.first number' row' b.earned)

-- so a verdict that refuses only the lowest row, and accepts only where no row earns a number, refuses the lowest row: another answer would tell another one, or none
pub lowest-refused : (E : ℕ → ℕ → Type 0) (v : Verdict) → ((number row : ℕ) → v ≡ Refused number row → Lowest E number row) → ((n : ℕ) → v ≡ Accepted n → (number row : ℕ) → E number row → ⊥)
    → {number row : ℕ} → Lowest E number row → v ≡ Refused number row
lowest-refused E (Accepted n) told none {number} {row} low = absurd (none n refl number row low.earned)
lowest-refused E (Refused n r) told none low = let s = lowest-one E (told n r refl) low in ap₂ Refused s.0 s.1

-- Faults that are, at every instruction of a table, the lowest number that there is a cause for.
pub record Tells (Cause : List ℕ → ℕ → ℕ → ℕ → Type 0) (fault : ℕ → ProcedureEntry → ℕ → ℕ) (t : List ℕ) : Type 0 where
  pub shown : (q i : ℕ) → q < (index_of t).procedures → i < row_count (code_of t (own t q)) → (fault q (own t q) i ≡ 0 → ⊥) → Cause t q i (fault q (own t q) i)
  pub found : (q i number : ℕ) → q < (index_of t).procedures → i < row_count (code_of t (own t q)) → Cause t q i number → (fault q (own t q) i ≡ 0 → ⊥) × (fault q (own t q) i ≤ number)

-- A pass over procedures that looks for such faults.
module _ (Cause : List ℕ → ℕ → ℕ → ℕ → Type 0) (fault : ℕ → ProcedureEntry → ℕ → ℕ) (t : List ℕ) (tells : Tells Cause fault t) where
  -- a row that earns a number stands below the first faulty one, or is that one and the number no lower
  below_or_there : {number row : ℕ} → First fault t (index_of t) number row → (number' row' : ℕ) → Earns Cause t number' row' → (row < row') ⊎ ((row ≡ row') × (number ≤ number'))
  below_or_there {number} {row} f number' row' (q, i, there, inside, row_is, cause) =
      go (dec_lt q f.procedure) (dec_lt f.procedure q) (dec_lt i f.instruction) (dec_lt f.instruction i) (tells.found q i number' there inside cause)
    where
      go : Dec (q < f.procedure) → Dec (f.procedure < q) → Dec (i < f.instruction) → Dec (f.instruction < i) → (fault q (own t q) i ≡ 0 → ⊥) × (fault q (own t q) i ≤ number')
          → (row < row') ⊎ ((row ≡ row') × (number ≤ number'))
      go (yes b) c d e z = absurd (z.0 (f.above q b i inside))
      go (no b) (yes c) d e z = inl (rw (f.here.row_is, row_is) (code_rises t f.procedure q f.instruction i c there f.here.inside inside))
      go (no b) (no c) (yes d) e z = let s : q ≡ f.procedure = omega arith in absurd (z.0 (rw s (f.here.before i d)))
      go (no b) (no c) (no d) (yes e) z = let s : q ≡ f.procedure = omega arith in inl (rw (f.here.row_is, row_is, s) (omega arith))
      go (no b) (no c) (no d) (no e) z =
          let s : q ≡ f.procedure = omega arith in
          let r : i ≡ f.instruction = omega arith in
          inr (rw (f.here.row_is, row_is, s, r) refl, rw (← f.here.number_is) (rw (s, r) at z.1))

  -- the first faulty row is the lowest that earns a number
  pub pass_lowest : {number row : ℕ} → code_pass fault (index_of t) t ≡ Refused number row → Lowest (Earns Cause t) number row
  pass_lowest {number} {row} e =
      let f = pass_first fault t (index_of t) e in
      let c = tells.shown f.procedure f.instruction f.there f.here.inside f.here.faulty in
      record {
        earned = (f.procedure, f.instruction, f.there, f.here.inside, f.here.row_is, rw f.here.number_is at c);
        first = below_or_there f;
      }

  -- a pass that accepts has no row that earns a number, and the converse
  pub pass_none : {n : ℕ} → code_pass fault (index_of t) t ≡ Accepted n → (number row : ℕ) → Earns Cause t number row → ⊥
  pass_none {n} e number row (q, i, there, inside, row_is, cause) = (tells.found q i number there inside cause).0 (pass_fine fault (index_of t) t n e q there (entries_long t q (inside-few t q i inside)) i inside)

  pub none_pass : ((number row : ℕ) → Earns Cause t number row → ⊥) → code_pass fault (index_of t) t ≡ Accepted (row_count t)
  none_pass none = pass_clean fault (index_of t) t (λ q i there l inside. go q i there inside (ℕ_discrete (fault q (own t q) i) 0))
    where
      go : (q i : ℕ) → q < (index_of t).procedures → i < row_count (code_of t (own t q)) → Dec (fault q (own t q) i ≡ 0) → fault q (own t q) i ≡ 0
      go q i there inside (yes z) = z
      go q i there inside (no z) = absurd (none _ _ (q, i, there, inside, refl, tells.shown q i there inside z))

  -- the lowest row that earns a number is refused
  pub lowest_pass : {number row : ℕ} → Lowest (Earns Cause t) number row → code_pass fault (index_of t) t ≡ Refused number row
  lowest_pass low = lowest-refused (Earns Cause t) (code_pass fault (index_of t) t) (λ number row e. pass_lowest e) (λ n e. pass_none e) low
