-- A pass over procedures accepts a table if, and only if, no instruction of a procedure is faulty; else it tells the first one. A pass over rows does the same of rows.
use Prim.Native.Nat.{ℕ, zero, suc, ◌+◌, ◌<◌}
use mathlib.Core.Path.{◌≡◌, refl, sym, ap, ap₂, ◌∙◌}
use mathlib.Core.Bool.{Bool, true, false, cond}
use mathlib.Core.List.{List, [], ◌∷◌}
use mathlib.Core.Logic.{◌⊎◌, inl, inr, ⊎_elim}
use native.Mathlib.Nat.{add-zero, zero-add}
use native.Mathlib.Omega.{arith}
use lib.ListN.{length, get_or, length-take}
use lib.Seq.{get_or-take}
use Rattle.laws.proofs.First.{Stops, all_fine, clean_if, clean_all, clean_or_stops}
use Rattle.table.specs.Verdicts.{Verdict, Accepted, Refused, number_of, value_of, and_then, pass_over}
use Rattle.table.specs.declared.index.Index.{Index}
use Rattle.table.specs.declared.index.ProcedureEntry.{ProcedureEntry}
use Rattle.table.specs.Rows.{row_count}
use Rattle.table.specs.Index.{no_procedure}
use Rattle.declarations.specs.Program.{code_of, code_verdict, over_procedures, code_pass, procedure_in}
use Rattle.declarations.proofs.Laws.{procedures_of}

-- a refusal is no acceptance
pub refused-accepted : {number row n : ℕ} → Refused number row ≡ Accepted n → ⊥
refused-accepted e = let z : ◌≡◌ {A = ℕ} 0 1 = cc in omega arith

-- what two passes in a row accept, each accepts
pub both_accept : (v later : Verdict) (n : ℕ) → and_then v later ≡ Accepted n → (v ≡ Accepted (value_of v)) × (later ≡ Accepted n)
both_accept (Accepted rows) later n e = (refl, e)
both_accept (Refused number row) later n e = absurd (refused-accepted e)

-- and what a test lets through
pub let_through : (b : Bool) (number row : ℕ) (v : Verdict) (n : ℕ) → cond b (Refused number row) v ≡ Accepted n → (b ≡ false) × (v ≡ Accepted n)
let_through true number row v n e = absurd (refused-accepted e)
let_through false number row v n e = (refl, e)

-- the instructions of one procedure
module _ (f : ℕ → ℕ) (start n : ℕ) where
  verdict_fine : {m : ℕ} → code_verdict f start n ≡ Accepted m → (i : ℕ) → i < n → f i ≡ 0
  unfolding code_verdict
  verdict_fine e i h = all_fine Accepted _ f (λ n k i. refused-accepted) _ 0 n e i (omega arith) (omega arith)

  verdict_clean : ((i : ℕ) → i < n → f i ≡ 0) → code_verdict f start n ≡ Accepted (0 + n)
  unfolding code_verdict
  verdict_clean h = clean_if Accepted _ f 0 n (λ i lo hi. h i (omega arith))

module _ (fault : ℕ → ProcedureEntry → ℕ → ℕ) (t : List ℕ) where
  -- no instruction of procedure q, whose entry is p, is faulty
  abbrev Fine : ℕ → ProcedureEntry → Type 0
  Fine q p = (i : ℕ) → i < row_count (code_of t p) → fault q p i ≡ 0

  -- the same of a list of procedures, the first of which has number s
  list_fine : (s : ℕ) (ps : List ProcedureEntry) (n : ℕ) → over_procedures fault t s ps ≡ Accepted n → (q : ℕ) → q < length ps → Fine (s + q) (get_or ps q no_procedure)
  unfolding over_procedures
  list_fine s [] n e q h = absurd (omega arith)
  list_fine s (p ∷ ps) n e zero h = rw add-zero (verdict_fine (fault s p) p.code _ (both_accept (code_verdict (fault s p) p.code _) (over_procedures fault t (s + 1) ps) n e).0)
  list_fine s (p ∷ ps) n e (suc q) h =
      let z : s + 1 + q ≡ s + suc q = omega arith in
      rw z at (list_fine (s + 1) ps n (both_accept (code_verdict (fault s p) p.code _) (over_procedures fault t (s + 1) ps) n e).1 q (omega arith))

  list_clean : (s : ℕ) (ps : List ProcedureEntry) → ((q : ℕ) → q < length ps → Fine (s + q) (get_or ps q no_procedure)) → over_procedures fault t s ps ≡ Accepted (row_count t)
  unfolding over_procedures
  list_clean s [] h = refl
  list_clean s (p ∷ ps) h =
      rw (verdict_clean (fault s p) p.code _ (rw add-zero at (h 0 (omega arith))))
      (list_clean (s + 1) ps (λ q l. let z : s + suc q ≡ s + 1 + q = omega arith in rw z at (h (suc q) (omega arith))))

module _ (fault : ℕ → ProcedureEntry → ℕ → ℕ) (ix : Index) (t : List ℕ) where
  -- no instruction of an accepted table is faulty
  pub pass_fine : (n : ℕ) → code_pass fault ix t ≡ Accepted n → (q : ℕ) → q < ix.procedures → q < length ix.procedure_entries → (i : ℕ) → i < row_count (code_of t (procedure_in ix q)) → fault q (procedure_in ix q) i ≡ 0
  unfolding code_pass procedure_in
  pass_fine n e q h k =
      rw (zero-add, get_or-take ix.procedures ix.procedure_entries q no_procedure h) at (list_fine fault t 0 (procedures_of ix) n e q (omega (arith, length-take ix.procedures ix.procedure_entries)))

  -- a table without faulty instruction is accepted
  pub pass_clean : ((q i : ℕ) → q < ix.procedures → q < length ix.procedure_entries → i < row_count (code_of t (procedure_in ix q)) → fault q (procedure_in ix q) i ≡ 0) → code_pass fault ix t ≡ Accepted (row_count t)
  unfolding code_pass procedure_in
  pass_clean h = list_clean fault t 0 (procedures_of ix) (λ q l.
      let b : (q < ix.procedures) × (q < length ix.procedure_entries) = omega (arith, length-take ix.procedures ix.procedure_entries) in
      rw (zero-add, get_or-take ix.procedures ix.procedure_entries q no_procedure b.0) (λ i k. h q i b.0 b.1 k))

-- passes that look for the same faults in every procedure are the same
module _ (f g : ℕ → ProcedureEntry → ℕ → ℕ) (t : List ℕ) where
  list_same : (s : ℕ) (ps : List ProcedureEntry) → ((q : ℕ) → q < length ps → f (s + q) (get_or ps q no_procedure) ≡ g (s + q) (get_or ps q no_procedure)) → over_procedures f t s ps ≡ over_procedures g t s ps
  unfolding over_procedures
  list_same s [] h = refl
  list_same s (p ∷ ps) h =
      ap₂ (λ (k : ℕ → ℕ) (rest : Verdict). and_then (code_verdict k p.code (row_count (code_of t p))) rest) (rw add-zero at (h 0 (omega arith)))
      (list_same (s + 1) ps (λ q l. let z : s + suc q ≡ s + 1 + q = omega arith in rw z at (h (suc q) (omega arith))))

  pub pass_same : (ix : Index) → ((q : ℕ) → q < ix.procedures → f q (procedure_in ix q) ≡ g q (procedure_in ix q)) → code_pass f ix t ≡ code_pass g ix t
  unfolding code_pass procedure_in
  pass_same ix h = list_same 0 (procedures_of ix) (λ q l.
      let b : q < ix.procedures = omega (arith, length-take ix.procedures ix.procedure_entries) in
      rw (zero-add, get_or-take ix.procedures ix.procedure_entries q no_procedure b) (h q b))

-- what two equal refusals say
pub refused-number : {a b c d : ℕ} → Refused a b ≡ Refused c d → a ≡ c
refused-number e = ap number_of e

pub refused-row : {a b c d : ℕ} → Refused a b ≡ Refused c d → b ≡ d
refused-row e = ap value_of e

-- A pass over n rows: what it accepts has no faulty row, and is accepted with its number of rows.
module _ (f : ℕ → ℕ) (n : ℕ) where
  pub over_fine : {m : ℕ} → pass_over f n ≡ Accepted m → (i : ℕ) → i < n → f i ≡ 0
  over_fine {m} e i h = all_fine Accepted Refused f (λ n k i. refused-accepted) m 0 n e i (omega arith) (omega arith)

  pub over_rows : (m : ℕ) → pass_over f n ≡ Accepted m → pass_over f n ≡ Accepted n
  over_rows m e = clean_all Accepted Refused f n (over_fine e)

  -- the first faulty row, and its number
  pub record FirstRow (number row : ℕ) : Type 0 where
    pub inside : row < n
    pub number_is : f row ≡ number
    pub faulty : f row ≡ 0 → ⊥
    pub before : (i : ℕ) → i < row → f i ≡ 0

  -- that is what it refuses
  pub over_first : {number row : ℕ} → pass_over f n ≡ Refused number row → FirstRow number row
  over_first {number} {row} e = go (clean_or_stops Accepted Refused f 0 n)
    where
      go : (pass_over f n ≡ Accepted (0 + n)) ⊎ Stops Accepted Refused f 0 n → FirstRow number row
      go (inl c) = absurd (refused-accepted (sym e ∙ c))
      go (inr s) =
          let same : Refused (f s.at) s.at ≡ Refused number row = sym s.told ∙ e in
          let first : FirstRow (f s.at) s.at = record { inside = omega (arith, s.inside); number_is = refl; faulty = s.faulty; before = λ i h. s.before i (omega arith) h } in
          rw (refused-number same, refused-row same) at first

-- instruction i of procedure q, whose entry is p, is its first faulty one, and has this number and this row
pub record FirstOf (fault : ℕ → ProcedureEntry → ℕ → ℕ) (t : List ℕ) (q : ℕ) (p : ProcedureEntry) (i number row : ℕ) : Type 0 where
  pub inside : i < row_count (code_of t p)
  pub row_is : row ≡ p.code + i
  pub number_is : fault q p i ≡ number
  pub faulty : fault q p i ≡ 0 → ⊥
  pub before : (j : ℕ) → j < i → fault q p j ≡ 0

module _ (fault : ℕ → ProcedureEntry → ℕ → ℕ) (t : List ℕ) where
  -- the verdict on procedure q is that of its first faulty instruction
  abbrev Told : ℕ → ProcedureEntry → Type 0
  Told q p = (i : ℕ) × (code_verdict (fault q p) p.code (row_count (code_of t p)) ≡ Refused (fault q p i) (p.code + i)) × FirstOf fault t q p i (fault q p i) (p.code + i)

  -- a procedure is accepted, or its first faulty instruction told
  code-first : (q : ℕ) (p : ProcedureEntry) → (code_verdict (fault q p) p.code (row_count (code_of t p)) ≡ Accepted (0 + row_count (code_of t p))) ⊎ Told q p
  unfolding code_verdict
  code-first q p = ⊎_elim
      (λ e. inl e)
      (λ s. inr (s.at, s.told, record { inside = omega (arith, s.inside); row_is = refl; number_is = refl; faulty = s.faulty; before = λ j h. s.before j (omega arith) h }))
      (clean_or_stops Accepted (λ (number i : ℕ). Refused number (p.code + i)) (fault q p) 0 (row_count (code_of t p)))

  -- instruction i of place q of a list of procedures, the first of which has number s, is the first faulty one of all
  abbrev ListFirst : ℕ → List ProcedureEntry → ℕ → ℕ → Type 0
  ListFirst s ps number row = (q : ℕ) × (i : ℕ) × (q < length ps) × FirstOf fault t (s + q) (get_or ps q no_procedure) i number row × ((r : ℕ) → r < q → Fine fault t (s + r) (get_or ps r no_procedure))

  list_first : (s : ℕ) (ps : List ProcedureEntry) {number row : ℕ} → over_procedures fault t s ps ≡ Refused number row → ListFirst s ps number row
  unfolding over_procedures
  list_first s [] e = absurd (refused-accepted (sym e))
  list_first s (p ∷ ps) {number} {row} e = go (code-first s p) (λ a. list_first (s + 1) ps (rw a at e))
    where
      above : {q m : ℕ} → code_verdict (fault s p) p.code (row_count (code_of t p)) ≡ Accepted m → ((r : ℕ) → r < q → Fine fault t (s + 1 + r) (get_or ps r no_procedure)) → (r : ℕ) → r < suc q → Fine fault t (s + r) (get_or (p ∷ ps) r no_procedure)
      above a h zero l = rw add-zero (verdict_fine (fault s p) p.code _ a)
      above a h (suc r) l = let z : s + 1 + r ≡ s + suc r = omega arith in rw z at (h r (omega arith))

      go : (code_verdict (fault s p) p.code (row_count (code_of t p)) ≡ Accepted (0 + row_count (code_of t p))) ⊎ Told s p
          → (code_verdict (fault s p) p.code (row_count (code_of t p)) ≡ Accepted (0 + row_count (code_of t p)) → ListFirst (s + 1) ps number row) → ListFirst s (p ∷ ps) number row
      go (inl a) later =
          let rest = later a in
          let inside = rest.2 in
          let z : s + 1 + rest.0 ≡ s + suc rest.0 = omega arith in
          (suc rest.0, rest.1, omega (arith, inside), rw z at rest.3, above a rest.4)
      go (inr (i, a, f)) later =
          let same : Refused (fault s p i) (p.code + i) ≡ Refused number row = rw a at e in
          let here : FirstOf fault t s p i number row = record { inside = f.inside; row_is = sym (refused-row same); number_is = refused-number same; faulty = f.faulty; before = f.before } in
          (0, i, omega arith, rw add-zero here, λ r l. absurd (omega arith))

  -- of the procedures of an index
  pub record First (ix : Index) (number row : ℕ) : Type 0 where
    pub procedure : ℕ
    pub instruction : ℕ
    pub there : procedure < ix.procedures
    pub entered : procedure < length ix.procedure_entries
    pub here : FirstOf fault t procedure (procedure_in ix procedure) instruction number row
    pub above : (q : ℕ) → q < procedure → Fine fault t q (procedure_in ix q)

  -- a pass that refuses does so at the first faulty instruction
  pub pass_first : (ix : Index) {number row : ℕ} → code_pass fault ix t ≡ Refused number row → First ix number row
  unfolding code_pass procedure_in
  pass_first ix e =
      let f = list_first 0 (procedures_of ix) e in
      let few = length-take ix.procedures ix.procedure_entries in
      let inside = f.2 in
      let b : (f.0 < ix.procedures) × (f.0 < length ix.procedure_entries) = omega (arith, few, inside) in
      record {
        procedure = f.0;
        instruction = f.1;
        there = b.0;
        entered = b.1;
        here = rw (zero-add, get_or-take ix.procedures ix.procedure_entries f.0 no_procedure b.0) at f.3;
        above = λ q l. let lo : q < ix.procedures = omega (arith, b, l) in rw (zero-add, get_or-take ix.procedures ix.procedure_entries q no_procedure lo) at (f.4 q l);
      }
