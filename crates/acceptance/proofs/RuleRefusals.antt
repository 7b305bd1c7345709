-- A table that is accepted without a rule file is accepted under it exactly if paper 7's words allow it, and else refused with the lowest number for which they
-- show a cause, with its lowest value.
use Prim.Native.Nat.{ℕ, ◌+◌, ◌-◌, ◌*◌, ◌<◌, ◌≤◌}
use mathlib.Core.Path.{◌≡◌, refl, sym, ap, ap₂, ◌∙◌}
use mathlib.Core.Bool.{Bool, true, false, not, true≢false}
use mathlib.Core.List.{List}
use mathlib.Core.Logic.{◌↔◌, ◌⊎◌, inl, inr, ⊎_elim}
use native.Mathlib.Decide.{dec_lt, ℕ_discrete}
use native.Mathlib.Omega.{arith}
use borrow.Author.Tests.{eqb-true, eq-eqb, not-true}
use lib.Dec.{eqb}
use Rattle.laws.specs.Lists.{member, count, every}
use Rattle.laws.proofs.Tests.{and_both, test_not}
use Rattle.table.specs.Verdicts.{Verdict, Accepted, Refused, and_then}
use Rattle.table.specs.Format.{module_kind, procedure_kind, op_call}
use Rattle.table.specs.Refusals.{bad_rules, unruled_pair, forbidden_call, rule_refusals}
use Rattle.table.specs.Rows.{row_count, row_at, is_kind}
use Rattle.table.specs.Index.{index_of, owner_at}
use Rattle.rows.specs.declared.Above.{Above}
use Rattle.rows.specs.Rows.{above_at, below_row, limits, count_of, owned}
use Rattle.declarations.specs.Program.{code_of, code_pass}
use Rattle.declarations.proofs.Passes.{refused-accepted, refused-number, both_accept}
use Rattle.sizes.specs.code.Formed.{Formed}
use Rattle.sizes.proofs.Sizes.{rows_fine}
use Rattle.sizes.proofs.Counts.{number-few}
use Rattle.sizes.proofs.Rows.{own}
use Rattle.sizes.proofs.Inside.{whole, module_is, code_below, code_at, code-kind, owner_is, called, code-there}
use Rattle.policy.specs.Policy.{file_of, pairs_of, permits, call_fault, rules_with}
use Rattle.policy.specs.Allowed.{GoodLength, GoodRule, UnderOne, MayCall, module_count, IsCall, called_at, Allowed, Disallowed, Foremost}
use Rattle.policy.specs.Allowed.Disallowed.{wrong-length, wrong_row, wrong-pair, wrong-call}
use Rattle.policy.proofs.Words.{permits_may, WrongRow, WrongFile, WrongPair, file_accepts, file_refuses, pairs-number, pairs_refuse, pairs_accept, forbids, call_unfaulted, call_faulted, calls-number}
use Rattle.judging.specs.Judging.{judge_of, judge_under}
use Rattle.judging.proofs.Accepts.{accepted, accepting, up_to-operands}
use Rattle.judging.proofs.Under.{judge_rows, rules_rows, under-refused, under_accepts, under_rules, without, judge_number}
use Rattle.acceptance.specs.Refusals.{Earns, Lowest}
use Rattle.acceptance.proofs.Helpers.{formed}
use Rattle.acceptance.proofs.Lowest.{lowest-one, Tells, pass_lowest, pass_none}

-- what allows has no cause against it
pub allowed_causeless : (r t : List ℕ) → Allowed r t → (number value : ℕ) → Disallowed r t number value → ⊥
allowed_causeless r t a number value (wrong-length n) = n a.rows
allowed_causeless r t a number value (wrong_row i h n) = n (a.each i h)
allowed_causeless r t a number value (wrong-pair c d h l n) = n (a.pairs c d h l)
allowed_causeless r t a number value (wrong-call i h n) = n (a.calls i h)

-- there is one first cause: the lowest, if numbers are put where rows are
pub foremost_one : (E : ℕ → ℕ → Type 0) {number value number' value' : ℕ} → Foremost E number value → Foremost E number' value' → (number ≡ number') × (value ≡ value')
foremost_one E a b = let s = lowest-one (λ (value number : ℕ). E number value) (turned a) (turned b) in (s.1, s.0)
  where
    turned : {number value : ℕ} → Foremost E number value → Lowest (λ (value number : ℕ). E number value) value number
    turned c = record { earned = c.cause; first = λ value' number'. c.lowest number' value' }

-- a Call that the file does not allow
abbrev Forbidden : List ℕ → List ℕ → ℕ → Type 0
Forbidden r t row = IsCall t row × (¬ (MayCall r (owner_at t row) (called_at t row)))

abbrev CallCause : List ℕ → List ℕ → ℕ → ℕ → ℕ → Type 0
CallCause r t q i number = (number ≡ forbidden_call) × Forbidden r t ((own t q).code + i)

-- A table that length, rows and names accept.
module _ (t : List ℕ) (f : Formed t) where
  -- the index counts all modules, of which there are at most 16
  modules_are : (index_of t).modules ≡ module_count t
  unfolding index_of
  modules_are = ap (count (is_kind t module_kind)) (whole t f)

  modules-few : (index_of t).modules ≤ 16
  unfolding index_of above_at below_row limits count_of every owned member
  modules-few = go (dec_lt 16 (index_of t).modules)
    where
      go : Dec (16 < (index_of t).modules) → (index_of t).modules ≤ 16
      go (yes l) = absurd (omega (arith, number-few t (rows_fine t (row_count t) f.by_rows) module_kind (λ (s : Above). s.modules) (λ s row. refl) refl refl (λ s. refl) 16 l))
      go (no l) = omega arith

  -- instruction i of procedure q
  module _ (q : ℕ) (there : q < (index_of t).procedures) (i : ℕ) (inside : i < row_count (code_of t (own t q))) where
    abbrev at : ℕ
    at = (own t q).code + i

    -- a Call names a procedure of the module that the words name
    called_is : (row_at (code_of t (own t q)) i).a ≡ op_call → (own t (row_at (code_of t (own t q)) i).b).owner ≡ called_at t at
    called_is e = rw (code_at t f q there i inside) (module_is t f (row_at (code_of t (own t q)) i).b (called t f q there i e))

    -- so it is forbidden exactly if the words forbid it
    permitted : (r : List ℕ) → (row_at (code_of t (own t q)) i).a ≡ op_call
        → (permits r (own t q).owner (own t (row_at (code_of t (own t q)) i).b).owner ≡ true) ↔ MayCall r (owner_at t at) (called_at t at)
    permitted r e = rw (owner_is t f q there i inside, ← called_is e) (permits_may r (own t q).owner (own t (row_at (code_of t (own t q)) i).b).owner)

    forbidden : (r : List ℕ) → (forbids r t (index_of t) (own t q) i ≡ true) ↔ Forbidden r t at
    forbidden r = (to, from)
      where
        to : forbids r t (index_of t) (own t q) i ≡ true → Forbidden r t at
        to e =
            let b = and_both (eqb (row_at (code_of t (own t q)) i).a op_call) (not (permits r (own t q).owner (own t (row_at (code_of t (own t q)) i).b).owner)) e in
            let op = eqb-true (row_at (code_of t (own t q)) i).a op_call b.0 in
            ((code_below t f q there i inside, code-kind t f q there i inside, rw (code_at t f q there i inside) op), (test_not _ (permitted r op)).0 (not-true _ b.1))

        from : Forbidden r t at → forbids r t (index_of t) (own t q) i ≡ true
        from (c, n) =
            let op : (row_at (code_of t (own t q)) i).a ≡ op_call = rw (code_at t f q there i inside) at c.2 in
            rw (eq-eqb (row_at (code_of t (own t q)) i).a op_call op, (test_not _ (permitted r op)).1 n)

  -- The file r.
  module _ (r : List ℕ) where
    abbrev calls : Verdict
    calls = code_pass (λ (q : ℕ). call_fault r t (index_of t)) (index_of t) t

    -- the faults of the pass over Calls tell the Calls that are forbidden
    tells : Tells (CallCause r) (λ (q : ℕ). call_fault r t (index_of t)) t
    tells = record {
      shown = λ q i there inside bad. let c = call_faulted r t (index_of t) (own t q) i bad in (c.1, (forbidden q there i inside r).0 c.0);
      found = λ q i number there inside (e, c). found q i there inside e ((forbidden q there i inside r).1 c);
    }
      where
        found : (q i : ℕ) {number : ℕ} → q < (index_of t).procedures → i < row_count (code_of t (own t q)) → number ≡ forbidden_call → forbids r t (index_of t) (own t q) i ≡ true
            → (call_fault r t (index_of t) (own t q) i ≡ 0 → ⊥) × (call_fault r t (index_of t) (own t q) i ≤ number)
        found q i there inside e c =
            let bad : call_fault r t (index_of t) (own t q) i ≡ 0 → ⊥ = λ z. true≢false (sym c ∙ call_unfaulted r t (index_of t) (own t q) i z) in
            (bad, omega (arith, (call_faulted r t (index_of t) (own t q) i bad).1, e))

    -- each that is forbidden is an instruction of a procedure
    earned : (row : ℕ) → Forbidden r t row → Earns (CallCause r) t forbidden_call row
    earned row c =
        let w = code-there t f row c.0.0 c.0.1 in
        let q = count (is_kind t procedure_kind) row - 1 in
        let e : (own t q).code + (row - (own t q).code) ≡ row = omega (arith, w.1) in
        (q, row - (own t q).code, w.0, w.2, sym e, (refl, rw e c))

    -- what the pass over Calls accepts, and what it refuses
    calls_accept : {n : ℕ} → calls ≡ Accepted n → (i : ℕ) → IsCall t i → MayCall r (owner_at t i) (called_at t i)
    calls_accept e i h = go (permits r (owner_at t i) (called_at t i)) refl
      where
        may : (permits r (owner_at t i) (called_at t i) ≡ true) ↔ MayCall r (owner_at t i) (called_at t i)
        may = permits_may r (owner_at t i) (called_at t i)

        go : (b : Bool) → permits r (owner_at t i) (called_at t i) ≡ b → MayCall r (owner_at t i) (called_at t i)
        go true q = may.0 q
        go false q = absurd (pass_none (CallCause r) (λ (q : ℕ). call_fault r t (index_of t)) t tells e forbidden_call i (earned i (h, (test_not _ may).0 q)))

    calls_refuse : {number value : ℕ} → calls ≡ Refused number value → Forbidden r t value × ((i : ℕ) → Forbidden r t i → value ≤ i)
    calls_refuse {number} {value} e =
        let low = pass_lowest (CallCause r) (λ (q : ℕ). call_fault r t (index_of t)) t tells e in
        (here low.earned, λ i c. ⊎_elim (λ l. omega arith) (λ l. omega (arith, l)) (low.first forbidden_call i (earned i c)))
      where
        here : Earns (CallCause r) t number value → Forbidden r t value
        here (q, i, there, inside, row_is, (e, c)) = rw row_is c

    -- a file that accepts the table allows it
    rules_allow : {n : ℕ} → rules_with r (index_of t) t ≡ Accepted n → Allowed r t
    unfolding rules_with
    rules_allow {n} e =
        let b = both_accept (file_of r) (and_then (pairs_of r (index_of t).modules) calls) n e in
        let c = both_accept (pairs_of r (index_of t).modules) calls n b.1 in
        let file = file_accepts r _ b.0 in
        let pairs = pairs_accept r (index_of t).modules modules-few _ c.0 in
        record {
          rows = file.0;
          each = file.1;
          pairs = rw modules_are at pairs;
          calls = calls_accept c.1;
        }

    -- one that refuses it tells the first cause: of 20
    by_file : {number value : ℕ} → file_of r ≡ Refused number value → Foremost (Disallowed r t) number value
    by_file {number} {value} e = let w = file_refuses r e in rw w.number_is (record { cause = here w.cause; lowest = low w })
      where
        here : ((¬ (GoodLength r)) × (value ≡ 0)) ⊎ WrongRow r value → Disallowed r t bad_rules value
        here (inl (n, z)) = rw z (wrong-length n)
        here (inr (h, n)) = wrong_row value h n

        low : WrongFile r number value → (number' value' : ℕ) → Disallowed r t number' value' → (bad_rules < number') ⊎ ((bad_rules ≡ number') × (value ≤ value'))
        low w number' value' (wrong-length n) = inr (refl, omega (arith, w.length-first n))
        low w number' value' (wrong_row i h n) = inr (refl, w.lowest i (h, n))
        low w number' value' (wrong-pair c d h l n) = inl (omega arith)
        low w number' value' (wrong-call i h n) = inl (omega arith)

    -- of 21, where the file is good
    by_pairs : {n number value : ℕ} → file_of r ≡ Accepted n → pairs_of r (index_of t).modules ≡ Refused number value → Foremost (Disallowed r t) number value
    by_pairs {n} {number} {value} file e =
        let (c, d, is, w, least) = rw modules_are at (pairs_refuse r (index_of t).modules modules-few e) in
        rw (pairs-number r (index_of t).modules e) (record { cause = rw is (wrong-pair c d w.0 w.1 w.2); lowest = low least })
      where
        good : GoodLength r × ((i : ℕ) → i < row_count r → GoodRule r i)
        good = file_accepts r n file

        low : ((c d : ℕ) → WrongPair r (module_count t) c d → value ≤ 16 * c + d) → (number' value' : ℕ) → Disallowed r t number' value' → (unruled_pair < number') ⊎ ((unruled_pair ≡ number') × (value ≤ value'))
        low least number' value' (wrong-length n) = absurd (n good.0)
        low least number' value' (wrong_row i h n) = absurd (n (good.1 i h))
        low least number' value' (wrong-pair c d h l n) = inr (refl, least c d (h, l, n))
        low least number' value' (wrong-call i h n) = inl (omega arith)

    -- of 22, where each pair stands under one row too
    by_calls : {n m number value : ℕ} → file_of r ≡ Accepted n → pairs_of r (index_of t).modules ≡ Accepted m → calls ≡ Refused number value → Foremost (Disallowed r t) number value
    by_calls {n} {m} {number} {value} file pairs e =
        let c = calls_refuse e in
        rw (calls-number r t (index_of t) e) (record { cause = wrong-call value c.0.0 c.0.1; lowest = low c.1 })
      where
        good : GoodLength r × ((i : ℕ) → i < row_count r → GoodRule r i)
        good = file_accepts r n file

        ruled : (c d : ℕ) → c < module_count t → d < module_count t → UnderOne r c d
        ruled = rw modules_are at (pairs_accept r (index_of t).modules modules-few m pairs)

        low : ((i : ℕ) → Forbidden r t i → value ≤ i) → (number' value' : ℕ) → Disallowed r t number' value' → (forbidden_call < number') ⊎ ((forbidden_call ≡ number') × (value ≤ value'))
        low least number' value' (wrong-length n) = absurd (n good.0)
        low least number' value' (wrong_row i h n) = absurd (n (good.1 i h))
        low least number' value' (wrong-pair c d h l n) = absurd (n (ruled c d h l))
        low least number' value' (wrong-call i h n) = inr (refl, least i (h, n))

    rules_foremost : {number value : ℕ} → rules_with r (index_of t) t ≡ Refused number value → Foremost (Disallowed r t) number value
    unfolding rules_with
    rules_foremost {number} {value} e = go (file_of r) refl (pairs_of r (index_of t).modules) refl e
      where
        go : (v : Verdict) → file_of r ≡ v → (w : Verdict) → pairs_of r (index_of t).modules ≡ w → and_then v (and_then w calls) ≡ Refused number value → Foremost (Disallowed r t) number value
        go (Refused a b) p w q e = by_file (p ∙ e)
        go (Accepted n) p (Refused a b) q e = by_pairs p (q ∙ e)
        go (Accepted n) p (Accepted m) q e = by_calls p q e

    -- and the converse: another answer would tell another cause, or none
    allow_rules : Allowed r t → rules_with r (index_of t) t ≡ Accepted (row_count t)
    allow_rules a = go (rules_with r (index_of t) t) refl
      where
        go : (v : Verdict) → rules_with r (index_of t) t ≡ v → v ≡ Accepted (row_count t)
        go (Accepted n) e = ap Accepted (rules_rows r t (index_of t) n e)
        go (Refused number value) e = absurd (allowed_causeless r t a number value (rules_foremost e).cause)

    foremost_rules : {number value : ℕ} → Foremost (Disallowed r t) number value → rules_with r (index_of t) t ≡ Refused number value
    foremost_rules {number} {value} c = go (rules_with r (index_of t) t) refl
      where
        go : (v : Verdict) → rules_with r (index_of t) t ≡ v → v ≡ Refused number value
        go (Accepted n) e = absurd (allowed_causeless r t (rules_allow e) number value c.cause)
        go (Refused a b) e = let s = foremost_one (Disallowed r t) (rules_foremost e) c in ap₂ Refused s.0 s.1

-- A table that is accepted without a file, where there is one.
module _ (has : ℕ) (r t : List ℕ) (n : ℕ) where
  given : judge_of t ≡ Accepted n → Formed t
  given e = formed (up_to-operands (accepted t n e))

  module _ (e : judge_of t ≡ Accepted n) (file : has ≡ 0 → ⊥) where
    -- it is accepted exactly if the file allows it
    pub rules_accepted : (judge_under has r t ≡ Accepted n) ↔ Allowed r t
    rules_accepted = rw (under_rules has r t e file) (rules_allow t (given e) r, λ a. allow_rules t (given e) r a ∙ ap Accepted (sym (judge_rows t n e)))

    -- and refused with this number and value exactly if it is the first cause
    pub rules_refused : (number value : ℕ) → (judge_under has r t ≡ Refused number value) ↔ Foremost (Disallowed r t) number value
    rules_refused number value = rw (under_rules has r t e file) (rules_foremost t (given e) r, foremost_rules t (given e) r)

  -- what is accepted under a file is allowed by it
  pub under-allowed : judge_under has r t ≡ Accepted n → (has ≡ 0 → ⊥) → Allowed r t
  under-allowed e file = (rules_accepted (under_accepts has r t n e) file).0 e

  -- any table is accepted exactly if it is accepted without a file, and allowed by the file where there is one
  pub under-accepted : (judge_under has r t ≡ Accepted n) ↔ ((judge_of t ≡ Accepted n) × ((has ≡ 0 → ⊥) → Allowed r t))
  under-accepted = (λ e. (under_accepts has r t n e, under-allowed e), λ (e, a). go e a (ℕ_discrete has 0))
    where
      go : judge_of t ≡ Accepted n → ((has ≡ 0 → ⊥) → Allowed r t) → Dec (has ≡ 0) → judge_under has r t ≡ Accepted n
      go e a (yes z) = rw z (without r t ∙ e)
      go e a (no z) = (rules_accepted e z).1 (a z)

-- and refused with 20, 21 or 22 exactly if it is accepted without a file, there is one, and this is the first cause
pub under-told : (has : ℕ) (r t : List ℕ) (number value : ℕ) → member number rule_refusals ≡ true
    → (judge_under has r t ≡ Refused number value) ↔ ((judge_of t ≡ Accepted (row_count t)) × (has ≡ 0 → ⊥) × Foremost (Disallowed r t) number value)
under-told has r t number value m = (λ e. to e (judge_of t) refl, λ (e, file, c). (rules_refused has r t (row_count t) e file number value).1 c)
  where
    to : judge_under has r t ≡ Refused number value → (v : Verdict) → judge_of t ≡ v → (judge_of t ≡ Accepted (row_count t)) × (has ≡ 0 → ⊥) × Foremost (Disallowed r t) number value
    to e (Refused a b) q = absurd (judge_number t q (rw (refused-number (sym e ∙ under-refused has r t q)) at m))
    to e (Accepted n) q =
        let file : has ≡ 0 → ⊥ = λ z. refused-accepted (sym (rw z at e) ∙ without r t ∙ q) in
        (accepting t (accepted t n q), file, (rules_refused has r t n q file number value).0 e)
