-- The tests of the rule file hold exactly where paper 7's words do, for any bytes; so its passes accept what the words allow, and refuse the lowest that they do not.
use Prim.Native.Nat.{ℕ, zero, suc, ◌+◌, ◌-◌, ◌*◌, ◌/◌, ◌%◌, ◌<◌, ◌≤◌}
use mathlib.Core.Path.{◌≡◌, refl, sym, ap, ◌∙◌}
use mathlib.Core.Bool.{Bool, true, false, cond, not, ◌&&◌, ◌||◌, true≢false, false≢true}
use mathlib.Core.List.{List, [], ◌∷◌}
use mathlib.Core.Logic.{◌↔◌, ◌⊎◌, inl, inr}
use native.Mathlib.Decide.{dec_lt}
use native.Mathlib.Omega.{arith}
use borrow.Author.Tests.{ltb-true, ltb-false, leb-true, leb-false, eqb-true, eqb-false, not-false, lt-ltb, le-ltb, le-leb, lt-leb, eq-eqb, ne_eqb}
use lib.Dec.{eqb, ltb, leb}
use lib.ListN.{length}
use Rattle.laws.specs.Lists.{member, every}
use Rattle.laws.proofs.First.{unfaulted, faulted}
use Rattle.laws.proofs.Lists.{every-at, hits-only, only-hits}
use Rattle.laws.proofs.Tests.{and_both, neither, not_test}
use Rattle.table.specs.Verdicts.{Accepted, Refused, pass_over}
use Rattle.table.specs.declared.index.Index.{Index}
use Rattle.table.specs.declared.index.ProcedureEntry.{ProcedureEntry}
use Rattle.table.specs.Format.{row_bytes, op_call}
use Rattle.table.specs.Refusals.{bad_rules, unruled_pair, forbidden_call}
use Rattle.table.specs.Rows.{row_count, row_at}
use Rattle.declarations.specs.Program.{procedure_in, code_of, code_pass}
use Rattle.declarations.proofs.Passes.{refused-number, refused-row, let_through, pass_first, over_fine, FirstRow, over_first}
use Rattle.policy.specs.Policy.{max_rules, rule_byte, first_caller, last_caller, first_called, last_called, zero_bytes, not_zero, bad_range, bad_rule, rule_fault, file_of, covers, rules_for, pair_fault, pairs_of, allowed_by, permits, call_fault}
use Rattle.policy.specs.Allowed.{GoodLength, byte, GoodRule, Under, UnderOne, MayCall}

-- The length.
abbrev pub wrong_length : List ℕ → Bool
wrong_length r = eqb (length r) 0 || not (eqb (length r % row_bytes) 0) || ltb (row_bytes * max_rules) (length r)

pub length-good : (r : List ℕ) → (wrong_length r ≡ false) ↔ GoodLength r
length-good r = (to, from)
  where
    to : wrong_length r ≡ false → GoodLength r
    to e =
        let p = neither _ _ e in
        let q = neither _ _ p.0 in
        let some : length r ≡ 0 → ⊥ = eqb-false (length r) 0 q.0 in
        let whole : length r % 16 ≡ 0 = eqb-true (length r % 16) 0 (not-false _ q.1) in
        let most : length r ≤ 4096 = ltb-false 4096 (length r) p.1 in
        (length r / 16, omega arith, omega arith, omega arith)

    from : GoodLength r → wrong_length r ≡ false
    from (n, lo, hi, e) = rw (e, ne_eqb (16 * n) 0 (λ z. omega arith), eq-eqb (16 * n % 16) 0 (omega arith), le-ltb 4096 (16 * n) (omega arith))

-- A row: its choice, a range, and the bytes that are zero, which are 2, 3 and 8 to 15
choice-is : (a : ℕ) → (ltb 1 a ≡ false) ↔ ((a ≡ 0) ⊎ (a ≡ 1))
choice-is a = (λ e. to a (ltb-false 1 a e), from)
  where
    to : (a : ℕ) → a ≤ 1 → (a ≡ 0) ⊎ (a ≡ 1)
    to zero h = inl refl
    to (suc zero) h = inr refl
    to (suc (suc a)) h = absurd (omega arith)

    from : (a ≡ 0) ⊎ (a ≡ 1) → ltb 1 a ≡ false
    from (inl e) = rw e
    from (inr e) = rw e

range_is : (first last : ℕ) → (bad_range first last ≡ false) ↔ ((first ≤ last) × (last ≤ 15))
range_is first last = (to, λ (h, l). rw (le-ltb last first h, lt-leb 16 last (omega arith)))
  where
    to : bad_range first last ≡ false → (first ≤ last) × (last ≤ 15)
    to e = let p = neither (ltb last first) (leb 16 last) e in (ltb-false last first p.0, omega (arith, leb-false 16 last p.1))

zeros_are : (r : List ℕ) (i : ℕ) (ks : List ℕ) → not_zero r i ks ≡ false → (k : ℕ) → member k ks ≡ true → byte r i k ≡ 0
unfolding not_zero rule_byte member
zeros_are r i [] e k h = absurd (false≢true h)
zeros_are r i (j ∷ ks) e k h = go (eqb k j) refl h (neither (not (eqb (byte r i j) 0)) (not_zero r i ks) e) (λ e h. zeros_are r i ks e k h)
  where
    go : (b : Bool) → eqb k j ≡ b → (b || member k ks) ≡ true → (not (eqb (byte r i j) 0) ≡ false) × (not_zero r i ks ≡ false) → (not_zero r i ks ≡ false → member k ks ≡ true → byte r i k ≡ 0) → byte r i k ≡ 0
    go true q h z rest = rw (eqb-true k j q) (eqb-true _ _ (not-false _ z.0))
    go false q h z rest = rest z.1 h

among_zeros : (k : ℕ) → ((2 ≤ k) × (k ≤ 3)) ⊎ ((8 ≤ k) × (k ≤ 15)) → member k zero_bytes ≡ true
unfolding every member
among_zeros k (inl h) = let e : 2 + (k - 2) ≡ k = omega arith in rw e at (every-at (λ (j : ℕ). member (2 + j) zero_bytes) 2 (k - 2) refl (omega arith))
among_zeros k (inr h) = let e : 8 + (k - 8) ≡ k = omega arith in rw e at (every-at (λ (j : ℕ). member (8 + j) zero_bytes) 8 (k - 8) refl (omega arith))

pub rule-good : (r : List ℕ) (i : ℕ) → bad_rule r i ≡ false → GoodRule r i
unfolding bad_rule rule_byte
rule-good r i e =
    let zeros = neither _ _ e in
    let called = neither _ _ zeros.0 in
    let callers = neither _ _ called.0 in
    let choice = neither _ _ callers.0 in
    record {
      kind = eqb-true _ _ (not-false _ choice.0);
      choice = (choice-is (byte r i 1)).0 choice.1;
      callers = (range_is (byte r i 4) (byte r i 5)).0 callers.1;
      called = (range_is (byte r i 6) (byte r i 7)).0 called.1;
      zeros = λ k h. zeros_are r i zero_bytes zeros.1 k (among_zeros k h);
    }

pub good-rule : (r : List ℕ) (i : ℕ) → GoodRule r i → bad_rule r i ≡ false
unfolding bad_rule rule_byte not_zero
good-rule r i g = rw (g.kind, (choice-is (byte r i 1)).1 g.choice, (range_is (byte r i 4) (byte r i 5)).1 g.callers, (range_is (byte r i 6) (byte r i 7)).1 g.called) zeros
  where
    low : (k : ℕ) → (2 ≤ k) × (k ≤ 3) → byte r i k ≡ 0
    low k h = g.zeros k (inl h)

    high : (k : ℕ) → (8 ≤ k) × (k ≤ 15) → byte r i k ≡ 0
    high k h = g.zeros k (inr h)

    zeros : not_zero r i zero_bytes ≡ false
    zeros = rw (low 2 (omega arith), low 3 (omega arith), high 8 (omega arith), high 9 (omega arith), high 10 (omega arith), high 11 (omega arith), high 12 (omega arith), high 13 (omega arith), high 14 (omega arith), high 15 (omega arith))

-- so it is refused exactly if it is not good
pub rule_wrong : (r : List ℕ) (i : ℕ) → (bad_rule r i ≡ true) ↔ (¬ (GoodRule r i))
rule_wrong r i = not_test (bad_rule r i) (rule-good r i, good-rule r i)

-- A pair: the rows that it stands under, that it is one, and that it allows
module _ (r : List ℕ) (c d : ℕ) where
  pub covers-told : (i : ℕ) → (covers r c d i ≡ true) ↔ ((first_caller r i ≤ c) × (c ≤ last_caller r i) × (first_called r i ≤ d) × (d ≤ last_called r i))
  unfolding covers
  covers-told i = (to, λ (a, b, e, f). rw (le-leb _ _ a, le-leb _ _ b, le-leb _ _ e, le-leb _ _ f))
    where
      to : covers r c d i ≡ true → (first_caller r i ≤ c) × (c ≤ last_caller r i) × (first_called r i ≤ d) × (d ≤ last_called r i)
      to e =
          let p = and_both _ _ e in
          let q = and_both _ _ p.0 in
          let s = and_both _ _ q.0 in
          (leb-true _ _ s.0, leb-true _ _ s.1, leb-true _ _ q.1, leb-true _ _ p.1)

  covers-under : (i : ℕ) → ((i < row_count r) × (covers r c d i ≡ true)) ↔ Under r c d i
  unfolding rule_byte
  covers-under i = (λ (h, e). let w = (covers-told i).0 e in (h, w.0, w.1, w.2, w.3), λ (h, a, b, e, f). (h, (covers-told i).1 (a, b, e, f)))

  alone : (i : ℕ) → (rules_for r c d ≡ i ∷ []) ↔ (Under r c d i × ((j : ℕ) → Under r c d j → j ≡ i))
  unfolding rules_for
  alone i = (to, from)
    where
      to : rules_for r c d ≡ i ∷ [] → Under r c d i × ((j : ℕ) → Under r c d j → j ≡ i)
      to e =
          let o = hits-only (covers r c d) (row_count r) i e in
          ((covers-under i).0 (o.0, o.1), λ j u. let w = (covers-under j).1 u in o.2 j w.0 w.1)

      from : Under r c d i × ((j : ℕ) → Under r c d j → j ≡ i) → rules_for r c d ≡ i ∷ []
      from (u, f) = let w = (covers-under i).1 u in only-hits (covers r c d) (row_count r) i (w.0, w.1, λ j h q. f j ((covers-under j).0 (h, q)))

  pub one-rule : (length (rules_for r c d) ≡ 1) ↔ UnderOne r c d
  one-rule = (go (rules_for r c d) refl, λ (i, u, f). ap length ((alone i).1 (u, f)))
    where
      go : (is : List ℕ) → rules_for r c d ≡ is → length is ≡ 1 → UnderOne r c d
      go [] q e = absurd (omega arith)
      go (i ∷ []) q e = let w = (alone i).0 q in (i, w.0, w.1)
      go (i ∷ j ∷ is) q e = absurd (omega arith)

  pub permits_may : (permits r c d ≡ true) ↔ MayCall r c d
  unfolding permits rule_byte
  permits_may = (go (rules_for r c d) refl, λ (i, u, f, e). rw ((alone i).1 (u, f)) (eq-eqb (byte r i 1) 1 e))
    where
      go : (is : List ℕ) → rules_for r c d ≡ is → allowed_by r is ≡ true → MayCall r c d
      go [] q e = absurd (false≢true e)
      go (i ∷ []) q e = let w = (alone i).0 q in (i, w.0, w.1, eqb-true (byte r i 1) 1 e)
      go (i ∷ j ∷ is) q e = absurd (false≢true e)

-- A pass over rows with one number: of none that it accepts the test holds, and what it refuses is the lowest of which it holds
module _ (k : ℕ) (test : ℕ → Bool) (n : ℕ) where
  abbrev fault : ℕ → ℕ
  fault i = cond (test i) (suc k) 0

  over_accepts : (m : ℕ) → pass_over fault n ≡ Accepted m → (i : ℕ) → i < n → test i ≡ false
  over_accepts m e i h = (unfaulted (test i) k 0 (over_fine fault n e i h)).0

  abbrev Stopped : ℕ → ℕ → Type 0
  Stopped number value = (number ≡ suc k) × (value < n) × (test value ≡ true) × ((i : ℕ) → i < n → test i ≡ true → value ≤ i)

  over_refuses : {number value : ℕ} → pass_over fault n ≡ Refused number value → Stopped number value
  over_refuses {number} {value} e =
      let s = over_first fault n e in
      let f = faulted (test value) (suc k) s.faulty in
      (sym s.number_is ∙ f.1, s.inside, f.0, λ i h q. lowest s i q (dec_lt i value))
    where
      lowest : FirstRow fault n number value → (i : ℕ) → test i ≡ true → Dec (i < value) → value ≤ i
      lowest s i q (yes l) = absurd (true≢false (sym q ∙ (unfaulted (test i) k 0 (s.before i l)).0))
      lowest s i q (no l) = omega arith

-- The file: what its pass accepts, and what it refuses, with 20
module _ (r : List ℕ) where
  pub file_told : (m : ℕ) → file_of r ≡ Accepted m → (wrong_length r ≡ false) × (pass_over (rule_fault r) (row_count r) ≡ Accepted m)
  unfolding file_of
  file_told m e = let_through (wrong_length r) bad_rules 0 (pass_over (rule_fault r) (row_count r)) m e

  pub file_accepts : (m : ℕ) → file_of r ≡ Accepted m → GoodLength r × ((i : ℕ) → i < row_count r → GoodRule r i)
  unfolding rule_fault
  file_accepts m e = let p = file_told m e in ((length-good r).0 p.0, λ i h. rule-good r i (over_accepts _ (bad_rule r) (row_count r) m p.1 i h))

  abbrev pub WrongRow : ℕ → Type 0
  WrongRow i = (i < row_count r) × (¬ (GoodRule r i))

  -- its length, with 0, else its lowest wrong row
  pub record WrongFile (number value : ℕ) : Type 0 where
    pub number_is : number ≡ bad_rules
    pub cause : ((¬ (GoodLength r)) × (value ≡ 0)) ⊎ WrongRow value
    pub length-first : ¬ (GoodLength r) → value ≡ 0
    pub lowest : (i : ℕ) → WrongRow i → value ≤ i

  pub file_refuses : {number value : ℕ} → file_of r ≡ Refused number value → WrongFile number value
  unfolding file_of rule_fault
  file_refuses {number} {value} e = go (wrong_length r) refl e
    where
      go : (b : Bool) → wrong_length r ≡ b → cond b (Refused bad_rules 0) (pass_over (rule_fault r) (row_count r)) ≡ Refused number value → WrongFile number value
      go true q e =
          let z : value ≡ 0 = sym (refused-row e) in
          record { number_is = sym (refused-number e); cause = inl ((not_test (wrong_length r) (length-good r)).0 q, z); length-first = λ n. z; lowest = λ i w. omega arith }
      go false q e =
          let s = over_refuses _ (bad_rule r) (row_count r) e in
          record {
            number_is = s.0;
            cause = inr (s.1, (rule_wrong r value).0 s.2);
            length-first = λ n. absurd (n ((length-good r).0 q));
            lowest = λ i (h, w). s.3 i h ((rule_wrong r i).1 w);
          }

-- The pairs of so many modules: what their pass refuses, with 21, and what it accepts
module _ (r : List ℕ) (modules : ℕ) where
  abbrev unruled : ℕ → ℕ → Bool
  unruled c d = ltb c modules && ltb d modules && not (eqb (length (rules_for r c d)) 1)

  abbrev pub WrongPair : ℕ → ℕ → Type 0
  WrongPair c d = (c < modules) × (d < modules) × (¬ (UnderOne r c d))

  ruled : (c d : ℕ) → (not (eqb (length (rules_for r c d)) 1) ≡ false) ↔ UnderOne r c d
  ruled c d = (λ e. (one-rule r c d).0 (eqb-true _ _ (not-false _ e)), λ u. rw ((one-rule r c d).1 u))

  unruled_wrong : (c d : ℕ) → (unruled c d ≡ true) ↔ WrongPair c d
  unruled_wrong c d = (to, λ (h, l, n). rw (lt-ltb c modules h, lt-ltb d modules l) ((not_test _ (ruled c d)).1 n))
    where
      to : unruled c d ≡ true → WrongPair c d
      to e =
          let p = and_both _ _ e in
          let q = and_both _ _ p.0 in
          (ltb-true c modules q.0, ltb-true d modules q.1, (not_test _ (ruled c d)).0 p.1)

  pairs_stop : {number value : ℕ} → pairs_of r modules ≡ Refused number value
      → (number ≡ unruled_pair) × (value < 256) × (unruled (value / 16) (value % 16) ≡ true) × ((k : ℕ) → k < 256 → unruled (k / 16) (k % 16) ≡ true → value ≤ k)
  unfolding pairs_of pair_fault
  pairs_stop e = over_refuses _ (λ (k : ℕ). unruled (k / 16) (k % 16)) 256 e

  pub pairs-number : {number value : ℕ} → pairs_of r modules ≡ Refused number value → number ≡ unruled_pair
  pairs-number e = (pairs_stop e).0

  -- where there are at most 16, pair 16 times caller plus called is that of these two
  module _ (few : modules ≤ 16) where
    at_pair : (c d : ℕ) → d < modules → unruled ((16 * c + d) / 16) ((16 * c + d) % 16) ≡ unruled c d
    at_pair c d h =
        let e : (16 * c + d) / 16 ≡ c = omega arith in
        let f : (16 * c + d) % 16 ≡ d = omega arith in
        rw (e, f)

    pub pairs_refuse : {number value : ℕ} → pairs_of r modules ≡ Refused number value
        → (c : ℕ) × (d : ℕ) × (value ≡ 16 * c + d) × WrongPair c d × ((c d : ℕ) → WrongPair c d → value ≤ 16 * c + d)
    pairs_refuse {number} {value} e =
        let s = pairs_stop e in
        (value / 16, value % 16, omega arith, (unruled_wrong (value / 16) (value % 16)).0 s.2, λ c d w. s.3 (16 * c + d) (omega arith) (at_pair c d w.1 ∙ (unruled_wrong c d).1 w))

    pub pairs_accept : (m : ℕ) → pairs_of r modules ≡ Accepted m → (c d : ℕ) → c < modules → d < modules → UnderOne r c d
    unfolding pairs_of pair_fault
    pairs_accept m e c d h l =
        let u : unruled c d ≡ false = sym (at_pair c d l) ∙ over_accepts _ (λ (k : ℕ). unruled (k / 16) (k % 16)) 256 m e (16 * c + d) (omega arith) in
        (ruled c d).0 (rw (lt-ltb c modules h, lt-ltb d modules l) at u)

-- The Calls: instruction i of procedure p is one that is not permitted, and that is refused, with 22
abbrev pub forbids : List ℕ → List ℕ → Index → ProcedureEntry → ℕ → Bool
forbids r t ix p i = eqb (row_at (code_of t p) i).a op_call && not (permits r p.owner (procedure_in ix (row_at (code_of t p) i).b).owner)

module _ (r t : List ℕ) (ix : Index) where
  pub call_unfaulted : (p : ProcedureEntry) (i : ℕ) → call_fault r t ix p i ≡ 0 → forbids r t ix p i ≡ false
  unfolding call_fault
  call_unfaulted p i e = (unfaulted (forbids r t ix p i) _ 0 e).0

  pub call_faulted : (p : ProcedureEntry) (i : ℕ) → (call_fault r t ix p i ≡ 0 → ⊥) → (forbids r t ix p i ≡ true) × (call_fault r t ix p i ≡ forbidden_call)
  unfolding call_fault
  call_faulted p i e = faulted (forbids r t ix p i) forbidden_call e

  pub calls-number : {number value : ℕ} → code_pass (λ (q : ℕ). call_fault r t ix) ix t ≡ Refused number value → number ≡ forbidden_call
  calls-number e =
      let f = pass_first (λ (q : ℕ). call_fault r t ix) t ix e in
      sym f.here.number_is ∙ (call_faulted (procedure_in ix f.procedure) f.instruction f.here.faulty).1
