-- Judging under a rule file: it is asked only of a table that is accepted without it, and answers with numbers of its own.
use Prim.Native.Nat.{ℕ, ◌≤◌}
use mathlib.Core.Path.{◌≡◌, refl, sym, ap, ◌∙◌}
use mathlib.Core.Bool.{Bool, true, false, cond}
use mathlib.Core.List.{List, [], ◌∷◌}
use native.Mathlib.Omega.{arith}
use borrow.Author.Tests.{ne_eqb}
use lib.Dec.{eqb}
use Rattle.laws.specs.Lists.{member}
use Rattle.laws.proofs.Lists.{disjoint}
use Rattle.table.specs.Verdicts.{Verdict, Accepted, Refused, and_then, value_of, pass_over}
use Rattle.table.specs.declared.index.Index.{Index}
use Rattle.table.specs.Refusals.{bad_rules, length_refusals, row_refusals, rule_refusals}
use Rattle.table.specs.Rows.{row_count}
use Rattle.table.specs.Index.{index_of}
use Rattle.rows.specs.Rows.{length_of, rows_of}
use Rattle.declarations.specs.Program.{code_pass}
use Rattle.declarations.proofs.Passes.{both_accept}
use Rattle.names.specs.Names.{names_of}
use Rattle.operands.specs.Operands.{operands_of}
use Rattle.locals.specs.Locals.{locals_of}
use Rattle.leaks.specs.Leaks.{leaks_of}
use Rattle.policy.specs.Policy.{file_of, rule_fault, pairs_of, call_fault, rules_with, rules_of}
use Rattle.policy.proofs.Words.{wrong_length, length-good, file_refuses, pairs-number, calls-number}
use Rattle.std.specs.Prelude.{Some, None}
use Rattle.judging.specs.Files.{judge_by, file_if}
use Rattle.judging.specs.Judging.{judge_of, judge_under, in_order, passes}
use Rattle.judging.proofs.Accepts.{accepted, accepting, code-rows}
use Rattle.judging.proofs.Numbers.{length-number, rows-number, later_refusals, after-rows, other}
use Rattle.judging.proofs.Values.{then_value, pass_value, rows_value, value_small}

-- what is accepted is accepted with its number of rows: without a file, and under one
pub judge_rows : (t : List ℕ) (n : ℕ) → judge_of t ≡ Accepted n → n ≡ row_count t
judge_rows t n e = ap value_of (sym e ∙ accepting t (accepted t n e))

pub rules_rows : (r t : List ℕ) (ix : Index) (n : ℕ) → rules_with r ix t ≡ Accepted n → n ≡ row_count t
unfolding rules_with
rules_rows r t ix n e =
    let calls = code_pass (λ (q : ℕ). call_fault r t ix) ix t in
    let c : calls ≡ Accepted n = (both_accept (pairs_of r ix.modules) calls n (both_accept (file_of r) (and_then (pairs_of r ix.modules) calls) n e).1).1 in
    ap value_of (sym c ∙ code-rows (λ (q : ℕ). call_fault r t ix) ix t n c)

module _ (has : ℕ) (r t : List ℕ) where
  -- a table that is refused without a file is refused so under any
  pub under-refused : {number row : ℕ} → judge_of t ≡ Refused number row → judge_under has r t ≡ Refused number row
  unfolding judge_under
  under-refused e = rw e

  -- one that is accepted under a file is accepted without it
  pub under_accepts : (n : ℕ) → judge_under has r t ≡ Accepted n → judge_of t ≡ Accepted n
  unfolding judge_under rules_of
  under_accepts n e =
      let b = both_accept (judge_of t) (rules_of has r t) n e in
      accepting t (accepted t _ b.0) ∙ ap Accepted (sym (go (eqb has 0) b.1))
    where
      go : (b : Bool) → cond b (Accepted (row_count t)) (rules_with r (index_of t) t) ≡ Accepted n → n ≡ row_count t
      go true e = ap value_of (sym e)
      go false e = rules_rows r t (index_of t) n e

  -- where it is accepted, and there is a file, the file decides
  pub under_rules : {n : ℕ} → judge_of t ≡ Accepted n → (has ≡ 0 → ⊥) → judge_under has r t ≡ rules_with r (index_of t) t
  unfolding judge_under rules_of
  under_rules e h = rw (e, ne_eqb has 0 h)

-- without a file a table is judged as before
pub without : (r t : List ℕ) → judge_under 0 r t ≡ judge_of t
unfolding judge_under rules_of
without r t = go (judge_of t) refl
  where
    go : (v : Verdict) → judge_of t ≡ v → and_then v (Accepted (row_count t)) ≡ v
    go (Accepted n) e = ap Accepted (sym (judge_rows t n e))
    go (Refused number row) e = refl

-- a file refuses with 20, 21 or 22
pub rule-numbers : (r t : List ℕ) (ix : Index) {number value : ℕ} → rules_with r ix t ≡ Refused number value → member number rule_refusals ≡ true
unfolding rules_with member
rule-numbers r t ix {number} {value} e = go (file_of r) refl (pairs_of r ix.modules) refl e
  where
    go : (v : Verdict) → file_of r ≡ v → (w : Verdict) → pairs_of r ix.modules ≡ w → and_then v (and_then w (code_pass (λ (q : ℕ). call_fault r t ix) ix t)) ≡ Refused number value → member number rule_refusals ≡ true
    go (Refused a b) p w q e = rw (file_refuses r (p ∙ e)).number_is
    go (Accepted n) p (Refused a b) q e = rw (pairs-number r ix.modules (q ∙ e))
    go (Accepted n) p (Accepted m) q e = rw (calls-number r t ix e)

-- and nothing else does
pub judge_number : (t : List ℕ) {number row : ℕ} → judge_of t ≡ Refused number row → member number rule_refusals ≡ true → ⊥
unfolding judge_of passes in_order disjoint member
judge_number t {number} {row} e h = go (length_of t) refl (rows_of t) refl e
  where
    go : (v : Verdict) → length_of t ≡ v → (w : Verdict) → rows_of t ≡ w → and_then v (and_then w (in_order (names_of ∷ operands_of ∷ locals_of ∷ leaks_of ∷ []) t)) ≡ Refused number row → ⊥
    go (Refused a b) p w q e = other number length_refusals rule_refusals refl (length-number t (p ∙ e)) h
    go (Accepted n) p (Refused a b) q e = other number row_refusals rule_refusals refl (rows-number t (q ∙ e)) h
    go (Accepted n) p (Accepted m) q e = other number later_refusals rule_refusals refl (after-rows t e) h

-- the value of a verdict under any file
file_value : (r : List ℕ) → value_of (file_of r) ≤ 2048
unfolding file_of
file_value r = go (wrong_length r) refl
  where
    go : (b : Bool) → wrong_length r ≡ b → value_of (cond b (Refused bad_rules 0) (pass_over (rule_fault r) (row_count r))) ≤ 2048
    go true q = omega arith
    go false q = rows_value (rule_fault r) (row_count r) (omega (arith, (length-good r).0 q))

pub under_small : (has : ℕ) (r t : List ℕ) → value_of (judge_under has r t) ≤ 2048
unfolding judge_under rules_of rules_with pairs_of
under_small has r t = go (judge_of t) refl (value_small t)
  where
    rules : row_count t ≤ 2048 → (b : Bool) → value_of (cond b (Accepted (row_count t)) (rules_with r (index_of t) t)) ≤ 2048
    rules h true = h
    rules h false =
        then_value (file_of r) _ (file_value r) (then_value (pairs_of r (index_of t).modules) _ (rows_value _ 256 (omega arith)) (pass_value (λ (q : ℕ). call_fault r t (index_of t)) t h))

    go : (v : Verdict) → judge_of t ≡ v → value_of v ≤ 2048 → value_of (and_then v (rules_of has r t)) ≤ 2048
    go (Refused number row) e h = h
    go (Accepted n) e h = rules (omega (arith, judge_rows t n e)) (eqb has 0)

-- the file of a call from C
pub by_file : (has : ℕ) (r t : List ℕ) → judge_by (file_if has r) t ≡ judge_under has r t
unfolding judge_under rules_of
by_file has r t = go (eqb has 0)
  where
    go : (b : Bool) → judge_by (cond b None (Some r)) t ≡ and_then (judge_of t) (cond b (Accepted (row_count t)) (rules_with r (index_of t) t))
    go true = refl
    go false = refl
