-- The value of a run's answer, a row or the length of the text, is at most 65,536.
use Prim.Native.Nat.{ℕ, ◌%◌, ◌≤◌}
use mathlib.Core.Path.{◌≡◌, refl, ap}
use mathlib.Core.Bool.{Bool, true, false, cond, not, ◌||◌}
use mathlib.Core.List.{List}
use native.Mathlib.Omega.{arith}
use lib.Dec.{eqb, ltb}
use lib.ListN.{length}
use borrow.Author.Tests.{ltb-false}
use Rattle.table.specs.Verdicts.{Verdict, Accepted, Refused, and_then, pass_over, value_of}
use Rattle.table.specs.declared.index.Index.{Index}
use Rattle.table.specs.Format.{row_bytes}
use Rattle.table.specs.Rows.{row_count}
use Rattle.table.specs.Index.{index_of}
use Rattle.judging.specs.Judging.{judge_under}
use Rattle.judging.proofs.Values.{first_value}
use Rattle.judging.proofs.Under.{under_accepts, under_small}
use Rattle.acceptance.specs.Judged.{Bytes}
use Rattle.semantics.specs.Calls.{max_list_bytes, list_fault, list_of}
use Rattle.semantics.specs.Text.{text_of}
use Rattle.semantics.specs.Run.{min_text, buffer_of, history_of, answer_with, run_of}
use Rattle.semantics.proofs.Lengths.{text_fits}

-- a list that is not too long has at most 256 rows
list_value : (t : List ℕ) (ix : Index) (l : List ℕ) → value_of (list_of t ix l) ≤ 256
unfolding list_of
list_value t ix l = go (ltb max_list_bytes (length l)) refl (eqb (length l % row_bytes) 0)
  where
    go : (b : Bool) → ltb max_list_bytes (length l) ≡ b → (c : Bool) → value_of (cond (b || not c) (Refused 15 0) (pass_over (list_fault t ix l) (row_count l))) ≤ 256
    go true e c = omega arith
    go false e false = omega arith
    go false e true = omega (arith, first_value Refused 0 (λ k j. omega arith) (list_fault t ix l) 0 (row_count l), ltb-false max_list_bytes (length l) e)

pub run_small : (has : ℕ) (r t l buffer : List ℕ) → Bytes t → Bytes l → value_of (run_of has r t l buffer).answer ≤ 65536
unfolding run_of answer_with buffer_of
run_small has r t l buffer bt bl = judged-go (judge_under has r t) refl
  where
    text : List ℕ
    text = text_of (history_of t l)

    short : (b : Bool) (n k : ℕ) → judge_under has r t ≡ Accepted n → list_of t (index_of t) l ≡ Accepted k → value_of (cond b (Refused 17 0) (Accepted (length text))) ≤ 65536
    short true n k e d = omega arith
    short false n k e d = text_fits t l n k bt bl (under_accepts has r t n e) d

    listed-go : (n : ℕ) → judge_under has r t ≡ Accepted n → (v : Verdict) → list_of t (index_of t) l ≡ v → value_of (and_then v (cond (ltb (length buffer) min_text) (Refused 17 0) (Accepted (length text)))) ≤ 65536
    listed-go n e (Accepted k) d = short (ltb (length buffer) min_text) n k e d
    listed-go n e (Refused number row) d = omega (arith, list_value t (index_of t) l, ap value_of d)

    judged-go : (v : Verdict) → judge_under has r t ≡ v → value_of (and_then v (and_then (list_of t (index_of t) l) (buffer_of text buffer))) ≤ 65536
    judged-go (Accepted n) e = listed-go n e (list_of t (index_of t) l) refl
    judged-go (Refused number row) e = omega (arith, under_small has r t, ap value_of e)
