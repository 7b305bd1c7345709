-- Each refusal decides the run; where nothing is refused the text stands at the buffer's start.
use Prim.Native.Nat.{ℕ, ◌+◌, ◌<◌, ◌≤◌}
use mathlib.Core.Path.{◌≡◌, refl, ◌∙◌}
use mathlib.Core.List.{List, []}
use native.Mathlib.Omega.{arith}
use lib.ListN.{length}
use borrow.Author.Tests.{lt-ltb, le-ltb}
use Rattle.table.specs.Verdicts.{Verdict, Accepted, Refused}
use Rattle.table.specs.declared.index.Index.{Index}
use Rattle.table.specs.Index.{index_of}
use Rattle.judging.specs.Judging.{judge_under}
use Rattle.judging.specs.Files.{file_if}
use Rattle.judging.proofs.Under.{by_file, without, under_accepts}
use Rattle.acceptance.specs.Judged.{Bytes}
use Rattle.semantics.specs.Calls.{list_of}
use Rattle.semantics.specs.Text.{text_of}
use Rattle.semantics.specs.Run.{min_text, buffer_of, history_of, answer_with, run_of, run_by}
use Rattle.semantics.proofs.Lengths.{text_fits}
use Rattle.text.specs.code.Placing.{placed}
use Rattle.text.proofs.Placing.{placed_fits}
use Rattle.running.specs.code.Lists.{text_in}
use Rattle.running.proofs.Follows.{text_is}

-- the file of a call from C
pub run_file : (has : ℕ) (r t l buffer : List ℕ) → run_by (file_if has r) t l buffer ≡ run_of has r t l buffer
unfolding run_of answer_with
run_file has r t l buffer = rw (by_file has r t)

-- without a rule file its bytes are not looked at
pub run_without : (r t l buffer : List ℕ) → run_of 0 r t l buffer ≡ run_of 0 [] t l buffer
unfolding run_of answer_with
run_without r t l buffer = rw (without r t, without [] t) refl

module _ (has : ℕ) (r t l buffer : List ℕ) where
  -- an answer, and the buffer afterwards
  abbrev pub Runs : Verdict → List ℕ → Type 0
  Runs answer after = (answer ≡ (run_of has r t l buffer).answer) × (after ≡ (run_of has r t l buffer).buffer)

  pub table-refused : (number row : ℕ) → judge_under has r t ≡ Refused number row → Runs (Refused number row) buffer
  unfolding run_of answer_with
  table-refused number row e = rw e (refl, refl)

  pub list_refused : (n number row : ℕ) {ix : Index} → ix ≡ index_of t → judge_under has r t ≡ Accepted n → list_of t ix l ≡ Refused number row → Runs (Refused number row) buffer
  unfolding run_of answer_with
  list_refused n number row q e d = rw (e, rw q at d) (refl, refl)

  module _ (n k : ℕ) {ix : Index} (q : ix ≡ index_of t) (e : judge_under has r t ≡ Accepted n) (d : list_of t ix l ≡ Accepted k) where
    listed : list_of t (index_of t) l ≡ Accepted k
    listed = rw q at d

    pub buffer-refused : length buffer < min_text → Runs (Refused 17 0) buffer
    unfolding run_of answer_with buffer_of
    buffer-refused h = rw (e, listed, lt-ltb (length buffer) min_text h) (refl, refl)

    pub runs : Bytes t → Bytes l → min_text ≤ length buffer → {after : List ℕ} {size : ℕ} → (after ≡ (placed buffer 0 (text_in t ix l)).buffer) × (size ≡ (placed buffer 0 (text_in t ix l)).end) → Runs (Accepted size) after
    unfolding run_of answer_with buffer_of
    runs bt bl h p =
        let same : text_in t ix l ≡ text_of (history_of t l) = rw q (text_is t l n k bt bl (under_accepts has r t n e) listed) in
        let fits = placed_fits buffer 0 (text_of (history_of t l)) (omega (arith, text_fits t l n k bt bl (under_accepts has r t n e) listed)) in
        let put = rw same at p in
        let from_start : 0 + length (text_of (history_of t l)) ≡ length (text_of (history_of t l)) = omega arith in
        rw (e, listed, le-ltb (length buffer) min_text h, put.0 ∙ fits.0, put.1 ∙ fits.1, from_start) (refl, refl)
