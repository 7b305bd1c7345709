-- Running a list of calls over a table (document 01): judge the table, under a rule file where there is one, then the list, then the buffer, and only
-- then call.
use Rattle.std.specs.Prelude.{ℕ, cond, Option, List, ◌++◌, ltb, length, drop}
use Rattle.table.specs.Verdicts.{Verdict, Accepted, Refused, and_then}
use Rattle.table.specs.Index.{index_of}
use Rattle.table.specs.Refusals.{small_buffer}
use Rattle.judging.specs.Judging.{judge_under}
use Rattle.judging.specs.Files.{has_of, bytes_of}
use Rattle.semantics.specs.Calls.{list_of, calls_of}
use Rattle.semantics.specs.History.{Event, history, nothing}
use Rattle.semantics.specs.Text.{text_of}

-- the text buffer has at least so many bytes
abbrev pub min_text : ℕ
min_text = 65536

-- 17: the buffer is too short; else the text's length
unfoldable pub buffer_of : List ℕ → List ℕ → Verdict
buffer_of text buffer = cond (ltb (length buffer) min_text) (Refused small_buffer 0) (Accepted (length text))

-- the history of the list l over the table t, from the empty store
unfoldable pub history_of : List ℕ → List ℕ → List Event
history_of t l = history t (index_of t) (calls_of l) nothing

-- what running answers: a refusal, or the length of the text
unfoldable pub answer_with : ℕ → List ℕ → List ℕ → List ℕ → List ℕ → List ℕ → Verdict
answer_with has r t l buffer text = and_then (judge_under has r t) (and_then (list_of t (index_of t) l) (buffer_of text buffer))

-- the buffer afterwards: as it was after a refusal, else the text and then the old bytes
abbrev pub buffer_with : Verdict → List ℕ → List ℕ → List ℕ
buffer_with (Refused number row) buffer text = buffer
buffer_with (Accepted size) buffer text = text ++ drop size buffer

-- the answer and the buffer afterwards, for any bytes
pub record Ran : Type 0 where
  pub answer : Verdict
  pub buffer : List ℕ

unfoldable pub run_of : ℕ → List ℕ → List ℕ → List ℕ → List ℕ → Ran
run_of has r t l buffer =
    let text = text_of (history_of t l) in
    let answer = answer_with has r t l buffer text in
    record { answer = answer; buffer = buffer_with answer buffer text }

-- the same, under a rule file that may be missing
abbrev pub run_by : Option (List ℕ) → List ℕ → List ℕ → List ℕ → Ran
run_by rules t l buffer = run_of (has_of rules) (bytes_of rules) t l buffer
