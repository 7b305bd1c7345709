-- One list of examples: the samples, and tables with call lists and what running them prints, with a rule file or without. The running ones do every opcode and
-- meet every stop.
use Rattle.std.specs.Prelude.{ℕ, List, [], ◌∷◌, ◌++◌, map, length, take, replicate}
use Prim.Native.String.{String}
use Rattle.table.specs.Verdicts.{Verdict, Accepted, Refused}
use Rattle.semantics.specs.Ascii.{ascii}
use Rattle.semantics.specs.Run.{Ran, min_text}
use Rattle.samples.specs.Samples.{Sample, samples, given as stated, answered as judged_by}
use Rattle.samples.specs.Tables.{table, guest, public, private, pop, load_const, call_procedure, ret, subtract, allow, forbid, rows_s, rows_t, rows_guests, rules_guests}
use Rattle.witnesses.specs.Tables.{call, argument, rows_till, calls_till, rows_guest, calls_guest, rows_label, calls_label, calls_guests}
use Rattle.examples.specs.Tables.{rows_helped, calls_helped, rows_added, calls_added, rows_ops, rows_loop, rows_closed, rows_written, rows_two, rows_keys, rows_bare, rows_types, rows_nested, rows_refilled, rows_emptied, rows_returned, rows_stale, rows_seen, rows_frozen_stale, rows_deep, rows_many, rows_full}

-- an example: a table and its verdict; or whether there is a rule file, and its bytes, a table, a call list and the length of a text buffer, with the answer and the text
pub data Example : Type 0 where
  sample : Sample → Example
  running : (has : ℕ) (rules table list : List ℕ) → (room : ℕ) → Verdict → (text : List ℕ) → Example

-- a list that is run, and one that is refused, without a rule file and under one
abbrev pub prints : List ℕ → List ℕ → List ℕ → Example
prints t l text = running 0 [] t l min_text (Accepted (length text)) text

abbrev pub refuses : List ℕ → List ℕ → ℕ → ℕ → ℕ → Example
refuses t l room number row = running 0 [] t l room (Refused number row) []

abbrev pub prints_under : List ℕ → List ℕ → List ℕ → List ℕ → Example
prints_under rules t l text = running 1 rules t l min_text (Accepted (length text)) text

abbrev pub refuses_under : List ℕ → List ℕ → List ℕ → ℕ → ℕ → ℕ → Example
refuses_under rules t l room number row = running 1 rules t l room (Refused number row) []

-- a line of text
unfoldable pub line : String → List ℕ
line words = ascii words ++ ascii "\n"

-- call lists: refusals 15 to 17, every opcode, and stops 31 to 35 and 39
unfoldable pub running_calls : List Example
running_calls =
    -- S run: budget 5 finishes, budget 4 stops 31 at row 9; twice with budget 100
    prints (table rows_s) (table (call 0 5 ∷ argument 7 ∷ [])) (line "call 0 done" ++ line "store 0 7 500")
    ∷ prints (table rows_s) (table (call 0 4 ∷ argument 7 ∷ [])) (line "call 0 stop 31 row 9")
    ∷ prints (table rows_s) (table (call 0 100 ∷ argument 7 ∷ call 0 100 ∷ argument 7 ∷ [])) (line "call 0 done" ++ line "call 1 stop 33 row 8" ++ line "store 0 7 500")
    -- an empty list
    ∷ prints (table rows_s) [] []
    -- 31 comes before 33
    ∷ prints (table rows_s) (table (call 0 100 ∷ argument 7 ∷ call 0 3 ∷ argument 7 ∷ [])) (line "call 0 done" ++ line "call 1 stop 31 row 8" ++ line "store 0 7 500")
    -- the Ops; 32: a sum above 64 bits; 39: a difference below zero
    ∷ prints (table rows_ops)
    (table (call 0 4 ∷ argument 18446744073709551615 ∷ argument 0 ∷ call 0 4 ∷ argument 18446744073709551615 ∷ argument 1
    ∷ call 1 4 ∷ argument 5 ∷ argument 5 ∷ call 1 4 ∷ argument 5 ∷ argument 6
    ∷ call 2 4 ∷ argument 4 ∷ argument 4 ∷ call 2 4 ∷ argument 4 ∷ argument 5
    ∷ call 3 4 ∷ argument 3 ∷ argument 4 ∷ call 3 4 ∷ argument 4 ∷ argument 4 ∷ call 3 4 ∷ argument 4 ∷ argument 3 ∷ []))
    (line "call 0 done 18446744073709551615" ++ line "call 1 stop 32 row 7"
    ++ line "call 2 done 0" ++ line "call 3 stop 39 row 15"
    ++ line "call 4 done 1" ++ line "call 5 done 0"
    ++ line "call 6 done 1" ++ line "call 7 done 0" ++ line "call 8 done 0")
    -- a loop of 50 instructions, with a budget of 50 and of 49
    ∷ prints (table rows_loop) (table (call 0 50 ∷ argument 4 ∷ call 0 49 ∷ argument 4 ∷ [])) (line "call 0 done 10" ++ line "call 1 stop 31 row 10")
    -- a credit is withdrawn and broken up
    ∷ prints (table rows_closed) (table (call 1 100 ∷ argument 7 ∷ call 0 100 ∷ argument 7 ∷ call 1 100 ∷ argument 7 ∷ call 1 100 ∷ argument 7 ∷ []))
    (line "call 0 done 0" ++ line "call 1 done" ++ line "call 2 done 500" ++ line "call 3 done 0")
    -- published, then 0 less 1: the store is empty again
    ∷ prints (table (take 9 rows_s ++ (load_const 0 ∷ load_const 1 ∷ subtract ∷ pop ∷ ret ∷ []))) (table (call 0 100 ∷ argument 7 ∷ [])) (line "call 0 stop 39 row 11")
    -- call 2 writes 200 and stops: the kilos are 60 again; 34
    ∷ prints (table rows_written)
    (table (call 0 100 ∷ argument 7 ∷ call 1 100 ∷ argument 7 ∷ argument 60 ∷ call 1 100 ∷ argument 7 ∷ argument 200 ∷ call 2 100 ∷ argument 7 ∷ call 2 100 ∷ argument 8 ∷ []))
    (line "call 0 done" ++ line "call 1 done 40" ++ line "call 2 stop 39 row 21" ++ line "call 3 done 60" ++ line "call 4 stop 34 row 27" ++ line "store 0 7 60")
    -- The till: 39 in a call of a guest's call, and the first taking is undone; all that there is; 0 less 1, and 31 before 39; 0 less 0; 32
    ∷ prints (table rows_till) (table calls_till)
    (line "call 0 done" ++ line "call 1 stop 39 row 18" ++ line "call 2 done"
    ++ line "call 3 stop 39 row 18" ++ line "call 4 stop 39 row 18" ++ line "call 5 stop 31 row 18" ++ line "call 6 done"
    ++ line "call 7 done" ++ line "call 8 stop 32 row 32" ++ line "store 0 7 18446744073709551615")
    -- helpers: written and read through what they are given and return, by a guest's call too; 34 in a helper; 31 in a helper after it has written, and the kilos are as they were
    ∷ prints (table rows_helped) (table calls_helped)
    (line "call 0 done" ++ line "call 1 done" ++ line "call 2 done 60" ++ line "call 3 done" ++ line "call 4 done 9"
    ++ line "call 5 stop 34 row 14" ++ line "call 6 stop 31 row 23" ++ line "call 7 done 9" ++ line "store 0 7 9")
    -- a helper that calls itself writes in each frame; 31 in the third frame and before the last Ret, and 36: the kilos are as they were
    ∷ prints (table rows_added) (table calls_added)
    (line "call 0 done" ++ line "call 1 done" ++ line "call 2 stop 31 row 22" ++ line "call 3 stop 31 row 36" ++ line "call 4 stop 36 row 26" ++ line "store 0 7 506")
    -- the second of two credits is written
    ∷ prints (table rows_two) (table (call 0 100 ∷ [])) (line "call 0 done" ++ line "store 0 7 1" ++ line "store 0 8 3")
    -- nested records
    ∷ prints (table rows_nested) (table (call 0 100 ∷ argument 7 ∷ [])) (line "call 0 done" ++ line "store 2 7 (1 8 (0 9)) (0 6)")
    -- a guest holds a credit and calls the trusted module; 34: withdrawn twice in one call
    ∷ prints (table rows_guest) (table calls_guest) (line "call 0 done" ++ line "call 1 stop 34 row 26" ++ line "store 0 7 1")
    -- references to locals: filled again; 35: empty, and of a frame that has returned
    ∷ prints (table rows_refilled) (table (call 0 100 ∷ argument 41 ∷ [])) (line "call 0 done 42")
    ∷ prints (table rows_emptied) (table (call 0 100 ∷ argument 41 ∷ [])) (line "call 0 stop 35 row 7")
    ∷ prints (table rows_returned) (table (call 0 100 ∷ [])) (line "call 0 stop 35 row 4")
    -- a guest reads kilos through a read-only reference that it is given, and one that is returned to it; 31 before Freeze
    ∷ prints (table rows_label) (table calls_label) (line "call 0 done" ++ line "call 1 done 500" ++ line "call 2 done 500" ++ line "call 3 stop 31 row 16" ++ line "store 0 7 500")
    -- what is written through another reference is read; 35: at the reading, not at Freeze
    ∷ prints (table rows_seen) (table (call 0 100 ∷ argument 41 ∷ [])) (line "call 0 done 9")
    ∷ prints (table rows_frozen_stale) (table (call 0 100 ∷ [])) (line "call 0 stop 35 row 18")
    -- 35: the record was unpacked and its room is used again
    ∷ prints (table rows_stale) (table (call 0 100 ∷ argument 7 ∷ [])) (line "call 0 stop 35 row 19")
    -- a refused table; 15: a short row, an argument first; 16: no such procedure, no budget; 17
    ∷ refuses (table rows_t) [] 65536 14 15
    ∷ refuses (table rows_s) (1 ∷ []) 65536 15 0
    ∷ refuses (table rows_s) (table (argument 7 ∷ [])) 65536 15 0
    ∷ refuses (table rows_s) (table (call 1 5 ∷ argument 7 ∷ [])) 65536 16 0
    ∷ refuses (table rows_s) (table (call 0 5 ∷ argument 7 ∷ call 0 0 ∷ argument 7 ∷ [])) 65536 16 2
    ∷ refuses (table rows_s) [] 65535 17 0
    ∷ []

-- the order of the store's lines: by type, then by address, both as numbers
unfoldable pub running_keys : List Example
running_keys =
    -- three types of two modules, addresses 0, 9, 10 and 2^64 - 1, published out of order
    prints (table rows_keys)
    (table (call 1 100 ∷ argument 10 ∷ call 0 100 ∷ argument 10 ∷ argument 100 ∷ call 3 100 ∷ argument 0 ∷ call 0 100 ∷ argument 9 ∷ argument 90
    ∷ call 1 100 ∷ argument 0 ∷ call 0 100 ∷ argument 18446744073709551615 ∷ argument 7 ∷ call 0 100 ∷ argument 0 ∷ argument 1 ∷ []))
    (line "call 0 done" ++ line "call 1 done" ++ line "call 2 done" ++ line "call 3 done" ++ line "call 4 done" ++ line "call 5 done" ++ line "call 6 done"
    ++ line "store 0 0 1" ++ line "store 0 9 90" ++ line "store 0 10 100" ++ line "store 0 18446744073709551615 7"
    ++ line "store 1 0 1 2" ++ line "store 1 10 1 2"
    ++ line "store 2 0 5")
    -- one is withdrawn and later published again; a stopped call leaves the lines as they are
    ∷ prints (table rows_keys)
    (table (call 0 100 ∷ argument 9 ∷ argument 1 ∷ call 0 100 ∷ argument 10 ∷ argument 2 ∷ call 1 100 ∷ argument 9 ∷ call 2 100 ∷ argument 9
    ∷ call 0 100 ∷ argument 0 ∷ argument 3 ∷ call 0 100 ∷ argument 10 ∷ argument 6 ∷ call 0 100 ∷ argument 9 ∷ argument 4 ∷ []))
    (line "call 0 done" ++ line "call 1 done" ++ line "call 2 done" ++ line "call 3 done" ++ line "call 4 done" ++ line "call 5 stop 33 row 12" ++ line "call 6 done"
    ++ line "store 0 0 3" ++ line "store 0 9 4" ++ line "store 0 10 2" ++ line "store 1 9 1 2")
    -- records without fields
    ∷ prints (table rows_bare) (table (call 0 100 ∷ [])) (line "call 0 done" ++ line "store 0 8" ++ line "store 1 7 (0)")
    -- types 2, 9 and 10, addresses on both sides of 2^8, 2^32 and 2^63, a record in a field; two results
    ∷ prints (table rows_types)
    (table (call 2 100 ∷ argument 1 ∷ call 1 100 ∷ argument 9223372036854775808 ∷ call 1 100 ∷ argument 256 ∷ call 0 100 ∷ argument 4294967297
    ∷ call 1 100 ∷ argument 255 ∷ call 0 100 ∷ argument 4294967295 ∷ call 3 100 ∷ call 1 100 ∷ argument 9223372036854775807 ∷ call 2 100 ∷ argument 0 ∷ []))
    (line "call 0 done" ++ line "call 1 done" ++ line "call 2 done" ++ line "call 3 done" ++ line "call 4 done" ++ line "call 5 done" ++ line "call 6 done 3 2" ++ line "call 7 done" ++ line "call 8 done"
    ++ line "store 2 4294967295 20" ++ line "store 2 4294967297 20"
    ++ line "store 9 255 90" ++ line "store 9 256 90" ++ line "store 9 9223372036854775807 90" ++ line "store 9 9223372036854775808 90"
    ++ line "store 10 0 (9 91) 10" ++ line "store 10 1 (9 91) 10")
    ∷ []

-- the limits of running: stops 36 to 38
unfoldable pub running_limits : List Example
running_limits =
    -- 16 frames; 36: a 17th
    prints (table rows_deep) (table (call 0 200 ∷ argument 15 ∷ call 0 200 ∷ argument 16 ∷ [])) (line "call 0 done" ++ line "call 1 stop 36 row 9")
    -- 37: 128 records live, and a 129th is packed
    ∷ prints (table rows_many) (table (call 0 1000 ∷ argument 7 ∷ [])) (line "call 0 stop 37 row 39")
    -- 64 entries, and 33 comes before 38; 38: a 65th
    ∷ prints (table rows_full) (table (call 0 1000 ∷ argument 64 ∷ call 0 1000 ∷ argument 65 ∷ [])) (line "call 0 stop 33 row 15" ++ line "call 1 stop 38 row 6")
    ∷ []

-- running under a rule file: the entry from the list is no pair; the file is asked before the list
unfoldable pub running_rules : List Example
running_rules =
    prints_under (table (allow 0 15 0 15 ∷ [])) (table rows_guests) (table calls_guests) (line "call 0 done" ++ line "call 1 done 65" ++ line "store 0 7 500")
    -- a guest that calls where it may, under a file that forbids another pair; a Call within one module
    ∷ prints_under (table rules_guests) (take 336 (table rows_guests)) (take 32 (table calls_guests)) (line "call 0 done" ++ line "store 0 7 500")
    ∷ prints_under (table (allow 0 0 0 0 ∷ [])) (table (guest ∷ private ∷ ret ∷ public ∷ call_procedure 0 ∷ ret ∷ [])) (table (call 1 100 ∷ [])) (line "call 0 done")
    ∷ prints_under (table (forbid 0 15 0 15 ∷ [])) (table rows_s) (table (call 0 100 ∷ argument 7 ∷ [])) (line "call 0 done" ++ line "store 0 7 500")
    ∷ prints (table rows_guests) (table calls_guests) (line "call 0 done" ++ line "call 1 done 65" ++ line "store 0 7 500")
    ∷ refuses_under (table rules_guests) (table rows_guests) (take 15 (table calls_guests)) 0 22 24
    ∷ refuses_under (table (allow 0 15 0 15 ∷ [])) (table rows_guests) (take 15 (table calls_guests)) 0 15 0
    ∷ []

-- all of them
unfoldable pub examples : List Example
examples = map sample samples ++ running_rules ++ running_calls ++ running_keys ++ running_limits

-- what an example is answered with
pub data Answer : Type 0 where
  judged : Verdict → Answer
  ran : Verdict → (text : List ℕ) → Answer

-- the answers that the examples give
abbrev pub given : Example → Answer
given (sample s) = judged (stated s)
given (running has r t l room verdict text) = ran verdict text

unfoldable pub expected : List Answer
expected = map given examples

-- what the rules of judging and running answer to them; of a buffer that is not refused the text is shown
abbrev pub shown : Ran → Answer
shown r = ran r.answer (take (text_length r.answer) r.buffer)
  where
    text_length : Verdict → ℕ
    text_length (Accepted size) = size
    text_length (Refused number row) = 0

abbrev pub answered : (ℕ → List ℕ → List ℕ → Verdict) → (ℕ → List ℕ → List ℕ → List ℕ → List ℕ → Ran) → Example → Answer
answered judge run (sample s) = judged (judged_by judge s)
answered judge run (running has r t l room verdict text) = shown (run has r t l (replicate room 0))

unfoldable pub answers : (ℕ → List ℕ → List ℕ → Verdict) → (ℕ → List ℕ → List ℕ → List ℕ → List ℕ → Ran) → List Answer
answers judge run = map (answered judge run) examples
