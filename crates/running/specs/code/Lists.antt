-- A list of calls by the interpreter's account, for any table, index and list.
use Rattle.std.specs.Prelude.{ℕ, ◌+◌, ◌-◌, Bool, false, cond, List, [], ◌∷◌, ◌++◌, map, eqb, leb, get_or, take, replicate}
use Rattle.table.specs.declared.index.Index.{Index}
use Rattle.declarations.specs.Program.{procedure_in}
use Rattle.semantics.specs.Machine.{num, state, finished, stopped}
use Rattle.semantics.specs.Calls.{Call, calls_of}
use Rattle.semantics.specs.Text.{call_line}
use Rattle.state.specs.declared.Operand.{Operand}
use Rattle.state.specs.declared.Operand.TheVariants.{Empty}
use Rattle.state.specs.declared.frames.State.{State}
use Rattle.state.specs.code.Frames.{stop_of}
use Rattle.state.specs.code.Coding.{number_of}
use Rattle.state.specs.code.Layout.{all_cells}
use Rattle.machine.specs.code.Lists.{min_order}
use Rattle.machine.specs.code.Views.{rooms_in, entries_in}
use Rattle.frame.specs.code.Turning.{Turning, after, done, broken}
use Rattle.interpreter.specs.code.Calls.{kept_since, same_restored, call_turn, same_call}

-- the results of a call that is done: the k top operands of its first frame, at most four
abbrev pub results_in : List Operand → State → ℕ → List ℕ
results_in cs s k =
    cond (leb k s.height)
    (number_of (get_or cs (s.height - k) Empty) ∷ number_of (get_or cs (s.height - k + 1) Empty) ∷ number_of (get_or cs (s.height - k + 2) Empty) ∷ number_of (get_or cs (s.height - k + 3) Empty) ∷ [])
    (replicate 4 0)

-- the line of call i by why it ended, at which row, and with which results
unfoldable pub end_line : ℕ → ℕ → ℕ → List ℕ → ℕ → List ℕ
end_line i stop row results count =
    cond (eqb stop done) (call_line i row (finished (map num (take count results)) (state [] [] [] 0)))
    (cond (eqb stop broken) [] (call_line i row (stopped stop)))

-- before the first call
abbrev pub start : State
start = record { serial = 0; procedure = 0; at = 0; depth = 0; height = 0; count = 0; stop = 0; records = 0; frames = 0; entries = 0; rooms = 0; free = 0 }

abbrev pub all_empty : List Operand
all_empty = replicate all_cells Empty

-- what comes of the state and the cells after a call
abbrev pub on_turn : Turning → (List Operand → State → List ℕ) → List ℕ
on_turn (after s cs) rest = rest cs s

-- the store's lines, in order
unfoldable pub store_text : List Operand → State → List ℕ
store_text cs s = min_order (rooms_in cs) (entries_in cs s.entries)

-- the line of call i, which ended so, with the index of its table
unfoldable pub line_of : Index → ℕ → List Operand → State → List ℕ
line_of ix i cs s =
    let own = procedure_in ix s.procedure in
    end_line i (stop_of s) (own.code + s.at) (results_in cs s (own.code - own.results)) (own.code - own.results)

-- in a table with this index
module _ (t : List ℕ) (ix : Index) where
  -- the text from call i on; `same`: entries and rooms are those that are kept
  unfoldable pub text_from : ℕ → List Call → Bool → List Operand → List Operand → State → List ℕ
  text_from i [] same cs ks s = store_text cs s
  text_from i (c ∷ calls) same cs ks s = on_turn (call_turn t ix cs (kept_since same ks cs s) s c) λ (ds : List Operand) (z : State).
      line_of ix i ds z ++ text_from (i + 1) calls (same_restored (same_call t ix cs s c) (stop_of z)) ds (kept_since same ks cs s) z

  unfoldable pub text_in : List ℕ → List ℕ
  text_in l = text_from 0 (calls_of l) false all_empty all_empty start
