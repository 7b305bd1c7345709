-- Laws of a list of calls by the interpreter's account.
use Prim.Native.Nat.{ℕ, zero, suc, ◌+◌, ◌-◌, ◌*◌, ◌<◌, ◌≤◌}
use mathlib.Core.Path.{◌≡◌, refl, ap, ◌∙◌}
use mathlib.Core.Bool.{Bool, true, false}
use mathlib.Core.List.{List, ◌∷◌}
use native.Mathlib.Omega.{arith}
use lib.ListN.{replicate}
use Rattle.table.specs.declared.index.Index.{Index}
use Rattle.table.specs.declared.index.ProcedureEntry.{ProcedureEntry}
use Rattle.table.specs.Rows.{is_kind, row_count, row_at}
use Rattle.declarations.specs.Program.{procedure_in}
use Rattle.semantics.specs.Calls.{call_row, arguments, Call, call, calls_from, calls_of}
use Rattle.calls.proofs.Laws.{call-here, call-not, calls-end}
use Rattle.text.specs.declared.Writer.{Writer}
use Rattle.text.specs.code.Placing.{Placed, placed, Puts}
use Rattle.text.proofs.Placing.{placed_append}
use Rattle.state.specs.declared.Operand.{Operand}
use Rattle.state.specs.declared.Operand.TheVariants.{Empty}
use Rattle.state.specs.declared.frames.State.{State}
use Rattle.state.specs.code.Frames.{stop_of}
use Rattle.state.specs.code.Coding.{values, value_of}
use Rattle.state.specs.code.Cells.{cells_of}
use Rattle.machine.specs.code.Lists.{min_order}
use Rattle.machine.specs.code.Views.{rooms_in, entries_in}
use Rattle.frame.specs.code.Turning.{after}
use Rattle.interpreter.specs.code.Calls.{kept_since, same_restored, call_turn, same_call}
use Rattle.running.specs.code.Lists.{results_in, end_line, start, store_text, line_of, text_from, text_in}

-- cells of zeros are empty
cells_empty : (n : ℕ) → cells_of (replicate (2 * n) 0) ≡ replicate n Empty
unfolding cells_of value_of values
cells_empty zero = refl
cells_empty (suc n) = let e : 2 * suc n ≡ suc (suc (2 * n)) = omega arith in rw e (ap (λ (cs : List Operand). Empty ∷ cs) (cells_empty n))

-- the line of a call by its parts
pub line-is : (ix : Index) (i : ℕ) (cs : List Operand) (s : State) {w v : Writer} {own : ProcedureEntry} {count : ℕ} {results : List ℕ} → own ≡ procedure_in ix s.procedure
    → count ≡ own.code - own.results → results ≡ results_in cs s count → Puts w (end_line i (stop_of s) (own.code + s.at) results count) v → Puts w (line_of ix i cs s) v
unfolding line_of
line-is ix i cs s o c e p = rw (← o, ← c, ← e) p

-- a call and the calls after it, a row that is no call, and the end of the list
module _ (t : List ℕ) (ix : Index) (l : List ℕ) where
  -- the text of the calls from row i on, the next of them call k
  abbrev pub text_at : ℕ → ℕ → Bool → List Operand → List Operand → State → List ℕ
  text_at i k same cs ks s = text_from t ix k (calls_from l i (row_count l - i)) same cs ks s

  -- the call at row i
  abbrev pub call_at : ℕ → Call
  call_at i = call (row_at l i).b (row_at l i).c (arguments l (i + 1) (row_count l - (i + 1)))

  -- what a writer puts from row i on
  abbrev pub left : Writer → ℕ → ℕ → Bool → List Operand → List Operand → State → Placed
  left w i k same cs ks s = placed w.text.now w.end (text_at i k same cs ks s)

  module _ (w : Writer) (i k : ℕ) (same : Bool) (cs ks : List Operand) (s : State) where
    pub text_call : {s' : State} {same' : Bool} {ds ls : List Operand} {v : Writer} → i < row_count l → is_kind l call_row i ≡ true
        → (after s' ds ≡ call_turn t ix cs (kept_since same ks cs s) s (call_at i)) × (same' ≡ same_restored (same_call t ix cs s (call_at i)) (stop_of s')) × (ls ≡ kept_since same ks cs s)
        → Puts w (line_of ix k ds s') v → left w i k same cs ks s ≡ left v (i + 1) (k + 1) same' ds ls s'
    unfolding text_from
    text_call {s'} {same'} {ds} {ls} h q e p =
        rw (call-here l i (row_count l) h q, ← e.0, ← e.1, ← e.2) (placed_append w.text.now w.end (line_of ix k ds s') (text_at (i + 1) (k + 1) same' ds ls s') ∙ rw (p.text, p.end) refl)

    pub text_other : i < row_count l → is_kind l call_row i ≡ false → left w i k same cs ks s ≡ left w (i + 1) k same cs ks s
    text_other h q = rw (call-not l i (row_count l) h q) refl

    pub text_done : (first : List ℕ) {v : Writer} → row_count l ≤ i → placed first 0 (text_in t ix l) ≡ left w i k same cs ks s
        → Puts w (min_order (rooms_in cs) (entries_in cs s.entries)) v → (v.text.now ≡ (placed first 0 (text_in t ix l)).buffer) × (v.end ≡ (placed first 0 (text_in t ix l)).end)
    unfolding text_from store_text
    text_done first h e p =
        let q : text_at i k same cs ks s ≡ store_text cs s = rw (calls-end l i (row_count l) h) refl in
        rw (e, q) (p.text, p.end)

  pub text_start : text_in t ix l ≡ text_at 0 0 false (cells_of (replicate 3648 0)) (cells_of (replicate 3648 0)) start
  unfolding text_in calls_of
  text_start = let q : row_count l - 0 ≡ row_count l = omega arith in rw (q, cells_empty 1824) refl
