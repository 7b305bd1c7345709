-- The text of a good list is at most 65,536 bytes.
use Prim.Native.Nat.{ℕ, suc, ◌+◌, ◌*◌, ◌≤◌}
use mathlib.Core.Path.{◌≡◌, refl, ap, ◌∙◌}
use mathlib.Core.List.{List, [], ◌∷◌}
use mathlib.Core.Option.{some}
use native.Mathlib.Omega.{arith}
use lib.ListN.{length, length-append, get_elem? as nth}
use Rattle.laws.specs.Sorting.{sort_by}
use Rattle.table.specs.Verdicts.{Accepted}
use Rattle.table.specs.Format.{max_types}
use Rattle.table.specs.Index.{index_of}
use Rattle.judging.specs.Judging.{judge_of}
use Rattle.acceptance.specs.Judged.{Bytes, Judged}
use Rattle.acceptance.proofs.Judged.{judged}
use Rattle.semantics.specs.Machine.{Value, obj, Cell, here, Entry, entry, State, Outcome}
use Rattle.semantics.specs.Calls.{list_of, calls_of}
use Rattle.semantics.specs.History.{Base, base, Event, moment, ended, history, nothing, last_base}
use Rattle.semantics.specs.Ascii.{ascii}
use Rattle.semantics.specs.Text.{decimal, values, fields_text, entry_line, entry_lines, entry_before, ending, call_line, call_lines, store_lines, text_of}
use Rattle.semantics.specs.Run.{history_of}
use Rattle.semantics.specs.Ownership.{in_values, in_records, in_store, lives_at}
use Rattle.semantics.specs.Claim.{All, none_left, also, SafeEnd, finishes, restores, Safe, ends as at-end, IsNumber}
use Rattle.semantics.specs.Told.{Rearranged, none_at_all, same_first, first-swapped, one-after-another}
use Rattle.semantics.proofs.Typing.{Fields, dnil, dnum, dobj}
use Rattle.semantics.proofs.Running.{Rest}
use Rattle.semantics.proofs.Callable.{list_rows, good-calls}
use Rattle.semantics.proofs.Owning.{cell_here}
use Rattle.semantics.proofs.Invariant.{BaseOk, nothing_ok}
use Rattle.semantics.proofs.Demand3.{demand3}
use Rattle.semantics.proofs.Printed.{decimal-few, number_text, record_text, text_bound}
use Rattle.semantics.proofs.Order.{each_once}
use Rattle.semantics.proofs.Ends.{ends, history-ends, history-last, calls_in-rows}

-- The calls' lines. Results are numbers: at most 21 bytes each
results_text : (vs : List Value) → All IsNumber vs → length (values (λ (id : ℕ). []) vs) ≤ 21 * length vs
results_text [] none_left = omega arith
results_text (v ∷ vs) (also k a) = rw k.1 (omega (arith, number_text (λ (id : ℕ). []) k.0 vs, results_text vs a))

-- how a call ended: at most 94 bytes
ending_text : (t : List ℕ) (before : Base) (s : State) (row : ℕ) (o : Outcome) (after : Base) → SafeEnd t (index_of t) before s row o after → length (ending row o) ≤ 94
unfolding ascii
ending_text t before s row o after (finishes {vs} a l) = simp length-append (omega (arith, results_text vs a, l))
ending_text t before s row o after (restores {k} c r) = simp length-append (omega (arith, decimal-few k, decimal-few row))

-- a call's line
line_text : (i row : ℕ) (o : Outcome) → length (ending row o) ≤ 94 → length (call_line i row o) ≤ 120
unfolding call_line ascii
line_text i row o l = simp length-append (omega (arith, decimal-few i))

-- the lines of all calls
lines_text : (t : List ℕ) (i : ℕ) (es : List Event) → All (Safe t (index_of t)) es → length (call_lines i es) ≤ 120 * ends es
unfolding call_lines
lines_text t i [] a = omega arith
lines_text t i (moment s r o ∷ es) (also k a) = lines_text t i es a
lines_text t i (ended before s r o after ∷ es) (also (at-end e l) a) =
    omega (arith, length-append (call_line i r o) (call_lines (i + 1) es), line_text i r o (ending_text t before s r o after e), lines_text t (i + 1) es a)

-- The store's lines. An entry holds its record as a value does
abbrev roots : List Entry → List Value
roots [] = []
roots (entry y a id ∷ st) = obj id y ∷ roots st

-- the same records, as often
roots_held : (r : ℕ) (st : List Entry) → in_values r (roots st) ≡ in_store r st
roots_held r [] = refl
roots_held r (entry y a id ∷ st) = omega (arith, roots_held r st)

-- one for each entry
roots_length : (st : List Entry) → length (roots st) ≡ length st
roots_length [] = refl
roots_length (entry y a id ∷ st) = ap suc (roots_length st)

-- an entry's line is at most 25 bytes longer than its record as a value
entry_text : (rs : List Cell) (y a id : ℕ) → length (entry_line rs (entry y a id)) ≤ 28 + length (decimal y) + length (fields_text max_types rs id)
unfolding entry_line ascii
entry_text rs y a id = simp length-append (omega (arith, decimal-few a))

-- the lines of a store
entries_text : (rs : List Cell) (st : List Entry) → length (entry_lines rs st) ≤ 25 * length st + length (values (fields_text max_types rs) (roots st))
unfolding entry_lines
entries_text rs [] = omega arith
entries_text rs (entry y a id ∷ st) =
    omega (arith, length-append (entry_line rs (entry y a id)) (entry_lines rs st), entry_text rs y a id, record_text (fields_text max_types rs) id y (roots st), entries_text rs st)

-- a rearranged store is as long
rearranged_length : {st st' : List Entry} → Rearranged st st' → length st' ≡ length st
rearranged_length none_at_all = refl
rearranged_length (same_first m) = ap suc (rearranged_length m)
rearranged_length first-swapped = refl
rearranged_length (one-after-another m m') = rearranged_length m' ∙ rearranged_length m

-- and holds the same records, as often
rearranged_held : (r : ℕ) {st st' : List Entry} → Rearranged st st' → in_store r st' ≡ in_store r st
rearranged_held r none_at_all = refl
rearranged_held r (same_first {e = entry y a id} m) = omega (arith, rearranged_held r m)
rearranged_held r (first-swapped {e = entry y a id} {e' = entry y' a' id'}) = omega arith
rearranged_held r (one-after-another m m') = rearranged_held r m' ∙ rearranged_held r m

-- a record has as many fields as its type
fields-length : {T : List ℕ} {vs : List Value} {ks : List ℕ} → Fields T vs ks → length vs ≡ length ks
fields-length dnil = refl
fields-length (dnum w q f) = ap suc (fields-length f)
fields-length (dobj w q f) = ap suc (fields-length f)

module _ (t : List ℕ) (J : Judged t (index_of t)) where
  -- at most 8
  fields-few : (rs : List Cell) (st : List Entry) → Rest t rs st → (id y : ℕ) (vs : List Value) → nth rs id ≡ some (here y vs) → length vs ≤ 8
  fields-few rs st v id y vs e =
      let c = cell_here t v.T rs id y vs v.records e in
      omega (arith, fields-length c.1, (J.declared y c.0).fields, (J.declared y c.0).few)

  -- 64 entries, and 8 fields in each of 128 records
  store-text : (b : Base) → BaseOk t J b → length (store_lines b) ≤ 26624
  unfolding BaseOk
  store-text (base rs st n) v =
      let st' = sort_by entry_before st in
      let owns : (r : ℕ) → in_values r (roots st') + in_records r rs ≤ lives_at rs r = λ r. omega (arith, v.0.owned r, roots_held r st', rearranged_held r (each_once st)) in
      omega (arith, entries_text rs st', text_bound max_types rs (roots st') (fields-few rs st v.0) owns, roots_length st', rearranged_length (each_once st), v.1.few, v.1.entries)

-- the text of a good list fits the shortest buffer: 256 · 120 + 64 · 48 + 128 · 8 · 23 bytes at most
pub text_fits : (t l : List ℕ) (n k : ℕ) → Bytes t → Bytes l
    → judge_of t ≡ Accepted n → list_of t (index_of t) l ≡ Accepted k → length (text_of (history_of t l)) ≤ 65536
unfolding text_of history_of
text_fits t l n k bt bl e d =
    let J = judged t n bt e in
    let es = history t (index_of t) (calls_of l) nothing in
    let b = history-last t J (calls_of l) nothing (good-calls t (index_of t) l k bl d) (nothing_ok t J) in
    omega (
      arith,
      length-append (call_lines 0 es) (store_lines (last_base es nothing)),
      lines_text t 0 es (demand3 t l n k bt bl e d).safe,
      history-ends t (index_of t) (calls_of l) nothing,
      calls_in-rows l,
      list_rows t (index_of t) l k d,
      store-text t J (last_base es nothing) b,
    )
