-- The rule's text tells the calls and the store.
use Prim.Native.Nat.{ℕ, zero, suc, ◌+◌, ◌<◌, ◌≤◌}
use mathlib.Core.Path.{◌≡◌, refl, sym}
use mathlib.Core.List.{List, [], ◌∷◌, ◌++◌}
use mathlib.Core.Logic.{⊎_elim}
use mathlib.Core.Option.{some}
use native.Mathlib.Omega.{arith}
use lib.ListN.{get_elem? as nth}
use Rattle.laws.specs.Sorting.{sort_by}
use Rattle.table.specs.Verdicts.{Accepted}
use Rattle.table.specs.Format.{max_types, max_rows}
use Rattle.table.specs.Index.{index_of}
use Rattle.sizes.proofs.Rows.{parts, code-place}
use Rattle.judging.specs.Judging.{judge_of}
use Rattle.reach.specs.Reach.{Mem}
use Rattle.acceptance.specs.Judged.{Bytes, Judged}
use Rattle.acceptance.proofs.Judged.{judged}
use Rattle.arithmetic.specs.Arithmetic.{past_numbers}
use Rattle.semantics.specs.Machine.{Value, num, obj, refer, Cell, here, Entry, entry, Frame, State, state, Outcome, next, finished, stopped, stuck}
use Rattle.semantics.specs.Calls.{list_of, calls_of}
use Rattle.semantics.specs.History.{Base, base, Event, moment, ended, row_up, history, nothing, last_base}
use Rattle.semantics.specs.Ascii.{ascii}
use Rattle.semantics.specs.Text.{values, fields_text, entry_line, entry_lines, entry_before, call_line, call_lines, text_of}
use Rattle.semantics.specs.Run.{history_of}
use Rattle.semantics.specs.Words.{Exists}
use Rattle.semantics.specs.Claim.{All, none_left, also, Nested, Plain, IsNumber}
use Rattle.semantics.specs.Told.{Values, no_value, a-number, a-record, StoreLines, no_line, a-line, CallLines, no_call, goes_on, is-done, is-stopped, Told}
use Rattle.semantics.proofs.Frames.{Stack, runs}
use Rattle.semantics.proofs.Running.{Rest, OutcomeOk}
use Rattle.semantics.proofs.Steps.{StateOk, DidAt}
use Rattle.semantics.proofs.Every.{chained}
use Rattle.semantics.proofs.Callable.{list_rows, good-calls}
use Rattle.semantics.proofs.Owning.{cell_here, nested, plain, entries-typed}
use Rattle.semantics.proofs.Causes.{stop_few}
use Rattle.semantics.proofs.Handing.{all_in, all_out}
use Rattle.semantics.proofs.Invariant.{BaseOk, MomentOk, EndOk, EventOk, outcome_ok, chain_ok, nothing_ok}
use Rattle.semantics.proofs.Decimal.{decimal-said}
use Rattle.semantics.proofs.Order.{each_once, rearranged_in, rises}
use Rattle.semantics.proofs.Ends.{ends, history-ends, history-last, calls_in-rows}

-- the bytes of the words of a text
pub spelled : ascii "call done stop row store ()\n" ≡ 99 ∷ 97 ∷ 108 ∷ 108 ∷ 32 ∷ 100 ∷ 111 ∷ 110 ∷ 101 ∷ 32 ∷ 115 ∷ 116 ∷ 111 ∷ 112 ∷ 32 ∷ 114 ∷ 111 ∷ 119 ∷ 32 ∷ 115 ∷ 116 ∷ 111 ∷ 114 ∷ 101 ∷ 32 ∷ 40 ∷ 41 ∷ 10 ∷ []
unfolding ascii
spelled = refl

-- what a text can tell: a number of 64 bits, or a record that exists, of a type below d
abbrev Tellable : List Cell → ℕ → Value → Type 0
Tellable rs d (num n) = n < past_numbers
Tellable rs d (obj id y) = (y < d) × Exists rs id y
Tellable rs d (refer w r) = ⊥

-- what a line of the store can tell: an entry of a record that exists
abbrev Stands : List Cell → Entry → Type 0
Stands rs (entry y a id) = (y < max_types) × (a < past_numbers) × Exists rs id y

-- values, where the fields of such records are told
values-told : (rs : List Cell) (d : ℕ) → d ≤ max_types → (f : ℕ → List ℕ) → ((id y : ℕ) (vs : List Value) → y < d → nth rs id ≡ some (here y vs) → Values rs vs (f id))
    → (vs : List Value) → All (Tellable rs d) vs → Values rs vs (values f vs)
values-told rs d l f g [] none_left = no_value
values-told rs d l f g (num n ∷ vs) (also k a) = a-number (decimal-said n k) (values-told rs d l f g vs a)
values-told rs d l f g (obj id y ∷ vs) (also k a) = a-record k.1.1 (decimal-said y (omega (arith, k.0))) (g id y k.1.0 k.0 k.1.1) (values-told rs d l f g vs a)
values-told rs d l f g (refer w r ∷ vs) (also k a) = absurd k

-- results are numbers
results-told : (vs : List Value) → All IsNumber vs → Values [] vs (values (λ (id : ℕ). []) vs)
results-told [] none_left = no_value
results-told (v ∷ vs) (also k a) = rw k.1 (a-number (decimal-said k.0 k.2) (results-told vs a))

module _ (rs : List Cell) (inner : Nested rs) (plainly : (id y : ℕ) (vs : List Value) → nth rs id ≡ some (here y vs) → All Plain vs) where
  -- the records in the fields of a record are of lower types
  fields_tellable : (d id y : ℕ) (vs : List Value) → y < suc d → nth rs id ≡ some (here y vs) → All (Tellable rs d) vs
  fields_tellable d id y vs l e = all_in (Tellable rs d) vs (λ v m. each v (all_out (plainly id y vs e) v m) m)
    where
      each : (v : Value) → Plain v → Mem v vs → Tellable rs d v
      each (num n) p m = p
      each (obj id' y') p m = let z = inner id y vs e id' y' m in (omega (arith, z.0), z.1)
      each (refer w r) p m = absurd p

  -- so that a depth above a record's type suffices for its fields
  fields_told : (d : ℕ) → d ≤ max_types → (id y : ℕ) (vs : List Value) → y < d → nth rs id ≡ some (here y vs) → Values rs vs (fields_text d rs id)
  unfolding fields_text
  fields_told zero l id y vs b e = absurd (omega arith)
  fields_told (suc d) l id y vs b e = rw e (values-told rs d (omega arith) (fields_text d rs) (fields_told d (omega arith)) vs (fields_tellable d id y vs b e))

  -- the store's lines
  store_told : (es : List Entry) → All (Stands rs) es → StoreLines rs es (entry_lines rs es)
  unfolding entry_lines entry_line
  store_told [] none_left = no_line
  store_told (entry y a id ∷ es) (also k s) =
      a-line k.2.1 (decimal-said y (omega (arith, k.0))) (decimal-said a k.1) (fields_told max_types (omega arith) id y k.2.0 k.0 k.2.1) (store_told es s)

-- The calls' lines. How a call ended: done with numbers, or stopped at a row of the table
abbrev EndsAs : ℕ → Outcome → Type 0
EndsAs row (next s) = ⊥
EndsAs row (finished vs s) = All IsNumber vs
EndsAs row (stopped k) = (k < past_numbers) × (row < max_rows)
EndsAs row stuck = ⊥

line-told : (i : ℕ) (before : Base) (s : State) (row : ℕ) (o : Outcome) (after : Base) (es : List Event) (more : List ℕ) → i < 256 → EndsAs row o → CallLines (i + 1) es more
    → CallLines i (ended before s row o after ∷ es) (call_line i row o ++ more)
unfolding call_line
line-told i before s row (next s') after es more l k c = absurd k
line-told i before s row (finished vs s') after es more l k c = is-done (decimal-said i (omega arith)) (results-told vs k) c
line-told i before s row (stopped j) after es more l k c = is-stopped (decimal-said i (omega arith)) (decimal-said j k.0) (decimal-said row (omega (arith, k.1))) c
line-told i before s row stuck after es more l k c = absurd k

module _ (t : List ℕ) (J : Judged t (index_of t)) where
  -- the row that comes up is one of the table
  row-few : (s : State) → StateOk t s → row_up t (index_of t) s < max_rows
  row-few (state fs h st n) v = go fs v.frames
    where
      go : (fs : List Frame) → Stack t (index_of t) v.T v.W fs → row_up t (index_of t) (state fs h st n) < max_rows
      go fs (runs {p} {i} f s) = let few = (J.procedure p f.there).low in omega (arith, code-place t p f.there few i f.inside, parts t p f.there few)

  ends_as : (before : Base) (s : State) (row : ℕ) (o : Outcome) (after : Base) → EndOk t J before s row o after → EndsAs row o
  ends_as before s row o after m = go o m.over (outcome_ok t J s row o m.last) m.last
    where
      go : (o : Outcome) → ((s' : State) → o ≡ next s' → ⊥) → OutcomeOk t (DidAt t s) o → MomentOk t J s row o → EndsAs row o
      go (next s') f k w = absurd (f s' refl)
      go (finished vs (state fs h st n)) f k w = k.2
      go (stopped j) f k w =
          let few : j < past_numbers = ⊎_elim (λ e. stop_few t (index_of t) s j (sym e)) (λ e. let q : j ≡ 31 = cc in omega (arith, q)) w.did in
          (few, rw w.at (row-few s w.holds))
      go stuck f k w = absurd k

  calls-told : (i : ℕ) (es : List Event) → i + ends es ≤ 256 → All (EventOk t J) es → CallLines i es (call_lines i es)
  unfolding call_lines
  calls-told i [] l none_left = no_call
  calls-told i (moment s r o ∷ es) l (also k a) = goes_on (calls-told i es l a)
  calls-told i (ended before s r o after ∷ es) l (also k a) =
      line-told i before s r o after es (call_lines (i + 1) es) (omega arith) (ends_as before s r o after k) (calls-told (i + 1) es (omega arith) a)

  -- what is printed of a store
  printed-told : (rs : List Cell) (st : List Entry) → Rest t rs st → StoreLines rs (sort_by entry_before st) (entry_lines rs (sort_by entry_before st))
  printed-told rs st v =
      store_told rs (nested t J v.T rs v.types v.records [] st v.owned) (plain t J v.T rs v.types v.records) (sort_by entry_before st) (all_in (Stands rs) (sort_by entry_before st) (λ x m. stands x ((rearranged_in (each_once st) x).1 m)))
    where
      stands : (x : Entry) → Mem x st → Stands rs x
      stands (entry y a id) m =
          let z = entries-typed t J v.T rs v.types v.records [] st v.store v.owned y a id m in
          ((J.declared y (cell_here t v.T rs id y z.0 v.records z.1).0).low, (all_out v.store (entry y a id) m).1, z)

-- the text of a good list over an accepted table tells its calls and the store that they leave
pub text_told : (t l : List ℕ) (n k : ℕ) → Bytes t → Bytes l → judge_of t ≡ Accepted n → list_of t (index_of t) l ≡ Accepted k → Told (history_of t l) (text_of (history_of t l))
unfolding text_of history_of BaseOk
text_told t l n k bt bl e d =
    let J = judged t n bt e in
    let good = good-calls t (index_of t) l k bl d in
    let es = history t (index_of t) (calls_of l) nothing in
    let called = calls-told t J 0 es (omega (arith, history-ends t (index_of t) (calls_of l) nothing, calls_in-rows l, list_rows t (index_of t) l k d)) (chain_ok t J (chained t (index_of t) (calls_of l) nothing) good (nothing_ok t J)) in
    at called (last_base es nothing) refl (history-last t J (calls_of l) nothing good (nothing_ok t J))
  where
    at : CallLines 0 (history_of t l) (call_lines 0 (history_of t l)) → (b : Base) → last_base (history_of t l) nothing ≡ b → BaseOk t (judged t n bt e) b → Told (history_of t l) (text_of (history_of t l))
    at c (base rs st m) q v = record {
      records = rs;
      store = st;
      frames = m;
      at-end = q;
      printed = sort_by entry_before st;
      each_once = each_once st;
      ordered = rises st v.1.keys;
      calls = call_lines 0 (history_of t l);
      called = c;
      lines = entry_lines rs (sort_by entry_before st);
      lined = printed-told t (judged t n bt e) rs st v.0;
      whole = rw q;
    }
