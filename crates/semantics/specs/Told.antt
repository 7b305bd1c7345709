-- What the text of a list of calls tells (document 01, "Running"; document 02, paper 3), said apart from the rule that writes it: a line for each call,
-- then a line for each entry of the store as it is at the end, rising by type, then by address.
use Rattle.std.specs.Prelude.{ℕ, ◌+◌, ◌*◌, ◌<◌, ◌≤◌, ◌≡◌, List, [], ◌∷◌, ◌++◌}
use Rattle.std.proofs.Math.Option.{some}
use Rattle.std.proofs.Math.ListN.{get_elem? as nth}
use Rattle.semantics.specs.Machine.{Value, num, obj, Cell, here, Entry, entry, State, Outcome, finished, stopped}
use Rattle.semantics.specs.History.{Base, base, Event, moment, ended, nothing, last_base}
use Rattle.semantics.specs.Ascii.{ascii}
use Rattle.semantics.specs.Claim.{All}

-- a number in decimal: the digit of the highest place first, no 0 before others; the byte of digit d is 48 + d
pub data Decimal : ℕ → List ℕ → Type 0 where
  one-digit : {n : ℕ} → n < 10 → Decimal n ((48 + n) ∷ [])
  more-digits : {m n d : ℕ} {w : List ℕ} → m ≡ 10 * n + d → 1 ≤ n → d < 10 → Decimal n w → Decimal m (w ++ ((48 + d) ∷ []))

-- a space before a word
abbrev pub space : List ℕ → List ℕ
space word = ascii " " ++ word

-- values, a space before each: a number in decimal, a record as (TYPE FIELDS) with the fields that it has, to any nesting
pub data Values (rs : List Cell) : List Value → List ℕ → Type 0 where
  no_value : Values rs [] []
  a-number : {n : ℕ} {vs : List Value} {w more : List ℕ} → Decimal n w → Values rs vs more → Values rs (num n ∷ vs) (space w ++ more)
  a-record : {id y : ℕ} {fields vs : List Value} {w inner more : List ℕ} → nth rs id ≡ some (here y fields) → Decimal y w → Values rs fields inner → Values rs vs more
      → Values rs (obj id y ∷ vs) (space (ascii "(" ++ w ++ inner ++ ascii ")") ++ more)

-- a line for each entry, in the order of the list
pub data StoreLines (rs : List Cell) : List Entry → List ℕ → Type 0 where
  no_line : StoreLines rs [] []
  a-line : {y a id : ℕ} {fields : List Value} {es : List Entry} {w v u more : List ℕ} → nth rs id ≡ some (here y fields) → Decimal y w → Decimal a v → Values rs fields u → StoreLines rs es more
      → StoreLines rs (entry y a id ∷ es) (ascii "store" ++ space w ++ space v ++ u ++ ascii "\n" ++ more)

-- a line for each call that ended, counted from i: done, with its results, which are numbers (there is no record among no records), or the stop and the
-- row of the instruction not done
pub data CallLines : ℕ → List Event → List ℕ → Type 0 where
  no_call : {i : ℕ} → CallLines i [] []
  goes_on : {i r : ℕ} {s : State} {o : Outcome} {es : List Event} {lines : List ℕ} → CallLines i es lines → CallLines i (moment s r o ∷ es) lines
  is-done : {i r : ℕ} {before after : Base} {s s' : State} {vs : List Value} {es : List Event} {w u more : List ℕ} → Decimal i w → Values [] vs u → CallLines (i + 1) es more
      → CallLines i (ended before s r (finished vs s') after ∷ es) (ascii "call" ++ space w ++ (space (ascii "done") ++ u) ++ ascii "\n" ++ more)
  is-stopped : {i k r : ℕ} {before after : Base} {s : State} {es : List Event} {w u v more : List ℕ} → Decimal i w → Decimal k u → Decimal r v → CallLines (i + 1) es more
      → CallLines i (ended before s r (stopped k) after ∷ es) (ascii "call" ++ space w ++ (space (ascii "stop") ++ space u ++ space (ascii "row") ++ space v) ++ ascii "\n" ++ more)

-- the key of an entry is below that of another: its type is lower, or the types are the same and its address is lower
pub data KeyBelow : Entry → Entry → Type 0 where
  lower-type : {y y' a a' id id' : ℕ} → y < y' → KeyBelow (entry y a id) (entry y' a' id')
  lower-address : {y a a' id id' : ℕ} → a < a' → KeyBelow (entry y a id) (entry y a' id')

-- the key of each entry is below the keys of all entries after it
pub data Ordered : List Entry → Type 0 where
  no-entry : Ordered []
  lowest-first : {e : Entry} {es : List Entry} → All (KeyBelow e) es → Ordered es → Ordered (e ∷ es)

-- two lists with the same entries, each as often, in any order
pub data Rearranged : List Entry → List Entry → Type 0 where
  -- both are empty
  none_at_all : Rearranged [] []
  -- they begin with the same entry, and the rest is rearranged
  same_first : {e : Entry} {es es' : List Entry} → Rearranged es es' → Rearranged (e ∷ es) (e ∷ es')
  -- the first two entries are swapped, and the rest stays
  first-swapped : {e e' : Entry} {es : List Entry} → Rearranged (e ∷ e' ∷ es) (e' ∷ e ∷ es)
  -- one rearrangement after another
  one-after-another : {es es' es'' : List Entry} → Rearranged es es' → Rearranged es' es'' → Rearranged es es''

-- the text of a history: the lines of its calls, and those of the entries that the store has at the end, each once, in the order of their keys
pub record Told (es : List Event) (text : List ℕ) : Type 0 where
  pub records : List Cell
  pub store : List Entry
  pub frames : ℕ
  pub at-end : last_base es nothing ≡ base records store frames
  pub printed : List Entry
  pub each_once : Rearranged store printed
  pub ordered : Ordered printed
  pub calls : List ℕ
  pub called : CallLines 0 es calls
  pub lines : List ℕ
  pub lined : StoreLines records printed lines
  pub whole : text ≡ calls ++ lines
