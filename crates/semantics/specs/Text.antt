-- The text of a history (document 01, "Running"), as bytes.
use Rattle.std.specs.Prelude.{ℕ, zero, suc, ◌+◌, ◌/◌, ◌%◌, Bool, cond, List, [], ◌∷◌, ◌++◌, eqb, ltb}
use Rattle.std.proofs.Math.Option.{Option, none, some}
use Rattle.std.proofs.Math.ListN.{get_elem? as nth}
use Rattle.laws.specs.Sorting.{sort_by}
use Rattle.table.specs.Format.{max_types}
use Rattle.semantics.specs.Machine.{Value, num, obj, refer, Cell, gone, here, Entry, entry, Outcome, next, finished, stopped, stuck}
use Rattle.semantics.specs.Ascii.{ascii}
use Rattle.semantics.specs.History.{Base, base, Event, moment, ended, nothing, last_base}

-- a number in decimal; 64 bits have at most 20 digits
unfoldable pub digits : ℕ → ℕ → List ℕ → List ℕ
digits zero n after = after
digits (suc k) n after = cond (ltb n 10) ((48 + n) ∷ after) (digits k (n / 10) ((48 + n % 10) ∷ after))

unfoldable pub decimal : ℕ → List ℕ
decimal n = digits 20 n []

-- a space before each word
abbrev pub spaced : List ℕ → List ℕ
spaced word = ascii " " ++ word

-- the fields of the record in a cell
abbrev pub fields_in : Option Cell → List Value
fields_in none = []
fields_in (some (gone y)) = []
fields_in (some (here y vs)) = vs

-- values, each with a space before it; a nested record stands as (TYPE fields). A field's type is lower than its record's, so that records nest less
-- deep than there are types
abbrev pub values : (ℕ → List ℕ) → List Value → List ℕ
values nested [] = []
values nested (num n ∷ vs) = spaced (decimal n) ++ values nested vs
values nested (obj id y ∷ vs) = spaced (ascii "(" ++ decimal y ++ nested id ++ ascii ")") ++ values nested vs
values nested (refer w r ∷ vs) = values nested vs

unfoldable pub fields_text : ℕ → List Cell → ℕ → List ℕ
fields_text zero rs id = []
fields_text (suc depth) rs id = values (fields_text depth rs) (fields_in (nth rs id))

-- a line for an entry of the store
unfoldable pub entry_line : List Cell → Entry → List ℕ
entry_line rs (entry y a id) = ascii "store" ++ spaced (decimal y) ++ spaced (decimal a) ++ fields_text max_types rs id ++ ascii "\n"

unfoldable pub entry_lines : List Cell → List Entry → List ℕ
entry_lines rs [] = []
entry_lines rs (e ∷ es) = entry_line rs e ++ entry_lines rs es

-- the end of call i: done and its results, or the stop and the row of the instruction not done
abbrev pub ending : ℕ → Outcome → List ℕ
ending row (finished vs s) = spaced (ascii "done") ++ values (λ (id : ℕ). []) vs
ending row (stopped k) = spaced (ascii "stop") ++ spaced (decimal k) ++ spaced (ascii "row") ++ spaced (decimal row)
ending row (next s) = spaced (ascii "stuck")
ending row stuck = spaced (ascii "stuck")

unfoldable pub call_line : ℕ → ℕ → Outcome → List ℕ
call_line i row o = ascii "call" ++ spaced (decimal i) ++ ending row o ++ ascii "\n"

-- a line for each call, counted from i
unfoldable pub call_lines : ℕ → List Event → List ℕ
call_lines i [] = []
call_lines i (moment s r o ∷ es) = call_lines i es
call_lines i (ended before s r o after ∷ es) = call_line i r o ++ call_lines (i + 1) es

-- the order of the store's lines (document 02, paper 3): by type, then by address, both as numbers
abbrev pub key_before : ℕ → ℕ → ℕ → ℕ → Bool
key_before y a y' a' = cond (eqb y y') (ltb a a') (ltb y y')

abbrev pub entry_before : Entry → Entry → Bool
entry_before (entry y a id) (entry y' a' id') = key_before y a y' a'

-- the store's lines, in this order
abbrev pub store_lines : Base → List ℕ
store_lines (base rs st n) = entry_lines rs (sort_by entry_before st)

-- the whole text
unfoldable pub text_of : List Event → List ℕ
text_of es = call_lines 0 es ++ store_lines (last_base es nothing)
