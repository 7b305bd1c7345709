-- A list of calls on the machine, and its text.
use Rattle.std.specs.Prelude.{ℕ, zero, suc, ◌+◌, ◌-◌, Bool, List, [], ◌∷◌, ◌++◌, map, length, replicate}
use Rattle.std.proofs.Math.Option.{Option, none, some}
use Rattle.std.proofs.Math.ListN.{get_elem? as nth}
use Rattle.laws.specs.Sorting.{sort_by}
use Rattle.table.specs.declared.index.Index.{Index}
use Rattle.table.specs.Format.{max_types}
use Rattle.declarations.specs.Program.{procedure_in, local_count}
use Rattle.semantics.specs.Machine.{num, state, finished, stopped}
use Rattle.semantics.specs.Calls.{Call, call}
use Rattle.semantics.specs.Ascii.{ascii}
use Rattle.semantics.specs.Text.{decimal, spaced, call_line, key_before}
use Rattle.state.specs.declared.Operand.{Operand}
use Rattle.state.specs.declared.Operand.TheVariants.{Empty, Number, Record, Refer}
use Rattle.machine.specs.code.Machine.{mframe, MRoom, mroom, MEntry, mentry, MState, mstate, mnext, mfinished, mstopped, mbroken, room_of}
use Rattle.machine.specs.code.Runs.{MEnd, mend, mrow, mgo}

-- what lasts from call to call: rooms, how many records there have been, the store, how many frames there have been
pub data MBase : Type 0 where
  mbase : List (Option MRoom) → ℕ → List MEntry → ℕ → MBase

-- 128 free rooms, an empty store
abbrev pub mnothing : MBase
mnothing = mbase (replicate 128 none) 0 [] 0

-- after a stop rooms and store are those of the call's beginning; the counts go on
abbrev pub mafter : MBase → MEnd → MBase
mafter b (mend s (mfinished xs (mstate f fs rooms recs es n))) = mbase rooms recs es n
mafter (mbase rooms recs es n) (mend (mstate f fs rooms' recs' es' n') (mstopped k)) = mbase rooms recs' es n'
mafter (mbase rooms recs es n) (mend (mstate f fs rooms' recs' es' n') (mnext m)) = mbase rooms recs' es n'
mafter (mbase rooms recs es n) (mend (mstate f fs rooms' recs' es' n') mbroken) = mbase rooms recs' es n'

-- the numbers among operands
abbrev pub numbers_of : List Operand → List ℕ
numbers_of [] = []
numbers_of (Empty ∷ xs) = numbers_of xs
numbers_of (Number n ∷ xs) = n ∷ numbers_of xs
numbers_of (Record s r y ∷ xs) = numbers_of xs
numbers_of (Refer r ∷ xs) = numbers_of xs

-- in a table with this index
module _ (t : List ℕ) (ix : Index) where
  -- the state in which a call of procedure q begins
  abbrev pub mbegin : ℕ → List ℕ → MBase → MState
  mbegin q args (mbase rooms recs es n) = mstate (mframe n q 0 [] (map Number args ++ replicate (local_count (procedure_in ix q) - length args) Empty)) [] rooms recs es (n + 1)

  -- the line of call i
  abbrev pub mline : ℕ → MEnd → List ℕ
  mline i (mend s (mfinished xs m)) = call_line i (mrow t ix s) (finished (map num (numbers_of xs)) (state [] [] [] 0))
  mline i (mend s (mstopped k)) = call_line i (mrow t ix s) (stopped k)
  mline i (mend s (mnext m)) = []
  mline i (mend s mbroken) = []

  -- the lines of the calls from call i on, and what there is at the end
  unfoldable pub mlines : ℕ → List Call → MBase → List ℕ
  mlines i [] b = []
  mlines i (call q budget args ∷ cs) b =
      let e = mgo t ix budget (mbegin q args b) in
      mline i e ++ mlines (i + 1) cs (mafter b e)

  unfoldable pub mlast : List Call → MBase → MBase
  mlast [] b = b
  mlast (call q budget args ∷ cs) b = mlast cs (mafter b (mgo t ix budget (mbegin q args b)))

-- values, each with a space before it; a nested record stands as (TYPE fields)
abbrev pub mvalues : (ℕ → ℕ → List ℕ) → List Operand → List ℕ
mvalues nested [] = []
mvalues nested (Empty ∷ xs) = mvalues nested xs
mvalues nested (Number n ∷ xs) = spaced (decimal n) ++ mvalues nested xs
mvalues nested (Record s r y ∷ xs) = spaced (ascii "(" ++ decimal y ++ nested s r ++ ascii ")") ++ mvalues nested xs
mvalues nested (Refer r ∷ xs) = mvalues nested xs

abbrev pub fields_of_room : Option MRoom → List Operand
fields_of_room none = []
fields_of_room (some (mroom s y xs)) = xs

-- the fields of record s in room r
unfoldable pub mfields : ℕ → List (Option MRoom) → ℕ → ℕ → List ℕ
mfields zero rooms s r = []
mfields (suc depth) rooms s r = mvalues (mfields depth rooms) (fields_of_room (room_of (nth rooms r) s))

-- the store's lines
unfoldable pub mentry_line : List (Option MRoom) → MEntry → List ℕ
mentry_line rooms (mentry y a s r) = ascii "store" ++ spaced (decimal y) ++ spaced (decimal a) ++ mfields max_types rooms s r ++ ascii "\n"

unfoldable pub mentry_lines : List (Option MRoom) → List MEntry → List ℕ
mentry_lines rooms [] = []
mentry_lines rooms (e ∷ es) = mentry_line rooms e ++ mentry_lines rooms es

-- in order: by type, then by address
abbrev pub mentry_before : MEntry → MEntry → Bool
mentry_before (mentry y a s r) (mentry y' a' s' r') = key_before y a y' a'

abbrev pub min_order : List (Option MRoom) → List MEntry → List ℕ
min_order rooms es = mentry_lines rooms (sort_by mentry_before es)

abbrev pub mstore_lines : MBase → List ℕ
mstore_lines (mbase rooms recs es n) = min_order rooms es

-- the whole text
unfoldable pub mtext : List ℕ → Index → List Call → List ℕ
mtext t ix cs = mlines t ix 0 cs mnothing ++ mstore_lines (mlast t ix cs mnothing)
