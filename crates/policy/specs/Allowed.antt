-- What a rule file asks, in paper 7's words: said of its bytes and of the rows of a table, with nothing of the rule (`Policy`).
use Rattle.std.specs.Prelude.{ℕ, ◌+◌, ◌*◌, ◌<◌, ◌≤◌, ◌≡◌, List, ◌⊎◌, length, get_or}
use Rattle.laws.specs.Lists.{count}
use Rattle.table.specs.Format.{module_kind, instruction_kind, op_call}
use Rattle.table.specs.Refusals.{bad_rules, unruled_pair, forbidden_call}
use Rattle.table.specs.Rows.{row_count, row_at, kind_at, is_kind}
use Rattle.table.specs.Index.{owner_at}
use Rattle.table.specs.Procedures.{procedure_row}

-- The file r: 1 to 256 rows of 16 bytes
abbrev pub GoodLength : List ℕ → Type 0
GoodLength r = (n : ℕ) × (1 ≤ n) × (n ≤ 256) × (length r ≡ 16 * n)

-- byte k of row i
abbrev pub byte : List ℕ → ℕ → ℕ → ℕ
byte r i k = get_or r (16 * i + k) 0

-- row i
pub record GoodRule (r : List ℕ) (i : ℕ) : Type 0 where
  pub kind : byte r i 0 ≡ 1
  pub choice : (byte r i 1 ≡ 0) ⊎ (byte r i 1 ≡ 1)
  pub callers : (byte r i 4 ≤ byte r i 5) × (byte r i 5 ≤ 15)
  pub called : (byte r i 6 ≤ byte r i 7) × (byte r i 7 ≤ 15)
  pub zeros : (k : ℕ) → ((2 ≤ k) × (k ≤ 3)) ⊎ ((8 ≤ k) × (k ≤ 15)) → byte r i k ≡ 0

-- the pair of the calling module c and the called module d stands under row i
abbrev pub Under : List ℕ → ℕ → ℕ → ℕ → Type 0
Under r c d i = (i < row_count r) × (byte r i 4 ≤ c) × (c ≤ byte r i 5) × (byte r i 6 ≤ d) × (d ≤ byte r i 7)

-- under precisely one; under precisely one, which allows
abbrev pub UnderOne : List ℕ → ℕ → ℕ → Type 0
UnderOne r c d = (i : ℕ) × Under r c d i × ((j : ℕ) → Under r c d j → j ≡ i)

abbrev pub MayCall : List ℕ → ℕ → ℕ → Type 0
MayCall r c d = (i : ℕ) × Under r c d i × ((j : ℕ) → Under r c d j → j ≡ i) × (byte r i 1 ≡ 1)

-- The table t: how many modules there are; row i is a Call, of the module that it stands in, to that of the procedure that it names
abbrev pub module_count : List ℕ → ℕ
module_count t = count (is_kind t module_kind) (row_count t)

abbrev pub IsCall : List ℕ → ℕ → Type 0
IsCall t i = (i < row_count t) × (kind_at t i ≡ instruction_kind) × ((row_at t i).a ≡ op_call)

abbrev pub called_at : List ℕ → ℕ → ℕ
called_at t i = owner_at t (procedure_row t (row_at t i).b)

-- the file allows the table
pub record Allowed (r t : List ℕ) : Type 0 where
  pub rows : GoodLength r
  pub each : (i : ℕ) → i < row_count r → GoodRule r i
  pub pairs : (c d : ℕ) → c < module_count t → d < module_count t → UnderOne r c d
  pub calls : (i : ℕ) → IsCall t i → MayCall r (owner_at t i) (called_at t i)

-- it does not: 20, with the rule row, or 0 for the length; 21, with 16 times caller plus called; 22, with the Call's row in the table
pub data Disallowed (r t : List ℕ) : ℕ → ℕ → Type 0 where
  wrong-length : ¬ (GoodLength r) → Disallowed r t bad_rules 0
  wrong_row : (i : ℕ) → i < row_count r → ¬ (GoodRule r i) → Disallowed r t bad_rules i
  wrong-pair : (c d : ℕ) → c < module_count t → d < module_count t → ¬ (UnderOne r c d) → Disallowed r t unruled_pair (16 * c + d)
  wrong-call : (i : ℕ) → IsCall t i → ¬ (MayCall r (owner_at t i) (called_at t i)) → Disallowed r t forbidden_call i

-- the lowest number for which there is a cause, with its lowest value
pub record Foremost (E : ℕ → ℕ → Type 0) (number value : ℕ) : Type 0 where
  pub cause : E number value
  pub lowest : (number' value' : ℕ) → E number' value' → (number < number') ⊎ ((number ≡ number') × (value ≤ value'))
