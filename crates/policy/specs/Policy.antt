-- The rule file, rules.bin: which module may call which (document 02, paper 7): refusals 20 to 22. A file is a list of bytes; its rows have 16 bytes each.
use Rattle.std.specs.Prelude.{ℕ, ◌+◌, ◌*◌, ◌/◌, ◌%◌, Bool, false, cond, not, ◌&&◌, ◌||◌, List, [], ◌∷◌, eqb, ltb, leb, length, get_or}
use Rattle.laws.specs.Lists.{hits}
use Rattle.table.specs.Verdicts.{Verdict, Accepted, Refused, pass_over, and_then}
use Rattle.table.specs.declared.index.Index.{Index}
use Rattle.table.specs.declared.index.ProcedureEntry.{ProcedureEntry}
use Rattle.table.specs.Format.{row_bytes, max_modules, op_call}
use Rattle.table.specs.Refusals.{bad_rules, unruled_pair, forbidden_call}
use Rattle.table.specs.Rows.{row_count, row_at}
use Rattle.table.specs.Index.{index_of}
use Rattle.declarations.specs.Program.{procedure_in, code_of, code_pass}

-- at most so many rows
abbrev pub max_rules : ℕ
max_rules = 256

-- byte k of rule row i
unfoldable pub rule_byte : List ℕ → ℕ → ℕ → ℕ
rule_byte r i k = get_or r (row_bytes * i + k) 0

-- of rule row i: whether it allows; the first and the last calling module; the first and the last called module
abbrev pub allows : List ℕ → ℕ → Bool
allows r i = eqb (rule_byte r i 1) 1

abbrev pub first_caller : List ℕ → ℕ → ℕ
first_caller r i = rule_byte r i 4

abbrev pub last_caller : List ℕ → ℕ → ℕ
last_caller r i = rule_byte r i 5

abbrev pub first_called : List ℕ → ℕ → ℕ
first_called r i = rule_byte r i 6

abbrev pub last_called : List ℕ → ℕ → ℕ
last_called r i = rule_byte r i 7

-- the bytes that are zero
abbrev pub zero_bytes : List ℕ
zero_bytes = 2 ∷ 3 ∷ 8 ∷ 9 ∷ 10 ∷ 11 ∷ 12 ∷ 13 ∷ 14 ∷ 15 ∷ []

unfoldable pub not_zero : List ℕ → ℕ → List ℕ → Bool
not_zero r i [] = false
not_zero r i (k ∷ ks) = not (eqb (rule_byte r i k) 0) || not_zero r i ks

-- modules are numbered from 0 to 15, and the first is not above the last
abbrev pub bad_range : ℕ → ℕ → Bool
bad_range first last = ltb last first || leb max_modules last

-- 20: no rows, more than 256, or a last one that is not whole; a row whose byte 0 is not 1, whose byte 1 is neither 1 nor 0, with a bad range, or with
-- another byte that is not zero
unfoldable pub bad_rule : List ℕ → ℕ → Bool
bad_rule r i =
    not (eqb (rule_byte r i 0) 1) || ltb 1 (rule_byte r i 1) || bad_range (first_caller r i) (last_caller r i) || bad_range (first_called r i) (last_called r i)
    || not_zero r i zero_bytes

unfoldable pub rule_fault : List ℕ → ℕ → ℕ
rule_fault r i = cond (bad_rule r i) bad_rules 0

unfoldable pub file_of : List ℕ → Verdict
file_of r =
    cond (eqb (length r) 0 || not (eqb (length r % row_bytes) 0) || ltb (row_bytes * max_rules) (length r))
    (Refused bad_rules 0)
    (pass_over (rule_fault r) (row_count r))

-- whether the pair of the calling module c and the called module d stands under rule row i; all the rows that it stands under
unfoldable pub covers : List ℕ → ℕ → ℕ → ℕ → Bool
covers r c d i = leb (first_caller r i) c && leb c (last_caller r i) && leb (first_called r i) d && leb d (last_called r i)

unfoldable pub rules_for : List ℕ → ℕ → ℕ → List ℕ
rules_for r c d = hits (covers r c d) (row_count r)

-- 21: a pair of modules that are there under no row, or under several; pair k is 16 times caller plus called
unfoldable pub pair_fault : List ℕ → ℕ → ℕ → ℕ
pair_fault r modules k =
    cond (ltb (k / max_modules) modules && ltb (k % max_modules) modules && not (eqb (length (rules_for r (k / max_modules) (k % max_modules))) 1)) unruled_pair 0

unfoldable pub pairs_of : List ℕ → ℕ → Verdict
pairs_of r modules = pass_over (pair_fault r modules) (max_modules * max_modules)

-- whether a pair may call: it stands under one row, and that row allows
abbrev pub allowed_by : List ℕ → List ℕ → Bool
allowed_by r [] = false
allowed_by r (i ∷ []) = allows r i
allowed_by r (i ∷ j ∷ is) = false

unfoldable pub permits : List ℕ → ℕ → ℕ → Bool
permits r c d = allowed_by r (rules_for r c d)

-- 22: a Call, reached or not, from procedure p to one that p's module may not call
unfoldable pub call_fault : List ℕ → List ℕ → Index → ProcedureEntry → ℕ → ℕ
call_fault r t ix p i =
    let row = row_at (code_of t p) i in
    cond (eqb row.a op_call && not (permits r p.owner (procedure_in ix row.b).owner)) forbidden_call 0

-- the file, then its pairs, then the table's Calls, with a given index
unfoldable pub rules_with : List ℕ → Index → List ℕ → Verdict
rules_with r ix t = and_then (file_of r) (and_then (pairs_of r ix.modules) (code_pass (λ (q : ℕ). call_fault r t ix) ix t))

-- what the rule file r says of a table; `has` is 0 where there is no file, and then r is not looked at
unfoldable pub rules_of : ℕ → List ℕ → List ℕ → Verdict
rules_of has r t = cond (eqb has 0) (Accepted (row_count t)) (rules_with r (index_of t) t)
