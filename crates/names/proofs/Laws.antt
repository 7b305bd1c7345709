-- Laws of counts, of what an operand names by opcode, and of the entries and counts that a row is judged by.
use Prim.Native.Nat.{ℕ, ◌+◌, ◌-◌, ◌/◌, ◌<◌, ◌≤◌}
use mathlib.Core.Path.{◌≡◌, refl, sym, ap, ◌∙◌}
use mathlib.Core.Bool.{Bool, true, false, cond}
use mathlib.Core.List.{List}
use native.Mathlib.Decide.{dec_lt}
use native.Mathlib.Omega.{arith}
use borrow.Author.Tests.{le-leb, lt-leb}
use lib.Dec.{eqb, leb}
use lib.ListN.{get_or}
use Rattle.laws.specs.Lists.{tabulate, count}
use Rattle.laws.proofs.Lists.{get_d_tabulate, count_yes, count_no}
use Rattle.table.specs.declared.Row.{Row}
use Rattle.table.specs.declared.index.Index.{Index}
use Rattle.table.specs.declared.index.ProcedureEntry.{ProcedureEntry}
use Rattle.table.specs.declared.index.TypeEntry.{TypeEntry}
use Rattle.table.specs.Format.{type_kind, procedure_kind}
use Rattle.table.specs.Rows.{row_at, kind_at, is_kind}
use Rattle.declarations.specs.Program.{type_in, procedure_in}
use Rattle.names.specs.Names.{Named, names, nothing, name_fault, fault_at}

-- a bound on a difference is one on what it is taken from
pub leb_minus : (x y b : ℕ) → leb (x - y) b ≡ leb x (y + b)
leb_minus x y b = go (dec_lt (y + b) x)
  where
    go : Dec (y + b < x) → leb (x - y) b ≡ leb x (y + b)
    go (yes h) = lt-leb (x - y) b (omega arith) ∙ sym (lt-leb x (y + b) (omega arith))
    go (no h) = le-leb (x - y) b (omega arith) ∙ sym (le-leb x (y + b) (omega arith))

-- the k opcodes from a on name the same
pub named-alike : (a k : ℕ) (v : Named) → tabulate (λ (i : ℕ). get_or names (a + i) nothing) k ≡ tabulate (λ (i : ℕ). v) k → (x : ℕ) → a ≤ x → x < a + k → get_or names x nothing ≡ v
named-alike a k v e x lo hi =
    let s : x ≡ a + (x - a) = omega arith in
    let h : x - a < k = omega arith in
    ap (λ (i : ℕ). get_or names i nothing) s
    ∙ sym (get_d_tabulate (λ (i : ℕ). get_or names (a + i) nothing) nothing k (x - a) h)
    ∙ ap (λ (l : List Named). get_or l (x - a) nothing) e
    ∙ get_d_tabulate (λ (i : ℕ). v) nothing k (x - a) h

-- the rows of a kind above the next row
pub count_next : (t : List ℕ) (k i n : ℕ) (row : Row) → row ≡ row_at t i → n ≡ count (is_kind t k) i → cond (eqb row.kind k) (n + 1) n ≡ count (is_kind t k) (i + 1)
unfolding is_kind kind_at
count_next t k i n row e q = rw e (go (is_kind t k i) refl)
  where
    go : (b : Bool) → is_kind t k i ≡ b → cond b (n + 1) n ≡ count (is_kind t k) (i + 1)
    go true h = ap (λ (n : ℕ). n + 1) q ∙ sym (count_yes (is_kind t k) i h)
    go false h = q ∙ sym (count_no (is_kind t k) i h)

-- the procedure that the next row stands in; b says that one starts at this row, and p of them begin above
pub own-next : (ix : Index) (b : Bool) (p q : ℕ) (starts own : ProcedureEntry) {next : ProcedureEntry} → q ≡ cond b (p + 1) p → next ≡ cond b starts own
    → starts ≡ procedure_in ix p → own ≡ procedure_in ix (p - 1) → next ≡ procedure_in ix (q - 1)
own-next ix true p q starts own e h s o = let z : q - 1 ≡ p = omega arith in rw z (h ∙ s)
own-next ix false p q starts own e h s o = rw e (h ∙ o)

-- the fault of row i, of what is known when the pass comes to it
pub fault_here : (t : List ℕ) (ix : Index) (i y p : ℕ) (named : TypeEntry) (own starts : ProcedureEntry) (row : Row)
    → row ≡ row_at t i → y ≡ count (is_kind t type_kind) i → p ≡ count (is_kind t procedure_kind) i
    → named ≡ type_in ix (row.b / 8) → own ≡ procedure_in ix (p - 1) → starts ≡ procedure_in ix p
    → fault_at t ix i ≡ name_fault t ix.types ix.procedures y named own starts row
unfolding fault_at
fault_here t ix i y p named own starts row e1 e2 e3 e4 e5 e6 = cc
