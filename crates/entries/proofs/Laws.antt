-- Laws of what is looked up of a row, of the rows that make marks, and of the arrays filled row by row.
use Prim.Native.Nat.{ℕ, zero, suc, ◌+◌, ◌-◌, ◌/◌, ◌<◌}
use mathlib.Core.Path.{◌≡◌, refl, sym, ap, ◌∙◌}
use mathlib.Core.Bool.{Bool, true, false, cond, ◌&&◌, ◌||◌, or-true}
use mathlib.Core.List.{List}
use native.Mathlib.Decide.{ℕ_discrete}
use native.Mathlib.Numerals.{add-one}
use native.Mathlib.Omega.{arith}
use borrow.Author.Tests.{eq-eqb, ne_eqb}
use lib.Dec.{eqb}
use lib.ListN.{length, get_or, set}
use lib.Seq.{get_or-set_same, get_or-set_other}
use Rattle.laws.specs.Lists.{count}
use Rattle.laws.proofs.Lists.{count_yes, count_no}
use Rattle.table.specs.declared.Row.{Row}
use Rattle.table.specs.declared.index.Index.{Index}
use Rattle.table.specs.declared.index.TypeEntry.{TypeEntry}
use Rattle.table.specs.declared.index.ProcedureEntry.{ProcedureEntry}
use Rattle.table.specs.Format.{procedure_kind, instruction_kind, op_borrow_fld, op_call, op_ret}
use Rattle.table.specs.Rows.{row_at, kind_at, is_kind}
use Rattle.declarations.specs.Program.{type_in, procedure_in}
use Rattle.operands.specs.Operands.{named_type}
use Rattle.helpers.specs.Tables.{is_private, is_helper, borrows_guarded}
use Rattle.entries.specs.declared.RowEntry.{RowEntry}
use Rattle.entries.specs.code.Entries.{kept, sends_to, head_entry, code_entry, no_entry, entry_by, entry_for, entry_at, Filled, makes_at, makes_some}

-- where an instruction sends the marks of what it takes
module _ (t : List ℕ) (p callee : ProcedureEntry) (row : Row) where
  pub sends-call : {r : ℕ} → row.a ≡ op_call → is_helper t p callee ≡ true → r ≡ kept callee.row → r ≡ sends_to t p callee row
  unfolding sends_to
  sends-call e h q = rw (e, h) q

  pub sends_out : row.a ≡ op_call → is_helper t p callee ≡ false → 0 ≡ sends_to t p callee row
  unfolding sends_to
  sends_out e h = rw (e, h) refl

  pub sends_back : {r : ℕ} → row.a ≡ op_ret → is_private t p ≡ true → r ≡ kept p.row → r ≡ sends_to t p callee row
  unfolding sends_to
  sends_back e h q = rw (e, h) q

  pub sends_up : row.a ≡ op_ret → is_private t p ≡ false → 0 ≡ sends_to t p callee row
  unfolding sends_to
  sends_up e h = rw (e, h) refl

  pub sends_none : (row.a ≡ op_call → ⊥) → (row.a ≡ op_ret → ⊥) → 0 ≡ sends_to t p callee row
  unfolding sends_to
  sends_none e h = rw (ne_eqb row.a op_call e, ne_eqb row.a op_ret h) refl

-- whether a row is of kind k
kind_is : (t : List ℕ) (k i : ℕ) {row : Row} → row ≡ row_at t i → is_kind t k i ≡ eqb row.kind k
unfolding is_kind kind_at
kind_is t k i e = ap (λ (r : Row). eqb r.kind k) (sym e)

-- the rows that make marks of themselves
module _ (t : List ℕ) (ix : Index) where
  module _ (i : ℕ) {row : Row} (e : row ≡ row_at t i) where
    pub makes_other : (row.a ≡ op_borrow_fld → ⊥) → false ≡ makes_at t ix i
    unfolding makes_at borrows_guarded
    makes_other h = rw (← e, ne_eqb row.a op_borrow_fld h) (go (is_kind t instruction_kind i))
      where
        go : (b : Bool) → false ≡ (b && false)
        go true = refl
        go false = refl

    pub makes_is : {named : TypeEntry} {y : ℕ} → y ≡ cond (eqb row.a op_borrow_fld) (row.b / 8) row.b → named ≡ type_in ix y
        → makes_at t ix i ≡ (eqb row.kind instruction_kind && borrows_guarded t named row)
    unfolding makes_at named_type
    makes_is s n = rw (kind_is t instruction_kind i e, ← e, ← s, ← n) refl

  -- one of the first n rows that makes a mark
  pub some_at : (r n : ℕ) → r < n → makes_at t ix r ≡ true → makes_some t ix n ≡ true
  unfolding makes_some
  some_at r zero h e = absurd (omega arith)
  some_at r (suc n) h e = go (ℕ_discrete r n) (λ l. some_at r n l e)
    where
      go : Dec (r ≡ n) → (r < n → makes_some t ix n ≡ true) → (makes_some t ix n || makes_at t ix n) ≡ true
      go (yes d) below = rw (← d, e, or-true) refl
      go (no d) below = rw (below (omega arith)) refl

  pub some_next : (n : ℕ) → makes_some t ix n ≡ false → makes_at t ix n ≡ false → makes_some t ix (n + 1) ≡ false
  unfolding makes_some
  some_next n h e = rw (add-one n, h, e) refl

  pub some_none : makes_some t ix 0 ≡ false
  unfolding makes_some
  some_none = refl

-- the entry of a row, by its kind
module _ (t : List ℕ) (above : ℕ) (head own : ProcedureEntry) (named : TypeEntry) (callee : ProcedureEntry) (row : Row) where
  pub entry_head : {x : RowEntry} → row.kind ≡ procedure_kind → x ≡ head_entry t head above → x ≡ entry_by t above head own named callee row
  unfolding entry_by
  entry_head k q = rw k q

  pub entry-none : (row.kind ≡ procedure_kind → ⊥) → (row.kind ≡ instruction_kind → ⊥) → no_entry ≡ entry_by t above head own named callee row
  unfolding entry_by
  entry-none h k = rw (ne_eqb row.kind procedure_kind h, ne_eqb row.kind instruction_kind k) refl

  pub entry-code : {x : RowEntry} → row.kind ≡ instruction_kind → x ≡ code_entry t own named callee row → x ≡ entry_by t above head own named callee row
  unfolding entry_by
  entry-code k q = rw (ne_eqb row.kind procedure_kind (λ z. omega (arith, k, z)), eq-eqb row.kind instruction_kind k) q

-- the entry of a row, from what is looked up for it in the index
pub entry_looked : (t : List ℕ) (ix : Index) (above : ℕ) (row : Row) {x : RowEntry} {head own callee : ProcedureEntry} {named : TypeEntry}
    → head ≡ procedure_in ix above → own ≡ procedure_in ix (above - 1) → named ≡ named_type ix row → callee ≡ procedure_in ix row.b
    → x ≡ entry_by t above head own named callee row → x ≡ entry_for t ix above row
unfolding entry_for
entry_looked t ix above row h o n d q = rw (← h, ← o, ← n, ← d) q

-- how many procedures there are above a row, a row on
pub count_next : (t : List ℕ) (r : ℕ) {above next : ℕ} {row : Row} → row ≡ row_at t r → above ≡ count (is_kind t procedure_kind) r → next ≡ cond (eqb row.kind procedure_kind) (above + 1) above
    → next ≡ count (is_kind t procedure_kind) (r + 1)
count_next t r {above} {next} {row} e a q = go (eqb row.kind procedure_kind) refl
  where
    go : (b : Bool) → eqb row.kind procedure_kind ≡ b → next ≡ count (is_kind t procedure_kind) (r + 1)
    go true p = omega (arith, a, rw p at q, count_yes (is_kind t procedure_kind) r (kind_is t procedure_kind r e ∙ p))
    go false p = omega (arith, a, rw p at q, count_no (is_kind t procedure_kind) r (kind_is t procedure_kind r e ∙ p))

-- the entry of row r, from what the code reads of it
entry-is : (t : List ℕ) (ix : Index) (r : ℕ) {above : ℕ} {row : Row} {x : RowEntry} → above ≡ count (is_kind t procedure_kind) r → row ≡ row_at t r → x ≡ entry_for t ix above row → x ≡ entry_at t ix r
unfolding entry_at
entry-is t ix r a w q = rw (← a, ← w) q

module _ (t : List ℕ) (ix : Index) (rows : List RowEntry) where
  -- no row is filled
  pub filled_none : Filled t ix rows 0
  filled_none = record { entries-are = λ r h. absurd (omega arith) }

  -- the entry of row r is put
  pub filled_next : (r : ℕ) {above : ℕ} {row : Row} {x : RowEntry} → Filled t ix rows r → r < length rows
      → above ≡ count (is_kind t procedure_kind) r → row ≡ row_at t r → x ≡ entry_for t ix above row
      → Filled t ix (set rows r x) (r + 1)
  filled_next r {x = x} before room a w q = record { entries-are = λ k l. go k l (ℕ_discrete k r) }
    where
      go : (k : ℕ) → k < r + 1 → Dec (k ≡ r) → get_or (set rows r x) k no_entry ≡ entry_at t ix k
      go k l (yes e) = rw e (get_or-set_same rows r x no_entry room ∙ entry-is t ix r a w q)
      go k l (no e) = get_or-set_other rows r k x no_entry e ∙ before.entries-are k (omega arith)
