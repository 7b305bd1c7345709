-- What the rows of a table name exists, where the names pass accepts the table; and it accepts a table without faulty row.
use Prim.Native.Nat.{ℕ, ◌-◌, ◌/◌, ◌<◌}
use mathlib.Core.Path.{◌≡◌, refl}
use mathlib.Core.Bool.{Bool, true, false, ◌&&◌, ◌||◌, or-true}
use mathlib.Core.List.{List}
use mathlib.Core.Logic.{◌⊎◌, inl, inr}
use mathlib.Mathlib.Data.Bool.Basic.{or-eq-false-eq-eq-false-and-eq-false as neither}
use borrow.Author.Tests.{leb-false, eqb-true, eq-eqb, not-false}
use lib.Dec.{eqb, leb}
use Rattle.laws.specs.Lists.{count}
use Rattle.laws.proofs.First.{unfaulted}
use Rattle.table.specs.Verdicts.{Accepted}
use Rattle.table.specs.declared.index.Index.{Index}
use Rattle.table.specs.declared.index.ProcedureEntry.{ProcedureEntry}
use Rattle.table.specs.Format.{type_kind, field_kind, procedure_kind, local_kind, result_kind, instruction_kind, record_sort}
use Rattle.table.specs.Rows.{row_count, row_at, kind_at, is_kind}
use Rattle.declarations.specs.Program.{type_in, procedure_in}
use Rattle.declarations.proofs.Passes.{over_fine}
use Rattle.names.specs.Names.{Named, nothing, local_number, field_number, type_number, procedure_number, target, missing, bad_end, not_lower, no_such_type, no_such_name, name_fault, fault_at, names_with}
use Rattle.names.specs.Exist.{Exists, Good}

-- a number that is one of two
one_of : (x a b : ℕ) → (eqb x a || eqb x b) ≡ true → (x ≡ a) ⊎ (x ≡ b)
one_of x a b e = go (eqb x a) refl e
  where
    go : (c : Bool) → eqb x a ≡ c → (c || eqb x b) ≡ true → (x ≡ a) ⊎ (x ≡ b)
    go true q e = inl (eqb-true x a q)
    go false q e = inr (eqb-true x b e)

is_one_of : (x a b : ℕ) → (x ≡ a) ⊎ (x ≡ b) → (eqb x a || eqb x b) ≡ true
is_one_of x a b (inl e) = rw (eq-eqb x a e)
is_one_of x a b (inr e) = rw (eq-eqb x b e) (or-true (eqb x a))

-- what is not missing exists
exists : (ix : Index) (p : ProcedureEntry) (b : ℕ) (v : Named) → missing ix.types ix.procedures (type_in ix (b / 8)) p b v ≡ false → Exists ix p b v
unfolding missing
exists ix p b nothing e = tt
exists ix p b local_number e = leb-false _ _ e
exists ix p b field_number e = let h = (neither _ _).0 e in (leb-false _ _ h.0, leb-false _ _ h.1)
exists ix p b type_number e = leb-false _ _ e
exists ix p b procedure_number e = leb-false _ _ e
exists ix p b target e = leb-false _ _ e

-- a row without fault is good
row-good : (t : List ℕ) (ix : Index) (i : ℕ) → fault_at t ix i ≡ 0 → Good t ix i
unfolding fault_at name_fault bad_end not_lower no_such_type no_such_name kind_at
row-good t ix i e =
    let starts = procedure_in ix (count (is_kind t procedure_kind) i) in
    let above = count (is_kind t type_kind) i in
    let own = procedure_in ix (count (is_kind t procedure_kind) i - 1) in
    let row = row_at t i in
    let e₁ = unfaulted (eqb row.kind procedure_kind && bad_end t starts) 4 _ e in
    let e₂ = unfaulted (not_lower above row) 5 _ e₁.1 in
    let e₃ = unfaulted (no_such_type ix.types row) 5 _ e₂.1 in
    let e₄ = unfaulted (no_such_name ix.types ix.procedures (type_in ix (row.b / 8)) own row) 5 _ e₃.1 in
    record {
      ends = λ k. let h = (neither (leb starts.end starts.code) _).0 (rw (eq-eqb row.kind procedure_kind k) at e₁).0 in
          (leb-false _ _ h.0, one_of _ _ _ (not-false _ h.1));
      lower = λ k a. leb-false _ _ (rw (eq-eqb row.kind field_kind k, eq-eqb row.a record_sort a) at e₂).0;
      declared = λ k a. leb-false _ _ (rw (is_one_of row.kind local_kind result_kind k, a) at e₃).0;
      named = λ k. exists ix own row.b _ (rw (eq-eqb row.kind instruction_kind k) at e₄).0;
    }

-- every row of an accepted table is good
pub names-good : (t : List ℕ) (ix : Index) (n : ℕ) → names_with ix t ≡ Accepted n → (i : ℕ) → i < row_count t → Good t ix i
unfolding names_with
names-good t ix n e i h = row-good t ix i (over_fine (fault_at t ix) (row_count t) e i h)
