-- The row that comes up, as a row of the table: the instruction is what stands there, and its module is counted from the rows above it.
use Prim.Native.Nat.{ℕ, ◌+◌, ◌<◌}
use mathlib.Core.Path.{◌≡◌, ap, sym, ◌∙◌}
use mathlib.Core.List.{List}
use mathlib.Core.Bool.{not}
use native.Mathlib.Omega.{arith}
use lib.Dec.{eqb}
use Rattle.table.specs.declared.index.ProcedureEntry.{ProcedureEntry}
use Rattle.table.specs.Format.{instruction_kind}
use Rattle.table.specs.Rows.{row_count, row_at, kind_at}
use Rattle.table.specs.Index.{index_of, owner_at}
use Rattle.declarations.specs.Program.{code_of, instruction_in}
use Rattle.sizes.proofs.Rows.{own}
use Rattle.sizes.proofs.Inside as Inside
use Rattle.judging.specs.Judging.{AcceptedTable}
use Rattle.acceptance.proofs.Guest.{module_row}
use Rattle.semantics.specs.Words.{module_of, in_guest, guest, body_of, instruction_row}
use Rattle.semantics.proofs.Worded.{passed, covers, procedure-is, module_is, procedure-below, guest-row}

module _ (t : List ℕ) (a : AcceptedTable t) (q : ℕ) (there : q < (index_of t).procedures) (few : q < 128) (i : ℕ) (inside : i < row_count (code_of t (own t q))) where
  pub place_is : (own t q).code + i ≡ instruction_row t q i
  place_is = ap (λ (p : ProcedureEntry). p.code + i) (procedure-is t a q there few)

  pub end_is : (own t q).code + i < (body_of t q).end
  end_is =
      let d : (own t q).end ≡ (body_of t q).end = ap (λ (p : ProcedureEntry). p.end) (procedure-is t a q there few) in
      omega (arith, inside, Inside.code-size t (passed t a) q there, d)

  pub row_is : instruction_in t (index_of t) q i ≡ row_at t ((own t q).code + i)
  row_is = sym (Inside.code_at t (passed t a) q there i inside)

  pub kind-is : kind_at t ((own t q).code + i) ≡ instruction_kind
  kind-is = Inside.code-kind t (passed t a) q there i inside

  pub owner_is : owner_at t ((own t q).code + i) ≡ (own t q).owner
  owner_is = Inside.owner_is t (passed t a) q there i inside

  -- it stands in a guest where its procedure does
  pub guests_are : in_guest t ((own t q).code + i) ≡ guest t q
  guests_are =
      let b = procedure-below t a q there in
      let g : (own t q).owner ≡ module_of t q = module_is t a q there few in
      guest-row t a ((own t q).code + i) (omega (arith, Inside.order t (passed t a) q there)) (omega (arith, Inside.code_below t (passed t a) q there i inside, covers t a))
      ∙ ap (λ (o : ℕ). not (eqb (row_at t (module_row t o)).a 1)) (owner_is ∙ g)
      ∙ sym (guest-row t a _ b.0 (omega (arith, b.1)))
