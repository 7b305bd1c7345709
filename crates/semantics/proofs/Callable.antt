-- Each call of an accepted list is good.
use Prim.Native.Nat.{ℕ, zero, suc, ◌+◌, ◌-◌, ◌%◌, ◌^◌, ◌<◌, ◌≤◌}
use mathlib.Core.Path.{◌≡◌, refl}
use mathlib.Core.Bool.{Bool, true, false, cond, not, ◌&&◌, ◌||◌, false≢true}
use mathlib.Core.List.{List, [], ◌∷◌}
use native.Mathlib.Decide.{dec_lt}
use native.Mathlib.Omega.{arith}
use borrow.Author.Tests.{ltb-false, leb-false, eqb-true, eqb-false, not-false}
use lib.Dec.{eqb, ltb}
use lib.ListN.{length}
use Rattle.laws.proofs.First.{unfaulted}
use Rattle.laws.proofs.Tests.{and_both, neither}
use Rattle.table.specs.declared.Row.{Row}
use Rattle.table.specs.Verdicts.{Accepted, pass_over}
use Rattle.table.specs.declared.index.Index.{Index}
use Rattle.table.specs.Format.{row_bytes}
use Rattle.table.specs.Rows.{row_count, row_at, kind_at, is_kind}
use Rattle.table.proofs.Laws.{kind_outside}
use Rattle.declarations.specs.Program.{procedure_in, parameter_kinds, result_kinds}
use Rattle.declarations.proofs.Passes.{let_through, over_fine}
use Rattle.acceptance.specs.Judged.{Bytes}
use Rattle.acceptance.proofs.Instructions.{constant-low}
use Rattle.semantics.specs.Calls.{call_row, argument_row, max_list_bytes, max_budget, arguments, bad_kind, unused_byte, argument_first, all_numbers, no_such_procedure, not_numbers, wrong_count, bad_budget, bad_call, list_fault, list_of, call, calls_from, calls_of}
use Rattle.semantics.specs.Claim.{All, none_left, also}
use Rattle.semantics.specs.Callable.{Callable, GoodCall}

-- where two tests do not both hold and the first does, the other fails
other_fails : (a b : Bool) → (a && b) ≡ false → a ≡ true → b ≡ false
other_fails true b e h = e
other_fails false b e h = absurd (false≢true h)

-- a row of a kind that is not 0 is there
kind-there : (l : List ℕ) (k i : ℕ) → is_kind l (suc k) i ≡ true → i < row_count l
unfolding is_kind
kind-there l k i e = go (dec_lt i (row_count l))
  where
    go : Dec (i < row_count l) → i < row_count l
    go (yes h) = h
    go (no h) = absurd (omega (arith, kind_outside l i (omega arith), eqb-true (kind_at l i) (suc k) e))

-- arguments are words
arguments-low : (l : List ℕ) → Bytes l → (i left : ℕ) → All (λ (x : ℕ). x < 2 ^ 64) (arguments l i left)
unfolding arguments
arguments-low l bytes i zero = none_left
arguments-low l bytes i (suc left) = go (is_kind l argument_row i) refl (arguments-low l bytes (i + 1) left)
  where
    go : (b : Bool) → is_kind l argument_row i ≡ b → All (λ (x : ℕ). x < 2 ^ 64) (arguments l (i + 1) left) → All (λ (x : ℕ). x < 2 ^ 64) (cond b ((row_at l i).d ∷ arguments l (i + 1) left) [])
    go true e rest = also (constant-low l bytes i (kind-there l 1 i e)) rest
    go false e rest = none_left

module _ (t : List ℕ) (ix : Index) where
  -- what refusal 16 does not find in a call
  there-is : (q : ℕ) → no_such_procedure t ix q ≡ false → (q < ix.procedures) × ((row_at t (procedure_in ix q).row).a ≡ 1)
  unfolding no_such_procedure
  there-is q e = let h = neither _ _ e in (leb-false _ _ h.0, eqb-true _ _ (not-false _ h.1))

  numbers_are : (q : ℕ) → not_numbers t ix q ≡ false → (all_numbers (parameter_kinds t (procedure_in ix q)) ≡ true) × (all_numbers (result_kinds t (procedure_in ix q)) ≡ true)
  unfolding not_numbers
  numbers_are q e = and_both _ _ (not-false _ e)

  count-is : (q : ℕ) (args : List ℕ) → wrong_count t ix q args ≡ false → length args ≡ length (parameter_kinds t (procedure_in ix q))
  unfolding wrong_count
  count-is q args e = eqb-true _ _ (not-false _ e)

  budget_is : (budget : ℕ) → bad_budget budget ≡ false → (0 < budget) × (budget ≤ max_budget)
  unfolding bad_budget
  budget_is budget e = let h = neither _ _ e in let ne = eqb-false budget 0 h.0 in (omega arith, ltb-false _ _ h.1)

  good-call : (row : Row) (args : List ℕ) → All (λ (x : ℕ). x < 2 ^ 64) args → bad_call t ix row args ≡ false → Callable t ix row.b row.c args
  unfolding bad_call
  good-call row args low e =
      let h = neither (no_such_procedure t ix row.b || not_numbers t ix row.b || wrong_count t ix row.b args) (bad_budget row.c) e in
      let m = neither (no_such_procedure t ix row.b || not_numbers t ix row.b) (wrong_count t ix row.b args) h.0 in
      let n = neither (no_such_procedure t ix row.b) (not_numbers t ix row.b) m.0 in
      let a = there-is row.b n.0 in
      let b = numbers_are row.b n.1 in
      let c = budget_is row.c h.1 in
      record { there = a.0; public = a.1; takes = b.0; gives = b.1; count = count-is row.b args m.1; funded = c.0; limited = c.1; words = low }

  -- an accepted list
  module _ (l : List ℕ) (k : ℕ) (e : list_of t ix l ≡ Accepted k) where
    parts : ((ltb max_list_bytes (length l) || not (eqb (length l % row_bytes) 0)) ≡ false) × (pass_over (list_fault t ix l) (row_count l) ≡ Accepted k)
    unfolding list_of
    parts = let_through _ _ _ _ k e

    -- its length: whole rows, at most 256
    pub list_length : (length l ≤ max_list_bytes) × (length l % row_bytes ≡ 0)
    list_length = let h = neither _ _ parts.0 in (ltb-false _ _ h.0, eqb-true _ _ (not-false _ h.1))

    pub list_rows : row_count l ≤ 256
    list_rows = omega (arith, list_length)

    -- no row earns a refusal
    pub list_fine : (i : ℕ) → i < row_count l → list_fault t ix l i ≡ 0
    list_fine = over_fine (list_fault t ix l) (row_count l) parts.1

    row-parts : (i : ℕ) → i < row_count l
        → ((bad_kind (row_at l i) || unused_byte (row_at l i) || argument_first (row_at l i) i) ≡ false) × ((eqb (row_at l i).kind call_row && bad_call t ix (row_at l i) (arguments l (i + 1) (row_count l - (i + 1)))) ≡ false)
    unfolding list_fault
    row-parts i h = let a = unfaulted _ _ _ (list_fine i h) in (a.0, (unfaulted _ _ _ a.1).0)

    -- every call row is a good call
    pub call-good : Bytes l → (i : ℕ) → is_kind l call_row i ≡ true → Callable t ix (row_at l i).b (row_at l i).c (arguments l (i + 1) (row_count l - (i + 1)))
    unfolding is_kind kind_at
    call-good bytes i c = good-call (row_at l i) _ (arguments-low l bytes _ _) (other_fails _ _ (row-parts i (kind-there l 0 i c)).1 c)

    -- the calls of the rows from i on
    calls-good : Bytes l → (i left : ℕ) → i + left ≡ row_count l → All (GoodCall t ix) (calls_from l i left)
    unfolding calls_from
    calls-good bytes i zero s = none_left
    calls-good bytes i (suc left) s = go (is_kind l call_row i) refl (calls-good bytes (i + 1) left (omega arith))
      where
        same : row_count l - (i + 1) ≡ left
        same = omega arith

        go : (b : Bool) → is_kind l call_row i ≡ b → All (GoodCall t ix) (calls_from l (i + 1) left)
            → All (GoodCall t ix) (cond b (call (row_at l i).b (row_at l i).c (arguments l (i + 1) left) ∷ calls_from l (i + 1) left) (calls_from l (i + 1) left))
        go true c rest = also (rw same at (call-good bytes i c)) rest
        go false c rest = rest

-- every call of an accepted list is good
pub good-calls : (t : List ℕ) (ix : Index) (l : List ℕ) (k : ℕ) → Bytes l → list_of t ix l ≡ Accepted k → All (GoodCall t ix) (calls_of l)
unfolding calls_of
good-calls t ix l k bytes e = calls-good t ix l k e bytes 0 (row_count l) (omega arith)
