-- Laws of a call's arguments, of the calls of a list, and of rows that declare numbers only.
use Prim.Native.Nat.{ℕ, zero, suc, ◌+◌, ◌-◌, ◌<◌, ◌≤◌}
use mathlib.Core.Path.{◌≡◌, refl, sym, ap}
use mathlib.Core.Bool.{Bool, true, false, cond, not, ◌&&◌, ◌||◌}
use mathlib.Core.List.{List, [], ◌∷◌}
use native.Mathlib.Nat.{add-zero}
use native.Mathlib.Omega.{arith}
use lib.Dec.{eqb, leb}
use lib.ListN.{length, get_or}
use Rattle.std.specs.List.{list_all, range_with_len}
use Rattle.table.specs.declared.Row.{Row}
use Rattle.table.specs.declared.index.Index.{Index}
use Rattle.table.specs.declared.index.ProcedureEntry.{ProcedureEntry}
use Rattle.table.specs.Rows.{row_count, row_at, is_kind}
use Rattle.declarations.specs.Program.{row_kind, kinds_from, kinds_of, procedure_in, parameter_kinds, result_kinds}
use Rattle.semantics.specs.Calls.{call_row, argument_row, arguments, all_numbers, no_such_procedure, not_numbers, wrong_count, bad_budget, bad_call, call, calls_from}

-- A call's arguments.
module _ (l : List ℕ) where
  -- argument k is D of the row k rows on, which is an argument row
  abbrev Is : List ℕ → ℕ → ℕ → ℕ → Type 0
  Is args i left k = (get_or args k 0 ≡ (row_at l (i + k)).d) × (is_kind l argument_row (i + k) ≡ true) × (k < left)

  pub argument-at : (i left k : ℕ) → k < length (arguments l i left) → Is (arguments l i left) i left k
  unfolding arguments
  argument-at i zero k h = absurd (omega arith)
  argument-at i (suc left) k h = go (is_kind l argument_row i) refl k (argument-at (i + 1) left) h
    where
      go : (b : Bool) → is_kind l argument_row i ≡ b → (k : ℕ) → ((k : ℕ) → k < length (arguments l (i + 1) left) → Is (arguments l (i + 1) left) (i + 1) left k)
          → k < length (cond b ((row_at l i).d ∷ arguments l (i + 1) left) []) → Is (cond b ((row_at l i).d ∷ arguments l (i + 1) left) []) i (suc left) k
      go true e zero later h = rw add-zero (refl, e, omega arith)
      go true e (suc k) later h = let s : i + suc k ≡ i + 1 + k = omega arith in let r = later k (omega arith) in rw s (r.0, r.1, omega arith)
      go false e k later h = absurd (omega arith)

  -- an argument row, a row of another kind, and the end of the list
  pub arguments_more : (i n : ℕ) → i < n → is_kind l argument_row i ≡ true → arguments l i (n - i) ≡ (row_at l i).d ∷ arguments l (i + 1) (n - (i + 1))
  unfolding arguments
  arguments_more i n h e = let s : n - i ≡ suc (n - (i + 1)) = omega arith in rw (s, e)

  pub arguments_stop : (i left : ℕ) → is_kind l argument_row i ≡ false → arguments l i left ≡ []
  unfolding arguments
  arguments_stop i zero e = refl
  arguments_stop i (suc left) e = rw e

  pub arguments-end : (i n : ℕ) → n ≤ i → arguments l i (n - i) ≡ []
  unfolding arguments
  arguments-end i n h = let s : n - i ≡ 0 = omega arith in rw s

  -- how many there are from row `first` on, when all from there to before row j are arguments
  pub count_more : (n first j : ℕ) → first ≤ j → j < n → is_kind l argument_row j ≡ true → length (arguments l first (n - first)) ≡ j - first + length (arguments l j (n - j))
      → length (arguments l first (n - first)) ≡ j + 1 - first + length (arguments l (j + 1) (n - (j + 1)))
  count_more n first j lo hi e q = omega (arith, ap length (arguments_more j n hi e))

-- The calls of a list of n rows, from row i on: a call, a row of another kind, the arguments of a call, and the end.
module _ (l : List ℕ) (i n : ℕ) where
  pub call-here : i < n → is_kind l call_row i ≡ true → calls_from l i (n - i) ≡ call (row_at l i).b (row_at l i).c (arguments l (i + 1) (n - (i + 1))) ∷ calls_from l (i + 1) (n - (i + 1))
  unfolding calls_from
  call-here h e = let s : n - i ≡ suc (n - (i + 1)) = omega arith in rw (s, e)

  pub call-not : i < n → is_kind l call_row i ≡ false → calls_from l i (n - i) ≡ calls_from l (i + 1) (n - (i + 1))
  unfolding calls_from
  call-not h e = let s : n - i ≡ suc (n - (i + 1)) = omega arith in rw (s, e)

  pub calls-end : n ≤ i → calls_from l i (n - i) ≡ []
  unfolding calls_from
  calls-end h = let s : n - i ≡ 0 = omega arith in rw s

-- Rows that declare numbers only, one after the other
numbers_range : (t : List ℕ) (i n : ℕ) → list_all (λ (i : ℕ). eqb (row_kind (row_at t i)) 0) (range_with_len i n) ≡ all_numbers (kinds_from t i n)
unfolding all_numbers kinds_from
numbers_range t i zero = refl
numbers_range t i (suc n) = rw (numbers_range t (i + 1) n)

pub numbers_from : (t : List ℕ) (from to : ℕ) → list_all (λ (i : ℕ). eqb (row_kind (row_at t i)) 0) (range_with_len from (to - from)) ≡ all_numbers (kinds_of t from to)
unfolding kinds_of
numbers_from t from to = numbers_range t from (to - from)

-- the call at row i of the list l judged by its procedure's entry and its number of arguments
module _ (t : List ℕ) (ix : Index) (l : List ℕ) (i : ℕ) where
  abbrev given : List ℕ
  given = arguments l (i + 1) (row_count l - (i + 1))

  pub bad_call-is : (row : Row) {p : ProcedureEntry} {count : ℕ} {r : Bool} → p ≡ procedure_in ix row.b → count ≡ length given
      → r
      ≡ (leb ix.procedures row.b
      || not (eqb (row_at t p.row).a 1)
      || not (all_numbers (parameter_kinds t p) && all_numbers (result_kinds t p))
      || not (eqb count (length (parameter_kinds t p)))
      || bad_budget row.c)
      → bad_call t ix row given ≡ r
  unfolding bad_call no_such_procedure not_numbers wrong_count
  bad_call-is row e q h = sym (rw (e, q) at h)
