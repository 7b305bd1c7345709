-- A table is accepted exactly if every pass accepts it.
use Prim.Native.Nat.{ℕ, ◌%◌}
use mathlib.Core.Path.{◌≡◌, refl}
use mathlib.Core.Bool.{Bool, true, false, not, ◌||◌}
use mathlib.Core.List.{List, [], ◌∷◌}
use lib.Dec.{eqb, ltb}
use lib.ListN.{length}
use Rattle.table.specs.Verdicts.{Verdict, Accepted, value_of}
use Rattle.table.specs.declared.index.ProcedureEntry.{ProcedureEntry}
use Rattle.table.specs.declared.index.Index.{Index}
use Rattle.table.specs.Rows.{row_count}
use Rattle.table.specs.Index.{index_of}
use Rattle.rows.specs.Rows.{length_of, rows_of}
use Rattle.declarations.specs.Program.{code_pass}
use Rattle.declarations.proofs.Passes.{refused-accepted, both_accept, pass_fine, pass_clean, over_rows}
use Rattle.names.specs.Names.{names_of, names_with}
use Rattle.operands.specs.Operands.{operands_of, operands_with}
use Rattle.locals.specs.Locals.{locals_of}
use Rattle.leaks.specs.Leaks.{leaks_of}
use Rattle.judging.specs.Judging.{judge_of, in_order, passes, AcceptedTable, UpToOperands}

-- what a pass that accepts answers is the number of rows
pub length-rows : (t : List ℕ) (n : ℕ) → length_of t ≡ Accepted n → length_of t ≡ Accepted (row_count t)
unfolding length_of
length-rows t n e = go (eqb (length t) 0 || not (eqb (length t % 16) 0) || ltb 32768 (length t)) refl
  where
    go : (b : Bool) → (eqb (length t) 0 || not (eqb (length t % 16) 0) || ltb 32768 (length t)) ≡ b → length_of t ≡ Accepted (row_count t)
    go true q = absurd (refused-accepted (rw q at e))
    go false q = rw q

pub code-rows : (fault : ℕ → ProcedureEntry → ℕ → ℕ) (ix : Index) (t : List ℕ) (n : ℕ) → code_pass fault ix t ≡ Accepted n → code_pass fault ix t ≡ Accepted (row_count t)
code-rows fault ix t n e = pass_clean fault ix t (λ q i a b c. pass_fine fault ix t n e q a b i c)

-- the first of two in order that accept together
module _ (pass : List ℕ → Verdict) (later : List (List ℕ → Verdict)) (t : List ℕ) (n : ℕ) (e : in_order (pass ∷ later) t ≡ Accepted n) where
  here_accepts : pass t ≡ Accepted (value_of (pass t))
  unfolding in_order
  here_accepts = (both_accept (pass t) (in_order later t) n e).0

  later_accepts : in_order later t ≡ Accepted n
  unfolding in_order
  later_accepts = (both_accept (pass t) (in_order later t) n e).1

-- what acceptance gives: every pass accepts
pub accepted : (t : List ℕ) (n : ℕ) → judge_of t ≡ Accepted n → AcceptedTable t
unfolding judge_of passes rows_of names_of names_with operands_of operands_with locals_of leaks_of
accepted t n e =
    let e₁ = later_accepts length_of (rows_of ∷ names_of ∷ operands_of ∷ locals_of ∷ leaks_of ∷ []) t n e in
    let e₂ = later_accepts rows_of (names_of ∷ operands_of ∷ locals_of ∷ leaks_of ∷ []) t n e₁ in
    let e₃ = later_accepts names_of (operands_of ∷ locals_of ∷ leaks_of ∷ []) t n e₂ in
    let e₄ = later_accepts operands_of (locals_of ∷ leaks_of ∷ []) t n e₃ in
    let e₅ = later_accepts locals_of (leaks_of ∷ []) t n e₄ in
    record {
      by_length = length-rows t _ (here_accepts length_of (rows_of ∷ names_of ∷ operands_of ∷ locals_of ∷ leaks_of ∷ []) t n e);
      by_rows = over_rows _ (row_count t) _ (here_accepts rows_of (names_of ∷ operands_of ∷ locals_of ∷ leaks_of ∷ []) t n e₁);
      by_names = over_rows _ (row_count t) _ (here_accepts names_of (operands_of ∷ locals_of ∷ leaks_of ∷ []) t n e₂);
      by_operands = code-rows _ (index_of t) t _ (here_accepts operands_of (locals_of ∷ leaks_of ∷ []) t n e₃);
      by_locals = code-rows _ (index_of t) t _ (here_accepts locals_of (leaks_of ∷ []) t n e₄);
      by_leaks = code-rows _ (index_of t) t _ (here_accepts leaks_of [] t n e₅);
    }

-- so the passes before locals do
pub up_to-operands : {t : List ℕ} → AcceptedTable t → UpToOperands t
up_to-operands a = record { by_length = a.by_length; by_rows = a.by_rows; by_names = a.by_names; by_operands = a.by_operands }

-- and the converse: what every pass accepts is accepted, with its number of rows
pub accepting : (t : List ℕ) → AcceptedTable t → judge_of t ≡ Accepted (row_count t)
unfolding judge_of in_order passes
accepting t a = rw (a.by_length, a.by_rows, a.by_names, a.by_operands, a.by_locals, a.by_leaks)
