-- Laws of passes in order.
use Prim.Native.Nat.{ℕ}
use mathlib.Core.Path.{◌≡◌, refl, sym, ap, ◌∙◌}
use mathlib.Core.List.{List, [], ◌∷◌}
use Rattle.table.specs.Verdicts.{Verdict, Accepted, Refused, and_then}
use Rattle.table.specs.declared.index.Index.{Index}
use Rattle.table.specs.Rows.{row_count}
use Rattle.table.specs.Index.{index_of}
use Rattle.rows.specs.Rows.{length_of, rows_of, form_of}
use Rattle.declarations.proofs.Passes.{refused-accepted, both_accept, over_rows}
use Rattle.names.specs.Names.{names_of, names_with}
use Rattle.operands.specs.Operands.{operands_of, operands_with}
use Rattle.locals.specs.Locals.{locals_of}
use Rattle.locals.specs.code.Within.{locals_within}
use Rattle.sizes.specs.code.Formed.{Formed}
use Rattle.leaks.specs.Leaks.{leaks_of}
use Rattle.judging.specs.Judging.{in_order, judge_of, passes}
use Rattle.judging.proofs.Sizes.{locals-within}
use Rattle.judging.proofs.Accepts.{length-rows}

-- a pass that refuses decides; one that accepts leaves it to the later ones
pub refused-here : (pass : List ℕ → Verdict) (later : List (List ℕ → Verdict)) (t : List ℕ) {number row : ℕ} → pass t ≡ Refused number row → in_order (pass ∷ later) t ≡ Refused number row
unfolding in_order
refused-here pass later t e = rw e

pub accepted-here : (pass : List ℕ → Verdict) (later : List (List ℕ → Verdict)) (t : List ℕ) {n : ℕ} → pass t ≡ Accepted n → in_order (pass ∷ later) t ≡ in_order later t
unfolding in_order
accepted-here pass later t e = rw e

-- length and rows in one step
module _ (t : List ℕ) where
  pub form_refused : {number row : ℕ} → form_of t ≡ Refused number row → judge_of t ≡ Refused number row
  unfolding form_of judge_of in_order passes
  form_refused {number} {row} e = go (length_of t) (rows_of t) e
    where
      go : (a b : Verdict) → and_then a b ≡ Refused number row → and_then a (and_then b (in_order (names_of ∷ operands_of ∷ locals_of ∷ leaks_of ∷ []) t)) ≡ Refused number row
      go (Refused x y) b q = q
      go (Accepted n) (Refused x y) q = q
      go (Accepted n) (Accepted m) q = absurd (refused-accepted (sym q))

  pub form_accepted : {n : ℕ} → form_of t ≡ Accepted n → judge_of t ≡ in_order (names_of ∷ operands_of ∷ locals_of ∷ leaks_of ∷ []) t
  unfolding form_of judge_of in_order passes
  form_accepted {n} e = go (length_of t) (rows_of t) e
    where
      go : (a b : Verdict) → and_then a b ≡ Accepted n → and_then a (and_then b (in_order (names_of ∷ operands_of ∷ locals_of ∷ leaks_of ∷ []) t)) ≡ in_order (names_of ∷ operands_of ∷ locals_of ∷ leaks_of ∷ []) t
      go (Refused x y) b q = absurd (refused-accepted q)
      go (Accepted m) (Refused x y) q = absurd (refused-accepted q)
      go (Accepted m) (Accepted k) q = refl

  -- the rows pass then accepts, so that the code of the locals pass passes over no procedure
  form_rows : {n : ℕ} → form_of t ≡ Accepted n → rows_of t ≡ Accepted n
  unfolding form_of
  form_rows {n} e = (both_accept (length_of t) (rows_of t) n e).1

  -- where names accepts too the table is as the leaks pass wants it
  pub formed : {n m : ℕ} → form_of t ≡ Accepted n → names_of t ≡ Accepted m → Formed t
  unfolding form_of rows_of names_of names_with
  formed {n} {m} e q = record {
    by_length = length-rows t _ (both_accept (length_of t) (rows_of t) n e).0;
    by_rows = over_rows _ (row_count t) n (form_rows e);
    by_names = over_rows _ (row_count t) m q;
  }

-- a pass with the table's own index
pub by_index : (pass : Index → List ℕ → Verdict) {t : List ℕ} {ix : Index} {v : Verdict} → ix ≡ index_of t → v ≡ pass ix t → pass (index_of t) t ≡ v
by_index pass {t} e q = sym (q ∙ ap (λ (x : Index). pass x t) e)

pub by-locals : (t : List ℕ) {n : ℕ} → form_of t ≡ Accepted n → {ix : Index} {v : Verdict} → ix ≡ index_of t → v ≡ locals_within ix t → locals_of t ≡ v
by-locals t {n} form own q = sym (locals-within t n (form_rows t form)) ∙ by_index locals_within own q

-- The judge over one index: each pass that accepts leaves the judgement to the later ones, and one that refuses decides it.
module _ (t : List ℕ) {n : ℕ} (form : Accepted n ≡ form_of t) {ix : Index} (own : ix ≡ index_of t) where
  pub form-next : judge_of t ≡ in_order (names_of ∷ operands_of ∷ locals_of ∷ leaks_of ∷ []) t
  form-next = form_accepted t (sym form)

  pub names-refuse : {number row : ℕ} → Refused number row ≡ names_with ix t → Refused number row ≡ judge_of t
  unfolding names_of
  names-refuse e = sym (form-next ∙ refused-here names_of _ t (by_index names_with own e))

  module _ {m : ℕ} (names : Accepted m ≡ names_with ix t) where
    pub names-next : judge_of t ≡ in_order (operands_of ∷ locals_of ∷ leaks_of ∷ []) t
    unfolding names_of
    names-next = form-next ∙ accepted-here names_of _ t (by_index names_with own names)

    -- what the leaks pass asks
    pub leaks-may : Formed t × (ix ≡ index_of t)
    unfolding names_of
    leaks-may = (formed t (sym form) (by_index names_with own names), own)

    pub operands-refuse : {number row : ℕ} → Refused number row ≡ operands_with ix t → Refused number row ≡ judge_of t
    unfolding operands_of
    operands-refuse e = sym (names-next ∙ refused-here operands_of _ t (by_index operands_with own e))

    module _ {k : ℕ} (operands : Accepted k ≡ operands_with ix t) where
      pub operands-next : judge_of t ≡ in_order (locals_of ∷ leaks_of ∷ []) t
      unfolding operands_of
      operands-next = names-next ∙ accepted-here operands_of _ t (by_index operands_with own operands)

      pub locals-refuse : {number row : ℕ} → Refused number row ≡ locals_within ix t → Refused number row ≡ judge_of t
      locals-refuse e = sym (operands-next ∙ refused-here locals_of _ t (by-locals t (sym form) own e))

      module _ {j : ℕ} (locals : Accepted j ≡ locals_within ix t) where
        pub locals-then : judge_of t ≡ in_order (leaks_of ∷ []) t
        locals-then = operands-next ∙ accepted-here locals_of _ t (by-locals t (sym form) own locals)

        pub leaks-refuse : {number row : ℕ} → Refused number row ≡ leaks_of t → Refused number row ≡ judge_of t
        leaks-refuse e = sym (locals-then ∙ refused-here leaks_of _ t (sym e))

        pub all-accept : {i : ℕ} → Accepted i ≡ leaks_of t → Accepted (row_count t) ≡ judge_of t
        unfolding in_order
        all-accept e = sym (locals-then ∙ accepted-here leaks_of [] t (sym e))

pub ruleset leaking = (leaks-refuse)
