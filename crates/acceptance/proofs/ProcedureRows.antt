-- A procedure's rows are those that the passes judge, and each instruction stands in one procedure.
use Prim.Native.Nat.{ℕ, ◌+◌, ◌-◌, ◌*◌, ◌<◌, ◌≤◌}
use mathlib.Core.Path.{◌≡◌, refl, sym, ◌∙◌}
use mathlib.Core.Bool.{Bool, true, false, false≢true}
use mathlib.Core.List.{List, ◌++◌}
use mathlib.Core.Logic.{◌⊎◌, inl, inr}
use native.Mathlib.Decide.{dec_lt}
use native.Mathlib.Omega.{arith}
use borrow.Author.Tests.{lt-ltb}
use lib.ListN.{drop}
use lib.Seq.{take-add, drop-drop}
use Rattle.laws.specs.Lists.{find}
use Rattle.laws.proofs.Lists.{find-within, find-before, find_hit, nth-count}
use Rattle.table.specs.Verdicts.{Accepted}
use Rattle.table.specs.Format.{module_kind, procedure_kind, instruction_kind}
use Rattle.table.specs.Rows.{row_count, row_at, kind_at, is_kind}
use Rattle.table.specs.Index.{index_of, procedure_at, results_start, code_start, code_end}
use Rattle.table.specs.Procedures.{rows_between, part_of, part_start, procedure_row, ends_procedure, procedure_end, has_procedure, procedure_rows, procedure_start}
use Rattle.table.proofs.Laws.{is-kind, not-kind, ends_module, ends-procedure, ends-not, part_inside, start-inside, procedure-locals, procedure-results, procedure-code}
use Rattle.rows.specs.Rows.{length_of, rows_of}
use Rattle.declarations.specs.Program.{local_count, code_of, procedure_in}
use Rattle.sizes.proofs.Rows.{part_row, row_of, row_below, entry-is, row-kind, row_count_lem, parts, row-kinds, own-number, code-count, code_row}
use Rattle.sizes.proofs.Places as Places
use Rattle.acceptance.specs.ProcedureRows.{Layout, InCode, InOne}

-- what is hit first is found
find_first : (hit : ℕ → Bool) (n i j : ℕ) → i ≤ j → j ≤ n → ((m : ℕ) → i ≤ m → m < j → hit m ≡ false) → (j < n → hit j ≡ true) → find hit i (n - i) ≡ j
find_first hit n i j lo hi before here = go (dec_lt (find hit i (n - i)) j) (dec_lt j (find hit i (n - i)))
  where
    within : (i ≤ find hit i (n - i)) × (find hit i (n - i) ≤ i + (n - i))
    within = find-within hit i (n - i)

    go : Dec (find hit i (n - i) < j) → Dec (j < find hit i (n - i)) → find hit i (n - i) ≡ j
    go (yes l) d = absurd (false≢true (sym (before _ within.0 l) ∙ find_hit hit i (n - i) (omega (arith, within))))
    go (no l) (yes m) = absurd (false≢true (sym (find-before hit i (n - i) j lo m) ∙ here (omega (arith, within))))
    go (no l) (no m) = omega arith

-- stretches of rows, one after the other
between_joined : (t : List ℕ) (a b c : ℕ) → a ≤ b → b ≤ c → rows_between t a c ≡ rows_between t a b ++ rows_between t b c
unfolding rows_between
between_joined t a b c h k =
    let e : 16 * c - 16 * a ≡ 16 * b - 16 * a + (16 * c - 16 * b) = omega arith in
    let f : 16 * a + (16 * b - 16 * a) ≡ 16 * b = omega arith in
    rw e (take-add (16 * b - 16 * a) (16 * c - 16 * b) (drop (16 * a) t) ∙ rw (drop-drop (16 * b - 16 * a) (16 * a) t, f))

-- A table that the length pass and the rows pass accept.
module _ (t : List ℕ) (n : ℕ) (long : length_of t ≡ Accepted (row_count t)) (good : rows_of t ≡ Accepted n) where
  -- procedure q
  module _ (q : ℕ) (there : q < (index_of t).procedures) where
    abbrev few : q < 128
    few = Places.few t n long good q there

    -- its row
    abbrev row : ℕ
    row = row_of t q there few

    -- so its rows end there
    rows_end : procedure_end t (row + 1) ≡ code_end t row
    unfolding procedure_end
    rows_end = find_first (ends_procedure t) (row_count t) (row + 1) (code_end t row) (omega (arith, parts t q there few)) (omega (arith, parts t q there few)) before here
      where
        before : (j : ℕ) → row + 1 ≤ j → j < code_end t row → ends_procedure t j ≡ false
        before j lo hi =
            let k = row-kinds t q there few j (omega arith) hi in
            ends-not t j (not-kind t j module_kind refl (λ e. omega arith)) (not-kind t j procedure_kind refl (λ e. omega arith))

        here : code_end t row < row_count t → ends_procedure t (code_end t row) ≡ true
        here h = go (Places.end-kind t n long good q there h)
          where
            go : (kind_at t (code_end t row) ≡ module_kind) ⊎ (kind_at t (code_end t row) ≡ procedure_kind) → ends_procedure t (code_end t row) ≡ true
            go (inl k) = ends_module t _ (is-kind t _ module_kind refl k)
            go (inr k) = ends-procedure t _ (not-kind t _ module_kind refl (λ e. omega arith)) (is-kind t _ procedure_kind refl k)

    -- its row is number q of the rows of kind 4
    row_is : procedure_row t q ≡ row
    unfolding procedure_row
    row_is =
        let h : row < row_count t = omega (arith, row_below t q there few) in
        rw (row_count_lem t q there few) at (nth-count (is_kind t procedure_kind) (row_count t) row h (is-kind t row procedure_kind refl (row-kind t q there few))).1

    rows_are : procedure_rows t q ≡ rows_between t row (code_end t row)
    unfolding procedure_rows has_procedure
    rows_are =
        let h : row < row_count t = omega (arith, row_below t q there few) in
        rw (row_is, lt-ltb row (row_count t) h, rows_end)

    -- a row of the procedure is a row of the table
    row_in : (i : ℕ) → i < code_end t row - row → row_at t (row + i) ≡ row_at (procedure_rows t q) i
    row_in i h =
        let ps = parts t q there few in
        let lo : row ≤ code_end t row = omega (arith, ps) in
        let hi : code_end t row ≤ row_count t = omega (arith, ps) in
        rw (rows_are, ← part_inside t row (code_end t row) lo hi) (sym (part_row t row (code_end t row) lo hi i h))

    -- its four parts
    four : procedure_rows t q ≡ rows_between t row (row + 1) ++ (rows_between t (row + 1) (results_start t row) ++ (rows_between t (results_start t row) (code_start t row) ++ part_of t (code_start t row) (code_end t row)))
    four =
        let ps = parts t q there few in
        let a = between_joined t row (row + 1) (code_end t row) (omega arith) (omega (arith, ps)) in
        let b = between_joined t (row + 1) (results_start t row) (code_end t row) (omega (arith, ps)) (omega (arith, ps)) in
        let c = between_joined t (results_start t row) (code_start t row) (code_end t row) (omega (arith, ps)) (omega (arith, ps)) in
        rows_are ∙ a ∙ rw (b, c, part_inside t (code_start t row) (code_end t row) (omega (arith, ps)) (omega (arith, ps)))

    -- the place of its code
    code-start : part_start t (code_start t row) (code_end t row) ≡ procedure_start t q + 16 * (code_start t row - row)
    unfolding procedure_start has_procedure
    code-start =
        let ps = parts t q there few in
        let h : row < row_count t = omega (arith, ps) in
        rw (start-inside t (code_start t row) (code_end t row) (omega (arith, ps)) (omega (arith, ps)), row_is, lt-ltb row (row_count t) h) (omega (arith, ps))

    -- its rows are those that the passes judge
    pub layout : Layout t q (procedure_in (index_of t) q)
    unfolding procedure_at local_count code_of
    layout =
        let ps = parts t q there few in
        rw (entry-is t q there few) (record {
          own = row_is;
          own-kind = row-kind t q there few;
          order = omega (arith, ps);
          local-kind = λ r lo hi. sym (procedure-locals t row lo hi);
          result-kind = λ r lo hi. sym (procedure-results t row lo hi);
          code-kind = λ r lo hi. sym (procedure-code t row lo hi);
          ends = rows_end;
          parts = four;
          code-place = code-start;
          row-at = row_in;
          local_at = λ l h. let e : row + 1 + l ≡ row + (1 + l) = omega arith in rw e (row_in (1 + l) (omega (arith, ps)));
          code_at = λ i h.
              let k = rw (entry-is t q there few) at (code-count t q there few) in
              let r = rw (entry-is t q there few) at (code_row t q there few) in
              let e : code_start t row + i ≡ row + (code_start t row - row + i) = omega (arith, ps) in
              r i h ∙ rw e (row_in (code_start t row - row + i) (omega (arith, ps, k, h)));
        })

  -- what stands in a procedure's code is an instruction
  pub in_code : (p r : ℕ) → InCode t p r → (r < row_count t) × (kind_at t r ≡ instruction_kind)
  in_code p r (there, lo, hi) =
      let w = Places.code-rows t n long good p r there lo hi in
      (omega (arith, parts t p there (few p there)), sym (procedure-code t (row p there) w.0 w.1))

  -- an instruction stands in the code of one procedure
  pub in_one : (r : ℕ) → r < row_count t → kind_at t r ≡ instruction_kind → InOne t r
  unfolding procedure_at
  in_one r h k =
      let w = Places.within t n long good r h (omega arith) in
      let l = Places.code_lo t n long good r k w in
      let f = few w.q w.there in
      let e = entry-is t w.q w.there f in
      let c = rw e at (code-count t w.q w.there f) in
      record {
        procedure = w.q;
        inside = (w.there, rw e l.1, rw e (omega (arith, c, w.hi, parts t w.q w.there f)));
        only = λ p (there, lo, hi).
            let v = Places.code-rows t n long good p r there lo hi in
            sym (own-number t p there (few p there) r (omega (arith, parts t p there (few p there))) v.1) ∙ own-number t w.q w.there f r l.0 w.hi;
      }
