-- Where the rows of a table stand that the rows pass accepts: where a procedure's code ends, the next row is of kind 1 or 4, or the table ends; so each instruction stands in a procedure's code.
use Prim.Native.Nat.{ℕ, zero, suc, ◌+◌, ◌-◌, ◌%◌, ◌<◌, ◌≤◌}
use mathlib.Core.Path.{◌≡◌, refl, sym, ◌∙◌}
use mathlib.Core.Bool.{Bool, true, false, cond, not, ◌||◌, false≢true}
use mathlib.Core.List.{List, []}
use mathlib.Core.Logic.{◌⊎◌, inl, inr}
use native.Mathlib.Numerals.{add-one}
use native.Mathlib.Decide.{dec_lt, ℕ_discrete}
use native.Mathlib.Omega.{arith}
use borrow.Author.Tests.{ltb-false, eqb-false, not-true}
use lib.Dec.{eqb, ltb}
use lib.ListN.{length, get_or}
use Rattle.laws.specs.Lists.{member, count, nth}
use Rattle.laws.proofs.Lists.{find_hit, nth-count}
use Rattle.table.specs.Verdicts.{Accepted, Refused}
use Rattle.table.specs.Format.{module_kind, procedure_kind, local_kind, result_kind, instruction_kind}
use Rattle.table.specs.Rows.{row_count, row_at, kind_at, is_kind}
use Rattle.table.specs.Index.{index_of, indexed_rows, run_end, procedure_at, results_start, code_start, code_end}
use Rattle.table.proofs.Laws.{is-kind, procedure-locals, procedure-results, procedure-code}
use Rattle.rows.proofs.Faults.{faultless}
use Rattle.rows.specs.Rows.{length_of, rows_of, fault_at, misplaced, may_follow, above_at, below_row}
use Rattle.rows.proofs.Laws.{froms, tos, follow, follow-none}
use Rattle.declarations.specs.Program.{code_of, procedure_in}
use Rattle.declarations.proofs.Passes.{refused-accepted}
use Rattle.sizes.proofs.Sizes.{rows_fine}
use Rattle.sizes.proofs.Rows.{row_of, row_below, entry-is, row-kind, row_count_lem, parts, row-kinds, code-count}
use Rattle.sizes.proofs.Counts.{procedure-few}

-- a run of rows of kind k that ends before row n ends at a row of another kind
run_stops : (t : List ℕ) (n k i : ℕ) → i ≤ n → run_end t n k i < n → kind_at t (run_end t n k i) ≡ k → ⊥
unfolding run_end is_kind
run_stops t n k i h l e = eqb-false _ _ (not-true _ (find_hit (λ (j : ℕ). not (eqb (kind_at t j) k)) i (n - i) (omega arith))) e

-- so of a procedure's instructions, results and locals
module _ (t : List ℕ) (i : ℕ) where
  code-stops : code_start t i ≤ indexed_rows t → code_end t i < indexed_rows t → kind_at t (code_end t i) ≡ instruction_kind → ⊥
  unfolding code_end
  code-stops h l = run_stops t (indexed_rows t) instruction_kind (code_start t i) h l

  results_stop : results_start t i ≤ indexed_rows t → code_start t i < indexed_rows t → kind_at t (code_start t i) ≡ result_kind → ⊥
  unfolding code_start
  results_stop h l = run_stops t (indexed_rows t) result_kind (results_start t i) h l

  locals_stop : i + 1 ≤ indexed_rows t → results_start t i < indexed_rows t → kind_at t (results_start t i) ≡ local_kind → ⊥
  unfolding results_start
  locals_stop h l = run_stops t (indexed_rows t) local_kind (i + 1) h l

-- what the kind a of the row above says of a row's kind k
abbrev Below : ℕ → ℕ → Type 0
Below a k = (k ≡ 1) ⊎ (((k ≤ 3) × (a ≤ 3)) ⊎ ((k ≡ 4) ⊎ ((5 ≤ k) × (k ≤ 7) × (4 ≤ a) × (a ≤ k))))

below_in : (a k : ℕ) → k < 8 → get_or froms k 0 ≤ a → a ≤ get_or tos k 0 → Below a k
below_in a zero h lo hi = absurd (omega arith)
below_in a (suc zero) h lo hi = inl refl
below_in a (suc (suc zero)) h lo hi = inr (inl (omega arith))
below_in a (suc (suc (suc zero))) h lo hi = inr (inl (omega arith))
below_in a (suc (suc (suc (suc zero)))) h lo hi = inr (inr (inl refl))
below_in a (suc (suc (suc (suc (suc zero))))) h lo hi = inr (inr (inr (omega arith)))
below_in a (suc (suc (suc (suc (suc (suc zero)))))) h lo hi = inr (inr (inr (omega arith)))
below_in a (suc (suc (suc (suc (suc (suc (suc zero))))))) h lo hi = inr (inr (inr (omega arith)))
below_in a (suc (suc (suc (suc (suc (suc (suc (suc k)))))))) h lo hi = absurd (omega arith)

below_of : (a k : ℕ) → a < 256 → k < 8 → not (member a (get_or may_follow k [])) ≡ false → Below a k
below_of a k h l e = go (ltb a (get_or froms k 0)) refl (sym (follow a k h l) ∙ e)
  where
    go : (b : Bool) → ltb a (get_or froms k 0) ≡ b → cond b true (ltb (get_or tos k 0) a) ≡ false → Below a k
    go true q e = absurd (false≢true (sym e))
    go false q e = below_in a k l (ltb-false _ _ q) (ltb-false _ _ e)

-- A table that the length pass and the rows pass accept.
module _ (t : List ℕ) (n : ℕ) (long : length_of t ≡ Accepted (row_count t)) (good : rows_of t ≡ Accepted n) where
  -- the index covers its rows
  pub whole : indexed_rows t ≡ row_count t
  unfolding length_of
  whole = go (ltb 32768 (length t)) refl (eqb (length t) 0) (not (eqb (length t % 16) 0)) long
    where
      go : (a : Bool) → ltb 32768 (length t) ≡ a → (b c : Bool) → cond (b || c || a) (Refused 1 0) (Accepted (row_count t)) ≡ Accepted (row_count t) → indexed_rows t ≡ row_count t
      go a q true c e = absurd (refused-accepted e)
      go a q false true e = absurd (refused-accepted e)
      go true q false false e = absurd (refused-accepted e)
      go false q false false e = omega (arith, ltb-false 32768 (length t) q)

  -- no row is misplaced
  placed : (i : ℕ) → i < row_count t → not (member (above_at t i).kind (get_or may_follow (kind_at t i) [])) ≡ false
  unfolding fault_at misplaced kind_at
  placed i h = ((faultless (above_at t i) (row_at t i)).0 (rows_fine t n good i h)).placed

  -- so its kind is one of the seven
  known : (i : ℕ) → i < row_count t → kind_at t i < 8
  known i h = go (dec_lt (kind_at t i) 8)
    where
      go : Dec (kind_at t i < 8) → kind_at t i < 8
      go (yes l) = l
      go (no l) = absurd (false≢true (sym (placed i h) ∙ follow-none (above_at t i).kind (kind_at t i) (omega arith)))

  -- above row i + 1 stands row i
  above : (i : ℕ) → (above_at t (i + 1)).kind ≡ kind_at t i
  unfolding above_at below_row kind_at
  above i = rw add-one

  none_above : (above_at t 0).kind ≡ 0
  unfolding above_at
  none_above = refl

  below : (i : ℕ) → i + 1 < row_count t → Below (kind_at t i) (kind_at t (i + 1))
  below i h =
      let l = known i (omega arith) in
      below_of (kind_at t i) (kind_at t (i + 1)) (omega arith) (known (i + 1) h) (rw (above i) at (placed (i + 1) h))

  first : 0 < row_count t → Below 0 (kind_at t 0)
  first h = below_of 0 (kind_at t 0) (omega arith) (known 0 h) (rw none_above at (placed 0 h))

  -- procedure q
  module _ (q : ℕ) (there : q < (index_of t).procedures) where
    pub few : q < 128
    few = procedure-few t (rows_fine t n good) q there

    -- its row
    abbrev pub row : ℕ
    row = row_of t q there few

    -- the last row of its code, or its own row or last local or result, is of no lower kind than 4
    last-kind : 4 ≤ kind_at t (code_end t row - 1)
    last-kind = go (dec_lt row (code_end t row - 1))
      where
        go : Dec (row < code_end t row - 1) → 4 ≤ kind_at t (code_end t row - 1)
        go (yes l) = omega (arith, row-kinds t q there few (code_end t row - 1) l (omega arith))
        go (no l) =
            let e : code_end t row - 1 ≡ row = omega (arith, parts t q there few) in
            rw e (omega (arith, row-kind t q there few))

    -- below the end of its code stands no local, result or instruction
    end-above : code_end t row < row_count t → 5 ≤ kind_at t (code_end t row) → kind_at t (code_end t row) ≤ 7 → kind_at t (code_end t row - 1) ≤ kind_at t (code_end t row) → ⊥
    end-above h lo hi up = go (dec_lt (code_start t row) (code_end t row)) (dec_lt (results_start t row) (code_start t row))
      where
        ps : (row < results_start t row) × (results_start t row ≤ code_start t row) × (code_start t row ≤ code_end t row) × (code_end t row ≤ indexed_rows t)
        ps = parts t q there few

        ended : code_end t row < indexed_rows t
        ended = rw whole h

        no_code : kind_at t (code_end t row) ≡ instruction_kind → ⊥
        no_code = code-stops t row (omega (arith, ps)) ended

        no_result : code_start t row ≡ code_end t row → kind_at t (code_end t row) ≡ result_kind → ⊥
        no_result e = rw e at (results_stop t row (omega (arith, ps)) (rw e ended))

        no_local : results_start t row ≡ code_end t row → kind_at t (code_end t row) ≡ local_kind → ⊥
        no_local e = rw e at (locals_stop t row (omega (arith, ps)) (rw e ended))

        go : Dec (code_start t row < code_end t row) → Dec (results_start t row < code_start t row) → ⊥
        go (yes l) d = no_code (omega (arith, procedure-code t row {j = code_end t row - 1} (omega arith) (omega arith)))
        go (no l) (yes m) =
            let e : code_start t row ≡ code_end t row = omega (arith, ps) in
            let r = procedure-results t row {j = code_end t row - 1} (omega arith) (omega arith) in
            apart (ℕ_discrete (kind_at t (code_end t row)) 7) (no_result e) (omega (arith, r))
          where
            apart : Dec (kind_at t (code_end t row) ≡ 7) → (kind_at t (code_end t row) ≡ 6 → ⊥) → 6 ≤ kind_at t (code_end t row) → ⊥
            apart (yes e) f g = no_code e
            apart (no e) f g = f (omega arith)
        go (no l) (no m) = apart (ℕ_discrete (kind_at t (code_end t row)) 7) (ℕ_discrete (kind_at t (code_end t row)) 6)
          where
            apart : Dec (kind_at t (code_end t row) ≡ 7) → Dec (kind_at t (code_end t row) ≡ 6) → ⊥
            apart (yes e) d = no_code e
            apart (no e) (yes f) = no_result (omega (arith, ps)) f
            apart (no e) (no f) = no_local (omega (arith, ps)) (omega arith)

    -- there stands a module or a procedure
    pub end-kind : code_end t row < row_count t → (kind_at t (code_end t row) ≡ module_kind) ⊎ (kind_at t (code_end t row) ≡ procedure_kind)
    end-kind h =
        let e : code_end t row - 1 + 1 ≡ code_end t row = omega (arith, parts t q there few) in
        go (rw e at (below (code_end t row - 1) (rw e h)))
      where
        go : Below (kind_at t (code_end t row - 1)) (kind_at t (code_end t row)) → (kind_at t (code_end t row) ≡ module_kind) ⊎ (kind_at t (code_end t row) ≡ procedure_kind)
        go (inl k) = inl k
        go (inr (inl w)) = absurd (omega (arith, last-kind))
        go (inr (inr (inl k))) = inr k
        go (inr (inr (inr (lo, hi, m, up)))) = absurd (end-above h lo hi up)

  -- row j stands in procedure q
  pub record Within (j : ℕ) : Type 0 where
    pub q : ℕ
    pub there : q < (index_of t).procedures
    pub lo : row q there ≤ j
    pub hi : j < code_end t (row q there)

  -- procedure q stands at the row of kind 4 that is number q
  row_is : (q : ℕ) (there : q < (index_of t).procedures) → nth (is_kind t procedure_kind) (indexed_rows t) q ≡ row q there
  row_is q there =
      let at = row q there in
      rw (row_count_lem t q there (few q there)) at (nth-count (is_kind t procedure_kind) (indexed_rows t) at (row_below t q there (few q there)) (is-kind t at procedure_kind refl (row-kind t q there (few q there)))).1

  -- a procedure's own row
  pub own-within : (j : ℕ) → j < row_count t → kind_at t j ≡ procedure_kind → Within j
  unfolding index_of
  own-within j h k =
      let s = nth-count (is_kind t procedure_kind) (indexed_rows t) j (rw whole h) (is-kind t j procedure_kind refl k) in
      let there = s.0 in
      let e = sym (row_is (count (is_kind t procedure_kind) j) there) ∙ s.1 in
      record {
        q = count (is_kind t procedure_kind) j;
        there = there;
        lo = omega (arith, e);
        hi = omega (arith, e, parts t (count (is_kind t procedure_kind) j) there (few (count (is_kind t procedure_kind) j) there));
      }

  -- from a row that stands in a procedure to the next
  next-within : (j : ℕ) → j + 1 < row_count t → 5 ≤ kind_at t (j + 1) → Within j → Within (j + 1)
  next-within j h k w = go (dec_lt (j + 1) (code_end t (row w.q w.there)))
    where
      go : Dec (j + 1 < code_end t (row w.q w.there)) → Within (j + 1)
      go (yes l) = record { q = w.q; there = w.there; lo = omega (arith, w.lo); hi = l }
      go (no l) =
          let e : code_end t (row w.q w.there) ≡ j + 1 = omega (arith, w.hi) in
          absurd (ended (rw e at (end-kind w.q w.there (rw e h))))
        where
          ended : (kind_at t (j + 1) ≡ module_kind) ⊎ (kind_at t (j + 1) ≡ procedure_kind) → ⊥
          ended (inl e) = omega arith
          ended (inr e) = omega arith

  -- every row of kind 4 to 7 stands in a procedure
  pub within : (j : ℕ) → j < row_count t → 4 ≤ kind_at t j → Within j
  within zero h k = go (first h)
    where
      go : Below 0 (kind_at t 0) → Within 0
      go (inl e) = absurd (omega arith)
      go (inr (inl w)) = absurd (omega arith)
      go (inr (inr (inl e))) = own-within 0 h e
      go (inr (inr (inr w))) = absurd (omega arith)
  within (suc j) h k =
      let r = go (rw (← add-one j) at h) (rw (← add-one j) at k) (below j (rw (← add-one j) at h)) (within j (omega arith)) in
      rw add-one at r
    where
      go : j + 1 < row_count t → 4 ≤ kind_at t (j + 1) → Below (kind_at t j) (kind_at t (j + 1)) → (4 ≤ kind_at t j → Within j) → Within (j + 1)
      go h k (inl e) ih = absurd (omega arith)
      go h k (inr (inl w)) ih = absurd (omega arith)
      go h k (inr (inr (inl e))) ih = own-within (j + 1) h e
      go h k (inr (inr (inr (lo, hi, m, up)))) ih = next-within j h lo (ih m)

  -- the code of procedure p by rows of the table
  pub code-rows : (p r : ℕ) (there : p < (index_of t).procedures) → (procedure_in (index_of t) p).code ≤ r → r < (procedure_in (index_of t) p).code + row_count (code_of t (procedure_in (index_of t) p))
      → (code_start t (row p there) ≤ r) × (r < code_end t (row p there))
  unfolding procedure_at
  code-rows p r there lo hi =
      let e = entry-is t p there (few p there) in
      let l : code_start t (row p there) ≤ r = rw e at lo in
      let k = code-count t p there (few p there) in
      let h : r < code_start t (row p there) + (code_end t (row p there) - code_start t (row p there)) = rw (k, e) at hi in
      (l, omega (arith, parts t p there (few p there)))

  -- an instruction that stands in a procedure stands in its code
  pub code_lo : (r : ℕ) → kind_at t r ≡ instruction_kind → (w : Within r) → (row w.q w.there < r) × (code_start t (row w.q w.there) ≤ r)
  code_lo r k w = go (row w.q w.there) w.lo (row-kind t w.q w.there (few w.q w.there))
      (dec_lt (row w.q w.there) r) (dec_lt r (code_start t (row w.q w.there))) (dec_lt r (results_start t (row w.q w.there)))
    where
      go : (at : ℕ) → at ≤ r → kind_at t at ≡ procedure_kind → Dec (at < r) → Dec (r < code_start t at) → Dec (r < results_start t at) → (at < r) × (code_start t at ≤ r)
      go at i j (no l) m d = let e : at ≡ r = omega arith in absurd (omega (arith, k, rw e at j))
      go at i j (yes l) (yes m) (yes d) = absurd (omega (arith, procedure-locals t at l d))
      go at i j (yes l) (yes m) (no d) = absurd (omega (arith, procedure-results t at {j = r} (omega arith) m))
      go at i j (yes l) (no m) d = (l, omega arith)
