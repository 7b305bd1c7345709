-- In a table that the rows pass accepts, a procedure has at most 16 locals and 256 instructions.
use Prim.Native.Nat.{ℕ, zero, suc, ◌+◌, ◌-◌, ◌*◌, ◌<◌, ◌≤◌}
use mathlib.Core.Path.{◌≡◌, refl, sym, ap, ◌∙◌}
use mathlib.Core.Bool.{Bool, true, false, cond}
use mathlib.Core.List.{List, [], ◌∷◌, ◌++◌}
use mathlib.Core.Logic.{◌⊎◌, inl, inr, ⊎_elim}
use native.Mathlib.Nat.{add-zero}
use native.Mathlib.Numerals.{add-one}
use native.Mathlib.Decide.{dec_lt}
use native.Mathlib.Omega.{arith}
use borrow.Author.Tests.{leb-false, eqb-true}
use lib.ListN.{length, get_or, take, drop, length-take, length-append, get_or-eq_default}
use Rattle.laws.specs.Lists.{member, hits, nth, count}
use Rattle.laws.proofs.Lists.{get_d_snoc_old, get_d_snoc_new, length-entries}
use Rattle.table.specs.declared.Row.{Row}
use Rattle.table.specs.Verdicts.{Accepted}
use Rattle.table.specs.declared.index.ProcedureEntry.{ProcedureEntry}
use Rattle.table.specs.Format.{procedure_kind}
use Rattle.table.specs.Rows.{row_count, row_at, kind_at, is_kind}
use Rattle.table.specs.Index.{no_procedure, index_of, indexed_rows, procedure_at, results_start, code_start, code_end}
use Rattle.table.specs.Procedures.{in_table, part_of, rows_between}
use Rattle.table.proofs.Laws.{procedure-parts, procedure-locals, procedure-results, procedure-code}
use Rattle.rows.specs.declared.Above.{Above}
use Rattle.rows.proofs.Faults.{faultless}
use Rattle.rows.specs.Rows.{rows_of, fault_at, row_fault, too_many, above_at, below_row, count_below, count_of, owned, limits}
use Rattle.declarations.specs.Program.{Sized, local_count, code_of, procedure_in, code_pass}
use Rattle.declarations.specs.code.Limits.{over_limits, limited}
use Rattle.declarations.proofs.Laws.{procedure-there, limits_hold, limited_in}
use Rattle.declarations.proofs.Passes.{pass_same, over_fine}

-- an accepted table has no faulty row
pub rows_fine : (t : List ℕ) (n : ℕ) → rows_of t ≡ Accepted n → (i : ℕ) → i < row_count t → fault_at t i ≡ 0
unfolding rows_of
rows_fine t n e = over_fine (fault_at t) (row_count t) e

-- a row without fault passes no limit
within_limit : (s : Above) (row : Row) → row_fault s row ≡ 0 → count_of s row.kind < get_or limits row.kind 0
unfolding too_many
within_limit s row e = leb-false (get_or limits row.kind 0) (count_of s row.kind) ((faultless s row).0 e).within

-- Counts of locals and instructions over a stretch of rows.
module _ (t : List ℕ) where
  locals-at : ℕ → ℕ
  locals-at i = (above_at t i).locals

  code_at : ℕ → ℕ
  code_at i = (above_at t i).instructions

  locals-next : (i : ℕ) → locals-at (i + 1) ≡ count_below 5 (kind_at t i) (locals-at i)
  unfolding locals-at above_at below_row kind_at
  locals-next i = rw add-one

  code-next : (i : ℕ) → code_at (i + 1) ≡ count_below 7 (kind_at t i) (code_at i)
  unfolding code_at above_at below_row kind_at
  code-next i = rw add-one

  -- a procedure's row starts both anew
  locals-zero : (i : ℕ) → procedure_kind ≡ kind_at t i → locals-at (i + 1) ≡ 0
  unfolding count_below owned member
  locals-zero i e = locals-next i ∙ rw (← e)

  code-zero : (i : ℕ) → procedure_kind ≡ kind_at t i → code_at (i + 1) ≡ 0
  unfolding count_below owned member
  code-zero i e = code-next i ∙ rw (← e)

  -- locals count up; locals and results leave the count of instructions, which count up
  locals_up : (a d : ℕ) → ((j : ℕ) → a ≤ j → j < a + d → 5 ≡ kind_at t j) → locals-at (a + d) ≡ locals-at a + d
  unfolding count_below
  locals_up a zero h = rw (add-zero, add-zero) refl
  locals_up a (suc d) h =
      let s : a + suc d ≡ a + d + 1 = omega arith in
      let ih = locals_up a d (λ j lo hi. h j lo (omega arith)) in
      let q = h (a + d) (omega arith) (omega arith) in
      let z : locals-at (a + d + 1) ≡ locals-at (a + d) + 1 = locals-next (a + d) ∙ rw (← q) refl in
      rw s (omega (arith, z, ih))

  code_still : (k : ℕ) → (k ≡ 5) ⊎ (k ≡ 6) → (a d : ℕ) → ((j : ℕ) → a ≤ j → j < a + d → k ≡ kind_at t j) → code_at (a + d) ≡ code_at a
  unfolding count_below owned member
  code_still k w a zero h = rw add-zero refl
  code_still k w a (suc d) h =
      let s : a + suc d ≡ a + d + 1 = omega arith in
      let q = h (a + d) (omega arith) (omega arith) in
      let ih = code_still k w a d (λ j lo hi. h j lo (omega arith)) in
      rw s (code-next (a + d) ∙ ⊎_elim (λ e. rw (← q, e) refl) (λ e. rw (← q, e) refl) w ∙ ih)

  code_up : (a d : ℕ) → ((j : ℕ) → a ≤ j → j < a + d → 7 ≡ kind_at t j) → code_at (a + d) ≡ code_at a + d
  unfolding count_below
  code_up a zero h = rw (add-zero, add-zero) refl
  code_up a (suc d) h =
      let s : a + suc d ≡ a + d + 1 = omega arith in
      let ih = code_up a d (λ j lo hi. h j lo (omega arith)) in
      let q = h (a + d) (omega arith) (omega arith) in
      let z : code_at (a + d + 1) ≡ code_at (a + d) + 1 = code-next (a + d) ∙ rw (← q) refl in
      rw s (omega (arith, z, ih))

  -- a local, and an instruction, below its limit
  local-low : (i : ℕ) → fault_at t i ≡ 0 → 5 ≡ kind_at t i → locals-at i < 16
  unfolding fault_at locals-at count_of limits kind_at
  local-low i e q = rw (← q) at (within_limit (above_at t i) (row_at t i) e)

  code-low : (i : ℕ) → fault_at t i ≡ 0 → 7 ≡ kind_at t i → code_at i < 256
  unfolding fault_at code_at count_of limits kind_at
  code-low i e q = rw (← q) at (within_limit (above_at t i) (row_at t i) e)

-- what is counted as a hit is hit
hit_go : (hit : ℕ → Bool) (n p d : ℕ) (b : Bool) → hit n ≡ b → p < length (cond b (hits hit n ++ (n ∷ [])) (hits hit n)) → Dec (p < length (hits hit n)) → (p < length (hits hit n) → hit (get_or (hits hit n) p d) ≡ true)
    → hit (get_or (cond b (hits hit n ++ (n ∷ [])) (hits hit n)) p d) ≡ true
hit_go hit n p d true q h (yes l) ih = rw (get_d_snoc_old (hits hit n) n d p l) (ih l)
hit_go hit n p d true q h (no l) ih = let e : length (hits hit n) ≡ p = omega (arith, simp length-append at h) in rw (get_d_snoc_new (hits hit n) n d p e) q
hit_go hit n p d false q h (yes l) ih = ih l
hit_go hit n p d false q h (no l) ih = absurd (l h)

hit_hit : (hit : ℕ → Bool) (n p d : ℕ) → p < length (hits hit n) → hit (get_or (hits hit n) p d) ≡ true
unfolding hits
hit_hit hit zero p d h = absurd (omega arith)
hit_hit hit (suc n) p d h = hit_go hit n p d (hit n) refl h (dec_lt p (length (hits hit n))) (hit_hit hit n p d)

pub nth-hit : (hit : ℕ → Bool) (n p : ℕ) → p < count hit n → hit (nth hit n p) ≡ true
unfolding count nth
nth-hit hit n p h = hit_hit hit n p n h

-- a part has as many rows as lie between its ends, at most
pub part_between : (t : List ℕ) (from to : ℕ) → row_count (part_of t from to) ≤ to - from
unfolding part_of rows_between
part_between t from to = go (in_table t from to)
  where
    go : (b : Bool) → row_count (cond b (take (16 * to - 16 * from) (drop (16 * from) t)) []) ≤ to - from
    go true = omega (arith, length-take (16 * to - 16 * from) (drop (16 * from) t))
    go false = omega arith

-- a procedure at row i of an accepted table
module _ (t : List ℕ) (fine : (i : ℕ) → i < row_count t → fault_at t i ≡ 0) (i : ℕ) (h : i < indexed_rows t) (k : procedure_kind ≡ kind_at t i) where
  few-locals : results_start t i - (i + 1) ≤ 16
  few-locals = go (dec_lt (i + 1 + 16) (results_start t i))
    where
      parts : (i < results_start t i) × (results_start t i ≤ code_start t i) × (code_start t i ≤ code_end t i) × (code_end t i ≤ indexed_rows t)
      parts = procedure-parts t i h

      go : Dec (i + 1 + 16 < results_start t i) → results_start t i - (i + 1) ≤ 16
      go (yes l) =
          let up = locals_up t (i + 1) 16 (λ j lo hi. procedure-locals t i (omega arith) (omega arith)) in
          let low = local-low t (i + 1 + 16) (fine (i + 1 + 16) (omega (arith, parts))) (procedure-locals t i (omega arith) l) in
          absurd (omega (arith, up, low, locals-zero t i k))
      go (no l) = omega arith

  code-none : code_at t (code_start t i) ≡ 0
  code-none =
      let parts = procedure-parts t i h in
      let e₁ : i + 1 + (results_start t i - (i + 1)) ≡ results_start t i = omega (arith, parts) in
      let e₂ : results_start t i + (code_start t i - results_start t i) ≡ code_start t i = omega (arith, parts) in
      let s₁ = code_still t 5 (inl refl) (i + 1) (results_start t i - (i + 1)) (λ j lo hi. procedure-locals t i (omega arith) (omega (arith, e₁))) in
      let s₂ = code_still t 6 (inr refl) (results_start t i) (code_start t i - results_start t i) (λ j lo hi. procedure-results t i lo (omega (arith, e₂))) in
      ap (code_at t) (sym e₂) ∙ s₂ ∙ ap (code_at t) (sym e₁) ∙ s₁ ∙ code-zero t i k

  few-code : code_end t i - code_start t i ≤ 256
  few-code = go (dec_lt (code_start t i + 256) (code_end t i))
    where
      parts : (i < results_start t i) × (results_start t i ≤ code_start t i) × (code_start t i ≤ code_end t i) × (code_end t i ≤ indexed_rows t)
      parts = procedure-parts t i h

      go : Dec (code_start t i + 256 < code_end t i) → code_end t i - code_start t i ≤ 256
      go (yes l) =
          let up = code_up t (code_start t i) 256 (λ j lo hi. procedure-code t i lo (omega arith)) in
          let low = code-low t (code_start t i + 256) (fine (code_start t i + 256) (omega (arith, parts))) (procedure-code t i (omega arith) l) in
          absurd (omega (arith, up, low, code-none))
      go (no l) = omega arith

-- an index has no procedure past 127
pub absent : (t : List ℕ) (p : ℕ) → 128 ≤ p → procedure_in (index_of t) p ≡ no_procedure
unfolding index_of procedure_in
absent t p h = get_or-eq_default (index_of t).procedure_entries no_procedure (rw (length-entries (is_kind t procedure_kind) (procedure_at t) no_procedure (indexed_rows t) 128) h)

-- In a table that the rows pass accepts every procedure of its index is of such a size.
pub sized : (t : List ℕ) (n : ℕ) → rows_of t ≡ Accepted n → Sized t (index_of t)
unfolding local_count code_of procedure_at is_kind count index_of procedure_in
sized t n e = record { locals = locals; instructions = instructions }
  where
    kind : (p : ℕ) → p < (index_of t).procedures → procedure_kind ≡ kind_at t (nth (is_kind t procedure_kind) (indexed_rows t) p)
    kind p h = sym (eqb-true (kind_at t (nth (is_kind t procedure_kind) (indexed_rows t) p)) procedure_kind (nth-hit (is_kind t procedure_kind) (indexed_rows t) p h))

    locals : (p : ℕ) → p < (index_of t).procedures → local_count (procedure_in (index_of t) p) ≤ 16
    locals p h = go (dec_lt p 128)
      where
        go : Dec (p < 128) → local_count (procedure_in (index_of t) p) ≤ 16
        go (yes l) = let r = procedure-there t p h l in rw r.0 (few-locals t (rows_fine t n e) (nth (is_kind t procedure_kind) (indexed_rows t) p) r.1 (kind p h))
        go (no l) = rw (absent t p (omega arith)) (omega arith)

    instructions : (p : ℕ) → p < (index_of t).procedures → row_count (code_of t (procedure_in (index_of t) p)) ≤ 256
    instructions p h = go (dec_lt p 128)
      where
        go : Dec (p < 128) → row_count (code_of t (procedure_in (index_of t) p)) ≤ 256
        go (yes l) = let r = procedure-there t p h l in
            let few = few-code t (rows_fine t n e) (nth (is_kind t procedure_kind) (indexed_rows t) p) r.1 (kind p h) in
            rw r.0 (omega (arith, few, part_between t (code_start t (nth (is_kind t procedure_kind) (indexed_rows t) p)) (code_end t (nth (is_kind t procedure_kind) (indexed_rows t) p))))
        go (no l) = rw (absent t p (omega arith)) (omega (arith, part_between t 0 0))

-- So none is over a limit, and a pass that looks for faults only within the limits is the pass itself.
module _ (t : List ℕ) (n : ℕ) (e : rows_of t ≡ Accepted n) where
  pub none_over : (q : ℕ) → q < (index_of t).procedures → over_limits t (procedure_in (index_of t) q) ≡ false
  none_over q h = let small = sized t n e in limits_hold t (procedure_in (index_of t) q) (small.locals q h) (small.instructions q h)

  pub none_passed_over : (fault : ℕ → ProcedureEntry → ℕ → ℕ) → code_pass (λ (q : ℕ) (p : ProcedureEntry). limited t p (fault q p)) (index_of t) t ≡ code_pass fault (index_of t) t
  none_passed_over fault = pass_same _ fault t (index_of t) (λ q h. limited_in t (procedure_in (index_of t) q) (fault q (procedure_in (index_of t) q)) (none_over q h))
