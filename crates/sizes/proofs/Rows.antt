-- The rows of a procedure's code: they are rows of the table, in its order, and the locals that they name exist where the names pass accepts the table.
use Prim.Native.Nat.{ℕ, zero, suc, ◌+◌, ◌-◌, ◌*◌, ◌<◌, ◌≤◌}
use mathlib.Core.Path.{◌≡◌, refl, sym, ◌∙◌}
use mathlib.Core.Bool.{Bool, true, false, cond}
use mathlib.Core.List.{List, [], ◌∷◌, ◌++◌}
use mathlib.Core.Logic.{◌⊎◌}
use native.Mathlib.Decide.{dec_lt}
use native.Mathlib.Omega.{arith}
use borrow.Author.Tests.{eqb-true}
use lib.ListN.{length, get_or, drop, length-take, length-drop, length-append}
use lib.Seq.{get_or-take, get_or-drop}
use Rattle.laws.specs.Lists.{hits, count, nth}
use Rattle.laws.specs.Numbers.{le}
use Rattle.laws.proofs.Lists.{get_d_snoc_old, get_d_snoc_new, hits-kept, count_yes, count_skip, length-entries}
use Rattle.table.specs.Verdicts.{Accepted}
use Rattle.table.specs.declared.index.ProcedureEntry.{ProcedureEntry}
use Rattle.table.specs.Format.{procedure_kind, op_ret, op_branch}
use Rattle.table.specs.Rows.{row_count, row_at, row_from, kind_at, is_kind}
use Rattle.table.specs.Index.{no_procedure, index_of, indexed_rows, procedure_at, results_start, code_start, code_end}
use Rattle.table.specs.Procedures.{part_of, rows_between}
use Rattle.table.proofs.Laws.{row_inside, row_outside, not-kind, part_inside, procedure-parts, procedure-locals, procedure-results, procedure-code}
use Rattle.declarations.specs.Program.{procedure_in, code_of, local_count, instruction_in}
use Rattle.declarations.proofs.Laws.{procedure-there}
use Rattle.names.specs.Names.{nothing, local_number, names, names_of}
use Rattle.names.specs.Exist.{Exists, Good}
use Rattle.names.proofs.Exist.{names-good}
use Rattle.sizes.proofs.Sizes.{nth-hit, part_between, absent}

-- Parts of a table.

-- a number in a stretch of bytes is a number of the whole
le_same : (s t : List ℕ) (d n o : ℕ) → ((j : ℕ) → o ≤ j → j < o + n → get_or s j 0 ≡ get_or t (d + j) 0) → le s o n ≡ le t (d + o) n
unfolding le
le_same s t d zero o h = refl
le_same s t d (suc n) o h =
    let e : d + o + 1 ≡ d + (o + 1) = omega arith in
    rw (h o (omega arith) (omega arith), e, le_same s t d n (o + 1) (λ j lo hi. h j (omega arith) (omega arith)))

module _ (t : List ℕ) (from to : ℕ) (order : from ≤ to) (fits : to ≤ row_count t) where
  -- bytes, numbers and rows of a stretch of rows are those of the table
  between-byte : (j : ℕ) → j < 16 * (to - from) → get_or (rows_between t from to) j 0 ≡ get_or t (16 * from + j) 0
  unfolding rows_between
  between-byte j h =
      let e : j < 16 * to - 16 * from = omega arith in
      get_or-take (16 * to - 16 * from) (drop (16 * from) t) j 0 e ∙ get_or-drop (16 * from) t j 0

  -- a part has as many rows as lie between its ends
  pub part_count : row_count (part_of t from to) ≡ to - from
  unfolding rows_between
  part_count = rw (part_inside t from to order fits) (omega (arith, length-take (16 * to - 16 * from) (drop (16 * from) t), length-drop (16 * from) t))

  between_le : (n o : ℕ) → o + n ≤ 16 * (to - from) → le (rows_between t from to) o n ≡ le t (16 * from + o) n
  between_le n o h = le_same (rows_between t from to) t (16 * from) n o (λ j lo hi. between-byte j (omega arith))

  between-row : (i : ℕ) → i < to - from → row_from (rows_between t from to) (16 * i) ≡ row_from t (16 * (from + i))
  unfolding row_from
  between-row i h =
      let e₀ : 16 * from + 16 * i ≡ 16 * (from + i) = omega arith in
      let e₁ : 16 * from + (16 * i + 1) ≡ 16 * (from + i) + 1 = omega arith in
      let e₂ : 16 * from + (16 * i + 2) ≡ 16 * (from + i) + 2 = omega arith in
      let e₄ : 16 * from + (16 * i + 4) ≡ 16 * (from + i) + 4 = omega arith in
      let e₈ : 16 * from + (16 * i + 8) ≡ 16 * (from + i) + 8 = omega arith in
      rw (between-byte (16 * i) (omega arith), between-byte (16 * i + 1) (omega arith), between_le 2 (16 * i + 2) (omega arith), between_le 4 (16 * i + 4) (omega arith), between_le 8 (16 * i + 8) (omega arith), e₀, e₁, e₂, e₄, e₈)

  -- a row of a part is a row of the table
  pub part_row : (i : ℕ) → i < to - from → row_at (part_of t from to) i ≡ row_at t (from + i)
  part_row i h =
      let l : i < row_count (part_of t from to) = omega (arith, part_count) in
      let m : from + i < row_count t = omega arith in
      row_inside (part_of t from to) i l ∙ rw (part_inside t from to order fits) (between-row i h) ∙ sym (row_inside t (from + i) m)

-- Numbers that are hit.

-- below the hit that is number p there are p
hits-nth : (hit : ℕ → Bool) (n p d : ℕ) → p < length (hits hit n) → length (hits hit (get_or (hits hit n) p d)) ≡ p
unfolding hits
hits-nth hit zero p d h = absurd (omega arith)
hits-nth hit (suc n) p d h = go (hit n) h (dec_lt p (length (hits hit n))) (hits-nth hit n p d)
  where
    go : (b : Bool) → p < length (cond b (hits hit n ++ (n ∷ [])) (hits hit n)) → Dec (p < length (hits hit n)) → (p < length (hits hit n) → length (hits hit (get_or (hits hit n) p d)) ≡ p)
        → length (hits hit (get_or (cond b (hits hit n ++ (n ∷ [])) (hits hit n)) p d)) ≡ p
    go true h (yes l) ih = rw (get_d_snoc_old (hits hit n) n d p l) (ih l)
    go true h (no l) ih = let e : length (hits hit n) ≡ p = omega (arith, simp length-append at h) in rw (get_d_snoc_new (hits hit n) n d p e) e
    go false h (yes l) ih = ih l
    go false h (no l) ih = absurd (l h)

-- the same of `nth`
pub count-nth : (hit : ℕ → Bool) (n p : ℕ) → p < count hit n → count hit (nth hit n p) ≡ p
unfolding count nth
count-nth hit n p h = hits-nth hit n p n h

-- none is hit over a stretch
pub count_stretch : (hit : ℕ → Bool) (a b : ℕ) → a ≤ b → ((j : ℕ) → a ≤ j → j < b → hit j ≡ false) → count hit b ≡ count hit a
count_stretch hit a b h f =
    let e : a + (b - a) ≡ b = omega arith in
    rw e at (count_skip hit a (b - a) (λ j lo hi. f j lo (omega arith)))

-- no fewer are hit over a longer stretch
count-grows : (hit : ℕ → Bool) (a b : ℕ) → a ≤ b → count hit a ≤ count hit b
unfolding count
count-grows hit a b h = go (dec_lt 0 (length (hits hit a)))
  where
    go : Dec (0 < length (hits hit a)) → length (hits hit a) ≤ length (hits hit b)
    go (yes l) = (hits-kept hit a b 0 0 h l).1
    go (no l) = omega arith

-- Procedure q of a table.
abbrev pub own : List ℕ → ℕ → ProcedureEntry
own t q = procedure_in (index_of t) q

module _ (t : List ℕ) (q : ℕ) (there : q < (index_of t).procedures) (few : q < 128) where
  -- its row
  pub row_of : ℕ
  row_of = nth (is_kind t procedure_kind) (indexed_rows t) q

  -- it is there
  row-there : q < count (is_kind t procedure_kind) (indexed_rows t)
  unfolding index_of
  row-there = there

  -- its row is a procedure's
  row_hit : is_kind t procedure_kind row_of ≡ true
  unfolding row_of
  row_hit = nth-hit (is_kind t procedure_kind) (indexed_rows t) q row-there

  -- it is one of the rows that the index covers
  pub row_below : row_of < indexed_rows t
  unfolding row_of
  row_below = (procedure-there t q there few).1

  -- its entry is that of its row
  pub entry-is : own t q ≡ procedure_at t row_of
  unfolding row_of
  entry-is = (procedure-there t q there few).0

  -- so is its kind
  pub row-kind : kind_at t row_of ≡ procedure_kind
  unfolding is_kind
  row-kind = eqb-true _ _ row_hit

  -- there are q procedures above it
  pub row_count_lem : count (is_kind t procedure_kind) row_of ≡ q
  unfolding row_of
  row_count_lem = count-nth (is_kind t procedure_kind) (indexed_rows t) q row-there

  -- its parts are in order
  pub parts : (row_of < results_start t row_of) × (results_start t row_of ≤ code_start t row_of) × (code_start t row_of ≤ code_end t row_of) × (code_end t row_of ≤ indexed_rows t)
  parts = procedure-parts t row_of row_below

  -- the rows below its own are of kinds 5, 6 and 7
  pub row-kinds : (j : ℕ) → row_of < j → j < code_end t row_of → (5 ≤ kind_at t j) × (kind_at t j ≤ 7)
  row-kinds j lo hi = go (dec_lt j (results_start t row_of)) (dec_lt j (code_start t row_of))
    where
      go : Dec (j < results_start t row_of) → Dec (j < code_start t row_of) → (5 ≤ kind_at t j) × (kind_at t j ≤ 7)
      go (yes l) m = omega (arith, procedure-locals t row_of lo l)
      go (no l) (yes m) = omega (arith, procedure-results t row_of {j = j} (omega arith) m)
      go (no l) (no m) = omega (arith, procedure-code t row_of {j = j} (omega arith) hi)

  -- they stand in procedure q
  pub own-number : (j : ℕ) → row_of < j → j < code_end t row_of → count (is_kind t procedure_kind) j - 1 ≡ q
  own-number j lo hi =
      let a = count_stretch (is_kind t procedure_kind) (row_of + 1) j (omega arith) (λ r l m. not-kind t r procedure_kind refl (λ e. omega (arith, row-kinds r (omega arith) (omega arith)))) in
      omega (arith, a, count_yes (is_kind t procedure_kind) row_of row_hit, row_count_lem)

  -- its code has as many rows as there are between its start and its end
  pub code-count : row_count (code_of t (own t q)) ≡ code_end t row_of - code_start t row_of
  unfolding code_of procedure_at
  code-count = rw entry-is (part_count t (code_start t row_of) (code_end t row_of) (omega (arith, parts)) (omega (arith, parts)))

  -- each is a row of the table
  pub code_row : (i : ℕ) → i < row_count (code_of t (own t q)) → instruction_in t (index_of t) q i ≡ row_at t (code_start t row_of + i)
  unfolding code_of procedure_at
  code_row i h =
      let l : i < code_end t row_of - code_start t row_of = omega (arith, code-count) in
      rw entry-is (part_row t (code_start t row_of) (code_end t row_of) (omega (arith, parts)) (omega (arith, parts)) i l)

  -- its instructions are rows of the table between its row and the end of its code
  pub code-place : (i : ℕ) → i < row_count (code_of t (own t q)) → (row_of < (own t q).code + i) × ((own t q).code + i < code_end t row_of)
  unfolding procedure_at
  code-place i h = rw entry-is (omega (arith, parts, code-count, h))

  module _ (n : ℕ) (accepted : names_of t ≡ Accepted n) where
    -- every row of an accepted table is good
    good : (i : ℕ) → i < row_count t → Good t (index_of t) i
    unfolding names_of
    good = names-good t (index_of t) n accepted

    -- the code is not empty
    pub code-some : 0 < row_count (code_of t (own t q))
    unfolding procedure_at
    code-some =
        let g = ((good row_of (omega (arith, row_below))).ends row-kind).0 in
        let e : code_start t row_of < code_end t row_of = rw (row_count_lem, entry-is) at g in
        omega (arith, code-count)

    -- the last instruction is Ret or Branch
    pub code-ends : ((row_at t ((own t q).end - 1)).a ≡ op_ret) ⊎ ((row_at t ((own t q).end - 1)).a ≡ op_branch)
    code-ends = rw row_count_lem at ((good row_of (omega (arith, row_below))).ends row-kind).1

    -- what an instruction names exists
    pub code-named : (i : ℕ) → i < row_count (code_of t (own t q))
        → Exists (index_of t) (own t q) (instruction_in t (index_of t) q i).b (get_or names (instruction_in t (index_of t) q i).a nothing)
    code-named i h =
        let j = code_start t row_of + i in
        let hi : j < code_end t row_of = omega (arith, code-count) in
        let lo : row_of < j = omega (arith, parts) in
        let g = (good j (omega (arith, parts))).named (sym (procedure-code t row_of {j = j} (omega arith) hi)) in
        rw code_row (rw (own-number j lo hi) at g)

    -- a local that an instruction names is there
    pub local-there : (i : ℕ) → get_or names (instruction_in t (index_of t) q i).a nothing ≡ local_number → (instruction_in t (index_of t) q i).b < local_count (own t q)
    unfolding names
    local-there i e = go (dec_lt i (row_count (code_of t (own t q))))
      where
        go : Dec (i < row_count (code_of t (own t q))) → (instruction_in t (index_of t) q i).b < local_count (own t q)
        go (yes h) = rw e at (code-named i h)
        go (no h) =
            let f : nothing ≡ local_number = rw (row_outside (code_of t (own t q)) i (omega arith)) at e in
            let z : ◌≡◌ {A = ℕ} 0 1 = cc in absurd (omega arith)

-- a procedure below 128 has an entry in the index
pub entries_long : (t : List ℕ) (q : ℕ) → q < 128 → q < length (index_of t).procedure_entries
unfolding index_of
entries_long t q few = rw (length-entries (is_kind t procedure_kind) (procedure_at t) no_procedure (indexed_rows t) 128) few

-- one that has an instruction is below 128
pub inside-few : (t : List ℕ) (q i : ℕ) → i < row_count (code_of t (own t q)) → q < 128
unfolding code_of
inside-few t q i h = go (dec_lt q 128)
  where
    go : Dec (q < 128) → q < 128
    go (yes l) = l
    go (no l) = absurd (let z : i < row_count (part_of t 0 0) = rw (absent t q (omega arith)) at h in omega (arith, z, part_between t 0 0))

-- procedures stand in table order, and so do their instructions
pub code_rises : (t : List ℕ) (q r i j : ℕ) → q < r → r < (index_of t).procedures → i < row_count (code_of t (own t q)) → j < row_count (code_of t (own t r)) → (own t q).code + i < (own t r).code + j
code_rises t q r i j less there h k =
    let known : q < (index_of t).procedures = omega arith in
    let few = inside-few t q i h in
    let a = code-place t q known few i h in
    let b = code-place t r there (inside-few t r j k) j k in
    go (own-number t q known few _ a.0 a.1) (own-number t r there (inside-few t r j k) _ b.0 b.1) (dec_lt ((own t q).code + i) ((own t r).code + j))
  where
    go : count (is_kind t procedure_kind) ((own t q).code + i) - 1 ≡ q → count (is_kind t procedure_kind) ((own t r).code + j) - 1 ≡ r → Dec ((own t q).code + i < (own t r).code + j)
        → (own t q).code + i < (own t r).code + j
    go a b (yes l) = l
    go a b (no l) = absurd (omega (arith, a, b, less, count-grows (is_kind t procedure_kind) ((own t r).code + j) ((own t q).code + i) (omega arith)))
