-- What the passes length, rows and names give of a procedure: how large it is, where its rows stand, where its walks go on, and what its Calls name.
use Prim.Native.Nat.{ℕ, ◌+◌, ◌-◌, ◌<◌, ◌≤◌}
use mathlib.Core.Path.{◌≡◌, refl, sym, ap, ◌∙◌}
use mathlib.Core.Bool.{Bool, true, false, cond, not}
use mathlib.Core.List.{List, [], ◌∷◌}
use mathlib.Core.Logic.{◌⊎◌, inl, inr}
use native.Mathlib.Decide.{dec_lt}
use native.Mathlib.Omega.{arith}
use borrow.Author.Tests.{eqb-true, eqb-false, lt-ltb}
use lib.Dec.{eqb}
use Rattle.laws.specs.Lists.{count, nth}
use Rattle.laws.proofs.Lists.{find-within, nth-count}
use Rattle.table.specs.declared.index.ProcedureEntry.{ProcedureEntry}
use Rattle.table.specs.Format.{module_kind, procedure_kind, instruction_kind, op_call, op_ret, op_branch, op_branch_cond}
use Rattle.table.specs.Rows.{row_count, row_at, kind_at, is_kind}
use Rattle.table.specs.Index.{index_of, indexed_rows, owner_at, procedure_at, code_start, code_end}
use Rattle.table.specs.Procedures.{procedure_row}
use Rattle.table.proofs.Laws.{row_outside, is-kind, not-kind, procedure-code}
use Rattle.declarations.specs.Program.{local_count, is_parameter, parameters_end, parameter_count, code_of, code_length}
use Rattle.declarations.proofs.Laws.{procedure-there}
use Rattle.flow.specs.Steps.{below, next_of, nexts}
use Rattle.names.specs.Names.{names}
use Rattle.sizes.specs.code.Formed.{Formed}
use Rattle.sizes.proofs.Sizes.{rows_fine, sized}
use Rattle.sizes.proofs.Rows.{own, row_of, row_below, entry-is, row-kind, row-kinds, row_count_lem, parts, own-number, code-count, code_row, code-place, code-some, code-ends, code-named, count_stretch}
use Rattle.sizes.proofs.Counts as Counts
use Rattle.sizes.proofs.Places as Places

-- the parameters of a procedure are locals
pub parameters-fit : (t : List ℕ) (p : ProcedureEntry) → parameter_count t p ≤ local_count p
unfolding parameter_count local_count parameters_end
parameters-fit t p = omega (arith, find-within (λ (i : ℕ). not (is_parameter t i)) (p.row + 1) (p.results - (p.row + 1)))

module _ (t : List ℕ) (f : Formed t) where
  -- the index covers every row, of which there are at most 2,048
  pub whole : indexed_rows t ≡ row_count t
  whole = Places.whole t (row_count t) f.by_length f.by_rows

  pub rows_few : row_count t ≤ 2048
  rows_few = omega (arith, whole)

  -- procedure q
  module _ (q : ℕ) (there : q < (index_of t).procedures) where
    pub few : q < 128
    few = Counts.procedure-few t (rows_fine t (row_count t) f.by_rows) q there

    abbrev at : ℕ
    at = row_of t q there few

    pub locals-few : local_count (own t q) ≤ 16
    locals-few = (sized t (row_count t) f.by_rows).locals q there

    pub results-few : (own t q).code - (own t q).results ≤ 4
    unfolding procedure_at
    results-few = rw (entry-is t q there few) (Counts.results-few t (rows_fine t (row_count t) f.by_rows) at (row_below t q there few) (sym (row-kind t q there few)))

    pub some-code : 0 < row_count (code_of t (own t q))
    some-code = code-some t q there few (row_count t) f.by_names

    -- its parts are in order, and its code has as many rows as there are between its start and its end
    pub order : ((own t q).row < (own t q).results) × ((own t q).results ≤ (own t q).code) × ((own t q).code ≤ (own t q).end) × ((own t q).end ≤ row_count t)
    unfolding procedure_at
    order = rw (entry-is t q there few) (omega (arith, parts t q there few))

    pub code-size : row_count (code_of t (own t q)) ≡ (own t q).end - (own t q).code
    unfolding procedure_at
    code-size = code-count t q there few ∙ rw (entry-is t q there few) refl

    -- its own row
    pub head_kind : kind_at t (own t q).row ≡ procedure_kind
    unfolding procedure_at
    head_kind = rw (entry-is t q there few) (row-kind t q there few)

    pub head_number : count (is_kind t procedure_kind) (own t q).row ≡ q
    unfolding procedure_at
    head_number = rw (entry-is t q there few) (row_count_lem t q there few)

    pub head_below : (own t q).row < row_count t
    head_below = omega (arith, order)

    -- the entry and the module that it has are those of its row, counted from all rows
    pub entry_row : own t q ≡ procedure_at t (procedure_row t q)
    unfolding procedure_row
    entry_row = (procedure-there t q there few).0 ∙ ap (λ (n : ℕ). procedure_at t (nth (is_kind t procedure_kind) n q)) whole

    pub module_is : (own t q).owner ≡ owner_at t (procedure_row t q)
    unfolding procedure_at
    module_is = ap (λ (p : ProcedureEntry). p.owner) entry_row

    -- instruction i
    module _ (i : ℕ) (h : i < row_count (code_of t (own t q))) where
      pub code_below : (own t q).code + i < row_count t
      code_below = omega (arith, order, code-size)

      pub code_at : row_at t ((own t q).code + i) ≡ row_at (code_of t (own t q)) i
      unfolding procedure_at
      code_at = sym (code_row t q there few i h ∙ rw (entry-is t q there few) refl)

      pub code-kind : kind_at t ((own t q).code + i) ≡ instruction_kind
      unfolding procedure_at
      code-kind = sym (rw (entry-is t q there few) (procedure-code t at {j = code_start t at + i} (omega arith) (omega (arith, code-count t q there few))))

      pub code-number : count (is_kind t procedure_kind) ((own t q).code + i) - 1 ≡ q
      code-number = let p = code-place t q there few i h in own-number t q there few ((own t q).code + i) p.0 p.1

      -- it stands in the same module
      pub owner_is : owner_at t ((own t q).code + i) ≡ (own t q).owner
      unfolding owner_at procedure_at
      owner_is =
          ap (λ (k : ℕ). k - 1) (count_stretch (is_kind t module_kind) at ((own t q).code + i) (omega (arith, place)) (λ j lo hi. not-kind t j module_kind refl (no_module j lo hi (dec_lt at j))))
          ∙ sym (ap (λ (p : ProcedureEntry). p.owner) (entry-is t q there few))
        where
          place : (at < (own t q).code + i) × ((own t q).code + i < code_end t at)
          place = code-place t q there few i h

          no_module : (j : ℕ) → at ≤ j → j < (own t q).code + i → Dec (at < j) → kind_at t j ≡ module_kind → ⊥
          no_module j lo hi (yes l) e = omega (arith, row-kinds t q there few j l (omega (arith, place)), e)
          no_module j lo hi (no l) e = let z : j ≡ at = omega arith in omega (arith, row-kind t q there few, rw z at e)

      -- what it jumps to is an instruction of the same procedure
      pub jump_there : ((row_at (code_of t (own t q)) i).a ≡ op_branch) ⊎ ((row_at (code_of t (own t q)) i).a ≡ op_branch_cond) → (row_at (code_of t (own t q)) i).b < row_count (code_of t (own t q))
      unfolding names code_length
      jump_there (inl e) = rw code-size (rw e at (code-named t q there few (row_count t) f.by_names i h))
      jump_there (inr e) = rw code-size (rw e at (code-named t q there few (row_count t) f.by_names i h))

      -- another follows it, unless it is Ret or Branch
      pub next-there : ((row_at (code_of t (own t q)) i).a ≡ op_ret → ⊥) → ((row_at (code_of t (own t q)) i).a ≡ op_branch → ⊥) → i + 1 < row_count (code_of t (own t q))
      next-there r b = go (dec_lt (i + 1) (row_count (code_of t (own t q))))
        where
          last : ((row_at t ((own t q).code + i)).a ≡ op_ret) ⊎ ((row_at t ((own t q).code + i)).a ≡ op_branch) → ⊥
          last (inl e) = r (rw code_at at e)
          last (inr e) = b (rw code_at at e)

          go : Dec (i + 1 < row_count (code_of t (own t q))) → i + 1 < row_count (code_of t (own t q))
          go (yes l) = l
          go (no l) =
              let e : (own t q).end - 1 ≡ (own t q).code + i = omega (arith, order, code-size) in
              absurd (last (rw e at (code-ends t q there few (row_count t) f.by_names)))

      -- so walks go on where it says
      pub goes_on : nexts (code_of t (own t q)) i ≡ next_of (row_at (code_of t (own t q)) i) i
      unfolding nexts next_of below
      goes_on = go (eqb (row_at (code_of t (own t q)) i).a op_ret) (eqb (row_at (code_of t (own t q)) i).a op_branch) (eqb (row_at (code_of t (own t q)) i).a op_branch_cond) refl refl refl
        where
          go : (x y z : Bool) → eqb (row_at (code_of t (own t q)) i).a op_ret ≡ x → eqb (row_at (code_of t (own t q)) i).a op_branch ≡ y → eqb (row_at (code_of t (own t q)) i).a op_branch_cond ≡ z
              → below (row_count (code_of t (own t q))) (cond x [] (cond y ((row_at (code_of t (own t q)) i).b ∷ []) (cond z ((i + 1) ∷ (row_at (code_of t (own t q)) i).b ∷ []) ((i + 1) ∷ []))))
              ≡ cond x [] (cond y ((row_at (code_of t (own t q)) i).b ∷ []) (cond z ((i + 1) ∷ (row_at (code_of t (own t q)) i).b ∷ []) ((i + 1) ∷ [])))
          go true y z k l m = refl
          go false true z k l m = rw (lt-ltb _ _ (jump_there (inl (eqb-true _ _ l))))
          go false false true k l m = rw (lt-ltb _ _ (next-there (eqb-false _ _ k) (eqb-false _ _ l)), lt-ltb _ _ (jump_there (inr (eqb-true _ _ m))))
          go false false false k l m = rw (lt-ltb _ _ (next-there (eqb-false _ _ k) (eqb-false _ _ l)))

    -- a Call names a procedure
    pub called : (i : ℕ) → (row_at (code_of t (own t q)) i).a ≡ op_call → (row_at (code_of t (own t q)) i).b < (index_of t).procedures
    unfolding names
    called i e = go (dec_lt i (row_count (code_of t (own t q))))
      where
        go : Dec (i < row_count (code_of t (own t q))) → (row_at (code_of t (own t q)) i).b < (index_of t).procedures
        go (yes l) = rw e at (code-named t q there few (row_count t) f.by_names i l)
        go (no l) = let z : ◌≡◌ {A = ℕ} 0 op_call = rw (row_outside (code_of t (own t q)) i (omega arith)) at e in absurd (omega arith)

  -- a row of kind 4 is a procedure's own
  pub head_there : (row : ℕ) → row < row_count t → kind_at t row ≡ procedure_kind
      → (count (is_kind t procedure_kind) row < (index_of t).procedures) × ((own t (count (is_kind t procedure_kind) row)).row ≡ row)
  unfolding index_of procedure_at
  head_there row h k =
      let s = nth-count (is_kind t procedure_kind) (indexed_rows t) row (rw whole h) (is-kind t row procedure_kind refl k) in
      (s.0, rw (procedure-there t (count (is_kind t procedure_kind) row) s.0 (few (count (is_kind t procedure_kind) row) s.0)).0 s.1)

  -- a row of kind 7 is an instruction of the procedure above it
  pub code-there : (row : ℕ) → row < row_count t → kind_at t row ≡ instruction_kind
      → (count (is_kind t procedure_kind) row - 1 < (index_of t).procedures)
      × ((own t (count (is_kind t procedure_kind) row - 1)).code ≤ row)
      × (row - (own t (count (is_kind t procedure_kind) row - 1)).code < row_count (code_of t (own t (count (is_kind t procedure_kind) row - 1))))
  unfolding procedure_at
  code-there row h k =
      let n = row_count t in
      let w = Places.within t n f.by_length f.by_rows row h (omega arith) in
      let l = Places.code_lo t n f.by_length f.by_rows row k w in
      let low = Places.few t n f.by_length f.by_rows w.q w.there in
      let e = own-number t w.q w.there low row l.0 w.hi in
      rw e (w.there, rw (entry-is t w.q w.there low) l.1, go w.q w.there (rw (entry-is t w.q w.there low) l.1) (rw (entry-is t w.q w.there low) w.hi))
    where
      go : (q : ℕ) → q < (index_of t).procedures → (own t q).code ≤ row → row < (own t q).end → row - (own t q).code < row_count (code_of t (own t q))
      go q there lo hi = omega (arith, code-size q there)
