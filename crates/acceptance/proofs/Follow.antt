-- Where a walk goes on: at an instruction that is there, before which the kinds of the operands are those after this one.
use Prim.Native.Nat.{ℕ, zero, suc, ◌+◌, ◌<◌}
use mathlib.Core.Path.{◌≡◌, refl, sym, ap, ◌∙◌}
use mathlib.Core.Bool.{Bool, true, false, cond, ◌||◌, or-true}
use mathlib.Core.List.Memᴰ
use mathlib.Core.List.{List, [], ◌∷◌}
use mathlib.Core.Logic.{◌⊎◌, inl, inr, ⊎_elim}
use native.Mathlib.Numerals.{add-one}
use native.Mathlib.Decide.{ℕ_discrete}
use native.Mathlib.Omega.{arith}
use borrow.Author.Tests.{ltb-true, eqb-true, eq-eqb}
use lib.Dec.{eqb, ltb}
use Rattle.table.specs.declared.Row.{Row}
use Rattle.table.specs.declared.index.Index.{Index}
use Rattle.table.specs.declared.index.ProcedureEntry.{ProcedureEntry}
use Rattle.table.specs.Format.{op_ret, op_branch, op_branch_cond}
use Rattle.table.specs.Rows.{row_count, row_at}
use Rattle.declarations.specs.Program.{code_of, jumps_to, target_below, is_target}
use Rattle.reach.specs.Reach.{Mem, here, there}
use Rattle.effects.specs.Kinds.{good}
use Rattle.operands.specs.Operands.{ends_block, last_of_block, kinds_before}
use Rattle.operands.specs.Flow.{onto, effect_in, Flow}
use Rattle.operands.proofs.Flow.{target-empty}
use Rattle.flow.specs.Steps.{below, next_of, nexts}

-- what is in `below n` is in the list, and below n
below_inv : (n : ℕ) (js : List ℕ) {j : ℕ} → Mem j (below n js) → Mem j js × (j < n)
unfolding below
below_inv n [] m = absurd (Memᴰ.not-nil m)
below_inv n (x ∷ xs) {j} m = go (ltb x n) refl m (λ r. below_inv n xs r)
  where
    go : (b : Bool) → ltb x n ≡ b → Mem j (cond b (x ∷ below n xs) (below n xs)) → (Mem j (below n xs) → Mem j xs × (j < n)) → Mem j (x ∷ xs) × (j < n)
    go true e m ih = ⊎_elim (λ q. (here q, rw q (ltb-true x n e))) (λ r. let s = ih r in (there s.0, s.1)) (Memᴰ.cases_cons m)
    go false e m ih = let s = ih m in (there s.0, s.1)

-- a walk goes on at an instruction that is there
pub next_below : (c : List ℕ) (i j : ℕ) → Mem j (nexts c i) → j < row_count c
unfolding nexts
next_below c i j m = (below_inv (row_count c) _ m).1

-- the next instruction, or the target of a jump
next_cases : (row : Row) (i j : ℕ) → Mem j (next_of row i) → (j ≡ i + 1) ⊎ (((row.a ≡ op_branch) ⊎ (row.a ≡ op_branch_cond)) × (j ≡ row.b))
unfolding next_of
next_cases row i j m = go (eqb row.a op_ret) (eqb row.a op_branch) (eqb row.a op_branch_cond) refl refl m
  where
    go : (x y z : Bool) → eqb row.a op_branch ≡ y → eqb row.a op_branch_cond ≡ z → Mem j (cond x [] (cond y (row.b ∷ []) (cond z ((i + 1) ∷ row.b ∷ []) ((i + 1) ∷ []))))
        → (j ≡ i + 1) ⊎ (((row.a ≡ op_branch) ⊎ (row.a ≡ op_branch_cond)) × (j ≡ row.b))
    go true y z p q m = absurd (Memᴰ.not-nil m)
    go false true z p q m = inr (inl (eqb-true _ _ p), Memᴰ.eq_of_singleton m)
    go false false true p q m = ⊎_elim (λ e. inl e) (λ r. inr (inr (eqb-true _ _ q), Memᴰ.eq_of_singleton r)) (Memᴰ.cases_cons m)
    go false false false p q m = inl (Memᴰ.eq_of_singleton m)

-- what an instruction jumps to is a target
jumps : (row : Row) → (row.a ≡ op_branch) ⊎ (row.a ≡ op_branch_cond) → jumps_to row row.b ≡ true
unfolding jumps_to
jumps row (inl e) = rw (e, eq-eqb row.b row.b refl)
jumps row (inr e) = rw (e, eq-eqb row.b row.b refl)

-- a target of one of the first n
target_below_lem : (c : List ℕ) (i j n : ℕ) → i < n → jumps_to (row_at c i) j ≡ true → target_below c j n ≡ true
unfolding target_below
target_below_lem c i j zero h e = absurd (omega arith)
target_below_lem c i j (suc n) h e = go (ℕ_discrete i n) (target_below_lem c i j n)
  where
    go : Dec (i ≡ n) → (i < n → jumps_to (row_at c i) j ≡ true → target_below c j n ≡ true) → (target_below c j n || jumps_to (row_at c n) j) ≡ true
    go (yes q) ih = rw (← q, e, or-true)
    go (no q) ih = rw (ih (omega arith) e)

-- a target of the code
jump_target : (c : List ℕ) (i : ℕ) → i < row_count c → ((row_at c i).a ≡ op_branch) ⊎ ((row_at c i).a ≡ op_branch_cond) → is_target c (row_at c i).b ≡ true
unfolding is_target
jump_target c i h e = target_below_lem c i (row_at c i).b (row_count c) h (jumps (row_at c i) e)

-- a jump is the last of its block
jump_last : (c : List ℕ) (i : ℕ) → ((row_at c i).a ≡ op_branch) ⊎ ((row_at c i).a ≡ op_branch_cond) → last_of_block c i ≡ true
unfolding last_of_block ends_block
jump_last c i (inl e) = rw (e, or-true)
jump_last c i (inr e) = rw (e, or-true)

module _ (t : List ℕ) (ix : Index) (p : ProcedureEntry) where
  -- a block starts with no operand
  block_start : (i : ℕ) → last_of_block (code_of t p) i ≡ true → kinds_before t ix p (i + 1) ≡ good []
  unfolding kinds_before
  block_start i e = rw (add-one, e)

  -- the kinds before the next instruction of a walk are those that are pushed, on the rest
  pub kinds-follow : (i j : ℕ) (f : Flow t ix p i) → i < row_count (code_of t p) → Mem j (nexts (code_of t p) i)
      → kinds_before t ix p j ≡ good (onto (effect_in t ix p f.top i).gives f.rest)
  unfolding nexts
  kinds-follow i j f h m =
      let b = below_inv (row_count (code_of t p)) (next_of (row_at (code_of t p) i) i) m in
      ⊎_elim
      (λ e. rw e (falls (last_of_block (code_of t p) i) refl))
      (λ q. target-empty t ix p j b.1 (rw q.1 (jump_target (code_of t p) i h q.0)) ∙ ap good (sym (f.edge (jump_last (code_of t p) i q.0))))
      (next_cases (row_at (code_of t p) i) i j b.0)
    where
      falls : (l : Bool) → last_of_block (code_of t p) i ≡ l → kinds_before t ix p (i + 1) ≡ good (onto (effect_in t ix p f.top i).gives f.rest)
      falls true e = block_start i e ∙ ap good (sym (f.edge e))
      falls false e = f.next e
