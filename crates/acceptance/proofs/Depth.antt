-- A walk arrives with as many marks as there are kinds of operands before the instruction, so with at most 16.
use Prim.Native.Nat.{ℕ, ◌+◌, ◌<◌, ◌≤◌}
use mathlib.Core.Path.{◌≡◌, refl, sym, ap, ◌∙◌}
use mathlib.Core.Bool.{Bool, true, false, cond}
use mathlib.Core.List.{List, [], ◌∷◌}
use native.Mathlib.Omega.{arith}
use borrow.Author.Tests.{eqb-true}
use lib.Dec.{eqb}
use lib.ListN.{length, get_or, drop, length-drop}
use Rattle.table.specs.declared.index.Index.{Index}
use Rattle.table.specs.declared.index.ProcedureEntry.{ProcedureEntry}
use Rattle.table.specs.Format.{op_mv_loc, op_cp_loc}
use Rattle.table.specs.Rows.{row_count}
use Rattle.declarations.specs.Program.{code_of}
use Rattle.reach.specs.Reach.{Mem}
use Rattle.effects.specs.Kinds.{good}
use Rattle.operands.specs.Operands.{kinds_before}
use Rattle.operands.specs.Flow.{onto, effect_in, Flow}
use Rattle.flow.specs.Steps.{Step, nexts}
use Rattle.flow.specs.Walks.{Slot, empty, mark_of, pushed_on, some_top, pushes, marks_after, Walk, starts, goes_on}
use Rattle.flow.specs.code.Paths.{Regular, Shallow}
use Rattle.steps.specs.Steps.{Marking, step_at}
use Rattle.acceptance.proofs.Regular.{Plain, regular, step-takes, step_gives}
use Rattle.acceptance.proofs.Follow.{next_below, kinds-follow}

-- how many kinds there are after some are pushed
pub length-onto : (ks rest : List ℕ) → length (onto ks rest) ≡ length ks + length rest
unfolding onto
length-onto [] rest = omega arith
length-onto (k ∷ ks) rest = omega (arith, length-onto ks (k ∷ rest))

-- the same of marks
length-pushed : (xs ms : List Bool) → length (pushed_on xs ms) ≡ length xs + length ms
unfolding pushed_on
length-pushed [] ms = omega arith
length-pushed (x ∷ xs) ms = omega (arith, length-pushed xs (x ∷ ms))

-- an instruction pushes as many operands as it has fresh marks
pub length-pushes : (step : ℕ → Step) → Regular step → (i : ℕ) (ls : List Slot) (ms : List Bool) → length (pushes (step i) ls ms) ≡ length (step i).fresh
unfolding pushes
length-pushes step r i ls ms = go (eqb (step i).opcode op_mv_loc) (eqb (step i).opcode op_cp_loc) (step i).carries refl refl refl
  where
    go : (a b d : Bool) → eqb (step i).opcode op_mv_loc ≡ a → eqb (step i).opcode op_cp_loc ≡ b → (step i).carries ≡ d
        → length (cond a (mark_of (get_or ls (step i).operand empty) ∷ []) (cond b (mark_of (get_or ls (step i).operand empty) ∷ []) (cond d (some_top (step i).takes ms ∷ []) (step i).fresh))) ≡ length (step i).fresh
    go true b d p q u = rw (r.moving i (eqb-true _ _ p)).1
    go false true d p q u = rw (r.copying i (eqb-true _ _ q)).1
    go false false true p q u = rw (r.carrying i u)
    go false false false p q u = refl

-- the kinds of good kinds are the same
pub good-same : {xs ys : List ℕ} → good xs ≡ good ys → xs ≡ ys
good-same e = cc

-- the kinds before instruction i are as many as the operands
pub record Deep (t : List ℕ) (ix : Index) (p : ProcedureEntry) (i : ℕ) (ms : List Bool) : Type 0 where
  pub inside : i < row_count (code_of t p)
  pub kinds : List ℕ
  pub before : kinds_before t ix p i ≡ good kinds
  pub depth : length ms ≡ length kinds
  pub bounded : length ms ≤ 16

module _ (t : List ℕ) (ix : Index) (m : Marking) (plain : Plain m) (p : ProcedureEntry) (start : List Slot) (some : 0 < row_count (code_of t p))
    (flow : (i : ℕ) → i < row_count (code_of t p) → Flow t ix p i) where
  -- so it is after an instruction
  deeper : {i j : ℕ} (ls : List Slot) {ms : List Bool} → Deep t ix p i ms → Mem j (nexts (code_of t p) i) → Deep t ix p j (marks_after (step_at t ix m p i) ls ms)
  unfolding marks_after
  deeper {i} {j} ls {ms} d o =
      let f = flow i d.inside in
      let s = step_at t ix m p i in
      let taken = (effect_in t ix p f.top i).takes in
      let gives = (effect_in t ix p f.top i).gives in
      let had : length ms ≡ length taken + length f.rest = d.depth ∙ ap length (good-same (sym d.before ∙ f.before)) ∙ length-onto taken f.rest in
      let has : length (pushed_on (pushes s ls ms) (drop s.takes ms)) ≡ length (onto gives f.rest) =
      rw (length-pushed, length-drop, length-onto, length-pushes (step_at t ix m p) (regular t ix m p plain) i ls ms, step_gives t ix m p f.top i, step-takes t ix m p f.top i) (omega (arith, had)) in
      record {
        inside = next_below (code_of t p) i j o;
        kinds = onto gives f.rest;
        before = kinds-follow t ix p i j f d.inside o;
        depth = has;
        bounded = rw has f.few;
      }

  -- a walk arrives at an instruction that is there, with as many marks as there are kinds before it
  pub deep : {k i : ℕ} {ls : List Slot} {ms : List Bool} → Walk (nexts (code_of t p)) (step_at t ix m p) start k i ls ms → Deep t ix p i ms
  unfolding kinds_before
  deep starts = record { inside = some; kinds = []; before = refl; depth = refl; bounded = omega arith }
  deep (goes_on {ls = ls} w o) = deeper ls (deep w) o

  -- no walk arrives with more than 16 operands
  pub shallow : Shallow (nexts (code_of t p)) (step_at t ix m p) start
  shallow = record { few = λ w. (deep w).bounded }
