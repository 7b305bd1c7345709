-- What the operands pass gives for each instruction of a table that it accepts: no fault, and the flow of operands; and no operand at a jump target.
use Prim.Native.Nat.{ℕ, zero, suc, ◌+◌, ◌<◌, ◌≤◌}
use mathlib.Core.Path.{◌≡◌, refl, sym, ap, ◌∙◌}
use mathlib.Core.Bool.{Bool, true, false, cond, not, ◌&&◌, or-true, true≢false}
use mathlib.Core.List.{List, [], ◌∷◌}
use mathlib.Core.Logic.{◌⊎◌, inl, inr}
use mathlib.Mathlib.Data.Bool.Basic.{or-eq-false-eq-eq-false-and-eq-false as neither}
use native.Mathlib.Decide.{ℕ_discrete}
use native.Mathlib.Numerals.{add-one}
use native.Mathlib.Omega.{arith}
use borrow.Author.Tests.{ltb-true, le-leb, eqb-true, eq-eqb, ne_eqb, not-false}
use lib.Dec.{eqb, ltb}
use lib.ListN.{length}
use Rattle.laws.proofs.First.{unfaulted}
use Rattle.laws.specs.Lists.{none}
use Rattle.table.specs.Verdicts.{Accepted}
use Rattle.table.specs.declared.index.Index.{Index}
use Rattle.table.specs.declared.index.ProcedureEntry.{ProcedureEntry}
use Rattle.table.specs.Format.{max_operands, op_borrow_fld, op_exists, op_call}
use Rattle.table.specs.Rows.{row_count, row_at}
use Rattle.declarations.specs.Program.{code_of, procedure_in, is_target}
use Rattle.declarations.proofs.Passes.{pass_fine}
use Rattle.effects.specs.Kinds.{Kinds, good, bad, failed, taken, pushed, taken_all, pushed_all, top_of, fault_after}
use Rattle.effects.specs.Effects.{Effect, applied, kinds_after}
use Rattle.operands.specs.Operands.{named_type, last_of_block, foreign_type, foreign, after, kinds_before, code_fault, operands_with}
use Rattle.operands.specs.Flow.{onto, effect_in, Flow}

-- kinds as they come about: at most 16 operands, or a fault that is not 0
abbrev Sound : Kinds → Type 0
Sound (good ks) = length ks ≤ max_operands
Sound (bad f) = f ≡ 0 → ⊥

cond-sound : (b : Bool) (r s : Kinds) → (b ≡ true → Sound r) → Sound s → Sound (cond b r s)
cond-sound true r s h k = h refl
cond-sound false r s h k = k

failed-sound : (s : Kinds) → Sound s → Sound (failed 7 s)
unfolding failed
failed-sound (good ks) h = λ e. omega arith
failed-sound (bad f) h = h

taken-sound : (k : ℕ) (s : Kinds) → Sound s → Sound (taken k s)
unfolding taken
taken-sound k (good []) h = λ e. omega arith
taken-sound k (good (x ∷ xs)) h = cond-sound (eqb x k) (good xs) (bad 7) (λ e. omega arith) (λ e. omega arith)
taken-sound k (bad f) h = h

pushed-sound : (k : ℕ) (s : Kinds) → Sound s → Sound (pushed k s)
unfolding pushed
pushed-sound k (good xs) h = cond-sound (ltb (length xs) max_operands) (good (k ∷ xs)) (bad 8) (λ e. ltb-true _ _ e) (λ e. omega arith)
pushed-sound k (bad f) h = h

taken_all-sound : (ks : List ℕ) (s : Kinds) → Sound s → Sound (taken_all ks s)
unfolding taken_all
taken_all-sound [] s h = h
taken_all-sound (k ∷ ks) s h = taken-sound k (taken_all ks s) (taken_all-sound ks s h)

pushed_all-sound : (ks : List ℕ) (s : Kinds) → Sound s → Sound (pushed_all ks s)
unfolding pushed_all
pushed_all-sound [] s h = h
pushed_all-sound (k ∷ ks) s h = pushed_all-sound ks (pushed k s) (pushed-sound k s h)

applied-sound : (e : Effect) (s : Kinds) → Sound s → Sound (applied e s)
unfolding applied
applied-sound e s h = cond-sound e.fit _ _ (λ q. pushed_all-sound e.gives _ (taken_all-sound e.takes s h)) (failed-sound s h)

module _ (t : List ℕ) (ix : Index) (p : ProcedureEntry) where
  after-sound : (i : ℕ) (s : Kinds) → Sound s → Sound (after t ix p i s)
  unfolding after kinds_after
  after-sound i s h = applied-sound _ s h

  before-sound : (i : ℕ) → Sound (kinds_before t ix p i)
  unfolding kinds_before
  before-sound zero = omega arith
  before-sound (suc i) = cond-sound (last_of_block (code_of t p) i) _ _ (λ e. omega arith) (after-sound i _ (before-sound i))

  -- within a block the kinds before the next instruction are those after this one
  next-within : (i : ℕ) → last_of_block (code_of t p) i ≡ false → kinds_before t ix p (i + 1) ≡ after t ix p i (kinds_before t ix p i)
  unfolding kinds_before
  next-within i l = rw (add-one, l)

-- a fault is no list of kinds
bad-good : {f : ℕ} {ks : List ℕ} → bad f ≡ good ks → ⊥
bad-good e = let z : ◌≡◌ {A = ℕ} 0 1 = cc in omega arith

-- what is taken without fault was there
taken-good : (k : ℕ) (s : Kinds) (ks : List ℕ) → taken k s ≡ good ks → s ≡ good (k ∷ ks)
unfolding taken
taken-good k (good []) ks e = cc
taken-good k (good (x ∷ xs)) ks e = go (eqb x k) refl e
  where
    go : (b : Bool) → eqb x k ≡ b → cond b (good xs) (bad 7) ≡ good ks → good (x ∷ xs) ≡ good (k ∷ ks)
    go true q e = cc (eqb-true x k q)
    go false q e = cc
taken-good k (bad f) ks e = cc

taken_all-good : (takes : List ℕ) (s : Kinds) (rest : List ℕ) → taken_all takes s ≡ good rest → s ≡ good (onto takes rest)
unfolding taken_all onto
taken_all-good [] s rest e = e
taken_all-good (k ∷ ks) s rest e = taken_all-good ks s (k ∷ rest) (taken-good k (taken_all ks s) rest e)

-- kinds s to which some are pushed without fault, so that they are ks
abbrev Pushed : List ℕ → Kinds → List ℕ → Type 0
Pushed gives s ks = (rest : List ℕ) × (s ≡ good rest) × (ks ≡ onto gives rest)

pushed-good : (k : ℕ) (s : Kinds) (ks : List ℕ) → pushed k s ≡ good ks → Pushed (k ∷ []) s ks
unfolding pushed onto
pushed-good k (good xs) ks e = (xs, refl, go (ltb (length xs) max_operands) e)
  where
    go : (b : Bool) → cond b (good (k ∷ xs)) (bad 8) ≡ good ks → ks ≡ k ∷ xs
    go true e = cc
    go false e = cc
pushed-good k (bad f) ks e = ([], cc, cc)

pushed_all-good : (gives : List ℕ) (s : Kinds) (ks : List ℕ) → pushed_all gives s ≡ good ks → Pushed gives s ks
unfolding pushed_all onto
pushed_all-good [] s ks e = (ks, e, refl)
pushed_all-good (k ∷ gives) s ks e =
    let a = pushed_all-good gives (pushed k s) ks e in
    let b = pushed-good k s a.0 a.1 in
    (b.0, b.1, a.2 ∙ ap (onto gives) b.2)

-- an effect without fault: its local is fit, what it takes was there, and what it pushes is there
applied-good : (e : Effect) (s : Kinds) (ks : List ℕ) → applied e s ≡ good ks → (rest : List ℕ) × (e.fit ≡ true) × (s ≡ good (onto e.takes rest)) × (ks ≡ onto e.gives rest)
unfolding applied failed
applied-good e s ks q = go e.fit refl q
  where
    unfit : (s : Kinds) → failed 7 s ≡ good ks → ⊥
    unfit (good xs) q = bad-good q
    unfit (bad f) q = bad-good q

    go : (b : Bool) → e.fit ≡ b → cond b (pushed_all e.gives (taken_all e.takes s)) (failed 7 s) ≡ good ks → (rest : List ℕ) × (e.fit ≡ true) × (s ≡ good (onto e.takes rest)) × (ks ≡ onto e.gives rest)
    go true f q = let a = pushed_all-good e.gives (taken_all e.takes s) ks q in (a.0, f, taken_all-good e.takes s a.0 a.1, a.2)
    go false f q = absurd (unfit s q)

-- no kind is left at a block's edge
none_left : (last : Bool) (ks : List ℕ) → (last && not (none ks)) ≡ false → last ≡ true → ks ≡ []
unfolding none
none_left last [] e l = refl
none_left last (k ∷ ks) e l = absurd (true≢false (rw l at e))

-- the kinds after an instruction without fault
unfaulted_good : (s : Kinds) (last other : Bool) → Sound s → fault_after s last other ≡ 0 → (ks : List ℕ) × (s ≡ good ks) × (length ks ≤ max_operands) × (last ≡ true → ks ≡ []) × (other ≡ false)
unfolding fault_after
unfaulted_good (good ks) last other h e = let a = unfaulted (last && not (none ks)) 8 _ e in (ks, refl, h, none_left last ks a.0, (unfaulted other 9 0 a.1).0)
unfaulted_good (bad f) last other h e = absurd (h e)

-- one of two tests that do not both fail
either : (x a y b : ℕ) → (not (eqb x a) && not (eqb y b)) ≡ false → (x ≡ a) ⊎ (y ≡ b)
either x a y b e = go (ℕ_discrete x a)
  where
    go : Dec (x ≡ a) → (x ≡ a) ⊎ (y ≡ b)
    go (yes q) = inl q
    go (no q) = inr (eqb-true y b (not-false _ (rw (ne_eqb x a q) at e)))

-- an instruction without fault has its flow
flow-here : (t : List ℕ) (ix : Index) (p : ProcedureEntry) (i : ℕ) → code_fault t ix p i ≡ 0 → Flow t ix p i
unfolding code_fault after kinds_after effect_in foreign
flow-here t ix p i e =
    let row = row_at (code_of t p) i in
    let named = named_type ix row in
    let callee = procedure_in ix row.b in
    let s = kinds_before t ix p i in
    let last = last_of_block (code_of t p) i in
    let a = unfaulted_good (after t ix p i s) last (foreign t p named callee row) (after-sound t ix p i s (before-sound t ix p i)) e in
    let b = applied-good (effect_in t ix p (top_of s) i) s a.0 a.1 in
    let f = (neither (foreign_type row.a named p) _).0 a.4 in
    record {
      top = top_of s;
      rest = b.0;
      told = refl;
      fit = b.1;
      before = b.2;
      few = rw b.3 at a.2;
      next = λ l. next-within t ix p i l ∙ a.1 ∙ ap good b.3;
      edge = λ l. sym b.3 ∙ a.3 l;
      own_type = λ lo hi. eqb-true _ _ (not-false _ (rw (le-leb op_borrow_fld row.a lo, le-leb row.a op_exists hi) at f).0);
      may_call = λ c. either _ _ _ _ (rw (eq-eqb row.a op_call c) at f).1;
    }

-- no instruction of an accepted table is faulty
pub code_fine : (t : List ℕ) (ix : Index) (n : ℕ) → operands_with ix t ≡ Accepted n → (q : ℕ) → q < ix.procedures → q < length ix.procedure_entries → (i : ℕ) → i < row_count (code_of t (procedure_in ix q)) → code_fault t ix (procedure_in ix q) i ≡ 0
unfolding operands_with
code_fine t ix n e = pass_fine (λ (q : ℕ). code_fault t ix) ix t n e

-- at every instruction of an accepted table what is taken is there, and what is pushed is there for the next
pub operands-flow : (t : List ℕ) (ix : Index) (n : ℕ) → operands_with ix t ≡ Accepted n → (q : ℕ) → q < ix.procedures → q < length ix.procedure_entries → (i : ℕ) → i < row_count (code_of t (procedure_in ix q)) → Flow t ix (procedure_in ix q) i
operands-flow t ix n e q h k i l = flow-here t ix (procedure_in ix q) i (code_fine t ix n e q h k i l)

-- no operand is present at a jump target
pub target-empty : (t : List ℕ) (ix : Index) (p : ProcedureEntry) (j : ℕ) → j < row_count (code_of t p) → is_target (code_of t p) j ≡ true → kinds_before t ix p j ≡ good []
unfolding kinds_before last_of_block
target-empty t ix p zero h e = refl
target-empty t ix p (suc j) h e = rw (add-one, e, or-true)
