-- A running frame whose instruction has taken its operands, and how it goes on.
use Prim.Native.Nat.{ℕ, suc, ◌+◌, ◌<◌, ◌≤◌}
use mathlib.Core.Path.{◌≡◌, refl}
use mathlib.Core.List.{List, [], ◌∷◌, map}
use mathlib.Core.Bool.{Bool}
use mathlib.Core.Option.{Option, some}
use native.Mathlib.Omega.{arith}
use lib.ListN.{length, drop, get_elem? as nth}
use Rattle.table.specs.Format.{op_write_ref, max_results}
use Rattle.table.specs.Index.{index_of}
use Rattle.declarations.specs.Program.{procedure_in, code_of, instruction_in}
use Rattle.reach.specs.Reach.{Mem}
use Rattle.operands.specs.Flow.{onto, effect_in}
use Rattle.flow.specs.Steps.{nexts}
use Rattle.flow.specs.Walks.{Slot, pushes, locals_after, marks_after, goes_on, pushed_on as marks_on}
use Rattle.leaks.specs.Leaks.{guarded_marks}
use Rattle.acceptance.specs.Checked.{step_in, WalkOf}
use Rattle.acceptance.proofs.Regular.{step-takes}
use Rattle.acceptance.specs.Judged.{local_kinds, Instruction, Judged}
use Rattle.semantics.specs.Machine.{to_local, to_field, to_record, Value, num, obj, refer, Cell, Entry, Frame, frame, state, Outcome, next, finished, stopped, stuck, target}
use Rattle.semantics.specs.Step.{pushed_on}
use Rattle.semantics.specs.Ownership.{in_values, in_locals, in_frames, in_records, in_store, lives_at}
use Rattle.semantics.proofs.Indexed.{module_in, declarer_in}
use Rattle.semantics.specs.Claim.{All, Owned, IsNumber}
use Rattle.semantics.proofs.Changes.{Change, same}
use Rattle.semantics.proofs.Typing.{Fit, Has, hnil, hcons, has_push, has_more, slots_more, ◌⊑◌, MayGo, Slots, CellOk, EntryOk}
use Rattle.semantics.proofs.Frames.{FrameOk, Suspended, Stack, runs, type_of, Inv}

-- what lies between calls
pub record Rest (t : List ℕ) (h : List Cell) (st : List Entry) : Type 0 where
  pub T : List ℕ
  pub types : map type_of h ≡ T
  pub records : All (CellOk t (index_of t) T) h
  pub store : All (EntryOk T) st
  pub owned : Owned [] h st

-- an outcome that keeps what holds, and does to records and store what C says
abbrev pub OutcomeOk : List ℕ → (List Cell → List Entry → Type 0) → Outcome → Type 0
OutcomeOk t C (next (state fs h st n)) = Inv t (index_of t) fs h st n × C h st
OutcomeOk t C (finished vs (state fs h st n)) = Rest t h st × C h st × All IsNumber vs × (length vs ≤ max_results)
OutcomeOk t C (stopped k) = Unit {0}
OutcomeOk t C stuck = ⊥

-- Frame id of procedure p is at instruction i, which took the values vs from its operands ops and left `under`
pub record Running (t : List ℕ) (T W : List ℕ) (id p i : ℕ) (ops vs under : List Value) (ls : List (Option Value)) (fs : List Frame) (h : List Cell) (st : List Entry) (n : ℕ) : Type 0 where
  pub judged : Judged t (index_of t)
  pub instr : Instruction t (index_of t) p i
  pub named : nth W id ≡ some p
  pub there : p < (index_of t).procedures
  pub L : List Slot
  pub O : List Bool
  pub len : ℕ
  pub slots : Slots t (index_of t) T W (module_in (index_of t) p) ls (local_kinds t (procedure_in (index_of t) p)) L
  pub walk : WalkOf t p len i L O
  pub suspended : Suspended t (index_of t) T W p fs
  pub types : map type_of h ≡ T
  pub serial : length W ≡ n
  pub records : All (CellOk t (index_of t) T) h
  pub store : All (EntryOk T) st
  pub stack : Stack t (index_of t) T W (frame id p i ops ls ∷ fs)
  pub bs : List Bool
  pub shape : ops ≡ pushed_on vs under
  pub has : Has t (index_of t) T W (module_in (index_of t) p) vs (effect_in t (index_of t) (procedure_in (index_of t) p) instr.flow.top i).takes bs
  pub left : Has t (index_of t) T W (module_in (index_of t) p) under instr.flow.rest (drop (length (effect_in t (index_of t) (procedure_in (index_of t) p) instr.flow.top i).takes) O)
  pub marks : O ≡ marks_on bs (drop (length (effect_in t (index_of t) (procedure_in (index_of t) p) instr.flow.top i).takes) O)
  pub out : (m : ℕ) (cs : List Bool) → length cs ≡ length (effect_in t (index_of t) (procedure_in (index_of t) p) instr.flow.top i).takes
      → MayGo (module_in (index_of t) p) m (effect_in t (index_of t) (procedure_in (index_of t) p) instr.flow.top i).takes O cs → Has t (index_of t) T W m vs (effect_in t (index_of t) (procedure_in (index_of t) p) instr.flow.top i).takes cs
  pub owned : (r : ℕ) → in_values r vs + in_values r under + in_locals r ls + in_frames r fs + in_records r h + in_store r st ≡ lives_at h r

-- what one or two operands taken are
module _ {t : List ℕ} {T W : List ℕ} {m : ℕ} where
  pub none-taken : {vs : List Value} {bs : List Bool} → Has t (index_of t) T W m vs [] bs → vs ≡ []
  none-taken hnil = refl

  pub one-taken : {vs : List Value} {k : ℕ} {bs : List Bool} → Has t (index_of t) T W m vs (k ∷ []) bs → (v : Value) × (b : Bool) × (vs ≡ v ∷ []) × (bs ≡ b ∷ []) × Fit t (index_of t) T W m v k b
  one-taken (hcons {v} {b} f hnil) = (v, b, refl, refl, f)

  pub two-taken : {vs : List Value} {k l : ℕ} {bs : List Bool} → Has t (index_of t) T W m vs (k ∷ l ∷ []) bs → (v w : Value) × (b c : Bool) × (vs ≡ v ∷ w ∷ []) × Fit t (index_of t) T W m v k b × Fit t (index_of t) T W m w l c
  two-taken (hcons {v} {b} f (hcons {v = w} {b = c} g hnil)) = (v, w, b, c, refl, f, g)

  -- nothing, or one value that fits at any place, pushed
  pub push-none : (bs : List Bool) → length bs ≡ 0 → Has t (index_of t) T W m [] [] bs
  push-none [] e = hnil
  push-none (b ∷ bs) e = absurd (omega arith)

  pub push-one : {v : Value} {k : ℕ} (bs : List Bool) → length bs ≡ 1 → ((b : Bool) → Fit t (index_of t) T W m v k b) → Has t (index_of t) T W m (v ∷ []) (k ∷ []) bs
  push-one [] e f = absurd (omega arith)
  push-one (b ∷ []) e f = hcons (f b) hnil
  push-one (b ∷ c ∷ bs) e f = absurd (omega arith)

-- where a reference leads does not depend on the operands, nor on where the frame stands
pub target-same : (id p i i' : ℕ) (ops ops' : List Value) (ls : List (Option Value)) (fs : List Frame) (h : List Cell) (v : Value)
    → target (frame id p i ops ls ∷ fs) h v ≡ target (frame id p i' ops' ls ∷ fs) h v
target-same id p i i' ops ops' ls fs h (num x) = refl
target-same id p i i' ops ops' ls fs h (obj a y) = refl
target-same id p i i' ops ops' ls fs h (refer w (to_local f l k)) = refl
target-same id p i i' ops ops' ls fs h (refer w (to_field a y j)) = refl
target-same id p i i' ops ops' ls fs h (refer w (to_record a y)) = refl

module _ {t : List ℕ} {T W : List ℕ} {id p i : ℕ} {ops vs under : List Value} {ls : List (Option Value)} {fs : List Frame} {h : List Cell} {st : List Entry} {n : ℕ}
    (R : Running t T W id p i ops vs under ls fs h st n) where
  -- what is pushed, and what a walk makes of locals and marks
  abbrev pub given : List ℕ
  given = (effect_in t (index_of t) (procedure_in (index_of t) p) R.instr.flow.top i).gives

  abbrev pub pushed_marks : List Bool
  pushed_marks = pushes (step_in t p i) R.L R.O

  abbrev pub locals_then : List Slot
  locals_then = locals_after (step_in t p i) R.L R.O

  -- what the step did to records and store
  abbrev pub Did : List Cell → List Entry → Type 0
  Did = Change (declarer_in (index_of t)) (module_in (index_of t) p) (instruction_in t (index_of t) p i).a (instruction_in t (index_of t) p i).b ops h st

  -- the frame goes on at instruction j with the values ws pushed, where there may be more records and frames
  module _ {U X : List ℕ} (more : ◌⊑◌ T U) (later : ◌⊑◌ W X) where
    pub stands : (j : ℕ) → Mem j (nexts (code_of t (procedure_in (index_of t) p)) i) → {ws : List Value} {ls' : List (Option Value)} → Has t (index_of t) U X (module_in (index_of t) p) ws given pushed_marks
        → Slots t (index_of t) U X (module_in (index_of t) p) ls' (local_kinds t (procedure_in (index_of t) p)) locals_then → FrameOk t (index_of t) U X j [] [] id p (pushed_on ws under) ls'
    unfolding onto marks_on marks_after
    stands j m a s = record {
      named = later _ _ R.named;
      there = R.there;
      inside = R.instr.inside j m;
      rest = onto given R.instr.flow.rest;
      O = marks_on pushed_marks (drop (step_in t p i).takes R.O);
      L = locals_then;
      len = suc R.len;
      kinds = R.instr.follow j m;
      has = has_push a (has_more more later (rw (← (step-takes t (index_of t) (guarded_marks t) (procedure_in (index_of t) p) R.instr.flow.top i)) at R.left));
      slots = s;
      walk = goes_on R.walk m;
    }

    -- at a Call it waits for the results, before the next instruction
    pub waits : Mem (i + 1) (nexts (code_of t (procedure_in (index_of t) p)) i)
        → Slots t (index_of t) T W (module_in (index_of t) p) ls (local_kinds t (procedure_in (index_of t) p)) locals_then → FrameOk t (index_of t) U X (i + 1) given pushed_marks id p under ls
    unfolding marks_after
    waits m s = record {
      named = later _ _ R.named;
      there = R.there;
      inside = R.instr.inside (i + 1) m;
      rest = R.instr.flow.rest;
      O = drop (step_in t p i).takes R.O;
      L = locals_then;
      len = suc R.len;
      kinds = R.instr.follow (i + 1) m;
      has = has_more more later (rw (← (step-takes t (index_of t) (guarded_marks t) (procedure_in (index_of t) p) R.instr.flow.top i)) at R.left);
      slots = slots_more more later s;
      walk = goes_on R.walk m;
    }

  pub goes_on_lem : (j : ℕ) → Mem j (nexts (code_of t (procedure_in (index_of t) p)) i) → {ws : List Value} {ls' : List (Option Value)} → Has t (index_of t) T W (module_in (index_of t) p) ws given pushed_marks
      → Slots t (index_of t) T W (module_in (index_of t) p) ls' (local_kinds t (procedure_in (index_of t) p)) locals_then → FrameOk t (index_of t) T W j [] [] id p (pushed_on ws under) ls'
  goes_on_lem j m a s = stands (λ i y e. e) (λ i y e. e) j m a s

  -- with other records and another store
  pub then : (j : ℕ) → Mem j (nexts (code_of t (procedure_in (index_of t) p)) i) → {ws : List Value} {ls' : List (Option Value)} {st' : List Entry} → Has t (index_of t) T W (module_in (index_of t) p) ws given pushed_marks
      → Slots t (index_of t) T W (module_in (index_of t) p) ls' (local_kinds t (procedure_in (index_of t) p)) locals_then → All (EntryOk T) st' → Owned (frame id p j (pushed_on ws under) ls' ∷ fs) h st'
      → Inv t (index_of t) (frame id p j (pushed_on ws under) ls' ∷ fs) h st' n
  then j m a s e o = record { T = T; W = W; types = R.types; serial = R.serial; frames = runs (goes_on_lem j m a s) R.suspended; records = R.records; store = e; owned = o }

  -- records and store as they were
  pub keeps : ((instruction_in t (index_of t) p i).a ≡ op_write_ref → ⊥) → (j : ℕ) → Mem j (nexts (code_of t (procedure_in (index_of t) p)) i) → {ws : List Value} {ls' : List (Option Value)} → Has t (index_of t) T W (module_in (index_of t) p) ws given pushed_marks
      → Slots t (index_of t) T W (module_in (index_of t) p) ls' (local_kinds t (procedure_in (index_of t) p)) locals_then → Owned (frame id p j (pushed_on ws under) ls' ∷ fs) h st
      → OutcomeOk t Did (next (state (frame id p j (pushed_on ws under) ls' ∷ fs) h st n))
  keeps c j m a s o = (then j m a s R.store o, same (λ q a y j x under r. c q) refl refl)
