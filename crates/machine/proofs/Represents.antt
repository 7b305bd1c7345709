-- What the machine's state stands for in the rules.
use Prim.Native.Nat.{ℕ, suc}
use mathlib.Core.Path.{◌≡◌}
use mathlib.Core.Bool.{Bool}
use mathlib.Core.List.{List, [], ◌∷◌}
use mathlib.Core.Option.{Option, none, some}
use lib.ListN.{length, get_elem? as nth}
use Rattle.semantics.proofs.Typing.{◌⊑◌}
use Rattle.semantics.specs.Machine.{to_local, to_field, to_record, Value, num, obj, refer, Cell, here, Entry, entry, Frame, frame, state, Outcome, next, finished, stopped, stuck, live_count}
use Rattle.state.specs.declared.Reference.TheVariants.{Local, Field, Record as Whole}
use Rattle.state.specs.declared.Operand.{Operand}
use Rattle.state.specs.declared.Operand.TheVariants.{Empty, Number, Record, Refer}
use Rattle.machine.specs.code.Machine.{MFrame, mframe, MRoom, mroom, MEntry, mentry, mstate, MOutcome, mnext, mfinished, mstopped}

-- R has the room of each record ever made, D the depth of each frame ever made: a reference tells where to look, and that never changes. It does not tell
-- whether it is read-only: it shows either
pub data Shows (R D : List ℕ) : Operand → Option Value → Type 0 where
  empty : Shows R D Empty none
  number : {n : ℕ} → Shows R D (Number n) (some (num n))
  whole : {s r y : ℕ} → nth R s ≡ some r → Shows R D (Record s r y) (some (obj s y))
  to_aLocal : {w : Bool} {f d l k : ℕ} → nth D f ≡ some d → Shows R D (Refer (Local f d l k)) (some (refer w (to_local f l k)))
  to_aField : {w : Bool} {s r y j : ℕ} → nth R s ≡ some r → Shows R D (Refer (Field s r y j)) (some (refer w (to_field s y j)))
  to_aRecord : {w : Bool} {s r y : ℕ} → nth R s ≡ some r → Shows R D (Refer (Whole s r y)) (some (refer w (to_record s y)))

-- operands or fields, and locals, one by one
pub data ShowsAll (R D : List ℕ) : List Operand → List Value → Type 0 where
  no_more : ShowsAll R D [] []
  and : {x : Operand} {v : Value} {xs : List Operand} {vs : List Value} → Shows R D x (some v) → ShowsAll R D xs vs → ShowsAll R D (x ∷ xs) (v ∷ vs)

pub data ShowsLocals (R D : List ℕ) : List Operand → List (Option Value) → Type 0 where
  no_local : ShowsLocals R D [] []
  and_local : {x : Operand} {o : Option Value} {xs : List Operand} {os : List (Option Value)} → Shows R D x o → ShowsLocals R D xs os → ShowsLocals R D (x ∷ xs) (o ∷ os)

-- frames, each at its depth
pub data ShowsFrames (R D : List ℕ) : List MFrame → List Frame → Type 0 where
  no_frame : ShowsFrames R D [] []
  and_frame : {id p i : ℕ} {ops ls : List Operand} {vs : List Value} {os : List (Option Value)} {ms : List MFrame} {fs : List Frame}
      → nth D id ≡ some (length ms) → ShowsAll R D ops vs → ShowsLocals R D ls os → ShowsFrames R D ms fs → ShowsFrames R D (mframe id p i ops ls ∷ ms) (frame id p i vs os ∷ fs)

pub data ShowsStore (R : List ℕ) : List MEntry → List Entry → Type 0 where
  no-entry : ShowsStore R [] []
  and_entry : {y a s r : ℕ} {ms : List MEntry} {es : List Entry} → nth R s ≡ some r → ShowsStore R ms es → ShowsStore R (mentry y a s r ∷ ms) (entry y a s ∷ es)

-- how many rooms are in use
abbrev pub used_count : List (Option MRoom) → ℕ
used_count [] = 0
used_count (none ∷ rooms) = used_count rooms
used_count (some m ∷ rooms) = suc (used_count rooms)

-- the rooms hold the records that live, each in its own
pub record ShowsRooms (R D : List ℕ) (rooms : List (Option MRoom)) (rs : List Cell) : Type 0 where
  pub size : length rooms ≡ 128
  pub known : length R ≡ length rs
  pub count : used_count rooms ≡ live_count rs
  pub live : (id y : ℕ) (vs : List Value) → nth rs id ≡ some (here y vs) → (r : ℕ) × (xs : List Operand) × (nth R id ≡ some r) × (nth rooms r ≡ some (some (mroom id y xs))) × ShowsAll R D xs vs
  pub used : (r s y : ℕ) (xs : List Operand) → nth rooms r ≡ some (some (mroom s y xs)) → (vs : List Value) × (nth rs s ≡ some (here y vs)) × (nth R s ≡ some r)

-- the whole state
pub record Represents (R D : List ℕ) (f : MFrame) (ms : List MFrame) (rooms : List (Option MRoom)) (recs : ℕ) (es : List MEntry) (n : ℕ) (fs : List Frame) (rs : List Cell) (st : List Entry) (m : ℕ) : Type 0 where
  pub frames : ShowsFrames R D (f ∷ ms) fs
  pub rooms_show : ShowsRooms R D rooms rs
  pub records : recs ≡ length rs
  pub store : ShowsStore R es st
  pub deep : length D ≡ n
  pub counted : n ≡ m

-- what lies between calls
pub record BaseShown (R D : List ℕ) (rooms : List (Option MRoom)) (recs : ℕ) (es : List MEntry) (n : ℕ) (rs : List Cell) (st : List Entry) (m : ℕ) : Type 0 where
  pub rooms_show : ShowsRooms R D rooms rs
  pub records : recs ≡ length rs
  pub store : ShowsStore R es st
  pub deep : length D ≡ n
  pub counted : n ≡ m

-- outcomes, where R and D may have grown: whatever the machine does where the rules are stuck, which never comes
pub data SameOutcome (R D : List ℕ) : MOutcome → Outcome → Type 0 where
  goes_on : {f : MFrame} {ms : List MFrame} {rooms : List (Option MRoom)} {recs : ℕ} {es : List MEntry} {n : ℕ} {fs : List Frame} {rs : List Cell} {st : List Entry} {m : ℕ}
      → (R' D' : List ℕ) → ◌⊑◌ R R' → ◌⊑◌ D D' → Represents R' D' f ms rooms recs es n fs rs st m → SameOutcome R D (mnext (mstate f ms rooms recs es n)) (next (state fs rs st m))
  ends : {xs : List Operand} {f : MFrame} {ms : List MFrame} {rooms : List (Option MRoom)} {recs : ℕ} {es : List MEntry} {n : ℕ} {vs : List Value} {fs : List Frame} {rs : List Cell} {st : List Entry} {m : ℕ}
      → ShowsAll R D xs vs → BaseShown R D rooms recs es n rs st m → SameOutcome R D (mfinished xs (mstate f ms rooms recs es n)) (finished vs (state fs rs st m))
  stops : {k : ℕ} → SameOutcome R D (mstopped k) (stopped k)
  never : {o : MOutcome} → SameOutcome R D o stuck
