-- Frames, records and the store of a state on the way.
use Prim.Native.Nat.{ℕ, zero, suc, ◌+◌, ◌<◌, ◌≤◌}
use mathlib.Core.Path.{◌≡◌, refl, ap, sym, ◌∙◌}
use mathlib.Core.List.{List, [], ◌∷◌, ◌++◌, map}
use mathlib.Core.Bool.{Bool, true, false, cond, ◌&&◌, true≢false}
use mathlib.Core.Option.{Option, none, some}
use mathlib.Core.Logic.{◌⊎◌, inl, inr, ⊎_elim}
use native.Mathlib.Omega.{arith}
use lib.ListN.{length, set, get_elem? as nth}
use lib.Dec.{eqb}
use borrow.Author.Tests.{eqb-true}
use Rattle.laws.specs.Lists.{tabulate}
use Rattle.table.specs.declared.index.Index.{Index}
use Rattle.table.specs.Format.{op_call, max_results}
use Rattle.table.specs.Rows.{row_count}
use Rattle.declarations.specs.Program.{number, record_of, number_ref, record_ref, reference_to, is_reference, procedure_in, type_in, field_kinds, result_kinds, code_of, instruction_in}
use Rattle.effects.specs.Kinds.{good}
use Rattle.operands.specs.Operands.{kinds_before}
use Rattle.operands.specs.Flow.{onto}
use Rattle.flow.specs.Walks.{Slot, pushed_on as marks_on}
use Rattle.helpers.specs.Marks.{result_of}
use Rattle.helpers.specs.Tables.{marks_in}
use Rattle.acceptance.specs.Checked.{WalkOf}
use Rattle.acceptance.specs.Judged.{local_kinds}
use Rattle.semantics.specs.Machine.{to_local, to_field, to_record, Value, num, obj, refer, as_kind, writable, Cell, gone, here, Entry, entry, Frame, frame, content, local_of, put_local, find_key, drop_key, a_record, stale, in_cell, in_local, target}
use Rattle.semantics.specs.Calls.{all_numbers}
use Rattle.semantics.specs.Ownership.{in_frames}
use Rattle.semantics.proofs.Indexed.{module_in}
use Rattle.semantics.specs.Claim.{All, none_left, also, Owned}
use Rattle.semantics.proofs.Changes.{clash}
use Rattle.semantics.proofs.Sorts.{record_plain, number-writable, record_writable, to_writable, as-reference, as_large, as_same}
use Rattle.semantics.proofs.Typing.{Word, Fit, fnum, fobj, floc, ffld, frec, Has, Slots, Fields, dnil, dnum, dobj, CellOk, EntryOk, ◌⊑◌, has_more, slots_more}
use Rattle.semantics.proofs.Places.{as_number, as-record, slot_read, slot_write, held_write}

-- A frame that goes on at instruction `to` when values of the kinds `gap`, with the marks G, have been pushed: the kinds of its operands are those that the judge found
-- there, its locals have their kinds, and some walk arrives there with exactly its full and empty locals and its marks.
pub record FrameOk (t : List ℕ) (ix : Index) (T W : List ℕ) (to : ℕ) (gap : List ℕ) (G : List Bool) (id p : ℕ) (ops : List Value) (ls : List (Option Value)) : Type 0 where
  pub named : nth W id ≡ some p
  pub there : p < ix.procedures
  pub inside : to < row_count (code_of t (procedure_in ix p))
  pub rest : List ℕ
  pub O : List Bool
  pub L : List Slot
  pub len : ℕ
  pub kinds : kinds_before t ix (procedure_in ix p) to ≡ good (onto gap rest)
  pub has : Has t ix T W (module_in ix p) ops rest O
  pub slots : Slots t ix T W (module_in ix p) ls (local_kinds t (procedure_in ix p)) L
  pub walk : WalkOf t p len to L (marks_on G O)

-- the marks of the results of procedure q
abbrev pub result_marks : List ℕ → Index → ℕ → List Bool
result_marks t ix q = tabulate (result_of (marks_in t) q) (length (result_kinds t (procedure_in ix q)))

-- the frames under one of procedure q: each stands at the Call of the one above
pub data Suspended (t : List ℕ) (ix : Index) (T W : List ℕ) : ℕ → List Frame → Type 0 where
  bottom : {q : ℕ} → all_numbers (result_kinds t (procedure_in ix q)) ≡ true → length (result_kinds t (procedure_in ix q)) ≤ max_results → Suspended t ix T W q []
  over : {q id p i : ℕ} {ops : List Value} {ls : List (Option Value)} {fs : List Frame} → (instruction_in t ix p i).a ≡ op_call → (instruction_in t ix p i).b ≡ q
      → FrameOk t ix T W (i + 1) (result_kinds t (procedure_in ix q)) (result_marks t ix q) id p ops ls → Suspended t ix T W p fs → Suspended t ix T W q (frame id p i ops ls ∷ fs)

pub data Stack (t : List ℕ) (ix : Index) (T W : List ℕ) : List Frame → Type 0 where
  runs : {id p i : ℕ} {ops : List Value} {ls : List (Option Value)} {fs : List Frame} → FrameOk t ix T W i [] [] id p ops ls → Suspended t ix T W p fs → Stack t ix T W (frame id p i ops ls ∷ fs)

abbrev pub type_of : Cell → ℕ
type_of (gone y) = y
type_of (here y vs) = y

-- what holds of every state on the way
pub record Inv (t : List ℕ) (ix : Index) (fs : List Frame) (h : List Cell) (st : List Entry) (n : ℕ) : Type 0 where
  pub T : List ℕ
  pub W : List ℕ
  pub types : map type_of h ≡ T
  pub serial : length W ≡ n
  pub frames : Stack t ix T W fs
  pub records : All (CellOk t ix T) h
  pub store : All (EntryOk T) st
  pub owned : Owned fs h st

-- what a reference to local l of a frame of procedure p finds
pub data Found (t : List ℕ) (ix : Index) (T W : List ℕ) (k : ℕ) : Option Value → Type 0 where
  nothing : Found t ix T W k none
  holds : {v : Value} {m : ℕ} {b : Bool} → Fit t ix T W m v k b → Found t ix T W k (some v)

module _ {t : List ℕ} {ix : Index} {T W : List ℕ} where
  found : {m : ℕ} {ls : List (Option Value)} {ks : List ℕ} {L : List Slot} (l k : ℕ) → nth ks l ≡ some k → Slots t ix T W m ls ks L → (o : Option Value) → content (nth ls l) ≡ o → Found t ix T W k o
  found l k d s none e = nothing
  found l k d s (some v) e = holds (slot_read s l k v d e).1

  find-go : {m : ℕ} {ls : List (Option Value)} {L : List Slot} (b : Bool) (id f p p' l k : ℕ) (o : Option Value) → eqb id f ≡ b → nth W id ≡ some p → nth W f ≡ some p'
      → nth (local_kinds t (procedure_in ix p')) l ≡ some k → Slots t ix T W m ls (local_kinds t (procedure_in ix p)) L → Found t ix T W k o → Found t ix T W k (cond b (content (nth ls l)) o)
  find-go {ls} true id f p p' l k o e a c d s u = let z : id ≡ f = eqb-true id f e in let y : p ≡ p' = cc in found l k d (rw y at s) (content (nth ls l)) refl
  find-go false id f p p' l k o e a c d s u = u

  module _ {U X : List ℕ} (g : ◌⊑◌ T U) (w : ◌⊑◌ W X) where
    pub frame_more : {to : ℕ} {gap : List ℕ} {G : List Bool} {id p : ℕ} {ops : List Value} {ls : List (Option Value)} → FrameOk t ix T W to gap G id p ops ls → FrameOk t ix U X to gap G id p ops ls
    frame_more f = record {
      named = w _ _ f.named;
      there = f.there;
      inside = f.inside;
      rest = f.rest;
      O = f.O;
      L = f.L;
      len = f.len;
      kinds = f.kinds;
      has = has_more g w f.has;
      slots = slots_more g w f.slots;
      walk = f.walk;
    }

    pub suspended_more : {q : ℕ} {fs : List Frame} → Suspended t ix T W q fs → Suspended t ix U X q fs
    suspended_more (bottom z x) = bottom z x
    suspended_more (over e d f s) = over e d (frame_more f) (suspended_more s)

  pub find_suspended : {q : ℕ} {fs : List Frame} → Suspended t ix T W q fs → (f p l k : ℕ) → nth W f ≡ some p → nth (local_kinds t (procedure_in ix p)) l ≡ some k → Found t ix T W k (local_of fs f l)
  find_suspended (bottom z x) f p l k c d = nothing
  find_suspended (over {id} {p = p'} e h x s) f p l k c d = find-go (eqb id f) id f p' p l k _ refl x.named c d x.slots (find_suspended s f p l k c d)

  pub find : {fs : List Frame} → Stack t ix T W fs → (f p l k : ℕ) → nth W f ≡ some p → nth (local_kinds t (procedure_in ix p)) l ≡ some k → Found t ix T W k (local_of fs f l)
  find (runs {id} {p = p'} x s) f p l k c d = find-go (eqb id f) id f p' p l k _ refl x.named c d x.slots (find_suspended s f p l k c d)

  -- a number written to a local that holds one
  write_frame : {to : ℕ} {gap : List ℕ} {G : List Bool} {id p : ℕ} {ops : List Value} {ls : List (Option Value)} → FrameOk t ix T W to gap G id p ops ls → (l x n : ℕ) → content (nth ls l) ≡ some (num x) → Word n
      → FrameOk t ix T W to gap G id p ops (set ls l (some (num n)))
  write_frame f l x n e u = record {
    named = f.named;
    there = f.there;
    inside = f.inside;
    rest = f.rest;
    O = f.O;
    L = f.L;
    len = f.len;
    kinds = f.kinds;
    has = f.has;
    slots = slot_write f.slots l x n e u;
    walk = f.walk;
  }

  write_suspended_go : {q id p : ℕ} (i : ℕ) {ops : List Value} {ls : List (Option Value)} {fs : List Frame} (b : Bool) (f l x n : ℕ) → (instruction_in t ix p i).a ≡ op_call → (instruction_in t ix p i).b ≡ q
      → FrameOk t ix T W (i + 1) (result_kinds t (procedure_in ix q)) (result_marks t ix q) id p ops ls → Suspended t ix T W p fs
      → cond b (content (nth ls l)) (local_of fs f l) ≡ some (num x) → Word n → (local_of fs f l ≡ some (num x) → Suspended t ix T W p (put_local fs f l (num n)))
      → Suspended t ix T W q (cond b (frame id p i ops (set ls l (some (num n))) ∷ fs) (frame id p i ops ls ∷ put_local fs f l (num n)))
  write_suspended_go i true f l x n c d k s e u ih = over c d (write_frame k l x n e u) s
  write_suspended_go i false f l x n c d k s e u ih = over c d k (ih e)

  write_suspended : {q : ℕ} {fs : List Frame} → Suspended t ix T W q fs → (f l x n : ℕ) → local_of fs f l ≡ some (num x) → Word n → Suspended t ix T W q (put_local fs f l (num n))
  write_suspended (bottom z few) f l x n e u = bottom z few
  write_suspended (over {id} {i} c d k s) f l x n e u = write_suspended_go i (eqb id f) f l x n c d k s e u (λ q. write_suspended s f l x n q u)

  write_go : {id p i : ℕ} {ops : List Value} {ls : List (Option Value)} {fs : List Frame} (b : Bool) (f l x n : ℕ) → FrameOk t ix T W i [] [] id p ops ls → Suspended t ix T W p fs
      → cond b (content (nth ls l)) (local_of fs f l) ≡ some (num x) → Word n
      → Stack t ix T W (cond b (frame id p i ops (set ls l (some (num n))) ∷ fs) (frame id p i ops ls ∷ put_local fs f l (num n)))
  write_go true f l x n k s e u = runs (write_frame k l x n e u) s
  write_go false f l x n k s e u = runs k (write_suspended s f l x n e u)

  pub write : {fs : List Frame} → Stack t ix T W fs → (f l x n : ℕ) → local_of fs f l ≡ some (num x) → Word n → Stack t ix T W (put_local fs f l (num n))
  write (runs {id} k s) f l x n e u = write_go (eqb id f) f l x n k s e u

held_local_go : (r id p i : ℕ) (ops : List Value) (ls : List (Option Value)) (fs : List Frame) (b : Bool) (f l x n : ℕ) → cond b (content (nth ls l)) (local_of fs f l) ≡ some (num x)
    → (local_of fs f l ≡ some (num x) → in_frames r (put_local fs f l (num n)) ≡ in_frames r fs)
    → in_frames r (cond b (frame id p i ops (set ls l (some (num n))) ∷ fs) (frame id p i ops ls ∷ put_local fs f l (num n))) ≡ in_frames r (frame id p i ops ls ∷ fs)
held_local_go r id p i ops ls fs true f l x n e ih = rw (held_write r ls l x n e)
held_local_go r id p i ops ls fs false f l x n e ih = rw (ih e)

-- it holds no other record then
pub held-local : (r : ℕ) (fs : List Frame) (f l x n : ℕ) → local_of fs f l ≡ some (num x) → in_frames r (put_local fs f l (num n)) ≡ in_frames r fs
held-local r [] f l x n e = refl
held-local r (frame id p i ops ls ∷ fs) f l x n e = held_local_go r id p i ops ls fs (eqb id f) f l x n e (held-local r fs f l x n)

-- a record that was ever made lives or is gone
pub cell_at : (t : List ℕ) (ix : Index) (T : List ℕ) (h : List Cell) (id y : ℕ) → nth (map type_of h) id ≡ some y → All (CellOk t ix T) h
    → (nth h id ≡ some (gone y)) ⊎ ((vs : List Value) × (nth h id ≡ some (here y vs)) × (y < ix.types) × Fields T vs (field_kinds t (type_in ix y)))
cell_at t ix T [] id y e a = absurd (clash (cc))
cell_at t ix T (gone u ∷ h) zero y e a = let z : u ≡ y = cc in inl (rw z refl)
cell_at t ix T (here u vs ∷ h) zero y e (also k a) = let z : u ≡ y = cc in inr (vs, rw z refl, rw z at k.0, rw z at k.1)
cell_at t ix T (c ∷ h) (suc id) y e (also k a) = cell_at t ix T h id y e a

pub all_set : {B : Type 0} {Q : B → Type 0} {l : List B} → All Q l → (i : ℕ) (x : B) → Q x → All Q (set l i x)
all_set none_left i x k = none_left
all_set (also q a) zero x k = also k a
all_set (also q a) (suc i) x k = also q (all_set a i x k)

pub all_snoc : {B : Type 0} {Q : B → Type 0} {l : List B} → All Q l → (x : B) → Q x → All Q (l ++ (x ∷ []))
all_snoc none_left x k = also k none_left
all_snoc (also q a) x k = also q (all_snoc a x k)

pub types-set : (h : List Cell) (i : ℕ) (c x : Cell) → nth h i ≡ some x → type_of x ≡ type_of c → map type_of (set h i c) ≡ map type_of h
types-set [] i c x e d = refl
types-set (y ∷ h) zero c x e d = let z : y ≡ x = cc in rw (z, d)
types-set (y ∷ h) (suc i) c x e d = rw (types-set h i c x e d)

pub types_snoc : (h : List Cell) (c : Cell) → map type_of (h ++ (c ∷ [])) ≡ map type_of h ++ (type_of c ∷ [])
types_snoc [] c = refl
types_snoc (y ∷ h) c = rw (types_snoc h c)

pub types-length : (h : List Cell) → length (map type_of h) ≡ length h
types-length [] = refl
types-length (y ∷ h) = rw (types-length h)

find_key-go : (T : List ℕ) (b c : Bool) (y a y' a' id r : ℕ) (o : Option ℕ) → eqb y' y ≡ b → cond (b && c) (some id) o ≡ some r → nth T id ≡ some y' → (o ≡ some r → nth T r ≡ some y) → nth T r ≡ some y
find_key-go T true true y a y' a' id r o d e k ih = cc (eqb-true y' y d)
find_key-go T true false y a y' a' id r o d e k ih = ih e
find_key-go T false true y a y' a' id r o d e k ih = ih e
find_key-go T false false y a y' a' id r o d e k ih = ih e

-- what is under a key has the key's type
pub find-key : (T : List ℕ) (st : List Entry) → All (EntryOk T) st → (y a r : ℕ) → find_key st y a ≡ some r → nth T r ≡ some y
find-key T [] q y a r e = absurd (clash (cc))
find-key T (entry y' a' id ∷ st) (also k q) y a r e = find_key-go T (eqb y' y) (eqb a' a) y a y' a' id r (find_key st y a) refl e k.0 (find-key T st q y a r)

drop_key-go : (T : List ℕ) (b : Bool) (y a y' a' id : ℕ) (st : List Entry) → EntryOk T (entry y' a' id) → All (EntryOk T) st → All (EntryOk T) (drop_key st y a)
    → All (EntryOk T) (cond b st (entry y' a' id ∷ drop_key st y a))
drop_key-go T true y a y' a' id st k q ih = q
drop_key-go T false y a y' a' id st k q ih = also k ih

pub drop-key : (T : List ℕ) (st : List Entry) → All (EntryOk T) st → (y a : ℕ) → All (EntryOk T) (drop_key st y a)
drop-key T [] q y a = none_left
drop-key T (entry y' a' id ∷ st) (also k q) y a = drop_key-go T (eqb y' y && eqb a' a) y a y' a' id st k q (drop-key T st q y a)

-- fields
pub field-num : {T : List ℕ} {vs : List Value} {ks : List ℕ} → Fields T vs ks → (j : ℕ) → nth ks j ≡ some number → (n : ℕ) × (nth vs j ≡ some (num n)) × Word n
field-num dnil j e = absurd (clash (cc))
field-num (dnum {n} y q f) zero e = (n, refl, y)
field-num (dnum y q f) (suc j) e = field-num f j e
field-num (dobj {y = z} {k} a q f) zero e = let d : k ≡ number = cc in absurd (omega arith)
field-num (dobj a q f) (suc j) e = field-num f j e

pub field_put : {T : List ℕ} {vs : List Value} {ks : List ℕ} → Fields T vs ks → (j x n : ℕ) → nth vs j ≡ some (num x) → Word n → Fields T (set vs j (num n)) ks
field_put dnil j x n e u = dnil
field_put (dnum y q f) zero x n e u = dnum u q f
field_put (dnum y q f) (suc j) x n e u = dnum y q (field_put f j x n e u)
field_put (dobj a q f) zero x n e u = absurd (clash (cc))
field_put (dobj a q f) (suc j) x n e u = dobj a q (field_put f j x n e u)

-- a reference to a number leads to one, or is stale
pub data NumberAt (fs : List Frame) (h : List Cell) (T : List ℕ) (t : List ℕ) (ix : Index) : Value → Type 0 where
  lost : {v : Value} → target fs h v ≡ stale → NumberAt fs h T t ix v
  in_aLocal : {w : Bool} {f l n k : ℕ} → Word n → local_of fs f l ≡ some (num n) → NumberAt fs h T t ix (refer w (to_local f l k))
  in_aField : {w : Bool} {id y j n : ℕ} {vs : List Value} → Word n → nth h id ≡ some (here y vs) → nth vs j ≡ some (num n) → y < ix.types → Fields T vs (field_kinds t (type_in ix y)) → NumberAt fs h T t ix (refer w (to_field id y j))

-- a reference to a record leads to one of its type, or is stale
pub data RecordAt (fs : List Frame) (h : List Cell) (T : List ℕ) (t : List ℕ) (ix : Index) (y : ℕ) : Value → Type 0 where
  lost_record : {v : Value} → target fs h v ≡ stale → RecordAt fs h T t ix y v
  leads : {v : Value} (id : ℕ) (vs : List Value) → target fs h v ≡ a_record id vs → nth T id ≡ some y → y < ix.types → Fields T vs (field_kinds t (type_in ix y)) → RecordAt fs h T t ix y v

module _ {t : List ℕ} {ix : Index} {T W : List ℕ} {fs : List Frame} {h : List Cell} (stk : Stack t ix T W fs) (ty : map type_of h ≡ T) (hp : All (CellOk t ix T) h) where
  local-number : (w : Bool) (f l k : ℕ) (o : Option Value) → k ≡ number → local_of fs f l ≡ o → Found t ix T W k o → NumberAt fs h T t ix (refer w (to_local f l k))
  local-number w f l k none d e nothing = lost {v = refer w (to_local f l k)} (rw e refl)
  local-number w f l k (some v) d e (holds u) = let r = as_number u d in in_aLocal {w = w} {f = f} {l = l} {n = r.0} {k = k} r.2 (cc r.1)

  pub number-at : {m : ℕ} {v : Value} {k : ℕ} {b : Bool} (u : Bool) → Fit t ix T W m v k b → k ≡ as_kind u number_ref → NumberAt fs h T t ix v
  number-at u (fnum y q) e = absurd (omega (arith, as_large u number_ref, q, e))
  number-at u (fobj {y} a q) e = absurd (true≢false (sym (as-reference u number_ref number-writable) ∙ ap is_reference (sym e ∙ q) ∙ record_plain y))
  number-at u (floc {w} {f} {l} {p} {c} a d r q) e = local-number w f l c (local_of fs f l) (omega (arith, (as_same w u (reference_to c) number_ref (to_writable c r) number-writable (sym q ∙ e)).1)) refl (find stk f p l c a d)
  number-at u (ffld {w} {id} {y} {j} a d c q) e =
      ⊎_elim (λ z. lost {v = refer w (to_field id y j)} (rw z refl)) (λ z. let r = field-num z.3 j d in in_aField r.2 z.1 r.1 z.2 z.3) (cell_at t ix T h id y (rw ty a) hp)
  number-at u (frec {w} {y} a q) e = absurd (omega (arith, (as_same w u (record_ref y) number_ref (record_writable y) number-writable (sym q ∙ e)).1))

  in_cell_lem : (v : Value) (id y : ℕ) → target fs h v ≡ in_cell id (nth h id) → nth T id ≡ some y → RecordAt fs h T t ix y v
  in_cell_lem v id y l a = ⊎_elim (λ e. lost_record {v = v} (rw e at l)) (λ e. leads {v = v} id e.0 (rw e.1 at l) a e.2 e.3) (cell_at t ix T h id y (rw ty a) hp)

  local_record : (w : Bool) (f l y k : ℕ) (o : Option Value) → k ≡ record_of y → local_of fs f l ≡ o → Found t ix T W k o → RecordAt fs h T t ix y (refer w (to_local f l k))
  local_record w f l y k none d e nothing = lost_record {v = refer w (to_local f l k)} (rw e refl)
  local_record w f l y k (some v) d e (holds u) = let r = as-record y u d in in_cell_lem (refer w (to_local f l k)) r.0 y (ap (in_local h) (e ∙ ap {B = Option Value} some r.1)) r.2

  pub record-at : {m : ℕ} {v : Value} {k : ℕ} {b : Bool} (u : Bool) (y : ℕ) → Fit t ix T W m v k b → k ≡ as_kind u (record_ref y) → (writable v ≡ u) × RecordAt fs h T t ix y v
  record-at u y (fnum w q) e = absurd (omega (arith, as_large u (record_ref y), q, e))
  record-at u y (fobj {y = z} a q) e = absurd (true≢false (sym (as-reference u (record_ref y) (record_writable y)) ∙ ap is_reference (sym e ∙ q) ∙ record_plain z))
  record-at u y (floc {w} {f} {l} {p} {c} a d r q) e = let s = as_same w u (reference_to c) (record_ref y) (to_writable c r) (record_writable y) (sym q ∙ e) in (s.0, local_record w f l y c (local_of fs f l) (omega (arith, s.1)) refl (find stk f p l c a d))
  record-at u y (ffld {w} a d c q) e = absurd (omega (arith, (as_same w u number_ref (record_ref y) number-writable (record_writable y) (sym q ∙ e)).1))
  record-at u y (frec {w} {id} {y = z} a q) e = let s = as_same w u (record_ref z) (record_ref y) (record_writable z) (record_writable y) (sym q ∙ e) in let x : z ≡ y = omega (arith, s.1) in (s.0, in_cell_lem (refer w (to_record id z)) id y refl (a ∙ ap {B = Option ℕ} some x))

-- what a field holds, by its kind: a number, or a record
pub data FieldAt (T : List ℕ) (k : ℕ) : Option Value → Type 0 where
  number_field : {n : ℕ} → k ≡ number → FieldAt T k (some (num n))
  record_field : {id y : ℕ} → nth T id ≡ some y → k ≡ record_of y → FieldAt T k (some (obj id y))

pub field_at : {T : List ℕ} {vs : List Value} {ks : List ℕ} → Fields T vs ks → (j k : ℕ) → nth ks j ≡ some k → FieldAt T k (nth vs j)
field_at dnil j k e = absurd (clash (cc))
field_at (dnum {k = c} y q f) zero k e = let z : c ≡ k = cc in number_field (sym z ∙ q)
field_at (dnum y q f) (suc j) k e = field_at f j k e
field_at (dobj {k = c} a q f) zero k e = let z : c ≡ k = cc in record_field a (sym z ∙ q)
field_at (dobj a q f) (suc j) k e = field_at f j k e
