-- Values are what they say, and each suspended frame stands at the Call of the one above it.
use Prim.Native.Nat.{ℕ, zero, suc, ◌+◌, ◌<◌, ◌≤◌}
use mathlib.Core.Path.{◌≡◌, refl, ap, sym, ◌∙◌}
use mathlib.Core.List.Memᴰ
use mathlib.Core.List.{List, [], ◌∷◌, map}
use mathlib.Core.Bool.{Bool}
use mathlib.Core.Option.{Option, some}
use mathlib.Core.Logic.{inl, inr, ⊎_elim}
use native.Mathlib.Omega.{arith}
use native.Mathlib.Decide.{dec_lt}
use lib.ListN.{length, get_elem? as nth}
use Rattle.table.specs.Rows.{row_count, row_at}
use Rattle.table.specs.Index.{index_of, no_type}
use Rattle.declarations.specs.Program.{number, type_in, procedure_in, field_kinds, kinds_of, kinds_from, local_kind, local_count, code_of}
use Rattle.reach.specs.Reach.{Mem}
use Rattle.judging.specs.Judging.{AcceptedTable}
use Rattle.acceptance.specs.Judged.{Judged, local_kinds}
use Rattle.acceptance.proofs.Stretches.{kind-there}
use Rattle.semantics.specs.Machine.{Value, obj, Cell, Entry, Frame, frame}
use Rattle.semantics.specs.Ownership.{in_values, in_locals, in_frames}
use Rattle.semantics.specs.Words.{kinds_in, body_of, Holds, operand, local, Existed}
use Rattle.semantics.specs.Claim.{All, none_left, also, Owned, Labelled, Typed, typed, Linked, first, under}
use Rattle.semantics.proofs.Counts.{same-one, alive_gone}
use Rattle.semantics.proofs.Changes.{clash}
use Rattle.semantics.proofs.Sounds.{nth_inside}
use Rattle.semantics.proofs.Typing.{Fit, fnum, fobj, floc, ffld, frec, fit-kind, CellOk}
use Rattle.semantics.proofs.Frames.{FrameOk, Suspended, bottom, over, Stack, runs, type_of, cell_at}
use Rattle.semantics.proofs.Guests.{has_place, slot_place}
use Rattle.semantics.proofs.Owning.{held_once}
use Rattle.semantics.proofs.Worded.{procedures_are, type-is, type_absent, procedure-is}
use Rattle.semantics.proofs.Placed.{place_is, end_is, row_is}

-- what a frame holds is counted
local_once : (id y : ℕ) (ls : List (Option Value)) (l : ℕ) → nth ls l ≡ some (some (obj id y)) → 1 ≤ in_locals id ls
local_once id y [] l e = absurd (clash (cc))
local_once id y (o ∷ ls) zero e = let z : o ≡ some (obj id y) = cc in rw z (omega (arith, same-one id))
local_once id y (o ∷ ls) (suc l) e = omega (arith, local_once id y ls l e)

pub held-counted : (id y : ℕ) (f : Frame) (fs : List Frame) → Mem f fs → Holds f (obj id y) → 1 ≤ in_frames id fs
held-counted id y f [] m h = absurd (Memᴰ.not-nil m)
held-counted id y f (frame a p i ops ls ∷ fs) m h = ⊎_elim (λ e. omega (arith, here-counted (rw e at h))) (λ r. omega (arith, held-counted id y f fs r h)) (Memᴰ.cases_cons m)
  where
    here-counted : Holds (frame a p i ops ls) (obj id y) → 1 ≤ in_values id ops + in_locals id ls
    here-counted (operand q) = omega (arith, held_once id y ops q)
    here-counted (local l q) = omega (arith, local_once id y ls l q)

-- a number without a type has no fields
none-there : (t : List ℕ) (j : ℕ) → nth (field_kinds t no_type) j ≡ some number → ⊥
unfolding field_kinds kinds_of kinds_from
none-there t j e = clash (cc)

module _ (t : List ℕ) (J : Judged t (index_of t)) (a : AcceptedTable t) (T W : List ℕ) where
  -- the name of each frame's procedure
  abbrev Named : Frame → Type 0
  Named (frame id p i ops ls) = (nth W id ≡ some p) × (p < (index_of t).procedures)

  names : {q : ℕ} {fs : List Frame} → Suspended t (index_of t) T W q fs → All Named fs
  names (bottom z x) = none_left
  names (over {id} {p} {i} {ops} {ls} e d f s) = also {x = frame id p i ops ls} (f.named, f.there) (names s)

  named-there : {fs : List Frame} (f p i : ℕ) (ops : List Value) (ls : List (Option Value)) → All Named fs → Mem (frame f p i ops ls) fs → (nth W f ≡ some p) × (p < (index_of t).procedures)
  named-there f p i ops ls none_left m = absurd (Memᴰ.not-nil m)
  named-there f p i ops ls (also {x = frame f' p' i' ops' ls'} k n) m =
      ⊎_elim (λ e. let u : f' ≡ f = cc in let w : p' ≡ p = cc in rw (u, w) at k) (λ r. named-there f p i ops ls n r) (Memᴰ.cases_cons m)

  -- a local that has a kind is one of the procedure's
  local-is : (p l k : ℕ) → p < (index_of t).procedures → nth (local_kinds t (procedure_in (index_of t) p)) l ≡ some k → (l < local_count (body_of t p)) × (local_kind t (body_of t p) l ≡ k)
  unfolding local_kinds local_count local_kind
  local-is p l k there e = rw (procedure-is t a p there (J.procedure p there).low) at (kind-there t ((procedure_in (index_of t) p).row + 1) (procedure_in (index_of t) p).results l k e)

  -- a number field is one of the type's
  field_is : (y j : ℕ) → nth (field_kinds t (type_in (index_of t) y)) j ≡ some number → nth (kinds_in t y) j ≡ some number
  field_is y j e = go (dec_lt y (index_of t).types)
    where
      go : Dec (y < (index_of t).types) → nth (kinds_in t y) j ≡ some number
      go (yes l) = rw (type-is t a y l) at e
      go (no l) = let z : nth (field_kinds t no_type) j ≡ some number = rw (type_absent t a y (omega arith)) at e in absurd (none-there t j z)

  module _ (h : List Cell) (types : map type_of h ≡ T) (records : All (CellOk t (index_of t) T) h) (n : ℕ) (serial : length W ≡ n) (fs : List Frame) (st : List Entry) (owned : Owned fs h st) (named : All Named fs) where
    existed : (id y : ℕ) → nth T id ≡ some y → Existed h id y
    existed id y e = ⊎_elim (λ g. inl g) (λ g. inr (g.0, g.1)) (cell_at t (index_of t) T h id y (rw types e) records)

    labelled : {m : ℕ} {v : Value} {k : ℕ} {b : Bool} → Fit t (index_of t) T W m v k b → ((id y : ℕ) → v ≡ obj id y → 1 ≤ in_frames id fs) → Labelled t fs h n v
    labelled (fnum w q) c = w
    labelled (fobj {id} {y} e q) c =
        ⊎_elim (λ g. absurd (omega (arith, owned id, c id y refl, alive_gone id h y g))) (λ g. (g.0, g.1)) (cell_at t (index_of t) T h id y (rw types e) records)
    labelled (floc {f} {l} {p} {c = k} e d r q) c = (
      omega (arith, serial, nth_inside W f p e),
      r,
      λ p' i ops ls m. let z = named-there f p' i ops ls named m in let u : p ≡ p' = cc (e, z.0) in local-is p' l k z.1 (rw u at d),
    )
    labelled (ffld {id} {y} {j} e d g q) c = (existed id y e, field_is y j d)
    labelled (frec {id} {y} e q) c = existed id y e

    frame-typed : {to : ℕ} {gap : List ℕ} {G : List Bool} {id p : ℕ} {ops : List Value} {ls : List (Option Value)} → FrameOk t (index_of t) T W to gap G id p ops ls → (i : ℕ) → Mem (frame id p i ops ls) fs → Typed t fs h n (frame id p i ops ls)
    frame-typed {id} {p} {ops} {ls} f i m = typed (λ v k. says v k) (λ l v e. let z = slot_place f.slots l e in let d = local-is p l z.0 f.there z.1 in (d.0, fit-kind z.2 ∙ sym d.1))
      where
        says : (v : Value) → Holds (frame id p i ops ls) v → Labelled t fs h n v
        says v (operand q) = let z = has_place f.has q in let w : Holds (frame id p i ops ls) v = operand q in labelled z.2 (λ id' y e. held-counted id' y (frame id p i ops ls) fs m (rw e at w))
        says v (local l q) = let z = slot_place f.slots l q in let w : Holds (frame id p i ops ls) v = local l q in labelled z.2 (λ id' y e. held-counted id' y (frame id p i ops ls) fs m (rw e at w))

    suspended_typed : {q : ℕ} {gs : List Frame} → Suspended t (index_of t) T W q gs → ((f : Frame) → Mem f gs → Mem f fs) → All (Typed t fs h n) gs
    suspended_typed (bottom z x) k = none_left
    suspended_typed (over {id} {p} {i} {ops} {ls} e d f s) k =
        also {x = frame id p i ops ls} (frame-typed f i (k (frame id p i ops ls) (Memᴰ.head refl))) (suspended_typed s (λ g m. k g (Memᴰ.tail m)))

    stack-typed : {gs : List Frame} → Stack t (index_of t) T W gs → ((f : Frame) → Mem f gs → Mem f fs) → All (Typed t fs h n) gs
    stack-typed (runs {id} {p} {i} {ops} {ls} f s) k =
        also {x = frame id p i ops ls} (frame-typed f i (k (frame id p i ops ls) (Memᴰ.head refl))) (suspended_typed s (λ g m. k g (Memᴰ.tail m)))

  -- what every frame holds is what it says
  pub types_hold : (h : List Cell) → map type_of h ≡ T → All (CellOk t (index_of t) T) h → (n : ℕ) → length W ≡ n → (fs : List Frame) (st : List Entry) → Owned fs h st → Stack t (index_of t) T W fs → All (Typed t fs h n) fs
  types_hold h types records n serial fs st owned s = stack-typed h types records n serial fs st owned (stack-named s) s (λ f m. m)
    where
      stack-named : {gs : List Frame} → Stack t (index_of t) T W gs → All Named gs
      stack-named (runs {id} {p} {i} {ops} {ls} f s) = also {x = frame id p i ops ls} (f.named, f.there) (names s)

  -- each suspended frame stands at the Call of the one above it
  pub links : {q : ℕ} {fs : List Frame} → Suspended t (index_of t) T W q fs → Linked t q fs
  links (bottom z x) = first
  links (over {q} {id} {p} {i} e d f s) =
      let few = (J.procedure p f.there).low in
      let inside : i < row_count (code_of t (procedure_in (index_of t) p)) = omega (arith, f.inside) in
      let place = place_is t a p f.there few i inside in
      let row = row_is t a p f.there few i inside ∙ ap (row_at t) place in
      under (rw (procedures_are t a) at f.there) (rw place at (end_is t a p f.there few i inside)) (rw row at e) (rw row at d) (links s)
