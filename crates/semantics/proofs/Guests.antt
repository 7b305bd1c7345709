-- What the frames of a state hold: a writable reference to a guarded field stands in a frame of the declaring module, and in none of a guest.
use Prim.Native.Nat.{ℕ, zero, suc, ◌+◌}
use mathlib.Core.Path.{◌≡◌, refl, ap, sym, ◌∙◌}
use mathlib.Core.List.Memᴰ
use mathlib.Core.List.{List, [], ◌∷◌}
use mathlib.Core.Bool.{Bool, true, false, not, true≢false}
use mathlib.Core.Option.{Option, some}
use mathlib.Core.Logic.{⊎_elim}
use native.Mathlib.Omega.{arith}
use lib.ListN.{length, get_or, get_elem? as nth}
use Rattle.table.specs.declared.index.Index.{Index}
use Rattle.table.specs.Index.{index_of}
use Rattle.declarations.specs.Program.{procedure_in}
use Rattle.reach.specs.Reach.{Mem}
use Rattle.flow.specs.Walks.{Slot, empty, mark_of, pushed_on as marks_on}
use Rattle.leaks.specs.Leaks.{in_trusted}
use Rattle.judging.specs.Judging.{AcceptedTable}
use Rattle.acceptance.specs.Judged.{Judged}
use Rattle.semantics.specs.Machine.{to_field, Value, refer, Frame, frame}
use Rattle.semantics.specs.Words.{module_of, declarer, guest, GuardedReference, operand, local}
use Rattle.semantics.proofs.Indexed.{module_in, declarer_in, guest_in, guarded_in}
use Rattle.semantics.proofs.Worded.{guarded-is, declarer-is, module_is, guest-is}
use Rattle.semantics.specs.Claim.{All, none_left, also, Kept}
use Rattle.semantics.proofs.Changes.{clash}
use Rattle.semantics.proofs.Typing.{Fit, fnum, fobj, floc, ffld, frec, Has, hnil, hcons, Slots, snil, sempty, sfull}
use Rattle.semantics.proofs.Frames.{FrameOk, Suspended, bottom, over, Stack, runs}

-- the operands under those that are pushed
under_marks : (G O : List Bool) (j : ℕ) → get_or (marks_on G O) (length G + j) false ≡ get_or O j false
unfolding marks_on
under_marks [] O j = ap (λ (k : ℕ). get_or O k false) (omega arith)
under_marks (g ∷ G) O j = ap (λ (k : ℕ). get_or (marks_on G (g ∷ O)) k false) (omega arith) ∙ under_marks G (g ∷ O) (suc j)

module _ {t : List ℕ} {ix : Index} {T W : List ℕ} {m : ℕ} where
  -- a value that is held has a place with a mark
  pub has_place : {v : Value} {vs : List Value} {ks : List ℕ} {bs : List Bool} → Has t ix T W m vs ks bs → Mem v vs → (k j : ℕ) × Fit t ix T W m v k (get_or bs j false)
  has_place hnil q = absurd (Memᴰ.not-nil q)
  has_place {v} (hcons {v = w} {k} {b} f h) q =
      ⊎_elim (λ e. let z : w ≡ v = sym e in (k, 0, rw z at f)) (λ r. let z = has_place h r in (z.0, suc z.1, z.2)) (Memᴰ.cases_cons q)

  pub slot_place : {v : Value} {ls : List (Option Value)} {ks : List ℕ} {L : List Slot} → Slots t ix T W m ls ks L → (l : ℕ) → nth ls l ≡ some (some v) → (k : ℕ) × (nth ks l ≡ some k) × Fit t ix T W m v k (mark_of (get_or L l empty))
  slot_place snil l e = absurd (clash (cc))
  slot_place (sempty s) zero e = absurd (clash (cc))
  slot_place (sempty s) (suc l) e = slot_place s l e
  slot_place {v} (sfull {v = w} {k} f s) zero e = let z : w ≡ v = cc in (k, refl, rw z at f)
  slot_place (sfull f s) (suc l) e = slot_place s l e

  -- a writable reference to a guarded field stands at a marked place, in the declaring module
  guarded-fit : {v : Value} {k : ℕ} {b : Bool} (id y j : ℕ) → Fit t ix T W m v k b → v ≡ refer true (to_field id y j) → guarded_in t ix y j ≡ true → (b ≡ true) × (declarer_in ix y ≡ m)
  guarded-fit id y j (fnum w q) e g = absurd (clash (cc))
  guarded-fit id y j (fobj a q) e g = absurd (clash (cc))
  guarded-fit id y j (floc a d c q) e g = absurd (clash (cc))
  guarded-fit id y j (ffld {w = u} {y = z} {j = i} a d c q) e g = let o : u ≡ true = cc in let x : z ≡ y = cc in let w : i ≡ j = cc in rw (x, w) at c o g
  guarded-fit id y j (frec a q) e g = absurd (clash (cc))

module _ {t : List ℕ} {T W : List ℕ} (judged : Judged t (index_of t)) (accepted : AcceptedTable t) where
  module _ {to : ℕ} {gap : List ℕ} {G : List Bool} {id p : ℕ} {ops : List Value} {ls : List (Option Value)} (f : FrameOk t (index_of t) T W to gap G id p ops ls) where
    -- in a guest no place is marked
    clean-guest : in_trusted t (index_of t) (procedure_in (index_of t) p) ≡ false → ((l : ℕ) → mark_of (get_or f.L l empty) ≡ false) × ((j : ℕ) → get_or f.O j false ≡ false)
    clean-guest e =
        let c = ((judged.instruction p to f.there f.inside).checked f.walk).guest-clean e in
        (c.0, λ j. sym (under_marks G f.O j) ∙ c.1 (length G + j))

    -- at a marked place the module is trusted
    trusted : (b : Bool) → b ≡ true → (in_trusted t (index_of t) (procedure_in (index_of t) p) ≡ false → b ≡ false) → guest_in t (index_of t) p ≡ false
    trusted b e c = go (in_trusted t (index_of t) (procedure_in (index_of t) p)) refl
      where
        go : (x : Bool) → in_trusted t (index_of t) (procedure_in (index_of t) p) ≡ x → not x ≡ false
        go true q = refl
        go false q = absurd (true≢false (sym e ∙ c q))

    fits_kept : {v : Value} {k : ℕ} (b : Bool) → Fit t (index_of t) T W (module_in (index_of t) p) v k b → (in_trusted t (index_of t) (procedure_in (index_of t) p) ≡ false → b ≡ false) → GuardedReference t v
        → (guest t p ≡ false) × ((id' y j : ℕ) → v ≡ refer true (to_field id' y j) → declarer t y ≡ module_of t p)
    fits_kept b x c g =
        let few = (judged.procedure p f.there).low in
        let w = guarded-is t accepted g.1 g.2 g.4 in
        let z = guarded-fit g.0 g.1 g.2 x g.3 w.1 in
        let own : declarer t g.1 ≡ module_of t p = sym (declarer-is t accepted g.1 w.0) ∙ z.1 ∙ module_is t accepted p f.there few in
        (sym (guest-is t accepted p f.there few) ∙ trusted b z.0 c, λ id' y j e. let u : g.1 ≡ y = cc (g.3, e) in rw u at own)

    frame-kept : (i : ℕ) → Kept t (frame id p i ops ls)
    frame-kept i v (operand q) g = let z = has_place f.has q in fits_kept (get_or f.O z.1 false) z.2 (λ e. (clean-guest e).1 z.1) g
    frame-kept i v (local l e) g = let z = slot_place f.slots l e in fits_kept (mark_of (get_or f.L l empty)) z.2 (λ q. (clean-guest q).0 l) g

  suspended_kept : {q : ℕ} {fs : List Frame} → Suspended t (index_of t) T W q fs → All (Kept t) fs
  suspended_kept (bottom z x) = none_left
  suspended_kept (over {id} {p} {i} {ops} {ls} e d f s) = also {x = frame id p i ops ls} (frame-kept f i) (suspended_kept s)

  -- every frame, running or suspended
  pub stack-kept : {fs : List Frame} → Stack t (index_of t) T W fs → All (Kept t) fs
  stack-kept (runs {id} {p} {i} {ops} {ls} f s) = also {x = frame id p i ops ls} (frame-kept f i) (suspended_kept s)
