-- Places, lists and references that stand for each other.
use Prim.Native.Nat.{ℕ, zero, suc, ◌≤◌}
use mathlib.Core.Path.{◌≡◌, refl, ap, sym, ◌∙◌}
use mathlib.Core.Bool.{Bool, true, false, cond, true≢false}
use mathlib.Core.List.{List, [], ◌∷◌, ◌++◌}
use mathlib.Core.Option.{Option, none, some}
use native.Mathlib.Omega.{arith}
use borrow.Author.Tests.{eqb-true, eqb-false, ne_eqb}
use lib.Dec.{eqb}
use lib.ListN.{length, set, replicate, get_elem? as nth}
use Rattle.semantics.specs.Machine.{Value, num, Entry, Frame, frame, content, local_of, put_local}
use Rattle.semantics.specs.Step.{pushed_on, start_locals}
use Rattle.semantics.proofs.Changes.{clash}
use Rattle.semantics.proofs.Typing.{◌⊑◌}
use Rattle.state.specs.declared.Operand.{Operand}
use Rattle.state.specs.declared.Operand.TheVariants.{Empty, Number}
use Rattle.machine.specs.code.Machine.{MFrame, mframe, MEntry, back_to, held, local_at, put_at}
use Rattle.machine.proofs.Represents.{Shows, empty, number, whole, to_aLocal, to_aField, to_aRecord, ShowsAll, no_more, and, ShowsLocals, no_local, and_local, ShowsFrames, no_frame, and_frame, ShowsStore, no-entry, and_entry}

-- more records and frames
module _ {R D R' D' : List ℕ} (g : ◌⊑◌ R R') (w : ◌⊑◌ D D') where
  pub shows_more : {x : Operand} {o : Option Value} → Shows R D x o → Shows R' D' x o
  shows_more empty = empty
  shows_more number = number
  shows_more (whole e) = whole (g _ _ e)
  shows_more (to_aLocal e) = to_aLocal (w _ _ e)
  shows_more (to_aField e) = to_aField (g _ _ e)
  shows_more (to_aRecord e) = to_aRecord (g _ _ e)

  pub all_more : {xs : List Operand} {vs : List Value} → ShowsAll R D xs vs → ShowsAll R' D' xs vs
  all_more no_more = no_more
  all_more (and s a) = and (shows_more s) (all_more a)

  pub locals_more : {xs : List Operand} {os : List (Option Value)} → ShowsLocals R D xs os → ShowsLocals R' D' xs os
  locals_more no_local = no_local
  locals_more (and_local s a) = and_local (shows_more s) (locals_more a)

  pub frames_more : {ms : List MFrame} {fs : List Frame} → ShowsFrames R D ms fs → ShowsFrames R' D' ms fs
  frames_more no_frame = no_frame
  frames_more (and_frame e a l f) = and_frame (w _ _ e) (all_more a) (locals_more l) (frames_more f)

pub store_more : {R R' : List ℕ} → ◌⊑◌ R R' → {ms : List MEntry} {es : List Entry} → ShowsStore R ms es → ShowsStore R' ms es
store_more g no-entry = no-entry
store_more g (and_entry e s) = and_entry (g _ _ e) (store_more g s)

-- a local that is put leaves as many frames
put-length : (d l : ℕ) (x : Operand) (ms : List MFrame) → length (put_at ms d l x) ≡ length ms
put-length d l x [] = refl
put-length d l x (mframe s p i ops ls ∷ ms) = go (eqb (length ms) d) (put-length d l x ms)
  where
    go : (b : Bool) → length (put_at ms d l x) ≡ length ms → length (cond b (mframe s p i ops (set ls l x) ∷ ms) (mframe s p i ops ls ∷ put_at ms d l x)) ≡ suc (length ms)
    go true ih = refl
    go false ih = ap suc ih

-- frames at different depths are different
apart : (D : List ℕ) (id f e d : ℕ) → nth D id ≡ some e → nth D f ≡ some d → (e ≡ d → ⊥) → eqb id f ≡ false
apart D id f e d a b c = ne_eqb id f (λ q. c (cc (a, b, q)))

module _ {R D : List ℕ} where
  -- pushing
  pub push_all : {xs ops : List Operand} {vs us : List Value} → ShowsAll R D xs vs → ShowsAll R D ops us → ShowsAll R D (back_to xs ops) (pushed_on vs us)
  push_all no_more b = b
  push_all (and s a) b = push_all a (and s b)

  pub all_length : {xs : List Operand} {vs : List Value} → ShowsAll R D xs vs → length xs ≡ length vs
  all_length no_more = refl
  all_length (and s a) = ap suc (all_length a)

  pub frames-length : {ms : List MFrame} {fs : List Frame} → ShowsFrames R D ms fs → length ms ≡ length fs
  frames-length no_frame = refl
  frames-length (and_frame e a l f) = ap suc (frames-length f)

  -- places
  pub held_shows : {ls : List Operand} {os : List (Option Value)} → ShowsLocals R D ls os → (l : ℕ) → Shows R D (held (nth ls l)) (content (nth os l))
  held_shows no_local l = empty
  held_shows (and_local s a) zero = s
  held_shows (and_local s a) (suc l) = held_shows a l

  pub set_shows : {ls : List Operand} {os : List (Option Value)} → ShowsLocals R D ls os → (l : ℕ) {x : Operand} {o : Option Value} → Shows R D x o → ShowsLocals R D (set ls l x) (set os l o)
  set_shows no_local l s = no_local
  set_shows (and_local s a) zero q = and_local q a
  set_shows (and_local s a) (suc l) q = and_local s (set_shows a l q)

  pub field_shows : {xs : List Operand} {vs : List Value} → ShowsAll R D xs vs → (j : ℕ) → Shows R D (held (nth xs j)) (nth vs j)
  field_shows no_more j = empty
  field_shows (and s a) zero = s
  field_shows (and s a) (suc j) = field_shows a j

  pub put-shows : {xs : List Operand} {vs : List Value} → ShowsAll R D xs vs → (j : ℕ) {x : Operand} {v : Value} → Shows R D x (some v) → ShowsAll R D (set xs j x) (set vs j v)
  put-shows no_more j q = no_more
  put-shows (and s a) zero q = and q a
  put-shows (and s a) (suc j) q = and s (put-shows a j q)

  pub start_shows : {xs : List Operand} {vs : List Value} → ShowsAll R D xs vs → (n : ℕ) → ShowsLocals R D (xs ++ replicate n Empty) (start_locals vs n)
  start_shows no_more zero = no_local
  start_shows no_more (suc n) = and_local empty (start_shows no_more n)
  start_shows (and s a) n = and_local s (start_shows a n)

  -- a local of a frame, found by its depth
  none_below : {ms : List MFrame} {fs : List Frame} (f d l : ℕ) → ShowsFrames R D ms fs → nth D f ≡ some d → length ms ≤ d → local_of fs f l ≡ none
  none_below f d l no_frame e h = refl
  none_below f d l (and_frame {id} {ms = ms} q a ls s) e h = rw (apart D id f (length ms) d q e (λ z. omega (arith, h))) (none_below f d l s e (omega arith))

  pub local_shows : {ms : List MFrame} {fs : List Frame} (f d l : ℕ) → ShowsFrames R D ms fs → nth D f ≡ some d → Shows R D (local_at ms f d l) (local_of fs f l)
  local_shows f d l no_frame e = empty
  local_shows f d l (and_frame {id} {ops} {ls} {os} {ms} {fs} q a k s) e = go (eqb (length ms) d) (eqb id f) refl refl (local_shows f d l s e)
    where
      go : (x y : Bool) → eqb (length ms) d ≡ x → eqb id f ≡ y → Shows R D (local_at ms f d l) (local_of fs f l) → Shows R D (cond x (cond y (held (nth ls l)) Empty) (local_at ms f d l)) (cond y (content (nth os l)) (local_of fs f l))
      go true true p z ih = held_shows k l
      go true false p z ih = rw (none_below f d l s e (omega (arith, eqb-true (length ms) d p))) empty
      go false true p z ih = absurd (true≢false (sym z ∙ apart D id f (length ms) d q e (eqb-false (length ms) d p)))
      go false false p z ih = ih

  -- where it is found by its depth, it is the same local
  pub write_shows : (f d l n : ℕ) {ms : List MFrame} {fs : List Frame} {v : Value} → ShowsFrames R D ms fs → nth D f ≡ some d → local_of fs f l ≡ some v → ShowsFrames R D (put_at ms d l (Number n)) (put_local fs f l (num n))
  write_shows f d l n no_frame e z = no_frame
  write_shows f d l n {v = v} (and_frame {id} {p} {i} {ops} {ls} {vs} {os} {ms} {fs} q a k s) e z = go (eqb (length ms) d) (eqb id f) refl refl (λ y. write_shows f d l n s e y)
    where
      go : (x y : Bool) → eqb (length ms) d ≡ x → eqb id f ≡ y → (local_of fs f l ≡ some v → ShowsFrames R D (put_at ms d l (Number n)) (put_local fs f l (num n)))
          → ShowsFrames R D (cond x (mframe id p i ops (set ls l (Number n)) ∷ ms) (mframe id p i ops ls ∷ put_at ms d l (Number n))) (cond y (frame id p i vs (set os l (some (num n))) ∷ fs) (frame id p i vs os ∷ put_local fs f l (num n)))
      go true true c u ih = and_frame q a (set_shows k l number) s
      go true false c u ih =
          let none-there = none_below f d l s e (omega (arith, eqb-true (length ms) d c)) in
          let w : local_of fs f l ≡ some v = rw u at z in
          absurd (clash (cc (w, none-there)))
      go false true c u ih = absurd (true≢false (sym u ∙ apart D id f (length ms) d q e (eqb-false (length ms) d c)))
      go false false c u ih = and_frame (q ∙ ap {B = Option ℕ} some (sym (put-length d l (Number n) ms))) a k (ih (rw u at z))
