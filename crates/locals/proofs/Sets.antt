-- Laws of sets of locals.
use Prim.Native.Nat.{ℕ, zero, suc, ◌<◌, ◌≤◌}
use mathlib.Core.Path.{◌≡◌, refl, sym, ap, ◌∙◌}
use mathlib.Core.List.{List}
use mathlib.Core.Bool.{Bool, true, false, cond, ◌&&◌, and-false}
use native.Mathlib.Decide.{ℕ_discrete, dec_lt}
use native.Mathlib.Omega.{arith}
use borrow.Author.Tests.{lt-ltb, le-ltb}
use lib.Dec.{ltb}
use lib.ListN.{length, get_or, replicate, length-set, length-replicate, get_or-replicate, get_or-eq_default}
use lib.Seq.{get_or-set_same, get_or-set_other, set_out}
use Rattle.locals.specs.declared.LocalSet.{LocalSet}
use Rattle.locals.specs.code.Sets.{inserted, contains, those}

-- a number that is no local's
pub insert_past : (s : LocalSet) → length s.has ≡ 16 → (l : ℕ) → 16 ≤ l → s ≡ inserted s l
unfolding inserted
insert_past s size l h = ap (λ (x : List Bool). record { has = x }) (sym (set_out s.has l true (omega arith)))

-- the locals of which a test holds
module _ (test : ℕ → Bool) where
  length-those : (n : ℕ) → length (those test n).has ≡ 16
  unfolding those inserted
  length-those zero = refl
  length-those (suc n) = go (test n) (length-those n)
    where
      go : (b : Bool) → length (those test n).has ≡ 16 → length (cond b (inserted (those test n) n) (those test n)).has ≡ 16
      go true e = length-set (those test n).has n true ∙ e
      go false e = e

  pub contains-those : (n l : ℕ) → n ≤ 16 → contains (those test n) l ≡ (ltb l n && test l)
  unfolding those contains inserted
  contains-those zero l h = none (dec_lt l 16) ∙ rw (le-ltb l 0 (omega arith))
    where
      none : Dec (l < 16) → get_or (replicate 16 false) l false ≡ false
      none (yes k) = get_or-replicate 16 l false false k
      none (no k) = get_or-eq_default (replicate 16 false) false {n = l} (rw length-replicate (omega arith))
  contains-those (suc n) l h = go (test n) refl (ℕ_discrete l n) (contains-those n l (omega arith))
    where
      same : (l ≡ n → ⊥) → Dec (l < n) → ltb l n ≡ ltb l (suc n)
      same e (yes k) = lt-ltb l n k ∙ sym (lt-ltb l (suc n) (omega arith))
      same e (no k) = le-ltb l n (omega arith) ∙ sym (le-ltb l (suc n) (omega arith))

      go :
          (t : Bool) → test n ≡ t → Dec (l ≡ n) → get_or (those test n).has l false ≡ (ltb l n && test l)
          → get_or (cond t (inserted (those test n) n) (those test n)).has l false ≡ (ltb l (suc n) && test l)
      go true q (yes e) ih = rw (e, q, lt-ltb n (suc n) (omega arith)) (get_or-set_same (those test n).has n true false (omega (arith, length-those n)))
      go false q (yes e) ih = rw (e, q, and-false) (rw (e, q, and-false) at ih)
      go true q (no e) ih = get_or-set_other (those test n).has n l true false e ∙ ih ∙ ap (λ (x : Bool). x && test l) (same e (dec_lt l n))
      go false q (no e) ih = ih ∙ ap (λ (x : Bool). x && test l) (same e (dec_lt l n))
