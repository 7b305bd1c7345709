-- Laws of a pass that stops at its first faulty row, for any answer type and any fault function.
use Prim.Native.Nat.{ℕ, suc, zero, ◌+◌, ◌-◌, ◌<◌, ◌≤◌}
use mathlib.Core.Path.{◌≡◌, refl, sym, ap, ◌∙◌}
use mathlib.Core.Bool.{Bool, true, false, cond}
use mathlib.Core.Logic.{◌⊎◌, inl, inr}
use native.Mathlib.Nat.{sub_self, sub-zero, add-zero, zero-add}
use native.Mathlib.Decide.{dec_lt}
use native.Mathlib.Omega.{arith}
use Rattle.laws.specs.First.{first_fault, unless}

less : (n i : ℕ) → i < n → n - i ≡ suc (n - (i + 1))
less n i h = omega arith

-- a fault number of 0: the test fails, and the rest gives 0
pub unfaulted : (b : Bool) (f rest : ℕ) → cond b (suc f) rest ≡ 0 → (b ≡ false) × (rest ≡ 0)
unfaulted true f rest e = absurd (omega arith)
unfaulted false f rest e = (refl, e)

-- another one, where there is one test: it holds
pub faulted : (b : Bool) (f : ℕ) → (cond b f 0 ≡ 0 → ⊥) → (b ≡ true) × (cond b f 0 ≡ f)
faulted true f e = (refl, refl)
faulted false f e = absurd (e refl)

unless-bad : {A : Type 0} (f : ℕ) (bad rest : A) → (f ≡ 0 → ⊥) → unless f bad rest ≡ bad
unless-bad zero bad rest ne = absurd (ne refl)
unless-bad (suc f) bad rest ne = refl

module _ {A : Type 0} (clean : ℕ → A) (bad : ℕ → ℕ → A) (f : ℕ → ℕ) where
  -- what is left of a pass over n rows when it comes to row i
  abbrev pub from : ℕ → ℕ → A
  from n i = first_fault clean bad f i (n - i)

  pub fine : (n i : ℕ) → i < n → f i ≡ 0 → from n i ≡ from n (i + 1)
  unfolding first_fault
  fine n i h e = rw (less n i h, e)

  pub faulty : (n i : ℕ) → i < n → (f i ≡ 0 → ⊥) → from n i ≡ bad (f i) i
  unfolding first_fault
  faulty n i h ne = rw (less n i h) (unless-bad (f i) _ _ ne)

  -- where the number of the fault is known
  pub faulty_with : (n i k : ℕ) → i < n → f i ≡ k → (k ≡ 0 → ⊥) → from n i ≡ bad k i
  faulty_with n i k h e ne = faulty n i h (λ z. ne (sym e ∙ z)) ∙ ap (λ (number : ℕ). bad number i) e

  pub done : (n : ℕ) → from n n ≡ clean n
  unfolding first_fault
  done n = rw (sub_self n)

  pub whole : (n : ℕ) → first_fault clean bad f 0 n ≡ from n 0
  whole n = rw sub-zero

module _ {A : Type 0} (clean : ℕ → A) (bad : ℕ → ℕ → A) (f : ℕ → ℕ) (apart : (n k i : ℕ) → bad k i ≡ clean n → ⊥) where
  -- a pass whose answer is clean has no faulty row
  pub all_fine : (m i left : ℕ) → first_fault clean bad f i left ≡ clean m → (j : ℕ) → i ≤ j → j < i + left → f j ≡ 0
  unfolding first_fault
  all_fine m i zero e j lo hi = absurd (omega arith)
  all_fine m i (suc left) e j lo hi = go (f i) refl (dec_lt i j) (λ q h. all_fine m (i + 1) left (rw q at e) j (omega arith) (omega arith))
    where
      go : (k : ℕ) → f i ≡ k → Dec (i < j) → (f i ≡ 0 → i < j → f j ≡ 0) → f j ≡ 0
      go (suc k) q d rest = absurd (apart m (suc k) i (rw q at e))
      go zero q (yes h) rest = rest q h
      go zero q (no h) rest = let s : j ≡ i = omega arith in rw s q

-- a pass with no faulty row is clean
pub clean_if : {A : Type 0} (clean : ℕ → A) (bad : ℕ → ℕ → A) (f : ℕ → ℕ) (i left : ℕ) → ((j : ℕ) → i ≤ j → j < i + left → f j ≡ 0) → first_fault clean bad f i left ≡ clean (i + left)
unfolding first_fault
clean_if clean bad f i zero h = rw add-zero refl
clean_if clean bad f i (suc left) h =
    let e : f i ≡ 0 = h i (omega arith) (omega arith) in
    let s : i + suc left ≡ i + 1 + left = omega arith in
    rw (e, s) (clean_if clean bad f (i + 1) left (λ j lo hi. h j (omega arith) (omega arith)))

-- the same of all n rows, and of those that are left from row i on
module _ {A : Type 0} (clean : ℕ → A) (bad : ℕ → ℕ → A) (f : ℕ → ℕ) (n : ℕ) where
  pub clean_all : ((j : ℕ) → j < n → f j ≡ 0) → first_fault clean bad f 0 n ≡ clean n
  clean_all h = clean_if clean bad f 0 n (λ j lo hi. h j (omega arith)) ∙ ap clean (zero-add n)

  pub clean_from : (i : ℕ) → i ≤ n → ((j : ℕ) → i ≤ j → f j ≡ 0) → from clean bad f n i ≡ clean n
  clean_from i h z = let e : i + (n - i) ≡ n = omega arith in clean_if clean bad f i (n - i) (λ j lo hi. z j lo) ∙ ap clean e

-- passes that find the same faults are the same
pub first-same : {A : Type 0} (clean : ℕ → A) (bad : ℕ → ℕ → A) (f g : ℕ → ℕ) (i left : ℕ) → ((j : ℕ) → i ≤ j → j < i + left → f j ≡ g j) → first_fault clean bad f i left ≡ first_fault clean bad g i left
unfolding first_fault
first-same clean bad f g i zero h = refl
first-same clean bad f g i (suc left) h = rw (h i (omega arith) (omega arith), first-same clean bad f g (i + 1) left (λ j lo hi. h j (omega arith) (omega arith)))

-- a pass is clean, or it stops at its first faulty row
module _ {A : Type 0} (clean : ℕ → A) (bad : ℕ → ℕ → A) (f : ℕ → ℕ) where
  pub record Stops (i left : ℕ) : Type 0 where
    pub at : ℕ
    pub from : i ≤ at
    pub inside : at < i + left
    pub faulty : f at ≡ 0 → ⊥
    pub before : (j : ℕ) → i ≤ j → j < at → f j ≡ 0
    pub told : first_fault clean bad f i left ≡ bad (f at) at

  pub clean_or_stops : (i left : ℕ) → (first_fault clean bad f i left ≡ clean (i + left)) ⊎ Stops i left
  unfolding first_fault
  clean_or_stops i zero = inl (rw add-zero refl)
  clean_or_stops i (suc left) = go (f i) refl (clean_or_stops (i + 1) left)
    where
      go : (k : ℕ) → f i ≡ k → (first_fault clean bad f (i + 1) left ≡ clean (i + 1 + left)) ⊎ Stops (i + 1) left
          → (first_fault clean bad f i (suc left) ≡ clean (i + suc left)) ⊎ Stops i (suc left)
      go (suc k) q rest = inr (record { at = i; from = omega arith; inside = omega arith; faulty = λ z. omega (arith, q, z); before = λ j lo hi. absurd (omega arith); told = rw q })
      go zero q (inl e) = let s : i + suc left ≡ i + 1 + left = omega arith in inl (rw (q, s) e)
      go zero q (inr s) = inr (record {
        at = s.at;
        from = omega (arith, s.from);
        inside = omega (arith, s.inside);
        faulty = s.faulty;
        before = λ j lo hi. before_here s j lo hi (dec_lt i j);
        told = rw q s.told;
      })
        where
          before_here : (s : Stops (i + 1) left) (j : ℕ) → i ≤ j → j < s.at → Dec (i < j) → f j ≡ 0
          before_here s j lo hi (yes h) = s.before j (omega arith) hi
          before_here s j lo hi (no h) = let e : j ≡ i = omega arith in rw e q
