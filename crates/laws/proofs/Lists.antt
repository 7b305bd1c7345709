-- Laws of tabulated lists, of the numbers at which a test holds, and of tests over the numbers below n.
use Prim.Native.Nat.{ℕ, suc, zero, ◌+◌, ◌-◌, ◌<◌, ◌≤◌}
use mathlib.Core.Path.{◌≡◌, refl, sym, ap, subst⁻¹, ◌∙◌}
use mathlib.Core.Bool.{Bool, true, false, cond, not, ◌&&◌, ◌||◌, true≢false, false≢true}
use mathlib.Core.List.{List, [], ◌∷◌, ◌++◌}
use mathlib.Core.Logic.{◌⊎◌, inl, inr}
use native.Mathlib.Nat.{add-zero, zero-add}
use native.Mathlib.Numerals.{add-one}
use native.Mathlib.Decide.{dec_lt, ℕ_discrete}
use native.Mathlib.Omega.{arith}
use borrow.Author.Tests.{lt-ltb, le-ltb, eqb-true}
use lib.Dec.{eqb}
use lib.ListN.{length, get_or, set, replicate, length-append, get_or-append, get_or-eq_default, length-set, length-replicate, get_or-replicate}
use lib.Seq.{get_or_at, get_or-set_same, get_or-set_other, ext_get_or}
use Rattle.laws.specs.Lists.{member, tabulate, hits, find, every, nth, count, entry_of, entries, Listed}
use Rattle.laws.proofs.Tests.{test_fails}

less : (n i : ℕ) → i < n → n - i ≡ suc (n - (i + 1))
less n i h = omega arith

-- one element more at the end
pub get_d_snoc_old : {A : Type 0} (xs : List A) (x d : A) (y : ℕ) → y < length xs → get_or (xs ++ (x ∷ [])) y d ≡ get_or xs y d
get_d_snoc_old xs x d y h = get_or-append xs (x ∷ []) d y h

pub get_d_snoc_new : {A : Type 0} (xs : List A) (x d : A) (y : ℕ) → length xs ≡ y → get_or (xs ++ (x ∷ [])) y d ≡ x
get_d_snoc_new xs x d y e = get_or_at xs x [] d y e

-- inside a list the value for outside plays no part
pub get_d_any : {A : Type 0} (xs : List A) (d e : A) (y : ℕ) → y < length xs → get_or xs y d ≡ get_or xs y e
get_d_any [] d e y h = absurd (omega arith)
get_d_any (x ∷ xs) d e zero h = refl
get_d_any (x ∷ xs) d e (suc y) h = get_d_any xs d e y (omega arith)

pub length-tabulate : {A : Type 0} (f : ℕ → A) (n : ℕ) → length (tabulate f n) ≡ n
unfolding tabulate
length-tabulate f zero = refl
length-tabulate f (suc n) = rw (length-append, length-tabulate f n) (omega arith)

pub get_d_tabulate : {A : Type 0} (f : ℕ → A) (d : A) (n y : ℕ) → y < n → get_or (tabulate f n) y d ≡ f y
unfolding tabulate
get_d_tabulate f d zero y h = absurd (omega arith)
get_d_tabulate f d (suc n) y h = go (dec_lt y n) (get_d_tabulate f d n y)
  where
    go : Dec (y < n) → (y < n → get_or (tabulate f n) y d ≡ f y) → get_or (tabulate f n ++ (f n ∷ [])) y d ≡ f y
    go (yes l) ih = get_d_snoc_old (tabulate f n) (f n) d y (rw length-tabulate l) ∙ ih l
    go (no l) ih = let e : y ≡ n = omega arith in get_d_snoc_new (tabulate f n) (f n) d y (length-tabulate f n ∙ sym e) ∙ ap f (sym e)

-- a list with n elements, the same as f's below n, is f's table
pub is-tabulate : {A : Type 0} (f : ℕ → A) (d : A) (n : ℕ) (l : List A) → length l ≡ n → ((y : ℕ) → y < n → get_or l y d ≡ f y) → l ≡ tabulate f n
is-tabulate f d n l e h = ext_get_or d l (tabulate f n) (e ∙ sym (length-tabulate f n)) (λ y k. h y (omega (arith, e)) ∙ sym (get_d_tabulate f d n y (omega (arith, e))))

module _ (hit : ℕ → Bool) where
  pub hits_yes : (n : ℕ) → hit n ≡ true → hits hit (n + 1) ≡ hits hit n ++ (n ∷ [])
  unfolding hits
  hits_yes n e = rw (add-one, e)

  pub hits_no : (n : ℕ) → hit n ≡ false → hits hit (n + 1) ≡ hits hit n
  unfolding hits
  hits_no n e = rw (add-one, e)

  pub hits_few : (n : ℕ) → length (hits hit n) ≤ n
  unfolding hits
  hits_few zero = omega arith
  hits_few (suc n) = go (hit n) (hits_few n)
    where
      go : (b : Bool) → length (hits hit n) ≤ n → length (cond b (hits hit n ++ (n ∷ [])) (hits hit n)) ≤ suc n
      go true h = rw length-append (omega arith)
      go false h = omega arith

  -- no hit in a stretch: the hits before its end are those before its start
  pub hits_skip : (a k : ℕ) → ((j : ℕ) → a ≤ j → j < a + k → hit j ≡ false) → hits hit (a + k) ≡ hits hit a
  hits_skip a zero h = rw add-zero refl
  hits_skip a (suc k) h =
      let e : a + suc k ≡ a + k + 1 = omega arith in
      rw e (hits_no (a + k) (h (a + k) (omega arith) (omega arith)) ∙ hits_skip a k (λ j lo hi. h j lo (omega arith)))

  pub find-next : (n i : ℕ) → i < n → hit i ≡ false → find hit i (n - i) ≡ find hit (i + 1) (n - (i + 1))
  unfolding find
  find-next n i h e = rw (less n i h, e)

  pub find-here : (n i : ℕ) → i < n → hit i ≡ true → find hit i (n - i) ≡ i
  unfolding find
  find-here n i h e = rw (less n i h, e)

  pub find_past : (n i : ℕ) → n ≤ i → find hit i (n - i) ≡ i
  unfolding find
  find_past n i h = let e : n - i ≡ 0 = omega arith in rw e

  pub find-within : (i left : ℕ) → (i ≤ find hit i left) × (find hit i left ≤ i + left)
  unfolding find
  find-within i zero = omega arith
  find-within i (suc left) = go (hit i) (find-within (i + 1) left)
    where
      go : (b : Bool) → (i + 1 ≤ find hit (i + 1) left) × (find hit (i + 1) left ≤ i + 1 + left) → (i ≤ cond b i (find hit (i + 1) left)) × (cond b i (find hit (i + 1) left) ≤ i + suc left)
      go true h = omega arith
      go false h = omega arith

  -- nothing is hit before what is found
  pub find-before : (i left j : ℕ) → i ≤ j → j < find hit i left → hit j ≡ false
  unfolding find
  find-before i zero j lo hi = absurd (omega arith)
  find-before i (suc left) j lo hi = go (hit i) refl (dec_lt i j) (λ h. find-before (i + 1) left j h) hi
    where
      go : (b : Bool) → hit i ≡ b → Dec (i < j) → (i + 1 ≤ j → j < find hit (i + 1) left → hit j ≡ false) → j < cond b i (find hit (i + 1) left) → hit j ≡ false
      go true q d rest h = absurd (omega arith)
      go false q (yes l) rest h = rest (omega arith) h
      go false q (no l) rest h = let s : j ≡ i = omega arith in rw s q

  -- what is found before the end is hit
  pub find_hit : (i left : ℕ) → find hit i left < i + left → hit (find hit i left) ≡ true
  unfolding find
  find_hit i zero h = absurd (omega arith)
  find_hit i (suc left) h = go (hit i) refl (find_hit (i + 1) left) h
    where
      go : (b : Bool) → hit i ≡ b → (find hit (i + 1) left < i + 1 + left → hit (find hit (i + 1) left) ≡ true) → cond b i (find hit (i + 1) left) < i + suc left → hit (cond b i (find hit (i + 1) left)) ≡ true
      go true q rest l = q
      go false q rest l = rest (omega arith)

-- a test that holds of every number below n holds of each
pub every-at : (test : ℕ → Bool) (n i : ℕ) → every test n ≡ true → i < n → test i ≡ true
unfolding every
every-at test zero i e h = absurd (omega arith)
every-at test (suc n) i e h = go (every test n) (test n) refl refl e (dec_lt i n) (every-at test n i)
  where
    go : (a b : Bool) → every test n ≡ a → test n ≡ b → a && b ≡ true → Dec (i < n) → (every test n ≡ true → i < n → test i ≡ true) → test i ≡ true
    go true true p q r (yes l) rest = rest p l
    go true true p q r (no l) rest = let s : i ≡ n = omega arith in rw s q
    go true false p q r d rest = absurd (mathlib.Core.Bool.false≢true r)
    go false b p q r d rest = absurd (mathlib.Core.Bool.false≢true r)

-- a test that is asked of one number after the other
pub every-none : (test : ℕ → Bool) → every test 0 ≡ true
unfolding every
every-none test = refl

pub every-next : (test : ℕ → Bool) (n : ℕ) → every test n ≡ true → test n ≡ true → every test (n + 1) ≡ true
unfolding every
every-next test n e h = rw (add-one, e, h)

pub every_fails : (test : ℕ → Bool) (n i : ℕ) → i < n → test i ≡ false → every test n ≡ false
every_fails test n i h e = test_fails (every test n) (λ q. true≢false (sym (every-at test n i q h) ∙ e))

module _ (hit : ℕ → Bool) where
  pub count-zero : count hit 0 ≡ 0
  unfolding count hits
  count-zero = refl

  pub count_yes : (n : ℕ) → hit n ≡ true → count hit (n + 1) ≡ count hit n + 1
  unfolding count
  count_yes n e = rw (hits_yes hit n e, length-append)

  pub count_no : (n : ℕ) → hit n ≡ false → count hit (n + 1) ≡ count hit n
  unfolding count
  count_no n e = rw (hits_no hit n e)

  pub count-few : (n : ℕ) → count hit n ≤ n
  unfolding count
  count-few n = hits_few hit n

  pub count_skip : (a k : ℕ) → ((j : ℕ) → a ≤ j → j < a + k → hit j ≡ false) → count hit (a + k) ≡ count hit a
  unfolding count
  count_skip a k h = rw (hits_skip hit a k h)

  -- later numbers leave the earlier hits as they are
  pub hits_stay : (i k p : ℕ) (d : ℕ) → p < length (hits hit i) → (get_or (hits hit (i + k)) p d ≡ get_or (hits hit i) p d) × (length (hits hit i) ≤ length (hits hit (i + k)))
  hits_stay i zero p d h = rw add-zero (refl, omega arith)
  hits_stay i (suc k) p d h = go (hit (i + k)) refl (hits_stay i k p d h)
    where
      e : i + suc k ≡ i + k + 1
      e = omega arith

      go : (b : Bool) → hit (i + k) ≡ b → (get_or (hits hit (i + k)) p d ≡ get_or (hits hit i) p d) × (length (hits hit i) ≤ length (hits hit (i + k)))
          → (get_or (hits hit (i + suc k)) p d ≡ get_or (hits hit i) p d) × (length (hits hit i) ≤ length (hits hit (i + suc k)))
      go true q ih = rw (e, hits_yes hit (i + k) q) (get_d_snoc_old (hits hit (i + k)) (i + k) d p (omega arith) ∙ ih.0, rw length-append (omega arith))
      go false q ih = rw (e, hits_no hit (i + k) q) ih

  pub hits-kept : (i n p d : ℕ) → i ≤ n → p < length (hits hit i) → (get_or (hits hit n) p d ≡ get_or (hits hit i) p d) × (length (hits hit i) ≤ length (hits hit n))
  hits-kept i n p d h l = let e : n ≡ i + (n - i) = omega arith in
      subst⁻¹ (λ (m : ℕ). (get_or (hits hit m) p d ≡ get_or (hits hit i) p d) × (length (hits hit i) ≤ length (hits hit m))) e (hits_stay i (n - i) p d l)

  -- a number that is hit is its own number among the hits
  pub nth-count : (n i : ℕ) → i < n → hit i ≡ true → (count hit i < count hit n) × (nth hit n (count hit i) ≡ i)
  unfolding count nth
  nth-count n i h q =
      let l : length (hits hit (i + 1)) ≡ length (hits hit i) + 1 = rw (hits_yes hit i q, length-append) refl in
      let s = hits-kept (i + 1) n (length (hits hit i)) n (omega arith) (omega arith) in
      (omega arith, s.0 ∙ rw (hits_yes hit i q) (get_d_snoc_new (hits hit i) i n (length (hits hit i)) refl))

  -- and a number past the last hit's has none
  pub nth-none : (n p : ℕ) → count hit n ≤ p → nth hit n p ≡ n
  unfolding count nth
  nth-none n p h = get_or-eq_default (hits hit n) n h

-- i, and no other number below n, is hit
abbrev pub Only : (ℕ → Bool) → ℕ → ℕ → Type 0
Only hit n i = (i < n) × (hit i ≡ true) × ((j : ℕ) → j < n → hit j ≡ true → j ≡ i)

module _ (hit : ℕ → Bool) where
  pub first_hit : (n i : ℕ) (is : List ℕ) → hits hit n ≡ i ∷ is → (i < n) × (hit i ≡ true)
  unfolding hits
  first_hit zero i is e = let z : ◌≡◌ {A = ℕ} 0 1 = cc in absurd (omega arith)
  first_hit (suc n) i is e = go (hit n) refl (hits hit n) e (first_hit n i)
    where
      go : (b : Bool) → hit n ≡ b → (l : List ℕ) → cond b (l ++ (n ∷ [])) l ≡ i ∷ is → ((js : List ℕ) → l ≡ i ∷ js → (i < n) × (hit i ≡ true)) → (i < suc n) × (hit i ≡ true)
      go true q [] e ih = let s : n ≡ i = cc in (omega arith, rw (← s) q)
      go true q (j ∷ l) e ih = let s : j ∷ l ≡ i ∷ l = cc in let w = ih l s in (omega arith, w.1)
      go false q l e ih = let w = ih is e in (omega arith, w.1)

  pub hits-only : (n i : ℕ) → hits hit n ≡ i ∷ [] → Only hit n i
  unfolding count nth
  hits-only n i e = let f = first_hit n i [] e in (f.0, f.1, only)
    where
      only : (j : ℕ) → j < n → hit j ≡ true → j ≡ i
      only j h q =
          let s = nth-count hit n j h q in
          let z : length (hits hit j) ≡ 0 = omega (arith, s.0, ap length e) in
          sym s.1 ∙ rw (z, e)

  pub only-hits : (n i : ℕ) → Only hit n i → hits hit n ≡ i ∷ []
  unfolding hits
  only-hits n i (h, q, f) =
      let z : i + 1 + (n - (i + 1)) ≡ n = omega arith in
      let above = rw z at (hits_skip hit (i + 1) (n - (i + 1)) (λ j lo hi. missed j (omega arith) (λ s. omega arith))) in
      let below = rw zero-add at (hits_skip hit 0 i (λ j lo hi. missed j (omega arith) (λ s. omega arith))) in
      above ∙ hits_yes hit i q ∙ rw below
    where
      missed : (j : ℕ) → j < n → (j ≡ i → ⊥) → hit j ≡ false
      missed j l other = test_fails (hit j) (λ e. other (f j l e))

module _ {A : Type 0} (hit : ℕ → Bool) (entry : ℕ → A) (absent : A) where
  pub entry_of-none : (n p : ℕ) → count hit n ≤ p → entry_of hit entry absent n p ≡ absent
  unfolding entry_of
  entry_of-none n p h = rw (le-ltb _ _ h)

  pub entry_of-at : (n p : ℕ) → p < count hit n → entry_of hit entry absent n p ≡ entry (nth hit n p)
  unfolding entry_of
  entry_of-at n p h = rw (lt-ltb _ _ h)

  -- the entry of a number that is hit
  pub entry_of_hit : (n i : ℕ) → i < n → hit i ≡ true → entry_of hit entry absent n (count hit i) ≡ entry i
  entry_of_hit n i h q = let s = nth-count hit n i h q in entry_of-at n (count hit i) s.0 ∙ ap entry s.1

  -- one number more leaves the earlier entries as they are
  entry_of_old : (i p : ℕ) → p < count hit i → entry_of hit entry absent (i + 1) p ≡ entry_of hit entry absent i p
  unfolding count nth
  entry_of_old i p h =
      let s = hits_stay hit i 1 p (i + 1) h in
      entry_of-at (i + 1) p (omega (arith, s.1)) ∙ ap entry (s.0 ∙ get_d_any (hits hit i) (i + 1) i p h) ∙ sym (entry_of-at i p h)

  pub entries-zero : (size : ℕ) → entries hit entry absent 0 size ≡ replicate size absent
  unfolding entries
  entries-zero size =
      sym (is-tabulate _ absent size (replicate size absent) (length-replicate size absent)
      (λ y h. get_or-replicate size y absent absent h ∙ sym (entry_of-none 0 y (rw count-zero (omega arith)))))

  pub length-entries : (n size : ℕ) → length (entries hit entry absent n size) ≡ size
  unfolding entries
  length-entries n size = length-tabulate _ size

  pub entries_at : (n size p : ℕ) → p < size → get_or (entries hit entry absent n size) p absent ≡ entry_of hit entry absent n p
  unfolding entries
  entries_at n size p h = get_d_tabulate _ absent size p h

  pub entries_skip : (a k size : ℕ) → ((j : ℕ) → a ≤ j → j < a + k → hit j ≡ false) → entries hit entry absent (a + k) size ≡ entries hit entry absent a size
  unfolding entries entry_of count nth
  entries_skip a k size h = sym (is-tabulate _ absent size _ (length-tabulate _ size) (λ y l. get_d_tabulate _ absent size y l ∙ same y))
    where
      same : (y : ℕ) → entry_of hit entry absent a y ≡ entry_of hit entry absent (a + k) y
      same y = go (dec_lt y (length (hits hit a)))
        where
          go : Dec (y < length (hits hit a)) → entry_of hit entry absent a y ≡ entry_of hit entry absent (a + k) y
          go (yes l) = rw (hits_skip hit a k h, lt-ltb _ _ l) (ap entry (get_d_any (hits hit a) a (a + k) y l))
          go (no l) = rw (hits_skip hit a k h, le-ltb y (length (hits hit a)) (omega arith))

  pub entries_more : (i size : ℕ) → hit i ≡ true → count hit i < size → entries hit entry absent (i + 1) size ≡ set (entries hit entry absent i size) (count hit i) (entry i)
  unfolding entries
  entries_more i size q h =
      sym (is-tabulate _ absent size _ (length-set (entries hit entry absent i size) (count hit i) (entry i) ∙ length-entries i size) at)
    where
      at : (y : ℕ) → y < size → get_or (set (entries hit entry absent i size) (count hit i) (entry i)) y absent ≡ entry_of hit entry absent (i + 1) y
      at y l = go (ℕ_discrete y (count hit i)) (dec_lt y (count hit i))
        where
          go : Dec (y ≡ count hit i) → Dec (y < count hit i) → get_or (set (entries hit entry absent i size) (count hit i) (entry i)) y absent ≡ entry_of hit entry absent (i + 1) y
          go (yes e) d = rw e (get_or-set_same (entries hit entry absent i size) _ _ _ (rw length-entries h) ∙ sym (entry_of_hit (i + 1) i (omega arith) q))
          go (no e) (yes b) = get_or-set_other (entries hit entry absent i size) (count hit i) y (entry i) absent e ∙ entries_at i size y l ∙ sym (entry_of_old i y b)
          go (no e) (no b) = get_or-set_other (entries hit entry absent i size) (count hit i) y (entry i) absent e ∙ entries_at i size y l ∙ entry_of-none i y (omega arith) ∙ sym (entry_of-none (i + 1) y (rw (count_yes hit i q) (omega arith)))

  pub entries-full : (i size : ℕ) → hit i ≡ true → size ≤ count hit i → entries hit entry absent (i + 1) size ≡ entries hit entry absent i size
  unfolding entries
  entries-full i size q h =
      sym (is-tabulate _ absent size _ (length-entries i size) (λ y l. entries_at i size y l ∙ sym (entry_of_old i y (omega arith))))

-- `l'` is `l` with `x` stored at `c`, where there is room for it
abbrev pub Stored : {A : Type 0} → ℕ → ℕ → List A → A → List A → Type 0
Stored size c l x l' = ((c < size) × (l' ≡ set l c x)) ⊎ ((size ≤ c) × (l' ≡ l))

-- scanning: a count and a list that stand for the hits below i, carried to a later number
module _ {A : Type 0} (hit : ℕ → Bool) (entry : ℕ → A) (absent : A) (size : ℕ) where
  pub listed_start : (l : List A) → l ≡ replicate size absent → Listed hit entry absent size 0 0 l
  listed_start l e = record { counted = sym (count-zero hit); listed = e ∙ sym (entries-zero hit entry absent size) }

  module _ (i c : ℕ) (l : List A) (s : Listed hit entry absent size i c l) where
    pub listed_skip : (e : ℕ) → i ≤ e → ((j : ℕ) → i ≤ j → j < e → hit j ≡ false) → Listed hit entry absent size e c l
    listed_skip e h miss =
        let q : e ≡ i + (e - i) = omega arith in
        subst⁻¹ (λ (m : ℕ). Listed hit entry absent size m c l) q
        (record {
          counted = s.counted ∙ sym (count_skip hit i (e - i) (λ j lo hi. miss j lo (omega arith)));
          listed = s.listed ∙ sym (entries_skip hit entry absent i (e - i) size (λ j lo hi. miss j lo (omega arith)));
        })

    pub listed_more : hit i ≡ true → c < size → Listed hit entry absent size (i + 1) (c + 1) (set l c (entry i))
    listed_more q h = record {
      counted = rw (count_yes hit i q, s.counted) refl;
      listed = rw (s.listed, s.counted) (sym (entries_more hit entry absent i size q (rw s.counted at h)));
    }

    pub listed-full : hit i ≡ true → size ≤ c → Listed hit entry absent size (i + 1) (c + 1) l
    listed-full q h = record {
      counted = rw (count_yes hit i q, s.counted) refl;
      listed = s.listed ∙ sym (entries-full hit entry absent i size q (rw s.counted at h));
    }

    -- a number that is not hit, and one that is, whose entry is x
    pub listed_pass : hit i ≡ false → Listed hit entry absent size (i + 1) c l
    listed_pass q = listed_skip (i + 1) (omega arith) (λ j lo hi. let e : j ≡ i = omega arith in rw e q)

    pub listed_next : {x : A} {l' : List A} → hit i ≡ true → x ≡ entry i → Stored size c l x l' → Listed hit entry absent size (i + 1) (c + 1) l'
    listed_next q e (inl (h, d)) = rw (d, e) (listed_more q h)
    listed_next q e (inr (h, d)) = rw d (listed-full q h)

-- Members of lists of numbers. Two lists that have no number in common, as a test that computes
unfoldable pub disjoint : List ℕ → List ℕ → Bool
disjoint [] ys = true
disjoint (x ∷ xs) ys = not (member x ys) && disjoint xs ys

pub not_in : (xs ys : List ℕ) (x : ℕ) → disjoint xs ys ≡ true → member x xs ≡ true → member x ys ≡ false
unfolding disjoint member
not_in [] ys x d h = absurd (false≢true h)
not_in (y ∷ xs) ys x d h = go (member y ys) refl d (eqb x y) refl h (λ d h. not_in xs ys x d h)
  where
    go : (b : Bool) → member y ys ≡ b → (not b && disjoint xs ys) ≡ true → (c : Bool) → eqb x y ≡ c → (c || member x xs) ≡ true → (disjoint xs ys ≡ true → member x xs ≡ true → member x ys ≡ false) → member x ys ≡ false
    go true q d c e h rest = absurd (false≢true d)
    go false q d true e h rest = rw (eqb-true x y e) q
    go false q d false e h rest = rest d h

-- a member of the first, or of the second, of two lists put together
either : (a : Bool) {b c : Bool} → (b ≡ true → c ≡ true) → (a || b) ≡ true → (a || c) ≡ true
either true f h = refl
either false f h = f h

second : (a : Bool) {b : Bool} → b ≡ true → (a || b) ≡ true
second true h = refl
second false h = h

pub in_first : (xs ys : List ℕ) (x : ℕ) → member x xs ≡ true → member x (xs ++ ys) ≡ true
unfolding member
in_first [] ys x h = absurd (false≢true h)
in_first (y ∷ xs) ys x h = either (eqb x y) (λ h. in_first xs ys x h) h

pub in_second : (xs ys : List ℕ) (x : ℕ) → member x ys ≡ true → member x (xs ++ ys) ≡ true
unfolding member
in_second [] ys x h = h
in_second (y ∷ xs) ys x h = second (eqb x y) (in_second xs ys x h)

-- one of two
pub one_of_two : (a b x : ℕ) → member x (a ∷ b ∷ []) ≡ true → (x ≡ a) ⊎ (x ≡ b)
unfolding member
one_of_two a b x h = go (eqb x a) refl (eqb x b) refl h
  where
    go : (c : Bool) → eqb x a ≡ c → (d : Bool) → eqb x b ≡ d → (c || (d || false)) ≡ true → (x ≡ a) ⊎ (x ≡ b)
    go true e d f h = inl (eqb-true x a e)
    go false e true f h = inr (eqb-true x b f)
    go false e false f h = absurd (false≢true h)
