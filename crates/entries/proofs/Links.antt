-- Laws of links: a row more.
use Prim.Native.Nat.{ℕ, ◌+◌, ◌-◌, ◌<◌, ◌≤◌}
use mathlib.Core.Path.{◌≡◌, refl, sym, ◌∙◌}
use mathlib.Core.Bool.{Bool, true, false, cond, false≢true}
use mathlib.Core.List.{List}
use native.Mathlib.Decide.{ℕ_discrete}
use native.Mathlib.Numerals.{add-one}
use native.Mathlib.Omega.{arith}
use borrow.Author.Tests.{ltb-true, leb-true, lt-ltb, le-leb, eq-eqb, ne_eqb}
use lib.Dec.{ltb, leb}
use lib.ListN.{length, get_or, set, length-set}
use lib.Seq.{get_or-set_same, get_or-set_other}
use Rattle.laws.proofs.Tests.{and_both}
use Rattle.entries.specs.declared.RowEntry.{RowEntry}
use Rattle.entries.specs.code.Entries.{no_entry, last_call, is_link, last_after, before_after, Linked}

is-link : (last : List ℕ) (c : ℕ) → 0 < c → c ≤ length last → is_link last c ≡ true
unfolding is_link
is-link last c h g = rw (lt-ltb 0 c h, le-leb c (length last) g) refl

link_is : (last : List ℕ) (c : ℕ) → is_link last c ≡ true → (0 < c) × (c ≤ length last)
unfolding is_link
link_is last c e = let a = and_both (ltb 0 c) (leb c (length last)) e in (ltb-true 0 c a.0, leb-true c (length last) a.1)

-- the first n rows are linked, and each link leads to a row before
pub record Linking (rows : List RowEntry) (last before : List ℕ) (n : ℕ) : Type 0 where
  pub linked : Linked rows last before n
  pub falls : (r : ℕ) → get_or before r 0 ≤ r
  pub below : (q : ℕ) → get_or last q 0 ≤ n

module _ (rows : List RowEntry) (last before : List ℕ) (n : ℕ) (so : Linking rows last before n) (room : n < length before) where
  abbrev c : ℕ
  c = (get_or rows n no_entry).calls

  -- the last site, a row on
  called : (q : ℕ) → c ≡ q + 1 → last_call rows q (n + 1) ≡ n + 1
  unfolding last_call
  called q e = rw (add-one n, eq-eqb ((get_or rows n no_entry).calls) (q + 1) e) refl

  not-called : (q : ℕ) → (c ≡ q + 1 → ⊥) → last_call rows q (n + 1) ≡ last_call rows q n
  unfolding last_call
  not-called q e = rw (add-one n, ne_eqb ((get_or rows n no_entry).calls) (q + 1) e) refl

  with_link : 0 < c → c ≤ length last → Linking rows (set last (c - 1) (n + 1)) (set before n (get_or last (c - 1) 0)) (n + 1)
  with_link pos le = record {
    linked = record { lasts = λ q h. at_last q (rw length-set at h) (ℕ_discrete q (c - 1)); befores = λ r q h g p. at_before r q h (rw length-set at g) p (ℕ_discrete r n) };
    falls = λ r. at-falls r (ℕ_discrete r n);
    below = λ q. at-below q (ℕ_discrete q (c - 1));
  }
    where
      at_last : (q : ℕ) → q < length last → Dec (q ≡ c - 1) → get_or (set last (c - 1) (n + 1)) q 0 ≡ last_call rows q (n + 1)
      at_last q h (yes e) = rw e (get_or-set_same last (c - 1) (n + 1) 0 (omega arith)) ∙ sym (called q (omega arith))
      at_last q h (no e) = get_or-set_other last (c - 1) q (n + 1) 0 e ∙ so.linked.lasts q h ∙ sym (not-called q (λ z. e (omega arith)))

      at_before : (r q : ℕ) → r < n + 1 → q < length last → (get_or rows r no_entry).calls ≡ q + 1 → Dec (r ≡ n) → get_or (set before n (get_or last (c - 1) 0)) r 0 ≡ last_call rows q r
      at_before r q h g p (yes e) =
          let z : c - 1 ≡ q = omega (arith, rw e at p) in
          rw e (get_or-set_same before n (get_or last (c - 1) 0) 0 room ∙ rw z (so.linked.lasts q g))
      at_before r q h g p (no e) = get_or-set_other before n r (get_or last (c - 1) 0) 0 e ∙ so.linked.befores r q (omega arith) g p

      at-falls : (r : ℕ) → Dec (r ≡ n) → get_or (set before n (get_or last (c - 1) 0)) r 0 ≤ r
      at-falls r (yes e) = rw (e, get_or-set_same before n (get_or last (c - 1) 0) 0 room) (so.below (c - 1))
      at-falls r (no e) = rw (get_or-set_other before n r (get_or last (c - 1) 0) 0 e) (so.falls r)

      at-below : (q : ℕ) → Dec (q ≡ c - 1) → get_or (set last (c - 1) (n + 1)) q 0 ≤ n + 1
      at-below q (yes e) = rw e (omega (arith, get_or-set_same last (c - 1) (n + 1) 0 (omega arith)))
      at-below q (no e) = rw (get_or-set_other last (c - 1) q (n + 1) 0 e) (omega (arith, so.below q))

  without : (0 < c → c ≤ length last → ⊥) → Linking rows last before (n + 1)
  without none = record {
    linked = record { lasts = λ q h. so.linked.lasts q h ∙ sym (not-called q (λ z. none (omega arith) (omega arith))); befores = λ r q h g p. at_before r q h g p (ℕ_discrete r n) };
    falls = so.falls;
    below = λ q. omega (arith, so.below q);
  }
    where
      at_before : (r q : ℕ) → r < n + 1 → q < length last → (get_or rows r no_entry).calls ≡ q + 1 → Dec (r ≡ n) → get_or before r 0 ≡ last_call rows q r
      at_before r q h g p (yes e) = let z : c ≡ q + 1 = rw e at p in absurd (none (omega arith) (omega arith))
      at_before r q h g p (no e) = so.linked.befores r q (omega arith) g p

  -- the arrays with row n linked are those of a row more
  pub linking_next : Linking rows (last_after last ((get_or rows n no_entry).calls) n) (before_after last before ((get_or rows n no_entry).calls) n) (n + 1)
  unfolding last_after before_after
  linking_next = go (is_link last c) refl
    where
      go : (b : Bool) → is_link last c ≡ b → Linking rows (cond b (set last (c - 1) (n + 1)) last) (cond b (set before n (get_or last (c - 1) 0)) before) (n + 1)
      go true e = let a = link_is last c e in with_link a.0 a.1
      go false e = without (λ p g. false≢true (sym e ∙ is-link last c p g))

-- no row is linked in empty arrays
pub linking_none : (rows : List RowEntry) (last before : List ℕ) → ((q : ℕ) → get_or last q 0 ≡ 0) → ((r : ℕ) → get_or before r 0 ≡ 0) → Linking rows last before 0
unfolding last_call
linking_none rows last before h g = record { linked = record { lasts = λ q l. h q; befores = λ r q l. absurd (omega arith) }; falls = λ r. omega (arith, g r); below = λ q. omega (arith, h q) }

-- the arrays after a row that calls nothing of them, and after one that does
pub no_link : (last before : List ℕ) (called r : ℕ) → (0 < called → called ≤ length last → ⊥) → (last ≡ last_after last called r) × (before ≡ before_after last before called r)
unfolding last_after before_after
no_link last before called r none = go (is_link last called) refl
  where
    go : (b : Bool) → is_link last called ≡ b → (last ≡ cond b (set last (called - 1) (r + 1)) last) × (before ≡ cond b (set before r (get_or last (called - 1) 0)) before)
    go true e = let a = link_is last called e in absurd (none a.0 a.1)
    go false e = (refl, refl)

pub yes_link : (last before : List ℕ) (called r : ℕ) → 0 < called → called ≤ length last
    → (set last (called - 1) (r + 1) ≡ last_after last called r) × (set before r (get_or last (called - 1) 0) ≡ before_after last before called r)
unfolding last_after before_after
yes_link last before called r p g = rw (is-link last called p g) (refl, refl)
