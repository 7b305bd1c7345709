-- Laws of tests: that hold, or fail, together, and that say something.
use mathlib.Core.Path.{◌≡◌, refl, sym}
use mathlib.Core.Bool.{Bool, true, false, ◌&&◌, ◌||◌, true≢false, false≢true}
use mathlib.Core.Logic.{◌↔◌}

pub and_both : (a b : Bool) → (a && b) ≡ true → (a ≡ true) × (b ≡ true)
and_both true b e = (refl, e)
and_both false b e = absurd (false≢true e)

pub both_and : {a b : Bool} → a ≡ true → b ≡ true → (a && b) ≡ true
both_and p q = rw p q

pub neither : (a b : Bool) → (a || b) ≡ false → (a ≡ false) × (b ≡ false)
neither true b e = absurd (true≢false e)
neither false b e = (refl, e)

-- tests that hold together are the same
pub same_test : (a b : Bool) → (a ≡ true → b ≡ true) → (b ≡ true → a ≡ true) → a ≡ b
same_test true b p q = sym (p refl)
same_test false true p q = q refl
same_test false false p q = refl

-- a test that does not hold fails
pub test_fails : (b : Bool) → (b ≡ true → ⊥) → b ≡ false
test_fails true n = absurd (n refl)
test_fails false n = refl

-- a test that says P fails exactly if P does, and one that fails exactly if P holds says that it does not
pub test_not : {P : Type 0} (b : Bool) → (b ≡ true) ↔ P → (b ≡ false) ↔ (¬ P)
test_not true w = (λ e. absurd (true≢false e), λ n. absurd (n (w.0 refl)))
test_not false w = (λ e p. false≢true (w.1 p), λ n. refl)

pub not_test : {P : Type 0} (b : Bool) → (b ≡ false) ↔ P → (b ≡ true) ↔ (¬ P)
not_test true w = (λ e p. true≢false (w.1 p), λ n. refl)
not_test false w = (λ e. absurd (false≢true e), λ n. absurd (n (w.0 refl)))
