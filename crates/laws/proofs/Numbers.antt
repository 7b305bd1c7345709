-- Numbers of two, four and eight bytes from their halves; a number is 0 exactly if each of its bytes is.
use Prim.Native.Nat.{ℕ, zero, suc, ◌+◌, ◌*◌, ◌<◌}
use mathlib.Core.Path.{◌≡◌, refl}
use mathlib.Core.List.{List, [], ◌∷◌}
use Rattle.std.specs.Int.{w16, w32, w64, from_le_bytes}
use native.Mathlib.Nat.{add_assoc, add-zero}
use native.Mathlib.Decide.{ℕ_discrete}
use native.Mathlib.Omega.{arith}
use lib.ListN.{get_or}
use Rattle.laws.specs.Numbers.{le}

pub le_2 : (s : List ℕ) (o : ℕ) → le s o 2 ≡ get_or s o 0 + 256 * get_or s (o + 1) 0
unfolding le
le_2 s o = omega arith

pub le_4 : (s : List ℕ) (o : ℕ) → le s o 4 ≡ le s o 2 + 65536 * le s (o + 2) 2
unfolding le
le_4 s o = simp add_assoc (omega arith)

pub le_8 : (s : List ℕ) (o : ℕ) → le s o 8 ≡ le s o 4 + 4294967296 * le s (o + 4) 4
unfolding le
le_8 s o = simp add_assoc (omega arith)

-- what the library reads of bytes, lowest first
pub le-bytes_2 : (s : List ℕ) (o k : ℕ)
    → from_le_bytes w16 (get_or s (o + k) 0 ∷ get_or s (o + (k + 1)) 0 ∷ []) ≡ le s (o + k) 2
unfolding le
le-bytes_2 s o k = simp add_assoc (omega arith)

pub le-bytes_4 : (s : List ℕ) (o k : ℕ)
    → from_le_bytes w32 (get_or s (o + k) 0 ∷ get_or s (o + (k + 1)) 0 ∷ get_or s (o + (k + 2)) 0 ∷ get_or s (o + (k + 3)) 0 ∷ []) ≡ le s (o + k) 4
unfolding le
le-bytes_4 s o k = simp add_assoc (omega arith)

pub le-bytes_8 : (s : List ℕ) (o k : ℕ)
    → from_le_bytes w64 (get_or s (o + k) 0 ∷ get_or s (o + (k + 1)) 0 ∷ get_or s (o + (k + 2)) 0 ∷ get_or s (o + (k + 3)) 0 ∷ get_or s (o + (k + 4)) 0 ∷ get_or s (o + (k + 5)) 0 ∷ get_or s (o + (k + 6)) 0 ∷ get_or s (o + (k + 7)) 0 ∷ []) ≡ le s (o + k) 8
unfolding le
le-bytes_8 s o k = simp add_assoc (omega arith)

pub byte-shown : (s : List ℕ) (o n : ℕ) → (le s o n ≡ 0 → ⊥) → (k : ℕ) × (k < n) × (get_or s (o + k) 0 ≡ 0 → ⊥)
unfolding le
byte-shown s o zero h = absurd (h refl)
byte-shown s o (suc n) h = go (ℕ_discrete (get_or s o 0) 0) (λ e. byte-shown s (o + 1) n (λ z. h (omega (arith, e, z))))
  where
    go : Dec (get_or s o 0 ≡ 0) → (get_or s o 0 ≡ 0 → (k : ℕ) × (k < n) × (get_or s (o + 1 + k) 0 ≡ 0 → ⊥)) → (k : ℕ) × (k < suc n) × (get_or s (o + k) 0 ≡ 0 → ⊥)
    go (no z) rest = (0, omega arith, rw add-zero z)
    go (yes e) rest = let r = rest e in let z : o + suc r.0 ≡ o + 1 + r.0 = omega arith in (suc r.0, omega (arith, r.1), rw z r.2)

pub byte-found : (s : List ℕ) (o n k : ℕ) → k < n → (get_or s (o + k) 0 ≡ 0 → ⊥) → le s o n ≡ 0 → ⊥
unfolding le
byte-found s o zero k h z e = omega arith
byte-found s o (suc n) zero h z e = z (rw add-zero (omega arith))
byte-found s o (suc n) (suc k) h z e = let q : o + suc k ≡ o + 1 + k = omega arith in byte-found s (o + 1) n k (omega arith) (rw q at z) (omega arith)
