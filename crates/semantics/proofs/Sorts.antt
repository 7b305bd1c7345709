-- Kinds as numbers: which are records, which references, and which of these can be written through.
use Prim.Native.Nat.{ℕ, ◌%◌, ◌≤◌}
use mathlib.Core.Path.{◌≡◌, refl}
use mathlib.Core.Bool.{Bool, true, false, cond, ◌||◌, and-false}
use native.Mathlib.Omega.{arith}
use lib.Dec.{eqb, leb}
use borrow.Author.Tests.{eq-eqb, ne_eqb, le-leb, lt-leb, leb-true, leb-false, eqb-true}
use Rattle.laws.proofs.Tests.{and_both}
use Rattle.declarations.specs.Program.{record_of, record_ref, number_ref, reference_to, frozen, is_record, is_reference, is_writable}
use Rattle.effects.specs.Effects.{reads, alike}
use Rattle.semantics.specs.Machine.{as_kind}

-- a record is a record, and no reference
pub record_is : (y : ℕ) → is_record (record_of y) ≡ true
unfolding is_record
record_is y = eq-eqb (record_of y % 8) 1 (omega arith)

pub record_plain : (y : ℕ) → is_reference (record_of y) ≡ false
unfolding is_reference
record_plain y = lt-leb 2 (record_of y % 8) (omega arith)

-- a kind of a reference that can be written through
abbrev pub Writable : ℕ → Type 0
Writable k = (2 ≤ k % 8) × (k % 8 ≤ 3)

pub number-writable : Writable number_ref
number-writable = (omega arith, omega arith)

pub record_writable : (y : ℕ) → Writable (record_ref y)
record_writable y = (omega arith, omega arith)

-- a reference to what is no reference
pub to_writable : (c : ℕ) → is_reference c ≡ false → Writable (reference_to c)
unfolding is_reference
to_writable c e = let h = leb-false 2 (c % 8) e in (omega (arith, h), omega (arith, h))

pub is-writable : (k : ℕ) → is_writable k ≡ true → Writable k
unfolding is_writable is_reference
is-writable k e = let b = and_both (leb 2 (k % 8)) _ e in (leb-true 2 (k % 8) b.0, leb-true (k % 8) 3 b.1)

-- read-only or not, it is a reference and no record
pub as-reference : (w : Bool) (k : ℕ) → Writable k → is_reference (as_kind w k) ≡ true
unfolding is_reference
as-reference true k h = le-leb 2 (k % 8) h.0
as-reference false k h = le-leb 2 (frozen k % 8) (omega (arith, h.0, h.1))

pub as_loose : (w : Bool) (k : ℕ) → Writable k → is_record (as_kind w k) ≡ false
unfolding is_record
as_loose true k h = ne_eqb (k % 8) 1 (λ (e : k % 8 ≡ 1). omega (arith, h.0, e))
as_loose false k h = ne_eqb (frozen k % 8) 1 (λ (e : frozen k % 8 ≡ 1). omega (arith, h.0, h.1, e))

pub as_large : (w : Bool) (k : ℕ) → k ≤ as_kind w k
as_large true k = omega arith
as_large false k = omega arith

-- it can be written through exactly if it is not read-only
pub as_is : (w : Bool) (k : ℕ) → Writable k → is_writable (as_kind w k) ≡ w
unfolding is_writable is_reference
as_is true k h = rw (le-leb 2 (k % 8) h.0, le-leb (k % 8) 3 h.1)
as_is false k h = rw (lt-leb (frozen k % 8) 3 (omega (arith, h.0, h.1))) (and-false (leb 2 (frozen k % 8)))

-- what is read as a reference of kind k is one, read-only or not
pub reads_as : (k top : ℕ) → reads k top ≡ true → (w : Bool) × (top ≡ as_kind w k)
unfolding reads
reads_as k top e = go (eqb top k) refl e
  where
    go : (c : Bool) → eqb top k ≡ c → (c || eqb top (frozen k)) ≡ true → (w : Bool) × (top ≡ as_kind w k)
    go true p q = (true, eqb-true top k p)
    go false p q = (false, eqb-true top (frozen k) q)

-- what is borrowed is read-only exactly if what it is borrowed through is
pub alike_as : (w : Bool) (top a k : ℕ) → Writable a → top ≡ as_kind w a → alike top k ≡ as_kind w k
unfolding alike
alike_as w top a k h e = rw (e, as_is w a h) (go w)
  where
    go : (w : Bool) → cond w k (frozen k) ≡ as_kind w k
    go true = refl
    go false = refl

-- the same kind: both read-only or neither, and to the same
pub as_same : (w u : Bool) (a b : ℕ) → Writable a → Writable b → as_kind w a ≡ as_kind u b → (w ≡ u) × (a ≡ b)
as_same true true a b h k e = (refl, e)
as_same true false a b h k e = absurd (omega (arith, h.0, h.1, k.0, k.1, e))
as_same false true a b h k e = absurd (omega (arith, h.0, h.1, k.0, k.1, e))
as_same false false a b h k e = (refl, omega (arith, e))
