-- What a step may change of records and store, and what follows for limits, keys, guarded numbers, records and entries.
use Prim.Native.Nat.{ℕ, zero, suc, ◌+◌, ◌<◌, ◌≤◌}
use mathlib.Core.Path.{◌≡◌, refl}
use mathlib.Core.List.{List, [], ◌∷◌, ◌++◌}
use mathlib.Core.Bool.{Bool, true, false, cond, ◌&&◌}
use mathlib.Core.Option.{none, some}
use native.Mathlib.Omega.{arith}
use lib.ListN.{length, set, length-set, length-append, get_elem? as nth}
use lib.Dec.{eqb}
use borrow.Author.Tests.{eqb-true}
use Rattle.table.specs.Format.{op_write_ref, op_pack, op_unpack, op_move_to, op_move_from}
use Rattle.semantics.specs.Step.{pushed_on}
use Rattle.semantics.specs.Machine.{to_field, Value, num, obj, refer, Cell, gone, here, Entry, entry, lives, live_count, find_key, drop_key}

-- different constructors differ
pub clash : ◌≡◌ {A = ℕ} 0 1 → ⊥
clash e = omega arith

-- what an instruction of module m with opcode op and operand b, over the operands ops, did to records and store; `decl` tells who declares a type
pub data Change (decl : ℕ → ℕ) (m op b : ℕ) (ops : List Value) (h : List Cell) (st : List Entry) (h' : List Cell) (st' : List Entry) : Type 0 where
  same : (op ≡ op_write_ref → (a t j x : ℕ) (under : List Value) → ops ≡ refer true (to_field a t j) ∷ num x ∷ under → ⊥) → h' ≡ h → st' ≡ st → Change decl m op b ops h st h' st'
  wrote : (a t j x : ℕ) (vs under : List Value) → op ≡ op_write_ref → ops ≡ refer true (to_field a t j) ∷ num x ∷ under → nth h a ≡ some (here t vs) → h' ≡ set h a (here t (set vs j (num x))) → st' ≡ st
      → Change decl m op b ops h st h' st'
  packed : (vs : List Value) → live_count h < 128 → op ≡ op_pack → decl b ≡ m → h' ≡ h ++ (here b vs ∷ []) → st' ≡ st → (under : List Value) × (ops ≡ pushed_on vs under) → Change decl m op b ops h st h' st'
  unpacked : (a : ℕ) (vs : List Value) → op ≡ op_unpack → decl b ≡ m → nth h a ≡ some (here b vs) → h' ≡ set h a (gone b) → st' ≡ st → (under : List Value) × (ops ≡ obj a b ∷ under) → Change decl m op b ops h st h' st'
  published : (a r : ℕ) → find_key st b a ≡ none → length st < 64 → op ≡ op_move_to → decl b ≡ m → h' ≡ h → st' ≡ entry b a r ∷ st → (under : List Value) × (ops ≡ num a ∷ obj r b ∷ under) → Change decl m op b ops h st h' st'
  withdrew : (a : ℕ) → op ≡ op_move_from → decl b ≡ m → h' ≡ h → st' ≡ drop_key st b a → (under : List Value) × (ops ≡ num a ∷ under) → Change decl m op b ops h st h' st'

abbrev pub key_count : ℕ → ℕ → List Entry → ℕ
key_count t a [] = 0
key_count t a (entry t' a' id ∷ st) = cond (eqb t' t && eqb a' a) 1 0 + key_count t a st

pub record Limited (h : List Cell) (st : List Entry) : Type 0 where
  pub few : live_count h ≤ 128
  pub entries : length st ≤ 64
  pub keys : (t a : ℕ) → key_count t a st ≤ 1

pub live_put : (h : List Cell) (i : ℕ) (c x : Cell) → nth h i ≡ some x → live_count (set h i c) + lives x ≡ live_count h + lives c
live_put [] i c x e = cc
live_put (y ∷ h) zero c x e = let z : y ≡ x = cc in rw z (omega arith)
live_put (y ∷ h) (suc i) c x e = omega (arith, live_put h i c x e)

pub live_snoc : (h : List Cell) (c : Cell) → live_count (h ++ (c ∷ [])) ≡ live_count h + lives c
live_snoc [] c = omega arith
live_snoc (y ∷ h) c = omega (arith, live_snoc h c)

free_go : (b : Bool) (t a id : ℕ) (st : List Entry) → cond b (some id) (find_key st t a) ≡ none → (find_key st t a ≡ none → key_count t a st ≡ 0) → cond b 1 0 + key_count t a st ≡ 0
free_go true t a id st e ih = absurd (clash (cc))
free_go false t a id st e ih = omega (arith, ih e)

pub free : (t a : ℕ) (st : List Entry) → find_key st t a ≡ none → key_count t a st ≡ 0
free t a [] e = refl
free t a (entry t' a' id ∷ st) e = free_go (eqb t' t && eqb a' a) t a id st e (free t a st)

enter_go : (b c : Bool) (t a t' a' : ℕ) (st : List Entry) → eqb t' t ≡ b → eqb a' a ≡ c → find_key st t' a' ≡ none → key_count t a st ≤ 1 → cond (b && c) 1 0 + key_count t a st ≤ 1
enter_go true true t a t' a' st e d f k = let y = eqb-true t' t e in let z = eqb-true a' a d in omega (arith, rw (y, z) at (free t' a' st f))
enter_go true false t a t' a' st e d f k = omega arith
enter_go false true t a t' a' st e d f k = omega arith
enter_go false false t a t' a' st e d f k = omega arith

drop-go : (b : Bool) (t a t' a' t'' a'' id : ℕ) (st : List Entry) → key_count t a (drop_key st t' a') ≤ key_count t a st → key_count t a (cond b st (entry t'' a'' id ∷ drop_key st t' a')) ≤ key_count t a (entry t'' a'' id ∷ st)
drop-go true t a t' a' t'' a'' id st k = omega arith
drop-go false t a t' a' t'' a'' id st k = omega arith

drop-keys : (t a : ℕ) (st : List Entry) (t' a' : ℕ) → key_count t a (drop_key st t' a') ≤ key_count t a st
drop-keys t a [] t' a' = omega arith
drop-keys t a (entry t'' a'' id ∷ st) t' a' = drop-go (eqb t'' t' && eqb a'' a') t a t' a' t'' a'' id st (drop-keys t a st t' a')

drop_len_go : (b : Bool) (t a t'' a'' id : ℕ) (st : List Entry) → length (drop_key st t a) ≤ length st → length (cond b st (entry t'' a'' id ∷ drop_key st t a)) ≤ suc (length st)
drop_len_go true t a t'' a'' id st k = omega arith
drop_len_go false t a t'' a'' id st k = omega arith

drop_len : (st : List Entry) (t a : ℕ) → length (drop_key st t a) ≤ length st
drop_len [] t a = omega arith
drop_len (entry t'' a'' id ∷ st) t a = drop_len_go (eqb t'' t && eqb a'' a) t a t'' a'' id st (drop_len st t a)

module _ {decl : ℕ → ℕ} {m op b : ℕ} {ops : List Value} {h h' : List Cell} {st st' : List Entry} where
  pub limits : Change decl m op b ops h st h' st' → Limited h st → Limited h' st'
  limits (same c e d) k = rw (e, d) k
  limits (wrote a t j x vs under q r l e d) k = rw (e, d) (record { few = omega (arith, k.few, live_put h a (here t (set vs j (num x))) (here t vs) l); entries = k.entries; keys = k.keys })
  limits (packed vs lt q m e d w) k = rw (e, d) (record { few = omega (arith, live_snoc h (here b vs)); entries = k.entries; keys = k.keys })
  limits (unpacked a vs q m l e d w) k = rw (e, d) (record { few = omega (arith, k.few, live_put h a (gone b) (here b vs) l); entries = k.entries; keys = k.keys })
  limits (published a r fk lt q m e d w) k = rw (e, d) (record { few = k.few; entries = omega arith; keys = λ t' a'. enter_go (eqb b t') (eqb a a') t' a' b a st refl refl fk (k.keys t' a') })
  limits (withdrew a q m e d w) k = rw (e, d) (record { few = k.few; entries = omega (arith, k.entries, drop_len st b a); keys = λ t' a'. omega (arith, k.keys t' a', drop-keys t' a' st b a) })

  -- identities are never used again
  pub grows : Change decl m op b ops h st h' st' → length h ≤ length h'
  grows (same c e d) = rw e (omega arith)
  grows (wrote a t j x vs under q r l e d) = rw e (simp length-set (omega arith))
  grows (packed vs lt q m e d w) = rw e (simp length-append (omega arith))
  grows (unpacked a vs q m l e d w) = rw e (simp length-set (omega arith))
  grows (published a r fk lt q m e d w) = rw e (omega arith)
  grows (withdrew a q m e d w) = rw e (omega arith)
