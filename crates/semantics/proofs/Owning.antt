-- What holds a record: no record holds itself, and between calls every record is reached from the store.
use Prim.Native.Nat.{ℕ, zero, suc, ◌+◌, ◌<◌, ◌≤◌}
use mathlib.Core.Path.{◌≡◌, refl, ap, sym, ◌∙◌}
use mathlib.Core.List.Memᴰ
use mathlib.Core.List.{List, [], ◌∷◌, map}
use mathlib.Core.Option.{Option, some}
use mathlib.Core.Logic.{⊎_elim}
use native.Mathlib.Omega.{arith}
use native.Mathlib.Decide.{dec_lt}
use lib.ListN.{get_elem? as nth}
use Rattle.table.specs.Index.{index_of}
use Rattle.declarations.specs.Program.{record_of, type_in, field_kinds}
use Rattle.reach.specs.Reach.{Mem}
use Rattle.acceptance.specs.Judged.{Judged}
use Rattle.semantics.specs.Machine.{Value, value_kind, num, obj, refer, Cell, gone, here, Entry, entry, Frame}
use Rattle.semantics.specs.Ownership.{same, in_value, in_values, in_records, in_store, lives_at}
use Rattle.semantics.specs.Words.{Exists, IsEntry}
use Rattle.semantics.specs.Claim.{All, none_left, also, Plain, Owned, Nested, Reached, published-there, nested-there}
use Rattle.semantics.proofs.Counts.{same-one, alive_gone}
use Rattle.semantics.proofs.Changes.{clash}
use Rattle.semantics.proofs.Typing.{Fields, dnil, dnum, dobj, CellOk, EntryOk}
use Rattle.semantics.proofs.Frames.{type_of, cell_at}

-- a record in a field, by its place
field-place : {T : List ℕ} {vs : List Value} {ks : List ℕ} (id y : ℕ) → Fields T vs ks → Mem (obj id y) vs → (j : ℕ) × (nth ks j ≡ some (record_of y)) × (nth T id ≡ some y)
field-place id y dnil m = absurd (Memᴰ.not-nil m)
field-place id y (dnum w q f) m = ⊎_elim (λ e. absurd (clash (cc))) (λ r. let z = field-place id y f r in (suc z.0, z.1, z.2)) (Memᴰ.cases_cons m)
field-place id y (dobj {id = a} {y = z} {k} w q f) m =
    ⊎_elim (λ e. let x : id ≡ a = cc in let u : y ≡ z = cc in (0, ap {B = Option ℕ} some (q ∙ ap record_of (sym u)), rw (x, u) w)) (λ r. let z = field-place id y f r in (suc z.0, z.1, z.2)) (Memᴰ.cases_cons m)

-- what a list of values holds is counted
pub held_once : (id y : ℕ) (vs : List Value) → Mem (obj id y) vs → 1 ≤ in_values id vs
held_once id y [] m = absurd (Memᴰ.not-nil m)
held_once id y (v ∷ vs) m = ⊎_elim (λ e. omega (arith, same-one id, ap (in_value id) (sym e))) (λ r. omega (arith, held_once id y vs r)) (Memᴰ.cases_cons m)

pub in_cells : (r id y : ℕ) (h : List Cell) (vs : List Value) → nth h id ≡ some (here y vs) → in_values r vs ≤ in_records r h
in_cells r id y [] vs e = absurd (clash (cc))
in_cells r zero y (c ∷ h) vs e = let z : c ≡ here y vs = cc in rw z (omega arith)
in_cells r (suc id) y (c ∷ h) vs e = omega (arith, in_cells r id y h vs e)

-- a cell by its place
pub cell_here : (t : List ℕ) (T : List ℕ) (h : List Cell) (id y : ℕ) (vs : List Value) → All (CellOk t (index_of t) T) h → nth h id ≡ some (here y vs) → (y < (index_of t).types) × Fields T vs (field_kinds t (type_in (index_of t) y))
cell_here t T [] id y vs a e = absurd (clash (cc))
cell_here t T (gone z ∷ h) zero y vs (also k a) e = absurd (clash (cc))
cell_here t T (here z ws ∷ h) zero y vs (also k a) e = let q : z ≡ y = cc in let r : ws ≡ vs = cc in rw (q, r) at k
cell_here t T (c ∷ h) (suc id) y vs (also k a) e = cell_here t T h id y vs a e

-- what is counted is there
same-is : (r id : ℕ) → 1 ≤ same r id → r ≡ id
same-is zero zero l = refl
same-is zero (suc id) l = absurd (omega arith)
same-is (suc r) zero l = absurd (omega arith)
same-is (suc r) (suc id) l = ap suc (same-is r id l)

value_there : (r : ℕ) (vs : List Value) → 1 ≤ in_values r vs → (y : ℕ) × Mem (obj r y) vs
value_there r [] l = absurd (omega arith)
value_there r (num n ∷ vs) l = let z = value_there r vs (omega arith) in (z.0, Memᴰ.tail z.1)
value_there r (obj id y ∷ vs) l = go (dec_lt 0 (same r id)) (value_there r vs)
  where
    go : Dec (0 < same r id) → (1 ≤ in_values r vs → (y' : ℕ) × Mem (obj r y') vs) → (y' : ℕ) × Mem (obj r y') (obj id y ∷ vs)
    go (yes q) ih = (y, Memᴰ.head (ap (λ (x : ℕ). obj x y) (same-is r id (omega arith))))
    go (no q) ih = let z = ih (omega arith) in (z.0, Memᴰ.tail z.1)
value_there r (refer w k ∷ vs) l = let z = value_there r vs (omega arith) in (z.0, Memᴰ.tail z.1)

holder_there : (r : ℕ) (h : List Cell) → 1 ≤ in_records r h → (id y : ℕ) × (vs : List Value) × (nth h id ≡ some (here y vs)) × (1 ≤ in_values r vs)
holder_there r [] l = absurd (omega arith)
holder_there r (gone y ∷ h) l = let z = holder_there r h (omega arith) in (suc z.0, z.1, z.2, z.3, z.4)
holder_there r (here y vs ∷ h) l = go (dec_lt 0 (in_values r vs)) (holder_there r h)
  where
    go : Dec (0 < in_values r vs) → (1 ≤ in_records r h → (id y' : ℕ) × (ws : List Value) × (nth h id ≡ some (here y' ws)) × (1 ≤ in_values r ws)) → (id y' : ℕ) × (ws : List Value) × (nth (here y vs ∷ h) id ≡ some (here y' ws)) × (1 ≤ in_values r ws)
    go (yes q) ih = (0, y, vs, refl, omega arith)
    go (no q) ih = let z = ih (omega arith) in (suc z.0, z.1, z.2, z.3, z.4)

entry-there : (r : ℕ) (st : List Entry) → 1 ≤ in_store r st → (y a : ℕ) × IsEntry st y a r
entry-there r [] l = absurd (omega arith)
entry-there r (entry y a id ∷ st) l = go (dec_lt 0 (same r id)) (entry-there r st)
  where
    go : Dec (0 < same r id) → (1 ≤ in_store r st → (y' a' : ℕ) × IsEntry st y' a' r) → (y' a' : ℕ) × IsEntry (entry y a id ∷ st) y' a' r
    go (yes q) ih = (y, a, Memᴰ.head (ap (λ (x : ℕ). entry y a x) (same-is r id (omega arith))))
    go (no q) ih = let z = ih (omega arith) in (z.0, z.1, Memᴰ.tail z.2)

fields-kinds : {T : List ℕ} {vs : List Value} {ks : List ℕ} → Fields T vs ks → map value_kind vs ≡ ks
fields-kinds dnil = refl
fields-kinds (dnum w q f) = cc (q, fields-kinds f)
fields-kinds (dobj a q f) = cc (q, fields-kinds f)

fields-plain : {T : List ℕ} {vs : List Value} {ks : List ℕ} → Fields T vs ks → All Plain vs
fields-plain dnil = none_left
fields-plain (dnum w q f) = also w (fields-plain f)
fields-plain (dobj {id} {y} a q f) = also {x = obj id y} tt (fields-plain f)

-- an entry by its place
entry-typed : (T : List ℕ) (st : List Entry) (y a id : ℕ) → All (EntryOk T) st → IsEntry st y a id → nth T id ≡ some y
entry-typed T [] y a id q m = absurd (Memᴰ.not-nil m)
entry-typed T (entry z b c ∷ st) y a id (also k q) m =
    ⊎_elim (λ e. let u : y ≡ z = cc in let w : id ≡ c = cc in rw (u, w) k.0) (λ r. entry-typed T st y a id q r) (Memᴰ.cases_cons m)

-- and it is counted
pub entry-counted : (st : List Entry) (y a id : ℕ) → IsEntry st y a id → 1 ≤ in_store id st
entry-counted [] y a id m = absurd (Memᴰ.not-nil m)
entry-counted (entry z b c ∷ st) y a id m =
    ⊎_elim (λ e. let w : id ≡ c = cc in rw (← w) (omega (arith, same-one id))) (λ r. omega (arith, entry-counted st y a id r)) (Memᴰ.cases_cons m)

pub lives_once : (h : List Cell) (id y : ℕ) (vs : List Value) → nth h id ≡ some (here y vs) → lives_at h id ≡ 1
lives_once [] id y vs e = absurd (clash (cc))
lives_once (c ∷ h) zero y vs e = let z : c ≡ here y vs = cc in rw z refl
lives_once (c ∷ h) (suc id) y vs e = lives_once h id y vs e

module _ (t : List ℕ) (J : Judged t (index_of t)) (T : List ℕ) (h : List Cell) (types : map type_of h ≡ T) (records : All (CellOk t (index_of t) T) h) where
  -- a record in a field exists, and is of a lower type
  pub nested : (fs : List Frame) (st : List Entry) → Owned fs h st → Nested h
  nested fs st o id y vs e id' y' m =
      let c = cell_here t T h id y vs records e in
      let f = field-place id' y' c.1 m in (
        (J.declared y c.0).lower f.0 y' f.1,
        ⊎_elim
            (λ g. absurd (omega (arith, o id', held_once id' y' vs m, in_cells id' id y h vs e, alive_gone id' h y' g)))
            (λ g. (g.0, g.1))
            (cell_at t (index_of t) T h id' y' (rw types f.2) records),
      )

  -- no field holds a reference
  pub plain : (id y : ℕ) (vs : List Value) → nth h id ≡ some (here y vs) → All Plain vs
  plain id y vs e = fields-plain (cell_here t T h id y vs records e).1

  -- it has the kinds of its type's fields
  pub shaped : (id y : ℕ) (vs : List Value) → nth h id ≡ some (here y vs) → (y < (index_of t).types) × (map value_kind vs ≡ field_kinds t (type_in (index_of t) y))
  shaped id y vs e = let c = cell_here t T h id y vs records e in (c.0, fields-kinds c.1)

  -- the record of an entry exists, with the key's type
  pub entries-typed : (fs : List Frame) (st : List Entry) → All (EntryOk T) st → Owned fs h st → (y a id : ℕ) → IsEntry st y a id → Exists h id y
  entries-typed fs st q o y a id m =
      ⊎_elim
      (λ g. absurd (omega (arith, o id, entry-counted st y a id m, alive_gone id h y g)))
      (λ g. (g.0, g.1))
      (cell_at t (index_of t) T h id y (rw types (entry-typed T st y a id q m)) records)

  -- with no frame, every record that exists is reached from the store
  reach : (st : List Entry) → Owned [] h st → (k id y : ℕ) (vs : List Value) → nth h id ≡ some (here y vs) → (index_of t).types ≤ y + k → Reached h st id
  reach st o zero id y vs e l = absurd (omega (arith, (cell_here t T h id y vs records e).0))
  reach st o (suc k) id y vs e l = go (dec_lt 0 (in_store id st)) (reach st o k)
    where
      go : Dec (0 < in_store id st) → ((id' y' : ℕ) (ws : List Value) → nth h id' ≡ some (here y' ws) → (index_of t).types ≤ y' + k → Reached h st id') → Reached h st id
      go (yes q) ih = let z = entry-there id st (omega arith) in published-there z.0 z.1 z.2
      go (no q) ih =
          let z = holder_there id h (omega (arith, o id, lives_once h id y vs e)) in
          let v = value_there id z.2 z.4 in
          let n = nested [] st o z.0 z.1 z.2 z.3 id v.0 v.1 in
          let same-type : v.0 ≡ y = cc (n.1.1, e) in
          nested-there z.1 z.2 id v.0 (ih z.0 z.1 z.2 z.3 (omega (arith, n.0, same-type))) z.3 v.1

  pub reached : (st : List Entry) → Owned [] h st → (id y : ℕ) → Exists h id y → Reached h st id
  reached st o id y a = reach st o (index_of t).types id y a.0 a.1 (omega arith)
