-- Values fit their kinds and marks: what holds of every value on the way.
use Prim.Native.Nat.{ℕ, zero, suc, ◌<◌}
use mathlib.Core.Path.{◌≡◌, refl, ap, sym, ◌∙◌}
use mathlib.Core.List.{List, [], ◌∷◌, ◌++◌, map}
use mathlib.Core.Bool.{Bool, true, false, true≢false}
use mathlib.Core.Option.{Option, none, some}
use native.Mathlib.Omega.{arith}
use lib.ListN.{length, get_or, drop, length-append, get_elem? as nth}
use borrow.Author.Tests.{eq-eqb}
use Rattle.laws.specs.Lists.{tabulate}
use Rattle.laws.proofs.Lists.{get_d_tabulate}
use Rattle.table.specs.declared.index.Index.{Index}
use Rattle.declarations.specs.Program.{number, record_of, number_ref, record_ref, reference_to, is_record, is_reference, procedure_in, type_in, field_kinds}
use Rattle.operands.specs.Flow.{onto}
use Rattle.flow.specs.Walks.{Slot, empty, full, pushed_on as marks_on}
use Rattle.acceptance.specs.Checked.{Unmarked, MarkedAs}
use Rattle.acceptance.specs.Judged.{local_kinds}
use Rattle.arithmetic.specs.Arithmetic.{past_numbers}
use Rattle.semantics.specs.Machine.{to_local, to_field, to_record, Value, num, obj, refer, as_kind, value_kind, Cell, gone, here, Entry, entry}
use Rattle.semantics.specs.Step.{pushed_on, took, taken, is_object}
use Rattle.semantics.proofs.Indexed.{declarer_in, guarded_in}
use Rattle.semantics.specs.Claim.{All, none_left, also}

-- 64 bits
abbrev pub Word : ℕ → Type 0
Word n = n < past_numbers

-- A value of kind k at a place that is marked or not, in a frame of module m. T has the type of each record ever made, W the procedure of each frame ever
-- made. A writable reference to a guarded field stands at a marked place, in a frame of the module that declares it.
pub data Fit (t : List ℕ) (ix : Index) (T W : List ℕ) (m : ℕ) : Value → ℕ → Bool → Type 0 where
  fnum : {n k : ℕ} {b : Bool} → Word n → k ≡ number → Fit t ix T W m (num n) k b
  fobj : {id y k : ℕ} {b : Bool} → nth T id ≡ some y → k ≡ record_of y → Fit t ix T W m (obj id y) k b
  floc : {w : Bool} {f l p c k : ℕ} {b : Bool} → nth W f ≡ some p → nth (local_kinds t (procedure_in ix p)) l ≡ some c → is_reference c ≡ false → k ≡ as_kind w (reference_to c) → Fit t ix T W m (refer w (to_local f l c)) k b
  ffld : {w : Bool} {id y j k : ℕ} {b : Bool} → nth T id ≡ some y → nth (field_kinds t (type_in ix y)) j ≡ some number → (w ≡ true → guarded_in t ix y j ≡ true → (b ≡ true) × (declarer_in ix y ≡ m)) → k ≡ as_kind w number_ref
      → Fit t ix T W m (refer w (to_field id y j)) k b
  frec : {w : Bool} {id y k : ℕ} {b : Bool} → nth T id ≡ some y → k ≡ as_kind w (record_ref y) → Fit t ix T W m (refer w (to_record id y)) k b

-- operands, with their kinds and marks
pub data Has (t : List ℕ) (ix : Index) (T W : List ℕ) (m : ℕ) : List Value → List ℕ → List Bool → Type 0 where
  hnil : Has t ix T W m [] [] []
  hcons : {v : Value} {k : ℕ} {b : Bool} {vs : List Value} {ks : List ℕ} {bs : List Bool} → Fit t ix T W m v k b → Has t ix T W m vs ks bs → Has t ix T W m (v ∷ vs) (k ∷ ks) (b ∷ bs)

-- locals, with their kinds and what a walk leaves in them
pub data Slots (t : List ℕ) (ix : Index) (T W : List ℕ) (m : ℕ) : List (Option Value) → List ℕ → List Slot → Type 0 where
  snil : Slots t ix T W m [] [] []
  sempty : {k : ℕ} {ls : List (Option Value)} {ks : List ℕ} {L : List Slot} → Slots t ix T W m ls ks L → Slots t ix T W m (none ∷ ls) (k ∷ ks) (empty ∷ L)
  sfull : {v : Value} {k : ℕ} {b : Bool} {ls : List (Option Value)} {ks : List ℕ} {L : List Slot} → Fit t ix T W m v k b → Slots t ix T W m ls ks L
      → Slots t ix T W m (some v ∷ ls) (k ∷ ks) (full b ∷ L)

-- a record's fields
pub data Fields (T : List ℕ) : List Value → List ℕ → Type 0 where
  dnil : Fields T [] []
  dnum : {n k : ℕ} {vs : List Value} {ks : List ℕ} → Word n → k ≡ number → Fields T vs ks → Fields T (num n ∷ vs) (k ∷ ks)
  dobj : {id y k : ℕ} {vs : List Value} {ks : List ℕ} → nth T id ≡ some y → k ≡ record_of y → Fields T vs ks → Fields T (obj id y ∷ vs) (k ∷ ks)

abbrev pub CellOk : List ℕ → Index → List ℕ → Cell → Type 0
CellOk t ix T (gone y) = Unit {0}
CellOk t ix T (here y vs) = (y < ix.types) × Fields T vs (field_kinds t (type_in ix y))

abbrev pub EntryOk : List ℕ → Entry → Type 0
EntryOk T (entry y a id) = (nth T id ≡ some y) × Word a

-- more records, more frames
abbrev pub ◌⊑◌ : List ℕ → List ℕ → Type 0
◌⊑◌ T U = (i y : ℕ) → nth T i ≡ some y → nth U i ≡ some y

pub snoc_more : (T : List ℕ) (y : ℕ) → ◌⊑◌ T (T ++ (y ∷ []))
snoc_more [] y i u e = cc
snoc_more (x ∷ T) y zero u e = e
snoc_more (x ∷ T) y (suc i) u e = snoc_more T y i u e

pub snoc_last : (T : List ℕ) (y : ℕ) → nth (T ++ (y ∷ [])) (length T) ≡ some y
snoc_last [] y = refl
snoc_last (x ∷ T) y = snoc_last T y

module _ {t : List ℕ} {ix : Index} {T W : List ℕ} where
  module _ {U X : List ℕ} (g : ◌⊑◌ T U) (w : ◌⊑◌ W X) where
    pub fit_more : {m : ℕ} {v : Value} {k : ℕ} {b : Bool} → Fit t ix T W m v k b → Fit t ix U X m v k b
    fit_more (fnum y q) = fnum y q
    fit_more (fobj e q) = fobj (g _ _ e) q
    fit_more (floc e d c q) = floc (w _ _ e) d c q
    fit_more (ffld e d c q) = ffld (g _ _ e) d c q
    fit_more (frec e q) = frec (g _ _ e) q

    pub has_more : {m : ℕ} {vs : List Value} {ks : List ℕ} {bs : List Bool} → Has t ix T W m vs ks bs → Has t ix U X m vs ks bs
    has_more hnil = hnil
    has_more (hcons f h) = hcons (fit_more f) (has_more h)

    pub slots_more : {m : ℕ} {ls : List (Option Value)} {ks : List ℕ} {L : List Slot} → Slots t ix T W m ls ks L → Slots t ix U X m ls ks L
    slots_more snil = snil
    slots_more (sempty h) = sempty (slots_more h)
    slots_more (sfull f h) = sfull (fit_more f) (slots_more h)

  -- a value fits at another place, in another module; a writable reference to a number that stands at a marked place fits only at a marked place of its own module
  pub fit_other : {m m' : ℕ} {v : Value} {k : ℕ} {b : Bool} (b' : Bool) → (k ≡ number_ref → b ≡ true → (b' ≡ true) × (m ≡ m')) → Fit t ix T W m v k b → Fit t ix T W m' v k b'
  fit_other b' z (fnum y q) = fnum y q
  fit_other b' z (fobj e q) = fobj e q
  fit_other b' z (floc e d c q) = floc e d c q
  fit_other b' z (ffld e d c q) = ffld e d (λ v y. let r = c v y in let o = z (q ∙ ap (λ (w : Bool). as_kind w number_ref) v) r.0 in (o.0, r.1 ∙ o.1)) q
  fit_other b' z (frec e q) = frec e q

  pub has_push : {m : ℕ} {vs ops : List Value} {ks rest : List ℕ} {bs O : List Bool} → Has t ix T W m vs ks bs → Has t ix T W m ops rest O
      → Has t ix T W m (pushed_on vs ops) (onto ks rest) (marks_on bs O)
  unfolding onto marks_on
  has_push hnil h = h
  has_push (hcons f g) h = has_push g (hcons f h)

  pub fit-kind : {m : ℕ} {v : Value} {k : ℕ} {b : Bool} → Fit t ix T W m v k b → value_kind v ≡ k
  fit-kind (fnum y q) = sym q
  fit-kind (fobj e q) = sym q
  fit-kind (floc e d c q) = sym q
  fit-kind (ffld e d c q) = sym q
  fit-kind (frec e q) = sym q

  pub has_kinds : {m : ℕ} {vs : List Value} {ks : List ℕ} {bs : List Bool} → Has t ix T W m vs ks bs → map value_kind vs ≡ ks
  has_kinds hnil = refl
  has_kinds (hcons f h) = cc (fit-kind f, has_kinds h)

  -- whether a value that fits is a record is told by its kind
  pub fit_record : {m : ℕ} {v : Value} {k : ℕ} {b : Bool} → Fit t ix T W m v k b → is_object v ≡ is_record k
  fit_record f = ap is_record (fit-kind f)

fields_more : {T U : List ℕ} → ◌⊑◌ T U → {vs : List Value} {ks : List ℕ} → Fields T vs ks → Fields U vs ks
fields_more g dnil = dnil
fields_more g (dnum y q h) = dnum y q (fields_more g h)
fields_more g (dobj e q h) = dobj (g _ _ e) q (fields_more g h)

cell_more : (t : List ℕ) (ix : Index) (T U : List ℕ) → ◌⊑◌ T U → (c : Cell) → CellOk t ix T c → CellOk t ix U c
cell_more t ix T U g (gone y) k = tt
cell_more t ix T U g (here y vs) k = (k.0, fields_more g k.1)

pub cells_more : (t : List ℕ) (ix : Index) (T U : List ℕ) → ◌⊑◌ T U → {h : List Cell} → All (CellOk t ix T) h → All (CellOk t ix U) h
cells_more t ix T U g none_left = none_left
cells_more t ix T U g (also {x} k h) = also (cell_more t ix T U g x k) (cells_more t ix T U g h)

entry_more : (T U : List ℕ) → ◌⊑◌ T U → (c : Entry) → EntryOk T c → EntryOk U c
entry_more T U g (entry y a id) k = (g _ _ k.0, k.1)

pub entries_more : (T U : List ℕ) → ◌⊑◌ T U → {st : List Entry} → All (EntryOk T) st → All (EntryOk U) st
entries_more T U g none_left = none_left
entries_more T U g (also {x} k h) = also (entry_more T U g x k) (entries_more T U g h)

-- Operands of these kinds with marks, the last on top, may go from a frame of module m to places of module m' whose marks are bs, the first of the first:
-- a writable reference to a number that is marked goes to a marked place of the same module
abbrev pub MayGo : ℕ → ℕ → List ℕ → List Bool → List Bool → Type 0
MayGo m m' ks O bs = (before after : List ℕ) → ks ≡ before ++ (number_ref ∷ after) → get_or O (length after) false ≡ true → (get_or bs (length before) false ≡ true) × (m ≡ m')

-- they may, within a module to places that are marked where they are, and to any where they are not marked
pub may_go : (m m' : ℕ) (ks : List ℕ) (O : List Bool) (marked : ℕ → Bool) (inner : Bool) → (inner ≡ true → (m ≡ m') × MarkedAs ks O marked) → (inner ≡ false → Unmarked ks O) → MayGo m m' ks O (tabulate marked (length ks))
may_go m m' ks O marked true f g before after e d =
    let z = f refl in (get_d_tabulate marked false (length ks) (length before) (omega (arith, ap length e ∙ length-append before (number_ref ∷ after))) ∙ z.1 before after number_ref e d, z.0)
may_go m m' ks O marked false f g before after e d = absurd (true≢false (sym d ∙ g refl before after e))

-- the operands that an instruction takes are there
pub record Took (t : List ℕ) (ix : Index) (T W : List ℕ) (m : ℕ) (ops : List Value) (ks rest : List ℕ) (O : List Bool) : Type 0 where
  pub vs : List Value
  pub under : List Value
  pub bs : List Bool
  pub found : taken ks ops ≡ took vs under
  pub stack : ops ≡ pushed_on vs under
  pub marks : O ≡ marks_on bs (drop (length ks) O)
  pub has : Has t ix T W m vs ks bs
  pub left : Has t ix T W m under rest (drop (length ks) O)
  pub out : (m' : ℕ) (bs' : List Bool) → length bs' ≡ length ks → MayGo m m' ks O bs' → Has t ix T W m' vs ks bs'

drop-suc : (l : List Bool) (n : ℕ) (b : Bool) (r : List Bool) → drop n l ≡ b ∷ r → drop (suc n) l ≡ r
drop-suc [] zero b r e = cc
drop-suc [] (suc n) b r e = cc
drop-suc (x ∷ l) zero b r e = cc
drop-suc (x ∷ l) (suc n) b r e = drop-suc l n b r e

drop_get : (l : List Bool) (n : ℕ) (b : Bool) (r : List Bool) → drop n l ≡ b ∷ r → get_or l n false ≡ b
drop_get [] zero b r e = cc
drop_get [] (suc n) b r e = cc
drop_get (x ∷ l) zero b r e = cc
drop_get (x ∷ l) (suc n) b r e = drop_get l n b r e

module _ {t : List ℕ} {ix : Index} {T W : List ℕ} {m : ℕ} where
  also_out : {v : Value} {k : ℕ} {b : Bool} {vs : List Value} {ks : List ℕ} (O : List Bool) (m' : ℕ) (bs' : List Bool) → get_or O (length ks) false ≡ b → Fit t ix T W m v k b → length bs' ≡ suc (length ks) → MayGo m m' (k ∷ ks) O bs'
      → ((cs : List Bool) → length cs ≡ length ks → MayGo m m' ks O cs → Has t ix T W m' vs ks cs) → Has t ix T W m' (v ∷ vs) (k ∷ ks) bs'
  also_out O m' [] d f e g o = absurd (omega arith)
  also_out {k} {ks} O m' (c ∷ cs) d f e g o =
      hcons (fit_other c (λ q z. g [] ks (ap (λ (x : ℕ). x ∷ ks) q) (d ∙ z)) f) (o cs (omega arith) (λ before after z. g (k ∷ before) after (ap (λ (l : List ℕ). k ∷ l) z)))

  took_more : {ops : List Value} {k : ℕ} {ks rest : List ℕ} {O : List Bool} (vs under : List Value) (bs D : List Bool) → taken ks ops ≡ took vs under → ops ≡ pushed_on vs under → O ≡ marks_on bs (drop (length ks) O)
      → Has t ix T W m vs ks bs → ((m' : ℕ) (bs' : List Bool) → length bs' ≡ length ks → MayGo m m' ks O bs' → Has t ix T W m' vs ks bs') → drop (length ks) O ≡ D → Has t ix T W m under (k ∷ rest) D
      → Took t ix T W m ops (k ∷ ks) rest O
  unfolding marks_on
  took_more {ops} {k} {ks} {rest} {O} vs under bs D e s w h o d (hcons {v} {b} {vs = us} {bs = B} f g) = record {
    vs = v ∷ vs;
    under = us;
    bs = b ∷ bs;
    found = rw (e, eq-eqb (value_kind v) k (fit-kind f)) refl;
    stack = s;
    marks = w ∙ ap (marks_on bs) (d ∙ ap (λ (l : List Bool). b ∷ l) (sym (drop-suc O (length ks) b B d)));
    has = hcons f h;
    left = rw (drop-suc O (length ks) b B d) g;
    out = λ m' bs' l g. also_out O m' bs' (drop_get O (length ks) b B d) f l g (o m');
  }

  pub take_off : (ks : List ℕ) {ops : List Value} {rest : List ℕ} {O : List Bool} → Has t ix T W m ops (onto ks rest) O → Took t ix T W m ops ks rest O
  unfolding onto marks_on
  take_off [] {ops} {rest} {O} h = record { vs = []; under = ops; bs = []; found = refl; stack = refl; marks = refl; has = hnil; left = h; out = λ m' bs' l c. no-marks bs' l }
    where
      no-marks : {m' : ℕ} (bs' : List Bool) → length bs' ≡ 0 → Has t ix T W m' [] [] bs'
      no-marks [] l = hnil
      no-marks (b ∷ bs') l = absurd (omega arith)
  take_off (k ∷ ks) h = let q = take_off ks h in took_more q.vs q.under q.bs _ q.found q.stack q.marks q.has q.out refl q.left
