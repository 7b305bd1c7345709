-- A frame that is entered: its parameters are full and marked as they start, its other locals empty, and a walk starts.
use Prim.Native.Nat.{ℕ, zero, suc, ◌+◌, ◌-◌, ◌<◌, ◌≤◌}
use mathlib.Core.Path.{◌≡◌, refl, ap, sym, ◌∙◌}
use mathlib.Core.List.{List, [], ◌∷◌, ◌++◌, map}
use mathlib.Core.Bool.{Bool, false, cond}
use mathlib.Core.Option.{some}
use native.Mathlib.Omega.{arith}
use native.Mathlib.Decide.{dec_lt}
use lib.Dec.{ltb}
use lib.ListN.{length, get_or, length-append, length-map, get_elem? as nth}
use borrow.Author.Tests.{lt-ltb, le-ltb}
use Rattle.laws.specs.Lists.{tabulate}
use Rattle.laws.proofs.Lists.{length-tabulate, get_d_tabulate, is-tabulate}
use Rattle.table.specs.declared.index.Index.{Index}
use Rattle.table.specs.Index.{index_of}
use Rattle.declarations.specs.Program.{kinds_of, procedure_in, local_count, parameters_end, parameter_kinds, parameter_count}
use Rattle.operands.specs.Flow.{onto}
use Rattle.operands.specs.Operands.{kinds_before}
use Rattle.flow.specs.Walks.{Slot, empty, full, entry, starts, pushed_on as marks_on}
use Rattle.acceptance.specs.Checked.{starts_in}
use Rattle.acceptance.specs.Judged.{Judged}
use Rattle.semantics.specs.Machine.{Value}
use Rattle.semantics.specs.Step.{start_locals}
use Rattle.semantics.proofs.Indexed.{module_in}
use Rattle.semantics.proofs.Typing.{Has, hnil, hcons}
use Rattle.semantics.proofs.Places.{enter}
use Rattle.semantics.proofs.Frames.{FrameOk}

-- as many values as kinds
pub has_length : {t : List ℕ} {ix : Index} {T W : List ℕ} {m : ℕ} {vs : List Value} {ks : List ℕ} {bs : List Bool} → Has t ix T W m vs ks bs → length vs ≡ length ks
has_length hnil = refl
has_length (hcons f h) = ap suc (has_length h)

abbrev slots_of : List Bool → List ℕ → List Slot
slots_of bs rest = map full bs ++ map (λ (k : ℕ). empty) rest

no_slot : (rest : List ℕ) (y : ℕ) → get_or (map (λ (k : ℕ). empty) rest) y empty ≡ empty
no_slot [] y = refl
no_slot (k ∷ rest) zero = refl
no_slot (k ∷ rest) (suc y) = no_slot rest y

first_slots : (bs : List Bool) (rest : List ℕ) (y : ℕ) → y < length bs → get_or (slots_of bs rest) y empty ≡ full (get_or bs y false)
first_slots [] rest y l = absurd (omega arith)
first_slots (b ∷ bs) rest zero l = refl
first_slots (b ∷ bs) rest (suc y) l = first_slots bs rest y (omega arith)

later_slots : (bs : List Bool) (rest : List ℕ) (y : ℕ) → length bs ≤ y → get_or (slots_of bs rest) y empty ≡ empty
later_slots [] rest y l = no_slot rest y
later_slots (b ∷ bs) rest zero l = absurd (omega arith)
later_slots (b ∷ bs) rest (suc y) l = later_slots bs rest y (omega arith)

-- so does a walk start
entry-is : (marked : ℕ → Bool) (rest : List ℕ) (n m : ℕ) → m ≡ n + length rest → slots_of (tabulate marked n) rest ≡ entry marked n m
unfolding entry
entry-is marked rest n m e =
    is-tabulate _ empty m (slots_of (tabulate marked n) rest) (length-append (map full (tabulate marked n)) (map (λ (k : ℕ). empty) rest) ∙ simp (length-map, length-tabulate) (sym e)) (λ y l. go y (dec_lt y n))
  where
    go : (y : ℕ) → Dec (y < n) → get_or (slots_of (tabulate marked n) rest) y empty ≡ cond (ltb y n) (full (marked y)) empty
    go y (yes q) = rw (lt-ltb y n q) (first_slots (tabulate marked n) rest y (rw length-tabulate q) ∙ ap full (get_d_tabulate marked false n y q))
    go y (no q) = rw (le-ltb y n (omega arith)) (later_slots (tabulate marked n) rest y (omega (arith, length-tabulate marked n)))

-- frame id of procedure q, with the arguments vs
pub entered : {t : List ℕ} {T W : List ℕ} (judged : Judged t (index_of t)) (id q : ℕ) → q < (index_of t).procedures → nth W id ≡ some q → (vs : List Value)
    → Has t (index_of t) T W (module_in (index_of t) q) vs (parameter_kinds t (procedure_in (index_of t) q)) (tabulate (starts_in t q) (length (parameter_kinds t (procedure_in (index_of t) q))))
    → FrameOk t (index_of t) T W 0 [] [] id q [] (start_locals vs (local_count (procedure_in (index_of t) q) - length vs))
unfolding onto kinds_before marks_on
entered {t} {T} {W} judged id q there e vs a =
    let Q = judged.procedure q there in
    let ks = parameter_kinds t (procedure_in (index_of t) q) in
    let rest = kinds_of t (parameters_end t (procedure_in (index_of t) q)) (procedure_in (index_of t) q).results in
    let count : local_count (procedure_in (index_of t) q) ≡ length ks + length rest = sym Q.locals ∙ ap length Q.split ∙ length-append ks rest in
    let others : local_count (procedure_in (index_of t) q) - length vs ≡ length rest = omega (arith, count, has_length a) in
    record {
      named = e;
      there = there;
      inside = Q.some-code;
      rest = [];
      O = [];
      L = entry (starts_in t q) (parameter_count t (procedure_in (index_of t) q)) (local_count (procedure_in (index_of t) q));
      len = 0;
      kinds = refl;
      has = hnil;
      slots = rw (others, Q.split, ← (entry-is (starts_in t q) rest (parameter_count t (procedure_in (index_of t) q)) (local_count (procedure_in (index_of t) q)) (omega (arith, count, Q.parameters))), ← Q.parameters) (enter a rest);
      walk = starts;
    }
