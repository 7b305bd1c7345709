-- Refusals 2 and 3 of the rows: which kind may follow which, and how many rows of a kind stand above a row in its owner. What is said of rows is what the rule's tables and counts say.
use Prim.Native.Nat.{ℕ, zero, suc, ◌+◌, ◌<◌, ◌≤◌}
use mathlib.Core.Path.{◌≡◌, refl, sym, ◌∙◌}
use mathlib.Core.Bool.{Bool, true, false, not, ◌&&◌, ◌||◌, beq, false≢true}
use mathlib.Core.List.{List, [], ◌∷◌}
use mathlib.Core.Logic.{◌↔◌}
use native.Mathlib.Numerals.{add-one}
use native.Mathlib.Decide.{dec_lt}
use native.Mathlib.Omega.{arith}
use borrow.Author.Tests.{eqb-true, eqb-false, ne_eqb, ltb-true, leb-true, le-leb, lt-leb, not-false}
use lib.Dec.{eqb, ltb, leb}
use lib.ListN.{get_or, get_or-eq_default}
use Rattle.laws.specs.Lists.{member, every, count}
use Rattle.laws.proofs.Cases.{Below, below_each, ◌▸◌}
use Rattle.laws.proofs.Lists.{count_yes, count_no}
use Rattle.table.specs.declared.Row.{Row}
use Rattle.table.specs.Format.{module_kind, type_kind, field_kind, procedure_kind, local_kind, result_kind, instruction_kind, max_modules, max_types, max_fields, max_procedures, max_locals, max_results, max_instructions}
use Rattle.table.specs.Rows.{row_at, kind_at, is_kind}
use Rattle.rows.specs.declared.Above.{Above}
use Rattle.rows.specs.Rows.{may_follow, owned, limits, misplaced, too_many, above_at, below_row, count_below, count_of}
use Rattle.rows.proofs.Laws.{agree}
use Rattle.sizes.proofs.Counts.{number-next, number-count, no_owner}
use Rattle.acceptance.specs.RowRefusals.{follows, kind_above, Since, Full, modules, types, fields, procedures, locals, results, instructions}

-- what holds of each of the seven kinds, and of what is none
pub by_kind : (P : ℕ → Type 0) → Below P 8 → ((k : ℕ) → 8 ≤ k → P k) → (k : ℕ) → P k
by_kind P known none k = go (dec_lt k 8)
  where
    go : Dec (k < 8) → P k
    go (yes h) = below_each P 8 known k h
    go (no h) = none k (omega arith)

-- Kinds that follow.
all_below : List ℕ → Bool
all_below [] = true
all_below (x ∷ xs) = ltb x 8 && all_below xs

not_listed : (xs : List ℕ) (k : ℕ) → all_below xs ≡ true → 8 ≤ k → member k xs ≡ false
unfolding all_below member
not_listed [] k e h = refl
not_listed (x ∷ xs) k e h = go (ltb x 8) refl e (λ e. not_listed xs k e h)
  where
    go : (b : Bool) → ltb x 8 ≡ b → (b && all_below xs) ≡ true → (all_below xs ≡ true → member k xs ≡ false) → (eqb k x || member k xs) ≡ false
    go true q e rest = rw (ne_eqb k x (λ z. omega (arith, z, ltb-true x 8 q)), rest e)
    go false q e rest = absurd (false≢true e)

listed_if : (xs : List ℕ) (test : ℕ → Bool) → every (λ (k : ℕ). beq (member k xs) (test k)) 8 ≡ true → all_below xs ≡ true → ((k : ℕ) → 8 ≤ k → test k ≡ false) → (k : ℕ) → member k xs ≡ test k
listed_if xs test same low past k = go (dec_lt k 8)
  where
    go : Dec (k < 8) → member k xs ≡ test k
    go (yes h) = agree (λ (k : ℕ). member k xs) test 8 k same h
    go (no h) = not_listed xs k low (omega arith) ∙ sym (past k (omega arith))

no_follower : (k above : ℕ) → 8 ≤ k → follows k above ≡ false
unfolding follows
no_follower k above h =
    rw (ne_eqb k 1 (λ z. omega arith), ne_eqb k 2 (λ z. omega arith), ne_eqb k 3 (λ z. omega arith), ne_eqb k 4 (λ z. omega arith), ne_eqb k 5 (λ z. omega arith), ne_eqb k 6 (λ z. omega arith), ne_eqb k 7 (λ z. omega arith))

pub follow_if : (k above : ℕ) → member above (get_or may_follow k []) ≡ follows k above
unfolding may_follow follows member every all_below
follow_if = by_kind (λ (k : ℕ). (above : ℕ) → member above (get_or may_follow k []) ≡ follows k above)
    ((λ above. refl)
    ▸ listed_if (get_or may_follow 1 []) (follows 1) refl refl (λ x h. rw (lt-leb x 7 (omega arith)))
    ▸ listed_if (get_or may_follow 2 []) (follows 2) refl refl (λ x h. rw (lt-leb x 3 (omega arith)))
    ▸ listed_if (get_or may_follow 3 []) (follows 3) refl refl (λ x h. rw (lt-leb x 3 (omega arith)))
    ▸ listed_if (get_or may_follow 4 []) (follows 4) refl refl (λ x h. rw (lt-leb x 7 (omega arith)))
    ▸ listed_if (get_or may_follow 5 []) (follows 5) refl refl (λ x h. rw (lt-leb x 5 (omega arith)))
    ▸ listed_if (get_or may_follow 6 []) (follows 6) refl refl (λ x h. rw (lt-leb x 6 (omega arith)))
    ▸ listed_if (get_or may_follow 7 []) (follows 7) refl refl (λ x h. rw (lt-leb x 7 (omega arith)))
    ▸ tt)
    (λ k h above. rw (no_list k h, no_follower k above h))
  where
    no_list : (k : ℕ) → 8 ≤ k → get_or may_follow k [] ≡ []
    no_list k h = get_or-eq_default may_follow [] {n = k} h

-- A kind k whose rows are numbered anew below rows of kind `new`, and their number as the rule carries it.
module _ (k new : ℕ) (number : Above → ℕ) (carried : (s : Above) (row : Row) → number (below_row s row) ≡ count_below k row.kind (number s)) (t : List ℕ)
    (start : number (above_at t 0) ≡ 0) (anew : (kind : ℕ) → member k (get_or owned kind []) ≡ eqb kind new) (apart : k ≡ new → ⊥) where
  abbrev None : ℕ → ℕ → Type 0
  None j i = (m : ℕ) → j ≤ m → m < i → kind_at t m ≡ new → ⊥

  next : (i : ℕ) → number (above_at t (i + 1)) ≡ count_below k (kind_at t i) (number (above_at t i))
  next = number-next k number carried t

  more : (j i : ℕ) → None j i → (kind_at t i ≡ new → ⊥) → None j (i + 1)
  more j i none n m lo hi e = go (dec_lt m i)
    where
      go : Dec (m < i) → ⊥
      go (yes l) = none m lo l e
      go (no l) = let s : m ≡ i = omega arith in n (rw s at e)

  -- the rows that are counted
  Counted : ℕ → Type 0
  Counted i = (j : ℕ) × (j ≤ i) × None j i × (number (above_at t i) + count (is_kind t k) j ≡ count (is_kind t k) i)

  counted : (i : ℕ) → Counted i
  unfolding Counted count_below is_kind
  counted zero = (0, omega arith, λ m lo hi. absurd (omega arith), rw start (omega arith))
  counted (suc i) = let r = go (eqb (kind_at t i) k) refl (eqb (kind_at t i) new) refl (counted i) in rw add-one at r
    where
      go : (b : Bool) → eqb (kind_at t i) k ≡ b → (c : Bool) → eqb (kind_at t i) new ≡ c → Counted i → Counted (i + 1)
      go true p c q (j, lo, none, e) =
          let n : number (above_at t (i + 1)) ≡ number (above_at t i) + 1 = next i ∙ rw p in
          (j, omega arith, more j i none (λ z. apart (sym (eqb-true _ _ p) ∙ z)), omega (arith, n, e, count_yes (is_kind t k) i p))
      go false p true q r =
          let n : number (above_at t (i + 1)) ≡ 0 = next i ∙ rw (p, anew, q) in
          (i + 1, omega arith, λ m lo hi. absurd (omega arith), omega (arith, n))
      go false p false q (j, lo, none, e) =
          let n : number (above_at t (i + 1)) ≡ number (above_at t i) = next i ∙ rw (p, anew, q) in
          (j, omega arith, more j i none (eqb-false _ _ q), omega (arith, n, e, count_no (is_kind t k) i p))

  -- none of those since some row is left out
  counts_all : (i j : ℕ) → j ≤ i → None j i → count (is_kind t k) i ≤ number (above_at t i) + count (is_kind t k) j
  unfolding count_below is_kind
  counts_all zero j lo none = let s : j ≡ 0 = omega arith in rw s (omega arith)
  counts_all (suc i) j lo none = let r = go (dec_lt i j) (eqb (kind_at t i) k) refl (λ l. counts_all i j l (λ m a b. none m a (omega arith))) in rw add-one at r
    where
      go : Dec (i < j) → (b : Bool) → eqb (kind_at t i) k ≡ b → (j ≤ i → count (is_kind t k) i ≤ number (above_at t i) + count (is_kind t k) j) → count (is_kind t k) (i + 1) ≤ number (above_at t (i + 1)) + count (is_kind t k) j
      go (yes l) b p rest = let s : j ≡ i + 1 = omega arith in rw s (omega arith)
      go (no l) true p rest =
          let n : number (above_at t (i + 1)) ≡ number (above_at t i) + 1 = next i ∙ rw p in
          omega (arith, n, count_yes (is_kind t k) i p, rest (omega arith))
      go (no l) false p rest =
          let q = ne_eqb (kind_at t i) new (none i (omega arith) (omega arith)) in
          let n : number (above_at t (i + 1)) ≡ number (above_at t i) = next i ∙ rw (p, anew, q) in
          omega (arith, n, count_no (is_kind t k) i p, rest (omega arith))

  -- so the number reaches a limit exactly if so many rows stand there since some row
  since : (limit i : ℕ) → (limit ≤ number (above_at t i)) ↔ Since t i new k limit
  unfolding Counted
  since limit i = (λ h. let c = counted i in (c.0, c.1, c.2, omega (arith, h, c.3)), λ r. omega (arith, r.3, counts_all i r.0 r.1 r.2))

-- the kinds below which the rows of a kind are numbered anew
anew_if : (k new : ℕ) → every (λ (kind : ℕ). beq (member k (get_or owned kind [])) (eqb kind new)) 9 ≡ true → new < 9 → (kind : ℕ) → member k (get_or owned kind []) ≡ eqb kind new
unfolding owned member
anew_if k new same low kind = go (dec_lt kind 9)
  where
    go : Dec (kind < 9) → member k (get_or owned kind []) ≡ eqb kind new
    go (yes h) = agree (λ (kind : ℕ). member k (get_or owned kind [])) (λ (kind : ℕ). eqb kind new) 9 kind same h
    go (no h) = rw (get_or-eq_default owned [] {n = kind} (omega arith), ne_eqb kind new (λ z. omega arith))

-- Row i of a table.
module _ (t : List ℕ) (i : ℕ) where
  abbrev here : Row
  here = row_at t i

  abbrev state : Above
  state = above_at t i

  above-is : (i : ℕ) → (above_at t i).kind ≡ kind_above t i
  unfolding above_at below_row kind_at
  above-is zero = refl
  above-is (suc i) = refl

  -- 2
  pub place_is : misplaced state here ≡ not (follows here.kind (kind_above t i))
  unfolding misplaced
  place_is = rw (above-is i, follow_if)

  -- 3: the rows of each kind above it, in its owner
  module-count : state.modules ≡ count (is_kind t module_kind) i
  unfolding above_at below_row owned member every
  module-count = number-count module_kind (λ (s : Above). s.modules) (λ s row. refl) t refl (no_owner module_kind refl) i

  type-count : state.types ≡ count (is_kind t type_kind) i
  unfolding above_at below_row owned member every
  type-count = number-count type_kind (λ (s : Above). s.types) (λ s row. refl) t refl (no_owner type_kind refl) i

  procedure-count : state.procedures ≡ count (is_kind t procedure_kind) i
  unfolding above_at below_row owned member every
  procedure-count = number-count procedure_kind (λ (s : Above). s.procedures) (λ s row. refl) t refl (no_owner procedure_kind refl) i

  field-count : (max_fields ≤ state.fields) ↔ Since t i type_kind field_kind max_fields
  unfolding above_at below_row owned member every
  field-count = since field_kind type_kind (λ (s : Above). s.fields) (λ s row. refl) t refl (anew_if field_kind type_kind refl (omega arith)) (λ z. omega arith) max_fields i

  local-count : (max_locals ≤ state.locals) ↔ Since t i procedure_kind local_kind max_locals
  unfolding above_at below_row owned member every
  local-count = since local_kind procedure_kind (λ (s : Above). s.locals) (λ s row. refl) t refl (anew_if local_kind procedure_kind refl (omega arith)) (λ z. omega arith) max_locals i

  result_count : (max_results ≤ state.results) ↔ Since t i procedure_kind result_kind max_results
  unfolding above_at below_row owned member every
  result_count = since result_kind procedure_kind (λ (s : Above). s.results) (λ s row. refl) t refl (anew_if result_kind procedure_kind refl (omega arith)) (λ z. omega arith) max_results i

  instruction-count : (max_instructions ≤ state.instructions) ↔ Since t i procedure_kind instruction_kind max_instructions
  unfolding above_at below_row owned member every
  instruction-count = since instruction_kind procedure_kind (λ (s : Above). s.instructions) (λ s row. refl) t refl (anew_if instruction_kind procedure_kind refl (omega arith)) (λ z. omega arith) max_instructions i

  full-shown : (k : ℕ) → here.kind ≡ k → follows k (kind_above t i) ≡ true → leb (get_or limits k 0) (count_of state k) ≡ true → Full t i
  unfolding follows limits count_of
  full-shown = by_kind (λ (k : ℕ). here.kind ≡ k → follows k (kind_above t i) ≡ true → leb (get_or limits k 0) (count_of state k) ≡ true → Full t i)
      ((λ q f e. absurd (false≢true f))
      ▸ (λ q f e. modules q (omega (arith, leb-true max_modules state.modules e, module-count)))
      ▸ (λ q f e. types q (omega (arith, leb-true max_types state.types e, type-count)))
      ▸ (λ q f e. fields q (field-count.0 (leb-true max_fields state.fields e)))
      ▸ (λ q f e. procedures q (omega (arith, leb-true max_procedures state.procedures e, procedure-count)))
      ▸ (λ q f e. locals q (local-count.0 (leb-true max_locals state.locals e)))
      ▸ (λ q f e. results q (result_count.0 (leb-true max_results state.results e)))
      ▸ (λ q f e. instructions q (instruction-count.0 (leb-true max_instructions state.instructions e)))
      ▸ tt)
      (λ k h q f e. absurd (false≢true (sym (no_follower k (kind_above t i) h) ∙ f)))

  pub count-shown : misplaced state here ≡ false → too_many state here ≡ true → Full t i
  unfolding too_many
  count-shown p e = full-shown here.kind refl (not-false _ (sym place_is ∙ p)) e

  pub count-found : Full t i → too_many state here ≡ true
  unfolding too_many limits count_of
  count-found (modules q h) = rw q (le-leb max_modules state.modules (omega (arith, h, module-count)))
  count-found (types q h) = rw q (le-leb max_types state.types (omega (arith, h, type-count)))
  count-found (procedures q h) = rw q (le-leb max_procedures state.procedures (omega (arith, h, procedure-count)))
  count-found (fields q h) = rw q (le-leb max_fields state.fields (field-count.1 h))
  count-found (locals q h) = rw q (le-leb max_locals state.locals (local-count.1 h))
  count-found (results q h) = rw q (le-leb max_results state.results (result_count.1 h))
  count-found (instructions q h) = rw q (le-leb max_instructions state.instructions (instruction-count.1 h))
