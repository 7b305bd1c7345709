-- Laws of rule files, and of the grid of pairs that the code fills from them.
use Prim.Native.Nat.{ℕ, ◌+◌, ◌*◌, ◌/◌, ◌%◌, ◌-◌, ◌<◌, ◌≤◌}
use mathlib.Core.Path.{◌≡◌, refl, sym, ap, ◌∙◌, fun_ext}
use mathlib.Core.Bool.{Bool, true, false, cond, not, ◌&&◌, ◌||◌, and-false, or_assoc, false≢true}
use mathlib.Core.List.{List, [], ◌∷◌, ◌++◌}
use native.Mathlib.Nat.{zero-add, add-zero, add_assoc}
use native.Mathlib.Numerals.{add-one}
use native.Mathlib.Decide.{ℕ_discrete, dec_lt}
use native.Mathlib.Omega.{arith}
use borrow.Author.Tests.{lt-ltb, le-ltb, le-leb, eq-eqb, ne_eqb, eqb-true, ltb-true, leb-true}
use lib.Dec.{eqb, ltb, leb}
use lib.ListN.{length, get_or, set, replicate, length-set, length-replicate, get_or-replicate}
use lib.Seq.{get_or-set_same, get_or-set_other}
use Rattle.laws.specs.Numbers.{le}
use Rattle.laws.specs.Lists.{hits}
use Rattle.laws.proofs.First.{first-same}
use Rattle.laws.proofs.Lists.{is-tabulate, get_d_tabulate, length-tabulate, hits_skip}
use Rattle.laws.proofs.Tests.{and_both, both_and, same_test, test_fails}
use Rattle.table.specs.declared.Row.{Row}
use Rattle.table.specs.Verdicts.{Verdict, Accepted, Refused, value_of}
use Rattle.table.specs.declared.index.Index.{Index}
use Rattle.table.specs.declared.index.ProcedureEntry.{ProcedureEntry}
use Rattle.table.specs.Format.{op_call}
use Rattle.table.specs.Refusals.{forbidden_call}
use Rattle.table.specs.Rows.{row_count, row_at, row_from}
use Rattle.table.proofs.Laws.{row_inside}
use Rattle.declarations.specs.Program.{procedure_in, code_of, code_verdict, code_pass}
use Rattle.declarations.proofs.Laws.{verdict_of}
use Rattle.declarations.proofs.Passes.{over_rows}
use Rattle.policy.specs.declared.Standing.{Standing}
use Rattle.policy.specs.declared.Standing.TheVariants.{Unruled, Forbidden, Allowed, Several}
use Rattle.policy.specs.Policy.{rule_byte, allows, first_caller, last_caller, first_called, last_called, zero_bytes, not_zero, bad_range, bad_rule, rule_fault, file_of, covers, rules_for, pair_fault, pairs_of, allowed_by, permits, call_fault}
use Rattle.policy.specs.code.Grid.{standing_by, under_one, is_allowed, painted, grid_up_to, grid_of, painted_if, painted_from, painted_by, unruled_in, pairs_in, permits_in, forbidden_in, calls_in}
use Rattle.policy.proofs.Words.{rule-good, good-rule, covers-told, file_told, file_accepts}

-- a number is 0 exactly if its lowest byte and the number of the others are
lowest : (a b : ℕ) → not (eqb (a + 256 * b) 0) ≡ (not (eqb a 0) || not (eqb b 0))
lowest a b = go (ℕ_discrete a 0) (ℕ_discrete b 0)
  where
    go : Dec (a ≡ 0) → Dec (b ≡ 0) → not (eqb (a + 256 * b) 0) ≡ (not (eqb a 0) || not (eqb b 0))
    go (no p) q = rw (ne_eqb (a + 256 * b) 0 (λ z. p (omega arith)), ne_eqb a 0 p)
    go (yes p) (no q) = rw (ne_eqb (a + 256 * b) 0 (λ z. q (omega arith)), eq-eqb a 0 p, ne_eqb b 0 q)
    go (yes p) (yes q) = rw (p, q)

zero-bytes : (r : List ℕ) (i : ℕ) → not_zero r i zero_bytes ≡ (not (eqb (le r (16 * i + 2) 2) 0) || not (eqb (le r (16 * i + 8) 8) 0))
unfolding not_zero rule_byte le
zero-bytes r i = simp (lowest, add_assoc, or_assoc)

-- whether a rule row is malformed, from the row that is read
pub rule-row : (r : List ℕ) (i : ℕ) (row : Row) → row ≡ row_at r i → i < row_count r
    → bad_rule r i ≡ (not (eqb row.kind 1) || ltb 1 row.a || bad_range (first_caller r i) (last_caller r i) || bad_range (first_called r i) (last_called r i) || (not (eqb row.b 0) || not (eqb row.d 0)))
unfolding bad_rule rule_byte row_from
rule-row r i row e h = rw (e, row_inside r i h, zero-bytes r i, add-zero)

-- the ranges of one that is not
pub rule_ranges : (r : List ℕ) (i : ℕ) → bad_rule r i ≡ false → (first_caller r i ≤ last_caller r i) × (last_caller r i < 16) × (first_called r i ≤ last_called r i) × (last_called r i < 16)
unfolding rule_byte
rule_ranges r i e = let g = rule-good r i e in omega (arith, g.callers, g.called)

-- What an accepted file gives: no row is malformed, and it has as many rows as it says.
module _ (r : List ℕ) (n : ℕ) (e : file_of r ≡ Accepted n) where
  pub rules_fine : (i : ℕ) → i < row_count r → bad_rule r i ≡ false
  rules_fine i h = good-rule r i ((file_accepts r n e).1 i h)

  pub rules_count : n ≡ row_count r
  rules_count = let p = (file_told r n e).1 in ap value_of (sym p ∙ over_rows (rule_fault r) (row_count r) n p)

-- what the test of a range says
module _ (first last k : ℕ) where
  range_told : (leb first k && ltb k last) ≡ true → (first ≤ k) × (k < last)
  range_told e = let b = and_both (leb first k) (ltb k last) e in (leb-true first k b.0, ltb-true k last b.1)

  range_if : first ≤ k → k < last → (leb first k && ltb k last) ≡ true
  range_if h l = rw (le-leb first k h, lt-ltb k last l)

-- A grid painted by a test: its length, how each pair stands in it, and that this tells it.
module _ (test : ℕ → Bool) (allow : Bool) (grid : List Standing) where
  pub painted-length : length (painted_if test allow grid) ≡ length grid
  unfolding painted_if
  painted-length = length-tabulate _ (length grid)

  painted-at : (k : ℕ) → k < length grid → get_or (painted_if test allow grid) k Unruled ≡ cond (test k) (painted (get_or grid k Unruled) allow) (get_or grid k Unruled)
  unfolding painted_if
  painted-at k h = get_d_tabulate _ Unruled (length grid) k h

  is-painted : (l : List Standing) → length l ≡ length grid → ((k : ℕ) → k < length grid → get_or l k Unruled ≡ cond (test k) (painted (get_or grid k Unruled) allow) (get_or grid k Unruled)) → l ≡ painted_if test allow grid
  unfolding painted_if
  is-painted l e h = is-tabulate _ Unruled (length grid) l e h

  -- by a test that no pair passes
  painted-none : ((k : ℕ) → k < length grid → test k ≡ true → ⊥) → grid ≡ painted_if test allow grid
  painted-none h = is-painted grid refl (λ k l. rw (test_fails (test k) (h k l)))

-- by a test that the same pairs pass
painted_same : (test other : ℕ → Bool) (allow : Bool) (grid : List Standing) → ((k : ℕ) → k < length grid → other k ≡ test k) → painted_if other allow grid ≡ painted_if test allow grid
painted_same test other allow grid h = is-painted test allow grid _ (painted-length other allow grid) (λ k l. painted-at other allow grid k l ∙ rw (h k l))

-- one pair painted
painted_pair : (allow : Bool) (grid : List Standing) (k : ℕ) → k < length grid → set grid k (painted (get_or grid k Unruled) allow) ≡ painted_if (λ (j : ℕ). eqb j k) allow grid
painted_pair allow grid k h = is-painted _ allow grid _ (length-set grid k _) (λ j l. go j (ℕ_discrete j k))
  where
    go : (j : ℕ) → Dec (j ≡ k) → get_or (set grid k (painted (get_or grid k Unruled) allow)) j Unruled ≡ cond (eqb j k) (painted (get_or grid j Unruled) allow) (get_or grid j Unruled)
    go j (yes e) = rw (e, eq-eqb k k refl) (get_or-set_same grid k _ Unruled h)
    go j (no e) = rw (ne_eqb j k e) (get_or-set_other grid k j _ Unruled e)

-- `both` holds of what passes one of two tests, and no pair passes both of these
abbrev Joins : Bool → Bool → Bool → Type 0
Joins first second both = (first ≡ true → second ≡ true → ⊥) × (first ≡ true → both ≡ true) × (second ≡ true → both ≡ true) × (both ≡ true → (first ≡ true → ⊥) → second ≡ true)

-- painted by one test, and then by another
painted_both : (first second both : ℕ → Bool) (allow : Bool) (grid : List Standing) → ((k : ℕ) → k < length grid → Joins (first k) (second k) (both k))
    → painted_if second allow (painted_if first allow grid) ≡ painted_if both allow grid
painted_both first second both allow grid h = is-painted both allow grid _ (painted-length second allow _ ∙ painted-length first allow grid)
    (λ k l. painted-at second allow _ k (rw painted-length l) ∙ rw (painted-at first allow grid k l) (go (first k) (second k) (both k) (h k l) (get_or grid k Unruled)))
  where
    go : (f s b : Bool) → Joins f s b → (g : Standing) → cond s (painted (cond f (painted g allow) g) allow) (cond f (painted g allow) g) ≡ cond b (painted g allow) g
    go true true b j g = absurd (j.0 refl refl)
    go true false b j g = rw (j.1 refl)
    go false true b j g = rw (j.2 refl)
    go false false true j g = absurd (false≢true (j.3 refl false≢true))
    go false false false j g = refl

-- Painted from one pair to before another: none, one more, and past the end.
module _ (first : ℕ) (allow : Bool) (grid : List Standing) where
  pub range_none : grid ≡ painted_from first first allow grid
  unfolding painted_from
  range_none = painted-none _ allow grid (λ k l t. omega (arith, range_told first first k t))

  pub range_next : (k : ℕ) (l : List Standing) (p : Standing) → first ≤ k → k < length grid → l ≡ painted_from first k allow grid → p ≡ painted (get_or l k Unruled) allow → set l k p ≡ painted_from first (k + 1) allow grid
  unfolding painted_from
  range_next k l p h i e q =
      rw (q, e) (painted_pair allow _ k (rw painted-length i) ∙ painted_both _ _ _ allow grid (λ j m. (
        λ t u. omega (arith, range_told first k j t, eqb-true j k u),
        λ t. range_if first (k + 1) j (omega (arith, range_told first k j t)) (omega (arith, range_told first k j t)),
        λ u. range_if first (k + 1) j (omega (arith, eqb-true j k u)) (omega (arith, eqb-true j k u)),
        λ t n. let b = range_told first (k + 1) j t in let o : j < k → ⊥ = λ z. n (range_if first k j b.0 z) in eq-eqb j k (omega arith),
      )))

  pub range_past : (k last : ℕ) → first ≤ k → last ≤ k → k - first ≤ last - first → painted_from first k allow grid ≡ painted_from first last allow grid
  unfolding painted_from
  range_past k last h i o = painted_same _ _ allow grid (λ j m. same_test _ _
      (λ t. let b = range_told first k j t in range_if first last j b.0 (omega arith))
      (λ t. let b = range_told first last j t in range_if first k j b.0 (omega arith)))

-- Painted by rule row i, as far as calling module c: not yet, one caller more, and all.
module _ (r : List ℕ) (i : ℕ) (grid : List Standing) where
  abbrev pub painted_to : ℕ → List Standing
  painted_to c = painted_if (λ (k : ℕ). covers r (k / 16) (k % 16) i && ltb (k / 16) c) (allows r i) grid

  to_told : (c k : ℕ) → (covers r (k / 16) (k % 16) i && ltb (k / 16) c) ≡ true → (first_caller r i ≤ k / 16) × (k / 16 ≤ last_caller r i) × (first_called r i ≤ k % 16) × (k % 16 ≤ last_called r i) × (k / 16 < c)
  to_told c k e = let b = and_both _ (ltb (k / 16) c) e in let t = (covers-told r (k / 16) (k % 16) i).0 b.0 in (t.0, t.1, t.2, t.3, ltb-true (k / 16) c b.1)

  pub rule-none : grid ≡ painted_to (first_caller r i)
  rule-none = painted-none _ (allows r i) grid (λ k l t. omega (arith, to_told (first_caller r i) k t))

  pub rule-next : (c : ℕ) (l : List Standing) → l ≡ painted_to c → first_caller r i ≤ c → c ≤ last_caller r i → last_called r i < 16
      → painted_from (16 * c + first_called r i) (16 * c + (last_called r i + 1)) (allows r i) l ≡ painted_to (c + 1)
  unfolding painted_from
  rule-next c l e g h w = rw e (painted_both _ _ _ (allows r i) grid (λ k m. (
    λ t u. omega (arith, to_told c k t, range_told (16 * c + first_called r i) (16 * c + (last_called r i + 1)) k u),
    λ t. let b = and_both (covers r (k / 16) (k % 16) i) (ltb (k / 16) c) t in both_and b.0 (lt-ltb (k / 16) (c + 1) (omega (arith, ltb-true (k / 16) c b.1))),
    λ u. let b = range_told (16 * c + first_called r i) (16 * c + (last_called r i + 1)) k u in both_and ((covers-told r (k / 16) (k % 16) i).1 (omega arith)) (lt-ltb (k / 16) (c + 1) (omega arith)),
    λ t n. let b = to_told (c + 1) k t in let o : k / 16 < c → ⊥ = λ z. n (both_and (and_both (covers r (k / 16) (k % 16) i) (ltb (k / 16) (c + 1)) t).0 (lt-ltb (k / 16) c z)) in range_if (16 * c + first_called r i) (16 * c + (last_called r i + 1)) k (omega arith) (omega arith),
  )))

  pub rule_all : (c : ℕ) → last_caller r i < c → painted_to c ≡ painted_by r i grid
  unfolding painted_by
  rule_all c h = painted_same _ _ (allows r i) grid (λ k m. same_test _ _
      (λ t. (and_both _ (ltb (k / 16) c) t).0)
      (λ t. both_and t (lt-ltb (k / 16) c (omega (arith, (covers-told r (k / 16) (k % 16) i).0 t)))))

-- How a pair stands under one row more.
module _ (r : List ℕ) (n : ℕ) where
  standing_more : (l : List ℕ) → standing_by r (l ++ (n ∷ [])) ≡ painted (standing_by r l) (allows r n)
  unfolding painted
  standing_more [] = refl
  standing_more (i ∷ []) = go (allows r i)
    where
      go : (b : Bool) → ◌≡◌ {A = Standing} Several (painted (cond b Allowed Forbidden) (allows r n))
      go true = refl
      go false = refl
  standing_more (i ∷ j ∷ is) = refl

  standing-next : (hit : ℕ → Bool) → standing_by r (hits hit (n + 1)) ≡ cond (hit n) (painted (standing_by r (hits hit n)) (allows r n)) (standing_by r (hits hit n))
  unfolding hits
  standing-next hit = rw add-one (go (hit n))
    where
      go : (b : Bool) → standing_by r (cond b (hits hit n ++ (n ∷ [])) (hits hit n)) ≡ cond b (painted (standing_by r (hits hit n)) (allows r n)) (standing_by r (hits hit n))
      go true = standing_more (hits hit n)
      go false = refl

  pub grid_length : length (grid_up_to r n) ≡ 256
  unfolding grid_up_to
  grid_length = length-tabulate _ 256

  pub grid_at : (k : ℕ) → k < 256 → get_or (grid_up_to r n) k Unruled ≡ standing_by r (hits (covers r (k / 16) (k % 16)) n)
  unfolding grid_up_to
  grid_at k h = get_d_tabulate _ Unruled 256 k h

-- the grid under no row, and under one row more
pub grid_none : (r : List ℕ) → replicate 256 Unruled ≡ grid_up_to r 0
unfolding grid_up_to hits
grid_none r = is-tabulate _ Unruled 256 (replicate 256 Unruled) (length-replicate {A = Standing} 256 Unruled) (λ k h. get_or-replicate 256 k Unruled Unruled h)

pub grid_next : (r : List ℕ) (n : ℕ) (l : List Standing) → l ≡ grid_up_to r n → painted_by r n l ≡ grid_up_to r (n + 1)
unfolding painted_by
grid_next r n l e = rw e (sym (is-painted _ (allows r n) (grid_up_to r n) _ (grid_length r (n + 1) ∙ sym (grid_length r n)) (λ k h.
    let b : k < 256 = omega (arith, grid_length r n) in
    grid_at r (n + 1) k b ∙ standing-next r n (covers r (k / 16) (k % 16)) ∙ rw (grid_at r n k b))))

-- How a pair stands tells whether it stands under one row, and whether that allows.
module _ (r : List ℕ) where
  standing-one : (l : List ℕ) → under_one (standing_by r l) ≡ eqb (length l) 1
  standing-one [] = refl
  standing-one (i ∷ []) = go (allows r i)
    where
      go : (b : Bool) → under_one (cond b Allowed Forbidden) ≡ true
      go true = refl
      go false = refl
  standing-one (i ∷ j ∷ is) = sym (ne_eqb (length (i ∷ j ∷ is)) 1 (λ z. omega arith))

  standing-allowed : (l : List ℕ) → is_allowed (standing_by r l) ≡ allowed_by r l
  standing-allowed [] = refl
  standing-allowed (i ∷ []) = go (allows r i)
    where
      go : (b : Bool) → is_allowed (cond b Allowed Forbidden) ≡ b
      go true = refl
      go false = refl
  standing-allowed (i ∷ j ∷ is) = refl

-- the grid tells the pairs that are refused
pub pairs-same : (r : List ℕ) (grid : List Standing) (modules : ℕ) → grid ≡ grid_of r → pairs_in grid modules ≡ pairs_of r modules
unfolding pairs_in pairs_of unruled_in pair_fault rules_for grid_of
pairs-same r grid modules e = first-same Accepted Refused _ _ 0 256 (λ k lo h. rw (e, grid_at r (row_count r) k (omega arith), standing-one r (hits (covers r (k / 16) (k % 16)) (row_count r))))

-- In a good file no row covers a module above 15, and the grid tells which pairs may call.
module _ (r : List ℕ) (n : ℕ) (e : file_of r ≡ Accepted n) where
  covers_below : (c d i : ℕ) → i < row_count r → covers r c d i ≡ true → (c < 16) × (d < 16)
  covers_below c d i h t = omega (arith, (covers-told r c d i).0 t, rule_ranges r i (rules_fine r n e i h))

  rules_none : (c d : ℕ) → (c < 16 → d < 16 → ⊥) → rules_for r c d ≡ []
  unfolding rules_for hits
  rules_none c d o = rw zero-add at (hits_skip (covers r c d) 0 (row_count r) (λ i lo hi. test_fails _ (λ t. let b = covers_below c d i (omega arith) t in o b.0 b.1)))

  pub permits-same : (c d : ℕ) → permits_in (grid_of r) c d ≡ permits r c d
  unfolding permits_in permits grid_of rules_for
  permits-same c d = go (dec_lt c 16) (dec_lt d 16)
    where
      go : Dec (c < 16) → Dec (d < 16) → (ltb c 16 && ltb d 16 && is_allowed (get_or (grid_of r) (16 * c + d) Unruled)) ≡ allowed_by r (rules_for r c d)
      go (yes a) (yes b) =
          let x : (16 * c + d) / 16 ≡ c = omega arith in
          let y : (16 * c + d) % 16 ≡ d = omega arith in
          rw (lt-ltb c 16 a, lt-ltb d 16 b, grid_at r (row_count r) (16 * c + d) (omega arith), x, y) (standing-allowed r (hits (covers r c d) (row_count r)))
      go (yes a) (no b) = rw (rules_none c d (λ g h. b h), le-ltb d 16 (omega arith), and-false)
      go (no a) b = rw (rules_none c d (λ g h. a g), le-ltb c 16 (omega arith))

  pub calls_same : (grid : List Standing) (t : List ℕ) (ix : Index) → grid ≡ grid_of r → calls_in grid ix t ≡ code_pass (λ (q : ℕ). call_fault r t ix) ix t
  unfolding calls_in forbidden_in call_fault
  calls_same grid t ix q = rw q (ap (λ (f : ℕ → ProcedureEntry → ℕ → ℕ). code_pass f ix t) (fun_ext (λ q. fun_ext (λ p. fun_ext (λ i. rw permits-same)))))

-- The fault of instruction i, from what is read of it: that of one that is no Call, and that of a Call.
module _ (grid : List Standing) (code : List ℕ) (ix : Index) (own : ProcedureEntry) (i : ℕ) (row : Row) (e : row ≡ row_at code i) where
  pub other_fault : (row.a ≡ op_call → ⊥) → forbidden_in grid code ix own i ≡ 0
  unfolding forbidden_in
  other_fault h = rw (← e, ne_eqb row.a op_call h)

  pub call-fault : (callee : ProcedureEntry) (may : Bool) → row.a ≡ op_call → callee ≡ procedure_in ix row.b → may ≡ permits_in grid own.owner callee.owner → forbidden_in grid code ix own i ≡ cond (not may) forbidden_call 0
  unfolding forbidden_in
  call-fault callee may h q m = rw (m, q, ← e, eq-eqb row.a op_call h)

-- the verdict on the part that is a procedure's code
pub judged_part : (grid : List Standing) (t code : List ℕ) (ix : Index) (p : ℕ) (own : ProcedureEntry) (v : Verdict) → code ≡ code_of t own → v ≡ code_verdict (forbidden_in grid code ix own) own.code (row_count code)
    → verdict_of (λ (q : ℕ) (own : ProcedureEntry). forbidden_in grid (code_of t own) ix own) ix t p own ≡ v
unfolding verdict_of
judged_part grid t code ix p own v e q = sym (rw e at q)
