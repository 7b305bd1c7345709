-- The faults of the rows pass are, at every row, the lowest number that there is a cause for.
use Prim.Native.Nat.{ℕ, zero, suc, ◌+◌, ◌*◌, ◌<◌, ◌≤◌}
use mathlib.Core.Path.{◌≡◌, refl, sym, ap, ◌∙◌}
use mathlib.Core.Bool.{Bool, true, false, cond, not, ◌&&◌, ◌||◌, or-true, or-false, beq, false≢true}
use mathlib.Core.List.{List, []}
use mathlib.Core.Logic.{◌↔◌, ◌⊎◌, inl, inr}
use native.Mathlib.Decide.{dec_lt}
use native.Mathlib.Omega.{arith}
use borrow.Author.Tests.{eqb-true, eqb-false, ne_eqb, ltb-true, lt-ltb, le-ltb, leb-true, le-leb, not-true}
use lib.Dec.{eqb, ltb, leb}
use lib.ListN.{get_or, get_or-eq_default}
use Rattle.laws.specs.Lists.{member, none, every}
use Rattle.laws.specs.Numbers.{le}
use Rattle.laws.proofs.Cases.{below_each, ◌▸◌}
use Rattle.laws.proofs.Lists.{one_of_two}
use Rattle.laws.proofs.Numbers.{byte-shown, byte-found}
use Rattle.laws.proofs.Tests.{and_both}
use Rattle.table.specs.declared.Row.{Row}
use Rattle.table.specs.Format.{row_bytes, module_kind, field_kind, procedure_kind, local_kind, instruction_kind, number_sort, past_sorts, op_op, past_opcodes, past_ops}
use Rattle.table.specs.Rows.{row_count, row_at, row_from, kind_at}
use Rattle.table.specs.Flags.{is_trusted, is_guarded, is_parameter}
use Rattle.table.specs.Refusals.{bad_place, over_limit, dirty_byte, wrong_value, wrong_guard}
use Rattle.table.proofs.Laws.{row_inside}
use Rattle.rows.specs.declared.Above.{Above}
use Rattle.rows.specs.Rows.{uses, use_of, used_with, uses_a, uses_b, uses_c, uses_d, dirty as is_dirty, misplaced, too_many, unused_byte, late_parameter, bad_op, bad_value, bad_guard, row_fault, fault_at, above_at, below_row}
use Rattle.rows.proofs.Laws.{agree, never, no_use}
use Rattle.acceptance.specs.RowRefusals.{used_a, over_a, used_b, used_c, used_d, used_bytes, DirtyByte, RowAbove, InTrusted, AfterOther, RowCause, not_there, one-too-many, dirty, wrong-a, wrong-c, late, wrong-op, guarded-record, guarded-outside}
use Rattle.acceptance.proofs.RowPlaces.{by_kind, place_is, count-shown, count-found}

-- one of four tests holds
which_of : (a b c d : Bool) → (a || b || c || d) ≡ true → (a ≡ true) ⊎ (b ≡ true) ⊎ (c ≡ true) ⊎ (d ≡ true)
which_of true b c d e = inl refl
which_of false true c d e = inr (inl refl)
which_of false false true d e = inr (inr (inl refl))
which_of false false false d e = inr (inr (inr e))

some_of : (a b c d : Bool) → (a ≡ true) ⊎ (b ≡ true) ⊎ (c ≡ true) ⊎ (d ≡ true) → (a || b || c || d) ≡ true
some_of true b c d h = refl
some_of false true c d h = refl
some_of false false true d h = refl
some_of false false false d (inl e) = absurd (false≢true e)
some_of false false false d (inr (inl e)) = absurd (false≢true e)
some_of false false false d (inr (inr (inl e))) = absurd (false≢true e)
some_of false false false d (inr (inr (inr e))) = e

-- A flag that the rule carries along: a row of kind k that `Sets` it puts it up, one of kind `new` takes it down. It is up where such a row stands above with none of kind `new` between.
module _ (t : List ℕ) (k new : ℕ) (Sets : Row → Type 0) (flag : ℕ → Bool) (down : flag 0 ≡ true → ⊥)
    (step : (i : ℕ) → (flag (suc i) ≡ true) ↔ (((kind_at t i ≡ k) × Sets (row_at t i)) ⊎ ((kind_at t i ≡ new → ⊥) × (flag i ≡ true)))) where
  abbrev Set-above : ℕ → Type 0
  Set-above i = (j : ℕ) × RowAbove t i k new j × Sets (row_at t j)

  shown : (i : ℕ) → flag i ≡ true → Set-above i
  shown zero e = absurd (down e)
  shown (suc i) e = go ((step i).0 e) (shown i)
    where
      go : ((kind_at t i ≡ k) × Sets (row_at t i)) ⊎ ((kind_at t i ≡ new → ⊥) × (flag i ≡ true)) → (flag i ≡ true → Set-above i) → Set-above (suc i)
      go (inl (q, s)) rest = (i, record { above = omega arith; kind = q; between-them = λ m lo hi z. omega arith }, s)
      go (inr (n, e)) rest =
          let r = rest e in
          (r.0, record { above = omega (arith, r.1.above); kind = r.1.kind; between-them = λ m lo hi z. go-between r m lo hi z (dec_lt m i) }, r.2)
        where
          go-between : (r : Set-above i) (m : ℕ) → r.0 < m → m < suc i → kind_at t m ≡ new → Dec (m < i) → ⊥
          go-between r m lo hi z (yes l) = r.1.between-them m lo l z
          go-between r m lo hi z (no l) = let s : m ≡ i = omega arith in n (rw s at z)

  found : (i : ℕ) → Set-above i → flag i ≡ true
  found zero (j, a, s) = absurd (omega (arith, a.above))
  found (suc i) (j, a, s) = (step i).1 (go (dec_lt j i) (λ b. found i (j, b, s)))
    where
      go : Dec (j < i) → (RowAbove t i k new j → flag i ≡ true) → ((kind_at t i ≡ k) × Sets (row_at t i)) ⊎ ((kind_at t i ≡ new → ⊥) × (flag i ≡ true))
      go (yes l) rest = inr (a.between-them i l (omega arith), rest (record { above = l; kind = a.kind; between-them = λ m lo hi. a.between-them m lo (omega arith) }))
      go (no l) rest = let q : j ≡ i = omega (arith, a.above) in inl (rw q at a.kind, rw q at s)

  above_if : (i : ℕ) → (flag i ≡ true) ↔ Set-above i
  above_if i = (shown i, found i)

module _ (t : List ℕ) where
  -- trusted: the nearest module above is
  trusted-step : (i : ℕ) → ((above_at t (suc i)).trusted ≡ true) ↔ (((kind_at t i ≡ module_kind) × (is_trusted (row_at t i) ≡ true)) ⊎ ((kind_at t i ≡ module_kind → ⊥) × ((above_at t i).trusted ≡ true)))
  unfolding above_at below_row kind_at
  trusted-step i = (go (eqb (kind_at t i) module_kind) refl, back)
    where
      go : (b : Bool) → eqb (kind_at t i) module_kind ≡ b → cond b (is_trusted (row_at t i)) (above_at t i).trusted ≡ true
          → ((kind_at t i ≡ module_kind) × (is_trusted (row_at t i) ≡ true)) ⊎ ((kind_at t i ≡ module_kind → ⊥) × ((above_at t i).trusted ≡ true))
      go true q e = inl (eqb-true _ _ q, e)
      go false q e = inr (eqb-false _ _ q, e)

      back : ((kind_at t i ≡ module_kind) × (is_trusted (row_at t i) ≡ true)) ⊎ ((kind_at t i ≡ module_kind → ⊥) × ((above_at t i).trusted ≡ true))
          → cond (eqb (kind_at t i) module_kind) (is_trusted (row_at t i)) (above_at t i).trusted ≡ true
      back (inl (q, e)) = rw q e
      back (inr (n, e)) = rw (ne_eqb _ _ n) e

  trusted_if : (i : ℕ) → ((above_at t i).trusted ≡ true) ↔ InTrusted t i
  unfolding above_at
  trusted_if = above_if t _ _ (λ (row : Row). is_trusted row ≡ true) (λ (i : ℕ). (above_at t i).trusted) (λ e. false≢true e) trusted-step

  -- other: some local above in the procedure is no parameter
  other_step : (i : ℕ) → ((above_at t (suc i)).other ≡ true) ↔ (((kind_at t i ≡ local_kind) × (is_parameter (row_at t i) ≡ false)) ⊎ ((kind_at t i ≡ procedure_kind → ⊥) × ((above_at t i).other ≡ true)))
  unfolding above_at below_row kind_at
  other_step i = (go (eqb (kind_at t i) procedure_kind) refl (eqb (kind_at t i) local_kind) refl (is_parameter (row_at t i)) refl, back)
    where
      go : (b : Bool) → eqb (kind_at t i) procedure_kind ≡ b → (c : Bool) → eqb (kind_at t i) local_kind ≡ c → (d : Bool) → is_parameter (row_at t i) ≡ d → cond b false ((c && not d) || (above_at t i).other) ≡ true
          → ((kind_at t i ≡ local_kind) × (is_parameter (row_at t i) ≡ false)) ⊎ ((kind_at t i ≡ procedure_kind → ⊥) × ((above_at t i).other ≡ true))
      go true p c q d r e = absurd (false≢true e)
      go false p true q false r e = inl (eqb-true _ _ q, r)
      go false p true q true r e = inr (eqb-false _ _ p, e)
      go false p false q d r e = inr (eqb-false _ _ p, e)

      back : ((kind_at t i ≡ local_kind) × (is_parameter (row_at t i) ≡ false)) ⊎ ((kind_at t i ≡ procedure_kind → ⊥) × ((above_at t i).other ≡ true))
          → cond (eqb (kind_at t i) procedure_kind) false ((eqb (kind_at t i) local_kind && not (is_parameter (row_at t i))) || (above_at t i).other) ≡ true
      back (inl (q, e)) = rw (q, e)
      back (inr (n, e)) = rw (ne_eqb _ _ n, e) (or-true (eqb (kind_at t i) local_kind && not (is_parameter (row_at t i))))

  other_if : (i : ℕ) → ((above_at t i).other ≡ true) ↔ AfterOther t i
  unfolding above_at
  other_if = above_if t _ _ (λ (row : Row). is_parameter row ≡ false) (λ (i : ℕ). (above_at t i).other) (λ e. false≢true e) other_step

-- Which parts of a row are used, and how large A may be: what is said by kind and A is what the table of uses says, of each kind and of what is none.

-- a use for some of A's values and beside those past them, as a test of A
used_if : (n : ℕ) (values : List ℕ) (test : ℕ → Bool) → every (λ (a : ℕ). beq (member a values) (test a)) n ≡ true → none values ≡ false → ((a : ℕ) → n ≤ a → test a ≡ true)
    → (a : ℕ) → used_with n a values ≡ test a
unfolding used_with
used_if n values test same some past a = go (dec_lt a n)
  where
    go : Dec (a < n) → cond (ltb a n) (member a values) (not (none values)) ≡ test a
    go (yes h) = rw (lt-ltb a n h) (agree (λ (a : ℕ). member a values) test n a same h)
    go (no h) = rw (le-ltb a n (omega arith), some) (sym (past a (omega arith)))

-- no use at all
unused : (n a : ℕ) → used_with n a [] ≡ false
unused n a = never n a [] refl

alone : (b : Bool) → (b || false || false) ≡ b
alone true = refl
alone false = refl

pub use_a : (k : ℕ) → ltb 0 (use_of k).values ≡ used_a k
unfolding uses used_a member
use_a = by_kind (λ (k : ℕ). ltb 0 (use_of k).values ≡ used_a k) (refl ▸ refl ▸ refl ▸ refl ▸ refl ▸ refl ▸ refl ▸ refl ▸ tt)
    (λ k h. rw (no_use k (omega arith), ne_eqb k 1 (λ z. omega arith), ne_eqb k 3 (λ z. omega arith), ne_eqb k 4 (λ z. omega arith), ne_eqb k 5 (λ z. omega arith), ne_eqb k 6 (λ z. omega arith), ne_eqb k 7 (λ z. omega arith)))

pub over-a : (k a : ℕ) → (ltb 0 (use_of k).values && leb (use_of k).values a) ≡ over_a k a
unfolding uses over_a member
over-a = by_kind (λ (k : ℕ). (a : ℕ) → (ltb 0 (use_of k).values && leb (use_of k).values a) ≡ over_a k a)
    ((λ a. refl) ▸ (λ a. sym (alone (leb 2 a))) ▸ (λ a. refl) ▸ (λ a. sym (alone (leb 2 a))) ▸ (λ a. sym (alone (leb 2 a))) ▸ (λ a. sym (or-false (leb past_sorts a))) ▸ (λ a. sym (or-false (leb past_sorts a))) ▸ (λ a. refl) ▸ tt)
    (λ k h a. rw (no_use k (omega arith), ne_eqb k 1 (λ z. omega arith), ne_eqb k 3 (λ z. omega arith), ne_eqb k 4 (λ z. omega arith), ne_eqb k 5 (λ z. omega arith), ne_eqb k 6 (λ z. omega arith), ne_eqb k 7 (λ z. omega arith)))

pub use_b : (k a : ℕ) → used_with (use_of k).values a (use_of k).with_b ≡ used_b k a
unfolding uses used_b member every none
use_b = by_kind (λ (k : ℕ). (a : ℕ) → used_with (use_of k).values a (use_of k).with_b ≡ used_b k a)
    (unused 0 ▸ unused 2 ▸ unused 0 ▸ used_if 2 _ (used_b 3) refl refl (λ a h. rw (le-leb 1 a (omega arith))) ▸ unused 2
    ▸ used_if past_sorts _ (used_b 5) refl refl (λ a h. rw (le-leb past_sorts a h)) ▸ used_if past_sorts _ (used_b 6) refl refl (λ a h. rw (le-leb past_sorts a h)) ▸ used_if past_opcodes _ (used_b 7) refl refl (λ a h. rw (le-leb past_opcodes a h)) ▸ tt)
    (λ k h a. rw (no_use k (omega arith), ne_eqb k 3 (λ z. omega arith), ne_eqb k 5 (λ z. omega arith), ne_eqb k 6 (λ z. omega arith), ne_eqb k 7 (λ z. omega arith)) (never 0 a [] refl))

pub use_c : (k a : ℕ) → used_with (use_of k).values a (use_of k).with_c ≡ used_c k
unfolding uses used_c member every none
use_c = by_kind (λ (k : ℕ). (a : ℕ) → used_with (use_of k).values a (use_of k).with_c ≡ used_c k)
    (unused 0 ▸ unused 2 ▸ unused 0 ▸ used_if 2 _ (λ (a : ℕ). true) refl refl (λ a h. refl) ▸ unused 2 ▸ used_if past_sorts _ (λ (a : ℕ). true) refl refl (λ a h. refl) ▸ unused past_sorts ▸ unused past_opcodes ▸ tt)
    (λ k h a. rw (no_use k (omega arith), ne_eqb k 3 (λ z. omega arith), ne_eqb k 5 (λ z. omega arith)) (never 0 a [] refl))

pub use_d : (k a : ℕ) → used_with (use_of k).values a (use_of k).with_d ≡ used_d k a
unfolding uses used_d member every none
use_d = by_kind (λ (k : ℕ). (a : ℕ) → used_with (use_of k).values a (use_of k).with_d ≡ used_d k a)
    (unused 0 ▸ unused 2 ▸ unused 0 ▸ unused 2 ▸ unused 2 ▸ unused past_sorts ▸ unused past_sorts ▸ used_if past_opcodes _ (used_d 7) refl refl (λ a h. rw (le-leb past_opcodes a h)) ▸ tt)
    (λ k h a. rw (no_use k (omega arith), ne_eqb k 7 (λ z. omega arith)) (never 0 a [] refl))

-- the number that a row earns, by its five tests: no higher than that of a test that holds
abbrev told : Bool → Bool → Bool → Bool → Bool → ℕ
told a b c d e = cond a bad_place (cond b over_limit (cond c dirty_byte (cond d wrong_value (cond e wrong_guard 0))))

abbrev Low : ℕ → ℕ → Type 0
Low f number = (f ≡ 0 → ⊥) × (f ≤ number)

by_place : (a b c d e : Bool) → a ≡ true → Low (told a b c d e) bad_place
by_place a b c d e h = rw h (λ z. omega arith, omega arith)

by_limit : (a b c d e : Bool) → b ≡ true → Low (told a b c d e) over_limit
by_limit true b c d e h = (λ z. omega arith, omega arith)
by_limit false b c d e h = rw h (λ z. omega arith, omega arith)

by_byte : (a b c d e : Bool) → c ≡ true → Low (told a b c d e) dirty_byte
by_byte true b c d e h = (λ z. omega arith, omega arith)
by_byte false true c d e h = (λ z. omega arith, omega arith)
by_byte false false c d e h = rw h (λ z. omega arith, omega arith)

by_value : (a b c d e : Bool) → d ≡ true → Low (told a b c d e) wrong_value
by_value true b c d e h = (λ z. omega arith, omega arith)
by_value false true c d e h = (λ z. omega arith, omega arith)
by_value false false true d e h = (λ z. omega arith, omega arith)
by_value false false false d e h = rw h (λ z. omega arith, omega arith)

by_guard : (a b c d e : Bool) → e ≡ true → Low (told a b c d e) wrong_guard
by_guard true b c d e h = (λ z. omega arith, omega arith)
by_guard false true c d e h = (λ z. omega arith, omega arith)
by_guard false false true d e h = (λ z. omega arith, omega arith)
by_guard false false false true e h = (λ z. omega arith, omega arith)
by_guard false false false false e h = rw h (λ z. omega arith, omega arith)

-- Row i of a table.
module _ (t : List ℕ) (i : ℕ) (inside : i < row_count t) where
  abbrev here : Row
  here = row_at t i

  abbrev state : Above
  state = above_at t i

  -- 4. An unused byte that is not zero
  abbrev bytes : List Bool
  bytes = used_bytes here.kind here.a

  -- a part of `width` bytes from byte `from` on
  part_shown : (used : Bool) (from width x : ℕ) → x ≡ le t (row_bytes * i + from) width → ((k : ℕ) → k < width → get_or bytes (from + k) true ≡ used) → is_dirty used x ≡ true → DirtyByte t i
  part_shown used from width x is same e =
      let h = and_both (not used) _ e in
      let b = byte-shown t (row_bytes * i + from) width (λ z. eqb-false _ _ (not-true _ h.1) (is ∙ z)) in
      let s : row_bytes * i + from + b.0 ≡ row_bytes * i + (from + b.0) = omega arith in
      (from + b.0, same b.0 b.1 ∙ not-true _ h.0, rw s at b.2)

  part_found : (used : Bool) (from width x : ℕ) → x ≡ le t (row_bytes * i + from) width → (k : ℕ) → k < width → used ≡ false → (get_or t (row_bytes * i + (from + k)) 0 ≡ 0 → ⊥) → is_dirty used x ≡ true
  part_found used from width x is k h u n =
      let s : row_bytes * i + (from + k) ≡ row_bytes * i + from + k = omega arith in
      rw (u, ne_eqb x 0 (λ z. byte-found t (row_bytes * i + from) width k h (rw s at n) (sym is ∙ z)))

  a-is : here.a ≡ le t (row_bytes * i + 1) 1
  unfolding row_from le
  a-is = ap (λ (r : Row). r.a) (row_inside t i inside) ∙ omega arith

  b_is : here.b ≡ le t (row_bytes * i + 2) 2
  unfolding row_from
  b_is = ap (λ (r : Row). r.b) (row_inside t i inside)

  c-is : here.c ≡ le t (row_bytes * i + 4) 4
  unfolding row_from
  c-is = ap (λ (r : Row). r.c) (row_inside t i inside)

  d_is : here.d ≡ le t (row_bytes * i + 8) 8
  unfolding row_from
  d_is = ap (λ (r : Row). r.d) (row_inside t i inside)

  abbrev dirty_a : Bool
  dirty_a = is_dirty (used_a here.kind) here.a

  abbrev dirty_b : Bool
  dirty_b = is_dirty (used_b here.kind here.a) here.b

  abbrev dirty_c : Bool
  dirty_c = is_dirty (used_c here.kind) here.c

  abbrev dirty_d : Bool
  dirty_d = is_dirty (used_d here.kind here.a) here.d

  parts_are : unused_byte here ≡ (dirty_a || dirty_b || dirty_c || dirty_d)
  unfolding unused_byte uses_a uses_b uses_c uses_d
  parts_are = rw (use_a, use_b, use_c, use_d)

  some_part : (dirty_a ≡ true) ⊎ (dirty_b ≡ true) ⊎ (dirty_c ≡ true) ⊎ (dirty_d ≡ true) → unused_byte here ≡ true
  some_part h = parts_are ∙ some_of dirty_a dirty_b dirty_c dirty_d h

  dirty-shown : unused_byte here ≡ true → DirtyByte t i
  dirty-shown e = go (which_of dirty_a dirty_b dirty_c dirty_d (sym parts_are ∙ e))
    where
      go : (dirty_a ≡ true) ⊎ (dirty_b ≡ true) ⊎ (dirty_c ≡ true) ⊎ (dirty_d ≡ true) → DirtyByte t i
      go (inl e) = part_shown (used_a here.kind) 1 1 here.a a-is (below_each (λ (k : ℕ). get_or bytes (1 + k) true ≡ used_a here.kind) 1 (refl ▸ tt)) e
      go (inr (inl e)) = part_shown (used_b here.kind here.a) 2 2 here.b b_is (below_each (λ (k : ℕ). get_or bytes (2 + k) true ≡ used_b here.kind here.a) 2 (refl ▸ refl ▸ tt)) e
      go (inr (inr (inl e))) = part_shown (used_c here.kind) 4 4 here.c c-is (below_each (λ (k : ℕ). get_or bytes (4 + k) true ≡ used_c here.kind) 4 (refl ▸ refl ▸ refl ▸ refl ▸ tt)) e
      go (inr (inr (inr e))) =
          part_shown (used_d here.kind here.a) 8 8 here.d d_is
          (below_each (λ (k : ℕ). get_or bytes (8 + k) true ≡ used_d here.kind here.a) 8 (refl ▸ refl ▸ refl ▸ refl ▸ refl ▸ refl ▸ refl ▸ refl ▸ tt)) e

  dirty-found : DirtyByte t i → unused_byte here ≡ true
  dirty-found (o, u, n) = go (dec_lt o 16)
    where
      Told : ℕ → Type 0
      Told o = get_or bytes o true ≡ false → (get_or t (row_bytes * i + o) 0 ≡ 0 → ⊥) → unused_byte here ≡ true

      in_b : (k : ℕ) → k < 2 → used_b here.kind here.a ≡ false → (get_or t (row_bytes * i + (2 + k)) 0 ≡ 0 → ⊥) → unused_byte here ≡ true
      in_b k h u n = some_part (inr (inl (part_found (used_b here.kind here.a) 2 2 here.b b_is k h u n)))

      in_c : (k : ℕ) → k < 4 → used_c here.kind ≡ false → (get_or t (row_bytes * i + (4 + k)) 0 ≡ 0 → ⊥) → unused_byte here ≡ true
      in_c k h u n = some_part (inr (inr (inl (part_found (used_c here.kind) 4 4 here.c c-is k h u n))))

      in_d : (k : ℕ) → k < 8 → used_d here.kind here.a ≡ false → (get_or t (row_bytes * i + (8 + k)) 0 ≡ 0 → ⊥) → unused_byte here ≡ true
      in_d k h u n = some_part (inr (inr (inr (part_found (used_d here.kind here.a) 8 8 here.d d_is k h u n))))

      go : Dec (o < 16) → unused_byte here ≡ true
      go (no h) = absurd (false≢true (sym u ∙ get_or-eq_default bytes true {n = o} (omega arith)))
      go (yes h) =
          below_each Told 16 (
          (λ u n. absurd (false≢true (sym u))) ▸ (λ u n. some_part (inl (part_found (used_a here.kind) 1 1 here.a a-is 0 (omega arith) u n))) ▸ in_b 0 (omega arith) ▸ in_b 1 (omega arith)
          ▸ in_c 0 (omega arith) ▸ in_c 1 (omega arith) ▸ in_c 2 (omega arith) ▸ in_c 3 (omega arith) ▸ in_d 0 (omega arith) ▸ in_d 1 (omega arith) ▸ in_d 2 (omega arith) ▸ in_d 3 (omega arith)
          ▸ in_d 4 (omega arith) ▸ in_d 5 (omega arith) ▸ in_d 6 (omega arith) ▸ in_d 7 (omega arith) ▸ tt
          ) o h u n

  -- 18. A value not allowed
  abbrev wrong_a : Bool
  wrong_a = over_a here.kind here.a

  abbrev wrong_c : Bool
  wrong_c = used_c here.kind && ltb 1 here.c

  values_are : bad_value state here ≡ (wrong_a || wrong_c || late_parameter state here || bad_op here)
  unfolding bad_value uses_a uses_c
  values_are = rw (over-a, use_c)

  some_value : (wrong_a ≡ true) ⊎ (wrong_c ≡ true) ⊎ (late_parameter state here ≡ true) ⊎ (bad_op here ≡ true) → bad_value state here ≡ true
  some_value h = values_are ∙ some_of wrong_a wrong_c (late_parameter state here) (bad_op here) h

  value_shown : bad_value state here ≡ true → RowCause t i wrong_value
  unfolding used_c
  value_shown e = go (which_of wrong_a wrong_c (late_parameter state here) (bad_op here) (sym values_are ∙ e))
    where
      go : (wrong_a ≡ true) ⊎ (wrong_c ≡ true) ⊎ (late_parameter state here ≡ true) ⊎ (bad_op here ≡ true) → RowCause t i wrong_value
      go (inl e) = wrong-a e
      go (inr (inl e)) = let h = and_both (used_c here.kind) _ e in wrong-c (one_of_two field_kind local_kind here.kind h.0) (ltb-true _ _ h.1)
      go (inr (inr (inl e))) =
          let h = and_both (eqb here.kind local_kind && is_parameter here) state.other e in let g = and_both (eqb here.kind local_kind) (is_parameter here) h.0 in
          late (eqb-true _ _ g.0) g.1 ((other_if t i).0 h.1)
      go (inr (inr (inr e))) =
          let h = and_both (eqb here.kind instruction_kind && eqb here.a op_op) (leb past_ops here.b) e in let g = and_both (eqb here.kind instruction_kind) (eqb here.a op_op) h.0 in
          wrong-op (eqb-true _ _ g.0) (eqb-true _ _ g.1) (leb-true _ _ h.1)

  a-found : over_a here.kind here.a ≡ true → bad_value state here ≡ true
  a-found e = some_value (inl e)

  c-found : (here.kind ≡ field_kind) ⊎ (here.kind ≡ local_kind) → 1 < here.c → bad_value state here ≡ true
  unfolding used_c member
  c-found (inl k) h = some_value (inr (inl (rw (k, lt-ltb _ _ h))))
  c-found (inr k) h = some_value (inr (inl (rw (k, lt-ltb _ _ h))))

  late-found : here.kind ≡ local_kind → is_parameter here ≡ true → AfterOther t i → bad_value state here ≡ true
  late-found k p a = some_value (inr (inr (inl (rw (k, p, (other_if t i).1 a)))))

  op-found : here.kind ≡ instruction_kind → here.a ≡ op_op → past_ops ≤ here.b → bad_value state here ≡ true
  op-found k o h = some_value (inr (inr (inr (rw (k, o, le-leb _ _ h)))))

  -- 19. A guard misplaced
  guard_shown : bad_guard state here ≡ true → RowCause t i wrong_guard
  unfolding bad_guard
  guard_shown e =
      let h = and_both (eqb here.kind field_kind && is_guarded here) _ e in let g = and_both (eqb here.kind field_kind) (is_guarded here) h.0 in
      go (eqb here.a number_sort) refl state.trusted refl (not-true _ h.1) (eqb-true _ _ g.0) g.1
    where
      go : (a : Bool) → eqb here.a number_sort ≡ a → (b : Bool) → state.trusted ≡ b → (a && b) ≡ false → here.kind ≡ field_kind → is_guarded here ≡ true → RowCause t i wrong_guard
      go false p b q e k g = guarded-record k g (eqb-false _ _ p)
      go true p false q e k g = guarded-outside k g (λ a. false≢true (sym q ∙ (trusted_if t i).1 a))
      go true p true q e k g = absurd (false≢true (sym e))

  record_found : here.kind ≡ field_kind → is_guarded here ≡ true → (here.a ≡ number_sort → ⊥) → bad_guard state here ≡ true
  unfolding bad_guard
  record_found k g n = rw (k, g, ne_eqb _ _ n)

  outside_found : here.kind ≡ field_kind → is_guarded here ≡ true → (InTrusted t i → ⊥) → bad_guard state here ≡ true
  unfolding bad_guard
  outside_found k g n = rw (k, g) (go (eqb here.a number_sort) state.trusted refl)
    where
      go : (a b : Bool) → state.trusted ≡ b → not (a && b) ≡ true
      go true true q = absurd (n ((trusted_if t i).0 q))
      go true false q = refl
      go false b q = refl

  -- what is told is a cause
  pub row-shown : (fault_at t i ≡ 0 → ⊥) → RowCause t i (fault_at t i)
  unfolding fault_at row_fault
  row-shown = go (misplaced state here) refl (too_many state here) refl (unused_byte here) refl (bad_value state here) refl (bad_guard state here) refl
    where
      go : (a : Bool) → misplaced state here ≡ a → (b : Bool) → too_many state here ≡ b → (c : Bool) → unused_byte here ≡ c → (d : Bool) → bad_value state here ≡ d → (e : Bool) → bad_guard state here ≡ e
          → (told a b c d e ≡ 0 → ⊥) → RowCause t i (told a b c d e)
      go true p b q c r d s e u n = not_there (not-true _ (sym (place_is t i) ∙ p))
      go false p true q c r d s e u n = one-too-many (count-shown t i p q)
      go false p false q true r d s e u n = dirty (dirty-shown r)
      go false p false q false r true s e u n = value_shown s
      go false p false q false r false s true u n = guard_shown u
      go false p false q false r false s false u n = absurd (n refl)

  -- where there is a cause, its number or a lower one is told
  value : bad_value state here ≡ true → Low (fault_at t i) wrong_value
  unfolding fault_at row_fault
  value = by_value (misplaced state here) (too_many state here) (unused_byte here) (bad_value state here) (bad_guard state here)

  guard : bad_guard state here ≡ true → Low (fault_at t i) wrong_guard
  unfolding fault_at row_fault
  guard = by_guard (misplaced state here) (too_many state here) (unused_byte here) (bad_value state here) (bad_guard state here)

  pub row-found : (number : ℕ) → RowCause t i number → (fault_at t i ≡ 0 → ⊥) × (fault_at t i ≤ number)
  unfolding fault_at row_fault
  row-found number (not_there e) = by_place (misplaced state here) (too_many state here) (unused_byte here) (bad_value state here) (bad_guard state here) (place_is t i ∙ rw e)
  row-found number (one-too-many f) = by_limit (misplaced state here) (too_many state here) (unused_byte here) (bad_value state here) (bad_guard state here) (count-found t i f)
  row-found number (dirty d) = by_byte (misplaced state here) (too_many state here) (unused_byte here) (bad_value state here) (bad_guard state here) (dirty-found d)
  row-found number (wrong-a e) = value (a-found e)
  row-found number (wrong-c k h) = value (c-found k h)
  row-found number (late k p a) = value (late-found k p a)
  row-found number (wrong-op k o h) = value (op-found k o h)
  row-found number (guarded-record k g n) = guard (record_found k g n)
  row-found number (guarded-outside k g n) = guard (outside_found k g n)
