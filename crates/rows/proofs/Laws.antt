-- Laws of the tables by kind. What concerns one byte is computed once over its 256 values.
use Prim.Native.Nat.{ℕ, zero, suc, ◌<◌, ◌≤◌}
use mathlib.Core.Path.{◌≡◌, refl, sym, ◌∙◌}
use mathlib.Core.Bool.{Bool, true, false, cond, not, ◌&&◌, ◌||◌, beq, false≢true, or-true}
use mathlib.Core.List.{List, [], ◌∷◌}
use native.Mathlib.Omega.{arith}
use native.Mathlib.Decide.{dec_lt}
use borrow.Author.Tests.{eqb-true, ne_eqb, leb-true, leb-false, lt-ltb}
use lib.Dec.{eqb, leb, ltb}
use lib.ListN.{get_or, get_or-eq_default}
use Rattle.laws.specs.Lists.{every, member, none}
use Rattle.laws.proofs.Lists.{every-at}
use Rattle.laws.proofs.Tests.{and_both}
use Rattle.table.specs.Format.{past_sorts, past_opcodes}
use Rattle.table.specs.declared.Row.{Row}
use Rattle.rows.specs.declared.Above.{Above}
use Rattle.rows.specs.declared.Kind.{Kind}
use Rattle.rows.specs.Rows.{may_follow, limits, uses, use_of, used_with, unused, Use, count_of, row_fault, too_many}
use Rattle.rows.proofs.Faults.{faultless}

beq_eq : (a b : Bool) → beq a b ≡ true → a ≡ b
beq_eq true true e = refl
beq_eq true false e = absurd (false≢true e)
beq_eq false true e = absurd (false≢true e)
beq_eq false false e = refl

-- two tests that agree on every number below n
pub agree : (f g : ℕ → Bool) (n x : ℕ) → every (λ (x : ℕ). beq (f x) (g x)) n ≡ true → x < n → f x ≡ g x
agree f g n x e h = beq_eq (f x) (g x) (every-at (λ (x : ℕ). beq (f x) (g x)) n x e h)

-- the kinds that a row may follow, as the code has them: from, to
abbrev pub froms : List ℕ
froms = 1 ∷ 0 ∷ 1 ∷ 2 ∷ 1 ∷ 4 ∷ 4 ∷ 4 ∷ []

abbrev pub tos : List ℕ
tos = 0 ∷ 7 ∷ 3 ∷ 3 ∷ 7 ∷ 5 ∷ 6 ∷ 7 ∷ []

not_after : ℕ → ℕ → Bool
not_after x k = not (member x (get_or may_follow k []))

outside : ℕ → ℕ → Bool
outside x k = cond (ltb x (get_or froms k 0)) true (ltb (get_or tos k 0) x)

agree_at : ℕ → Bool
agree_at x = every (λ (k : ℕ). beq (not_after x k) (outside x k)) 8

follows : every agree_at 256 ≡ true
unfolding every agree_at not_after outside may_follow member
follows = refl

pub follow : (x k : ℕ) → x < 256 → k < 8 → not (member x (get_or may_follow k [])) ≡ cond (ltb x (get_or froms k 0)) true (ltb (get_or tos k 0) x)
unfolding agree_at not_after outside
follow x k hx hk = agree (not_after x) (outside x) 8 k (every-at agree_at 256 x follows hx) hk

pub follow-none : (x k : ℕ) → 7 < k → not (member x (get_or may_follow k [])) ≡ true
unfolding may_follow member
follow-none x k h = rw (get_or-eq_default may_follow [] {n = k} h)

pub no_limit : (k : ℕ) → 7 < k → get_or limits k 0 ≡ 0
unfolding limits
no_limit k h = get_or-eq_default limits 0 {n = k} h

pub no_use : (k : ℕ) → 7 < k → use_of k ≡ unused
unfolding uses
no_use k h = get_or-eq_default uses unused {n = k} h

-- what is asked of the rows of each kind, as the code has it
abbrev pub no_rows : Kind
no_rows = record { after = 1; until = 0; limit = 0; values = 0 }

abbrev pub kinds : List Kind
kinds =
    no_rows
    ∷ record { after = 0; until = 7; limit = 16; values = 2 }
    ∷ record { after = 1; until = 3; limit = 64; values = 0 }
    ∷ record { after = 2; until = 3; limit = 8; values = 2 }
    ∷ record { after = 1; until = 7; limit = 128; values = 2 }
    ∷ record { after = 4; until = 5; limit = 16; values = past_sorts }
    ∷ record { after = 4; until = 6; limit = 4; values = past_sorts }
    ∷ record { after = 4; until = 7; limit = 256; values = past_opcodes }
    ∷ []

-- that it is what the rules ask
pub record Asks (k : ℕ) (kind : Kind) : Type 0 where
  pub follows : (x : ℕ) → x < 256 → (ltb x kind.after || ltb kind.until x) ≡ not (member x (get_or may_follow k []))
  pub limit : kind.limit ≡ get_or limits k 0
  pub values : kind.values ≡ (use_of k).values

asks : ℕ → Bool
asks k =
    eqb (get_or kinds k no_rows).after (get_or froms k 0) && eqb (get_or kinds k no_rows).until (get_or tos k 0)
    && eqb (get_or kinds k no_rows).limit (get_or limits k 0) && eqb (get_or kinds k no_rows).values (use_of k).values

all-ask : every asks 8 ≡ true
unfolding every asks limits uses
all-ask = refl

or_cond : (a b : Bool) → (a || b) ≡ cond a true b
or_cond true b = refl
or_cond false b = refl

pub kind_asks : (k : ℕ) → Asks k (get_or kinds k no_rows)
unfolding asks
kind_asks k = go (dec_lt k 8)
  where
    within : (k : ℕ) → k < 8 → Asks k (get_or kinds k no_rows)
    within k h =
        let v = and_both _ _ (every-at asks 8 k all-ask h) in
        let l = and_both _ _ v.0 in
        let f = and_both _ _ l.0 in
        let a : (get_or kinds k no_rows).after ≡ get_or froms k 0 = eqb-true _ _ f.0 in
        let u : (get_or kinds k no_rows).until ≡ get_or tos k 0 = eqb-true _ _ f.1 in
        record {
          follows = λ x hx. rw (a, u) (or_cond (ltb x (get_or froms k 0)) (ltb (get_or tos k 0) x) ∙ sym (follow x k hx h));
          limit = eqb-true _ _ l.1;
          values = eqb-true _ _ v.1;
        }

    past : 7 < k → (kind : Kind) → kind ≡ no_rows → Asks k kind
    past h kind e = record {
      follows = λ x hx. rw (e, follow-none x k h) (outside_none x);
      limit = rw (e, no_limit k h);
      values = rw (e, no_use k h);
    }
      where
        outside_none : (x : ℕ) → (ltb x 1 || ltb 0 x) ≡ true
        outside_none zero = refl
        outside_none (suc x) = rw (lt-ltb 0 (suc x) (omega arith)) (or-true _)

    go : Dec (k < 8) → Asks k (get_or kinds k no_rows)
    go (yes h) = within k h
    go (no h) = past (omega arith) (get_or kinds k no_rows) (get_or-eq_default kinds no_rows {n = k} (omega arith))

-- which values of A use B, C and D, as the code has them
pub operand : (a : ℕ) → a < 256 → used_with past_opcodes a (use_of 7).with_b ≡ not (member a (0 ∷ 1 ∷ 6 ∷ 7 ∷ 16 ∷ 20 ∷ []))
unfolding every uses used_with member none
operand a h = agree (λ (a : ℕ). used_with past_opcodes a (use_of 7).with_b) (λ (a : ℕ). not (member a (0 ∷ 1 ∷ 6 ∷ 7 ∷ 16 ∷ 20 ∷ []))) 256 a refl h

pub typed : (a : ℕ) → a < 256 → used_with past_sorts a (use_of 5).with_b ≡ not (member a (0 ∷ 2 ∷ 4 ∷ []))
unfolding every uses used_with member none
typed a h = agree (λ (a : ℕ). used_with past_sorts a (use_of 5).with_b) (λ (a : ℕ). not (member a (0 ∷ 2 ∷ 4 ∷ []))) 256 a refl h

pub field-type : (a : ℕ) → a < 256 → used_with 2 a (use_of 3).with_b ≡ not (eqb a 0)
unfolding every uses used_with member none
field-type a h = agree (λ (a : ℕ). used_with 2 a (use_of 3).with_b) (λ (a : ℕ). not (eqb a 0)) 256 a refl h

pub field-mark : (a : ℕ) → a < 256 → used_with 2 a (use_of 3).with_c ≡ true
unfolding every uses used_with member none
field-mark a h = agree (λ (a : ℕ). used_with 2 a (use_of 3).with_c) (λ (a : ℕ). true) 256 a refl h

pub local-mark : (a : ℕ) → a < 256 → used_with past_sorts a (use_of 5).with_c ≡ true
unfolding every uses used_with member none
local-mark a h = agree (λ (a : ℕ). used_with past_sorts a (use_of 5).with_c) (λ (a : ℕ). true) 256 a refl h

pub constant : (a : ℕ) → a < 256 → used_with past_opcodes a (use_of 7).with_d ≡ (eqb a 1 || leb past_opcodes a)
unfolding every uses used_with member none
constant a h = agree (λ (a : ℕ). used_with past_opcodes a (use_of 7).with_d) (λ (a : ℕ). eqb a 1 || leb past_opcodes a) 256 a refl h

-- what no value of A uses is not used
pub never : (n a : ℕ) (l : List ℕ) → l ≡ [] → used_with n a l ≡ false
unfolding used_with member none
never n a l e = rw e (go (ltb a n))
  where
    go : (b : Bool) → cond b false false ≡ false
    go true = refl
    go false = refl

-- of the kinds, those of `ks` alone have a use for what `pick` picks
pub unused_but : (pick : Use → List ℕ) (ks : List ℕ) → every (λ (k : ℕ). member k ks || none (pick (use_of k))) 8 ≡ true → none (pick unused) ≡ true
    → (k : ℕ) → member k ks ≡ false → pick (use_of k) ≡ []
unfolding none
unused_but pick ks all out k miss = empty (pick (use_of k)) (go (dec_lt k 8))
  where
    empty : (l : List ℕ) → none l ≡ true → l ≡ []
    empty [] e = refl
    empty (x ∷ xs) e = absurd (false≢true e)

    go : Dec (k < 8) → none (pick (use_of k)) ≡ true
    go (yes h) = rw miss at (every-at (λ (k : ℕ). member k ks || none (pick (use_of k))) 8 k all h)
    go (no h) = rw (no_use k (omega arith)) out

module _ (k : ℕ) where
  pub no_b : (k ≡ 3 → ⊥) → (k ≡ 5 → ⊥) → (k ≡ 6 → ⊥) → (k ≡ 7 → ⊥) → (use_of k).with_b ≡ []
  unfolding every uses member none
  no_b n3 n5 n6 n7 = unused_but (λ (u : Use). u.with_b) (3 ∷ 5 ∷ 6 ∷ 7 ∷ []) refl refl k (rw (ne_eqb k 3 n3, ne_eqb k 5 n5, ne_eqb k 6 n6, ne_eqb k 7 n7))

  pub no_c : (k ≡ 3 → ⊥) → (k ≡ 5 → ⊥) → (use_of k).with_c ≡ []
  unfolding every uses member none
  no_c n3 n5 = unused_but (λ (u : Use). u.with_c) (3 ∷ 5 ∷ []) refl refl k (rw (ne_eqb k 3 n3, ne_eqb k 5 n5))

  pub no_d : (k ≡ 7 → ⊥) → (use_of k).with_d ≡ []
  unfolding every uses member none
  no_d n7 = unused_but (λ (u : Use). u.with_d) (7 ∷ []) refl refl k (rw (ne_eqb k 7 n7))

-- locals and results have sorts
pub sorted : (k a : ℕ) → 5 ≤ k → k ≤ 6 → used_with (use_of k).values a (use_of k).with_b ≡ used_with past_sorts a (use_of 5).with_b
unfolding uses
sorted k a lo hi = go (dec_lt k 6)
  where
    go : Dec (k < 6) → used_with (use_of k).values a (use_of k).with_b ≡ used_with past_sorts a (use_of 5).with_b
    go (yes h) = let e : k ≡ 5 = omega arith in rw e
    go (no h) = let e : k ≡ 6 = omega arith in rw e

limits-low : every (λ (k : ℕ). leb (get_or limits k 0) 256) 8 ≡ true
unfolding every limits
limits-low = refl

limit_low : (k : ℕ) → get_or limits k 0 ≤ 256
limit_low k = go (dec_lt k 8)
  where
    go : Dec (k < 8) → get_or limits k 0 ≤ 256
    go (yes h) = leb-true (get_or limits k 0) 256 (every-at (λ (k : ℕ). leb (get_or limits k 0) 256) 8 k limits-low h)
    go (no h) = rw (no_limit k (omega arith)) (omega arith)

-- below a row without fault its count stays small
pub fits_below : (s : Above) (row : Row) → row_fault s row ≡ 0 → count_of s row.kind < 65535
unfolding too_many
fits_below s row e = omega (arith, leb-false (get_or limits row.kind 0) (count_of s row.kind) ((faultless s row).0 e).within, limit_low row.kind)
