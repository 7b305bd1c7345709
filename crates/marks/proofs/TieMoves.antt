-- Where a mark goes within a procedure, by the row of the instruction.
use Prim.Native.Nat.{ℕ, suc, ◌+◌, ◌-◌, ◌<◌, ◌≤◌}
use mathlib.Core.Path.{◌≡◌, refl, sym, ◌∙◌}
use mathlib.Core.Bool.{Bool, true, false, cond, ◌&&◌}
use mathlib.Core.List.{List, [], ◌∷◌, ◌++◌, append-nil}
use native.Mathlib.Omega.{arith}
use borrow.Author.Tests.{eqb-true, eqb-false, ltb-true, ltb-false, lt-ltb, le-ltb, eq-eqb, ne_eqb}
use lib.Dec.{eqb, ltb}
use lib.ListN.{length}
use Rattle.table.specs.declared.Row.{Row}
use Rattle.table.specs.Format.{op_mv_loc, op_cp_loc, op_st_loc}
use Rattle.flow.specs.Steps.{Step}
use Rattle.flow.specs.Places.{nodes_at, nodes_of, local_place, within, mark_moves}
use Rattle.helpers.proofs.Net.{lower}
use Rattle.marks.specs.code.Search.{per_row, goes_to, copies}
use Rattle.marks.proofs.TieMade.{no_nodes}

-- the nodes of one place at these rows, where it is a place
abbrev pub nodes_if : List ℕ → ℕ → List ℕ
nodes_if js y = cond (ltb y per_row) (nodes_of per_row js (y ∷ [])) []

-- the same, from the place of the analysis
one_place : (js : List ℕ) (y : ℕ) → nodes_if js y ++ [] ≡ nodes_of per_row js (lower (within (suc y ∷ [])))
unfolding lower within
one_place js y = append-nil _ ∙ go (ltb y per_row) refl
  where
    go : (b : Bool) → ltb y per_row ≡ b → cond b (nodes_of per_row js (y ∷ [])) [] ≡ nodes_of per_row js (lower (cond (ltb (suc y) 33) (suc y ∷ []) []))
    go true e = let h = ltb-true y per_row e in rw (lt-ltb (suc y) 33 (omega arith)) refl
    go false e = let h = ltb-false y per_row e in rw (le-ltb (suc y) 33 (omega arith)) (sym (no_nodes per_row js))

-- two places at one row
two_places : (js : List ℕ) (x : ℕ) → x < 16 → (j : ℕ) × (js ≡ j ∷ []) → nodes_if js x ++ nodes_of per_row js (16 ∷ []) ≡ nodes_of per_row js (lower (within (suc x ∷ 17 ∷ [])))
unfolding lower within nodes_of nodes_at
two_places js x h o = rw (o.1, lt-ltb x per_row (omega arith), lt-ltb (suc x) 33 (omega arith)) refl

-- a mark in a local
in-local : (a b : ℕ) (js : List ℕ) (x : ℕ) → x < 16 → (a ≡ op_cp_loc → (j : ℕ) × (js ≡ j ∷ []))
    → nodes_if js (cond (eqb b x) (cond (eqb a op_mv_loc) 16 (cond (eqb a op_st_loc) per_row x)) x) ++ cond (eqb a op_cp_loc && eqb b x) (nodes_of per_row js (16 ∷ [])) []
    ≡ nodes_of per_row js (lower (within (cond (eqb (local_place b) (suc x)) (cond (eqb a op_mv_loc) (17 ∷ []) (cond (eqb a op_cp_loc) (suc x ∷ 17 ∷ []) (cond (eqb a op_st_loc) [] (suc x ∷ [])))) (suc x ∷ []))))
unfolding lower within
in-local a b js x h one = rw (same (eqb b x) refl) (go (eqb b x) (eqb a op_mv_loc) (eqb a op_st_loc) (eqb a op_cp_loc) refl refl refl)
  where
    same : (s : Bool) → eqb b x ≡ s → eqb (local_place b) (suc x) ≡ eqb b x
    same true e = let z = eqb-true b x e in rw e (eq-eqb (local_place b) (suc x) (omega arith))
    same false e = rw e (ne_eqb (local_place b) (suc x) (λ z. eqb-false b x e (omega arith)))

    go : (s m p c : Bool) → eqb a op_mv_loc ≡ m → eqb a op_st_loc ≡ p → eqb a op_cp_loc ≡ c
        → nodes_if js (cond s (cond m 16 (cond p per_row x)) x) ++ cond (c && s) (nodes_of per_row js (16 ∷ [])) []
        ≡ nodes_of per_row js (lower (within (cond s (cond m (17 ∷ []) (cond c (suc x ∷ 17 ∷ []) (cond p [] (suc x ∷ [])))) (suc x ∷ []))))
    go false m p true d e k = one_place js x
    go false m p false d e k = one_place js x
    go true true p true d e k = absurd (omega (arith, eqb-true a op_mv_loc d, eqb-true a op_cp_loc k))
    go true true p false d e k = one_place js 16
    go true false true true d e k = absurd (omega (arith, eqb-true a op_st_loc e, eqb-true a op_cp_loc k))
    go true false false true d e k = two_places js x h (one (eqb-true a op_cp_loc k))
    go true false true false d e k = sym (no_nodes per_row js)
    go true false false false d e k = one_place js x

-- a mark on an operand
on-operand : (a b takes gives : ℕ) (js : List ℕ) (x : ℕ) → 16 ≤ x
    → nodes_if js (cond (ltb (x - 16) takes) (cond (eqb a op_st_loc && ltb b 16) b per_row) (x - takes + gives)) ++ []
    ≡ nodes_of per_row js (lower (within (cond (ltb (suc x - 17) takes) (cond (eqb a op_st_loc && ltb b 16) (local_place b ∷ []) []) ((suc x - takes + gives) ∷ []))))
unfolding lower within
on-operand a b takes gives js x h =
    let z : suc x - 17 ≡ x - 16 = omega arith in
    rw z (go (ltb (x - 16) takes) (eqb a op_st_loc && ltb b 16) refl)
  where
    go : (l s : Bool) → ltb (x - 16) takes ≡ l
        → nodes_if js (cond l (cond s b per_row) (x - takes + gives)) ++ [] ≡ nodes_of per_row js (lower (within (cond l (cond s (local_place b ∷ []) []) ((suc x - takes + gives) ∷ []))))
    go true true e = let w : local_place b ≡ suc b = omega arith in rw w (one_place js b)
    go true false e = sym (no_nodes per_row js)
    go false s e =
        let k = ltb-false (x - 16) takes e in
        let w : suc x - takes + gives ≡ suc (x - takes + gives) = omega arith in
        rw w (one_place js (x - takes + gives))

-- WHERE A MARK GOES, at these rows
pub moved : (s : Step) (row : Row) → s.opcode ≡ row.a → s.operand ≡ row.b → s.carries ≡ false → (gives : ℕ) → length s.fresh ≡ gives → (js : List ℕ) (x : ℕ) → (row.a ≡ op_cp_loc → (j : ℕ) × (js ≡ j ∷ []))
    → nodes_if js (goes_to row s.takes gives x) ++ cond (copies row x) (nodes_of per_row js (16 ∷ [])) [] ≡ nodes_of per_row js (lower (within (mark_moves s (suc x))))
unfolding goes_to copies mark_moves
moved s row o p c gives g js x one = rw (ne_eqb (suc x) 0 (λ z. omega arith), o, p, c, g) (go (ltb x 16) refl)
  where
    go : (b : Bool) → ltb x 16 ≡ b
        → nodes_if js
        (cond b (cond (eqb row.b x) (cond (eqb row.a op_mv_loc) 16 (cond (eqb row.a op_st_loc) per_row x)) x)
        (cond (ltb (x - 16) s.takes) (cond (eqb row.a op_st_loc && ltb row.b 16) row.b per_row) (x - s.takes + gives)))
        ++ cond (b && eqb row.a op_cp_loc && eqb row.b x) (nodes_of per_row js (16 ∷ [])) []
        ≡ nodes_of per_row js (lower (within
        (cond (ltb (suc x) 17)
        (cond (eqb (local_place row.b) (suc x)) (cond (eqb row.a op_mv_loc) (17 ∷ []) (cond (eqb row.a op_cp_loc) (suc x ∷ 17 ∷ []) (cond (eqb row.a op_st_loc) [] (suc x ∷ [])))) (suc x ∷ []))
        (cond (ltb (suc x - 17) s.takes) (cond (eqb row.a op_st_loc && ltb row.b 16) (local_place row.b ∷ []) []) ((suc x - s.takes + gives) ∷ [])))))
    go true e = let h = ltb-true x 16 e in rw (lt-ltb (suc x) 17 (omega arith)) (in-local row.a row.b js x h one)
    go false e = let h = ltb-false x 16 e in rw (le-ltb (suc x) 17 (omega arith)) (on-operand row.a row.b s.takes gives js x h)
