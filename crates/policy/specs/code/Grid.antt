-- What the code's buffer holds, and no rule: for each pair of modules, 16 times caller plus called, how it stands.
use Rattle.std.specs.Prelude.{ℕ, ◌+◌, ◌*◌, ◌/◌, ◌%◌, Bool, true, false, cond, not, ◌&&◌, List, [], ◌∷◌, eqb, ltb, leb, length, get_or}
use Rattle.laws.specs.Lists.{hits, tabulate}
use Rattle.table.specs.Verdicts.{Verdict, pass_over}
use Rattle.table.specs.declared.index.Index.{Index}
use Rattle.table.specs.declared.index.ProcedureEntry.{ProcedureEntry}
use Rattle.table.specs.Format.{max_modules, op_call}
use Rattle.table.specs.Refusals.{unruled_pair, forbidden_call}
use Rattle.table.specs.Rows.{row_count, row_at}
use Rattle.declarations.specs.Program.{procedure_in, code_of, code_pass}
use Rattle.policy.specs.declared.Standing.{Standing}
use Rattle.policy.specs.declared.Standing.TheVariants.{Unruled, Forbidden, Allowed, Several}
use Rattle.policy.specs.Policy.{allows, covers}

-- how a pair stands: under no row, under one that forbids, under one that allows, under several
abbrev pub standing_by : List ℕ → List ℕ → Standing
standing_by r [] = Unruled
standing_by r (i ∷ []) = cond (allows r i) Allowed Forbidden
standing_by r (i ∷ j ∷ is) = Several

-- whether it is under one; under one that allows
abbrev pub under_one : Standing → Bool
under_one Unruled = false
under_one Forbidden = true
under_one Allowed = true
under_one Several = false

abbrev pub is_allowed : Standing → Bool
is_allowed Unruled = false
is_allowed Forbidden = false
is_allowed Allowed = true
is_allowed Several = false

-- under one row more
unfoldable pub painted : Standing → Bool → Standing
painted Unruled allow = cond allow Allowed Forbidden
painted Forbidden allow = Several
painted Allowed allow = Several
painted Several allow = Several

-- the grid under the first n rows of the file r, and under all
unfoldable pub grid_up_to : List ℕ → ℕ → List Standing
grid_up_to r n = tabulate (λ (k : ℕ). standing_by r (hits (covers r (k / max_modules) (k % max_modules)) n)) (max_modules * max_modules)

unfoldable pub grid_of : List ℕ → List Standing
grid_of r = grid_up_to r (row_count r)

-- a grid with the pairs painted of which a test holds; those from `from` to before `to`; those that stand under rule row i
unfoldable pub painted_if : (ℕ → Bool) → Bool → List Standing → List Standing
painted_if test allow grid = tabulate (λ (k : ℕ). cond (test k) (painted (get_or grid k Unruled) allow) (get_or grid k Unruled)) (length grid)

unfoldable pub painted_from : ℕ → ℕ → Bool → List Standing → List Standing
painted_from from to allow grid = painted_if (λ (k : ℕ). leb from k && ltb k to) allow grid

unfoldable pub painted_by : List ℕ → ℕ → List Standing → List Standing
painted_by r i grid = painted_if (λ (k : ℕ). covers r (k / max_modules) (k % max_modules) i) (allows r i) grid

-- 21, as the grid tells it
unfoldable pub unruled_in : List Standing → ℕ → ℕ → Bool
unruled_in grid modules k = ltb (k / max_modules) modules && ltb (k % max_modules) modules && not (under_one (get_or grid k Unruled))

unfoldable pub pairs_in : List Standing → ℕ → Verdict
pairs_in grid modules = pass_over (λ (k : ℕ). cond (unruled_in grid modules k) unruled_pair 0) (max_modules * max_modules)

-- 22, as the grid tells it, of instruction i of the code c of procedure p
unfoldable pub permits_in : List Standing → ℕ → ℕ → Bool
permits_in grid c d = ltb c max_modules && ltb d max_modules && is_allowed (get_or grid (max_modules * c + d) Unruled)

unfoldable pub forbidden_in : List Standing → List ℕ → Index → ProcedureEntry → ℕ → ℕ
forbidden_in grid c ix p i = let row = row_at c i in cond (eqb row.a op_call && not (permits_in grid p.owner (procedure_in ix row.b).owner)) forbidden_call 0

unfoldable pub calls_in : List Standing → Index → List ℕ → Verdict
calls_in grid ix t = code_pass (λ (q : ℕ) (p : ProcedureEntry). forbidden_in grid (code_of t p) ix p) ix t
