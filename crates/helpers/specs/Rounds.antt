-- The smallest marks, by rounds: each round analyses every procedure under the marks so far and adds what its walks give and return, until nothing is added.
use Rattle.std.specs.Prelude.{ℕ, zero, suc, ◌-◌, ◌*◌, Bool, false, cond, ◌&&◌, List, [], ◌∷◌, ◌++◌, eqb, ltb, get_or, replicate}
use Rattle.laws.specs.Lists.{tabulate}
use Rattle.reach.specs.Reach.{mark, settle}
use Rattle.table.specs.Format.{op_ret}
use Rattle.flow.specs.Places.{mark_nodes, operand_marked}
use Rattle.steps.specs.Steps.{no_step}
use Rattle.helpers.specs.Marks.{Procedure, per_procedure, parameter_at, result_at, parameter_of, step_under}

-- the lists of n - 1, .. 1, 0, one after the other
unfoldable pub up_to : {A : Type 0} → (ℕ → List A) → ℕ → List A
up_to f zero = []
up_to f (suc n) = f n ++ up_to f n

-- where a mark on operand j goes at instruction i of procedure q, besides the procedure's own places: to a parameter of the helper that is called, to a result
unfoldable pub sends : Procedure → ℕ → ℕ → ℕ → List ℕ
sends p q i j =
    cond (ltb j (p.step i).takes)
    (cond (p.helper i) (parameter_at (p.step i).operand ((p.step i).takes - 1 - j) ∷ [])
    (cond (p.is_private && eqb (p.step i).opcode op_ret) (result_at q ((p.step i).takes - 1 - j) ∷ []) []))
    []

-- where marks come to in procedure q under marks m; its instructions are listed once
unfoldable pub nodes_under : (ℕ → Procedure) → List Bool → ℕ → List Bool
nodes_under code m q =
    let steps = tabulate (λ (i : ℕ). step_under m ((code q).step i)) (code q).size in
    mark_nodes (code q).next (λ (i : ℕ). get_or steps i no_step) (parameter_of m q) (code q).params (code q).size

-- what procedure q gives and returns, with marks at these nodes
unfoldable pub sent_from : Procedure → ℕ → List Bool → List ℕ
sent_from p q nodes = up_to (λ (i : ℕ). up_to (λ (j : ℕ). cond (operand_marked nodes i j) (sends p q i j) []) 16) p.size

unfoldable pub sent : (ℕ → Procedure) → ℕ → List Bool → List ℕ
sent code count m = up_to (λ (q : ℕ). let nodes = nodes_under code m q in sent_from (code q) q nodes) count

-- a round
unfoldable pub round : (ℕ → Procedure) → ℕ → List Bool → List Bool
round code count m = mark m (sent code count m)

-- the smallest marks: rounds until one adds nothing
unfoldable pub no_marks : ℕ → List Bool
no_marks count = replicate (per_procedure * count) false

unfoldable pub given_of : (ℕ → Procedure) → ℕ → List Bool
given_of code count = settle (round code count) (per_procedure * count) (no_marks count)
