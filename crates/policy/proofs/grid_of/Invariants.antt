-- The invariant: the grid is that under the first i rows.
use mathlib.Core.Path.{◌≡◌}
use Rattle.policy.specs.code.Grid.{grid_up_to}
use Rattle.policy.proofs.grid_of.Given as goal

abbrev pub invariant-loop-i : goal.invariant-loop-i
invariant-loop-i l = l.grid ≡ grid_up_to l.rules l.i
