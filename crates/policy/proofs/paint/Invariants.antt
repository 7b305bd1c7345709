-- The invariant: the pairs from the first to before k are painted.
use Prim.Native.Nat.{◌≤◌, ◌-◌}
use mathlib.Core.Path.{◌≡◌}
use lib.ListN.{length}
use Rattle.policy.specs.code.Grid.{painted_from}
use Rattle.policy.proofs.paint.Given as goal

abbrev pub invariant-loop-k : goal.invariant-loop-k
invariant-loop-k l = (l.k - l.from ≤ l.to - l.from) × (length l.grid ≡ length l.initial.grid) × (l.grid ≡ painted_from l.from l.k l.allow l.initial.grid)
