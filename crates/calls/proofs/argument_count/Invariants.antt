use Prim.Native.Nat.{◌+◌, ◌-◌}
use mathlib.Core.Path.{◌≡◌}
use lib.ListN.{length}
use Rattle.semantics.specs.Calls.{arguments}
use Rattle.calls.proofs.argument_count.Given as goal

abbrev pub invariant-loop-j : goal.invariant-loop-j
invariant-loop-j l = length (arguments l.list l.first (l.n - l.first)) ≡ l.j - l.first + length (arguments l.list l.j (l.n - l.j))
