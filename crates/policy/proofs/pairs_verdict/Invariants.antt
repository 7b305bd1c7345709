-- The invariant: no pair before pair k is refused.
use Prim.Native.Nat.{ℕ}
use mathlib.Core.Path.{◌≡◌}
use mathlib.Core.Bool.{cond}
use Rattle.laws.proofs.First.{from}
use Rattle.table.specs.Verdicts.{Accepted, Refused}
use Rattle.policy.specs.code.Grid.{unruled_in, pairs_in}
use Rattle.policy.proofs.pairs_verdict.Given as goal

abbrev pub invariant-loop-k : goal.invariant-loop-k
invariant-loop-k l = pairs_in l.grid l.modules ≡ from Accepted Refused (λ (k : ℕ). cond (unruled_in l.grid l.modules k) 21 0) 256 l.k
