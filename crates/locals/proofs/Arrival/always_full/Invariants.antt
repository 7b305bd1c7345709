-- The invariant: the set has those of the locals below l that belong to it.
use Rattle.locals.specs.code.Sets.{those}
use Rattle.locals.specs.code.Faults.{empty_at}
use mathlib.Core.Bool.{not}
use Prim.Native.Nat.{ℕ}
use mathlib.Core.Path.{◌≡◌}
use Rattle.locals.proofs.Arrival.always_full.Given as goal

abbrev pub invariant-loop-l : goal.invariant-loop-l
invariant-loop-l v = v.set ≡ those (λ (l : ℕ). not (empty_at v.self.nodes.now v.self.n l v.self.i)) v.l
