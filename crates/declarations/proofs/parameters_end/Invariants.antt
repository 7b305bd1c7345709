use Rattle.declarations.specs.Program.{is_parameter}
use Rattle.laws.specs.Lists.{find}
use mathlib.Core.Bool.{not}
use mathlib.Core.Path.{◌≡◌}
use Prim.Native.Nat.{ℕ, ◌-◌, ◌≤◌, max}
use Rattle.declarations.proofs.parameters_end.Given as goal

abbrev pub invariant-loop-i : goal.invariant-loop-i
invariant-loop-i l = (l.i ≤ max l.end l.start) × (find (λ (j : ℕ). not (is_parameter l.table j)) l.start (l.end - l.start) ≡ find (λ (j : ℕ). not (is_parameter l.table j)) l.i (l.end - l.i))
