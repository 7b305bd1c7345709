-- The invariant: no instruction before instruction i is faulty.
use Prim.Native.Nat.{ℕ, ◌+◌}
use mathlib.Core.Path.{◌≡◌}
use Rattle.laws.proofs.First.{from}
use Rattle.table.specs.Verdicts.{Accepted, Refused}
use Rattle.declarations.specs.Program.{code_verdict}
use Rattle.policy.specs.code.Grid.{forbidden_in}
use Rattle.policy.proofs.judge_code.Given as goal

abbrev pub invariant-loop-i : goal.invariant-loop-i
invariant-loop-i l = code_verdict (forbidden_in l.grid l.code l.index l.own) l.own.code l.n ≡ from Accepted (λ (number j : ℕ). Refused number (l.own.code + j)) (forbidden_in l.grid l.code l.index l.own) l.n l.i
