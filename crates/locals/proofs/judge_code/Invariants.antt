-- The invariant: the rest of the pass.
use Rattle.locals.specs.code.Faults.{fault_from}
use Rattle.declarations.specs.Program.{code_verdict}
use Rattle.table.specs.Rows.{row_at}
use Rattle.locals.proofs.Laws.{verdict_from}
use Prim.Native.Nat.{ℕ}
use mathlib.Core.Path.{◌≡◌}
use Rattle.locals.proofs.judge_code.Given as goal

abbrev pub invariant-loop-i : goal.invariant-loop-i
invariant-loop-i l = code_verdict (λ (j : ℕ). fault_from l.nodes (row_at l.code j) l.n l.count l.records j) l.own.code l.n
    ≡ verdict_from (λ (j : ℕ). fault_from l.nodes (row_at l.code j) l.n l.count l.records j) l.own.code l.n l.i
