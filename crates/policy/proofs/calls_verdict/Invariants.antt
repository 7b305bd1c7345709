-- The invariant: no procedure before procedure p is refused.
use Prim.Native.Nat.{ℕ}
use mathlib.Core.Path.{◌≡◌}
use Rattle.table.specs.declared.index.ProcedureEntry.{ProcedureEntry}
use Rattle.declarations.specs.Program.{code_of}
use Rattle.declarations.proofs.Laws.{pass_from}
use Rattle.policy.specs.code.Grid.{forbidden_in, calls_in}
use Rattle.policy.proofs.calls_verdict.Given as goal

abbrev pub invariant-loop-p : goal.invariant-loop-p
invariant-loop-p l = calls_in l.grid l.index l.table ≡ pass_from (λ (q : ℕ) (own : ProcedureEntry). forbidden_in l.grid (code_of l.table own) l.index own) l.index l.table l.p
