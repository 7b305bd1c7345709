-- What the code of the locals pass answers for any bytes and any index: the pass over the procedures within the limits (`declarations/specs/code/Limits`). Of a table
-- that the rows pass accepts, with its own index, this is the locals pass.
use Rattle.std.specs.Prelude.{ℕ, List}
use Rattle.table.specs.Verdicts.{Verdict}
use Rattle.table.specs.declared.index.Index.{Index}
use Rattle.table.specs.declared.index.ProcedureEntry.{ProcedureEntry}
use Rattle.declarations.specs.Program.{code_pass}
use Rattle.declarations.specs.code.Limits.{limited}
use Rattle.locals.specs.Locals.{local_fault}

-- the pass over the procedures of the index that are within the limits
unfoldable pub locals_within : Index → List ℕ → Verdict
locals_within ix t = code_pass (λ (q : ℕ) (p : ProcedureEntry). limited t p (local_fault t p)) ix t
