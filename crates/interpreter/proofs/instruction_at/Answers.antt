use mathlib.Core.Path.{ap, ◌∙◌}
use Prim.Native.Nat.{ℕ}
use mathlib.Core.List.{List}
use Rattle.table.specs.Rows.{row_at}
use Rattle.declarations.specs.Program.{code_of}
use Rattle.interpreter.proofs.instruction_at.Goals as goal

pub returns : goal.returns
unfolding code_of
returns c = c.row_at.ensures ∙ ap (λ (s : List ℕ). row_at s c.args.i) c.part-code.ensures.result_value
