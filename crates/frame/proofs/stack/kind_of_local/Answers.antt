use Prim.Native.Nat.{ℕ, ◌%◌}
use Rattle.declarations.specs.Program.{row_kind, local_kind}
use mathlib.Core.Path.{ap, ◌∙◌}
use Rattle.frame.proofs.stack.kind_of_local.Goals as goal

pub returns : goal.returns
unfolding local_kind
returns c = ap (λ (k : ℕ). k % 65536) (c.row_kind.ensures ∙ ap row_kind c.row_at-row.ensures)
