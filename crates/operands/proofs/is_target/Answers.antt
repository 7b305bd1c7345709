use Prim.Native.Nat.{ℕ, ◌/◌}
use mathlib.Core.Path.{refl, ◌∙◌}
use lib.ListN.{length}
use native.Mathlib.Omega.{arith}
use Rattle.std.proofs.Common.{rules, tests}
use Rattle.std.proofs.lemmas.Iterator.{YieldsList-from_range}
use Rattle.std.proofs.lemmas.Iterator.Search.{any_from_yields_List}
use Rattle.table.specs.Rows.{row_at}
use Rattle.declarations.specs.Program.{is_target, target_below, jumps_to}
use Rattle.operands.proofs.Laws.{any_below}
use Rattle.operands.proofs.is_target.Goals as goal

pub returns : goal.returns
unfolding is_target target_below
returns c =
    let n : ℕ = length c.args.code.now / 16 in
    any_from_yields_List (λ (i : ℕ). jumps_to (row_at c.args.code.now i) c.args.j) _ _ _ c.any.ensures.ran (YieldsList-from_range 0 n n refl (omega arith)) (λ x b q k. search (rules, tests))
    ∙ any_below _ (target_below c.args.code.now c.args.j) refl (λ n. refl) n
