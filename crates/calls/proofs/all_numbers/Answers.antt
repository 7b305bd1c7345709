use Prim.Native.Nat.{ℕ, ◌-◌}
use mathlib.Core.Path.{refl, ◌∙◌}
use lib.Dec.{eqb}
use Rattle.std.proofs.Common.{rules, tests}
use Rattle.std.proofs.lemmas.Iterator.{YieldsList-from_range}
use Rattle.std.proofs.lemmas.Iterator.Search.{all_from_yields_List}
use Rattle.table.specs.Rows.{row_at}
use Rattle.declarations.specs.Program.{row_kind}
use Rattle.calls.proofs.Laws.{numbers_from}
use Rattle.calls.proofs.all_numbers.Goals as goal

pub returns : goal.returns
returns c =
    let a = c.args in
    all_from_yields_List (λ (i : ℕ). eqb (row_kind (row_at a.table.now i)) 0) _ _ _ c.all.ensures.ran (YieldsList-from_range a.from a.to (a.to - a.from) refl refl) (λ x b q k. search (rules, tests))
    ∙ numbers_from a.table.now a.from a.to
