use mathlib.Core.Path.{refl, ◌∙◌}
use native.Mathlib.Omega.{arith}
use Rattle.std.proofs.Common.{rules, tests}
use Rattle.std.proofs.lemmas.Iterator.{YieldsList-from_range}
use Rattle.std.proofs.lemmas.Iterator.Search.{any_from_yields_List}
use Rattle.locals.specs.code.Faults.{record_at, some_record}
use Rattle.locals.proofs.Laws.{any_below}
use Rattle.locals.proofs.Arrival.leaves_some.Goals as goal

pub returns : goal.returns
unfolding some_record
returns c =
    let s = c.args.self.now in
    any_from_yields_List (record_at s.nodes.now s.n s.count s.records s.i) _ _ _ c.any.ensures.ran (YieldsList-from_range 0 s.count s.count refl (omega arith)) (λ x b q k. search (rules, tests))
    ∙ any_below _ (some_record s.nodes.now s.n s.count s.records s.i) refl (λ n. refl) s.count
