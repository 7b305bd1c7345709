use Prim.Native.Nat.{◌≤◌}
use mathlib.Core.Path.{◌≡◌, ap, ◌∙◌}
use native.Mathlib.Omega.{arith}
use Rattle.table.specs.Verdicts.{value_of, verdict_of}
use Rattle.judging.specs.Judging.{judge_under, answer_of}
use Rattle.judging.proofs.Under.{by_file, under_small}
use Rattle.yithrel.proofs.yithrel_judge.Goals as goal

pub answer_of-requires : goal.answer_of-requires
answer_of-requires c =
    let a = c.args in
    let judged : verdict_of c.judge_under.result ≡ judge_under a.has a.rules.now a.table.now = c.judge_under.ensures ∙ rw c.rules_if.ensures (by_file a.has a.rules.now a.table.now) in
    let small : value_of (verdict_of c.judge_under.result) ≤ 2048 = rw judged (under_small _ _ _) in
    omega arith

pub returns : goal.returns
returns c =
    let a = c.args in
    let judged : verdict_of c.judge_under.result ≡ judge_under a.has a.rules.now a.table.now = c.judge_under.ensures ∙ rw c.rules_if.ensures (by_file a.has a.rules.now a.table.now) in
    c.answer_of.ensures ∙ ap answer_of judged
