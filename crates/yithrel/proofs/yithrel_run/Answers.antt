use Prim.Native.Nat.{◌≤◌}
use mathlib.Core.Path.{◌≡◌, ap, ◌∙◌}
use native.Mathlib.Omega.{arith}
use Rattle.table.specs.Verdicts.{value_of, verdict_of}
use Rattle.semantics.specs.Run.{Ran, run_of}
use Rattle.judging.specs.Judging.{answer_of}
use Rattle.running.proofs.Values.{run_small}
use Rattle.running.proofs.Runs.{run_file}
use Rattle.yithrel.proofs.yithrel_run.Goals as goal

pub answer_of-requires : goal.answer_of-requires
answer_of-requires c =
    let a = c.args in
    let ran : verdict_of c.run_list.result ≡ (run_of a.has a.rules.now a.table.now a.list.now a.text.now).answer = c.run_list.ensures.0 ∙ rw c.rules_if.ensures (ap (λ (r : Ran). r.answer) (run_file a.has a.rules.now a.table.now a.list.now a.text.now)) in
    let small : value_of (verdict_of c.run_list.result) ≤ 65536 =
    rw ran (run_small a.has a.rules.now a.table.now a.list.now a.text.now (λ i. omega (arith, c.shared_slice_known-1.given i)) (λ i. omega (arith, c.shared_slice_known-2-1.given i))) in
    omega arith

pub returns : goal.returns
returns c =
    let a = c.args in
    let same = run_file a.has a.rules.now a.table.now a.list.now a.text.now in
    let ran : verdict_of c.run_list.result ≡ (run_of a.has a.rules.now a.table.now a.list.now a.text.now).answer = c.run_list.ensures.0 ∙ rw c.rules_if.ensures (ap (λ (r : Ran). r.answer) same) in
    (c.answer_of.ensures ∙ ap answer_of ran, c.run_list.ensures.1 ∙ rw c.rules_if.ensures (ap (λ (r : Ran). r.buffer) same))
