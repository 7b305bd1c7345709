use Prim.Native.Nat.{ℕ, ◌<◌, min}
use mathlib.Core.Path.{◌≡◌, sym, ap, ◌∙◌}
use mathlib.Core.List.{List, [], map}
use native.Mathlib.Decide.{dec_lt}
use native.Mathlib.Omega.{arith}
use borrow.Author.Rules.{rules}
use borrow.Author.Tests.{ne_eqb}
use lib.ListN.{length, take}
use lib.Seq.{take_all}
use Rattle.frame.specs.code.Turning.{done, broken}
use Rattle.semantics.specs.Machine.{num, state, finished}
use Rattle.semantics.specs.Text.{call_line}
use Rattle.text.proofs.Placing.{puts_none, puts_same}
use Rattle.running.specs.code.Lists.{end_line}
use Rattle.running.proofs.put_end.Goals as goal

-- of four results there are at most four
at_most_four : (xs : List ℕ) (n m : ℕ) → length xs ≡ 4 → m ≡ min n 4 → take m xs ≡ take n xs
at_most_four xs n m l e = go (dec_lt n 4)
  where
    go : Dec (n < 4) → take m xs ≡ take n xs
    go (yes h) = let s : m ≡ n = omega arith in rw s
    go (no h) = take_all m xs (omega arith) ∙ sym (take_all n xs (omega arith))

pub returns-then-stop-number : goal.returns-then-stop-number
unfolding end_line
returns-then-stop-number c =
    let a = c.args in
    let four : length a.results ≡ 4 = search rules in
    let same = at_most_four a.results a.count c.min.result four c.min.ensures in
    let is_done : a.stop ≡ done = c.if-stop-number.true ∙ c.number.ensures in
    rw is_done (puts_same (ap (λ (xs : List ℕ). call_line a.call a.row (finished (map num xs) (state [] [] [] 0))) same) (c.put_done.ensures a.row (state [] [] [] 0)))

pub returns-then-stop-number-2 : goal.returns-then-stop-number-2
unfolding end_line
returns-then-stop-number-2 c =
    let not_done : c.args.stop ≡ done → ⊥ = λ e. c.if-stop-number.false (e ∙ sym c.number.ensures) in
    let not_broken : c.args.stop ≡ broken → ⊥ = λ e. c.if-stop-number-2.true (e ∙ sym c.number-else-stop-number.ensures) in
    rw (ne_eqb _ _ not_done, ne_eqb _ _ not_broken) c.put_stop.ensures

pub returns-else-stop-number-2 : goal.returns-else-stop-number-2
unfolding end_line
returns-else-stop-number-2 c =
    let is_broken : c.args.stop ≡ broken = c.if-stop-number-2.false ∙ c.number-else-stop-number.ensures in
    rw is_broken (puts_none _)
