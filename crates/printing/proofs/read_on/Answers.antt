use Rattle.std.proofs.Common.{◌≡◌, ℕ, ◌+◌, ◌≤◌, List, ◌++◌, rules, length, take, sym, ap, subst, ◌∙◌}
use Rattle.std.proofs.lemmas.List.{length-take-le, take-append-le}
use Rattle.std.proofs.Math.Seq.{take-append-add}
use Rattle.std.specs.Io.KnownBytes.{Consumes}
use Rattle.std.proofs.KnownBytes.{Consumes-trans}
use Rattle.printing.proofs.read_on.Goals as goal

-- what was read after the first a bytes stands after them
take_after : (a n : ℕ) (xs ys rest : List ℕ) → a ≤ length xs → n ≤ length ys → take (a + n) (take a xs ++ (ys ++ rest)) ≡ take a xs ++ take n ys
take_after a n xs ys rest within fits =
    let front = take a xs in
    ap (λ m. take (m + n) (front ++ (ys ++ rest))) (sym (length-take-le a xs within)) ∙ take-append-add front (ys ++ rest) n
    ∙ ap (λ l. front ++ l) (take-append-le n ys rest fits)

pub loop-done-preserved : goal.loop-done-preserved
loop-done-preserved g c =
    let joined = take_after c.loop-done.done c.in_ok-n.n c.loop-done.room c.read_some.new.room _ c.loop-done.invariant.1 (search rules) in
    (search rules, search rules, subst (Consumes _ _) (sym joined) (Consumes-trans _ _ _ _ _ c.loop-done.invariant.2 c.in_ok-n.ensures.bytes))
