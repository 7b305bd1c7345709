use native.Mathlib.Omega.{arith}
use Rattle.entries.proofs.Links.{no_link, yes_link}
use Rattle.entries.proofs.link_row.Goals as goal
use Rattle.entries.proofs.link_row.Goals.{else-c-gt0-via-else-c-gt0, else-c-gt0-via-then-c-gt0+else-c-last}

pub returns-then-c-last : goal.returns-then-c-last
returns-then-c-last c = let a = c.args in yes_link a.last.now a.before.now a.called a.r c.if-c-gt0.true c.if-c-last.true

pub returns-else-c-gt0 : goal.returns-else-c-gt0
returns-else-c-gt0 c =
    let a = c.args in
    no_link a.last.now a.before.now a.called a.r (λ p g. elim c.else-c-gt0.branch [ else-c-gt0-via-then-c-gt0+else-c-last w ↦ omega (arith, g) | else-c-gt0-via-else-c-gt0 w ↦ omega (arith, p) ])
