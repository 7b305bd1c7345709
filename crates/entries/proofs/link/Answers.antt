use native.Mathlib.Omega.{arith}
use Rattle.entries.proofs.Links.{linking_next}
use Rattle.entries.proofs.link.Goals as goal

pub loop-r-preserved : goal.loop-r-preserved
loop-r-preserved c =
    let l = c.loop-r in
    let s = c.link_row in
    rw (s.ensures.0, s.ensures.1) (linking_next c.args.entries.now l.last l.before l.r l.invariant (omega arith))
