-- The invariant: the first r rows are linked.
use Rattle.entries.proofs.Links.{Linking}
use Rattle.entries.proofs.link.Given as goal

abbrev pub invariant-loop-r : goal.invariant-loop-r
invariant-loop-r l = Linking l.entries l.last l.before l.r
