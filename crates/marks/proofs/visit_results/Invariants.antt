-- The invariant: what is left to visit is the rest of the chain.
use Prim.Native.Nat.{◌≤◌}
use mathlib.Core.Path.{◌≡◌}
use lib.ListN.{length}
use Rattle.reach.specs.code.Search.{state, SameSlices, visit_all}
use Rattle.marks.specs.code.Search.{result_edges}
use Rattle.marks.proofs.visit_results.Given as goal

abbrev pub invariant-loop-at : goal.invariant-loop-at
invariant-loop-at l = (visit_all (state l.initial.search) (result_edges l.sites.before.now l.sites.arrives.now l.results l.start l.r) ≡ visit_all (state l.search) (result_edges l.sites.before.now l.sites.arrives.now l.results l.at l.r))
    × (l.at ≤ length l.sites.before.now) × SameSlices l.initial.search l.search

abbrev pub decreases-loop-at : goal.decreases-loop-at
decreases-loop-at l = l.at
