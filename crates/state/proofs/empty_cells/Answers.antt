use mathlib.Core.Path.{◌≡◌, refl}
use native.Mathlib.Omega.{arith}
use borrow.Author.Rules.{rules}
use Rattle.state.specs.code.Cells.{emptied}
use Rattle.state.proofs.Cells.{emptied_more}
use Rattle.state.proofs.empty_cells.Goals as goal

pub loop-j-init : goal.loop-j-init
unfolding emptied
loop-j-init c = (refl, refl)

pub loop-j-preserved : goal.loop-j-preserved
loop-j-preserved c = (search rules, emptied_more _ _ _ _ _ c.loop-j.invariant.1 c.clear.ensures)

pub returns : goal.returns
returns c = let e : c.loop-j.j ≡ c.args.k = omega arith in rw e at c.loop-j.invariant.1
