use mathlib.Core.Path.{◌≡◌, refl}
use native.Mathlib.Omega.{arith}
use borrow.Author.Rules.{rules}
use Rattle.state.specs.code.Cells.{moved}
use Rattle.state.proofs.Cells.{moved_more}
use Rattle.state.proofs.move_cells.Goals as goal

pub loop-j-init : goal.loop-j-init
unfolding moved
loop-j-init c = (refl, refl)

pub loop-j-preserved : goal.loop-j-preserved
loop-j-preserved c = (search rules, moved_more _ _ _ _ _ _ c.loop-j.invariant.1 c.copy.ensures)

pub returns : goal.returns
returns c = let e : c.loop-j.j ≡ c.args.k = omega arith in rw e at c.loop-j.invariant.1
