use mathlib.Core.Path.{◌≡◌, refl}
use Rattle.interpreter.specs.code.Calls.{freed}
use Rattle.interpreter.proofs.Keeping.{freed_more}
use borrow.Author.Rules.{rules}
use native.Mathlib.Omega.{arith}
use Rattle.interpreter.proofs.free_rooms.Goals as goal

pub loop-j-init : goal.loop-j-init
unfolding freed
loop-j-init c = (refl, refl)

pub loop-j-preserved : goal.loop-j-preserved
loop-j-preserved c = (search rules, freed_more _ _ _ _ _ c.loop-j.invariant.1 refl c.clear.ensures)

pub returns : goal.returns
returns c = let e : c.loop-j.j ≡ c.args.n = omega arith in rw e at c.loop-j.invariant.1
