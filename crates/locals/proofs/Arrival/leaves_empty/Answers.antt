-- What the set says of local l is what the nodes say of it.
use Rattle.locals.proofs.Sets.{contains-those}
use Prim.Native.Nat.{◌≤◌}
use borrow.Author.Tests.{lt-ltb, le-ltb}
use mathlib.Core.Bool.{not-not, true≢false}
use mathlib.Core.Path.{sym, ◌∙◌}
use native.Mathlib.Omega.{arith}
use Rattle.locals.proofs.Arrival.leaves_empty.Goals as goal
use Rattle.locals.proofs.Arrival.leaves_empty.Goals.{then-l-self, else-l-self}

pub returns-then-can_be : goal.returns-then-can_be
returns-then-can_be c =
    let few : c.args.self.now.count ≤ 16 = omega arith in
    rw (c.contains.ensures, c.always_full.ensures, contains-those _ _ c.args.l few)
    (elim c.if-l-self.branch [
      | then-l-self w ↦ rw (lt-ltb _ _ w.if-l-self.true) (not-not _)
      | else-l-self w ↦ absurd (true≢false (sym c.if-can_be.true ∙ w.value-is ∙ le-ltb _ _ w.if-l-self.false))
    ])
