use native.Mathlib.Omega.{arith}
use borrow.Author.Rules.{rules}
use Rattle.flow.proofs.Laws.{followed_node, goes_on}
use Rattle.flow.proofs.go_on.Goals as goal

pub overflow_mul-width : goal.overflow_mul-width
overflow_mul-width c = let a = c.args in omega (arith, followed_node a.width a.n a.row a.i (search rules) (omega arith) (search rules) (omega arith) c.followed-at.ensures)

pub overflow_add-width : goal.overflow_add-width
overflow_add-width c = let a = c.args in omega (arith, followed_node a.width a.n a.row a.i (search rules) (omega arith) (search rules) (omega arith) c.followed-at.ensures)

pub returns-clause-on : goal.returns-clause-on
returns-clause-on c =
    let entered = c.enter.ensures in
    goes_on _ _ _ _ _ _ c.followed-at.ensures c.visit_aside.ensures.visits c.requires.0 entered.new entered.enters c.then_some.ensures
