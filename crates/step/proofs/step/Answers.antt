use Rattle.step.specs.code.Step.{turns, turn_of}
use Rattle.step.proofs.Paths.{past_all}
use mathlib.Core.Path.{sym}
use Rattle.laws.proofs.Cases.{above}
use Rattle.table.specs.Format.{past_opcodes}
use Rattle.step.proofs.step.Goals as goal

pub returns-in-0 : goal.returns-in-0
unfolding turn_of turns
returns-in-0 c = rw (c.in-0.is, c.pop.ensures)

pub returns-in-1 : goal.returns-in-1
unfolding turn_of turns
returns-in-1 c = rw c.in-1.is c.load_const.ensures

pub returns-in-2 : goal.returns-in-2
unfolding turn_of turns
returns-in-2 c = rw c.in-2.is c.move_local.ensures

pub returns-in-3 : goal.returns-in-3
unfolding turn_of turns
returns-in-3 c = rw c.in-3.is c.copy_local.ensures

pub returns-in-4 : goal.returns-in-4
unfolding turn_of turns
returns-in-4 c = rw c.in-4.is c.store_local.ensures

pub returns-in-5 : goal.returns-in-5
unfolding turn_of turns
returns-in-5 c = rw c.in-5.is c.borrow_local.ensures

pub returns-in-6 : goal.returns-in-6
unfolding turn_of turns
returns-in-6 c = rw c.in-6.is c.read_ref.ensures

pub returns-in-7 : goal.returns-in-7
unfolding turn_of turns
returns-in-7 c = rw c.in-7.is c.write_ref.ensures

pub returns-in-8 : goal.returns-in-8
unfolding turn_of turns
returns-in-8 c = rw c.in-8.is c.borrow_field.ensures

pub returns-in-9 : goal.returns-in-9
unfolding turn_of turns
returns-in-9 c = rw c.in-9.is c.pack.ensures

pub returns-in-10 : goal.returns-in-10
unfolding turn_of turns
returns-in-10 c = rw c.in-10.is c.unpack.ensures

pub returns-in-11 : goal.returns-in-11
unfolding turn_of turns
returns-in-11 c = rw c.in-11.is c.move_to.ensures

pub returns-in-12 : goal.returns-in-12
unfolding turn_of turns
returns-in-12 c = rw c.in-12.is c.move_from.ensures

pub returns-in-13 : goal.returns-in-13
unfolding turn_of turns
returns-in-13 c = rw c.in-13.is c.borrow_global.ensures

pub returns-in-14 : goal.returns-in-14
unfolding turn_of turns
returns-in-14 c = rw c.in-14.is c.exists.ensures

pub returns-in-15 : goal.returns-in-15
unfolding turn_of turns
returns-in-15 c = rw c.in-15.is c.call.ensures

pub returns-in-16 : goal.returns-in-16
unfolding turn_of turns
returns-in-16 c = rw c.in-16.is c.ret.ensures

pub returns-in-17 : goal.returns-in-17
unfolding turn_of turns
returns-in-17 c = rw (c.in-17.is, c.go_to.ensures)

pub returns-in-18 : goal.returns-in-18
unfolding turn_of turns
returns-in-18 c = rw (c.in-18.is, c.branch_cond.ensures)

pub returns-in-19 : goal.returns-in-19
unfolding turn_of turns
returns-in-19 c = rw c.in-19.is c.op.ensures

pub returns-in-20 : goal.returns-in-20
unfolding turn_of turns
returns-in-20 c = rw (c.in-20.is, c.next.ensures)

pub returns-in-21-to-255 : goal.returns-in-21-to-255
unfolding turn_of
returns-in-21-to-255 c = rw c.ended.ensures (sym (past_all _ _ _ _ _ _ _ _ _ _ _ (above past_opcodes _ c.in-21-to-255.in-21-to-255-own.rest)))
