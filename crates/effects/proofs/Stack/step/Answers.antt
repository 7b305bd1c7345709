use mathlib.Core.Path.{◌∙◌}
use Rattle.effects.specs.Kinds.{taken_all, pushed_all}
use Rattle.effects.specs.Effects.{effects, applied}
use native.Mathlib.Omega.{arith}
use Rattle.effects.proofs.Laws.{listed, unlisted}
use Rattle.effects.proofs.Stack.step.Goals as goal

pub returns-in-0 : goal.returns-in-0
unfolding effects applied taken_all pushed_all
returns-in-0 g c = c.pop.ensures ∙ listed _ _ _ _ _ _ 0 c.in-0.is

pub returns-in-1 : goal.returns-in-1
unfolding effects applied taken_all pushed_all
returns-in-1 g c = c.load_const.ensures ∙ listed _ _ _ _ _ _ 1 c.in-1.is

pub returns-in-2 : goal.returns-in-2
unfolding effects applied taken_all pushed_all
returns-in-2 g c = c.move_local.ensures ∙ listed _ _ _ _ _ _ 2 c.in-2.is

pub returns-in-3 : goal.returns-in-3
unfolding effects applied taken_all pushed_all
returns-in-3 g c = c.copy_local.ensures ∙ listed _ _ _ _ _ _ 3 c.in-3.is

pub returns-in-4 : goal.returns-in-4
unfolding effects applied taken_all pushed_all
returns-in-4 g c = c.store_local.ensures ∙ listed _ _ _ _ _ _ 4 c.in-4.is

pub returns-in-5 : goal.returns-in-5
unfolding effects applied taken_all pushed_all
returns-in-5 g c = c.borrow_local.ensures ∙ listed _ _ _ _ _ _ 5 c.in-5.is

pub returns-in-6 : goal.returns-in-6
unfolding effects applied taken_all pushed_all
returns-in-6 g c = c.read_ref.ensures ∙ listed _ _ _ _ _ _ 6 c.in-6.is

pub returns-in-7 : goal.returns-in-7
unfolding effects applied taken_all pushed_all
returns-in-7 g c = c.write_ref.ensures ∙ listed _ _ _ _ _ _ 7 c.in-7.is

pub returns-in-8 : goal.returns-in-8
unfolding effects applied taken_all pushed_all
returns-in-8 g c = c.borrow_field.ensures ∙ listed _ _ _ _ _ _ 8 c.in-8.is

pub returns-in-9 : goal.returns-in-9
unfolding effects applied taken_all pushed_all
returns-in-9 g c = c.pack.ensures ∙ listed _ _ _ _ _ _ 9 c.in-9.is

pub returns-in-10 : goal.returns-in-10
unfolding effects applied taken_all pushed_all
returns-in-10 g c = c.unpack.ensures ∙ listed _ _ _ _ _ _ 10 c.in-10.is

pub returns-in-11 : goal.returns-in-11
unfolding effects applied taken_all pushed_all
returns-in-11 g c = c.move_to.ensures ∙ listed _ _ _ _ _ _ 11 c.in-11.is

pub returns-in-12 : goal.returns-in-12
unfolding effects applied taken_all pushed_all
returns-in-12 g c = c.move_from.ensures ∙ listed _ _ _ _ _ _ 12 c.in-12.is

pub returns-in-13 : goal.returns-in-13
unfolding effects applied taken_all pushed_all
returns-in-13 g c = c.borrow_global.ensures ∙ listed _ _ _ _ _ _ 13 c.in-13.is

pub returns-in-14 : goal.returns-in-14
unfolding effects applied taken_all pushed_all
returns-in-14 g c = c.exists.ensures ∙ listed _ _ _ _ _ _ 14 c.in-14.is

pub returns-in-15 : goal.returns-in-15
unfolding effects applied taken_all pushed_all
returns-in-15 g c = c.call.ensures ∙ listed _ _ _ _ _ _ 15 c.in-15.is

pub returns-in-16 : goal.returns-in-16
unfolding effects applied taken_all pushed_all
returns-in-16 g c = c.ret.ensures ∙ listed _ _ _ _ _ _ 16 c.in-16.is

pub returns-in-17 : goal.returns-in-17
unfolding effects applied taken_all pushed_all
returns-in-17 g c = listed _ _ _ _ _ _ 17 c.in-17.is

pub returns-in-18 : goal.returns-in-18
unfolding effects applied taken_all pushed_all
returns-in-18 g c = c.branch_cond.ensures ∙ listed _ _ _ _ _ _ 18 c.in-18.is

pub returns-in-19 : goal.returns-in-19
unfolding effects applied taken_all pushed_all
returns-in-19 g c = c.op.ensures ∙ listed _ _ _ _ _ _ 19 c.in-19.is

pub returns-in-20 : goal.returns-in-20
unfolding effects applied taken_all pushed_all
returns-in-20 g c = c.freeze.ensures ∙ listed _ _ _ _ _ _ 20 c.in-20.is

pub returns-in-21-to-255 : goal.returns-in-21-to-255
unfolding effects applied taken_all pushed_all
returns-in-21-to-255 g c = c.fail.ensures _ ∙ unlisted _ _ _ _ _ _ (omega arith)
