use Prim.Native.Nat.{ℕ, ◌<◌}
use mathlib.Core.Path.{◌≡◌, refl, sym, ◌∙◌}
use mathlib.Core.Bool.{true}
use borrow.Author.Rules.{rules}
use borrow.Author.Tests.{ne_eqb, lt-ltb}
use Rattle.table.specs.Format.{past_opcodes, op_pack, op_unpack, op_call, op_ret}
use Rattle.declarations.specs.Program.{field_kinds, parameter_kinds, result_kinds}
use Rattle.effects.specs.Effects.{effects}
use Rattle.steps.proofs.Fixed.{is_fixed, fixed_takes, fixed_gives}
use Rattle.steps.proofs.Laws.{length-kinds, listed, unlisted}
use Rattle.steps.proofs.counts_of.Goals as goal

-- the others: an entry of the table
fixed : (a : ℕ) → (a ≡ op_pack → ⊥) → (a ≡ op_unpack → ⊥) → (a ≡ op_call → ⊥) → (a ≡ op_ret → ⊥) → a < past_opcodes → is_fixed a ≡ true
fixed a p u c r h = rw (ne_eqb a op_pack p, ne_eqb a op_unpack u, ne_eqb a op_call c, ne_eqb a op_ret r, lt-ltb a past_opcodes h)

-- Pack, Unpack, Call, Ret
pub returns-in-9 : goal.returns-in-9
unfolding effects field_kinds
returns-in-9 c = listed _ _ _ _ _ 9 c.in-9.is (c.fields_of.ensures ∙ sym (length-kinds _ _ _)) refl

pub returns-in-10 : goal.returns-in-10
unfolding effects field_kinds
returns-in-10 c = listed _ _ _ _ _ 10 c.in-10.is refl (c.fields_of-in-10.ensures ∙ sym (length-kinds _ _ _))

pub returns-in-15 : goal.returns-in-15
unfolding effects parameter_kinds result_kinds
returns-in-15 c = listed _ _ _ _ _ 15 c.in-15.is (c.parameters_of.ensures ∙ sym (length-kinds _ _ _)) (c.results_of.ensures ∙ sym (length-kinds _ _ _))

pub returns-in-16 : goal.returns-in-16
unfolding effects result_kinds
returns-in-16 c = listed _ _ _ _ _ 16 c.in-16.is (c.results_of-in-16.ensures ∙ sym (length-kinds _ _ _)) refl

pub returns-in_default : goal.returns-in_default
returns-in_default c =
    let f = fixed c.args.row.a (search rules) (search rules) (search rules) (search rules) (search rules) in
    (sym (fixed_takes _ _ _ _ _ _ _ f refl), sym (fixed_gives _ _ _ _ _ _ _ f refl))

pub returns-in-21-to-255 : goal.returns-in-21-to-255
returns-in-21-to-255 c = unlisted _ _ _ _ _ (search rules)
