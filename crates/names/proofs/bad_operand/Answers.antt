use mathlib.Core.Path.{refl}
use native.Mathlib.Omega.{arith}
use Rattle.laws.specs.Lists.{tabulate}
use Rattle.declarations.specs.Program.{local_count, code_length}
use Rattle.names.specs.Names.{names, missing, nothing, local_number, type_number, target}
use Rattle.names.proofs.Laws.{leb_minus, named-alike}
use Rattle.names.proofs.bad_operand.Goals as goal

pub returns-in-2-to-5 : goal.returns-in-2-to-5
unfolding names tabulate missing local_count
returns-in-2-to-5 c = rw (named-alike 2 4 local_number refl c.args.opcode (omega arith) (omega arith), leb_minus) (cc)

pub returns-in-8 : goal.returns-in-8
unfolding names missing
returns-in-8 c = rw c.in-8.is c.bad_field_number.ensures

pub returns-in-9-to-14 : goal.returns-in-9-to-14
unfolding names tabulate missing
returns-in-9-to-14 c = rw (named-alike 9 6 type_number refl c.args.opcode (omega arith) (omega arith)) (cc)

pub returns-in-15 : goal.returns-in-15
unfolding names missing
returns-in-15 c = rw c.in-15.is (cc)

pub returns-in-17 : goal.returns-in-17
unfolding names tabulate missing code_length
returns-in-17 c = rw (named-alike 17 2 target refl c.args.opcode (grind arith) (grind arith), leb_minus) (cc)

pub returns-in_default : goal.returns-in_default
unfolding names tabulate missing
returns-in_default c = rw (named-alike 0 2 nothing refl c.args.opcode (omega arith) (omega arith))

pub returns-in_default-2 : goal.returns-in_default-2
unfolding names tabulate missing
returns-in_default-2 c = rw (named-alike 6 2 nothing refl c.args.opcode (omega arith) (omega arith))

pub returns-in_default-3 : goal.returns-in_default-3
unfolding names tabulate missing
returns-in_default-3 c = rw (named-alike 16 1 nothing refl c.args.opcode (omega arith) (omega arith))

pub returns-in_default-4 : goal.returns-in_default-4
unfolding names tabulate missing
returns-in_default-4 c = rw (named-alike 19 237 nothing refl c.args.opcode (omega arith) (omega arith))
