use native.Mathlib.Omega.{arith}
use borrow.Author.Tests.{lt-leb}
use Prim.Native.Nat.{◌/◌}
use Rattle.declarations.specs.Program.{field_count}
use Rattle.names.proofs.Laws.{leb_minus}
use Rattle.names.proofs.bad_field_number.Goals as goal

pub returns-else-s-from : goal.returns-else-s-from
unfolding field_count
returns-else-s-from c = rw (lt-leb c.args.s.types (c.args.b / 8) (omega arith), leb_minus) (cc)
