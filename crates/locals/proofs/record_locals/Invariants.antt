-- The invariant: the set has those of the locals below l that belong to it.
use Rattle.declarations.specs.Program.{is_record, local_kind}
use Rattle.locals.specs.code.Sets.{those}
use Prim.Native.Nat.{ℕ}
use mathlib.Core.Path.{◌≡◌}
use Rattle.locals.proofs.record_locals.Given as goal

abbrev pub invariant-loop-l : goal.invariant-loop-l
invariant-loop-l v = v.set ≡ those (λ (l : ℕ). is_record (local_kind v.table v.p l)) v.l
