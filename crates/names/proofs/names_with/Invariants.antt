-- The invariant: y types and p procedures begin above row i, own is procedure p - 1, and no row above i has a fault.
use Prim.Native.Nat.{◌-◌}
use mathlib.Core.Path.{◌≡◌}
use Rattle.laws.specs.Lists.{count}
use Rattle.laws.proofs.First.{from}
use Rattle.table.specs.Verdicts.{Accepted, Refused}
use Rattle.table.specs.Format.{type_kind, procedure_kind}
use Rattle.table.specs.Rows.{is_kind}
use Rattle.declarations.specs.Program.{procedure_in}
use Rattle.names.specs.Names.{names_with, fault_at}
use Rattle.names.proofs.names_with.Given as goal

abbrev pub invariant-loop-i : goal.invariant-loop-i
invariant-loop-i l = (l.y ≡ count (is_kind l.table type_kind) l.i)
    × (l.p ≡ count (is_kind l.table procedure_kind) l.i)
    × (l.own ≡ procedure_in l.index (l.p - 1))
    × (names_with l.index l.table ≡ from Accepted Refused (fault_at l.table l.index) l.n l.i)
