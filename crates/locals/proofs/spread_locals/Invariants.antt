-- The invariant: the parts of the locals below l have what walks leave in them.
use Rattle.locals.specs.Locals.{nodes_of}
use Rattle.table.specs.Rows.{row_count}
use lib.ListN.{take, drop}
use Prim.Native.Nat.{ℕ, ◌*◌, ◌<◌}
use mathlib.Core.Path.{◌≡◌}
use Rattle.locals.proofs.spread_locals.Given as goal

abbrev pub invariant-loop-l : goal.invariant-loop-l
invariant-loop-l l = (m : ℕ) → m < l.l → take (2 * row_count l.code) (drop (2 * row_count l.code * m) l.nodes) ≡ nodes_of l.code l.params m
