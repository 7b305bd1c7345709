use Prim.Native.Nat.{◌+◌, ◌*◌}
use mathlib.Core.Path.{◌≡◌, ◌∙◌}
use borrow.Author.Tests.{lt-ltb, le-ltb}
use Rattle.laws.specs.Numbers.{le}
use Rattle.laws.proofs.Numbers.{le-bytes_2, le-bytes_4, le-bytes_8}
use Rattle.table.specs.Rows.{row_at, row_from}
use Rattle.table.proofs.row_at.Goals as goal

pub returns-then-i-table : goal.returns-then-i-table
unfolding row_at row_from
returns-then-i-table c =
    let t = c.args.table.now in
    let o = 16 * c.args.i in
    let b : c.from_le_bytes.result ≡ le t (o + 2) 2 = c.from_le_bytes.ensures ∙ le-bytes_2 t o 2 in
    let word : c.from_le_bytes-then-i-table.result ≡ le t (o + 4) 4 = c.from_le_bytes-then-i-table.ensures ∙ le-bytes_4 t o 4 in
    let long : c.from_le_bytes-then-i-table-2.result ≡ le t (o + 8) 8 = c.from_le_bytes-then-i-table-2.ensures ∙ le-bytes_8 t o 8 in
    rw (lt-ltb _ _ c.if-i-table.true, b, word, long)

pub returns-else-i-table : goal.returns-else-i-table
unfolding row_at
returns-else-i-table c = rw (le-ltb _ _ c.if-i-table.false)
