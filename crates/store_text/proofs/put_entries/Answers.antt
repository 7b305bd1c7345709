-- As many numbers are lent as there are entries to print: their lines in order are those of the entries in order.
use native.Mathlib.Omega.{arith}
use Prim.Native.Nat.{ℕ, ◌<◌}
use mathlib.Core.Path.{◌≡◌}
use lib.ListN.{length, take, replicate}
use lib.Seq.{length-take-le}
use Rattle.store_text.proofs.Sorting.{entries-in-order}
use Rattle.store_text.proofs.put_entries.Goals as goal

-- the numbers lent
lent : (n : ℕ) → n < 256 → length (take n (replicate {A = ℕ} 255 0)) ≡ n
lent n l = length-take-le n (replicate 255 0) (omega arith)

pub returns : goal.returns
returns c =
    let e = lent c.args.count (omega arith) in
    let sorted = rw e at c.sort.ensures in
    rw (entries-in-order, ← sorted) c.put_lines.ensures
