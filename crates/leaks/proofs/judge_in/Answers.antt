-- What is lent to the search is as it wants it: no mark, no link, and an entry for each row.
use Prim.Native.Nat.{ℕ, ◌*◌}
use mathlib.Core.Path.{◌≡◌, refl, ap, ◌∙◌}
use mathlib.Core.Bool.{false}
use native.Mathlib.Omega.{arith}
use lib.ListN.{length, length-replicate}
use lib.Seq.{take_at}
use Rattle.table.specs.declared.index.Index.{Index}
use Rattle.table.specs.Rows.{row_count}
use Rattle.entries.specs.code.Entries.{no_entry}
use Rattle.leaks.specs.code.Read.{read_pass}
use Rattle.leaks.proofs.Laws.{take-replicate, length_prefix}
use Rattle.leaks.proofs.Read.{read_is}
use Rattle.leaks.proofs.judge_in.Goals as goal

pub find-requires : goal.find-requires
find-requires g c =
    let n = row_count c.args.table.now in
    let R = g.row.ROWS in
    let N = g.row.NODES in (
      c.requires.0,
      c.requires.1,
      take-replicate (32 * n) N false (omega (arith, c.requires)),
      omega (arith, c.requires, length-replicate {A = ℕ} N 0),
      length_prefix n R no_entry (omega (arith, c.requires)),
      take-replicate n R 0 (omega (arith, c.requires)),
      refl,
      take-replicate n R false (omega (arith, c.requires)),
    )

pub returns : goal.returns
returns g c =
    let filled : length c.find.new.visited ≡ 32 * row_count c.args.table.now = c.find.ensures.1 in
    let t = c.args.table.now in
    let seen = c.find.new.visited in
    c.judge_marks.ensures
    ∙ ap (read_pass t c.args.index) (take_at seen _ _ filled)
    ∙ ap (λ (ix : Index). read_pass t ix seen) c.requires.1
    ∙ read_is t c.requires.0 seen c.find.ensures.0
