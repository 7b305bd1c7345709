use Rattle.std.proofs.Common.{rules, ◌≡◌, get_or}
use Rattle.rows.proofs.Laws.{kinds, no_rows, kind_asks}
use Rattle.rows.proofs.kind_of.Goals as goal

pub returns : goal.returns
returns c =
    let e : c.unwrap_or.result ≡ get_or kinds c.args.row.kind no_rows = search rules in
    let a = kind_asks c.args.row.kind in
    rw e (record { follows = a.follows; limit = a.limit; values = a.values })
