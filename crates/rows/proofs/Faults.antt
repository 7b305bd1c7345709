-- A row has no fault exactly if none of the five tests holds.
use mathlib.Core.Path.{◌≡◌}
use mathlib.Core.Logic.{◌↔◌}
use Rattle.laws.proofs.First.{unfaulted}
use Rattle.table.specs.declared.Row.{Row}
use Rattle.rows.specs.declared.Above.{Above}
use Rattle.rows.specs.Rows.{misplaced, too_many, unused_byte, bad_value, bad_guard, row_fault, Faultless}

pub faultless : (s : Above) (row : Row) → (row_fault s row ≡ 0) ↔ Faultless s row
unfolding row_fault
faultless s row = (to, from)
  where
    to : row_fault s row ≡ 0 → Faultless s row
    to e =
        let a = unfaulted (misplaced s row) _ _ e in
        let b = unfaulted (too_many s row) _ _ a.1 in
        let c = unfaulted (unused_byte row) _ _ b.1 in
        let d = unfaulted (bad_value s row) _ _ c.1 in
        let g = unfaulted (bad_guard s row) _ _ d.1 in
        record { placed = a.0; within = b.0; clean = c.0; allowed = d.0; guarded = g.0 }

    from : Faultless s row → row_fault s row ≡ 0
    from f = rw (f.placed, f.within, f.clean, f.allowed, f.guarded)
