use Rattle.std.proofs.Common.{ℕ, ◌+◌, ◌-◌, ◌<◌, ◌≡◌, [], ◌∷◌, sym, ap, get_or, arith, inl, inr}
use mathlib.Core.Path.{◌∙◌}
use Rattle.semantics.specs.Ascii.{ascii}
use Rattle.state.specs.code.Cells.{cells_of}
use Rattle.state.specs.declared.Operand.{Operand}
use Rattle.state.specs.declared.Operand.TheVariants.{Empty}
use Rattle.machine.specs.code.Lists.{mvalues, mfields}
use Rattle.machine.specs.code.Views.{rooms_in}
use Rattle.text.proofs.Placing.{puts_none, puts_more, puts_same}
use Rattle.store_text.proofs.Laws.{values-none, values_more, record_value, fields-none, fields_past, fields_other, fields-held}
use Rattle.store_text.proofs.+put_fields_put_operand.Goals as goal
use Rattle.store_text.proofs.+put_fields_put_operand.Goals.{put_fields-then-depth-eq0-via-then-depth-eq0, put_fields-then-depth-eq0-via-else-depth-eq0+then-room-ge128, put_fields-then-depth-eq0-via-else-depth-eq0+else-room-ge128+then-not-is_live}

pub put_fields-returns-then-depth-eq0 : goal.put_fields-returns-then-depth-eq0
put_fields-returns-then-depth-eq0 t c =
    elim c.then-depth-eq0.branch [
      | put_fields-then-depth-eq0-via-then-depth-eq0 w ↦ puts_same (fields-none _ _ _ _ w.if-depth-eq0.true) (puts_none _)
      | put_fields-then-depth-eq0-via-else-depth-eq0+then-room-ge128 w ↦ puts_same (fields_past _ _ _ _ w.if-room-ge128.true) (puts_none _)
      | put_fields-then-depth-eq0-via-else-depth-eq0+else-room-ge128+then-not-is_live w ↦
          puts_same (fields_other _ _ _ _ w.if-room-ge128.false (sym w.is_live.ensures ∙ w.if-not-is_live.true)) (puts_none _)
    ]

pub put_fields-loop-j-init : goal.put_fields-loop-j-init
put_fields-loop-j-init t c = puts_same (values-none _ _ _) (puts_none _)

pub put_fields-loop-j-preserved : goal.put_fields-loop-j-preserved
put_fields-loop-j-preserved t c =
    let l = c.loop-j in
    let a = c.args in
    let o : ℕ = c.room_cell-o.result in
    let cs = cells_of a.cells.now in
    let f = mfields (a.depth - 1) (rooms_in cs) in
    let field : c.cell.result ≡ get_or cs (o + 1 + l.j) Empty = c.cell.ensures in
    puts_same (values_more f cs (o + 1) l.j) (puts_more l.invariant (puts_same (ap (λ (x : Operand). mvalues f (x ∷ [])) field) c.put_operand.ensures))

pub put_fields-returns : goal.put_fields-returns
put_fields-returns t c =
    let l = c.loop-j in
    let a = c.args in
    let cs = cells_of a.cells.now in
    let d : 0 < a.depth = omega (arith, c.if-depth-eq0.false) in
    let e : l.j ≡ c.second_at-n.result = omega arith in
    let held = fields-held cs a.depth a.serial a.room d c.if-room-ge128.false (sym c.is_live.ensures ∙ c.if-not-is_live.false) in
    puts_same (rw (e, c.second_at-n.ensures, c.room_cell-o.ensures) held) l.invariant

pub put_operand-returns-in-Empty : goal.put_operand-returns-in-Empty
put_operand-returns-in-Empty t c = elim c.in-Empty.is [ inl e ↦ rw e (puts_none _) | inr e ↦ rw e.1 (puts_none _) ]

pub put_operand-returns-in-Record : goal.put_operand-returns-in-Record
unfolding ascii
put_operand-returns-in-Record t c =
    let a = c.args in
    rw c.in-Record.is (record_value (mfields a.depth (rooms_in (cells_of a.cells.now))) _ _ _ c.put_type.ensures c.put_fields.ensures c.put_byte.ensures)
