use Prim.Native.Nat.{◌≤◌}
use mathlib.Core.Path.{◌≡◌}
use lib.ListN.{length}
use Rattle.text.specs.code.Placing.{placed}
use Rattle.state.specs.code.Cells.{cells_of}
use Rattle.running.specs.code.Lists.{text_in}
use Rattle.running.proofs.Laws.{left}
use Rattle.running.proofs.run_calls.Given as goal

abbrev pub invariant-loop-i : goal.invariant-loop-i
invariant-loop-i l = record {
  counted : l.call ≤ l.i;
  same_reference : l.writer.text.ghost_name ≡ l.initial.writer.text.ghost_name;
  cells : length l.cells ≡ 3648;
  saved : length l.saved ≡ 3648;
  text : placed l.initial.writer.text.now 0 (text_in l.table l.index l.list) ≡ left l.table l.index l.list l.writer l.i l.call l.last.same (cells_of l.cells) (cells_of l.saved) l.last.state;
}
