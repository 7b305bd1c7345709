-- The first bytes of the word are put.
use Rattle.std.proofs.Common.{take}
use Rattle.text.specs.code.Placing.{Puts}
use Rattle.text.proofs.Writer.put_word.Given as goal

abbrev pub invariant-loop-b : goal.invariant-loop-b
invariant-loop-b l = Puts l.initial.self (take l.b-index l.word) l.self
