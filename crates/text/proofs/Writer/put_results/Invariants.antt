-- The first results are put.
use Rattle.std.proofs.Common.{take}
use Rattle.text.specs.code.Placing.{Puts}
use Rattle.text.proofs.Lines.{numbers}
use Rattle.text.proofs.Writer.put_results.Given as goal

abbrev pub invariant-loop-n : goal.invariant-loop-n
invariant-loop-n l = Puts l.initial.self (numbers (take l.n-index l.results)) l.self
