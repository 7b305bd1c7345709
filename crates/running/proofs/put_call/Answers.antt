use Rattle.running.proofs.Laws.{line-is}
use Rattle.running.proofs.put_call.Goals as goal

pub returns : goal.returns
returns c = line-is _ _ _ _ c.procedure_in-own.ensures c.results_of-count.ensures c.results_of-results.ensures c.put_end.ensures
