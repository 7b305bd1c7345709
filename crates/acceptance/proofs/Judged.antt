-- What an accepted table gives a proof about running.
use Prim.Native.Nat.{ℕ}
use mathlib.Core.Path.{◌≡◌}
use mathlib.Core.List.{List}
use Rattle.table.specs.Verdicts.{Accepted}
use Rattle.table.specs.Index.{index_of}
use Rattle.judging.specs.Judging.{judge_of}
use Rattle.judging.proofs.Accepts.{accepted}
use Rattle.acceptance.specs.Judged.{Bytes, Judged}
use Rattle.acceptance.proofs.Procedures.{procedure}
use Rattle.acceptance.proofs.Instructions.{instruction}
use Rattle.acceptance.proofs.Types.{declared}

-- every procedure, instruction and type of an accepted table is as a proof about running needs it
pub judged : (t : List ℕ) (n : ℕ) → Bytes t → judge_of t ≡ Accepted n → Judged t (index_of t)
judged t n bytes e =
    let a = accepted t n e in
    record {
      accepted = a;
      procedure = procedure t a;
      instruction = instruction t a bytes;
      declared = declared t a;
    }
