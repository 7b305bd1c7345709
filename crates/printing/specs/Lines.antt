-- What is printed.
use Rattle.std.specs.Prelude.{ℕ, List, [], ◌++◌, codes, decimal, length, take, nat_le, if◌then◌else◌}
use Rattle.table.specs.Verdicts.{Verdict, Accepted, Refused}

-- the line of a verdict
abbrev pub verdict_line : Verdict → List ℕ
verdict_line (Accepted rows) = codes "accepted " ++ decimal rows ++ codes "\n"
verdict_line (Refused number row) = codes "refused " ++ decimal number ++ codes " row " ++ decimal row ++ codes "\n"

-- the text of a run that took this buffer
abbrev pub printed_of : Verdict → List ℕ → List ℕ
printed_of (Accepted size) text = if nat_le size (length text) then take size text else []
printed_of (Refused number row) text = verdict_line (Refused number row)
