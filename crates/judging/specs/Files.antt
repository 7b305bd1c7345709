-- A rule file that may be missing: `has` is 1 where there is one, else 0, and then no bytes are looked at.
use Rattle.std.specs.Prelude.{ℕ, List, [], Option, Some, None, eqb, cond}
use Rattle.table.specs.Verdicts.{Verdict}
use Rattle.judging.specs.Judging.{judge_under}

abbrev pub has_of : Option (List ℕ) → ℕ
has_of None = 0
has_of (Some r) = 1

abbrev pub bytes_of : Option (List ℕ) → List ℕ
bytes_of None = []
bytes_of (Some r) = r

-- the verdict under a rule file that may be missing
abbrev pub judge_by : Option (List ℕ) → List ℕ → Verdict
judge_by rules t = judge_under (has_of rules) (bytes_of rules) t

-- the file of a call from C, which has none where `has` is 0
abbrev pub file_if : ℕ → List ℕ → Option (List ℕ)
file_if has r = cond (eqb has 0) None (Some r)
