-- The rules judge each sample as it states, by computation: part by part, since the checker bounds what one theorem may compute.
use mathlib.Core.Path.{◌≡◌, refl}
use mathlib.Core.List.{List, ◌++◌, map, map-append}
use Rattle.table.specs.Verdicts.{Verdict}
use Rattle.judging.specs.Judging.{judge_under}
use Rattle.samples.specs.Samples.{Sample, judging_rows, judging_values, judging_walks, judging_marks, judging_overwritten, judging_read_only, judging_handed, judging_helpers, judging_given, judging_rounds, judging_file, judging_pairs, samples, given, answered}
use Rattle.samples.proofs.Rules.{rules}

-- what the rules answer to a sample; that they answer some samples as stated
abbrev told : Sample → Verdict
told = answered judge_under

Hold : List Sample → Type 0
Hold ss = map told ss ≡ map given ss

rows_hold : Hold judging_rows
unfolding Hold rules judging_rows
rows_hold = refl

values_hold : Hold judging_values
unfolding Hold rules judging_values
values_hold = refl

walks_hold : Hold judging_walks
unfolding Hold rules judging_walks
walks_hold = refl

marks_hold : Hold judging_marks
unfolding Hold rules judging_marks
marks_hold = refl

overwritten_hold : Hold judging_overwritten
unfolding Hold rules judging_overwritten
overwritten_hold = refl

read_only_hold : Hold judging_read_only
unfolding Hold rules judging_read_only
read_only_hold = refl

handed_hold : Hold judging_handed
unfolding Hold rules judging_handed
handed_hold = refl

helpers_hold : Hold judging_helpers
unfolding Hold rules judging_helpers
helpers_hold = refl

given_hold : Hold judging_given
unfolding Hold rules judging_given
given_hold = refl

rounds_hold : Hold judging_rounds
unfolding Hold rules judging_rounds
rounds_hold = refl

file_hold : Hold judging_file
unfolding Hold rules judging_file
file_hold = refl

pairs_hold : Hold judging_pairs
unfolding Hold rules judging_pairs
pairs_hold = refl

both : (xs ys : List Sample) → Hold xs → Hold ys → Hold (xs ++ ys)
unfolding Hold
both xs ys hx hy = rw (map-append told xs ys, map-append given xs ys, hx, hy) refl

parts_hold : Hold (judging_rows ++ judging_values ++ judging_walks ++ judging_marks ++ judging_overwritten ++ judging_read_only ++ judging_handed ++ judging_helpers ++ judging_given ++ judging_rounds ++ judging_file ++ judging_pairs)
parts_hold = both _ _ (both _ _ (both _ _ (both _ _ (both _ _ (both _ _ (both _ _ (both _ _ (both _ _ (both _ _ (both _ _ rows_hold values_hold) walks_hold) marks_hold) overwritten_hold) read_only_hold) handed_hold) helpers_hold) given_hold) rounds_hold) file_hold) pairs_hold

pub all_judged : map (answered judge_under) samples ≡ map given samples
unfolding Hold samples
all_judged = parts_hold
