-- The rules answer each example as it states, by computation: part by part, since the checker bounds what one theorem may compute.
use mathlib.Core.Path.{◌≡◌, refl, ap, sym, ◌∙◌}
use mathlib.Core.List.{List, [], ◌∷◌, ◌++◌, map, map-append}
use Rattle.table.specs.Verdicts.{Verdict}
use Rattle.judging.specs.Judging.{judge_under}
use Rattle.semantics.specs.Run.{run_of}
use Rattle.samples.specs.Samples.{Sample, samples, given as stated, answered as judged_by}
use Rattle.samples.proofs.Samples.{all_judged}
use Rattle.examples.specs.Examples.{Example, sample, Answer, judged, running_rules, running_calls, running_keys, running_limits, examples, line, given, expected, answered, answers}
use Rattle.examples.proofs.Rules.{rules}

-- what the rules answer to an example; that they answer some examples as stated
abbrev told : Example → Answer
told = answered judge_under run_of

Hold : List Example → Type 0
Hold es = map told es ≡ map given es

under_hold : Hold running_rules
unfolding Hold rules running_rules line
under_hold = refl

calls_hold : Hold running_calls
unfolding Hold rules running_calls line
calls_hold = refl

keys_hold : Hold running_keys
unfolding Hold rules running_keys line
keys_hold = refl

limits_hold : Hold running_limits
unfolding Hold rules running_limits line
limits_hold = refl

-- the samples: what holds of a sample and its verdict holds of the example
through : (f : Example → Answer) (g : Sample → Verdict) → ((s : Sample) → f (sample s) ≡ judged (g s)) → (ss : List Sample) → map f (map sample ss) ≡ map judged (map g ss)
through f g e [] = refl
through f g e (s ∷ ss) = rw (e s, through f g e ss) refl

samples_hold : Hold (map sample samples)
unfolding Hold
samples_hold = through told (judged_by judge_under) (λ s. refl) samples ∙ ap (map judged) all_judged ∙ sym (through given stated (λ s. refl) samples)

both : (xs ys : List Example) → Hold xs → Hold ys → Hold (xs ++ ys)
unfolding Hold
both xs ys hx hy = rw (map-append told xs ys, map-append given xs ys, hx, hy) refl

parts_hold : Hold (map sample samples ++ running_rules ++ running_calls ++ running_keys ++ running_limits)
parts_hold = both _ _ (both _ _ (both _ _ (both _ _ samples_hold under_hold) calls_hold) keys_hold) limits_hold

pub all_hold : answers judge_under run_of ≡ expected
unfolding Hold examples answers expected
all_hold = parts_hold
