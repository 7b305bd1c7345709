-- Sets of locals, of which there are at most 16.
use Rattle.std.specs.Prelude.{ℕ, zero, suc, Bool, true, false, cond, get_or, set, replicate}
use Rattle.table.specs.Format.{max_locals}
use Rattle.locals.specs.declared.LocalSet.{LocalSet}

-- the empty set
abbrev pub no_locals : LocalSet
no_locals = record { has = replicate max_locals false }

-- the set with local l; a number that is no local's changes nothing
unfoldable pub inserted : LocalSet → ℕ → LocalSet
inserted s l = record { has = set s.has l true }

-- whether local l is in the set
unfoldable pub contains : LocalSet → ℕ → Bool
contains s l = get_or s.has l false

-- the set of the locals below n of which a test holds
unfoldable pub those : (ℕ → Bool) → ℕ → LocalSet
those test zero = no_locals
those test (suc n) = cond (test n) (inserted (those test n) n) (those test n)
