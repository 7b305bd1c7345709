-- The limits and the stops of running by name (document 01, "Running").
use Rattle.std.specs.Prelude.{ℕ}

-- at most so many frames, live records and store entries
abbrev pub max_frames : ℕ
max_frames = 16

abbrev pub max_records : ℕ
max_records = 128

abbrev pub max_entries : ℕ
max_entries = 64

-- stops: the budget is spent; a sum above 64 bits; the key is taken; no such key; a stale reference; a 17th frame; a 129th live record; a 65th store
-- entry; a difference below zero (document 02, paper 4)
abbrev pub budget_spent : ℕ
budget_spent = 31

abbrev pub too_large : ℕ
too_large = 32

abbrev pub key_taken : ℕ
key_taken = 33

abbrev pub no_such_key : ℕ
no_such_key = 34

abbrev pub stale_reference : ℕ
stale_reference = 35

abbrev pub too_many_frames : ℕ
too_many_frames = 36

abbrev pub too_many_records : ℕ
too_many_records = 37

abbrev pub too_many_entries : ℕ
too_many_entries = 38

abbrev pub below_zero : ℕ
below_zero = 39
