-- Who holds a record: an operand, a full local, a field of a record, or an entry of the store.
use Rattle.std.specs.Prelude.{ℕ, zero, suc, ◌+◌, List, [], ◌∷◌}
use Rattle.std.proofs.Math.Option.{Option, none, some}
use Rattle.semantics.specs.Machine.{Value, num, obj, refer, Cell, gone, here, Entry, entry, Frame, frame, lives}

-- 1 where two identities are the same, else 0
abbrev pub same : ℕ → ℕ → ℕ
same zero zero = 1
same zero (suc j) = 0
same (suc i) zero = 0
same (suc i) (suc j) = same i j

-- how often record r is held
abbrev pub in_value : ℕ → Value → ℕ
in_value r (num n) = 0
in_value r (obj id y) = same r id
in_value r (refer w x) = 0

abbrev pub in_values : ℕ → List Value → ℕ
in_values r [] = 0
in_values r (v ∷ vs) = in_value r v + in_values r vs

abbrev pub in_slot : ℕ → Option Value → ℕ
in_slot r none = 0
in_slot r (some v) = in_value r v

abbrev pub in_locals : ℕ → List (Option Value) → ℕ
in_locals r [] = 0
in_locals r (o ∷ ls) = in_slot r o + in_locals r ls

abbrev pub in_frames : ℕ → List Frame → ℕ
in_frames r [] = 0
in_frames r (frame id p i ops ls ∷ fs) = in_values r ops + in_locals r ls + in_frames r fs

abbrev pub in_fields : ℕ → Cell → ℕ
in_fields r (gone y) = 0
in_fields r (here y vs) = in_values r vs

abbrev pub in_records : ℕ → List Cell → ℕ
in_records r [] = 0
in_records r (c ∷ rs) = in_fields r c + in_records r rs

abbrev pub in_store : ℕ → List Entry → ℕ
in_store r [] = 0
in_store r (entry y a id ∷ st) = same r id + in_store r st

-- 1 where record r lives, else 0
abbrev pub lives_at : List Cell → ℕ → ℕ
lives_at [] r = 0
lives_at (c ∷ rs) zero = lives c
lives_at (c ∷ rs) (suc r) = lives_at rs r
