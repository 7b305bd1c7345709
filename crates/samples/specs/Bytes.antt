-- Which byte gives which number: a row of zeros but for its kind, A and one further byte, which is 1, as the last row of a short table whose other rows are good. For each kind and each A up to the first that is
-- not allowed, the numbers that the rows pass gives it with byte 2, 3, .. 15 set; 0 says that it accepts the table.
use Rattle.std.specs.Prelude.{ℕ, ◌+◌, List, [], ◌∷◌, ◌++◌, map, set, replicate}
use Rattle.laws.specs.Lists.{tabulate}
use Rattle.table.specs.Verdicts.{number_of}
use Rattle.table.specs.Format.{module_kind, type_kind, field_kind, procedure_kind, local_kind, result_kind, instruction_kind}
use Rattle.rows.specs.Rows.{rows_of}
use Rattle.samples.specs.Tables.{table, trusted, type, public}

-- a row below others, by kind and A: the numbers for bytes 2 to 15
pub record Given : Type 0 where
  pub above : List (List ℕ)
  pub kind : ℕ
  pub a : ℕ
  pub numbers : List ℕ

-- its bytes with byte o set
abbrev pub with_byte : ℕ → ℕ → ℕ → List ℕ
with_byte kind a o = set (kind ∷ a ∷ replicate 14 0) o 1

-- what the rows pass says
abbrev pub told : Given → List ℕ
told g = tabulate (λ (o : ℕ). number_of (rows_of (table g.above ++ with_byte g.kind g.a (o + 2)))) 14

-- what the list says
abbrev pub said : Given → List ℕ
said g = g.numbers

-- the same numbers for several A
abbrev pub rows : List (List ℕ) → ℕ → List ℕ → List ℕ → List Given
rows above kind values numbers = map (λ (a : ℕ). record { above = above; kind = kind; a = a; numbers = numbers }) values

unfoldable pub declarations : List Given
declarations =
    rows [] module_kind (0 ∷ 1 ∷ 2 ∷ []) (replicate 14 4)
    ++ rows (trusted ∷ []) type_kind (0 ∷ []) (replicate 14 4)
    ++ rows (trusted ∷ []) procedure_kind (0 ∷ 1 ∷ 2 ∷ []) (replicate 14 4)
    ++ rows (trusted ∷ type ∷ []) field_kind (0 ∷ []) (4 ∷ 4 ∷ 0 ∷ 18 ∷ 18 ∷ 18 ∷ replicate 8 4)
    ++ rows (trusted ∷ type ∷ []) field_kind (1 ∷ []) (0 ∷ 0 ∷ 19 ∷ 18 ∷ 18 ∷ 18 ∷ replicate 8 4)
    ++ rows (trusted ∷ type ∷ []) field_kind (2 ∷ []) (replicate 6 18 ++ replicate 8 4)

unfoldable pub variables : List Given
variables =
    rows (trusted ∷ public ∷ []) local_kind (0 ∷ 2 ∷ 4 ∷ []) (4 ∷ 4 ∷ 0 ∷ 18 ∷ 18 ∷ 18 ∷ replicate 8 4)
    ++ rows (trusted ∷ public ∷ []) local_kind (1 ∷ 3 ∷ 5 ∷ []) (0 ∷ 0 ∷ 0 ∷ 18 ∷ 18 ∷ 18 ∷ replicate 8 4)
    ++ rows (trusted ∷ public ∷ []) local_kind (6 ∷ []) (replicate 6 18 ++ replicate 8 4)
    ++ rows (trusted ∷ public ∷ []) result_kind (0 ∷ 2 ∷ 4 ∷ []) (replicate 14 4)
    ++ rows (trusted ∷ public ∷ []) result_kind (1 ∷ 3 ∷ 5 ∷ []) (0 ∷ 0 ∷ replicate 12 4)
    ++ rows (trusted ∷ public ∷ []) result_kind (6 ∷ []) (18 ∷ 18 ∷ replicate 12 4)

unfoldable pub instructions : List Given
instructions =
    rows (trusted ∷ public ∷ []) instruction_kind (0 ∷ 6 ∷ 7 ∷ 16 ∷ 20 ∷ []) (replicate 14 4)
    ++ rows (trusted ∷ public ∷ []) instruction_kind (1 ∷ []) (replicate 6 4 ++ replicate 8 0)
    ++ rows (trusted ∷ public ∷ []) instruction_kind (2 ∷ 3 ∷ 4 ∷ 5 ∷ 8 ∷ 9 ∷ 10 ∷ 11 ∷ 12 ∷ 13 ∷ 14 ∷ 15 ∷ 17 ∷ 18 ∷ []) (0 ∷ 0 ∷ replicate 12 4)
    ++ rows (trusted ∷ public ∷ []) instruction_kind (19 ∷ []) (0 ∷ 18 ∷ replicate 12 4)
    ++ rows (trusted ∷ public ∷ []) instruction_kind (21 ∷ []) (18 ∷ 18 ∷ 4 ∷ 4 ∷ 4 ∷ 4 ∷ replicate 8 18)

-- all of them
unfoldable pub every_byte : List Given
every_byte = declarations ++ variables ++ instructions
