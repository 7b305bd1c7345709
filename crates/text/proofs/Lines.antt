-- The lines of calls, in the order in which their parts are put.
use Prim.Native.Nat.{ℕ, ◌+◌, ◌<◌}
use mathlib.Core.Path.{◌≡◌, refl, sym, ap}
use mathlib.Core.List.{List, [], ◌∷◌, ◌++◌, map, append_assoc, append-nil}
use native.Mathlib.Numerals.{add-one}
use lib.ListN.{length, take, get_or}
use lib.Seq.{take-suc}
use Rattle.semantics.specs.Machine.{num, State, finished, stopped}
use Rattle.semantics.specs.Ascii.{ascii}
use Rattle.semantics.specs.Text.{decimal, spaced, values, call_line}

-- numbers, each with a space before it
abbrev pub numbers : List ℕ → List ℕ
numbers xs = values (λ (id : ℕ). []) (map num xs)

-- the numbers of two lists
numbers_append : (xs ys : List ℕ) → numbers (xs ++ ys) ≡ numbers xs ++ numbers ys
numbers_append [] ys = refl
numbers_append (x ∷ xs) ys = rw (numbers_append xs ys) (sym (append_assoc (spaced (decimal x)) (numbers xs) (numbers ys)))

-- one number more
pub numbers_more : (xs : List ℕ) (i : ℕ) → i < length xs → numbers (take i xs) ++ spaced (decimal (get_or xs i 0)) ≡ numbers (take (i + 1) xs)
numbers_more xs i h = rw (add-one, take-suc xs i 0 h, numbers_append (take i xs) (get_or xs i 0 ∷ []), append-nil (spaced (decimal (get_or xs i 0))))

-- four parts after a first one
four : (a b c d e : List ℕ) → a ++ b ++ c ++ d ++ e ≡ a ++ (b ++ c ++ d ++ e)
four a b c d e = simp append_assoc

-- the line of a call that stopped
pub stop_line : (i k row : ℕ)
    → ascii "call" ++ spaced (decimal i) ++ ascii " stop" ++ spaced (decimal k) ++ ascii " row" ++ spaced (decimal row) ++ ascii "\n" ≡ call_line i row (stopped k)
unfolding call_line ascii
stop_line i k row = ap (λ (xs : List ℕ). xs ++ ascii "\n") (four (ascii "call" ++ spaced (decimal i)) (ascii " stop") (spaced (decimal k)) (ascii " row") (spaced (decimal row)))

-- the line of a call that is done
pub done-line : (i row : ℕ) (xs : List ℕ) (s : State) → ascii "call" ++ spaced (decimal i) ++ ascii " done" ++ numbers xs ++ ascii "\n" ≡ call_line i row (finished (map num xs) s)
unfolding call_line ascii
done-line i row xs s = ap (λ (ys : List ℕ). ys ++ ascii "\n") (append_assoc (ascii "call" ++ spaced (decimal i)) (ascii " done") (numbers xs))
