-- Marks come to the same places for steps that are the same.
use Prim.Native.Nat.{ℕ, ◌*◌, ◌/◌, ◌%◌, ◌<◌}
use mathlib.Core.Path.{◌≡◌, sym, ◌∙◌}
use mathlib.Core.Bool.{Bool, false}
use mathlib.Core.List.{List}
use native.Mathlib.Omega.{arith}
use lib.ListN.{length, replicate, length-replicate}
use Rattle.reach.specs.Reach.{mark}
use Rattle.reach.proofs.Laws.{length-mark}
use Rattle.reach.proofs.Settle.{settle-iter}
use Rattle.reach.proofs.Same.{iter-same}
use Rattle.flow.specs.Steps.{Step}
use Rattle.flow.specs.Places.{nodes_of, succs, reached, within, mark_moves, place_moves, start_places, mark_nodes}

pub marks_same : (next : ℕ → List ℕ) (step other : ℕ → Step) (given : ℕ → Bool) (params n : ℕ) → ((i : ℕ) → i < n → step i ≡ other i) → mark_nodes next step given params n ≡ mark_nodes next other given params n
unfolding mark_nodes reached succs place_moves
marks_same next step other given params n h = settle-iter _ (33 * n) first ∙ iter-same _ _ (33 * n) first same ∙ sym (settle-iter _ (33 * n) first)
  where
    first : List Bool
    first = mark (replicate (33 * n) false) (start_places given params)

    size : length first ≡ 33 * n
    size = length-mark (start_places given params) (replicate (33 * n) false) ∙ length-replicate (33 * n) false

    same : (u : ℕ) → u < length first → nodes_of 33 (next (u / 33)) (within (mark_moves (step (u / 33)) (u % 33))) ≡ nodes_of 33 (next (u / 33)) (within (mark_moves (other (u / 33)) (u % 33)))
    same u l = rw (h (u / 33) (omega (arith, size)))
