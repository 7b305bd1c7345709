-- Rounds in graphs with the same successors of the nodes.
use Prim.Native.Nat.{ℕ, zero, suc, ◌+◌, ◌<◌}
use mathlib.Core.Path.{◌≡◌, refl}
use mathlib.Core.Bool.{Bool, true, false}
use mathlib.Core.List.{List, [], ◌∷◌}
use native.Mathlib.Nat.{add-zero, zero-add}
use native.Mathlib.Omega.{arith}
use lib.ListN.{length}
use Rattle.reach.specs.Reach.{mark, push, sweep, rounds, iter}
use Rattle.reach.proofs.Laws.{length-iter}

later : (f g : ℕ → List ℕ) (u n : ℕ) → ((w : ℕ) → w < suc n → f (u + w) ≡ g (u + w)) → (w : ℕ) → w < n → f (u + 1 + w) ≡ g (u + 1 + w)
later f g u n h w l = let z : u + suc w ≡ u + 1 + w = omega arith in rw z at (h (suc w) (omega arith))

push-same : (f g : ℕ → List ℕ) (s : List Bool) (u : ℕ) (acc : List Bool) → ((w : ℕ) → w < length s → f (u + w) ≡ g (u + w)) → push f u s acc ≡ push g u s acc
unfolding push
push-same f g [] u acc h = refl
push-same f g (true ∷ s) u acc h = let e : f u ≡ g u = rw add-zero at (h 0 (omega arith)) in rw e (push-same f g s (u + 1) (mark acc (g u)) (later f g u (length s) h))
push-same f g (false ∷ s) u acc h = push-same f g s (u + 1) acc (later f g u (length s) h)

pub iter-same : (f g : ℕ → List ℕ) (k : ℕ) (s : List Bool) → ((u : ℕ) → u < length s → f u ≡ g u) → iter f k s ≡ iter g k s
unfolding rounds sweep
iter-same f g zero s h = refl
iter-same f g (suc k) s h =
    rw (iter-same f g k s h) (push-same f g (iter g k s) 0 (iter g k s) (λ w l. rw zero-add (h w (rw length-iter at l))))
