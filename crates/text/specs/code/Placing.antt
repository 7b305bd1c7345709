-- Bytes put into a buffer from a place on, as far as there is room.
use Rattle.std.specs.Prelude.{ℕ, ◌+◌, cond, List, [], ◌∷◌, ◌≡◌, ltb, length, set}
use Rattle.text.specs.declared.Writer.{Writer}

-- the buffer with the bytes in it, and the place after the last of them
pub record Placed : Type 0 where
  pub buffer : List ℕ
  pub end : ℕ

-- the bytes put into s one after the other, the first at `at`; those for which there is no room are left out
unfoldable pub placed : List ℕ → ℕ → List ℕ → Placed
placed s at [] = record { buffer = s; end = at }
placed s at (b ∷ bs) = cond (ltb at (length s)) (placed (set s at b) (at + 1) bs) (record { buffer = s; end = at })

-- the writer u is w after it has put the bytes: it still writes into w's buffer
pub record Puts (w : Writer) (bytes : List ℕ) (u : Writer) : Type 0 where
  pub same_reference : u.text.ghost_name ≡ w.text.ghost_name
  pub text : u.text.now ≡ (placed w.text.now w.end bytes).buffer
  pub end : u.end ≡ (placed w.text.now w.end bytes).end
