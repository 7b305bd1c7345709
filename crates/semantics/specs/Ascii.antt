-- Words as bytes.
use Rattle.std.specs.Prelude.{ℕ, List, [], ◌∷◌}
use Prim.Native.Char.{code}
use Prim.Native.String.{String, [] as nil, ◌∷◌ as ◌followed_by◌}

-- the bytes of a word
unfoldable pub ascii : String → List ℕ
ascii nil = []
ascii (c followed_by s) = code c ∷ ascii s
