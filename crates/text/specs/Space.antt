-- Words as bytes, and bytes put at a place of a lent space (document 01, "Numbers of refusal": without room the space stays).
use Rattle.std.specs.Prelude.{ℕ, ◌+◌, cond, List, [], ◌∷◌, leb, length}
use Prim.Native.Char.{code}
use Prim.Native.String.{String, [] as no_text, ◌∷◌ as ◌then◌}
use Rattle.std.proofs.lemmas.List.Edits.{sets}

-- the bytes of a text of ASCII characters
unfoldable pub ascii : String → List ℕ
ascii no_text = []
ascii (c then s) = code c ∷ ascii s

-- the space with the bytes s from the place at on, where all of them have room; else the space as it was
unfoldable pub placed : List ℕ → ℕ → List ℕ → List ℕ
placed space at s = cond (leb (at + length s) (length space)) (sets space at s) space
