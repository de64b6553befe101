-- The bytes of a quoted text, for tables that a person reads. (ASCII only: a character's code is its byte.) Assumes
-- nothing.
use Rattle.std.specs.Prelude.{[], ◌∷◌}
use Prim.Native.Char.{code}
use Prim.Native.String as S
use Prim.Native.String.{String}
use Rattle.meaning.specs.Pack.{Text}

abbrev pub ascii : String → Text
ascii S.[] = []
ascii (S.◌∷◌ c s) = code c ∷ ascii s
