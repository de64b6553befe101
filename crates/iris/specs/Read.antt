-- What is read of a text: the number of a value, arguments, a constructor with its arguments; and the parts of a text.
-- Assumes nothing.
use Rattle.std.specs.Prelude.{eqb, cond, Option, None, Some, List, [], ◌∷◌, ℕ}
use Rattle.std.proofs.Math.Option as Math
use Rattle.std.proofs.Math.Option.{none, some}
use Rattle.iris.specs.declared.iri.Term.{Term}
use Rattle.meaning.specs.Listing.{padded}
use Rattle.meaning.specs.Pack.{Text}
use Rattle.spelling.specs.Iri.{slash}

-- ---- the answers

unfoldable pub found_of : Math.Option ℕ → Option ℕ
found_of none = None
found_of (some v) = Some v

unfoldable pub arguments_of : Math.Option (List ℕ) → Option (List ℕ)
arguments_of none = None
arguments_of (some vs) = Some (padded vs)

-- "the constructor number and, in argument order, as many value numbers as its arity, 65,535 in places unused"
abbrev pub term : ℕ → List ℕ → Term
term c vs = record { constructor = c; values = padded vs }

unfoldable pub iri_read : Math.Option (ℕ × List ℕ) → Option Term
iri_read none = None
iri_read (some t) = Some (term t.0 t.1)

-- the text before the first "/"
unfoldable pub first_part : Text → Text
first_part [] = []
first_part (b ∷ s) = cond (eqb b slash) [] (b ∷ first_part s)
