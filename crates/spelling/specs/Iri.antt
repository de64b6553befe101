-- The IRI of a constructor over values (document 01, "Spelling an IRI"), for any way to write a value's text. Document 01's
-- own way is `segment`. Assumes nothing.
use Rattle.std.specs.Prelude.{length, get_or, List, [], ◌∷◌, ◌++◌, map, ◌≡◌, ℕ, ◌<◌}
use Rattle.std.proofs.Math.ListN.{get_elem?}
use Rattle.std.proofs.Math.Option.{some}
use Rattle.meaning.specs.Graph.{Spelling}
use Rattle.meaning.specs.Member.{◌∈◌}
use Rattle.meaning.specs.Pack.{Pack, Text, Constructor}
use Rattle.meaning.specs.WellFormed.{prefixes}
use Rattle.spelling.specs.Segment.{segment}

abbrev pub slash : ℕ  -- the byte "/"
slash = 47

-- each text behind a "/"
unfoldable pub slashed : List Text → Text
slashed [] = []
slashed (t ∷ ts) = slash ∷ t ++ slashed ts

-- "joined by "/""
unfoldable pub joined : List Text → Text
joined [] = []
joined (t ∷ ts) = t ++ slashed ts

-- the text of value v
abbrev pub text_of : Pack → ℕ → Text
text_of P v = get_or P.setting.values v []

-- the prefix of constructor c
abbrev pub prefix_of : Pack → ℕ → Text
prefix_of P c = get_or (prefixes P) c []

-- A constructor of the pack over as many values of the pack as its arity.
pub record IsTerm (P : Pack) (c : ℕ) (vs : List ℕ) : Type 0 where
  pub constructor : Constructor
  pub listed : get_elem? P.setting.constructors c ≡ some constructor
  pub count : length vs ≡ constructor.arity
  pub values : (v : ℕ) → v ∈ vs → v < length P.setting.values

module _ (write : Text → Text) (P : Pack) where
  -- "Prefix, then the values joined by "/"."
  unfoldable pub iri_by : ℕ → List ℕ → Text
  iri_by c vs = prefix_of P c ++ joined (map (λ v. write (text_of P v)) vs)

  -- A label "matches the named node of that sort whose spelled text equals it". A literal is known by its value's own text.
  unfoldable pub spelling_by : Spelling
  spelling_by = record {
    iri_text = iri_by;
    literal_text = text_of P;
    IriMatches = λ label text. text ≡ label;
    LiteralMatches = λ label text. write text ≡ label;
  }

-- document 01's spelling
abbrev pub iri_of : Pack → ℕ → List ℕ → Text
iri_of = iri_by segment

abbrev pub plain : Pack → Spelling
plain = spelling_by segment
