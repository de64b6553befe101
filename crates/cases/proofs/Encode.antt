-- A pack's bytes, so that cases can be stated as decoded packs. Assumes nothing.
use lib.ListN.{length}
use mathlib.Core.List.{List, [], ◌∷◌, ◌++◌, flat_map}
use Prim.Native.Nat.{ℕ, ◌/◌, ◌%◌}
use Rattle.meaning.specs.Limits.{literal_target}
use Rattle.meaning.specs.Pack.{Pack, Target, Literal, type, multiplicity_number, ShapeRecord, Dependency, Constructor, Atom, Term, Row, Head, has_type, links_to, links_to_value, Rule}

abbrev pub sized_bytes : List ℕ → List ℕ
sized_bytes s = length s ∷ s

abbrev pub target_byte : Target → ℕ
target_byte Literal = literal_target
target_byte (type t) = t

abbrev pub shape_bytes : ShapeRecord → List ℕ
shape_bytes r = r.owner ∷ r.predicate ∷ target_byte r.shape.target ∷ multiplicity_number r.shape.multiplicity ∷ []

abbrev pub term_bytes : Term → List ℕ
term_bytes t = t.constructor ∷ sized_bytes t.variables

abbrev pub head_bytes : Head → List ℕ
head_bytes (has_type t c) = 0 ∷ term_bytes t ++ c ∷ []
head_bytes (links_to t p u) = 1 ∷ term_bytes t ++ p ∷ term_bytes u
head_bytes (links_to_value t p v) = 2 ∷ term_bytes t ++ p ∷ v ∷ []

unfoldable pub rule_bytes : Rule → List ℕ
rule_bytes r = length r.atoms ∷ flat_map (λ (a : Atom). a.relation ∷ sized_bytes a.variables) r.atoms ++ head_bytes r.head

unfoldable pub bodies : Pack → List (List ℕ)
bodies P =
    flat_map sized_bytes P.setting.values ∷
    P.setting.arities ∷
    flat_map (λ (d : Dependency). d.relation ∷ d.left ∷ d.right ∷ []) P.setting.dependencies ∷
    flat_map sized_bytes P.setting.types ∷
    flat_map sized_bytes P.setting.predicates ∷
    flat_map shape_bytes P.setting.shapes ∷
    flat_map (λ (c : Constructor). c.arity ∷ sized_bytes c.prefix) P.setting.constructors ∷
    flat_map rule_bytes P.setting.rules ∷
    flat_map (λ (r : Row). r.relation ∷ sized_bytes r.cells) P.rows ∷
    []

abbrev pub word_bytes : ℕ → List ℕ
word_bytes n = n % 256 ∷ n / 256 % 256 ∷ n / 65536 % 256 ∷ n / 16777216 % 256 ∷ []

-- "First the contents", "then the nine bodies in that order, without gaps"
unfoldable pub encode : Pack → List ℕ
unfolding flat_map rule_bytes bodies
encode P = flat_map (λ (b : List ℕ). word_bytes (length b)) (bodies P) ++ flat_map (λ (b : List ℕ). b) (bodies P)
