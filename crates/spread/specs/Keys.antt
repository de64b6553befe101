-- Nodes and triples of the core as single numbers, whose order is document 01's node order and triple order. Assumes
-- nothing.
use Rattle.std.specs.Prelude.{take, replicate, ◌++◌, ℕ, ◌%◌, ◌*◌, ◌+◌, ◌/◌}
use Rattle.meaning.specs.Core.{Node, iri_node, literal_node}
use Rattle.meaning.specs.Limits.{first_literal, max_arguments, place_room, predicate_room, subject_room, term_room}
use Rattle.meaning.specs.Tables.{packed}

-- "kind 0 by constructor and arguments, kind 1 by value": literals come after all IRIs.
unfoldable pub key_of : Node → ℕ
unfolding packed
key_of (iri_node c vs) = c * term_room + packed (take max_arguments (vs ++ replicate max_arguments 0))
key_of (literal_node v) = first_literal + v

-- subject, predicate, object
unfoldable pub triple_key : ℕ → ℕ → ℕ → ℕ
triple_key s p o = (s * predicate_room + p) * place_room + o

-- What a triple's key says: its subject and its object by their places, its predicate; and the two that an edge leaves from.
abbrev pub subject_of : ℕ → ℕ
subject_of k = k / subject_room

abbrev pub predicate_of : ℕ → ℕ
predicate_of k = k / place_room % predicate_room

abbrev pub object_of : ℕ → ℕ
object_of k = k % place_room

abbrev pub origin_of : ℕ → ℕ
origin_of k = k / place_room

abbrev pub origin_at : ℕ → ℕ → ℕ
origin_at s p = s * predicate_room + p
