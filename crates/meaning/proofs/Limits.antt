-- The lengths that documents 01 and 02 state as numbers, computed from what they follow from; and what shares one number has room
-- in it. Assumes nothing.
use mathlib.Core.Path.{◌≡◌, refl}
use native.Mathlib.Omega.{arith}
use Prim.Native.Nat.{◌*◌, ◌-◌, ◌≤◌}
use Rattle.meaning.specs.Limits.{contents_bytes, index_length, literal_bit, max_core_nodes, max_nodes, max_predicates, max_shapes, max_triples, max_types, member_sets}
use Rattle.meaning.specs.Limits.{named_words, node_list_length, node_words, pair_list_length, place_room, predicate_room, set_words, triple_list_length, type_sets, word_bits}

-- "under 36": nine 32-bit lengths
pub contents_36 : contents_bytes ≡ 36
contents_36 = refl

-- Card 14: "the lists need 34,048 numbers for nodes, 168,924 for triples", "4,864 nodes and 56,308 triples"
pub nodes_34048 : node_list_length ≡ 34048
nodes_34048 = refl

pub triples_168924 : triple_list_length ≡ 168924
triples_168924 = refl

pub nodes_4864 : max_nodes ≡ 4864
nodes_4864 = refl

pub triples_56308 : max_triples ≡ 56308
triples_56308 = refl

-- "Up to 4,095 invented non-literal nodes can arise", "9,728 for Card 13's list": two numbers for each node
pub invented_4095 : type_sets - 1 ≡ 4095
invented_4095 = refl

pub index_9728 : index_length ≡ 9728
index_9728 = refl

-- Refusal 1: "8,192 for pairs"
pub pairs_8192 : pair_list_length ≡ 8192
pairs_8192 = refl

-- Places of core nodes and predicates are below their rooms, types below Literal.
pub places_fit : max_core_nodes ≤ place_room
places_fit = omega arith

pub predicates_fit : max_predicates ≤ predicate_room
predicates_fit = omega arith

pub types_below_literal : max_types ≤ literal_bit
types_below_literal = omega arith

-- A table of types by predicates has a place for each shape.
pub shapes_144 : max_shapes ≡ max_types * max_predicates
shapes_144 = refl

-- Whole words: no set of one kind begins within a word of another.
pub whole_words : (max_nodes ≡ node_words * word_bits) × (max_core_nodes ≡ named_words * word_bits) × (member_sets ≡ set_words * word_bits)
whole_words = (refl, refl, refl)
