-- The limits of documents 01 and 02 and the lengths that follow from them, each named once for the definitions; `src/lib.rt` has
-- the same names for code. What the document states as a number and follows from others is computed in proofs/Limits.antt.
-- Assumes nothing.
use Rattle.std.specs.Prelude.{ℕ, ◌*◌, ◌+◌, ◌-◌, ◌/◌, ◌^◌}

-- ---- "The pack": its size, how many records each body holds, and the bounds of their parts

abbrev pub max_pack_bytes : ℕ
max_pack_bytes = 65536

abbrev pub bodies : ℕ
bodies = 9

-- the bodies by their numbers, in the order of "The pack"
abbrev pub values_body : ℕ
values_body = 0

abbrev pub relations_body : ℕ
relations_body = 1

abbrev pub dependencies_body : ℕ
dependencies_body = 2

abbrev pub types_body : ℕ
types_body = 3

abbrev pub predicates_body : ℕ
predicates_body = 4

abbrev pub shapes_body : ℕ
shapes_body = 5

abbrev pub constructors_body : ℕ
constructors_body = 6

abbrev pub rules_body : ℕ
rules_body = 7

abbrev pub rows_body : ℕ
rows_body = 8

abbrev pub contents_bytes : ℕ  -- a 32-bit length for each body
contents_bytes = bodies * 4

abbrev pub max_values : ℕ
max_values = 256

abbrev pub max_value_bytes : ℕ
max_value_bytes = 64

abbrev pub max_relations : ℕ
max_relations = 16

abbrev pub max_columns : ℕ  -- of a relation, from 1
max_columns = 8

abbrev pub max_dependencies : ℕ
max_dependencies = 32

abbrev pub max_types : ℕ  -- card 14
max_types = 12

abbrev pub max_predicates : ℕ
max_predicates = 12

abbrev pub max_name_bytes : ℕ  -- of a type or a predicate, from 1
max_name_bytes = 16

abbrev pub max_shapes : ℕ  -- a table of types by predicates; card 14
max_shapes = 144

abbrev pub literal_target : ℕ  -- the target byte that says Literal
literal_target = 255

abbrev pub max_constructors : ℕ
max_constructors = 16

abbrev pub max_arguments : ℕ  -- of a constructor, from 1
max_arguments = 4

abbrev pub max_prefix_bytes : ℕ  -- from 1
max_prefix_bytes = 32

abbrev pub max_rules : ℕ
max_rules = 32

abbrev pub max_atoms : ℕ  -- of a rule, from 1
max_atoms = 3

abbrev pub max_variables : ℕ  -- numbered from 0
max_variables = 16

abbrev pub max_rows : ℕ  -- records, repeats included
max_rows = 1024

-- ---- "The query"

abbrev pub max_query_bytes : ℕ  -- from 1
max_query_bytes = 256

abbrev pub max_open_brackets : ℕ  -- round and square, at one time
max_open_brackets = 16

-- ---- "The graph" and "Refused": node records, and what 9 and 12 allow

abbrev pub unused : ℕ  -- stands in places of a record that hold nothing
unused = 65535

abbrev pub node_width : ℕ  -- numbers to a node
node_width = 7

abbrev pub triple_width : ℕ  -- numbers to a triple
triple_width = 3

abbrev pub index_width : ℕ  -- numbers to a node in the index of subjects; card 13
index_width = 2

abbrev pub pair_width : ℕ  -- numbers to a pair
pair_width = 2

abbrev pub max_iris : ℕ  -- in the core
max_iris = 512

abbrev pub max_core_triples : ℕ
max_core_triples = 1024

abbrev pub max_pairs : ℕ
max_pairs = 4096

abbrev pub clash_width : ℕ  -- numbers to the clash of 10: a node, a predicate and two nodes
clash_width = node_width + 1 + 2 * node_width

abbrev pub report_length : ℕ  -- numbers to an exported report: two counts, an answer and a clash
report_length = 3 + clash_width

abbrev pub term_length : ℕ  -- numbers to a term read back: its constructor and its arguments
term_length = 1 + max_arguments

-- ---- The most that a graph holds

abbrev pub type_sets : ℕ  -- sets of types, the empty one included
type_sets = 2 ^ max_types

abbrev pub member_sets : ℕ  -- sets of types and Literal
member_sets = 2 * type_sets

abbrev pub max_core_nodes : ℕ  -- IRIs, and a literal for each value
max_core_nodes = max_iris + max_values

abbrev pub max_nodes : ℕ  -- and an invented node for each set of types, the invented literal in the place of the empty one
max_nodes = max_core_nodes + type_sets

abbrev pub max_triples : ℕ  -- those of the core, and one for each IRI or invented node that is no literal, and predicate
max_triples = max_core_triples + (max_iris + (type_sets - 1)) * max_predicates

-- ---- The most that a query holds

abbrev pub max_parts : ℕ  -- a part has a byte of its own
max_parts = max_query_bytes

-- ---- Sets as bits in words

abbrev pub word_bits : ℕ
word_bits = 64

abbrev pub set_words : ℕ  -- sets of types and Literal
set_words = member_sets / word_bits

abbrev pub node_words : ℕ  -- nodes
node_words = max_nodes / word_bits

abbrev pub state_words : ℕ  -- states: a part, or the end, and a node
state_words = (max_parts + 1) * node_words

abbrev pub named_words : ℕ  -- named nodes
named_words = max_core_nodes / word_bits

abbrev pub seen_words : ℕ  -- states at named nodes
seen_words = (max_parts + 1) * named_words

-- ---- Refusal 1: the least lengths of the lent lists and buffers, in numbers, and the most that a buffer may ask

abbrev pub node_list_length : ℕ
node_list_length = max_nodes * node_width

abbrev pub triple_list_length : ℕ
triple_list_length = max_triples * triple_width

abbrev pub index_length : ℕ
index_length = max_nodes * index_width

abbrev pub pair_list_length : ℕ
pair_list_length = max_pairs * pair_width

abbrev pub row_width : ℕ  -- numbers to a row: its relation and its cells
row_width = max_columns + 1

abbrev pub rows_length : ℕ
rows_length = max_rows * row_width

abbrev pub max_heads : ℕ  -- of a rule: as many as the core may have triples
max_heads = max_core_triples

abbrev pub heads_length : ℕ
heads_length = max_rules * max_heads

abbrev pub max_working_length : ℕ
max_working_length = 1048576

-- ---- Rooms: what each of several numbers that share one number is below

abbrev pub value_room : ℕ
value_room = max_values

abbrev pub term_room : ℕ  -- a term's arguments
term_room = value_room ^ max_arguments

abbrev pub first_literal : ℕ  -- terms come before: a constructor and its arguments
first_literal = max_constructors * term_room

abbrev pub place_room : ℕ  -- a node's place in the core
place_room = 1024

abbrev pub predicate_room : ℕ
predicate_room = 16

abbrev pub subject_room : ℕ  -- a predicate and an object's place
subject_room = predicate_room * place_room

abbrev pub part_room : ℕ  -- a part of a query, a place in its text or a length there
part_room = max_query_bytes

abbrev pub multiplicity_room : ℕ  -- a multiplicity, or 0 for no shape
multiplicity_room = 8

-- ---- A set as one number

abbrev pub literal_bit : ℕ  -- above those of the types
literal_bit = 15

abbrev pub literal_weight : ℕ
literal_weight = 2 ^ literal_bit

-- ---- Records as numbers, and matches as keys

abbrev pub text_width : ℕ  -- numbers to a value or a name: where it starts, how many bytes it has
text_width = 2

abbrev pub relation_width : ℕ  -- its arity
relation_width = 1

abbrev pub dependency_width : ℕ
dependency_width = 3

abbrev pub shape_width : ℕ
shape_width = 4

abbrev pub constructor_width : ℕ  -- its arity, where its prefix starts, how many bytes it has
constructor_width = 1 + text_width

abbrev pub head_width : ℕ  -- numbers to a head: kind, constructors, how many arguments, type or predicate
head_width = 6

abbrev pub max_head_variables : ℕ  -- the subject's arguments and the object's
max_head_variables = 2 * max_arguments

abbrev pub atom_width : ℕ  -- numbers to an atom: its relation, how many variables, these
atom_width = max_columns + 2

abbrev pub atoms_length : ℕ
atoms_length = max_atoms * atom_width

abbrev pub rule_width : ℕ  -- its atoms and how many, its head's variables and how many, its head
rule_width = 1 + atoms_length + 1 + max_head_variables + head_width

abbrev pub key_width : ℕ  -- values that a 64-bit number has room for: an atom's, or a head's
key_width = 8

abbrev pub key_room : ℕ  -- a key below it has room for one value more
key_room = value_room ^ (key_width - 1)

abbrev pub candidates_length : ℕ  -- each atom's candidates, at most one a row
candidates_length = max_atoms * max_rows

-- ---- Where each body of a setting stands among its numbers

abbrev pub values_at : ℕ
values_at = 0

abbrev pub relations_at : ℕ
relations_at = values_at + max_values * text_width

abbrev pub dependencies_at : ℕ
dependencies_at = relations_at + max_relations * relation_width

abbrev pub types_at : ℕ
types_at = dependencies_at + max_dependencies * dependency_width

abbrev pub predicates_at : ℕ
predicates_at = types_at + max_types * text_width

abbrev pub shapes_at : ℕ
shapes_at = predicates_at + max_predicates * text_width

abbrev pub constructors_at : ℕ
constructors_at = shapes_at + max_shapes * shape_width

abbrev pub rules_at : ℕ
rules_at = constructors_at + max_constructors * constructor_width

abbrev pub setting_length : ℕ
setting_length = rules_at + max_rules * rule_width
