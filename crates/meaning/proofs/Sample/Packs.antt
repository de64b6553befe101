-- Document 01's sample and its variations, as decoded packs. Assumes nothing.
use mathlib.Core.List.{List, [], ◌∷◌}
use Prim.Native.Nat.{ℕ}
use Rattle.meaning.specs.Ascii.{ascii}
use Rattle.meaning.specs.Pack.{
  Atom,
  Constructor,
  Dependency,
  Head,
  Literal,
  Multiplicity,
  Pack,
  Row,
  Rule,
  ShapeRecord,
  Target,
  Term,
  Text,
  any_number,
  at_least_one,
  has_type,
  links_to,
  links_to_value,
  one,
  type,
}

-- ---- records, written short

abbrev pub shape_record : ℕ → ℕ → Target → Multiplicity → ShapeRecord
shape_record t p x m = record { owner = t; predicate = p; shape = record { target = x; multiplicity = m } }

abbrev pub constructor_of : ℕ → Text → Constructor
constructor_of k p = record { arity = k; prefix = p }

abbrev pub atom_of : ℕ → List ℕ → Atom
atom_of r vs = record { relation = r; variables = vs }

abbrev pub term_of : ℕ → List ℕ → Term
term_of c vs = record { constructor = c; variables = vs }

abbrev pub row_of : ℕ → List ℕ → Row
row_of r vs = record { relation = r; cells = vs }

abbrev pub rule_of : Atom → Head → Rule
rule_of a h = record { atoms = a ∷ []; head = h }

-- ---- the sample

-- "Values r1, Roman, g."
abbrev pub sample_values : List Text
sample_values = ascii "r1" ∷ ascii "Roman" ∷ ascii "g" ∷ []

-- "Style (2 columns, first decides second)"
abbrev pub first_decides_second : List Dependency
first_decides_second = record { relation = 0; left = 1; right = 2 } ∷ []

-- "Types style, family."
abbrev pub sample_types : List Text
sample_types = ascii "style" ∷ ascii "family" ∷ []

-- "Shapes: style name Literal 1; style family family 1; family lead style 4."
abbrev pub sample_shapes : List ShapeRecord
sample_shapes = shape_record 0 0 Literal one ∷ shape_record 0 1 (type 1) one ∷ shape_record 1 2 (type 0) at_least_one ∷ []

-- "Constructors "sty:", "fam:"."
abbrev pub sample_constructors : List Constructor
sample_constructors = constructor_of 1 (ascii "sty:") ∷ constructor_of 1 (ascii "fam:") ∷ []

-- "Rules: Style(s,n) types sty(s) style; gives sty(s) name n; Member(s,f) gives sty(s) family fam(f)."
abbrev pub style : Atom
style = atom_of 0 (0 ∷ 1 ∷ [])

abbrev pub typing : Rule
typing = rule_of style (has_type (term_of 0 (0 ∷ [])) 0)

abbrev pub naming : Rule
naming = rule_of style (links_to_value (term_of 0 (0 ∷ [])) 0 1)

abbrev pub membership : Rule
membership = rule_of (atom_of 1 (0 ∷ 1 ∷ [])) (links_to (term_of 0 (0 ∷ [])) 1 (term_of 1 (1 ∷ [])))

abbrev pub sample_rules : List Rule
sample_rules = typing ∷ naming ∷ membership ∷ []

-- "Row: Style(r1,Roman)."
abbrev pub roman_row : Row
roman_row = row_of 0 (0 ∷ 1 ∷ [])

-- the sample with other values, dependencies, types, shapes, constructors, rules or rows
abbrev pub sample_with : List Text → List Dependency → List Text → List ShapeRecord → List Constructor → List Rule → List Row → Pack
sample_with vs ds ts ss cs us ws = record {
  setting = record {
    values = vs;
    arities = 2 ∷ 2 ∷ [];
    dependencies = ds;
    types = ts;
    predicates = ascii "name" ∷ ascii "family" ∷ ascii "lead" ∷ [];
    shapes = ss;
    constructors = cs;
    rules = us;
  };
  rows = ws;
}

abbrev pub with_rows : List Row → Pack
with_rows = sample_with sample_values first_decides_second sample_types sample_shapes sample_constructors sample_rules

abbrev pub with_rules : List Rule → Pack
with_rules us = sample_with sample_values first_decides_second sample_types sample_shapes sample_constructors us (roman_row ∷ [])

abbrev pub sample : Pack
sample = with_rows (roman_row ∷ [])

-- ---- the cases of document 01 that concern a decoded pack

abbrev pub nothing : Pack
nothing = record {
  setting = record { values = []; arities = []; dependencies = []; types = []; predicates = []; shapes = []; constructors = []; rules = [] };
  rows = [];
}

-- "its row twice"
abbrev pub row_twice : Pack
row_twice = with_rows (roman_row ∷ roman_row ∷ [])

-- "adding Style(r1,g)", and the same "without the dependency"
abbrev pub two_names : List Dependency → Pack
two_names ds = sample_with sample_values ds sample_types sample_shapes sample_constructors sample_rules (roman_row ∷ row_of 0 (0 ∷ 2 ∷ []) ∷ [])

-- "a rule giving sty(s) name fam(s) in place of n"
abbrev pub name_is_iri : Pack
name_is_iri = with_rules (typing ∷ rule_of style (links_to (term_of 0 (0 ∷ [])) 0 (term_of 1 (0 ∷ []))) ∷ membership ∷ [])

-- "a second type on sty(s) whose shape for family is Literal 3"
abbrev pub second_type : Pack
second_type =
    sample_with sample_values first_decides_second (ascii "style" ∷ ascii "family" ∷ ascii "other" ∷ [])
    (shape_record 0 0 Literal one ∷ shape_record 0 1 (type 1) one ∷ shape_record 1 2 (type 0) at_least_one ∷ shape_record 2 1 Literal any_number ∷ [])
    sample_constructors (typing ∷ rule_of style (has_type (term_of 0 (0 ∷ [])) 2) ∷ naming ∷ membership ∷ []) (roman_row ∷ [])
