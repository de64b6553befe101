-- The cases of document 01 and of the cards: one table of calls and their outcomes, and one theorem: each case says what is so.
-- Assumes nothing.
use lib.ListN.{replicate, set, take}
use mathlib.Core.Bool.{true, false}
use mathlib.Core.List.{List, [], ◌∷◌, ◌++◌, flatten, map}
use mathlib.Core.Option.{some}
use mathlib.Core.Path.{◌≡◌, refl}
use Prim.Native.Nat.{ℕ}
use Prim.Native.String.{String}
use Rattle.cases.proofs.Computed.{run_says}
use Rattle.cases.proofs.Encode.{encode}
use Rattle.cases.proofs.Run.{with_clash, is_term, run, small_core}
use Rattle.cases.specs.Says.{Call, Outcome, Says, answer, ask, build, check, fine, graph, iri, read, refused, refuses, spell, term}
use Rattle.grammar.specs.Grammar.{stars}
use Rattle.grammar.specs.Parse.{
  run as readRun,
  joined as joinedParts,
  parts,
  with_stars,
  closed,
  label,
  name,
  leaf,
  atom_of as readAtom,
  step_by,
  sequence_by,
  union_by,
  atom_at,
  parse,
  whole,
  expression_of,
}
use Rattle.meaning.proofs.Computed.Certain.{walk_built, pair_records}
use Rattle.meaning.proofs.Computed.Evaluate.{answers_yes}
use Rattle.meaning.proofs.Model.Clash.{first_clash}
use Rattle.meaning.proofs.Model.Listing.{node_numbers, node_records, triple_records}
use Rattle.meaning.proofs.Model.Refusals.{mixed_kinds?}
use Rattle.meaning.proofs.Sample.Packs.{
  shape_record,
  constructor_of,
  atom_of,
  term_of,
  row_of,
  rule_of,
  sample_values,
  first_decides_second,
  sample_types,
  sample_shapes,
  sample_constructors,
  sample_rules,
  roman_row,
  sample_with,
  with_rows,
  with_rules,
  sample,
  row_twice,
  two_names,
  name_is_iri,
  second_type,
}
use Rattle.meaning.specs.Ascii.{ascii}
use Rattle.meaning.specs.Limits.{unused}
use Rattle.meaning.proofs.Lists.Members.{map_each}
use Rattle.meaning.specs.Member.{◌∈◌}
use Rattle.meaning.specs.Pack.{Pack, Text, Literal, type, one, has_type, Constructor, ShapeRecord, Dependency, shape_of}
use Rattle.meaning.specs.declared.refusal.Refusal.TheVariants.{BadSize, BrokenDependency, MixedKinds, NoExpression, NoIri}
use Rattle.pack.proofs.Computing.{checking}
use Rattle.spelling.proofs.CoreTerms.{plain?}
use Rattle.spelling.specs.Iri.{slashed, joined, iri_by, spelling_by}
use Rattle.spelling.specs.ReadBack.{split, find_by, find_all_by, arguments_by, read_from_by, read_back_by}
use Rattle.spelling.specs.Segment.{unreserved, hex_digit, spelled_byte, segment}

-- ---- the table

pub record Case : Type 0 where
  pub pack : Text
  pub call : Call
  pub outcome : Outcome

abbrev case : Text → Call → Outcome → Case
case s c o = record { pack = s; call = c; outcome = o }

abbrev of : Pack → Call → Outcome → Case
of P c o = case (encode P) c o

abbrev query : String → Call
query q = ask (ascii q)

abbrev text : String → Call
text t = read (ascii t)

-- the sample with the number v at byte i
abbrev damaged : ℕ → ℕ → Text
damaged i v = set (encode sample) i v

abbrev with_values : List Text → Pack
with_values vs = sample_with vs first_decides_second sample_types sample_shapes sample_constructors sample_rules (roman_row ∷ [])

abbrev with_shapes : List ShapeRecord → Pack
with_shapes ss = sample_with sample_values first_decides_second sample_types ss sample_constructors sample_rules (roman_row ∷ [])

abbrev with_constructors : List Constructor → Pack
with_constructors cs = sample_with sample_values first_decides_second sample_types sample_shapes cs sample_rules (roman_row ∷ [])

abbrev with_dependencies : List Dependency → Pack
with_dependencies ds = sample_with sample_values ds sample_types sample_shapes sample_constructors sample_rules (roman_row ∷ [])

-- the values a/b, the empty one, ~ and the bytes 0 and 255, and a third constructor, of two arguments
abbrev special : Pack
special =
    sample_with (ascii "a/b" ∷ [] ∷ ascii "~" ∷ (0 ∷ 255 ∷ []) ∷ []) first_decides_second sample_types sample_shapes
    (sample_constructors ++ constructor_of 2 (ascii "http://x/") ∷ []) sample_rules (roman_row ∷ [])

-- the sample without its dependency: sty:g has three names, sty:r1 three families; rows descend
abbrev several_clashes : Pack
several_clashes =
    sample_with sample_values [] sample_types sample_shapes sample_constructors sample_rules
    (row_of 1 (0 ∷ 2 ∷ []) ∷ row_of 1 (0 ∷ 1 ∷ []) ∷ row_of 1 (0 ∷ 0 ∷ []) ∷ row_of 0 (2 ∷ 2 ∷ []) ∷ row_of 0 (2 ∷ 1 ∷ []) ∷ row_of 0 (2 ∷ 0 ∷ []) ∷ roman_row ∷ [])

-- an IRI over one value
abbrev iri_node₁ : ℕ → ℕ → ℕ → List ℕ
iri_node₁ constructor types value = 0 ∷ constructor ∷ types ∷ value ∷ unused ∷ unused ∷ unused ∷ []

-- a node that has no arguments
abbrev plain_node : ℕ → ℕ → ℕ → List ℕ
plain_node kind number types = kind ∷ number ∷ types ∷ unused ∷ unused ∷ unused ∷ unused ∷ []

-- "Nodes: 0 sty:r1, 1 Roman, 2 invented literal, 3 invented {style}, 4 invented {family}."
abbrev sample_nodes : List (List ℕ)
sample_nodes = iri_node₁ 0 1 0 ∷ plain_node 1 1 0 ∷ plain_node 2 0 0 ∷ plain_node 3 0 1 ∷ plain_node 3 0 2 ∷ []

-- "Triples: 0 name 1, 0 family 4, 3 name 2, 3 family 4, 4 lead 3."
abbrev sample_triples : List (List ℕ)
sample_triples = (0 ∷ 0 ∷ 1 ∷ []) ∷ (0 ∷ 1 ∷ 4 ∷ []) ∷ (3 ∷ 0 ∷ 2 ∷ []) ∷ (3 ∷ 1 ∷ 4 ∷ []) ∷ (4 ∷ 2 ∷ 3 ∷ []) ∷ []

-- card 13's list
abbrev sample_index : List (List ℕ)
sample_index = (0 ∷ 2 ∷ []) ∷ (0 ∷ 0 ∷ []) ∷ (0 ∷ 0 ∷ []) ∷ (2 ∷ 2 ∷ []) ∷ (4 ∷ 1 ∷ []) ∷ []

abbrev pub cases : List Case
cases =
    -- P: "36 zero bytes build an empty graph, and `()` is no."
    case (replicate 36 0) build (graph [] [] []) ∷
    case (replicate 36 0) (query "()") (answer false []) ∷
    -- P: "the sample's graph; its row twice, same graph."
    of sample build (graph sample_nodes sample_triples sample_index) ∷
    of row_twice build (graph sample_nodes sample_triples sample_index) ∷
    -- P: "`family/lead/name` is yes with 0 pairs."
    of sample (query "family/lead/name") (answer true []) ∷
    -- P: "`(family/lead)*` lists (0,0) and (1,1)."
    of sample (query "(family/lead)*") (answer true ((0 ∷ 0 ∷ []) ∷ (1 ∷ 1 ∷ []) ∷ [])) ∷
    -- P: "`<sty:x9>` is no."
    of sample (query "<sty:x9>") (answer false []) ∷
    of sample (query "[family/lead]/name") (answer true ((0 ∷ 1 ∷ []) ∷ [])) ∷
    of sample (query "<sty:r1>/name/\"Roman\"") (answer true ((0 ∷ 1 ∷ []) ∷ [])) ∷
    of sample (query "nosuch*") (answer true ((0 ∷ 0 ∷ []) ∷ (1 ∷ 1 ∷ []) ∷ [])) ∷
    -- P: "adding Style(r1,g) is 8; without the dependency, 10."
    of (two_names first_decides_second) build (refuses 8 BrokenDependency) ∷
    of (two_names []) build (refuses 10 (with_clash (iri_node₁ 0 1 0) 0 (plain_node 1 1 0) (plain_node 1 2 0))) ∷
    -- card 8: lowest subject, then lowest predicate, then the two lowest objects
    of several_clashes build (refuses 10 (with_clash (iri_node₁ 0 1 0) 1 (iri_node₁ 1 2 0) (iri_node₁ 1 2 1))) ∷
    of several_clashes (query "name") (refuses 10 (with_clash (iri_node₁ 0 1 0) 1 (iri_node₁ 1 2 0) (iri_node₁ 1 2 1))) ∷
    -- P: "a rule giving sty(s) name fam(s) in place of n: 11."
    of name_is_iri build (refuses 11 MixedKinds) ∷
    -- P: "a second type on sty(s) whose shape for family is Literal 3: 11."
    of second_type build (refuses 11 MixedKinds) ∷
    -- P: "value a/b under "sty:" is sty:a%2Fb; the empty value, sty:.": spelled, and read back
    of special (spell 0 (0 ∷ [])) (iri (ascii "sty:a%2Fb")) ∷
    of special (spell 0 (1 ∷ [])) (iri (ascii "sty:")) ∷
    of special (spell 2 (0 ∷ 3 ∷ [])) (iri (ascii "http://x/a%2Fb/%00%FF")) ∷
    of special (text "sty:a%2Fb") (term (0 ∷ 0 ∷ unused ∷ unused ∷ unused ∷ [])) ∷
    of special (text "sty:") (term (0 ∷ 1 ∷ unused ∷ unused ∷ unused ∷ [])) ∷
    of special (text "sty:a/b") (refuses 13 NoIri) ∷
    of sample (text "fam:g") (term (1 ∷ 2 ∷ unused ∷ unused ∷ unused ∷ [])) ∷
    of special (text "sty:a%2fb") (refuses 13 NoIri) ∷
    of special (text "sty:%7E") (refuses 13 NoIri) ∷
    of special (text "http://x/~/") (term (2 ∷ 2 ∷ 1 ∷ unused ∷ unused ∷ [])) ∷
    of special (text "http://x/~") (refuses 13 NoIri) ∷
    of special (text "fam:%00%FF") (term (1 ∷ 3 ∷ unused ∷ unused ∷ unused ∷ [])) ∷
    case [] (text "fam:g") (refuses 3 BadSize) ∷
    -- P: "`name**` is read; `name|` is 2."
    of sample (query "name**") (answer true ((0 ∷ 0 ∷ []) ∷ (0 ∷ 1 ∷ []) ∷ (1 ∷ 1 ∷ []) ∷ [])) ∷
    of sample (query "name|") (refuses 2 NoExpression) ∷
    case [] (query "name|") (refuses 2 NoExpression) ∷
    -- 3: too short, a byte left out, a byte too many, a length that is one too large, lengths whose sum is right modulo 2 ^ 32
    case [] check (refused 3) ∷
    case (replicate 35 0) check (refused 3) ∷
    case (take 143 (encode sample)) check (refused 3) ∷
    case (encode sample ++ 0 ∷ []) check (refused 3) ∷
    case (damaged 0 12) check (refused 3) ∷
    case (set (set (set (set (replicate 36 0) 3 128) 7 128) 0 0) 4 0) check (refused 3) ∷
    -- 4: a value of 65 bytes, an arity 0 and 9, a capital in a name, multiplicity 5, a space in a prefix, variable 16, head
    -- kind 3, a record that is not whole, 17 relations
    of (with_values (replicate 65 97 ∷ [])) check (refused 4) ∷
    case (damaged 47 0) check (refused 4) ∷
    case (damaged 47 9) check (refused 4) ∷
    case (damaged 53 65) check (refused 4) ∷
    case (damaged 85 5) check (refused 4) ∷
    of (with_constructors (constructor_of 1 (ascii "a b") ∷ [])) check (refused 4) ∷
    of (with_rules (rule_of (atom_of 0 (0 ∷ 16 ∷ [])) (has_type (term_of 0 (0 ∷ [])) 0) ∷ [])) check (refused 4) ∷
    case (damaged 111 3) check (refused 4) ∷
    of (with_rows (row_of 0 [] ∷ [])) check (refused 4) ∷
    case (17 ∷ replicate 35 0 ++ replicate 17 1) check (refused 4) ∷
    case (replicate 4 0 ++ 17 ∷ replicate 31 0 ++ replicate 17 1) check (refused 4) ∷
    case (replicate 4 0 ++ 16 ∷ replicate 31 0 ++ replicate 16 1) check fine ∷
    -- 5: two equal values; two shapes for one cell, whose numbers name no record
    of (with_values (sample_values ++ ascii "g" ∷ [])) check (refused 5) ∷
    of (with_shapes (shape_record 9 9 Literal one ∷ shape_record 9 9 (type 0) one ∷ [])) check (refused 5) ∷
    -- 5 before 6; 6: a prefix begins another, or equals it
    of (sample_with (ascii "g" ∷ ascii "g" ∷ []) [] [] [] (constructor_of 1 (ascii "a") ∷ constructor_of 1 (ascii "a") ∷ []) [] []) check (refused 5) ∷
    of (with_constructors (constructor_of 1 (ascii "sty:x") ∷ constructor_of 1 (ascii "sty:") ∷ [])) check (refused 6) ∷
    of (with_constructors (constructor_of 1 (ascii "sty:") ∷ constructor_of 2 (ascii "sty:") ∷ [])) check (refused 6) ∷
    -- 7: no such relation, column, type, predicate, target, constructor, value; a count that is not the arity; a head
    -- variable in no atom; 255 in a head
    of (with_dependencies (record { relation = 2; left = 1; right = 2 } ∷ [])) check (refused 7) ∷
    of (with_dependencies (record { relation = 0; left = 4; right = 2 } ∷ [])) check (refused 7) ∷
    of (with_shapes (shape_record 2 0 Literal one ∷ [])) check (refused 7) ∷
    of (with_shapes (shape_record 0 3 Literal one ∷ [])) check (refused 7) ∷
    of (with_shapes (shape_record 0 0 (type 2) one ∷ [])) check (refused 7) ∷
    of (with_constructors (constructor_of 1 (ascii "sty:") ∷ [])) check (refused 7) ∷
    of (with_rows (row_of 0 (0 ∷ 3 ∷ []) ∷ [])) check (refused 7) ∷
    of (with_rows (row_of 0 (0 ∷ []) ∷ [])) check (refused 7) ∷
    of (with_rules (rule_of (atom_of 0 (0 ∷ 1 ∷ [])) (has_type (term_of 0 (2 ∷ [])) 0) ∷ [])) check (refused 7) ∷
    of (with_rules (rule_of (atom_of 0 (0 ∷ 1 ∷ [])) (has_type (term_of 0 (0 ∷ [])) 255) ∷ [])) check (refused 7) ∷
    -- P: "adding Style(r1,g) is 8"
    of (with_rows (roman_row ∷ row_of 0 (0 ∷ 2 ∷ []) ∷ [])) check (refused 8) ∷
    of (with_rows (roman_row ∷ roman_row ∷ [])) check fine ∷
    []

-- ---- the theorem

-- Each case says what is so.
pub cases_hold : (c : Case) → c ∈ cases → Says c.pack c.call c.outcome
unfolding checking encode small_core is_term first_clash node_numbers mixed_kinds? node_records triple_records shape_of walk_built answers_yes pair_records
    plain? spelling_by iri_by slashed joined unreserved hex_digit spelled_byte segment split find_by find_all_by arguments_by read_from_by read_back_by expression_of
    whole parse union_by sequence_by step_by atom_at readAtom leaf name label closed with_stars parts joinedParts readRun stars flatten
cases_hold c m =
    let computed : map (λ (c : Case). run c.call c.pack) cases ≡ map (λ (c : Case). some c.outcome) cases = refl in
    run_says c.call c.pack c.outcome (map_each (λ (c : Case). run c.call c.pack) (λ (c : Case). some c.outcome) cases computed c m)
