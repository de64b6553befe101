-- The names and labels of a query as numbers (document 01, "The query"): of a predicate, or of a node by its place in the
-- node list. Assumes nothing.
use Rattle.std.specs.Prelude.{get_or, List, ◌↔◌, ◌≡◌, ℕ, ◌<◌, ◌≤◌}
use Rattle.std.proofs.Math.ListN.{get_elem?}
use Rattle.std.proofs.Math.Option.{some}
use Rattle.pack.specs.Checked.{OfPack}
use Rattle.meaning.specs.Built.{BuiltNode}
use Rattle.meaning.specs.Certain.{BuiltIri, BuiltLiteral}
use Rattle.meaning.specs.Graph.{Called}
use Rattle.meaning.specs.Limits.{max_predicates}
use Rattle.meaning.specs.Pack.{Pack, Text}
use Rattle.query.specs.Tree.{kind_of}
use Rattle.resolve.specs.Listed.{BuiltNodesListed}
use Rattle.spelling.specs.Iri.{plain}
use Rattle.walk.specs.Parts.{part_text}

-- The number w is that of the predicate of this name. "An unknown name .. matches nothing": it has a number that is none's.
abbrev pub PredicateIs : Pack → Text → ℕ → Type 0
PredicateIs P name w = (p : ℕ) → Called P name p ↔ ((p < max_predicates) × (p ≡ w))

-- The number w is the place of the one node of the list that has this label; of a label that no node has, it is no place.
abbrev pub NodeIs : (BuiltNode → Type 0) → List BuiltNode → ℕ → Type 0
NodeIs HasLabel in_order w = (m : ℕ) (b : BuiltNode) → get_elem? in_order m ≡ some b → HasLabel b ↔ (m ≡ w)

-- "It matches the named node of that sort whose spelled text equals it, literals being spelled like IRI segments."
abbrev pub IriIs : Pack → List BuiltNode → Text → ℕ → Type 0
IriIs P in_order label = NodeIs (BuiltIri (plain P) P label) in_order

abbrev pub LiteralIs : Pack → List BuiltNode → Text → ℕ → Type 0
LiteralIs P in_order label = NodeIs (BuiltLiteral (plain P) P label) in_order

-- The number that a part wants, by its kind (query, specs/Tree.antt) and its name or label: a step by name its predicate, a
-- label its node. Of any other part the number is the program's choice.
pub record Wants (P : Pack) (in_order : List BuiltNode) (kind : ℕ) (text : Text) (w : ℕ) : Type 0 where
  pub step : kind ≡ 2 → PredicateIs P text w
  pub iri : kind ≡ 3 → IriIs P in_order text w
  pub literal : kind ≡ 4 → LiteralIs P in_order text w

-- What the parts below n of the tree t want, whose names and labels are texts of the query q.
pub record Wanted (P : Pack) (in_order : List BuiltNode) (q : Text) (t : List ℕ) (n : ℕ) (wanted : List ℕ) : Type 0 where
  pub parts : (i : ℕ) → i < n → Wants P in_order (kind_of t i) (part_text q t i) (get_or wanted i 0)

-- What holds of the pack that the bytes are, and of its node list.
abbrev pub OfGraph : Text → List ℕ → ℕ → (Pack → List BuiltNode → Type 0) → Type 0
OfGraph pack nodes count Q = OfPack pack (λ P. (in_order : List BuiltNode) → BuiltNodesListed P in_order nodes count → Q P in_order)

-- The numbers wanted are written, and nothing past them.
pub record WantedWritten (pack q : Text) (t nodes : List ℕ) (n count : ℕ) (wanted wanted' : List ℕ) : Type 0 where
  pub found : OfGraph pack nodes count (λ P in_order. Wanted P in_order q t n wanted')
  pub kept : (i : ℕ) → n ≤ i → get_or wanted' i 0 ≡ get_or wanted i 0
