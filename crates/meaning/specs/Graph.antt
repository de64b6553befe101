-- Any finite graph, and when it obeys a pack (document 01, "The graph", the last paragraph). Assumes nothing.
use Rattle.std.specs.Prelude.{T, Bool, true, false, List, ◌≡◌, ℕ}
use Rattle.std.proofs.Math.ListN.{get_elem?}
use Rattle.std.proofs.Math.Option.{some}
use Rattle.meaning.specs.Core.{Node, iri_node, literal_node, Fact, typed, triple, Given}
use Rattle.meaning.specs.Pack.{Pack, Shape, Target, Literal, type, Text, requires, limits, HasShape}
use Rattle.meaning.specs.Query.{View}
use Rattle.meaning.specs.Member.{◌∈◌}

-- Nodes are known by their names. Different names are different nodes.
pub data Name : Type 0 where
  iri : Text → Name
  literal : Text → Name
  unnamed : ℕ → Name
  unnamed_literal : ℕ → Name
  deriving Discrete as Name-discrete

abbrev pub is_literal : Name → Bool
is_literal (iri t) = false
is_literal (literal t) = true
is_literal (unnamed k) = false
is_literal (unnamed_literal k) = true

-- The named nodes are the IRIs and the literals other than the unnamed ones.
abbrev pub is_named : Name → Bool
is_named (iri t) = true
is_named (literal t) = true
is_named (unnamed k) = false
is_named (unnamed_literal k) = false

-- Predicates and types go by number. Numbers past the pack's lists stand for any that the pack does not have.
pub record Edge : Type 0 where
  pub subject : Name
  pub predicate : ℕ
  pub object : Name

pub record TypeFact : Type 0 where
  pub node : Name
  pub member : Target

pub record Graph : Type 0 where
  pub nodes : List Name
  pub edges : List Edge
  pub types : List TypeFact

abbrev pub HasEdge : Graph → Name → ℕ → Name → Type 0
HasEdge G n p m = record { subject = n; predicate = p; object = m } ∈ G.edges

abbrev pub Typed : Graph → Name → Target → Type 0
Typed G n S = record { node = n; member = S } ∈ G.types

-- The name is that of the pack's predicate of this number: an unknown name has none.
abbrev pub Called : Pack → Text → ℕ → Type 0
Called P name p = get_elem? P.setting.predicates p ≡ some name

-- How a pack's core nodes are named, and how labels are held to names. Everything below holds for any such spelling;
-- where it matters that different core nodes get different names, that is a hypothesis.
pub record Spelling : Type 1 where
  pub iri_text : ℕ → List ℕ → Text  -- a constructor over values
  pub literal_text : ℕ → Text  -- a value
  pub IriMatches : Text → Text → Type 0  -- a label and an IRI's text
  pub LiteralMatches : Text → Text → Type 0

module _ (σ : Spelling) where
  abbrev pub name_of : Node → Name
  name_of (iri_node c vs) = iri (σ.iri_text c vs)
  name_of (literal_node v) = literal (σ.literal_text v)

  abbrev pub Holds : Graph → Fact → Type 0
  Holds G (typed n S) = Typed G (name_of n) S
  Holds G (triple n p m) = HasEdge G (name_of n) p (name_of m)

  pub record Obeys (P : Pack) (G : Graph) : Type 0 where
    -- it is a graph: edges join its nodes, and only its nodes have types
    pub from_node : {n m : Name} {p : ℕ} → HasEdge G n p m → n ∈ G.nodes
    pub to_node : {n m : Name} {p : ℕ} → HasEdge G n p m → m ∈ G.nodes
    pub typed_node : {n : Name} {S : Target} → Typed G n S → n ∈ G.nodes
    -- it holds every rule's heads
    pub heads : {f : Fact} → Given P f → Holds G f
    -- literals have no outgoing edges and only the type Literal, other nodes never have it
    pub no_edges : {n m : Name} {p : ℕ} → HasEdge G n p m → T (is_literal n) → ⊥
    -- (and have it: a node has Literal exactly if it is a literal)
    pub literals : {n : Name} → n ∈ G.nodes → T (is_literal n) → Typed G n Literal
    pub only_literal : {n : Name} {t : ℕ} → Typed G n (type t) → T (is_literal n) → ⊥
    pub never_literal : {n : Name} → Typed G n Literal → T (is_literal n)
    -- every shape's target and multiplicity hold
    pub target : {n m : Name} {t p : ℕ} {s : Shape} → Typed G n (type t) → HasShape P.setting t p s → HasEdge G n p m → Typed G m s.target
    pub some_object : {n : Name} {t p : ℕ} {s : Shape} → Typed G n (type t) → HasShape P.setting t p s → T (requires s.multiplicity)
        → (m : Name) × HasEdge G n p m
    pub one_object : {n m m' : Name} {t p : ℕ} {s : Shape} → Typed G n (type t) → HasShape P.setting t p s → T (limits s.multiplicity)
        → HasEdge G n p m → HasEdge G n p m' → m ≡ m'

  -- ---- what a query sees of it

  -- The label matches an IRI or a literal by its text; an unnamed node has no label.
  abbrev pub NameIri : Text → Name → Type 0
  NameIri label (iri t) = σ.IriMatches label t
  NameIri label (literal t) = ⊥
  NameIri label (unnamed k) = ⊥
  NameIri label (unnamed_literal k) = ⊥

  abbrev pub NameLiteral : Text → Name → Type 0
  NameLiteral label (iri t) = ⊥
  NameLiteral label (literal t) = σ.LiteralMatches label t
  NameLiteral label (unnamed k) = ⊥
  NameLiteral label (unnamed_literal k) = ⊥

  abbrev pub view : Pack → Graph → View
  view P G = record {
    Node = Name;
    IsNode = λ n. n ∈ G.nodes;
    Edge = HasEdge G;
    Names = Called P;
    IriLabel = NameIri;
    LiteralLabel = NameLiteral;
  }
