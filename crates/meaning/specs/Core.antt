-- The core (document 01, "The graph", first paragraph). Assumes nothing.
use Rattle.std.specs.Prelude.{List, map, ◌≡◌, ℕ}
use Rattle.meaning.specs.Member.{◌∈◌}
use Rattle.meaning.specs.Pack.{Pack, Row, Atom, Term, Head, has_type, links_to, links_to_value, Rule, Shape, Target, type, HasShape}

-- A node by its numbers: a constructor's IRI over values, or a literal. (Which of them are in the core, `CoreNode` says.)
pub data Node : Type 0 where
  iri_node : ℕ → List ℕ → Node
  literal_node : ℕ → Node
  deriving Discrete as Node-discrete

pub data Fact : Type 0 where
  typed : Node → Target → Fact
  triple : Node → ℕ → Node → Fact

-- The values that a rule's variables stand for.
abbrev pub Assignment : Type 0
Assignment = ℕ → ℕ

unfoldable pub node_of : Assignment → Term → Node
node_of α t = iri_node t.constructor (map α t.variables)

-- What a rule's head says under an assignment.
unfoldable pub head_fact : Assignment → Head → Fact
unfolding node_of
head_fact α (has_type s t) = typed (node_of α s) (type t)
head_fact α (links_to s p o) = triple (node_of α s) p (node_of α o)
head_fact α (links_to_value s p v) = triple (node_of α s) p (literal_node (α v))

abbrev pub row_of : Assignment → Atom → Row
row_of α a = record { relation = a.relation; cells = map α a.variables }

-- An assignment matches when each atom under it is a row.
unfoldable pub Matches : List Row → Assignment → List Atom → Type 0
Matches rows α atoms = (a : Atom) → a ∈ atoms → row_of α a ∈ rows

module _ (P : Pack) where
  -- "each rule's head for every match of its atoms"
  pub record Given (f : Fact) : Type 0 where
    pub rule : Rule
    pub listed : rule ∈ P.setting.rules
    pub values : Assignment
    pub matches : Matches P.rows values rule.atoms
    pub says : head_fact values rule.head ≡ f

  -- "the least set of triples": only rules give triples.
  abbrev pub CoreEdge : Node → ℕ → Node → Type 0
  CoreEdge n p m = Given (triple n p m)

  -- "and type facts": those of the heads, and "each type passed along an edge: if the subject has type T and T's shape
  -- for p has target S, the object has S".
  pub data CoreType : Node → Target → Type 0 where
    given : {n : Node} {S : Target} → Given (typed n S) → CoreType n S
    passed : {n m : Node} {p T : ℕ} {s : Shape} → CoreType n (type T) → HasShape P.setting T p s → CoreEdge n p m → CoreType m s.target

  -- The nodes of the core's triples; and "a term's node is in the core even when only typed".
  pub data CoreNode (n : Node) : Type 0 where
    as_typed : {S : Target} → Given (typed n S) → CoreNode n
    as_subject : {p : ℕ} {m : Node} → CoreEdge n p m → CoreNode n
    as_object : {p : ℕ} {m : Node} → CoreEdge m p n → CoreNode n
