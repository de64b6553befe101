-- The core as code holds it: node keys, triple keys by the places of their nodes, and a type set for each node. Assumes
-- nothing.
use Rattle.std.specs.Prelude.{◌≡◌, ℕ, ◌<◌, ◌≤◌, ◌↔◌, List, length, slice_index}
use Rattle.std.proofs.Math.ListN.{get_elem?}
use Rattle.std.proofs.Math.Option.{some}
use Rattle.spread.specs.Keys.{key_of, triple_key}
use Rattle.meaning.specs.Core.{Node, CoreEdge, CoreNode, CoreType}
use Rattle.meaning.specs.Ordered.{ListOf}
use Rattle.meaning.specs.Pack.{Pack, Target}
use Rattle.meaning.specs.Tables.{set_of_mask}
use Rattle.meaning.specs.TypeSet.{◌∈ₜ◌}

module _ (P : Pack) where
  -- the key of a core node
  pub record NodeKey (k : ℕ) : Type 0 where
    pub node : Node
    pub in_core : CoreNode P node
    pub is : k ≡ key_of node

  -- the key of a core triple, its nodes given by their places among the node keys
  pub record TripleKey (nodes : List ℕ) (k : ℕ) : Type 0 where
    pub subject : ℕ
    pub predicate : ℕ
    pub object : ℕ
    pub from : Node
    pub to : Node
    pub from_at : get_elem? nodes subject ≡ some (key_of from)
    pub to_at : get_elem? nodes object ≡ some (key_of to)
    pub edge : CoreEdge P from predicate to
    pub is : k ≡ triple_key subject predicate object

  -- the types of the core node at each place
  abbrev pub TypesAt : List ℕ → List ℕ → Type 0
  TypesAt nodes masks = (i : ℕ) (n : Node) → CoreNode P n → get_elem? nodes i ≡ some (key_of n) → (S : Target) → (S ∈ₜ set_of_mask (slice_index masks i)) ↔ CoreType P n S

  -- The whole core.
  pub record CoreHeld (nodes triples masks : List ℕ) : Type 0 where
    pub node_keys_are : ListOf ◌<◌ NodeKey nodes
    pub triple_keys_are : ListOf ◌<◌ (TripleKey nodes) triples
    pub long : length nodes ≤ length masks
    pub types : TypesAt nodes masks
