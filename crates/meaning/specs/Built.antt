-- The built graph: the core and the invented nodes (document 01, "The graph", second paragraph). Assumes nothing.
use Rattle.std.specs.Prelude.{T, ◌↔◌, ◌≡◌, ℕ}
use Rattle.meaning.specs.Core.{Node, CoreEdge, CoreType, CoreNode}
use Rattle.meaning.specs.Pack.{Pack, Shape, Target, type, requires, HasShape}
use Rattle.meaning.specs.TypeSet.{TypeSet, ◌∈ₜ◌}

-- What may be a node of the built graph; which are, `IsBuilt` says. An invented node is its type set: "Equal sets are one
-- node; {Literal} is the invented literal."
pub data BuiltNode : Type 0 where
  core : Node → BuiltNode
  invented : TypeSet → BuiltNode
  deriving Discrete as BuiltNode-discrete

module _ (P : Pack) where
  abbrev pub HasType : BuiltNode → Target → Type 0
  HasType (core n) S = CoreType P n S
  HasType (invented X) S = S ∈ₜ X

  -- The node's types require p: "its multiplicity for p is 1 or 4".
  pub record Requires (b : BuiltNode) (p : ℕ) : Type 0 where
    pub member : ℕ
    pub shape : Shape
    pub has : HasType b (type member)
    pub declared : HasShape P.setting member p shape
    pub required : T (requires shape.multiplicity)

  -- S is a p-target of b: "For a set X of types, the p-targets are the targets of p in every shape of a member of X,
  -- required or not." Here X is the set of b's types.
  pub record PTarget (b : BuiltNode) (p : ℕ) (S : Target) : Type 0 where
    pub member : ℕ
    pub shape : Shape
    pub has : HasType b (type member)
    pub declared : HasShape P.setting member p shape
    pub is : shape.target ≡ S

  -- Y is the set of b's p-targets.
  abbrev pub PTargets : BuiltNode → ℕ → TypeSet → Type 0
  PTargets b p Y = (S : Target) → (S ∈ₜ Y) ↔ PTarget b p S

  -- A core node may have p-edges already; an invented node has none but those it gets.
  abbrev pub HasCoreEdge : BuiltNode → ℕ → Type 0
  HasCoreEdge (core n) p = (m : Node) × CoreEdge P n p m
  HasCoreEdge (invented X) p = ⊥

  -- "A core node whose types require p and that has no p-edge gets one to the invented node of its p-targets. An invented
  -- node gets one edge for each predicate it requires."
  pub record Gets (b : BuiltNode) (p : ℕ) (Y : TypeSet) : Type 0 where
    pub needs : Requires b p
    pub missing : ¬ HasCoreEdge b p
    pub targets : PTargets b p Y

  pub data IsBuilt : BuiltNode → Type 0 where
    in_core : {n : Node} → CoreNode P n → IsBuilt (core n)
    arises : {b : BuiltNode} {p : ℕ} {X : TypeSet} → IsBuilt b → Gets b p X → IsBuilt (invented X)

  pub data BuiltEdge : BuiltNode → ℕ → BuiltNode → Type 0 where
    from_core : {n m : Node} {p : ℕ} → CoreEdge P n p m → BuiltEdge (core n) p (core m)
    made : {b : BuiltNode} {p : ℕ} {X : TypeSet} → IsBuilt b → Gets b p X → BuiltEdge b p (invented X)
