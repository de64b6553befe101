-- Named nodes: what leads to a core node starts at one, in the built graph, by edges of the core. So a path between two named
-- nodes never leaves them, and the core's edges are all that it can take. Assumes nothing.
use mathlib.Core.Logic.{inl, inr}
use mathlib.Core.Path.{◌≡◌, refl, sym, subst}
use Prim.Native.Nat.{ℕ}
use Rattle.meaning.specs.Built.{BuiltEdge, BuiltNode, core, from_core, invented, made}
use Rattle.meaning.specs.Certain.{built}
use Rattle.meaning.specs.Core.{CoreEdge, Node}
use Rattle.meaning.specs.Graph.{Spelling}
use Rattle.meaning.specs.Pack.{Pack}
use Rattle.meaning.specs.Query.{Expr, Joins, Repeated, any_step, at_iri, at_literal, more, nested, none, sequence, star, stay, step, union}

abbrev pub IsCore : BuiltNode → Type 0
IsCore (core n) = Unit {0}
IsCore (invented X) = ⊥

-- "A core node gets an edge to the invented node of its p-targets. An invented node gets one edge for each predicate it
-- requires": only the core's own edges end at core nodes.
pub into_core : {P : Pack} {b : BuiltNode} {p : ℕ} {m : Node} → BuiltEdge P b p (core m) → (n : Node) × (b ≡ core n) × CoreEdge P n p m
into_core (from_core {n} e) = (n, refl, e)

pub from_core_lem : {P : Pack} {b c : BuiltNode} {p : ℕ} → BuiltEdge P b p c → IsCore c → IsCore b
from_core_lem (from_core e) h = tt
from_core_lem (made i g) h = absurd h

all_from_core : {R : BuiltNode → BuiltNode → Type 0} → ((b c : BuiltNode) → R b c → IsCore c → IsCore b) → {b c : BuiltNode} → Repeated R b c → IsCore c → IsCore b
all_from_core f (none q) h = subst IsCore (sym q) h
all_from_core f (more r k) h = all_from_core f r (f _ _ k h)

-- A path that ends at a core node starts at one.
pub joined_from_core : (σ : Spelling) (P : Pack) (e : Expr) (b c : BuiltNode) → Joins (built σ P) e b c → IsCore c → IsCore b
unfolding Joins
joined_from_core σ P stay b c j h = subst IsCore (sym j.1) h
joined_from_core σ P (step name) b c j h = from_core_lem j.2 h
joined_from_core σ P any_step b c j h = from_core_lem j.1 h
joined_from_core σ P (at_iri label) b c j h = subst IsCore (sym j.2) h
joined_from_core σ P (at_literal label) b c j h = subst IsCore (sym j.2) h
joined_from_core σ P (nested e) b c j h = subst IsCore (sym j.0) h
joined_from_core σ P (sequence e f) b c j h = joined_from_core σ P e b j.0 j.1 (joined_from_core σ P f j.0 c j.2 h)
joined_from_core σ P (union e f) b c (inl j) h = joined_from_core σ P e b c j h
joined_from_core σ P (union e f) b c (inr j) h = joined_from_core σ P f b c j h
joined_from_core σ P (star e) b c j h = all_from_core (joined_from_core σ P e) j.1 h
