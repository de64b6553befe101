-- The core by the places of its nodes: which node, which types, which edges. Assumes nothing.
use Rattle.std.proofs.Common.{◌≡◌, ℕ, ◌%◌, ◌<◌, ◌↔◌, List, length, get_or, sym, refl, ap, ◌∙◌, arith}
use lib.ListN.{get_elem?}
use mathlib.Core.Option.{Option, some, some-injective}
use Rattle.core_graph.proofs.Declared.{edge_predicate}
use Rattle.core_graph.proofs.Shapes.{codes_fit, tabled}
use Rattle.spread.specs.Keys.{key_of, object_of, predicate_of, subject_of, triple_key}
use Rattle.core_lists.specs.Input.{Input, CoreFits}
use Rattle.core_lists.proofs.Keys.{key_one}
use Rattle.core_lists.proofs.ResolvedNodes.{proper}
use Rattle.meaning.proofs.Lists.Bits.{mask_lt}
use Rattle.meaning.proofs.Lists.Members.{element}
use Rattle.meaning.proofs.Lists.Ordered.{<_strict}
use Rattle.meaning.proofs.Lists.OrderedPlaces.{one_place}
use Rattle.meaning.proofs.Lists.Places.{entry_at, inside, placed, ∈_at}
use Rattle.meaning.proofs.Model.Clash.{Limits}
use Rattle.meaning.proofs.Model.Resolved.{Resolved, resolved}
use Rattle.meaning.specs.Built.{BuiltNode, HasType, PTarget, PTargets, Requires, core, invented}
use Rattle.meaning.specs.Core.{CoreEdge, CoreNode, CoreType, Node, as_object, as_typed, given, passed}
use Rattle.meaning.specs.Limits.{literal_weight, max_predicates, max_types, place_room, predicate_room, type_sets}
use Rattle.meaning.specs.Member.{◌∈◌}
use Rattle.meaning.specs.Pack.{Pack, Target, type}
use Rattle.meaning.specs.Tables.{set_of_mask}
use Rattle.meaning.specs.TypeSet.{TypeSet, ◌∈ₜ◌}
use Rattle.shapes.specs.Shapes.{CodesFit, Tabled}

-- ---- what the keys of a well placed core say

module _ {nodes triples masks : List ℕ} (l : CoreFits nodes triples masks) (i : ℕ) (h : i < length triples) where
  pub subject_masked : subject_of (get_or triples i 0) < length masks
  subject_masked = let s = l.subject (get_or triples i 0) (∈_at triples i h) in let g = l.long in omega arith

  pub predicate_known : predicate_of (get_or triples i 0) < max_predicates
  predicate_known = l.predicate (get_or triples i 0) (∈_at triples i h)

pub typed_node : (P : Pack) {n : Node} {S : Target} → CoreType P n S → CoreNode P n
typed_node P (given g) = as_typed g
typed_node P (passed c d e) = as_object e

-- ---- a node whose types a mask holds

-- the mask holds the types of b
pub record Masked (P : Pack) (b : BuiltNode) (m : ℕ) : Type 0 where
  pub types : (S : Target) → (S ∈ₜ set_of_mask m) ↔ HasType P b S

module _ (P : Pack) {b : BuiltNode} {m : ℕ} (h : Masked P b m) (p : ℕ) where
  pub requires_masked : Requires P (invented (set_of_mask m)) p ↔ Requires P b p
  requires_masked = (
    λ r. record { member = r.member; shape = r.shape; has = (h.types (type r.member)).0 r.has; declared = r.declared; required = r.required },
    λ r. record { member = r.member; shape = r.shape; has = (h.types (type r.member)).1 r.has; declared = r.declared; required = r.required },
  )

  pub limits_masked : Limits P (invented (set_of_mask m)) p ↔ Limits P b p
  limits_masked = (
    λ r. record { member = r.member; shape = r.shape; has = (h.types (type r.member)).0 r.has; declared = r.declared; limited = r.limited },
    λ r. record { member = r.member; shape = r.shape; has = (h.types (type r.member)).1 r.has; declared = r.declared; limited = r.limited },
  )

  pub targets_masked : {X : TypeSet} → PTargets P (invented (set_of_mask m)) p X → PTargets P b p X
  targets_masked t S = (
    λ i. let r = (t S).0 i in record { member = r.member; shape = r.shape; has = (h.types (type r.member)).0 r.has; declared = r.declared; is = r.is },
    λ (r : PTarget P b p S). (t S).1 (record { member = r.member; shape = r.shape; has = (h.types (type r.member)).1 r.has; declared = r.declared; is = r.is }),
  )

  pub masked_targets : {X : TypeSet} → PTargets P b p X → PTargets P (invented (set_of_mask m)) p X
  masked_targets t S = (
    λ i. let r = (t S).0 i in record { member = r.member; shape = r.shape; has = (h.types (type r.member)).1 r.has; declared = r.declared; is = r.is },
    λ (r : PTarget P (invented (set_of_mask m)) p S). (t S).1 (record { member = r.member; shape = r.shape; has = (h.types (type r.member)).0 r.has; declared = r.declared; is = r.is }),
  )

-- a mask whose types are all below the most
pub types_below : (m : ℕ) → ((t : ℕ) → type t ∈ₜ set_of_mask m → t < max_types) → m % literal_weight < type_sets
unfolding set_of_mask
types_below m h = mask_lt max_types (m % literal_weight) h

-- ---- the core held

module _ {P : Pack} {table : List (List ℕ)} {nodes triples masks : List ℕ} (I : Input P table nodes triples masks) where
  pub well : Resolved P
  well = resolved P I.bounded.resolved

  pub shaped : Tabled P.setting table
  shaped = tabled I.shapes I.bounded

  pub input_codes : CodesFit table
  input_codes = codes_fit I.shapes I.bounded

  -- the node at a place
  pub record NodeAt (i : ℕ) : Type 0 where
    pub node : Node
    pub in_core : CoreNode P node
    pub is : get_elem? nodes i ≡ some (key_of node)

  pub node_at : (i : ℕ) → i < length nodes → NodeAt i
  node_at i h =
      let k = (I.held.node_keys_are.members (get_or nodes i 0)).0 (element nodes i (get_or nodes i 0) (entry_at nodes i h)) in
      record { node = k.node; in_core = k.in_core; is = entry_at nodes i h ∙ ap {B = Option ℕ} some k.is }

  pub place_of : {n : Node} → CoreNode P n → (i : ℕ) × (get_elem? nodes i ≡ some (key_of n))
  place_of {n} c = placed ((I.held.node_keys_are.members (key_of n)).1 (record { node = n; in_core = c; is = refl }))

  pub same_node_at : {n m : Node} (i : ℕ) → CoreNode P n → CoreNode P m → get_elem? nodes i ≡ some (key_of n) → get_elem? nodes i ≡ some (key_of m) → n ≡ m
  same_node_at {n} {m} i c d e f = key_one P I.bounded n m (proper P well c) (proper P well d) (some-injective (key_of n) (key_of m) (sym e ∙ f))

  pub same_place : (n : Node) (i j : ℕ) → get_elem? nodes i ≡ some (key_of n) → get_elem? nodes j ≡ some (key_of n) → i ≡ j
  same_place n i j e f = one_place <_strict nodes I.held.node_keys_are.ascending (key_of n) i j e f

  -- its types
  pub masked : (n : Node) (i : ℕ) → CoreNode P n → get_elem? nodes i ≡ some (key_of n) → Masked P (core n) (get_or masks i 0)
  masked n i c e = record { types = I.held.types i n c e }

  -- ---- edges

  -- a key's parts are those of the triple
  pub record EdgeAt (k : ℕ) : Type 0 where
    pub from : Node
    pub to : Node
    pub from_at : get_elem? nodes (subject_of k) ≡ some (key_of from)
    pub to_at : get_elem? nodes (object_of k) ≡ some (key_of to)
    pub edge : CoreEdge P from (predicate_of k) to
    pub subject_in : subject_of k < length nodes
    pub object_in : object_of k < length nodes
    pub predicate_in_lem : predicate_of k < max_predicates
    pub is : k ≡ triple_key (subject_of k) (predicate_of k) (object_of k)

  parts : (s p o : ℕ) → p < predicate_room → o < place_room → (subject_of (triple_key s p o) ≡ s) × (predicate_of (triple_key s p o) ≡ p) × (object_of (triple_key s p o) ≡ o)
  unfolding triple_key
  parts s p o h l = (omega arith, omega arith, omega arith)

  pub edge_at : (k : ℕ) → k ∈ triples → EdgeAt k
  edge_at k m =
      let t = (I.held.triple_keys_are.members k).0 m in
      let hp = edge_predicate P I.bounded.resolved t.edge in
      let ho = inside nodes t.object (key_of t.to) t.to_at in
      let hs = inside nodes t.subject (key_of t.from) t.from_at in
      let bp = I.bounded.predicates in
      let few = I.few in
      let q = parts t.subject t.predicate t.object (omega arith) (omega arith) in
      let es : subject_of k ≡ t.subject = ap (λ (x : ℕ). subject_of x) t.is ∙ q.0 in
      let ep : predicate_of k ≡ t.predicate = ap (λ (x : ℕ). predicate_of x) t.is ∙ q.1 in
      let eo : object_of k ≡ t.object = ap (λ (x : ℕ). object_of x) t.is ∙ q.2 in
      record {
        from = t.from;
        to = t.to;
        from_at = rw es t.from_at;
        to_at = rw eo t.to_at;
        edge = rw ep t.edge;
        subject_in = rw es hs;
        object_in = rw eo ho;
        predicate_in_lem = rw ep (omega arith);
        is = rw (es, ep, eo) t.is;
      }

  pub edge_key : {n m : Node} {p : ℕ} (s o : ℕ) → CoreEdge P n p m → get_elem? nodes s ≡ some (key_of n) → get_elem? nodes o ≡ some (key_of m) → triple_key s p o ∈ triples
  edge_key {n} {m} {p} s o g e f =
      (I.held.triple_keys_are.members (triple_key s p o)).1
      (record { subject = s; predicate = p; object = o; from = n; to = m; from_at = e; to_at = f; edge = g; is = refl })

  pub place_small : (n : Node) (i : ℕ) → get_elem? nodes i ≡ some (key_of n) → i < place_room
  place_small n i e = let h = inside nodes i (key_of n) e in let f = I.few in omega arith

  pub predicate_small : {n m : Node} {p : ℕ} → CoreEdge P n p m → p < max_predicates
  predicate_small e = let h = edge_predicate P I.bounded.resolved e in let b = I.bounded.predicates in omega arith

  -- the input is well placed
  pub input_placed : CoreFits nodes triples masks
  input_placed = record {
    nodes_ascend = I.held.node_keys_are.ascending;
    triples_ascend = I.held.triple_keys_are.ascending;
    few = I.few;
    iris = I.iris;
    short = I.short;
    long = I.held.long;
    subject = λ k m. (edge_at k m).subject_in;
    predicate = λ k m. (edge_at k m).predicate_in_lem;
    object = λ k m. (edge_at k m).object_in;
  }
