-- The two lists that a build leaves, computed, and that they are the pack's graph. Assumes nothing.
use lib.Dec.{lit<}
use lib.ListN.{get_elem?}
use mathlib.Core.Bool.{Bool, true, false}
use mathlib.Core.List.Memᴰ.{map as ∈-map}
use mathlib.Core.List.{List, [], ◌∷◌, map, Forall₂}
use mathlib.Core.Logic.Iff
use mathlib.Core.Option.{Option, some, none-ne-some, some-injective}
use mathlib.Core.Path.{◌≡◌, refl, sym, ap, ◌∙◌, subst}
use native.Mathlib.Omega.{arith}
use Prim.Native.Nat.{ℕ, zero, suc, ◌<◌}
use Rattle.meaning.proofs.Lists.Members.{element, ∈_map⁻¹}
use Rattle.meaning.proofs.Lists.Ordered.{≺_irrefl}
use Rattle.meaning.proofs.Lists.Sorted.{sorted, sorted_ascending, sorted_iff}
use Rattle.meaning.proofs.Model.Built.{built_edges, built_nodes, edge_from, edge_in, edge_to, in_edge, nodes_iff, type_set, type_set_iff}
use Rattle.meaning.proofs.Model.Enumeration.{BuiltTriple}
use Rattle.meaning.proofs.Model.Resolved.{Resolved}
use Rattle.meaning.proofs.Model.Same.{same_built}
use Rattle.meaning.specs.Built.{BuiltNode, IsBuilt, core, invented}
use Rattle.meaning.specs.Core.{Node, iri_node, literal_node}
use Rattle.meaning.specs.Listing.{GraphLists, NodeRecord, NodesInOrder, TripleRecord, ◌◃◌, arguments, invented_kind, kind, node_key, number}
use Rattle.meaning.specs.Member.{◌∈◌, here, there}
use Rattle.meaning.specs.Ordered.{InOrder, ◌≺◌, before}
use Rattle.meaning.specs.Pack.{Pack, type}

-- ---- different nodes have different keys

kind_one : (a b : Bool) → invented_kind a ≡ invented_kind b → a ≡ b
kind_one true true e = refl
kind_one true false e = absurd (let z : ⊥ = omega arith in z)
kind_one false true e = absurd (let z : ⊥ = omega arith in z)
kind_one false false e = refl

not_low : (a : Bool) (n : ℕ) → n < 2 → n ≡ invented_kind a → ⊥
not_low true n h e = omega arith
not_low false n h e = omega arith

pub node_key_one : (b c : BuiltNode) → node_key b ≡ node_key c → b ≡ c
unfolding node_key
node_key_one (core (iri_node c vs)) (core (iri_node d ws)) e = let p : c ≡ d = cc in let q : vs ≡ ws = cc in λ i. core (iri_node (p i) (q i))
node_key_one (core (iri_node c vs)) (core (literal_node w)) e = let z : ◌≡◌ {A = ℕ} 0 1 = cc in absurd (let y : ⊥ = omega arith in y)
node_key_one (core (literal_node v)) (core (iri_node d ws)) e = let z : ◌≡◌ {A = ℕ} 1 0 = cc in absurd (let y : ⊥ = omega arith in y)
node_key_one (core (literal_node v)) (core (literal_node w)) e = let p : v ≡ w = cc in λ i. core (literal_node (p i))
node_key_one (core (iri_node c vs)) (invented X) e = let z : 0 ≡ invented_kind X.literal = cc in absurd (not_low X.literal 0 (lit< tt) z)
node_key_one (core (literal_node v)) (invented X) e = let z : 1 ≡ invented_kind X.literal = cc in absurd (not_low X.literal 1 (lit< tt) z)
node_key_one (invented X) (core (iri_node d ws)) e = let z : 0 ≡ invented_kind X.literal = cc in absurd (not_low X.literal 0 (lit< tt) z)
node_key_one (invented X) (core (literal_node w)) e = let z : 1 ≡ invented_kind X.literal = cc in absurd (not_low X.literal 1 (lit< tt) z)
node_key_one (invented X) (invented Y) e =
    let p = kind_one X.literal Y.literal (cc) in let q : X.mask ≡ Y.mask = cc in λ i. invented (record { literal = p i; mask = q i })

pub core_key_one : (n m : Node) → node_key (core n) ≡ node_key (core m) → n ≡ m
core_key_one n m e = let q = node_key_one (core n) (core m) e in cc

-- ---- the place of an element in a list

-- how many stand before b
unfoldable pub place_in : BuiltNode → List BuiltNode → ℕ
unfolding same_built
place_in b [] = 0
place_in b (c ∷ cs) = elim (same_built b c) [ yes e ↦ 0 | no n ↦ suc (place_in b cs) ]

pub placed : (b : BuiltNode) (l : List BuiltNode) → b ∈ l → get_elem? l (place_in b l) ≡ some b
unfolding place_in
placed b [] h = elim h [ ]
placed b (c ∷ cs) h = go (same_built b c) h (placed b cs)
  where
    go : (d : Dec (b ≡ c)) → b ∈ (c ∷ cs) → (b ∈ cs → get_elem? cs (place_in b cs) ≡ some b)
        → get_elem? (c ∷ cs) (elim d as (λ _. ℕ) [ yes e ↦ 0 | no n ↦ suc (place_in b cs) ]) ≡ some b
    go (yes e) i rest = ap {B = Option BuiltNode} some (sym e)
    go (no n) (here e) rest = absurd (n e)
    go (no n) (there i) rest = rest i

-- in an ascending list it is the only place
pub placed_only : (l : List BuiltNode) → InOrder ◌◃◌ l → (i : ℕ) (b : BuiltNode) → get_elem? l i ≡ some b → i ≡ place_in b l
unfolding place_in
placed_only [] a i b e = absurd (none-ne-some b e)
placed_only (c ∷ cs) (before p a) zero b e = go (same_built b c)
  where
    go : (d : Dec (b ≡ c)) → ◌≡◌ {A = ℕ} 0 (elim d as (λ _. ℕ) [ yes e ↦ 0 | no n ↦ suc (place_in b cs) ])
    go (yes q) = refl
    go (no n) = absurd (n (sym (some-injective c b e)))
placed_only (c ∷ cs) (before p a) (suc i) b e = go (same_built b c) (placed_only cs a i b e)
  where
    go : (d : Dec (b ≡ c)) → i ≡ place_in b cs → suc i ≡ (elim d as (λ _. ℕ) [ yes e ↦ 0 | no n ↦ suc (place_in b cs) ])
    go (yes q) r = absurd (≺_irrefl (node_key c) (subst (λ x. node_key c ≺ node_key x) q (p b (element cs i b e))))
    go (no n) r = ap suc r

module _ (P : Pack) where
  -- ---- the nodes

  -- Every built node once, in node order.
  unfoldable pub node_list : List BuiltNode
  unfolding sorted node_key built_nodes
  node_list = sorted node_key (built_nodes P)

  unfoldable pub node_numbers : BuiltNode → List ℕ
  unfolding kind number type_set arguments
  node_numbers b = kind b ∷ number b ∷ (type_set P b).mask ∷ arguments b

  unfoldable pub node_records : List (List ℕ)
  unfolding node_numbers node_list
  node_records = map node_numbers node_list

  pub node_list_ordered : Resolved P → NodesInOrder P node_list
  unfolding node_list
  node_list_ordered wf = record {
    ascending = sorted_ascending node_key node_key_one (built_nodes P);
    members = λ b. Iff.trans (sorted_iff node_key node_key_one (built_nodes P) b) (nodes_iff P wf b);
  }

  pub node_record : Resolved P → (b : BuiltNode) → NodeRecord P b (node_numbers b)
  unfolding node_numbers
  node_record wf b = record { types = (type_set P b).mask; weigh = λ t. type_set_iff P wf b (type t); are = refl }

  -- ---- the triples, by the places of their ends in the node list

  unfoldable pub triple_numbers : BuiltTriple → List ℕ
  unfolding node_list place_in
  triple_numbers e = place_in e.subject node_list ∷ e.predicate ∷ place_in e.object node_list ∷ []

  unfoldable pub triple_records : List (List ℕ)
  unfolding sorted triple_numbers built_edges
  triple_records = sorted (λ t. t) (map triple_numbers (built_edges P))

  pub node_at : Resolved P → {b : BuiltNode} → IsBuilt P b → get_elem? node_list (place_in b node_list) ≡ some b
  node_at wf {b} i = placed b node_list (((node_list_ordered wf).members b).1 i)

  pub only_node_at : Resolved P → (i : ℕ) (b : BuiltNode) → get_elem? node_list i ≡ some b → i ≡ place_in b node_list
  only_node_at wf = placed_only node_list (node_list_ordered wf).ascending

  triple_made : Resolved P → (t : List ℕ) → t ∈ map triple_numbers (built_edges P) → TripleRecord P node_list t
  unfolding triple_numbers
  triple_made wf t h =
      let r = ∈_map⁻¹ triple_numbers (built_edges P) h in
      let e = in_edge P wf r.1 in
      record {
        subject = place_in r.0.subject node_list;
        predicate = r.0.predicate;
        object = place_in r.0.object node_list;
        from = r.0.subject;
        to = r.0.object;
        from_at = node_at wf (edge_from P e);
        to_at = node_at wf (edge_to P e);
        edge = e;
        are = r.2;
      }

  made_triple : Resolved P → (t : List ℕ) → TripleRecord P node_list t → t ∈ map triple_numbers (built_edges P)
  unfolding triple_numbers
  made_triple wf t r =
      subst (λ x. x ∈ map triple_numbers (built_edges P))
      (sym (λ k. only_node_at wf r.subject r.from r.from_at k ∷ r.predicate ∷ only_node_at wf r.object r.to r.to_at k ∷ []) ∙ sym r.are)
      (∈-map triple_numbers (edge_in P wf r.edge))

  -- ---- together

  pub graph_listed : Resolved P → GraphLists P node_records triple_records
  unfolding node_records triple_records
  graph_listed wf = record {
    in_order = node_list;
    ordered = node_list_ordered wf;
    records = each node_list;
    edges = record {
      ascending = sorted_ascending (λ t. t) (λ x y e. e) (map triple_numbers (built_edges P));
      members = λ t. Iff.trans (sorted_iff (λ t. t) (λ x y e. e) (map triple_numbers (built_edges P)) t) (triple_made wf t, made_triple wf t);
    };
  }
    where
      each : (l : List BuiltNode) → Forall₂ (NodeRecord P) l (map node_numbers l)
      each [] = Forall₂.nil
      each (b ∷ bs) = Forall₂.cons (node_record wf b) (each bs)
