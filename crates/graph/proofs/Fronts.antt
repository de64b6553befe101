-- A graph's numbers at the front of its lists: how long they are, that they are read there, and that they can be copied.
-- Assumes nothing.
use lib.ListN.{drop, get_elem?, length, length-append, take}
use lib.Seq.{length-take-le, take_at}
use mathlib.Core.List.{List, [], ◌∷◌, ◌++◌, Forall₂, flatten}
use mathlib.Core.Path.{◌≡◌, refl, sym, ap, subst, ◌∙◌}
use mathlib.Core.Option.{some}
use native.Mathlib.Omega.{arith}
use Prim.Native.Nat.{ℕ, suc, ◌*◌, ◌≤◌}
use Rattle.calls.specs.Call.{Contents, Written, ◌becomes◌}
use Rattle.graph.specs.Build.{GraphWritten}
use Rattle.graph.specs.Fronts.{GraphFronts, GraphListed, fronts_of, graph_lists}
use Rattle.meaning.specs.Built.{BuiltNode, core, invented}
use Rattle.meaning.specs.Core.{iri_node, literal_node}
use Rattle.meaning.specs.Limits.{index_width, node_width}
use Rattle.meaning.specs.Listing.{NodeRecord, SubjectIndex, TripleRecord, arguments}
use Rattle.meaning.specs.Member.{◌∈◌, here, there}
use Rattle.meaning.specs.Pack.{Pack}
use Rattle.sets.specs.Buffers.{overlaid}

-- ---- seven numbers a node, three a triple

pub record_length : (b : BuiltNode) → length (arguments b) ≡ 4
unfolding arguments
record_length (core (iri_node c [])) = refl
record_length (core (iri_node c (a ∷ []))) = refl
record_length (core (iri_node c (a ∷ b ∷ []))) = refl
record_length (core (iri_node c (a ∷ b ∷ d ∷ []))) = refl
record_length (core (iri_node c (a ∷ b ∷ d ∷ e ∷ vs))) = refl
record_length (core (literal_node v)) = refl
record_length (invented X) = refl

node_flat : {P : Pack} (bs : List BuiltNode) (rs : List (List ℕ)) → Forall₂ (NodeRecord P) bs rs → length (flatten rs) ≡ length rs * node_width
unfolding flatten
node_flat [] [] Forall₂.nil = refl
node_flat [] (r ∷ rs) h = elim h [ ]
node_flat (b ∷ bs) [] h = elim h [ ]
node_flat (b ∷ bs) (r ∷ rs) (Forall₂.cons h t) = let l = length-append r (flatten rs) in let m = node_flat bs rs t in omega (arith, ap length h.are, record_length b)

triple_flat : {P : Pack} {bs : List BuiltNode} (rs : List (List ℕ)) → ((r : List ℕ) → r ∈ rs → TripleRecord P bs r) → length (flatten rs) ≡ length rs * 3
unfolding flatten
triple_flat [] h = refl
triple_flat (r ∷ rs) h = let l = length-append r (flatten rs) in let m = triple_flat rs (λ q i. h q (there i)) in omega (arith, ap length (h r (here refl)).are)

-- ---- a front is as long as the count says

module _ {P : Pack} {n t : ℕ} {nodes triples : List ℕ} (G : GraphListed P n t nodes triples) where
  pub node_length : length nodes ≡ n * node_width
  node_length = ap length G.nodes_are ∙ omega (arith, node_flat _ _ G.lists.records, G.node_count)

  pub triple_length : length triples ≡ t * 3
  triple_length = ap length G.triples_are ∙ omega (arith, triple_flat G.triple_records_are (λ q i. (G.lists.edges.members q).0 i), G.triple_count)

entry_flat : (es : List (List ℕ)) → ((k : ℕ) (e : List ℕ) → get_elem? es k ≡ some e → length e ≡ 2) → length (flatten es) ≡ length es * 2
unfolding flatten
entry_flat [] h = refl
entry_flat (e ∷ es) h = let l = length-append e (flatten es) in let m = entry_flat es (λ k. h (suc k)) in omega (arith, h 0 e refl)

pub index_length : {triples : List (List ℕ)} {n : ℕ} {entries : List (List ℕ)} → SubjectIndex triples n entries → length (flatten entries) ≡ n * index_width
index_length {triples} {n} {entries} x = omega (arith, entry_flat entries (λ k e h. ap length (x.entry k e h).are), x.each)

-- ---- the graph is read where it is written

pub at_front : (front rest : List ℕ) {k : ℕ} {after : List ℕ} → length front ≡ k → after ≡ front ++ rest → front ≡ take k after
at_front front rest {k} l e = sym (ap (take k) e ∙ take_at front rest k l)

module _ {P : Pack} {n t : ℕ} {fronts : List (List ℕ)} (G : GraphFronts P n t fronts) where
  module _ (nodes triples index : Contents) (w : Written fronts (graph_lists nodes triples index)) where
    are : Written (G.nodes ∷ G.triples ∷ flatten G.entries ∷ []) (graph_lists nodes triples index)
    are = subst (λ fs. Written fs (graph_lists nodes triples index)) G.fronts_are w

    pub fronts_there : (G.nodes ≡ take (n * node_width) nodes.after) × (G.triples ≡ take (t * 3) triples.after)
    fronts_there = (at_front G.nodes _ (node_length G.listed) are.0, at_front G.triples _ (triple_length G.listed) are.1.0)

    pub index_there : take (n * index_width) index.after ≡ flatten G.entries
    index_there = sym (at_front (flatten G.entries) _ (index_length G.indexed) are.1.1.0)

-- the records that were written are those at the front
pub listed_there : {P : Pack} {n t : ℕ} {nodes triples : Contents} → GraphWritten P n t nodes triples
    → GraphListed P n t (take (n * node_width) nodes.after) (take (t * 3) triples.after)
listed_there {P} {n} {t} w =
    rw (← (at_front w.node_front _ (node_length w.graph) w.nodes_written), ← (at_front w.triple_front _ (triple_length w.graph) w.triples_written)) w.graph

-- ---- and copied from there

module _ {P : Pack} {n t : ℕ} (nodes triples index : List ℕ) (G : GraphListed P n t (take (n * node_width) nodes) (take (t * 3) triples)) (room : n * index_width ≤ length index) where
  -- to the front of three others
  pub copied : (to links marks : List ℕ) {to' links' marks' : List ℕ} → to' ≡ overlaid (n * node_width) nodes to → links' ≡ overlaid (t * 3) triples links
      → marks' ≡ overlaid (n * index_width) index marks
      → Written (fronts_of n nodes t triples index) (graph_lists (to becomes to') (links becomes links') (marks becomes marks'))
  copied to links marks a b c = (
    a ∙ ap (λ k. take (n * node_width) nodes ++ drop k to) (sym (node_length G)),
    (
      b ∙ ap (λ k. take (t * 3) triples ++ drop k links) (sym (triple_length G)),
      (c ∙ ap (λ k. take (n * index_width) index ++ drop k marks) (sym (length-take-le (n * index_width) index room)), tt),
    ),
  )
