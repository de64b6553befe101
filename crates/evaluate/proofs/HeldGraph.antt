-- The two lists hold the graph by the places of its nodes, and the numbers wanted are those of its names and labels. Assumes
-- nothing.
use Rattle.std.proofs.Common.{◌≡◌, ℕ, ◌*◌, ◌<◌, false, List, [], ◌∷◌, length, get_or, take, sym, refl, ap, ◌∙◌, subst, arith}
use lib.ListN.{get_elem?}
use mathlib.Core.Option.{some}
use Rattle.pack.proofs.Accepted.{well_formed_lem}
use Rattle.states.specs.Lists.{Lists}
use Rattle.answers.specs.Graph.{HeldIn, NumberedGraph, WantedResolved}
use Rattle.core_graph.proofs.Declared.{edge_predicate}
use Rattle.evaluate.proofs.InLists.{formed}
use Rattle.meaning.proofs.Lists.Places.{inside, placed, same_at, there_is}
use Rattle.evaluate.specs.GraphIn.{GraphIn}
use Rattle.evaluate.specs.Named.{by_place}
use Rattle.graph.proofs.TripleNumbers.{count_is, edge_of, graph_fits, number_at, subject_is_at}
use Rattle.graph.specs.Fronts.{GraphListed}
use Rattle.index.specs.Triples.{GraphFits, PredicatesFit, TripleIn, predicate_at}
use Rattle.meaning.proofs.Model.Resolved.{resolved}
use Rattle.meaning.specs.Built.{BuiltEdge, BuiltNode, from_core, made}
use Rattle.meaning.specs.Certain.{built}
use Rattle.meaning.specs.Limits.{max_predicates, node_width}
use Rattle.meaning.specs.Listing.{TripleRecord}
use Rattle.meaning.specs.Pack.{Pack, Text}
use Rattle.meaning.specs.WellFormed.{dangling}
use Rattle.pack.proofs.Unpacking.{unpacked}
use Rattle.resolve.specs.Listed.{BuiltNodesListed}
use Rattle.resolve.specs.Wanted.{Wanted}
use Rattle.spelling.specs.Iri.{plain}

module _ {pack : Text} {P : Pack} {nodes : List ℕ} {count : ℕ} {triples : List ℕ} {edges : ℕ} (g : GraphIn pack P nodes count triples edges) where
  abbrev listed : GraphListed P count edges (take (count * node_width) nodes) (take (edges * 3) triples)
  listed = g.listed

  abbrev pub in_order : List BuiltNode
  in_order = listed.lists.in_order

  named_7 : dangling P ≡ false
  named_7 = (well_formed_lem pack P (formed pack g.is)).named

  -- the node list as the names and labels are looked up in it
  pub node_list : BuiltNodesListed P in_order nodes count
  node_list = record {
    ordered = listed.lists.ordered;
    records = listed.node_records_are;
    recorded = listed.lists.records;
    are = listed.nodes_are;
    counted = count_is triples listed;
  }

  -- ---- the triples

  predicate_below : {b c : BuiltNode} {p : ℕ} → BuiltEdge P b p c → p < max_predicates
  predicate_below e =
      let few = (unpacked pack P (well_formed_lem pack P (formed pack g.is)).read).predicates.1 in
      let l = go e in omega arith
    where
      go : {b c : BuiltNode} {p : ℕ} → BuiltEdge P b p c → p < length P.setting.predicates
      go (from_core e) = edge_predicate P named_7 e
      go (made i h) = (resolved P named_7).predicate h.needs.declared

  module _ (L : Lists) (same_nodes : L.nodes ≡ count) (same_edges : L.edges ≡ edges) (same-triples : L.triples ≡ triples) where
    abbrev B : NumberedGraph
    B = by_place (plain P) P in_order

    forth : (s p o : ℕ) → B.Edge s p o → TripleIn triples edges s p o
    forth s p o x =
        let t : TripleRecord P in_order (s ∷ p ∷ o ∷ []) = record {
          subject = s;
          predicate = p;
          object = o;
          from = x.from;
          to = x.to;
          from_at = x.from_at;
          to_at = x.to_at;
          edge = x.holds;
          are = refl;
        } in
        let (k, e) = placed ((listed.lists.edges.members (s ∷ p ∷ o ∷ [])).1 t) in
        record {
          at = k;
          inside = omega (arith, inside listed.triple_records_are k _ e, listed.triple_count);
          subject = subject_is_at triples listed k _ e;
          predicate = number_at triples listed k _ e 1 (omega arith);
          object = number_at triples listed k _ e 2 (omega arith);
        }

    back : (s p o : ℕ) → TripleIn triples edges s p o → B.Edge s p o
    back s p o x =
        let t = edge_of triples listed s p o x.at x.inside x.subject x.predicate x.object in
        let h = t.are in
        let a : t.subject ≡ s = sym (ap (λ z. get_or z 0 0) h) in
        let b : t.predicate ≡ p = sym (ap (λ z. get_or z 1 0) h) in
        let c : t.object ≡ o = sym (ap (λ z. get_or z 2 0) h) in
        record {
          from = t.from;
          to = t.to;
          from_at = subst (λ k. get_elem? in_order k ≡ some t.from) a t.from_at;
          to_at = subst (λ k. get_elem? in_order k ≡ some t.to) c t.to_at;
          holds = subst (λ k. BuiltEdge P t.from k t.to) b t.edge;
        }

    -- the lists hold the graph
    pub held_in : HeldIn B L
    held_in = record {
      nodes = sym (same_nodes ∙ count_is triples listed);
      edges = λ s p o. ((λ x. rw (same-triples, same_edges) (forth s p o x)), (λ x. back s p o (rw (same-triples, same_edges) at x)));
      joins = λ s p o x. (inside in_order s x.from x.from_at, inside in_order o x.to x.to_at);
      predicates = λ s p o x. predicate_below x.holds;
    }

    -- the numbers wanted are right
    pub right_numbers : {q : Text} → Wanted P in_order q L.tree L.parts L.wanted → WantedResolved B q L
    right_numbers {q} w = record {
      steps = λ i l k p h. let x = (w.parts i l).step k p in ((λ c. (x.0 c).1), (λ e. x.1 (h, e)));
      iris = λ i l k n h. let (b, e) = there_is in_order n h in let x = (w.parts i l).iri k n b e in
          ((λ a. x.0 (subst (λ c. (built (plain P) P).IriLabel _ c) (same_at in_order n a.at e) a.holds)), (λ c. record { node = b; at = e; holds = x.1 c }));
      literals = λ i l k n h. let (b, e) = there_is in_order n h in let x = (w.parts i l).literal k n b e in
          ((λ a. x.0 (subst (λ c. (built (plain P) P).LiteralLabel _ c) (same_at in_order n a.at e) a.holds)), (λ c. record { node = b; at = e; holds = x.1 c }));
    }

  -- ---- bounds

  pub graph_in_fits : GraphFits count edges triples
  graph_in_fits = graph_fits triples listed (omega (arith, listed.few_triples, g.triple_room))

  pub predicates_below : PredicatesFit triples edges
  predicates_below k l =
      let t = edge_of triples listed _ _ _ k l refl refl refl in
      let p : t.predicate ≡ predicate_at triples k = sym (ap (λ z. get_or z 1 0) t.are) in
      let b = predicate_below t.edge in
      omega arith
