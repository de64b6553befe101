-- The graph that a construction gives stands in the two lists, what is known of its pack, and what a call has ready for the
-- evaluation. Assumes nothing.
use Rattle.std.proofs.Common.{◌≡◌, ℕ, ◌*◌, ◌≤◌, List, length, take, subst, arith}
use Rattle.pack.proofs.Accepted.{well_formed_lem}
use Rattle.calls.specs.Call.{Contents, Written}
use Rattle.construct.proofs.Accepted.{accepted_formed}
use Rattle.construct.specs.Outcome.{GivesGraph, SomeObeys}
use Rattle.graph.specs.declared.Size.{Size}
use Rattle.evaluate.specs.Answered.{Ready}
use Rattle.evaluate.specs.GraphIn.{GraphIn}
use Rattle.graph.proofs.Fronts.{fronts_there, index_there}
use Rattle.graph.proofs.SubjectEntries.{numbers_say}
use Rattle.graph.specs.Fronts.{GraphListed, graph_lists}
use Rattle.meaning.proofs.Theory.Theorem.{has_graph}
use Rattle.meaning.specs.Limits.{index_length, max_parts, node_list_length, node_width, triple_list_length}
use Rattle.index.specs.Subjects.{BySubject}
use Rattle.meaning.specs.Listing.{SubjectIndex}
use Rattle.meaning.specs.NoGraph.{NoGraph}
use Rattle.meaning.specs.Pack.{Pack, Text}
use Rattle.pack.specs.Checked.{accepted, first_refusal, well_formed}
use Rattle.query.specs.Answer.{HoldsQuery}
use Rattle.resolve.specs.Wanted.{OfGraph, Wanted}
use Rattle.spelling.proofs.CoreTerms.{plain_distinct}

module _ (pack : Text) {P : Pack} (is : first_refusal pack ≡ accepted P) where
  pub formed : well_formed pack ≡ accepted P
  formed = accepted_formed pack P is

  pub some_graph : SomeObeys P → ¬ NoGraph P
  some_graph o = let f = well_formed_lem pack P formed in (has_graph P f.named _ (plain_distinct P f.distinct f.prefix_free f.named)).0 o

module _ {pack : Text} {s : Size} {fronts : List (List ℕ)} (G : GivesGraph pack s fronts) (nodes triples index : Contents) (w : Written fronts (graph_lists nodes triples index))
    (a : node_list_length ≤ length nodes.after) (b : triple_list_length ≤ length triples.after) where
  there : (G.has.graph.nodes ≡ take (s.nodes * node_width) nodes.after) × (G.has.graph.triples ≡ take (s.triples * 3) triples.after)
  there = fronts_there G.has.graph nodes triples index w

  -- as the evaluation reads it
  pub graph_in : GraphIn pack G.of nodes.after s.nodes triples.after s.triples
  graph_in = record {
    is = G.has.is;
    small = G.has.small;
    obeyed = G.has.obeyed;
    listed = subst (λ (x : List ℕ × List ℕ). GraphListed G.of s.nodes s.triples x.0 x.1) (λ i. (there.0 i, there.1 i)) G.has.graph.listed;
    node_room = a;
    triple_room = b;
  }

  -- and its index
  pub index_in : index_length ≤ length index.after → BySubject triples.after s.nodes s.triples index.after
  index_in l =
      let g = G.has.graph in
      let (L, x) = subst (λ (x : List ℕ × List ℕ). (L : GraphListed G.of s.nodes s.triples x.0 x.1) × SubjectIndex L.triple_records_are s.nodes g.entries)
      (λ i. (there.0 i, there.1 i)) (g.listed, g.indexed) in
      numbers_say triples.after L x (index_there g nodes triples index w) (omega (arith, g.listed.few_nodes))

  -- with the query's parts, and the number that each wants
  pub ready_in : {query : Text} {tree : List ℕ} {parts : ℕ} {wanted : List ℕ} → HoldsQuery query tree parts → parts ≤ length tree
      → OfGraph pack nodes.after s.nodes (λ P in_order. Wanted P in_order query tree parts wanted) → max_parts ≤ length wanted
      → Ready pack query tree parts wanted nodes.after s.nodes triples.after s.triples
  ready_in h room resolved l = record {
    graph = record { of = G.of; graph = graph_in };
    held = h;
    room = room;
    resolved = resolved;
    wanted_room = let x = h.few in let y = h.query.fits in omega arith;
  }
