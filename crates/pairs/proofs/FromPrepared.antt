-- The answer of pairs, from what is prepared and what is found in it. Assumes nothing.
use lib.ListN.{drop, length, length-map, take}
use lib.Seq.{length-take-le}
use mathlib.Core.List.{List, [], ◌∷◌, ◌++◌, flatten, map}
use mathlib.Core.Path.{◌≡◌, refl, sym, ap, subst, ◌∙◌}
use native.Mathlib.Omega.{arith}
use Prim.Native.Nat.{ℕ, ◌*◌, ◌≤◌}
use Rattle.std.specs.Prelude.{Result, Ok, Err}
use Rattle.reached.specs.declared.pairs.TooMany.{TooMany}
use Rattle.calls.specs.Call.{Contents, gives, refuses, ◌becomes◌}
use Rattle.construct.specs.Outcome.{HasGraph}
use Rattle.evaluate.proofs.InLists.{index_in, ready_in}
use Rattle.evaluate.specs.Answered.{PairsIn, Ready}
use Rattle.evaluate.specs.GraphIn.{GraphIn}
use Rattle.evaluate.specs.Named.{pair_of}
use Rattle.graph.proofs.Fronts.{copied}
use Rattle.graph.proofs.SubjectEntries.{entries_flat, entries_say, entries_of}
use Rattle.graph.specs.Fronts.{GraphFronts, fronts_of}
use Rattle.graph.specs.declared.Size.{Size}
use Rattle.index.specs.Subjects.{BySubject}
use Rattle.meaning.specs.Limits.{index_length, index_width, max_pairs, max_parts, node_list_length, node_width, pair_width, triple_list_length, triple_width}
use Rattle.meaning.specs.Pack.{Text}
use Rattle.meaning.specs.declared.refusal.Refusal.{Refusal}
use Rattle.meaning.specs.declared.refusal.Refusal.TheVariants.{TooManyPairs}
use Rattle.pair_list.proofs.Publishing.{flat_length}
use Rattle.pair_list.specs.Written.{CanCopy, PairsFit, with_pairs}
use Rattle.pairs.specs.Answer.{before_12, too_many}
use Rattle.pairs.specs.Inner.{Comes, ListRoom}
use Rattle.prepare.proofs.RefusedOrGraph.{as_readied, as_refused, same_refusal}
use Rattle.prepare.specs.Prepared.{Prepares, ResolvedIf}
use Rattle.prepare.specs.declared.Prepared.{Prepared}
use Rattle.sets.specs.Buffers.{overlaid}

-- ---- 2 to 11, or a graph in the call's own lists

module _ {pack query : Text} (tree : List ℕ) (points links marks : Contents) where
  pub refused : {nodes triples index pairs : List ℕ} {e : Refusal} → Prepares pack query tree (Err e) points links marks
      → Comes pack query (Err e) (nodes becomes nodes) (triples becomes triples) (index becomes index) (pairs becomes pairs)
  refused c = refuses (before_12 (same_refusal (as_refused tree points links marks c).0)) (refl, (refl, (refl, (refl, tt))))

  module _ {p : Prepared} (c : Prepares pack query tree (Ok p) points links marks) where
    pub ready : {wanted : List ℕ} → node_list_length ≤ length points.after → triple_list_length ≤ length links.after
        → ResolvedIf pack query tree (Ok p) points.after wanted → max_parts ≤ length wanted
        → Ready pack query tree p.parts wanted points.after p.size.nodes links.after p.size.triples
    ready a b r l = let (fs, R, w) = as_readied tree points links marks c in ready_in R.graph points links marks w a b R.held R.room r l

    pub indexed : node_list_length ≤ length points.after → triple_list_length ≤ length links.after → index_length ≤ length marks.after
        → BySubject links.after p.size.nodes p.size.triples marks.after
    indexed a b l = let (fs, R, w) = as_readied tree points links marks c in index_in R.graph points links marks w a b l

-- ---- 12, or the pairs

module _ {pack query : Text} {tree : List ℕ} {parts : ℕ} {wanted points links : List ℕ} (g : Size) (r : Ready pack query tree parts wanted points g.nodes links g.triples)
    (x : Result ℕ TooMany) (found : List ℕ) (p : PairsIn pack query points g.nodes links g.triples x found) where
  abbrev graph : GraphIn pack r.graph.of points g.nodes links g.triples
  graph = r.graph.graph

  pub over : {nodes triples index pairs : List ℕ} {t : TooMany} → x ≡ Err t
      → Comes pack query (Err TooManyPairs) (nodes becomes nodes) (triples becomes triples) (index becomes index) (pairs becomes pairs)
  over e =
      let t = subst (λ y. PairsIn pack query points g.nodes links g.triples y found) e p r.graph.of graph r.held.expression r.held.query in
      refuses (too_many r.held.expression r.held.query r.graph.of graph.is graph.small graph.obeyed t refl) (refl, (refl, (refl, (refl, tt))))

  module _ {k : ℕ} (e : x ≡ Ok k) (l : max_pairs ≤ length found) (marks : List ℕ) (b : BySubject links g.nodes g.triples marks) where
    listed_in : PairsIn pack query points g.nodes links g.triples (Ok k) found
    listed_in = subst (λ y. PairsIn pack query points g.nodes links g.triples y found) e p

    -- what is written has room
    pub fits : (nodes triples index pairs : List ℕ) → ListRoom nodes triples index pairs
        → CanCopy (g.nodes * node_width) points nodes × CanCopy (g.triples * triple_width) links triples × CanCopy (g.nodes * index_width) marks index × PairsFit k found pairs
    fits nodes triples index pairs room =
        let n = graph.listed.few_nodes in
        let t = graph.listed.few_triples in
        let few = listed_in.0 in (
          (omega (arith, graph.node_room), omega (arith, room.0)),
          (omega (arith, graph.triple_room), omega (arith, room.1.0)),
          (b.long, omega (arith, room.1.1.0)),
          (omega arith, omega (arith, room.1.1.1.0), listed_in.1),
        )

    -- the graph and its index
    abbrev fronts : GraphFronts r.graph.of g.nodes g.triples (fronts_of g.nodes points g.triples links marks)
    fronts = record {
      nodes = _;
      triples = _;
      listed = graph.listed;
      entries = entries_of g.nodes marks;
      indexed = entries_say links graph.listed b;
      fronts_are = λ i. take (g.nodes * node_width) points ∷ take (g.triples * triple_width) links ∷ entries_flat g.nodes marks b.long i ∷ [];
    }

    pub listed : (nodes triples index pairs : List ℕ) {nodes' triples' index' pairs' : List ℕ} → nodes' ≡ overlaid (g.nodes * node_width) points nodes → triples' ≡ overlaid (g.triples * triple_width) links triples
        → index' ≡ overlaid (g.nodes * index_width) marks index → pairs' ≡ with_pairs k found pairs
        → Comes pack query (Ok (record { size = g; pairs = k })) (nodes becomes nodes') (triples becomes triples') (index becomes index') (pairs becomes pairs')
    listed nodes triples index pairs u v y w =
        let f = listed_in.2 r.graph.of graph r.held.expression r.held.query in
        let h : HasGraph pack r.graph.of g.nodes g.triples (fronts_of g.nodes points g.triples links marks) =
        record { is = graph.is; small = graph.small; obeyed = graph.obeyed; graph = fronts } in
        let (n, (t, (m, _))) = copied points links marks graph.listed b.long nodes triples index u v y in
        gives
        (fronts_of g.nodes points g.triples links marks ++ (flatten records ∷ []))
        (record {
          graph_fronts = fronts_of g.nodes points g.triples links marks;
          asked = record { expression = r.held.expression; is = r.held.query; graph = record { of = r.graph.of; has = h } };
          few = f.1;
          records = records;
          certain = f.0;
          count = sym (length-map (take k found) pair_of ∙ taken);
          fronts_are = refl;
        })
        (n, (t, (m, (w ∙ ap (λ m. flatten records ++ drop m pairs) (sym (flat_length (take k found) ∙ ap (λ m. m * pair_width) taken)), tt))))
      where
        records : List (List ℕ)
        records = map pair_of (take k found)

        taken : length (take k found) ≡ k
        taken = let h = listed_in.0 in length-take-le k found (omega arith)
