-- What the walk answers over the lists is what holds in every finite graph that obeys the pack. Assumes nothing.
use Rattle.std.proofs.Common.{◌≡◌, ℕ, ◌<◌, ◌≤◌, Bool, true, false, T, ◌↔◌, List, map, length, take, sym, refl, subst, arith, length-take}
use mathlib.Core.Logic.Iff
use Rattle.pack.proofs.Accepted.{WellFormed, well_formed_lem}
use Rattle.states.proofs.Bounds.{query_fits}
use Rattle.states.specs.Fits.{ListsFit}
use Rattle.states.specs.Lists.{Lists}
use Rattle.states.specs.Living.{Yes}
use Rattle.answers.proofs.Graphs.{listed_joined, no_unsatisfied, over_joined, yes_satisfied}
use Rattle.reached.specs.Walked.{PairIn, PairsAre}
use Rattle.reached.specs.declared.pairs.TooMany.{TooMany}
use Rattle.std.specs.Prelude.{Err, Ok, Result}
use Rattle.answers.specs.Graph.{HeldIn, JoinedPair, NumberedGraph, WantedResolved, view}
use Rattle.reached.specs.Keys.{pair_keys}
use Rattle.evaluate.specs.Answered.{PairsIn, Ready, YesIn}
use Rattle.evaluate.specs.GraphIn.{GraphIn}
use Rattle.evaluate.specs.Kinds.{FirstInvented}
use Rattle.evaluate.specs.Named.{by_place, pair_of}
use Rattle.grammar.proofs.Agree.{one_expression}
use Rattle.grammar.specs.Grammar.{IsQuery}
use Rattle.meaning.proofs.Theory.Theorem.{certain_yes}
use Rattle.meaning.specs.Certain.{CertainYes, Distinct, PairList, TooManyPairs, built}
use Rattle.meaning.specs.Limits.{max_nodes, max_pairs}
use Rattle.meaning.specs.Member.{◌∈◌}
use Rattle.meaning.specs.Ordered.{ListOf, Over}
use Rattle.meaning.specs.Pack.{Pack, Text}
use Rattle.meaning.specs.Query.{Expr, Satisfied}
use Rattle.spelling.proofs.CoreTerms.{plain_distinct}
use Rattle.spelling.specs.Iri.{plain}
use Rattle.walk.specs.Parts.{Threaded, listed, part_of}
use Rattle.evaluate.proofs.Built.{built_listed, built_whole}
use Rattle.evaluate.proofs.CertainPairs.{not_too_many, pairs_are, too_many}
use Rattle.evaluate.proofs.HeldGraph.{graph_in_fits, held_in, in_order, node_list, right_numbers}
use Rattle.evaluate.proofs.InLists.{formed, some_graph}
use Rattle.evaluate.proofs.KindOrder.{named_first}
use Rattle.evaluate.proofs.Places.{satisfied}

module _ {pack query : Text} {tree : List ℕ} {parts : ℕ} {wanted nodes : List ℕ} {count : ℕ} {triples : List ℕ} {edges : ℕ}
    (ready : Ready pack query tree parts wanted nodes count triples edges) (next : List ℕ) (threaded : Threaded (part_of tree) (listed next) parts) where
  abbrev L : Lists
  L = record { nodes = count; edges = edges; parts = parts; triples = triples; tree = tree; next = next; wanted = wanted }

  -- the lists are within their bounds
  pub lists_fit : parts ≤ length next → ListsFit L
  lists_fit a = record { graph = graph_in_fits ready.graph.graph; query = query_fits ready.held threaded ready.room a ready.wanted_room }

  module _ {P : Pack} (g : GraphIn pack P nodes count triples edges) where
    abbrev G : NumberedGraph
    G = by_place (plain P) P (in_order g)

    well : WellFormed pack P
    well = well_formed_lem pack P (formed pack g.is)

    distinct : Distinct (plain P) P
    distinct = plain_distinct P well.distinct well.prefix_free well.named

    in_lists : HeldIn G L
    in_lists = held_in g L refl refl refl

    numbers : WantedResolved G query L
    numbers = right_numbers g L refl refl refl (ready.resolved P (formed pack g.is) (in_order g) (node_list g))

    -- the query's expression is the one that the tree holds
    the_expression : (e : Expr) → IsQuery query e → ready.held.expression ≡ e
    the_expression e q = one_expression query ready.held.expression e ready.held.query q

    -- satisfied by numbers exactly if certain
    certain : (e : Expr) → Satisfied (view G) e ↔ CertainYes (plain P) P e
    certain e =
        Iff.trans (satisfied (built (plain P) P) (in_order g) (built_listed (plain P) P (in_order g) g.listed.lists.ordered) (built_whole (plain P) P) e)
        (Iff.symm (certain_yes P well.named (plain P) distinct (some_graph pack g.is g.obeyed) e))

    told : (r : Bool) → Yes r L → T r ↔ Satisfied (view G) ready.held.expression
    told true y = ((λ _. yes_satisfied G query L ready.held threaded in_lists numbers y), (λ _. tt))
    told false y = ((λ z. absurd z), (λ s. no_unsatisfied G query L ready.held threaded in_lists numbers y s))

  pub yes_answer : (r : Bool) → Yes r L → YesIn pack query nodes count triples edges r
  yes_answer r y P g e q = Iff.trans (told g r y) (subst (λ x. Satisfied (view (G g)) x ↔ CertainYes (plain P) P e) (sym (the_expression g e q)) (certain g e))

  module _ {named : ℕ} (first : FirstInvented nodes count named) where
    few_named : {P : Pack} → GraphIn pack P nodes count triples edges → named ≤ max_nodes
    few_named g = omega (arith, first.within, g.listed.few_nodes)

    -- the numbers that are listed are those of pairs
    pairs_small : {xs : List ℕ} → ListOf ◌<◌ (PairIn L named) xs → (x : ℕ) → x ∈ xs → x < pair_keys
    pairs_small l x i = let p = (l.members x).0 i in let g = ready.graph.graph in omega (arith, p.from_named, p.to_named, p.number, first.within, g.listed.few_nodes)

    pub pairs_answer : (r : Result ℕ TooMany) (found : List ℕ) → PairsAre r L named found → PairsIn pack query nodes count triples edges r found
    pairs_answer (Ok k) found (few, l) = (few, pairs_small l, answer)
      where
        answer : (P : Pack) (g : GraphIn pack P nodes count triples edges) (e : Expr) → IsQuery query e
            → PairList (plain P) P e (in_order g) (map pair_of (take k found)) × (¬ TooManyPairs (plain P) P e)
        answer P g e q = (
          pairs_are P (well g).named (plain P) (distinct g) (some_graph pack g.is g.obeyed) (in_order g) g.listed.lists.ordered named (named_first g first) (few_named g) e (take k found) j,
          not_too_many P (well g).named (plain P) (distinct g) (some_graph pack g.is g.obeyed)
              (in_order g) g.listed.lists.ordered named (named_first g first) (few_named g) e (take k found) j
              (let h = length-take k found in omega arith),
        )
          where
            j : ListOf ◌<◌ (JoinedPair (G g) e named) (take k found)
            j = subst (λ x. ListOf ◌<◌ (JoinedPair (G g) x named) (take k found)) (the_expression g e q)
                (listed_joined (G g) query L ready.held threaded (in_lists g) (numbers g) l)
    pairs_answer (Err e) found o = λ P g e q.
        too_many P (well g).named (plain P) (distinct g) (some_graph pack g.is g.obeyed) (in_order g) g.listed.lists.ordered named (named_first g first) (few_named g) e
        (subst (λ x. Over max_pairs (JoinedPair (G g) x named)) (the_expression g e q) (over_joined (G g) query L ready.held threaded (in_lists g) (numbers g) o))
