-- The pairs that are listed are those of named nodes that the query joins in every finite graph that obeys the pack, whatever
-- their names (`every-name`): no named node outside the built graph is in such a pair. Assumes nothing.
use lib.Dec.{T}
use lib.ListN.{get_elem?}
use mathlib.Core.List.{List, [], ◌∷◌}
use mathlib.Core.Logic.{◌↔◌}
use mathlib.Core.Option.{some}
use mathlib.Core.Path.{◌≡◌, refl, sym, subst}
use Prim.Native.Nat.{ℕ}
use Rattle.pack.proofs.Accepted.{well_formed_lem}
use Rattle.evaluate.proofs.InLists.{formed, some_graph}
use Rattle.meaning.proofs.Lists.Places.{placed}
use Rattle.meaning.proofs.Theory.Theorem.{certain_pairs_all}
use Rattle.meaning.specs.Built.{BuiltNode, core, in_core}
use Rattle.meaning.specs.Certain.{CertainPair, PairRecord}
use Rattle.meaning.specs.Core.{CoreNode, Node}
use Rattle.meaning.specs.Graph.{Name, is_named, name_of}
use Rattle.meaning.specs.Member.{◌∈◌}
use Rattle.meaning.specs.Pack.{Pack, Text}
use Rattle.meaning.specs.Query.{Expr}
use Rattle.pairs.specs.Answer.{GivesPairs}
use Rattle.pairs.specs.declared.PairAnswer.{PairAnswer}
use Rattle.spelling.proofs.CoreTerms.{plain_distinct}
use Rattle.spelling.specs.Iri.{plain}

module _ {pack query : Text} {r : PairAnswer} {fronts : List (List ℕ)} (G : GivesPairs pack query r fronts) where
  abbrev P : Pack
  P = G.asked.graph.of

  abbrev e : Expr
  e = G.asked.expression

  abbrev nodes : List BuiltNode
  nodes = G.asked.graph.has.graph.listed.lists.in_order

  -- A pair of these names is listed.
  pub record IsListed (n m : Name) : Type 0 where
    pub numbers : List ℕ
    pub listed : numbers ∈ G.records
    pub pair : PairRecord (plain P) P e nodes numbers
    pub from_name : name_of (plain P) pair.from ≡ n
    pub to_name : name_of (plain P) pair.to ≡ m

  -- the place of a core node
  place_of : (k : Node) → CoreNode P k → (i : ℕ) × (get_elem? nodes i ≡ some (core k))
  place_of k c = placed ((G.asked.graph.has.graph.listed.lists.ordered.members (core k)).1 (in_core c))

  listed_pair : (n m : Name) → T (is_named n) → T (is_named m) → CertainPair (plain P) P e n m → IsListed n m
  listed_pair n m a b c =
      let f = well_formed_lem pack P (formed pack G.asked.graph.has.is) in
      let h = G.asked.graph.has in
      let (k, l, (x, y), (u, v), j) = certain_pairs_all P f.named (plain P) (plain_distinct P f.distinct f.prefix_free f.named) (some_graph pack h.is h.obeyed) e n m a b c in
      let (i, p) = place_of k x in
      let (o, q) = place_of l y in
      let R : PairRecord (plain P) P e nodes (i ∷ o ∷ []) = record {
        start = i;
        end = o;
        from = k;
        to = l;
        from_at = p;
        to_at = q;
        certain = subst (λ (z : Name × Name). CertainPair (plain P) P e z.0 z.1) (λ t. (u t, v t)) c;
        are = refl;
      } in
      record { numbers = i ∷ o ∷ []; listed = (G.certain.members (i ∷ o ∷ [])).1 R; pair = R; from_name = sym u; to_name = sym v }

  -- "exactly the pairs of named nodes that the query joins in every such graph"
  pub every_name : (n m : Name) → T (is_named n) → T (is_named m) → CertainPair (plain P) P e n m ↔ IsListed n m
  every_name n m a b = (listed_pair n m a b, λ l. subst (λ (z : Name × Name). CertainPair (plain P) P e z.0 z.1) (λ t. (l.from_name t, l.to_name t)) l.pair.certain)
