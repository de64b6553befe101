-- What the computed bounds exclude: refusal 9, and refusal 12. Assumes nothing.
use lib.Dec.{T, eqb, eqb→eq, leb, leb→le, ltb, ltb→lt}
use lib.ListN.{get_elem?, length}
use mathlib.Core.Bool.{◌&&◌}
use mathlib.Core.List.{List, [], ◌∷◌}
use mathlib.Core.Logic.{inl, inr}
use mathlib.Core.Option.{Option, none, some, some-injective}
use mathlib.Core.Path.{◌≡◌, refl, sym, ap, ◌∙◌}
use Prim.Native.Nat.{ℕ, ◌≤◌}
use Rattle.cases.proofs.Run.{is_term, small_core}
use Rattle.meaning.proofs.Lists.Members.{both, every_at}
use Rattle.meaning.proofs.Lists.Places.{placed}
use Rattle.meaning.proofs.Model.Core.{core_nodes, given_iff, node_in}
use Rattle.meaning.proofs.Model.Facts.{facts}
use Rattle.meaning.proofs.Model.Resolved.{Resolved}
use Rattle.meaning.specs.Built.{BuiltNode, core, in_core}
use Rattle.meaning.specs.Certain.{NamedPair, PairList, PairRecord, TooManyPairs}
use Rattle.meaning.specs.Core.{Fact, Node, iri_node, triple}
use Rattle.meaning.specs.Graph.{Spelling}
use Rattle.meaning.specs.Limits.{max_core_triples, max_iris, max_pairs}
use Rattle.meaning.specs.Listing.{NodesInOrder}
use Rattle.meaning.specs.Member.{◌∈◌}
use Rattle.meaning.specs.NoGraph.{CoreIri, CoreTriple, TooLarge}
use Rattle.meaning.specs.Ordered.{Over}
use Rattle.meaning.specs.Pack.{Constructor, Pack}
use Rattle.meaning.specs.Query.{Expr}
use Rattle.meaning.specs.Tests.{every, there_and}
use Rattle.spelling.specs.Iri.{IsTerm}
use Rattle.meaning.proofs.Lists.Counting.{listed_few, over_carried}

-- ---- 9

module _ (P : Pack) (wf : Resolved P) where
  few_iris : length (core_nodes P) ≤ max_iris → ¬ Over max_iris (CoreIri P)
  few_iris h o = listed_few (λ x m. m) h (over_carried (CoreIri P) (λ n. n ∈ core_nodes P) (λ t n. iri_node t.0 t.1 ≡ n) (λ t i. (iri_node t.0 t.1, node_in P wf i, refl)) one o)
    where
      one : (t u : ℕ × List ℕ) (n : Node) → iri_node t.0 t.1 ≡ n → iri_node u.0 u.1 ≡ n → t ≡ u
      one t u n e f =
          let q : ◌≡◌ {A = Node} (iri_node t.0 t.1) (iri_node u.0 u.1) = e ∙ sym f in
          let c : t.0 ≡ u.0 = cc in
          let vs : t.1 ≡ u.1 = cc in
          λ i. (c i, vs i)

  few_triples : length (facts P) ≤ max_core_triples → ¬ Over max_core_triples (CoreTriple P)
  few_triples h o =
      listed_few (λ x m. m) h (over_carried (CoreTriple P) (λ f. f ∈ facts P) (λ t f. triple t.0 t.1 t.2 ≡ f)
      (λ t g. (triple t.0 t.1 t.2, (given_iff P wf _).1 g, refl)) one o)
    where
      one : (t u : Node × ℕ × Node) (f : Fact) → triple t.0 t.1 t.2 ≡ f → triple u.0 u.1 u.2 ≡ f → t ≡ u
      one t u f d e =
          let q : ◌≡◌ {A = Fact} (triple t.0 t.1 t.2) (triple u.0 u.1 u.2) = d ∙ sym e in
          let n : t.0 ≡ u.0 = cc in
          let p : t.1 ≡ u.1 = cc in
          let m : t.2 ≡ u.2 = cc in
          λ i. (n i, p i, m i)

  pub not_large : T (small_core P) → ¬ TooLarge P
  unfolding small_core
  not_large t = let b = (both (leb (length (core_nodes P)) max_iris) (leb (length (facts P)) max_core_triples)).0 t in go (leb→le _ _ b.0) (leb→le _ _ b.1)
    where
      go : length (core_nodes P) ≤ max_iris → length (facts P) ≤ max_core_triples → TooLarge P → ⊥
      go a b (inl o) = few_iris a o
      go a b (inr o) = few_triples b o

-- ---- 12

module _ (σ : Spelling) (P : Pack) (e : Expr) (nodes : List BuiltNode) (ordered : NodesInOrder P nodes) where
  -- the numbers are the places of these two nodes
  record Ends (q : Node × Node) (numbers : List ℕ) : Type 0 where
    start : ℕ
    end : ℕ
    from_at : get_elem? nodes start ≡ some (core q.0)
    to_at : get_elem? nodes end ≡ some (core q.1)
    are : numbers ≡ start ∷ end ∷ []

  image : (q : Node × Node) → NamedPair σ P e q → (numbers : List ℕ) × PairRecord σ P e nodes numbers × Ends q numbers
  image q (i, k, c) =
      let (s, x) = placed ((ordered.members (core q.0)).1 (in_core i)) in
      let (t, y) = placed ((ordered.members (core q.1)).1 (in_core k)) in (
        s ∷ t ∷ [],
        record { start = s; end = t; from = q.0; to = q.1; from_at = x; to_at = y; certain = c; are = refl },
        record { start = s; end = t; from_at = x; to_at = y; are = refl },
      )

  core_one : (i j : ℕ) (n m : Node) → i ≡ j → get_elem? nodes i ≡ some (core n) → get_elem? nodes j ≡ some (core m) → n ≡ m
  core_one i j n m d x y = let z : ◌≡◌ {A = BuiltNode} (core n) (core m) = some-injective _ _ (sym x ∙ ap (get_elem? nodes) d ∙ y) in cc

  one : (q r : Node × Node) (numbers : List ℕ) → Ends q numbers → Ends r numbers → q ≡ r
  one q r numbers a b =
      let l = sym a.are ∙ b.are in
      let s : a.start ≡ b.start = cc in
      let t : a.end ≡ b.end = cc in
      let x = core_one a.start b.start q.0 r.0 s a.from_at b.from_at in
      let y = core_one a.end b.end q.1 r.1 t a.to_at b.to_at in
      λ i. (x i, y i)

  pub not_many : {records : List (List ℕ)} → PairList σ P e nodes records → length records ≤ max_pairs → ¬ TooManyPairs σ P e
  not_many l h o = listed_few (λ x. (l.members x).1) h (over_carried (NamedPair σ P e) (PairRecord σ P e nodes) Ends image one o)

-- ---- a term of the pack

module _ (P : Pack) (c : ℕ) (values : List ℕ) where
  pub is_term_lem : T (is_term P c values) → IsTerm P c values
  unfolding is_term
  is_term_lem = go (get_elem? P.setting.constructors c) refl
    where
      go : (o : Option Constructor) → get_elem? P.setting.constructors c ≡ o
          → T (there_and (λ (k : Constructor). eqb (length values) k.arity) o && every (λ v. ltb v (length P.setting.values)) values) → IsTerm P c values
      go none l t = absurd t
      go (some k) l t =
          let b = (both (eqb (length values) k.arity) (every (λ v. ltb v (length P.setting.values)) values)).0 t in
          record {
            constructor = k;
            listed = l;
            count = eqb→eq _ _ b.0;
            values = λ v i. ltb→lt _ _ (every_at (λ v. ltb v (length P.setting.values)) values b.1 i);
          }
