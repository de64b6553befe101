-- The pairs that the walk finds are the certain pairs. Assumes nothing.
use Rattle.std.proofs.Common.{◌≡◌, ℕ, ◌<◌, ◌≤◌, false, ltb, List, [], ◌∷◌, map, length, sym, refl, ◌∙◌, subst, arith, ltb-false, ltb-true}
use lib.ListN.{get_elem?}
use mathlib.Core.List.Memᴰ
use mathlib.Core.Option.{some}
use Rattle.answers.specs.Graph.{JoinedPair}
use Rattle.reached.specs.Keys.{pair_from, pair_key, pair_to}
use Rattle.evaluate.specs.Named.{NamedFirst, by_place, pair_of}
use Rattle.meaning.proofs.Lists.Members.{element}
use Rattle.meaning.proofs.Lists.Places.{placed, same_at}
use Rattle.meaning.proofs.Theory.Simulated.{is_core}
use Rattle.meaning.proofs.Theory.Theorem.{certain_pair}
use Rattle.meaning.specs.Built.{BuiltNode, core, in_core}
use Rattle.meaning.specs.Certain.{CertainPair, Distinct, NamedPair, PairRecord, TooManyPairs, built}
use Rattle.meaning.specs.Core.{CoreNode, Node}
use Rattle.meaning.specs.Graph.{Spelling, name_of}
use Rattle.meaning.specs.Limits.{max_nodes, max_pairs}
use Rattle.meaning.specs.Listing.{NodesInOrder}
use Rattle.meaning.specs.Member.{◌∈◌}
use Rattle.meaning.specs.NoGraph.{NoGraph}
use Rattle.meaning.specs.Ordered.{InOrder, ListOf, Over, ◌≺◌, before, empty, equal, less}
use Rattle.meaning.specs.Pack.{Pack}
use Rattle.meaning.specs.Query.{Expr, Joins}
use Rattle.meaning.specs.WellFormed.{dangling}
use Rattle.meaning.proofs.Cases.{case_on}
use Rattle.evaluate.proofs.Built.{built_listed, built_whole}
use Rattle.evaluate.proofs.Places.{joined, joined_back}
use Rattle.meaning.proofs.Lists.Counting.{listed_few, over_carried}

-- ---- pairs as numbers

pair_less : (x y : ℕ) → x < y → pair_of x ≺ pair_of y
pair_less x y l =
    case_on (ltb (pair_from x) (pair_from y))
    (λ h. less (ltb-true (pair_from x) (pair_from y) h))
    (λ h. let k = ltb-false (pair_from x) (pair_from y) h in equal (omega arith) (less (omega arith)))

pairs_rise : (xs : List ℕ) → InOrder ◌<◌ xs → InOrder ◌≺◌ (map pair_of xs)
pairs_rise [] o = empty
pairs_rise (x ∷ xs) (before f o) =
    before (λ y m. let r = Memᴰ.of_map pair_of xs m in subst (λ z. pair_of x ≺ z) r.2 (pair_less x r.0 (f r.0 r.1))) (pairs_rise xs o)

first_of : (x s e : ℕ) → e < max_nodes → x ≡ pair_key s e → pair_from x ≡ s
first_of x s e l h = omega arith

second_of : (x s e : ℕ) → e < max_nodes → x ≡ pair_key s e → pair_to x ≡ e
second_of x s e l h = omega arith

module _ (P : Pack) (not-7 : dangling P ≡ false) (σ : Spelling) (distinct : Distinct σ P) (has : ¬ NoGraph P)
    (nodes : List BuiltNode) (ordered : NodesInOrder P nodes) (named : ℕ) (first : NamedFirst nodes named) (few : named ≤ max_nodes) (e : Expr) where
  abbrev Found : ℕ → Type 0
  Found = JoinedPair (by_place σ P nodes) e named

  core_at : (n : ℕ) (k : Node) → get_elem? nodes n ≡ some (core k) → CoreNode P k
  core_at n k h = is_core σ P ((ordered.members (core k)).0 (element nodes n (core k) h))

  -- the nodes of a pair that is found
  abbrev start_node : {x : ℕ} (f : Found x) → (k : Node) × (get_elem? nodes f.from ≡ some (core k))
  start_node f = first.core_node f.from f.from_named

  abbrev end_node : {x : ℕ} (f : Found x) → (k : Node) × (get_elem? nodes f.to ≡ some (core k))
  end_node f = first.core_node f.to f.to_named

  small : {x : ℕ} (f : Found x) → f.to < max_nodes
  small f = let h = f.to_named in omega (arith, few)

  -- it is certain
  certain : {x : ℕ} (f : Found x) → CertainPair σ P e (name_of σ (start_node f).0) (name_of σ (end_node f).0)
  certain f =
      let a = start_node f in
      let b = end_node f in
      let j = joined (built σ P) nodes (built_listed σ P nodes ordered) (built_whole σ P) e f.from f.to f.joined in
      (certain_pair P not-7 σ distinct has e a.0 b.0 (core_at f.from a.0 a.1) (core_at f.to b.0 b.1)).1
      (subst (λ c. Joins (built σ P) e (core a.0) c) (same_at nodes f.to j.to_at b.1)
      (subst (λ c. Joins (built σ P) e c j.to) (same_at nodes f.from j.from_at a.1) j.holds))

  recorded : (x : ℕ) → Found x → PairRecord σ P e nodes (pair_of x)
  recorded x f = record {
    start = f.from;
    end = f.to;
    from = (start_node f).0;
    to = (end_node f).0;
    from_at = (start_node f).1;
    to_at = (end_node f).1;
    certain = certain f;
    are = λ i. first_of x f.from f.to (small f) f.number i ∷ second_of x f.from f.to (small f) f.number i ∷ [];
  }

  -- a certain pair of two places is found
  found : (s t : ℕ) (n m : Node) → get_elem? nodes s ≡ some (core n) → get_elem? nodes t ≡ some (core m) → CertainPair σ P e (name_of σ n) (name_of σ m)
      → Found (pair_key s t)
  found s t n m x y c = record {
    from = s;
    to = t;
    from_named = first.named_place s n x;
    to_named = first.named_place t m y;
    joined = joined_back (built σ P) nodes (built_listed σ P nodes ordered) (built_whole σ P) e s t (core n) (core m) x y
        ((certain_pair P not-7 σ distinct has e n m (core_at s n x) (core_at t m y)).0 c);
    number = refl;
  }

  -- the list of pairs
  pub pairs_are : (xs : List ℕ) → ListOf ◌<◌ Found xs → ListOf ◌≺◌ (PairRecord σ P e nodes) (map pair_of xs)
  pairs_are xs l = record { ascending = pairs_rise xs l.ascending; members = λ r. (forth r, back r) }
    where
      forth : (r : List ℕ) → r ∈ map pair_of xs → PairRecord σ P e nodes r
      forth r m = let q = Memᴰ.of_map pair_of xs m in subst (PairRecord σ P e nodes) q.2 (recorded q.0 ((l.members q.0).0 q.1))

      back : (r : List ℕ) → PairRecord σ P e nodes r → r ∈ map pair_of xs
      back r p =
          let x = pair_key p.start p.end in
          let small : p.end < max_nodes = (let h = first.named_place p.end p.to p.to_at in omega (arith, few)) in
          let m = Memᴰ.map pair_of ((l.members x).1 (found p.start p.end p.from p.to p.from_at p.to_at p.certain)) in
          let q : pair_of x ≡ r = (λ i. first_of x p.start p.end small refl i ∷ second_of x p.start p.end small refl i ∷ []) ∙ sym p.are in
          subst (λ z. z ∈ map pair_of xs) q m

  -- a pair's number is the number of these two nodes
  record Numbers (x : ℕ) (q : Node × Node) : Type 0 where
    start : ℕ
    end : ℕ
    small : end < max_nodes
    from_at : get_elem? nodes start ≡ some (core q.0)
    to_at : get_elem? nodes end ≡ some (core q.1)
    is : x ≡ pair_key start end

  -- 12: too many found are too many certain pairs
  pub too_many : Over max_pairs Found → TooManyPairs σ P e
  too_many = over_carried Found (NamedPair σ P e) Numbers image one
    where
      image : (x : ℕ) → Found x → (q : Node × Node) × NamedPair σ P e q × Numbers x q
      image x f =
          let a = start_node f in
          let b = end_node f in (
            (a.0, b.0),
            (core_at f.from a.0 a.1, core_at f.to b.0 b.1, certain f),
            record { start = f.from; end = f.to; small = small f; from_at = a.1; to_at = b.1; is = f.number },
          )

      one : (x y : ℕ) (q : Node × Node) → Numbers x q → Numbers y q → x ≡ y
      one x y q r s =
          let a = (built_listed σ P nodes ordered).once (core q.0) r.start s.start r.from_at s.from_at in
          let b = (built_listed σ P nodes ordered).once (core q.1) r.end s.end r.to_at s.to_at in
          omega (arith, r.is, s.is)

  -- and no more than are listed
  pub not_too_many : (xs : List ℕ) → ListOf ◌<◌ Found xs → length xs ≤ max_pairs → ¬ TooManyPairs σ P e
  not_too_many xs l h o = listed_few (λ x. (l.members x).1) h (over_carried (NamedPair σ P e) Found (λ q x. Numbers x q) image one o)
    where
      image : (q : Node × Node) → NamedPair σ P e q → (x : ℕ) × Found x × Numbers x q
      image q (a, b, c) =
          let (s, x) = placed ((ordered.members (core q.0)).1 (in_core a)) in
          let (t, y) = placed ((ordered.members (core q.1)).1 (in_core b)) in (
            pair_key s t,
            found s t q.0 q.1 x y c,
            record { start = s; end = t; small = (let h = first.named_place t q.1 y in omega (arith, few)); from_at = x; to_at = y; is = refl },
          )

      one : (q p : Node × Node) (x : ℕ) → Numbers x q → Numbers x p → q ≡ p
      one (a, b) (c, d) x r s =
          let u : r.start ≡ s.start = (let k = r.small in let l = s.small in omega (arith, r.is, s.is)) in
          let v : r.end ≡ s.end = (let k = r.small in let l = s.small in omega (arith, r.is, s.is)) in
          let f : core a ≡ core c = same_at nodes s.start (subst (λ i. get_elem? nodes i ≡ some (core a)) u r.from_at) s.from_at in
          let g : core b ≡ core d = same_at nodes s.end (subst (λ i. get_elem? nodes i ≡ some (core b)) v r.to_at) s.to_at in
          let f' : a ≡ c = cc in
          let g' : b ≡ d = cc in
          λ i. (f' i, g' i)
