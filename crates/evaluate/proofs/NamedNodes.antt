-- The named nodes of a listed graph: what leads to one starts at one, and there are no more than the core may have. Assumes
-- nothing.
use Rattle.std.proofs.Common.{◌≡◌, ℕ, ◌<◌, ◌≤◌, List, get_or, sym, refl, ap, subst, inl, ⊎_elim, arith}
use lib.ListN.{get_elem?}
use mathlib.Core.Option.{Option, none, some}
use native.Mathlib.Decide.{dec_lt}
use Rattle.evaluate.specs.GraphIn.{GraphIn}
use Rattle.evaluate.specs.Kinds.{FirstInvented}
use Rattle.evaluate.specs.Named.{NamedFirst}
use Rattle.evaluate.proofs.Built.{built_listed}
use Rattle.evaluate.proofs.HeldGraph.{in_order}
use Rattle.evaluate.proofs.InLists.{formed}
use Rattle.evaluate.proofs.KindOrder.{named_first}
use Rattle.graph.proofs.TripleNumbers.{edge_of}
use Rattle.index.specs.Triples.{object_at, predicate_at, subject_at}
use Rattle.meaning.proofs.Lists.Counting.{below_many, listed_few, over_carried, over_parted}
use Rattle.meaning.proofs.Lists.Members.{below, below_in, element}
use Rattle.meaning.proofs.Lists.Places.{same_at}
use Rattle.meaning.proofs.Theory.Named.{into_core}
use Rattle.meaning.proofs.Theory.Simulated.{is_core}
use Rattle.meaning.specs.Built.{BuiltEdge, BuiltNode, core, invented}
use Rattle.meaning.specs.Core.{CoreNode, Node, iri_node, literal_node}
use Rattle.meaning.specs.Limits.{max_core_nodes, max_iris, max_values}
use Rattle.meaning.specs.NoGraph.{CoreIri}
use Rattle.meaning.specs.Ordered.{Over}
use Rattle.meaning.specs.Pack.{Pack, Text}
use Rattle.pack.proofs.Accepted.{well_formed_lem}
use Rattle.pack.proofs.Unpacking.{unpacked}
use Rattle.forward.specs.Own.{Inward}
use Rattle.spelling.proofs.CoreTerms.{core_in_pack}
use Rattle.spelling.specs.Iri.{plain}

-- ---- named nodes

-- the node at a place is an IRI
abbrev IsIri : Option BuiltNode → Type 0
IsIri none = ⊥
IsIri (some (core (iri_node c vs))) = Unit {0}
IsIri (some (core (literal_node v))) = ⊥
IsIri (some (invented X)) = ⊥

is_iri : (b : Option BuiltNode) → Dec (IsIri b)
is_iri none = no (λ h. h)
is_iri (some (core (iri_node c vs))) = yes tt
is_iri (some (core (literal_node v))) = no (λ h. h)
is_iri (some (invented X)) = no (λ h. h)

module _ {pack : Text} {P : Pack} {nodes : List ℕ} {count : ℕ} {triples : List ℕ} {edges : ℕ} (g : GraphIn pack P nodes count triples edges)
    {named : ℕ} (first : FirstInvented nodes count named) where
  places : NamedFirst (in_order g) named
  places = named_first g first

  -- "An invented node gets one edge for each predicate it requires", to an invented node: what leads to a named node starts at
  -- one.
  pub named_inward : Inward triples edges named
  named_inward k l h =
      let t = edge_of triples g.listed (subject_at triples k) (predicate_at triples k) (object_at triples k) k l refl refl refl in
      let a : t.subject ≡ subject_at triples k = sym (ap (λ z. get_or z 0 0) t.are) in
      let c : t.object ≡ object_at triples k = sym (ap (λ z. get_or z 2 0) t.are) in
      let (m, e) = places.core_node t.object (omega arith) in
      let q : t.to ≡ core m = same_at (in_order g) t.object t.to_at e in
      let (n, p, _) = into_core (subst (λ b. BuiltEdge P t.from t.predicate b) q t.edge) in
      let x = places.named_place t.subject n (subst (λ b. get_elem? (in_order g) t.subject ≡ some b) p t.from_at) in
      omega arith

  core_at : (n : ℕ) (k : Node) → get_elem? (in_order g) n ≡ some (core k) → CoreNode P k
  core_at n k h = is_core (plain P) P ((g.listed.lists.ordered.members (core k)).0 (element (in_order g) n (core k) h))

  -- one place for each node
  once : (b : BuiltNode) (n m : ℕ) → get_elem? (in_order g) n ≡ some b → get_elem? (in_order g) m ≡ some b → n ≡ m
  once b n m x y = (built_listed (plain P) P (in_order g) g.listed.lists.ordered).once b n m x y

  -- the places of IRIs, and of literals
  abbrev IriPlace : ℕ → Type 0
  IriPlace n = (n < named) × IsIri (get_elem? (in_order g) n)

  abbrev OtherPlace : ℕ → Type 0
  OtherPlace n = (n < named) × (IsIri (get_elem? (in_order g) n) → ⊥)

  few_iris : Over max_iris IriPlace → ⊥
  few_iris o = g.small
      (inl (over_carried IriPlace (CoreIri P) (λ n t. get_elem? (in_order g) n ≡ some (core (iri_node t.0 t.1))) image (λ n m t x y. once (core (iri_node t.0 t.1)) n m x y) o))
    where
      image : (n : ℕ) → IriPlace n → (t : ℕ × List ℕ) × CoreIri P t × (get_elem? (in_order g) n ≡ some (core (iri_node t.0 t.1)))
      image n (l, h) = let (k, e) = places.core_node n l in go k e (subst IsIri e h)
        where
          go : (k : Node) → get_elem? (in_order g) n ≡ some (core k) → IsIri (some (core k)) → (t : ℕ × List ℕ) × CoreIri P t
              × (get_elem? (in_order g) n ≡ some (core (iri_node t.0 t.1)))
          go (iri_node c vs) e i = ((c, vs), core_at n (iri_node c vs) e, e)
          go (literal_node v) e i = absurd i

  few_others : Over max_values OtherPlace → ⊥
  few_others o = listed_few (λ v l. below_in v max_values l) (let (a, b, c) = below_many max_values in omega arith)
      (over_carried OtherPlace (λ v. v < max_values) (λ n v. get_elem? (in_order g) n ≡ some (core (literal_node v))) image (λ n m v x y. once (core (literal_node v)) n m x y) o)
    where
      value : (v : ℕ) → CoreNode P (literal_node v) → v < max_values
      value v c =
          let w = well_formed_lem pack P (formed pack g.is) in
          let a = core_in_pack P w.named c in
          let b = (unpacked pack P w.read).values.1 in
          omega arith

      image : (n : ℕ) → OtherPlace n → (v : ℕ) × (v < max_values) × (get_elem? (in_order g) n ≡ some (core (literal_node v)))
      image n (l, h) = let (k, e) = places.core_node n l in go k e (λ i. h (subst IsIri (sym e) i))
        where
          go : (k : Node) → get_elem? (in_order g) n ≡ some (core k) → (IsIri (some (core k)) → ⊥) → (v : ℕ) × (v < max_values) × (get_elem? (in_order g) n ≡ some (core (literal_node v)))
          go (iri_node c vs) e i = absurd (i tt)
          go (literal_node v) e i = (v, value v (core_at n (literal_node v) e), e)

  -- "The core has over 512 IRI nodes" is false, and there is a literal for each value at most.
  pub named_few : named ≤ max_core_nodes
  named_few = go (dec_lt max_core_nodes named)
    where
      all : max_core_nodes < named → Over max_core_nodes (λ n. n < named)
      all l = let (a, b, c) = below_many named in record { some = below named; differ = b; members = c; over = omega arith }

      go : Dec (max_core_nodes < named) → named ≤ max_core_nodes
      go (no l) = omega arith
      go (yes l) = absurd (⊎_elim few_iris few_others (over_parted (λ n. is_iri (get_elem? (in_order g) n)) max_iris max_values (all l)))
