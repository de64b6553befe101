-- The records of the IRIs' edges and then those of the marked sets' are the triple list. Assumes nothing.
use borrow.Author.Tests.{lt-leb, ne_eqb}
use lib.Dec.{eqb, leb}
use lib.ListN.{get_or, get_elem?, length}
use mathlib.Core.List.{List, [], ◌∷◌, ◌++◌, map, flatten}
use mathlib.Core.Logic.{◌↔◌, ◌⊎◌, inl, inr}
use mathlib.Core.Option.{Option, some, none-ne-some, some-injective}
use mathlib.Core.Path.{◌≡◌, refl, sym, ap, subst, subst₂, ◌∙◌}
use native.Mathlib.Omega.{arith}
use Prim.Native.Nat.{ℕ, zero, suc, ◌+◌, ◌*◌, ◌%◌, ◌<◌, ◌≤◌}
use Rattle.spread.specs.Keys.{key_of, object_of, origin_at, origin_of, predicate_of, subject_of, triple_key}
use Rattle.core_lists.specs.Input.{Input}
use Rattle.invent.specs.Invent.{Upto, set_at}
use Rattle.node_list.specs.Records.{SetPlaces, node_set}
use Rattle.triple_list.specs.Triples.{EdgeFrom, IriEdge, RecordsListed, SetEdge, TriplesListed, gotten, present}
use Rattle.invent.proofs.Invented.{known_predicate, leads_to, no_core_edge, no_origin, number_back, set_number, small_set}
use Rattle.core_lists.proofs.Keys.{iri_key_lt, key_one}
use Rattle.triple_list.proofs.EdgeLaws.{by_subject}
use Rattle.triple_list.proofs.ListedLaws.{listed_join}
use Rattle.node_list.proofs.Order.{all_nodes, in_order, nodes_in_order, set_at_lem, set_of, set_node}
use Rattle.core_lists.proofs.Places.{edge_at, edge_key, masked, masked_targets, node_at, place_of, place_small, predicate_small, requires_masked, targets_masked, well}
use Rattle.core_lists.proofs.ResolvedNodes.{proper, subject_iri}
use Rattle.core_lists.specs.Origin.{HasOrigin}
use Rattle.meaning.proofs.Lists.Bits.{bit_bound}
use Rattle.meaning.proofs.Lists.Members.{element}
use Rattle.meaning.proofs.Lists.Ordered.{by_key, list_unique}
use Rattle.meaning.proofs.Lists.Places.{entry_is, inside, placed, ∈_at, ∈_index}
use Rattle.meaning.proofs.Model.Listing.{placed_only}
use Rattle.meaning.specs.Built.{BuiltEdge, BuiltNode, Gets, IsBuilt, PTargets, Requires, arises, core, from_core, in_core, invented, made}
use Rattle.meaning.specs.Core.{CoreEdge, CoreNode, Node, as_object, as_subject, iri_node, literal_node}
use Rattle.meaning.specs.Limits.{first_literal, literal_weight, max_predicates, max_triples, place_room, type_sets}
use Rattle.meaning.specs.Listing.{NodesInOrder, TripleRecord, node_key}
use Rattle.meaning.specs.Member.{◌∈◌}
use Rattle.meaning.specs.NoGraph.{MixedKinds, literal_typed}
use Rattle.meaning.specs.Ordered.{ListOf, ◌≺◌}
use Rattle.meaning.specs.Pack.{Pack}
use Rattle.meaning.specs.Tables.{set_of_mask}
use Rattle.meaning.specs.TypeSet.{TypeSet}
use Rattle.node_list.specs.NodeList.{InventedNodes}
use Rattle.sets.proofs.Rank.{rank_above, rank_le}
use Rattle.sets.specs.Ordered.{rank_of}

-- the element at a place of the first of two lists
at_front : {A : Type 0} (xs ys : List A) (i : ℕ) (x : A) → get_elem? xs i ≡ some x → get_elem? (xs ++ ys) i ≡ some x
at_front [] ys i x e = absurd (none-ne-some x e)
at_front (z ∷ xs) ys zero x e = e
at_front (z ∷ xs) ys (suc i) x e = at_front xs ys i x e

at_map : {A B : Type 0} (f : A → B) (xs : List A) (i : ℕ) (x : A) → get_elem? xs i ≡ some x → get_elem? (map f xs) i ≡ some (f x)
at_map f [] i x e = absurd (none-ne-some x e)
at_map {A} {B} f (z ∷ xs) zero x e = ap {B = Option B} (λ y. some (f y)) (some-injective z x e)
at_map f (z ∷ xs) (suc i) x e = at_map f xs i x e

-- a place of the keys is one of the nodes
at_key : (ns : List Node) (i k : ℕ) → get_elem? (map key_of ns) i ≡ some k → (n : Node) × (get_elem? ns i ≡ some n) × (key_of n ≡ k)
at_key [] i k e = absurd (none-ne-some k e)
at_key (n ∷ ns) zero k e = (n, refl, some-injective (key_of n) k e)
at_key (n ∷ ns) (suc i) k e = at_key ns i k e

core_not_invented : {n : Node} {X : TypeSet} → core n ≡ invented X → ⊥
core_not_invented e = let z : ◌≡◌ {A = ℕ} 0 1 = cc in omega arith

-- a set of types as a mask
low_set : (k : ℕ) → 0 < k → k < type_sets → set_of_mask k ≡ node_set k
unfolding set_of_mask node_set
low_set k s h =
    let l : leb literal_weight k ≡ eqb k 0 = lt-leb literal_weight k (omega arith) ∙ sym (ne_eqb k 0 (λ z. omega arith)) in
    let m : k % literal_weight ≡ k = omega arith in
    λ i. record { literal = l i; mask = m i }

-- a set's mask from its number
number_mask : (X : TypeSet) → X.mask < type_sets → set_number X % type_sets ≡ X.mask
unfolding set_at
number_mask X h = ap (λ (Y : TypeSet). Y.mask) (number_back X h).1

parts : (s p o : ℕ) → p < max_predicates → o < place_room → (origin_of (triple_key s p o) ≡ origin_at s p) × (o ≡ object_of (triple_key s p o))
unfolding triple_key
parts s p o h l = (omega arith, omega arith)

in_core_lem : {P : Pack} {n : Node} → IsBuilt P (core n) → CoreNode P n
in_core_lem (in_core c) = c

module _ {P : Pack} {shapes : List (List ℕ)} {nodes triples masks sets : List ℕ} (I : Input P shapes nodes triples masks) (listed : InventedNodes P sets) (clean : ¬ MixedKinds P)
    (bs : List BuiltNode) (ordered : NodesInOrder P bs) where
  -- ---- the places of core nodes

  same_list : in_order I listed clean ≡ bs
  same_list = list_unique (by_key node_key) (nodes_in_order I listed clean) ordered

  core_at : (n : Node) (i : ℕ) → CoreNode P n → get_elem? nodes i ≡ some (key_of n) → get_elem? bs i ≡ some (core n)
  unfolding in_order
  core_at n i c e =
      let r = at_key (all_nodes I).list i (key_of n) (subst (λ l. get_elem? l i ≡ some (key_of n)) (sym (all_nodes I).keys) e) in
      let m = (all_nodes I).in_core r.0 (element (all_nodes I).list i r.0 r.1) in
      let q = key_one P I.bounded r.0 n (proper P (well I) m) (proper P (well I) c) r.2 in
      subst (λ l. get_elem? l i ≡ some (core n)) same_list
      (at_front (map core (all_nodes I).list) (map set_node sets) i (core n)
      (at_map core (all_nodes I).list i n (subst (λ x. get_elem? (all_nodes I).list i ≡ some x) q r.1)))

  one_place : (b : BuiltNode) (i j : ℕ) → get_elem? bs i ≡ some b → get_elem? bs j ≡ some b → i ≡ j
  one_place b i j e f = placed_only bs ordered.ascending i b e ∙ sym (placed_only bs ordered.ascending j b f)

  one_node : (b c : BuiltNode) (i : ℕ) → get_elem? bs i ≡ some b → get_elem? bs i ≡ some c → b ≡ c
  one_node b c i e f = some-injective b c (sym e ∙ f)

  built_at : (b : BuiltNode) (i : ℕ) → get_elem? bs i ≡ some b → IsBuilt P b
  built_at b i e = (ordered.members b).0 (element bs i b e)

  at_built : (b : BuiltNode) → IsBuilt P b → (i : ℕ) × (get_elem? bs i ≡ some b)
  at_built b h = placed ((ordered.members b).1 h)

  key_at : (n : Node) (i : ℕ) → CoreNode P n → get_elem? bs i ≡ some (core n) → get_elem? nodes i ≡ some (key_of n)
  key_at n i c e =
      let s = place_of I c in
      let q = one_place (core n) s.0 i (core_at n s.0 c s.1) e in
      subst (λ j. get_elem? nodes j ≡ some (key_of n)) q s.1

  -- an IRI stands before the literals
  iri_below : (c : ℕ) (vs : List ℕ) (i : ℕ) → CoreNode P (iri_node c vs) → get_elem? nodes i ≡ some (key_of (iri_node c vs)) → i < rank_of first_literal nodes
  iri_below c vs i k e =
      rank_above first_literal nodes i (subst (λ x. x < first_literal) (sym (entry_is nodes i (key_of (iri_node c vs)) 0 e)) (iri_key_lt P I.bounded c vs (proper P (well I) k)))
      I.held.node_keys_are.ascending (inside nodes i (key_of (iri_node c vs)) e)

  -- an invented node, by its mask
  there_at : (i : ℕ) → i < length sets → get_elem? bs (length nodes + i) ≡ some (set_node (get_or sets i 0))
  there_at i h = subst (λ l. get_elem? l (length nodes + i) ≡ some (set_node (get_or sets i 0))) same_list (set_at_lem I listed clean i h)

  in_sets : {X : TypeSet} → IsBuilt P (invented X) → X.mask ∈ sets
  in_sets {X} i = (listed.members X.mask).1 (subst (λ Y. IsBuilt P (invented Y)) (sym (set_of I clean i)) i)

  -- its edges' subject and mask
  record Placed (Y : TypeSet) (s : ℕ) : Type 0 where
    at : ℕ
    inside : at < length sets
    types : get_or sets at 0 ≡ Y.mask
    node : length nodes + at ≡ s

  placed_at : (Y : TypeSet) (s : ℕ) → get_elem? bs s ≡ some (invented Y) → Placed Y s
  placed_at Y s e =
      let b = built_at (invented Y) s e in
      let (i, h, q) = ∈_index (in_sets b) in
      let y : set_node (get_or sets i 0) ≡ invented Y = ap set_node q ∙ ap invented (set_of I clean b) in
      record { at = i; inside = h; types = q; node = one_place (invented Y) (length nodes + i) s (subst (λ x. get_elem? bs (length nodes + i) ≡ some x) y (there_at i h)) e }

  module _ (places : List ℕ) (numbered : SetPlaces sets (length nodes) places) where
    abbrev SetsEdge : Pack → List ℕ → Type 0
    SetsEdge Q = Upto (SetEdge triples sets places (length nodes) Q) (length sets)

    -- the number of an invented node
    set_number_lem : (X : TypeSet) (i : ℕ) → get_elem? bs i ≡ some (invented X) → get_or places X.mask 0 ≡ i
    set_number_lem X i e = let a = placed_at X i e in ap (λ k. get_or places k 0) (sym a.types) ∙ numbered.are a.at a.inside ∙ a.node

    set_there : (j : ℕ) → IsBuilt P (invented (set_at j)) → get_elem? bs (get_or places (j % type_sets) 0) ≡ some (invented (set_at j))
    unfolding set_at
    set_there j b =
        let s = at_built (invented (set_at j)) b in
        subst (λ i. get_elem? bs i ≡ some (invented (set_at j))) (sym (set_number_lem (set_at j) s.0 s.1)) s.1

    -- ---- a record's edge is built

    core_record : (s p k : ℕ) (x : List ℕ) → p < max_predicates → k ∈ triples → origin_of k ≡ origin_at s p → x ≡ s ∷ p ∷ object_of k ∷ [] → TripleRecord P bs x
    core_record s p k x h m o q =
        let e = edge_at I k m in
        let es : subject_of k ≡ s = omega arith in
        let ep : predicate_of k ≡ p = omega arith in
        record {
          subject = s;
          predicate = p;
          object = object_of k;
          from = core e.from;
          to = core e.to;
          from_at = core_at e.from s (as_subject e.edge) (subst (λ i. get_elem? nodes i ≡ some (key_of e.from)) es e.from_at);
          to_at = core_at e.to (object_of k) (as_object e.edge) e.to_at;
          edge = from_core (subst (λ r. CoreEdge P e.from r e.to) ep e.edge);
          are = q;
        }

    gets_record : (b : BuiltNode) (s p j : ℕ) (x : List ℕ) → IsBuilt P b → get_elem? bs s ≡ some b → Gets P b p (set_at j)
        → x ≡ s ∷ p ∷ get_or places (j % type_sets) 0 ∷ [] → TripleRecord P bs x
    gets_record b s p j x i e g q = record {
      subject = s;
      predicate = p;
      object = get_or places (j % type_sets) 0;
      from = b;
      to = invented (set_at j);
      from_at = e;
      to_at = set_there j (arises i g);
      edge = made i g;
      are = q;
    }

    iri_record : (x : List ℕ) → IriEdge nodes triples masks places P x → TripleRecord P bs x
    iri_record x u = go u.holds.holds
      where
        s : ℕ
        s = u.at

        p : ℕ
        p = u.holds.at

        go : EdgeFrom P triples places s (get_or masks s 0) p x → TripleRecord P bs x
        go (present k m o q) = core_record s p k x u.holds.below m o q
        go (gotten j l q) =
            let h : s < length nodes = let b = u.below in let r = rank_le first_literal nodes in omega arith in
            let n = node_at I s h in
            let m = masked I n.node s n.in_core n.is in
            gets_record (core n.node) s p j x (in_core n.in_core) (core_at n.node s n.in_core n.is)
            (record { needs = (requires_masked P m p).0 l.leads.needs; missing = no_core_edge I n.node s p n.is l.none; targets = targets_masked P m p l.leads.targets }) q

    set_record : (x : List ℕ) → SetsEdge P x → TripleRecord P bs x
    unfolding node_set
    set_record x u = go u.holds.edge.holds
      where
        s : ℕ
        s = length nodes + u.at

        k : ℕ
        k = get_or sets u.at 0

        p : ℕ
        p = u.holds.edge.at

        go : EdgeFrom P triples places s k p x → TripleRecord P bs x
        go (present e m o q) = core_record s p e x u.holds.edge.below m o q
        go (gotten j l q) =
            let b = (listed.members k).0 (∈_at sets u.at u.below) in
            let e = low_set k u.holds.some_type (small_set I b) in
            gets_record (set_node k) s p j x b (there_at u.at u.below)
            (record { needs = subst (λ X. Requires P (invented X) p) e l.leads.needs; missing = λ z. z; targets = subst (λ X. PTargets P (invented X) p (set_at j)) e l.leads.targets }) q

    -- ---- a built edge has its record

    iri_subject : (n : Node) → CoreNode P n → (s p : ℕ) (x : List ℕ) → get_elem? bs s ≡ some (core n) → p < max_predicates
        → ((v : ℕ) → n ≡ literal_node v → ⊥) → EdgeFrom P triples places s (get_or masks s 0) p x → IriEdge nodes triples masks places P x
    iri_subject (literal_node v) c s p x e h k f = absurd (k v refl)
    iri_subject (iri_node d vs) c s p x e h k f = record { at = s; below = iri_below d vs s c (key_at (iri_node d vs) s c e); holds = record { at = p; below = h; holds = f } }

    -- an edge's object
    target : (X : TypeSet) (o : ℕ) → get_elem? bs o ≡ some (invented X) → get_or places (set_number X % type_sets) 0 ≡ o
    target X o f = ap (λ k. get_or places k 0) (number_mask X (small_set I (built_at (invented X) o f))) ∙ set_number_lem X o f

    iri_made : (n : Node) → CoreNode P n → (s p o : ℕ) (X : TypeSet) → get_elem? bs s ≡ some (core n) → get_elem? bs o ≡ some (invented X) → Gets P (core n) p X
        → IriEdge nodes triples masks places P (s ∷ p ∷ o ∷ [])
    iri_made n c s p o X e f g =
        let l = leads_to I g (built_at (invented X) o f) in
        let hp = known_predicate I g in
        let at = key_at n s c e in
        let m = masked I n s c at in
        iri_subject n c s p (s ∷ p ∷ o ∷ []) e hp
        (λ v q. clean (literal_typed v g.needs.member (subst (λ k. Requires P (core k) p) q g.needs).has))
        (gotten (set_number X)
        (record { none = no_origin I n s p c hp at g.missing; leads = record { small = l.small; needs = (requires_masked P m p).1 l.needs; targets = masked_targets P m p l.targets } })
        (ap (λ (z : ℕ). s ∷ p ∷ z ∷ []) (sym (target X o f))))

    set_made : (Y : TypeSet) → (s p o : ℕ) (X : TypeSet) → get_elem? bs s ≡ some (invented Y) → get_elem? bs o ≡ some (invented X) → Gets P (invented Y) p X
        → SetsEdge P (s ∷ p ∷ o ∷ [])
    set_made Y s p o X e f g =
        let i = built_at (invented Y) s e in
        let a = placed_at Y s e in
        let l = leads_to I g (built_at (invented X) o f) in
        let some = bit_bound g.needs.member Y.mask g.needs.has in
        let k = a.types in
        let q = low_set Y.mask (omega arith) (small_set I i) ∙ set_of I clean i in
        record {
          at = a.at;
          below = a.inside;
          holds = record {
            some_type = omega arith;
            edge = record {
              at = p;
              below = known_predicate I g;
              holds = subst₂ (λ n m. EdgeFrom P triples places n m p (s ∷ p ∷ o ∷ [])) (sym a.node) (sym a.types)
                  (gotten (set_number X)
                  (record {
                    none = none;
                    leads = record {
                      small = l.small;
                      needs = subst (λ Z. Requires P (invented Z) p) (sym q) l.needs;
                      targets = subst (λ Z. PTargets P (invented Z) p (set_at (set_number X))) (sym q) l.targets;
                    };
                  })
                  (ap (λ (z : ℕ). s ∷ p ∷ z ∷ []) (sym (target X o f))));
            };
          };
        }
      where
        none : ¬ HasOrigin triples (origin_at s p)
        none h =
            let a = edge_at I h.key h.listed in
            let k = h.is in
            let hp = known_predicate I g in
            let es : subject_of h.key ≡ s = omega arith in
            core_not_invented (one_node (core a.from) (invented Y) s (core_at a.from s (as_subject a.edge) (subst (λ i. get_elem? nodes i ≡ some (key_of a.from)) es a.from_at)) e)

    -- ---- all records

    record_edge : (x : List ℕ) → TripleRecord P bs x → IriEdge nodes triples masks places P x ⊎ SetsEdge P x
    record_edge x t = subst (λ y. IriEdge nodes triples masks places P y ⊎ SetsEdge P y) (sym t.are) (go t.from t.to t.from_at t.to_at t.edge)
      where
        s : ℕ
        s = t.subject

        p : ℕ
        p = t.predicate

        o : ℕ
        o = t.object

        go : (b c : BuiltNode) → get_elem? bs s ≡ some b → get_elem? bs o ≡ some c → BuiltEdge P b p c
            → IriEdge nodes triples masks places P (s ∷ p ∷ o ∷ []) ⊎ SetsEdge P (s ∷ p ∷ o ∷ [])
        go (core n) (core m) e f (from_core g) =
            let a = key_at n s (as_subject g) e in
            let b = key_at m o (as_object g) f in
            let k = parts s p o (predicate_small I g) (place_small I m o b) in
            inl (iri_subject n (as_subject g) s p (s ∷ p ∷ o ∷ []) e (predicate_small I g) (λ v q. subject_iri P g v q)
            (present (triple_key s p o) (edge_key I s o g a b) k.0 (ap (λ (z : ℕ). s ∷ p ∷ z ∷ []) k.1)))
        go (core n) (invented X) e f (made i g) = inl (iri_made n (in_core_lem i) s p o X e f g)
        go (invented Y) (core m) e f x5 = elim x5 [ ]
        go (invented Y) (invented X) e f (made i g) = inr (set_made Y s p o X e f g)

    pub record_iff : (x : List ℕ) → TripleRecord P bs x ↔ (IriEdge nodes triples masks places P x ⊎ SetsEdge P x)
    record_iff x = (record_edge x, back)
      where
        back : IriEdge nodes triples masks places P x ⊎ SetsEdge P x → TripleRecord P bs x
        back (inl u) = iri_record x u
        back (inr u) = set_record x u

    -- the IRIs' come before the sets'
    across : (Q : Pack) (x y : List ℕ) → IriEdge nodes triples masks places Q x → SetsEdge Q y → x ≺ y
    across Q x y u v = let b = u.below in let r = rank_le first_literal nodes in by_subject (omega arith) x y u.holds v.holds.edge

    pub triples_listed : {These : Pack → Type 0} → These P → {next r : ℕ} {out out₁ out₂ : List ℕ}
        → RecordsListed These (IriEdge nodes triples masks places) 0 out out₁ next
        → RecordsListed These (λ Q. SetsEdge Q) next out₁ out₂ r → next * 3 ≤ length out → r ≤ max_triples → TriplesListed P bs out out₂ r
    triples_listed {These} one {next} {r} {out} {out₁} {out₂} a b room few = record {
      records = both.records;
      few = few;
      edges = record {
        ascending = all.ascending;
        members = λ x. (λ m. (record_iff x).1 ((all.members x).0 m), λ t. (all.members x).1 ((record_iff x).0 t));
      };
      counted = let c = both.count in omega arith;
      written = both.written ∙ (let e : 0 * 3 + length (flatten both.records) ≡ r * 3 = (let c = both.count in let l = both.long in omega arith) in rw e refl);
    }
      where
        both : RecordsListed These (λ Q x. IriEdge nodes triples masks places Q x ⊎ SetsEdge Q x) 0 out out₂ r
        both = listed_join a b room across (λ Q x. (λ e. e, λ e. e))

        all : ListOf ◌≺◌ (λ x. IriEdge nodes triples masks places P x ⊎ SetsEdge P x) both.records
        all = both.are P one
