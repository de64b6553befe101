-- The nodes before the first invented one are the named nodes. Assumes nothing.
use Rattle.std.proofs.Common.{◌≡◌, ℕ, zero, suc, ◌+◌, ◌*◌, ◌<◌, ◌≤◌, Bool, true, false, ltb, List, [], ◌∷◌, ◌++◌, length, get_or, sym, refl, ap, ◌∙◌, subst, arith, get_or-take, get_or-append-add, ltb-false, ltb-true}
use lib.ListN.{get_elem?}
use mathlib.Core.List.{Forall₂, flatten}
use mathlib.Core.Option.{some, none-ne-some, some-injective}
use Rattle.evaluate.specs.GraphIn.{GraphIn}
use Rattle.evaluate.specs.Kinds.{FirstInvented, kind_at}
use Rattle.evaluate.specs.Named.{NamedFirst}
use Rattle.graph.proofs.Fronts.{record_length}
use Rattle.graph.proofs.TripleNumbers.{count_is}
use Rattle.meaning.proofs.Lists.OrderedPlaces.{in_order_at}
use Rattle.meaning.proofs.Lists.Places.{inside, there_is}
use Rattle.meaning.specs.Built.{BuiltNode, core, invented}
use Rattle.meaning.specs.Core.{Node, iri_node, literal_node}
use Rattle.meaning.specs.Limits.{node_width}
use Rattle.meaning.specs.Listing.{NodeRecord, invented_kind, kind, node_key}
use Rattle.meaning.specs.Pack.{Pack, Text}
use Rattle.meaning.proofs.Cases.{case_on}
use Rattle.evaluate.proofs.HeldGraph.{in_order}
use Rattle.meaning.proofs.Lists.Ordered.{first_rises}

-- ---- the kind of a node is the first number of its record and of its key

flat_kind : {P : Pack} (bs : List BuiltNode) (rs : List (List ℕ)) → Forall₂ (NodeRecord P) bs rs → (n : ℕ) (b : BuiltNode) → get_elem? bs n ≡ some b
    → get_or (flatten rs) (n * node_width) 0 ≡ kind b
unfolding flatten
flat_kind [] [] Forall₂.nil n b e = absurd (none-ne-some b e)
flat_kind (c ∷ bs) (r ∷ rs) (Forall₂.cons h t) zero b e =
    ap (λ l. get_or (l ++ flatten rs) 0 0) h.are ∙ ap kind (some-injective c b e)
flat_kind (c ∷ bs) (r ∷ rs) (Forall₂.cons h t) (suc n) b e =
    ap (λ i. get_or (r ++ flatten rs) i 0) (let z : suc n * node_width ≡ length r + n * node_width = omega (arith, ap length h.are, record_length c) in z)
    ∙ get_or-append-add r (flatten rs) (n * node_width) 0
    ∙ flat_kind bs rs t n b e
flat_kind {P = P} [] (r ∷ rs) x4 n b e = elim x4 [ ]
flat_kind {P = P} (c ∷ bs) [] x4 n b e = elim x4 [ ]

core_kind : (k : Node) → kind (core k) < 2
unfolding kind
core_kind (iri_node c vs) = omega arith
core_kind (literal_node v) = omega arith

low_kind : (b : BuiltNode) → kind b < 2 → (k : Node) × (b ≡ core k)
unfolding kind
low_kind (core k) h = (k, refl)
low_kind (invented X) h = go X.literal h
  where
    go : {Q : Type 0} (l : Bool) → invented_kind l < 2 → Q
    go true h = absurd (omega arith)
    go false h = absurd (omega arith)

key_kind : (b : BuiltNode) → get_or (node_key b) 0 0 ≡ kind b
unfolding node_key kind
key_kind (core (iri_node c vs)) = refl
key_kind (core (literal_node v)) = refl
key_kind (invented X) = refl

key_some : (b : BuiltNode) → 0 < length (node_key b)
unfolding node_key
key_some (core (iri_node c vs)) = omega arith
key_some (core (literal_node v)) = omega arith
key_some (invented X) = omega arith

module _ {pack : Text} {P : Pack} {nodes : List ℕ} {count : ℕ} {triples : List ℕ} {edges : ℕ} (g : GraphIn pack P nodes count triples edges) where
  kind_at_lem : (n : ℕ) (b : BuiltNode) → get_elem? (in_order g) n ≡ some b → kind_at nodes n ≡ kind b
  kind_at_lem n b e =
      let l = inside (in_order g) n b e in
      sym (get_or-take (count * node_width) nodes (n * node_width) 0 (omega (arith, count_is triples g.listed)))
      ∙ ap (λ l. get_or l (n * node_width) 0) g.listed.nodes_are
      ∙ flat_kind (in_order g) g.listed.node_records_are g.listed.lists.records n b e

  -- kinds do not fall
  kinds_rise : (n m : ℕ) (b c : BuiltNode) → n < m → get_elem? (in_order g) n ≡ some b → get_elem? (in_order g) m ≡ some c → kind b ≤ kind c
  kinds_rise n m b c l x y =
      let h = first_rises (node_key b) (node_key c) (key_some b) (in_order_at (in_order g) g.listed.lists.ordered.ascending b c n m l x y) in
      omega (arith, key_kind b, key_kind c)

  pub named_first : {r : ℕ} → FirstInvented nodes count r → NamedFirst (in_order g) r
  named_first {r} f = record { core_node = below; named_place = place }
    where
      below : (n : ℕ) → n < r → (k : Node) × (get_elem? (in_order g) n ≡ some (core k))
      below n l =
          let (b, e) = there_is (in_order g) n (omega (arith, f.within, count_is triples g.listed)) in
          let (k, q) = low_kind b (omega (arith, f.before n l, kind_at_lem n b e)) in
          (k, subst (λ x. get_elem? (in_order g) n ≡ some x) q e)

      place : (n : ℕ) (k : Node) → get_elem? (in_order g) n ≡ some (core k) → n < r
      place n k e = case_on (ltb n r) (ltb-true n r) (λ h. absurd (late (ltb-false n r h)))
        where
          late : r ≤ n → ⊥
          late h =
              let l = inside (in_order g) n (core k) e in
              let (b, x) = there_is (in_order g) r (omega arith) in
              let high = f.here (omega (arith, count_is triples g.listed)) in
              let low = core_kind k in
              case_on (ltb r n)
              (λ z. let w = kinds_rise r n b (core k) (ltb-true r n z) x e in let y = kind_at_lem r b x in absurd (omega arith))
              (λ z. let w = ltb-false r n z in let v : r ≡ n = omega arith in let y = kind_at_lem n (core k) e in let u = subst (λ i. 2 ≤ kind_at nodes i) v high in absurd (omega arith))
