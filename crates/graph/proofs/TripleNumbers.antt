-- The triples of a graph in its list, by number: whose they are, their bounds and their order. Assumes nothing.
use lib.ListN.{get_or, get_elem?, length, take}
use lib.Seq.{get_or-take}
use mathlib.Core.List.{List, [], ◌∷◌, Forall₂}
use mathlib.Core.Option.{some}
use mathlib.Core.Path.{◌≡◌, refl, sym, ap, subst, ◌∙◌}
use native.Mathlib.Omega.{arith}
use Prim.Native.Nat.{ℕ, suc, ◌+◌, ◌*◌, ◌≤◌, ◌<◌}
use Rattle.graph.specs.Fronts.{GraphListed}
use Rattle.index.specs.Triples.{GraphFits, SubjectsRise, object_at, predicate_at, subject_at}
use Rattle.meaning.proofs.Lists.Blocks.{flatten_at}
use Rattle.meaning.proofs.Lists.Members.{element}
use Rattle.meaning.proofs.Lists.Ordered.{first_rises}
use Rattle.meaning.proofs.Lists.OrderedPlaces.{in_order_at}
use Rattle.meaning.proofs.Lists.Places.{inside, there_is}
use Rattle.meaning.specs.Built.{BuiltNode}
use Rattle.meaning.specs.Listing.{TripleRecord}
use Rattle.meaning.specs.Member.{◌∈◌}
use Rattle.meaning.specs.Pack.{Pack}

forall_length : {A B : Type 0} {R : A → B → Type 0} {xs : List A} {ys : List B} → Forall₂ R xs ys → length xs ≡ length ys
forall_length Forall₂.nil = refl
forall_length (Forall₂.cons h t) = ap suc (forall_length t)

module _ {P : Pack} {count edges : ℕ} {front : List ℕ} (triples : List ℕ) (listed : GraphListed P count edges front (take (edges * 3) triples)) where
  abbrev in_order : List BuiltNode
  in_order = listed.lists.in_order

  pub count_is : count ≡ length in_order
  count_is = listed.node_count ∙ sym (forall_length listed.lists.records)

  is_triple : (r : List ℕ) → r ∈ listed.triple_records_are → TripleRecord P in_order r
  is_triple r i = (listed.lists.edges.members r).0 i

  three : (r : List ℕ) → r ∈ listed.triple_records_are → length r ≡ 3
  three r i = ap length (is_triple r i).are

  -- triple k, by its record
  pub number_at : (k : ℕ) (r : List ℕ) → get_elem? listed.triple_records_are k ≡ some r → (j : ℕ) → j < 3 → get_or triples (k * 3 + j) 0 ≡ get_or r j 0
  number_at k r e j h =
      let l = inside listed.triple_records_are k r e in
      sym (get_or-take (edges * 3) triples (k * 3 + j) 0 (omega (arith, listed.triple_count)))
      ∙ ap (λ l. get_or l (k * 3 + j) 0) listed.triples_are
      ∙ flatten_at 3 listed.triple_records_are three k j r e h

  pub subject_is_at : (k : ℕ) (r : List ℕ) → get_elem? listed.triple_records_are k ≡ some r → subject_at triples k ≡ get_or r 0 0
  subject_is_at k r e = ap (λ i. get_or triples i 0) (let z : k * 3 ≡ k * 3 + 0 = omega arith in z) ∙ number_at k r e 0 (omega arith)

  -- the record of a triple within the count
  pub record_of : (k : ℕ) → k < edges → (r : List ℕ) × (get_elem? listed.triple_records_are k ≡ some r)
  record_of k l = there_is listed.triple_records_are k (omega (arith, listed.triple_count))

  pub edge_of : (s p o k : ℕ) → k < edges → subject_at triples k ≡ s → predicate_at triples k ≡ p → object_at triples k ≡ o → TripleRecord P in_order (s ∷ p ∷ o ∷ [])
  edge_of s p o k l a b c =
      let (r, e) = record_of k l in
      let t = is_triple r (element listed.triple_records_are k r e) in
      let q = t.are in
      let x : s ≡ t.subject = sym a ∙ subject_is_at k r e ∙ ap (λ z. get_or z 0 0) q in
      let y : p ≡ t.predicate = sym b ∙ number_at k r e 1 (omega arith) ∙ ap (λ z. get_or z 1 0) q in
      let w : o ≡ t.object = sym c ∙ number_at k r e 2 (omega arith) ∙ ap (λ z. get_or z 2 0) q in
      subst (TripleRecord P in_order) (q ∙ (λ i. sym x i ∷ sym y i ∷ sym w i ∷ [])) t

  -- ---- bounds and order

  ends_below : (k : ℕ) → k < edges → (subject_at triples k < count) × (object_at triples k < count)
  ends_below k l =
      let t = edge_of _ _ _ k l refl refl refl in
      let h = t.are in
      let a : t.subject ≡ subject_at triples k = sym (ap (λ z. get_or z 0 0) h) in
      let c : t.object ≡ object_at triples k = sym (ap (λ z. get_or z 2 0) h) in
      let x = inside in_order t.subject t.from t.from_at in
      let y = inside in_order t.object t.to t.to_at in
      (omega (arith, count_is), omega (arith, count_is))

  pub graph_fits : edges * 3 ≤ length triples → GraphFits count edges triples
  graph_fits room = record {
    few_nodes = listed.few_nodes;
    few_edges = listed.few_triples;
    whole = room;
    subjects = λ k l. (ends_below k l).0;
    objects = λ k l. (ends_below k l).1;
  }

  pub subjects_rise : SubjectsRise triples edges
  subjects_rise k l =
      let (r, e) = record_of k (omega arith) in
      let (s, f) = record_of (k + 1) l in
      let w = three r (element listed.triple_records_are k r e) in
      let h = first_rises r s (omega arith) (in_order_at listed.triple_records_are listed.lists.edges.ascending r s k (k + 1) (omega arith) e f) in
      omega (arith, subject_is_at k r e, subject_is_at (k + 1) s f)
