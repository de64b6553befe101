-- What the nodes and edges of the core are made of, in a pack that 7 does not refuse: declared constructors over as many
-- values as their arity, values of the pack, predicates of the pack. Assumes nothing.
use Rattle.std.proofs.Common.{◌≡◌, ℕ, ◌<◌, length, refl, ◌∙◌, subst, inl, inr, arith}
use lib.ListN.{get_elem?, length-map}
use mathlib.Core.List.Memᴰ.{map as ∈-map}
use mathlib.Core.Option.{some}
use Rattle.meaning.proofs.Lists.Members.{∈_append, ∈_map⁻¹}
use Rattle.meaning.proofs.Model.Resolved.{Bound, Declared, Resolved, head_terms, head_variables}
use Rattle.meaning.specs.Core.{Assignment, CoreEdge, CoreNode, Given, Matches, Node, Fact, as_object, as_subject, as_typed, head_fact, iri_node, literal_node, node_of, triple, typed}
use Rattle.meaning.specs.Member.{◌∈◌, here, there}
use Rattle.meaning.specs.Pack.{Constructor, Head, Pack, Target, Term, has_type, links_to, links_to_value}

-- a constructor over as many values as its arity, or a value
abbrev pub Proper : Pack → Node → Type 0
Proper P (iri_node c vs) =
    (k : Constructor) × (get_elem? P.setting.constructors c ≡ some k) × (length vs ≡ k.arity) × ((v : ℕ) → v ∈ vs → v < length P.setting.values)
Proper P (literal_node v) = v < length P.setting.values

module _ (P : Pack) (σ : Assignment) where
  -- what is known of a head under a match
  record Known (h : Head) : Type 0 where
    value : (x : ℕ) → x ∈ head_variables h → σ x < length P.setting.values
    term : (s : Term) → s ∈ head_terms h → Declared P s

  term_proper : (s : Term) → Declared P s → ((x : ℕ) → x ∈ s.variables → σ x < length P.setting.values) → Proper P (node_of σ s)
  unfolding node_of
  term_proper s d v = (d.0, d.1, length-map s.variables σ ∙ d.2, λ w m. let r = ∈_map⁻¹ σ s.variables m in rw r.2 (v r.0 r.1))

  typed_proper : (h : Head) → Known h → (n : Node) (S : Target) → head_fact σ h ≡ typed n S → Proper P n
  unfolding head_fact head_variables head_terms
  typed_proper (has_type s t) k n S e = let q : node_of σ s ≡ n = cc in subst (Proper P) q (term_proper s (k.term s (here refl)) (λ x i. k.value x i))
  typed_proper (links_to s p o) k n S e = absurd (let z : ◌≡◌ {A = ℕ} 0 1 = cc in let y : ⊥ = omega arith in y)
  typed_proper (links_to_value s p v) k n S e = absurd (let z : ◌≡◌ {A = ℕ} 0 1 = cc in let y : ⊥ = omega arith in y)

  subject_proper : (h : Head) → Known h → (n m : Node) (p : ℕ) → head_fact σ h ≡ triple n p m → Proper P n
  unfolding head_fact head_variables head_terms
  subject_proper (has_type s t) k n m p e = absurd (let z : ◌≡◌ {A = ℕ} 0 1 = cc in let y : ⊥ = omega arith in y)
  subject_proper (links_to s q o) k n m p e =
      let r : node_of σ s ≡ n = cc in
      subst (Proper P) r (term_proper s (k.term s (here refl)) (λ x i. k.value x (∈_append s.variables o.variables (inl i))))
  subject_proper (links_to_value s q v) k n m p e =
      let r : node_of σ s ≡ n = cc in subst (Proper P) r (term_proper s (k.term s (here refl)) (λ x i. k.value x (there i)))

  object_proper : (h : Head) → Known h → (n m : Node) (p : ℕ) → head_fact σ h ≡ triple n p m → Proper P m
  unfolding head_fact head_variables head_terms
  object_proper (has_type s t) k n m p e = absurd (let z : ◌≡◌ {A = ℕ} 0 1 = cc in let y : ⊥ = omega arith in y)
  object_proper (links_to s q o) k n m p e =
      let r : node_of σ o ≡ m = cc in
      subst (Proper P) r (term_proper o (k.term o (there (here refl))) (λ x i. k.value x (∈_append s.variables o.variables (inr i))))
  object_proper (links_to_value s q v) k n m p e =
      let r : literal_node (σ v) ≡ m = cc in subst (Proper P) r (k.value v (here refl))

module _ (P : Pack) (wf : Resolved P) where
  known : {f : Fact} (g : Given P f) → Known P g.values g.rule.head
  unfolding Bound Matches
  known g = record {
    value = λ x i.
        let b = wf.bound g.rule g.listed x i in
        wf.cells _ (g.matches b.0 b.1) (g.values x) (∈-map g.values b.2);
    term = λ s i. wf.terms g.rule g.listed s i;
  }

  pub proper : {n : Node} → CoreNode P n → Proper P n
  proper {n} (as_typed {S} g) = typed_proper P g.values g.rule.head (known g) n S g.says
  proper {n} (as_subject {p} {m} e) = subject_proper P e.values e.rule.head (known e) n m p e.says
  proper {n} (as_object {p} {m} e) = object_proper P e.values e.rule.head (known e) m n p e.says

-- the subject of an edge is an IRI
pub subject_iri : (P : Pack) {n m : Node} {p : ℕ} → CoreEdge P n p m → (v : ℕ) → n ≡ literal_node v → ⊥
unfolding head_fact node_of
subject_iri P {n} {m} {p} g v q = go g.rule.head g.says
  where
    go : (h : Head) → head_fact g.values h ≡ triple n p m → ⊥
    go (has_type s t) e = let z : ◌≡◌ {A = ℕ} 0 1 = cc in omega arith
    go (links_to s r o) e = let z : ◌≡◌ {A = ℕ} 0 1 = cc in omega arith
    go (links_to_value s r w) e = let z : ◌≡◌ {A = ℕ} 0 1 = cc in omega arith
