-- The core's nodes are the pack's constructors over its values, and its values: of these no two have one key. Assumes
-- nothing.
use Rattle.std.specs.Prelude.{◌≡◌, ℕ, ◌+◌, ◌-◌, ◌*◌, ◌^◌, ◌<◌, ◌≤◌, List, map, length}
use lib.ListN.{get_elem?, length-map}
use mathlib.Core.Logic.{inl, inr}
use mathlib.Core.Option.{some, some-injective}
use mathlib.Core.Path.{refl, sym, ap, ap₂, ◌∙◌, subst}
use native.Mathlib.Omega.{arith}
use Rattle.core_graph.proofs.NodeSources.{Fine, bytes_of, core_in, fine}
use Rattle.core_graph.proofs.Packed.{Bytes, packed_injective, packed_lt, packed_padded}
use Rattle.core_graph.proofs.Powers.{padded_lt, up_to_four}
use Rattle.core_graph.specs.Bounds.{Bounded}
use Rattle.spread.specs.Keys.{key_of}
use Rattle.meaning.proofs.Lists.Members.{∈_append}
use Rattle.meaning.proofs.Lists.Places.{inside}
use Rattle.meaning.proofs.Model.Core.{nodes_in}
use Rattle.meaning.proofs.Model.Resolved.{head_terms, head_variables, resolved}
use Rattle.meaning.specs.Core.{Assignment, CoreNode, Node, head_fact, iri_node, literal_node, node_of}
use Rattle.meaning.specs.Limits.{first_literal, max_arguments, max_constructors, max_values, term_room}
use Rattle.meaning.specs.Member.{◌∈◌, here, there}
use Rattle.meaning.specs.Pack.{Constructor, Head, Pack, Rule, Term, has_type, links_to, links_to_value}
use Rattle.meaning.specs.Tables.{packed}

-- a constructor of the pack over as many bytes as its arity
pub record ProperIri (P : Pack) (c : ℕ) (vs : List ℕ) : Type 0 where
  pub constructor : Constructor
  pub is : get_elem? P.setting.constructors c ≡ some constructor
  pub low : c < max_constructors
  pub arity : length vs ≡ constructor.arity
  pub few : length vs ≤ max_arguments
  pub bytes : Bytes vs

abbrev pub Proper : Pack → Node → Type 0
Proper P (iri_node c vs) = ProperIri P c vs
Proper P (literal_node v) = v < max_values

-- ---- equal keys, equal nodes

iri_key : (c : ℕ) (vs : List ℕ) → length vs ≤ max_arguments → Bytes vs
    → (key_of (iri_node c vs) ≡ c * term_room + packed vs * max_values ^ (max_arguments - length vs))
    × (packed vs * max_values ^ (max_arguments - length vs) < term_room)
unfolding key_of
iri_key c vs h b = (rw (packed_padded vs h), padded_lt (length vs) h (packed vs) (packed_lt vs b))

-- padding forgets nothing
padded_one : (a : ℕ) → a ≤ max_arguments → (x y : ℕ) → x * max_values ^ (max_arguments - a) ≡ y * max_values ^ (max_arguments - a) → x ≡ y
padded_one =
    up_to_four (λ a. (x y : ℕ) → x * max_values ^ (max_arguments - a) ≡ y * max_values ^ (max_arguments - a) → x ≡ y) (λ x y e. omega arith) (λ x y e. omega arith) (λ x y e. omega arith)
    (λ x y e. omega arith) (λ x y e. omega arith)

pub literal_key : (v : ℕ) → key_of (literal_node v) ≡ first_literal + v
unfolding key_of
literal_key v = refl

pub iri_low : {P : Pack} (c : ℕ) (vs : List ℕ) → ProperIri P c vs → key_of (iri_node c vs) < first_literal
iri_low c vs p = let k = iri_key c vs p.few p.bytes in omega (arith, k.0, k.1, p.low)

pub key_injective : (P : Pack) (n m : Node) → Proper P n → Proper P m → key_of n ≡ key_of m → n ≡ m
key_injective P (iri_node c vs) (iri_node d ws) p q e =
    let k = iri_key c vs p.few p.bytes in
    let l = iri_key d ws q.few q.bytes in
    let s : c ≡ d = omega (arith, k.0, k.1, l.0, l.1, e) in
    let a : p.constructor ≡ q.constructor = some-injective p.constructor q.constructor (sym p.is ∙ ap (get_elem? P.setting.constructors) s ∙ q.is) in
    let n : length vs ≡ length ws = p.arity ∙ ap (λ (x : Constructor). x.arity) a ∙ sym q.arity in
    let w : packed vs * max_values ^ (max_arguments - length vs) ≡ packed ws * max_values ^ (max_arguments - length ws) = omega (arith, k.0, l.0, e, s) in
    let x : packed vs ≡ packed ws = padded_one (length vs) p.few (packed vs) (packed ws) (rw n (rw n at w)) in
    ap₂ iri_node s (packed_injective vs ws p.bytes q.bytes n x)
key_injective P (iri_node c vs) (literal_node v) p q e = absurd (omega (arith, iri_low c vs p, literal_key v, e))
key_injective P (literal_node v) (iri_node c vs) p q e = absurd (omega (arith, iri_low c vs q, literal_key v, e))
key_injective P (literal_node v) (literal_node w) p q e = ap literal_node (omega (arith, literal_key v, literal_key w, e))

-- ---- the core's nodes are proper

module _ {P : Pack} (b : Bounded P) {rule : Rule} (listed : rule ∈ P.setting.rules) (σ : Assignment) where
  term_proper : (t : Term) → t ∈ head_terms rule.head → length t.variables ≤ max_arguments → Bytes (map σ t.variables) → Proper P (node_of σ t)
  unfolding node_of
  term_proper t m l s =
      let d = (resolved P b.resolved).terms rule listed t m in
      let e : length (map σ t.variables) ≡ length t.variables = length-map t.variables σ in
      record {
        constructor = d.0;
        is = d.1;
        low = omega (arith, inside P.setting.constructors t.constructor d.0 d.1, b.constructors);
        arity = e ∙ d.2;
        few = omega arith;
        bytes = s;
      }

  head_proper : (h : Head) → rule.head ≡ h → Fine σ h → {n : Node} → n ∈ nodes_in P (head_fact σ h) → Proper P n
  unfolding nodes_in head_fact head_terms head_variables
  head_proper (has_type s t) e f (here q) =
      subst (Proper P) (sym q) (term_proper s (rw e (here refl)) (f.short s (here refl)) (bytes_of σ s.variables (λ v i. f.small v i)))
  head_proper (has_type s t) e f (there i) = elim i [ ]
  head_proper (links_to s p o) e f (here q) =
      subst (Proper P) (sym q)
      (term_proper s (rw e (here refl)) (f.short s (here refl)) (bytes_of σ s.variables (λ v i. f.small v (∈_append s.variables o.variables (inl i)))))
  head_proper (links_to s p o) e f (there (here q)) =
      subst (Proper P) (sym q)
      (term_proper o (rw e (there (here refl))) (f.short o (there (here refl))) (bytes_of σ o.variables (λ v i. f.small v (∈_append s.variables o.variables (inr i)))))
  head_proper (links_to s p o) e f (there (there i)) = elim i [ ]
  head_proper (links_to_value s p v) e f (here q) =
      subst (Proper P) (sym q) (term_proper s (rw e (here refl)) (f.short s (here refl)) (bytes_of σ s.variables (λ u i. f.small u (there i))))
  head_proper (links_to_value s p v) e f (there (here q)) = subst (Proper P) (sym q) (f.small v (here refl))
  head_proper (links_to_value s p v) e f (there (there i)) = elim i [ ]

pub core_proper : {P : Pack} → Bounded P → {n : Node} → CoreNode P n → Proper P n
core_proper {P} b {n} c =
    let r = core_in P c in
    let g = r.1 in
    head_proper b g.listed g.values g.rule.head refl (fine b g.listed g.values g.matches) (subst (λ f. n ∈ nodes_in P f) (sym g.says) r.2)
