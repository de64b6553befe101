-- More keys of one rule's heads than max_heads make the core too large: different keys are different subjects of its type, or
-- different triples of its predicate. Assumes nothing.
use Rattle.std.proofs.Common.{◌≡◌, ℕ, List, [], ◌∷◌, ◌++◌, map, refl, ap, ◌∙◌, inl, inr, arith}
use mathlib.Core.List.{map-append}
use Rattle.matching.specs.Rule.{HeadKey}
use Rattle.meaning.specs.Core.{Node, as_typed, head_fact, iri_node, literal_node, node_of}
use Rattle.meaning.specs.Limits.{max_core_triples, max_heads, max_iris}
use Rattle.meaning.specs.Member.{◌∈◌}
use Rattle.meaning.specs.NoGraph.{CoreIri, CoreTriple, TooLarge}
use Rattle.meaning.specs.Ordered.{Over}
use Rattle.meaning.specs.Pack.{Head, Pack, Rule, Term, has_type, links_to, links_to_value}
use Rattle.meaning.specs.Tables.{packed, head_arguments}
use Rattle.meaning.proofs.Lists.Counting.{over_by}

-- ---- the keys of a rule's heads

-- a node's values
arguments_of : Node → List ℕ
arguments_of (iri_node c vs) = vs
arguments_of (literal_node v) = v ∷ []

module _ (P : Pack) (rule : Rule) (listed : rule ∈ P.setting.rules) where
  Keys : Head → ℕ → Type 0
  Keys h = HeadKey P.rows rule.atoms (head_arguments h)

  abbrev triple_of : Node × ℕ × Node → ℕ
  triple_of t = packed (arguments_of t.0 ++ arguments_of t.2)

  iri_of : (s : Term) (t : ℕ) → rule.head ≡ has_type s t → (k : ℕ) → Keys (has_type s t) k → (b : ℕ × List ℕ) × CoreIri P b × (k ≡ packed b.1)
  unfolding Keys head_arguments head_fact node_of
  iri_of s t e k q = (
    (s.constructor, map q.values s.variables),
    as_typed (record { rule = rule; listed = listed; values = q.values; matches = q.matches; says = ap (head_fact q.values) e }),
    q.is,
  )

  link_of : (s : Term) (p : ℕ) (o : Term) → rule.head ≡ links_to s p o → (k : ℕ) → Keys (links_to s p o) k
      → (b : Node × ℕ × Node) × CoreTriple P b × (k ≡ triple_of b)
  unfolding Keys head_arguments head_fact node_of arguments_of
  link_of s p o e k q = (
    (node_of q.values s, p, node_of q.values o),
    record { rule = rule; listed = listed; values = q.values; matches = q.matches; says = ap (head_fact q.values) e },
    q.is ∙ ap packed (map-append q.values s.variables o.variables),
  )

  value_of : (s : Term) (p v : ℕ) → rule.head ≡ links_to_value s p v → (k : ℕ) → Keys (links_to_value s p v) k
      → (b : Node × ℕ × Node) × CoreTriple P b × (k ≡ triple_of b)
  unfolding Keys head_arguments head_fact node_of arguments_of
  value_of s p v e k q = (
    (node_of q.values s, p, literal_node (q.values v)),
    record { rule = rule; listed = listed; values = q.values; matches = q.matches; says = ap (head_fact q.values) e },
    q.is ∙ ap packed (map-append q.values s.variables (v ∷ [])),
  )

  pub too_large : Over max_heads (HeadKey P.rows rule.atoms (head_arguments rule.head)) → TooLarge P
  unfolding Keys
  too_large = go rule.head refl
    where
      go : (h : Head) → rule.head ≡ h → Over max_heads (Keys h) → TooLarge P
      go (has_type s t) e o = inl (over_by (λ (b : ℕ × List ℕ). packed b.1) (CoreIri P) max_iris (omega arith) (iri_of s t e) o)
      go (links_to s p u) e o = inr (over_by triple_of (CoreTriple P) max_core_triples (omega arith) (link_of s p u e) o)
      go (links_to_value s p v) e o = inr (over_by triple_of (CoreTriple P) max_core_triples (omega arith) (value_of s p v e) o)
