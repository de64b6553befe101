-- The node keys of all heads are the keys of the core's nodes. Assumes nothing.
use Rattle.std.specs.Prelude.{◌≡◌, ℕ, ◌<◌, ◌≤◌, ◌↔◌, List, [], ◌∷◌, map, length}
use mathlib.Core.List.Memᴰ.{map as ∈-map}
use mathlib.Core.Logic.{inr}
use mathlib.Core.Path.{refl, sym, ap, ap₂, ◌∙◌, subst}
use native.Mathlib.Omega.{arith}
use Rattle.core_graph.proofs.NodeKeys.{keys_of_link, keys_of_type}
use Rattle.core_graph.proofs.Packed.{Bytes}
use Rattle.core_graph.proofs.Sources.{Source, link_object, link_subject, type_subject, value_object, value_subject}
use Rattle.core_graph.specs.Bounds.{Bounded}
use Rattle.core_graph.specs.Collected.{node_keys}
use Rattle.core_graph.specs.CoreHeld.{NodeKey}
use Rattle.spread.specs.Keys.{key_of}
use Rattle.meaning.proofs.Lists.Members.{element, ∈_append, ∈_map⁻¹}
use Rattle.meaning.proofs.Model.Core.{nodes_in}
use Rattle.meaning.proofs.Model.Resolved.{Bound, head_terms, head_variables, resolved}
use Rattle.meaning.specs.Core.{Assignment, CoreNode, Fact, Given, Matches, Node, as_object, as_subject, as_typed, head_fact, row_of, triple, typed}
use Rattle.meaning.specs.Limits.{max_arguments, max_values}
use Rattle.meaning.specs.Member.{◌∈◌, here, there}
use Rattle.meaning.specs.Pack.{Head, Pack, Rule, Term, has_type, links_to, links_to_value}
use Rattle.meaning.specs.Tables.{packed, head_arguments, head_numbers}

-- ---- what the bounds say of a match

module _ {P : Pack} (b : Bounded P) {rule : Rule} (listed : rule ∈ P.setting.rules) where
  pub term_short : (t : Term) → t ∈ head_terms rule.head → length t.variables ≤ max_arguments
  term_short t m =
      let d = (resolved P b.resolved).terms rule listed t m in
      omega (arith, (b.arities d.0 (element P.setting.constructors t.constructor d.0 d.1)).1, d.2)

  pub value_small : (σ : Assignment) → Matches P.rows σ rule.atoms → (v : ℕ) → v ∈ head_variables rule.head → σ v < max_values
  unfolding Bound Matches
  value_small σ h v m =
      let a = (resolved P b.resolved).bound rule listed v m in
      omega (arith, (resolved P b.resolved).cells (row_of σ a.0) (h a.0 a.1) (σ v) (∈-map σ a.2), b.values)

-- ---- the keys of a head's nodes

-- terms of at most four variables, whose values are bytes
pub record Fine (σ : Assignment) (h : Head) : Type 0 where
  pub short : (t : Term) → t ∈ head_terms h → length t.variables ≤ max_arguments
  pub small : (v : ℕ) → v ∈ head_variables h → σ v < max_values

pub fine : {P : Pack} → Bounded P → {rule : Rule} → rule ∈ P.setting.rules → (σ : Assignment) → Matches P.rows σ rule.atoms → Fine σ rule.head
fine b m σ h = record { short = term_short b m; small = value_small b m σ h }

pub bytes_of : (σ : Assignment) (vs : List ℕ) → ((v : ℕ) → v ∈ vs → σ v < max_values) → Bytes (map σ vs)
bytes_of σ vs h u m = let r = ∈_map⁻¹ σ vs m in rw r.2 (h r.0 r.1)

module _ (P : Pack) where
  pub keys_are : (σ : Assignment) (h : Head) → Fine σ h
      → node_keys (head_numbers h) (packed (map σ (head_arguments h))) ≡ map key_of (nodes_in P (head_fact σ h))
  unfolding nodes_in head_fact head_terms head_variables head_numbers
  keys_are σ (has_type s t) f = keys_of_type (head_numbers (has_type s t)) _ refl ∙ ap (λ x. x ∷ []) (type_subject σ s (f.short s (here refl)) t)
  keys_are σ (links_to s p o) f =
      let l = f.short s (here refl) in
      let m = f.short o (there (here refl)) in
      let b = bytes_of σ o.variables (λ v i. f.small v (∈_append s.variables o.variables (inr i))) in
      keys_of_link (head_numbers (links_to s p o)) _ (λ e. omega arith)
      ∙ ap₂ (λ x y. x ∷ y ∷ []) (link_subject σ s l o m b p) (link_object σ s l o m b p)
  keys_are σ (links_to_value s p v) f =
      let l = f.short s (here refl) in
      let b = f.small v (here refl) in
      keys_of_link (head_numbers (links_to_value s p v)) _ (λ e. omega arith)
      ∙ ap₂ (λ x y. x ∷ y ∷ []) (value_subject σ s l p v b) (value_object σ s l p v b)

  -- a fact's nodes are the core's
  pub in_core_lem : {n : Node} (f : Fact) → Given P f → n ∈ nodes_in P f → CoreNode P n
  unfolding nodes_in
  in_core_lem (typed m S) g (here e) = subst (CoreNode P) (sym e) (as_typed g)
  in_core_lem (typed m S) g (there i) = elim i [ ]
  in_core_lem (triple k p m) g (here e) = subst (CoreNode P) (sym e) (as_subject g)
  in_core_lem (triple k p m) g (there (here e)) = subst (CoreNode P) (sym e) (as_object g)
  in_core_lem (triple k p m) g (there (there i)) = elim i [ ]

  pub core_in : {n : Node} → CoreNode P n → (f : Fact) × Given P f × (n ∈ nodes_in P f)
  unfolding nodes_in
  core_in (as_typed g) = (_, g, here refl)
  core_in (as_subject g) = (_, g, here refl)
  core_in (as_object g) = (_, g, there (here refl))

  -- so the keys of all heads are those of the core's nodes
  pub node_sources : Bounded P → (y : ℕ) → Source P (λ head k x. x ∈ node_keys head k) y ↔ NodeKey P y
  node_sources b y = (forth, back)
    where
      forth : Source P (λ head k x. x ∈ node_keys head k) y → NodeKey P y
      forth s =
          let e = keys_are s.values s.rule.head (fine b s.listed s.values s.matches) in
          let r = ∈_map⁻¹ key_of (nodes_in P (head_fact s.values s.rule.head)) (rw e at s.gives) in
          record {
            node = r.0;
            in_core = in_core_lem (head_fact s.values s.rule.head)
                (record { rule = s.rule; listed = s.listed; values = s.values; matches = s.matches; says = refl }) r.1;
            is = r.2;
          }

      back : NodeKey P y → Source P (λ head k x. x ∈ node_keys head k) y
      back k =
          let c = core_in k.in_core in
          let g = c.1 in
          let e = keys_are g.values g.rule.head (fine b g.listed g.values g.matches) in
          let m : key_of k.node ∈ map key_of (nodes_in P (head_fact g.values g.rule.head)) = ∈-map key_of (subst (λ f. k.node ∈ nodes_in P f) (sym g.says) c.2) in
          record {
            rule = g.rule;
            listed = g.listed;
            values = g.values;
            matches = g.matches;
            gives = rw (k.is, e) m;
          }
