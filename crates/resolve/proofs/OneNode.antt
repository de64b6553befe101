-- What the search of the node list finds is the node of the label. Assumes nothing.
use Rattle.std.specs.Prelude.{Option, unwrap_or}
use lib.ListN.{length, get_elem?}
use mathlib.Core.List.{List}
use mathlib.Core.Logic.{◌↔◌}
use mathlib.Core.Option.{some}
use mathlib.Core.Path.{◌≡◌, sym, ap, subst, ◌∙◌}
use native.Mathlib.Omega.{arith}
use Prim.Native.Nat.{ℕ, ◌≤◌}
use Rattle.meaning.proofs.Lists.Members.{element}
use Rattle.meaning.proofs.Lists.Ordered.{by_key}
use Rattle.meaning.proofs.Lists.OrderedPlaces.{one_place}
use Rattle.meaning.proofs.Lists.Places.{there_is}
use Rattle.meaning.specs.Built.{BuiltNode, IsBuilt}
use Rattle.meaning.specs.Limits.{max_nodes, unused}
use Rattle.meaning.specs.Listing.{node_key}
use Rattle.meaning.specs.Pack.{Pack}
use Rattle.resolve.specs.Listed.{BuiltNodesListed}
use Rattle.resolve.specs.Search.{HasNumbers, First, found, nowhere}
use Rattle.resolve.specs.Wanted.{NodeIs}
use Rattle.resolve.proofs.Numbered.{Numbered}
use Rattle.resolve.proofs.Records.{below_count, has_numbers}

module _ {P : Pack} {in_order : List BuiltNode} {nodes : List ℕ} {count : ℕ} (listed : BuiltNodesListed P in_order nodes count) (few : count ≤ max_nodes) (HasLabel : BuiltNode → Type 0) where
  built_at : (m : ℕ) (b : BuiltNode) → get_elem? in_order m ≡ some b → IsBuilt P b
  built_at m b at = (listed.ordered.members b).0 (element in_order m b at)

  pub one_node : {k v : ℕ} {vs : List ℕ} (n : BuiltNode) → length vs ≡ 4 → ((b : BuiltNode) → IsBuilt P b → Numbered k v vs b ↔ (b ≡ n))
      → ((b : BuiltNode) → IsBuilt P b → HasLabel b ↔ (b ≡ n)) → {r : Option ℕ} → First (HasNumbers nodes k v vs) count r → NodeIs HasLabel in_order (unwrap_or r unused)
  one_node {k} {v} {vs} n four numbered labelled {r} first m b at = (forth first, back first)
    where
      i : IsBuilt P b
      i = built_at m b at

      numbers : HasNumbers nodes k v vs m ↔ Numbered k v vs b
      numbers = has_numbers P listed m b at four

      forth : {r : Option ℕ} → First (HasNumbers nodes k v vs) count r → HasLabel b → m ≡ unwrap_or r unused
      forth (found {r = r} l q others) h =
          let x = there_is in_order r (omega (arith, listed.counted)) in
          let e = (numbered x.0 (built_at r x.0 x.1)).0 ((has_numbers P listed r x.0 x.1 four).0 q) in
          let g = (labelled b i).0 h in
          one_place (by_key node_key) in_order listed.ordered.ascending n m r (at ∙ ap some g) (x.1 ∙ ap some e)
      forth (nowhere others) h = absurd (others m (below_count P listed m b at) (numbers.1 ((numbered b i).1 ((labelled b i).0 h))))

      back : {r : Option ℕ} → First (HasNumbers nodes k v vs) count r → m ≡ unwrap_or r unused → HasLabel b
      back (found l q others) e = (labelled b i).1 ((numbered b i).0 (numbers.0 (subst (HasNumbers nodes k v vs) (sym e) q)))
      back (nowhere others) g = absurd (let z : ⊥ = omega (arith, below_count P listed m b at) in z)

  pub no_node : ((b : BuiltNode) → IsBuilt P b → HasLabel b → ⊥) → NodeIs HasLabel in_order unused
  no_node never m b at = (λ h. absurd (never b (built_at m b at) h), λ e. absurd (let z : ⊥ = omega (arith, below_count P listed m b at) in z))
