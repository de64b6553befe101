-- The type sets of invented nodes: never empty, never beyond the pack's types; without a clash either {Literal} or a set
-- of types. So at most 2 ^ types - 1 invented nodes are no literal. Assumes nothing.
use lib.Dec.{T}
use lib.ListN.{length}
use mathlib.Core.Path.{◌≡◌, refl, sym}
use native.Mathlib.Decide.{ℕ_discrete}
use native.Mathlib.Omega.{arith}
use Prim.Native.Nat.{ℕ, ◌^◌, ◌<◌}
use Rattle.meaning.proofs.Lists.Bits.{bit_bound, bit_lt, mask_lt, no_bits}
use Rattle.meaning.proofs.Model.Resolved.{Resolved}
use Rattle.meaning.specs.Built.{IsBuilt, arises, invented}
use Rattle.meaning.specs.NoGraph.{MixedKinds, mixed_set}
use Rattle.meaning.specs.Pack.{Literal, Pack, Target, type}
use Rattle.meaning.specs.TypeSet.{TypeSet, ◌∈ₜ◌, bit}

module _ (P : Pack) where
  -- what arises has a member: the target of the shape that requires it
  pub has_member : {X : TypeSet} → IsBuilt P (invented X) → (S : Target) × (S ∈ₜ X)
  has_member (arises i g) =
      let r = g.needs in
      (r.shape.target, (g.targets r.shape.target).1 (record { member = r.member; shape = r.shape; has = r.has; declared = r.declared; is = refl }))

  pub mask_small : Resolved P → {X : TypeSet} → IsBuilt P (invented X) → X.mask < 2 ^ length P.setting.types
  mask_small wf {X} (arises i g) = mask_lt (length P.setting.types) X.mask (λ t h. let q = (g.targets (type t)).0 h in wf.target_type q.declared q.is)

  module _ (clean : ¬ MixedKinds P) where
    -- the invented literal is {Literal}
    pub literal_alone : {X : TypeSet} → IsBuilt P (invented X) → T X.literal → X.mask ≡ 0
    literal_alone {X} i l = sym (no_bits X.mask (λ t. none t (bit_lt t X.mask) (ℕ_discrete (bit t X.mask) 1)))
      where
        none : (t : ℕ) → bit t X.mask < 2 → Dec (bit t X.mask ≡ 1) → bit t X.mask ≡ 0
        none t b (yes e) = absurd (clean (mixed_set X t i l e))
        none t b (no n) = omega arith

    -- any other invented node has a type
    pub types_some : {X : TypeSet} → IsBuilt P (invented X) → ¬ T X.literal → 0 < X.mask
    types_some {X} i n = let m = has_member i in go m.0 m.1
      where
        go : (S : Target) → S ∈ₜ X → 0 < X.mask
        go Literal h = absurd (n h)
        go (type t) h = let b = bit_bound t X.mask h in omega arith
