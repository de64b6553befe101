-- What the answers of the shape table say of a pack's nodes. Assumes nothing.
use Rattle.std.proofs.Common.{◌≡◌, ℕ, T, ◌↔◌}
use Rattle.meaning.proofs.Model.Clash.{Limits}
use Rattle.meaning.specs.Built.{PTarget, PTargets, Requires, invented}
use Rattle.meaning.specs.Pack.{Pack, Target, limits, requires}
use Rattle.meaning.specs.Tables.{set_of_mask}
use Rattle.meaning.specs.TypeSet.{◌∈ₜ◌}
use Rattle.shapes.specs.Shapes.{SomeShape}

module _ (P : Pack) (mask p : ℕ) where
  pub requires_shape : SomeShape P.setting mask p (λ s. T (requires s.multiplicity)) ↔ Requires P (invented (set_of_mask mask)) p
  requires_shape = (
    λ s. record { member = s.member; shape = s.shape; has = s.has; declared = s.declared; required = s.holds },
    λ (r : Requires P (invented (set_of_mask mask)) p). record { member = r.member; shape = r.shape; has = r.has; declared = r.declared; holds = r.required },
  )

  pub limits_shape : SomeShape P.setting mask p (λ s. T (limits s.multiplicity)) ↔ Limits P (invented (set_of_mask mask)) p
  limits_shape = (
    λ s. record { member = s.member; shape = s.shape; has = s.has; declared = s.declared; limited = s.holds },
    λ (r : Limits P (invented (set_of_mask mask)) p). record { member = r.member; shape = r.shape; has = r.has; declared = r.declared; holds = r.limited },
  )

  pub targets_shape : (r : ℕ) → ((R : Target) → (R ∈ₜ set_of_mask r) ↔ SomeShape P.setting mask p (λ s. s.target ≡ R))
      → PTargets P (invented (set_of_mask mask)) p (set_of_mask r)
  targets_shape r f R = (
    λ i. let s = (f R).0 i in record { member = s.member; shape = s.shape; has = s.has; declared = s.declared; is = s.holds },
    λ (t : PTarget P (invented (set_of_mask mask)) p R). (f R).1
        (record { member = t.member; shape = t.shape; has = t.has; declared = t.declared; holds = t.is }),
  )
