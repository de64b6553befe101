-- The p-targets of a type set, computed. Assumes nothing.
use mathlib.Core.List.{filter_map}
use mathlib.Core.Logic.{◌↔◌}
use mathlib.Core.Option.{Option, none, some, map, map-eq-some_iff, none-ne-some}
use mathlib.Core.Path.{◌≡◌}
use Prim.Native.Nat.{ℕ}
use Rattle.meaning.proofs.Lists.Bits.{members, members_in, members_only, set_of, set_of_in, set_of_only}
use Rattle.meaning.proofs.Lists.Members.{collect_in, collect_only}
use Rattle.meaning.specs.Built.{BuiltNode, HasType, PTarget, PTargets}
use Rattle.meaning.specs.Member.{◌∈◌}
use Rattle.meaning.specs.Pack.{Literal, Pack, Shape, Target, shape_of, type}
use Rattle.meaning.specs.TypeSet.{TypeSet, ◌∈ₜ◌}

module _ (P : Pack) where
  unfoldable pub target_at : ℕ → Target → Option Target
  target_at p Literal = none
  target_at p (type t) = map (λ (s : Shape). s.target) (shape_of P.setting t p)

  unfoldable pub targets : TypeSet → ℕ → TypeSet
  unfolding filter_map members set_of target_at
  targets X p = set_of (filter_map (target_at p) (members X))

  pub targets_are : (b : BuiltNode) (X : TypeSet) → ((S : Target) → (S ∈ₜ X) ↔ HasType P b S) → (p : ℕ) → PTargets P b p (targets X p)
  unfolding targets target_at
  targets_are b X h p S = (λ i. let r = collect_only (target_at p) (members X) (set_of_only _ S i) in forth r.0 r.1 r.2, back)
    where
      forth : (R : Target) → R ∈ members X → target_at p R ≡ some S → PTarget P b p S
      forth Literal i e = absurd (none-ne-some S e)
      forth (type t) i e =
          let r = (map-eq-some_iff (λ (s : Shape). s.target) (shape_of P.setting t p)).0 e in
          record { member = t; shape = r.0; has = (h (type t)).0 (members_only X (type t) i); declared = record { is = r.1 }; is = r.2 }

      back : PTarget P b p S → S ∈ₜ set_of (filter_map (target_at p) (members X))
      back t =
          set_of_in _ S (collect_in (target_at p) (members_in X (type t.member) ((h (type t.member)).1 t.has))
          ((map-eq-some_iff (λ (s : Shape). s.target) (shape_of P.setting t.member p)).1 (t.shape, t.declared.is, t.is)))
