-- A part of a list, gone through from its first number on. Assumes nothing.
use lib.ListN.{get_or}
use mathlib.Core.List.{List}
use mathlib.Core.Logic.{inl, inr, ◌⊎◌}
use mathlib.Core.Path.{ap, refl, subst, ◌∙◌, ◌≡◌}
use native.Mathlib.Decide.{ℕ_discrete}
use native.Mathlib.Omega.{arith}
use Prim.Native.Nat.{ℕ, ◌%◌, ◌*◌, ◌+◌, ◌/◌, ◌<◌, ◌≤◌}
use Rattle.index.specs.Objects.{ByObject, Stands}
use Rattle.index.specs.Triples.{TripleIn}
use Rattle.meaning.specs.Limits.{max_predicates}

module _ {list : List ℕ} where
  pub stands_first : {lo hi j : ℕ} → lo ≤ j → j < hi → Stands list lo hi (get_or list j 0)
  stands_first {j = j} l h = record { at = j; from = l; before = h; is = refl }

  pub stands_split : {j hi x : ℕ} → Stands list j hi x → (get_or list j 0 ≡ x) ⊎ Stands list (j + 1) hi x
  stands_split {j} {hi} {x} s = go (ℕ_discrete j s.at)
    where
      go : Dec (j ≡ s.at) → (get_or list j 0 ≡ x) ⊎ Stands list (j + 1) hi x
      go (yes e) = inl (ap (λ k. get_or list k 0) e ∙ s.is)
      go (no n) = let l = s.from in inr (record { at = s.at; from = omega arith; before = s.before; is = s.is })

  pub stands_none : {j hi x : ℕ} → hi ≤ j → Stands list j hi x → ⊥
  stands_none l s = let h = s.from in let g = s.before in omega arith

-- What stands there is a triple.
pub stands_triple : {triples starts into : List ℕ} {nodes edges : ℕ} → ByObject triples nodes edges starts into → (o : ℕ) → o < nodes → {x : ℕ}
    → Stands into (get_or starts o 0) (get_or starts (o + 1) 0) x → TripleIn triples edges (x / max_predicates) (x % max_predicates) o
stands_triple {starts = starts} {into} b o l {x} s =
    let e : x ≡ x / max_predicates * max_predicates + x % max_predicates = omega arith in
    (b.exactly (x / max_predicates) (x % max_predicates) o l).1 (omega arith, subst (λ y. Stands into (get_or starts o 0) (get_or starts (o + 1) 0) y) e s)
