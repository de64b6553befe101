-- What a part wants, by its kind. Assumes nothing.
use mathlib.Core.List.{List}
use mathlib.Core.Path.{◌≡◌}
use native.Mathlib.Omega.{arith}
use Prim.Native.Nat.{ℕ}
use Rattle.meaning.specs.Pack.{Text}
use Rattle.resolve.specs.Wanted.{IriIs, LiteralIs, Wants, OfGraph}

module _ (s text : Text) (nodes : List ℕ) (count kind w : ℕ) where
  abbrev Kept : Type 0
  Kept = OfGraph s nodes count (λ P in_order. Wants P in_order kind text w)

  pub wants_iri : kind ≡ 3 → OfGraph s nodes count (λ P in_order. IriIs P in_order text w) → Kept
  wants_iri k f P a in_order listed = record {
    step = λ e. absurd (let z : ⊥ = omega arith in z);
    iri = λ e. f P a in_order listed;
    literal = λ e. absurd (let z : ⊥ = omega arith in z);
  }

  pub wants_literal : kind ≡ 4 → OfGraph s nodes count (λ P in_order. LiteralIs P in_order text w) → Kept
  wants_literal k f P a in_order listed = record {
    step = λ e. absurd (let z : ⊥ = omega arith in z);
    iri = λ e. absurd (let z : ⊥ = omega arith in z);
    literal = λ e. f P a in_order listed;
  }
