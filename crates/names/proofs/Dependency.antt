-- A dependency's numbers, and whether it is good. Assumes nothing.
use lib.Dec.{ltb}
use lib.ListN.{get_or, get_elem?, length}
use mathlib.Core.Bool.{Bool, true, false}
use mathlib.Core.List.{List, [], ◌∷◌}
use mathlib.Core.Option.{some}
use mathlib.Core.Path.{◌≡◌, sym, ap, ◌∙◌}
use native.Mathlib.Nat.{pow-le-pow_right}
use native.Mathlib.Omega.{arith}
use Prim.Native.Nat.{ℕ, ◌+◌, ◌*◌, ◌%◌, ◌^◌, ◌≤◌, ◌<◌}
use Rattle.meaning.specs.Limits.{dependencies_at, dependency_width, max_columns, max_dependencies, relations_at}
use Rattle.meaning.specs.Pack.{Dependency, Pack}
use Rattle.meaning.specs.WellFormed.{good_dependency}
use Rattle.names.specs.PackGiven.{DependencyAt, SettingGiven}
use Rattle.names.proofs.Counted.{arity_none, arity_there, count_at_lem, held_at}
use Rattle.meaning.proofs.Lists.Parts.{first_is_at, number_at}

-- a power of two that 16 bits hold
pub shifted : (k : ℕ) → k ≤ max_columns → 1 * 2 ^ k % 65536 ≡ 2 ^ k
shifted k h = let p : 2 ^ k ≤ 2 ^ max_columns = pow-le-pow_right (omega arith) h in omega (arith, p)

module _ {P : Pack} {counts numbers : List ℕ} (g : SettingGiven P counts numbers) where
  module _ {at : ℕ} {x : Dependency} (d : DependencyAt x numbers at) where
    abbrev pub listed : List ℕ
    listed = x.relation ∷ x.left ∷ x.right ∷ []

    relation_is : get_or numbers at 0 ≡ x.relation
    relation_is = first_is_at numbers listed at dependency_width d.are (omega arith)

    pub none_named : get_or counts 1 0 ≤ get_or numbers at 0 → false ≡ good_dependency P x
    none_named h = let i : get_or counts 1 0 ≤ x.relation = omega (arith, relation_is) in rw (arity_none g i)

    -- the arity, by its place
    abbrev pub columns : ℕ
    columns = get_or numbers (relations_at + get_or numbers at 0) 0

    number : (j : ℕ) → j < dependency_width → get_or numbers (at + j) 0 ≡ get_or listed j 0
    number = number_at numbers listed at dependency_width d.are

    module _ (h : get_or numbers at 0 < get_or counts 1 0) {b : Bool} (l : b ≡ ltb (get_or numbers (at + 1) 0) (2 ^ columns)) where
      arity_is : get_elem? P.setting.arities x.relation ≡ some columns
      arity_is = ap (λ (i : ℕ). get_elem? P.setting.arities i) (sym relation_is) ∙ arity_there g h

      left_is : ltb x.left (2 ^ columns) ≡ b
      left_is = ap (λ (m : ℕ). ltb m (2 ^ columns)) (sym (number 1 (omega arith))) ∙ sym l

      pub left_out : b ≡ false → false ≡ good_dependency P x
      left_out e = rw (arity_is, left_is ∙ e)

      pub both_in : b ≡ true → {q : Bool} → q ≡ ltb (get_or numbers (at + 2) 0) (2 ^ columns) → q ≡ good_dependency P x
      both_in e r = rw (arity_is, left_is ∙ e) (r ∙ ap (λ (m : ℕ). ltb m (2 ^ columns)) (number 2 (omega arith)))

  pub dependencies_many : get_or counts 2 0 ≡ length P.setting.dependencies
  dependencies_many = count_at_lem g 2 (omega arith)

  pub dependencies_few : get_or counts 2 0 ≤ max_dependencies
  dependencies_few = omega (arith, dependencies_many, g.bounds.dependencies)

  pub dependency_at_lem : (i : ℕ) (x : Dependency) → get_elem? P.setting.dependencies i ≡ some x → DependencyAt x numbers (dependencies_at + i * dependency_width)
  dependency_at_lem i x e = record { are = held_at g.bare.dependencies i x e }
