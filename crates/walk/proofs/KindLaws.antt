-- Which part it is, by the number of its kind. Assumes nothing.
use borrow.Author.Tests.{ne_eqb}
use mathlib.Core.List.{List}
use mathlib.Core.Path.{◌≡◌}
use Prim.Native.Nat.{ℕ, ◌-◌}
use Rattle.meaning.specs.Pack.{Text}
use Rattle.meaning.specs.Query.{stay, step, any_step, at_iri, at_literal}
use Rattle.query.specs.Tree.{first_number, kind_of}
use Rattle.walk.specs.Parts.{leaf, test, repeat, chain, either, part_by, part_of, part_text, leaf_by, leaf_of}

module _ (t : List ℕ) (i : ℕ) where
  pub kind_test : kind_of t i ≡ 5 → part_of t i ≡ test (i - 1)
  unfolding part_of part_by
  kind_test e = rw e

  pub kind_repeat : kind_of t i ≡ 6 → part_of t i ≡ repeat (i - 1)
  unfolding part_of part_by
  kind_repeat e = rw e

  pub kind_chain : kind_of t i ≡ 7 → part_of t i ≡ chain (first_number t i) (i - 1)
  unfolding part_of part_by
  kind_chain e = rw e

  pub kind_either : kind_of t i ≡ 8 → part_of t i ≡ either (first_number t i) (i - 1)
  unfolding part_of part_by
  kind_either e = rw e

  pub kind_leaf : (kind_of t i ≡ 5 → ⊥) → (kind_of t i ≡ 6 → ⊥) → (kind_of t i ≡ 7 → ⊥) → (kind_of t i ≡ 8 → ⊥) → part_of t i ≡ leaf
  unfolding part_of part_by
  kind_leaf a b c d = rw (ne_eqb (kind_of t i) 5 a, ne_eqb (kind_of t i) 6 b, ne_eqb (kind_of t i) 7 c, ne_eqb (kind_of t i) 8 d)

-- The expression of a part that has no parts.
module _ (q : Text) (t : List ℕ) (i : ℕ) where
  pub kind_stay : kind_of t i ≡ 0 → leaf_of q t i ≡ stay
  unfolding leaf_of leaf_by
  kind_stay e = rw e

  pub kind_any : kind_of t i ≡ 1 → leaf_of q t i ≡ any_step
  unfolding leaf_of leaf_by
  kind_any e = rw e

  pub kind_step : kind_of t i ≡ 2 → leaf_of q t i ≡ step (part_text q t i)
  unfolding leaf_of leaf_by
  kind_step e = rw e

  pub kind_iri : kind_of t i ≡ 3 → leaf_of q t i ≡ at_iri (part_text q t i)
  unfolding leaf_of leaf_by
  kind_iri e = rw e

  pub kind_literal : kind_of t i ≡ 4 → leaf_of q t i ≡ at_literal (part_text q t i)
  unfolding leaf_of leaf_by
  kind_literal e = rw e
