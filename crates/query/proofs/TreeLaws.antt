-- What a list of parts holds. Assumes nothing.
use lib.ListN.{get_or}
use mathlib.Core.List.{List}
use mathlib.Core.Path.{◌≡◌, ◌∙◌}
use native.Mathlib.Omega.{arith}
use Prim.Native.Nat.{ℕ, ◌<◌}
use Rattle.meaning.specs.Limits.{part_room}
use Rattle.meaning.specs.Query.{Expr}
use Rattle.query.specs.Tree.{Holds, first_number, h_stay, h_any, h_step, h_iri, h_literal, h_nested, h_star, h_sequence, h_union, kind_of, part, second_number}

-- The numbers of a part are those that it was made of.
module _ (t : List ℕ) (i k a b : ℕ) (e : get_or t i 0 ≡ part k a b) (la : a < part_room) (lb : b < part_room) where
  pub kind_is : kind_of t i ≡ k
  unfolding part
  kind_is = omega arith

  pub first_is : first_number t i ≡ a
  unfolding part
  first_is = omega arith

  pub second_is : second_number t i ≡ b
  unfolding part
  second_is = omega arith

-- What is held takes at least a part, and stays held where no part below its end changes.
pub holds_lt : {q t : List ℕ} {n m : ℕ} {e : Expr} → Holds q t n e m → n < m
holds_lt (h_stay p) = omega arith
holds_lt (h_any p) = omega arith
holds_lt (h_step a p) = omega arith
holds_lt (h_iri a p) = omega arith
holds_lt (h_literal a p) = omega arith
holds_lt (h_nested h p) = let l = holds_lt h in omega arith
holds_lt (h_star h p) = let l = holds_lt h in omega arith
holds_lt (h_sequence h k p) = let l = holds_lt h in let r = holds_lt k in omega arith
holds_lt (h_union h k p) = let l = holds_lt h in let r = holds_lt k in omega arith

pub holds_kept : {q t : List ℕ} {n m : ℕ} {e : Expr} → Holds q t n e m → (t' : List ℕ) → ((x : ℕ) → x < m → get_or t' x 0 ≡ get_or t x 0) → Holds q t' n e m
holds_kept (h_stay {n = n} p) t' k = h_stay (k n (omega arith) ∙ p)
holds_kept (h_any {n = n} p) t' k = h_any (k n (omega arith) ∙ p)
holds_kept (h_step {n = n} a p) t' k = h_step a (k n (omega arith) ∙ p)
holds_kept (h_iri {n = n} a p) t' k = h_iri a (k n (omega arith) ∙ p)
holds_kept (h_literal {n = n} a p) t' k = h_literal a (k n (omega arith) ∙ p)
holds_kept (h_nested {m = m} h p) t' k = h_nested (holds_kept h t' (λ x l. k x (omega arith))) (k m (omega arith) ∙ p)
holds_kept (h_star {m = m} h p) t' k = h_star (holds_kept h t' (λ x l. k x (omega arith))) (k m (omega arith) ∙ p)
holds_kept (h_sequence {k = i} h g p) t' k = let lt = holds_lt g in h_sequence (holds_kept h t' (λ x l. k x (omega arith)))
    (holds_kept g t' (λ x l. k x (omega arith))) (k i (omega arith) ∙ p)
holds_kept (h_union {k = i} h g p) t' k = let lt = holds_lt g in h_union (holds_kept h t' (λ x l. k x (omega arith))) (holds_kept g t' (λ x l. k x (omega arith))) (k i (omega arith) ∙ p)
