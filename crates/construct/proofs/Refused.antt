-- A refusal is no value, and is the same refusal whatever it stands in the place of. Assumes nothing.
use Rattle.std.proofs.Common.{◌≡◌, ℕ, Result, Ok, Err, ap, arith}
use Rattle.construct.specs.Outcome.{Refuses, mixed_kinds, not_accepted, too_large, two_objects}
use Rattle.meaning.specs.Pack.{Text}
use Rattle.meaning.specs.declared.refusal.Refusal.{Refusal}

module _ {A : Type 0} where
  pub no_error : {x : A} {e : Refusal} {Q : Type 0} → ◌≡◌ {A = Result A Refusal} (Ok x) (Err e) → Q
  no_error q = absurd (let z : ◌≡◌ {A = ℕ} 0 1 = cc in omega arith)

  pub carried : {B : Type 0} {e d : Refusal} → ◌≡◌ {A = Result A Refusal} (Err e) (Err d) → ◌≡◌ {A = Result B Refusal} (Err e) (Err d)
  carried {e = e} {d = d} q = let z : e ≡ d = cc in ap Err z

  module _ {pack : Text} where
    pub no_value : {x : A} → Refuses {A = A} pack (Ok x) → ⊥
    no_value (not_accepted k e q) = no_error q
    no_value (too_large P a l q) = no_error q
    no_value (two_objects P a n o s p f g c q) = no_error q
    no_value (mixed_kinds P a n o t m q) = no_error q

    pub same_refusal : {B : Type 0} {e : Refusal} → Refuses {A = A} pack (Err e) → Refuses {A = B} pack (Err e)
    same_refusal (not_accepted k a q) = not_accepted k a (carried q)
    same_refusal (too_large P a l q) = too_large P a l (carried q)
    same_refusal (two_objects P a n o s p f g c q) = two_objects P a n o s p f g c (carried q)
    same_refusal (mixed_kinds P a n o t m q) = mixed_kinds P a n o t m (carried q)
