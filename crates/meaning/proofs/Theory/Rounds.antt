-- Few rounds: from a fact for each round but the last; one where there is nothing to add. Assumes nothing.
use lib.ListN.{length}
use mathlib.Core.List.{List, [], ◌∷◌}
use mathlib.Core.Path.{◌≡◌, refl, ap, ◌∙◌}
use native.Mathlib.Omega.{arith}
use Prim.Native.Nat.{ℕ, ◌+◌, ◌≤◌, ◌<◌}
use Rattle.meaning.proofs.Cases.{case_lt}
use Rattle.meaning.proofs.Lists.Counting.{number_few}
use Rattle.meaning.specs.Member.{◌∈◌, here}
use Rattle.meaning.specs.Ordered.{Number, Over}
use Rattle.meaning.specs.Spreading.{FewRounds}

module _ {A : Type 0} {Q : A → Type 0} where
  pub few_rounds : {rounds n : ℕ} → 1 ≤ rounds → ((k : ℕ) → k + 1 < rounds → Over k Q) → Number Q n → FewRounds Q rounds
  few_rounds {rounds} {n} some over k = record {
    added = n;
    number = k;
    some = some;
    few = case_lt (n + 1) rounds (λ h. absurd (number_few k (over n h))) (λ h. h);
  }

  -- settled from the start
  pub one_round : {rounds : ℕ} → FewRounds Q rounds → ((x : A) → ¬ Q x) → rounds ≡ 1
  one_round f none = omega (arith, f.some, f.few, f.number.many ∙ ap length (nothing f.number.all (λ x m. none x ((f.number.list.members x).0 m))))
    where
      nothing : (xs : List A) → ((x : A) → ¬ (x ∈ xs)) → xs ≡ []
      nothing [] h = refl
      nothing (x ∷ xs) h = absurd (h x (here refl))
