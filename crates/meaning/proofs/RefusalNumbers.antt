-- The refusal of a number has that number. Assumes nothing.
use mathlib.Core.Logic.{◌≢◌}
use mathlib.Core.Path.{◌≡◌, refl}
use native.Mathlib.Omega.{arith}
use Prim.Native.Nat.{ℕ, zero, suc, ◌<◌, ◌≤◌}
use Rattle.meaning.specs.Refusals.{number_of, refusal_of}

-- from 1 to 13, but for 10, which gives a clash
pub number_of_refusal : (k : ℕ) → 0 < k → k ≤ 13 → k ≢ 10 → number_of (refusal_of k) ≡ k
number_of_refusal zero h l n = absurd (omega arith)
number_of_refusal (suc zero) h l n = refl
number_of_refusal (suc (suc zero)) h l n = refl
number_of_refusal (suc (suc (suc zero))) h l n = refl
number_of_refusal (suc (suc (suc (suc zero)))) h l n = refl
number_of_refusal (suc (suc (suc (suc (suc zero))))) h l n = refl
number_of_refusal (suc (suc (suc (suc (suc (suc zero)))))) h l n = refl
number_of_refusal (suc (suc (suc (suc (suc (suc (suc zero))))))) h l n = refl
number_of_refusal (suc (suc (suc (suc (suc (suc (suc (suc zero)))))))) h l n = refl
number_of_refusal (suc (suc (suc (suc (suc (suc (suc (suc (suc zero))))))))) h l n = refl
number_of_refusal (suc (suc (suc (suc (suc (suc (suc (suc (suc (suc zero)))))))))) h l n = absurd (n refl)
number_of_refusal (suc (suc (suc (suc (suc (suc (suc (suc (suc (suc (suc zero))))))))))) h l n = refl
number_of_refusal (suc (suc (suc (suc (suc (suc (suc (suc (suc (suc (suc (suc zero)))))))))))) h l n = refl
number_of_refusal (suc (suc (suc (suc (suc (suc (suc (suc (suc (suc (suc (suc (suc zero))))))))))))) h l n = refl
number_of_refusal (suc (suc (suc (suc (suc (suc (suc (suc (suc (suc (suc (suc (suc (suc k)))))))))))))) h l n = absurd (omega arith)
