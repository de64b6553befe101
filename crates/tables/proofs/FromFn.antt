-- `array::from_fn`: an array of so many numbers from a place on. Assumes nothing.
use Rattle.std.proofs.Common.{◌≡◌, ℕ, zero, suc, ◌+◌, ◌<◌, ◌≤◌, List, length, get_or, take, drop, subst, ◌∙◌, arith}
use Rattle.std.specs.Array.{IsFromFnResult, IsFromFnResultFrom}
use Rattle.std.specs.Fn.{Called}
use denote.Param.Members.{Mut}
use Rattle.meaning.proofs.Lists.Filling.{copied}

module _ {F : Type 0} {g : Mut F (ℕ × Unit {0}) ℕ} {f : F} (numbers : List ℕ) (at : ℕ)
    (closure : (i y : ℕ) (q : F) → Called g f (i, tt) y q → (q ≡ f) × (y ≡ get_or numbers (at + i) 0)) where
  each : (ys : List ℕ) (i n : ℕ) → IsFromFnResultFrom g f ys i n → (k : ℕ) → k < n → get_or ys (i + k) 0 ≡ get_or numbers (at + (i + k)) 0
  each ys i zero h k l = absurd (omega (arith, l))
  each ys i (suc n) h zero l = let e : i + 0 ≡ i = omega arith in rw e (h.2.1 0 ∙ (closure i h.1 h.0 h.3).1)
  each ys i (suc n) h (suc k) l =
      let e : i + suc k ≡ i + 1 + k = omega arith in
      rw e (each ys (i + 1) n (subst (λ q. IsFromFnResultFrom g q ys (i + 1) n) (closure i h.1 h.0 h.3).0 h.4) k (omega (arith, l)))

  pub from_place : {ys : List ℕ} {n : ℕ} → IsFromFnResult g f ys n → at + n ≤ length numbers → ys ≡ take n (drop at numbers)
  from_place {ys} {n} h l = copied numbers at {w = n} {n = n} (record { many = h.long; each = λ i m. let e : 0 + i ≡ i = omega arith in rw e at (each ys 0 n h.each i m) }) (omega arith) l
