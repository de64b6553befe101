-- Percent-encoding writes different texts differently, and never a "/". Assumes nothing.
use borrow.Author.Tests.{ltb-true, ltb-false}
use lib.Dec.{ltb}
use mathlib.Core.Bool.{true, false, true≢false}
use mathlib.Core.List.Memᴰ
use mathlib.Core.List.{[], ◌∷◌, ◌++◌, head-eq_of_cons-eq, tail-eq_of_cons-eq, nil≢cons}
use mathlib.Core.Path.{◌≡◌, refl, sym, ap, ◌∙◌}
use native.Mathlib.Omega.{arith}
use Prim.Native.Nat.{ℕ, ◌/◌, ◌%◌}
use Rattle.meaning.specs.Member.{here, there}
use Rattle.meaning.specs.Pack.{Text}
use Rattle.meaning.proofs.Cases.{case_on}
use Rattle.spelling.proofs.Slashes.{Slashless, slashless_append}
use Rattle.spelling.specs.Iri.{slash}
use Rattle.spelling.specs.Segment.{unreserved, hex_digit, spelled_byte, segment, percent}

-- ---- one digit

pub hex_inj : (m n : ℕ) → hex_digit m ≡ hex_digit n → m ≡ n
unfolding hex_digit
hex_inj m n h =
    case_on (ltb m 10)
    (λ p. case_on (ltb n 10) (λ q. omega (arith, rw (p, q) at h)) (λ q. omega (arith, rw (p, q) at h, ltb-true m 10 p, ltb-false n 10 q)))
    (λ p. case_on (ltb n 10) (λ q. omega (arith, rw (p, q) at h, ltb-false m 10 p, ltb-true n 10 q)) (λ q. omega (arith, rw (p, q) at h)))

hex_not_slash : (n : ℕ) → slash ≡ hex_digit n → ⊥
unfolding hex_digit
hex_not_slash n h = case_on (ltb n 10) (λ p. omega (arith, rw p at h)) (λ p. omega (arith, rw p at h))

-- ---- one byte

-- "%" and "/" do not stay
stays_not_percent : (b : ℕ) → unreserved b ≡ true → b ≡ percent → ⊥
unfolding unreserved
stays_not_percent b t e = true≢false (sym t ∙ ap unreserved e)

stays_not_slash : (b : ℕ) → unreserved b ≡ true → slash ≡ b → ⊥
unfolding unreserved
stays_not_slash b t e = true≢false (sym t ∙ ap unreserved (sym e))

pub byte_stays : (b : ℕ) → unreserved b ≡ true → spelled_byte b ≡ b ∷ []
unfolding spelled_byte
byte_stays b e = rw e

pub byte_escaped : (b : ℕ) → unreserved b ≡ false → spelled_byte b ≡ percent ∷ hex_digit (b / 16) ∷ hex_digit (b % 16) ∷ []
unfolding spelled_byte
byte_escaped b e = rw e

-- a spelled byte is cut off in one way
byte_cut : (b c : ℕ) (s t : Text) → spelled_byte b ++ s ≡ spelled_byte c ++ t → (b ≡ c) × (s ≡ t)
byte_cut b c s t h =
    case_on (unreserved b)
    (λ p. case_on (unreserved c)
    (λ q. let k = rw (byte_stays b p, byte_stays c q) at h in (head-eq_of_cons-eq k, tail-eq_of_cons-eq k))
    (λ q. absurd (stays_not_percent b p (head-eq_of_cons-eq (rw (byte_stays b p, byte_escaped c q) at h)))))
    (λ p. case_on (unreserved c)
    (λ q. absurd (stays_not_percent c q (sym (head-eq_of_cons-eq (rw (byte_escaped b p, byte_stays c q) at h)))))
    (λ q. let k = tail-eq_of_cons-eq (rw (byte_escaped b p, byte_escaped c q) at h) in
    let l = tail-eq_of_cons-eq k in
    let high : b / 16 ≡ c / 16 = hex_inj (b / 16) (c / 16) (head-eq_of_cons-eq k) in
    let low : b % 16 ≡ c % 16 = hex_inj (b % 16) (c % 16) (head-eq_of_cons-eq l) in
    (omega arith, tail-eq_of_cons-eq l)))

-- some byte is written
byte_some : (b : ℕ) (s : Text) → [] ≡ spelled_byte b ++ s → ⊥
byte_some b s h =
    case_on (unreserved b) (λ p. nil≢cons (rw (byte_stays b p) at h)) (λ p. nil≢cons (rw (byte_escaped b p) at h))

byte_slashless : (b : ℕ) → Slashless (spelled_byte b)
byte_slashless b = case_on (unreserved b) (λ p. rw (byte_stays b p) (one p)) (λ p. rw (byte_escaped b p) three)
  where
    one : unreserved b ≡ true → Slashless (b ∷ [])
    one p (there x4) = elim x4 [ ]
    one p (here e) = stays_not_slash b p e

    three : Slashless (percent ∷ hex_digit (b / 16) ∷ hex_digit (b % 16) ∷ [])
    three (here e) = let z : ◌≡◌ {A = ℕ} slash percent = e in omega arith
    three (there (here e)) = hex_not_slash (b / 16) e
    three (there (there (there x12))) = elim x12 [ ]
    three (there (there (here e))) = hex_not_slash (b % 16) e

-- ---- a segment

pub segment_inj : (v w : Text) → segment v ≡ segment w → v ≡ w
unfolding segment
segment_inj [] [] h = refl
segment_inj [] (c ∷ w) h = absurd (byte_some c (segment w) h)
segment_inj (b ∷ v) [] h = absurd (byte_some b (segment v) (sym h))
segment_inj (b ∷ v) (c ∷ w) h =
    let d = byte_cut b c (segment v) (segment w) h in
    let r = segment_inj v w d.1 in
    λ i. d.0 i ∷ r i

pub segment_slashless : (v : Text) → Slashless (segment v)
unfolding segment
segment_slashless [] = Memᴰ.not-nil
segment_slashless (b ∷ v) = slashless_append (byte_slashless b) (segment_slashless v)
