-- Laws of type sets: the same members make equal sets, the members in a list, the set of a list. Assumes nothing.
use lib.Arith.{bin_ind, digits_div, digits_mod}
use lib.Dec.{T, lit<}
use mathlib.Core.Bool.{Bool, true, false, decide}
use mathlib.Core.List.Memᴰ
use mathlib.Core.List.Memᴰ.{map as ∈-map}
use mathlib.Core.List.{List, [], ◌∷◌, ◌++◌, map}
use mathlib.Core.Logic.{◌↔◌, ◌⊎◌, inl, inr, ◌≢◌}
use mathlib.Core.Path.{◌≡◌, refl, sym, ap, ◌∙◌, subst}
use native.Mathlib.Decide.{ℕ_discrete}
use native.Mathlib.Nat.{div-add-mod', not-suc-le-zero, le_of_suc-le-suc, zero-lt-suc, pow-suc, div-one}
use native.Mathlib.Omega.{arith}
use Prim.Native.Nat.{ℕ, zero, suc, ◌+◌, ◌*◌, ◌/◌, ◌^◌, ◌<◌, suc-le-suc, max, min, ◌%◌}
use lib.Bits.{bit_and, bit_or, and_step, or_step}
use lib.Pow.{shr-shr}
use native.Mathlib.Numerals.{one-add}
use Rattle.meaning.proofs.Lists.Members.{below, below_in, selected, selected_in, selected_only, ∈_append, ∈_dec, ∈_map⁻¹}
use Rattle.meaning.proofs.Model.Same.{same_target}
use Rattle.meaning.specs.Member.{◌∈◌, here, there}
use Rattle.meaning.specs.Pack.{Literal, Target, type}
use Rattle.meaning.specs.TypeSet.{TypeSet, ◌∈ₜ◌, bit}

-- ---- equal members, equal sets

pub bit_lt : (t x : ℕ) → bit t x < 2
unfolding bit
bit_lt zero x = omega arith
bit_lt (suc t) x = bit_lt t (x / 2)

pub no_bits : (x : ℕ) → ((t : ℕ) → bit t x ≡ 0) → 0 ≡ x
unfolding bit
no_bits = bin_ind (λ x. ((t : ℕ) → bit t x ≡ 0) → 0 ≡ x) (λ h. refl) (λ x ih h. let low = h zero in let high = ih (λ t. h (suc t)) in omega arith)

pub zero_bits : (t : ℕ) → bit t 0 ≡ 0
unfolding bit
zero_bits zero = refl
zero_bits (suc t) = zero_bits t

pub bits_equal : (x y : ℕ) → ((t : ℕ) → bit t x ≡ bit t y) → x ≡ y
unfolding bit
bits_equal = bin_ind (λ x. (y : ℕ) → ((t : ℕ) → bit t x ≡ bit t y) → x ≡ y)
    (λ y h. no_bits y (λ t. sym (h t) ∙ zero_bits t))
    (λ x ih y h. let low = h zero in let high = ih (y / 2) (λ t. h (suc t)) in omega (arith, div-add-mod' x 2, div-add-mod' y 2))

-- bits that are 1 together are equal
pub bit_same : (t x y : ℕ) → (bit t x ≡ 1) ↔ (bit t y ≡ 1) → bit t x ≡ bit t y
bit_same t x y e = go (bit t x) (bit t y) (bit_lt t x) (bit_lt t y) e (ℕ_discrete (bit t x) 1) (ℕ_discrete (bit t y) 1)
  where
    go : (a b : ℕ) → a < 2 → b < 2 → (a ≡ 1) ↔ (b ≡ 1) → Dec (a ≡ 1) → Dec (b ≡ 1) → a ≡ b
    go a b ha hb e (yes p) q = p ∙ sym (e.0 p)
    go a b ha hb e (no p) (yes q) = absurd (p (e.1 q))
    go a b ha hb e (no p) (no q) = omega arith

pub same_members : (X Y : TypeSet) → ((S : Target) → (S ∈ₜ X) ↔ (S ∈ₜ Y)) → X ≡ Y
same_members X Y h =
    let l = flags X.literal Y.literal (h Literal) in
    let m = bits_equal X.mask Y.mask (λ t. bit_same t X.mask Y.mask (h (type t))) in
    λ i. record { literal = l i; mask = m i }
  where
    flags : (a b : Bool) → T a ↔ T b → a ≡ b
    flags true true e = refl
    flags true false e = absurd (e.0 tt)
    flags false true e = absurd (e.1 tt)
    flags false false e = refl

-- a mask whose bits are all below k is below 2 ^ k
pub mask_lt : (k x : ℕ) → ((t : ℕ) → bit t x ≡ 1 → t < k) → x < 2 ^ k
unfolding bit
mask_lt zero x h = let z = no_bits x (λ t. no_one t (bit t x) (bit_lt t x) (h t)) in omega arith
  where
    no_one : (t b : ℕ) → b < 2 → (b ≡ 1 → t < 0) → b ≡ 0
    no_one t b l f = go (ℕ_discrete b 1)
      where
        go : Dec (b ≡ 1) → b ≡ 0
        go (yes e) = absurd (not-suc-le-zero (f e))
        go (no n) = omega arith
mask_lt (suc k) x h = let r = mask_lt k (x / 2) (λ t e. le_of_suc-le-suc (h (suc t) e)) in rw pow-suc (omega arith)

-- ---- what the program's operations on masks do to members

-- the bit is that of the mask shifted down
pub bit_shift : (t x : ℕ) → bit t x ≡ x / 2 ^ t % 2
unfolding bit
bit_shift zero x = rw div-one
bit_shift (suc t) x = bit_shift t (x / 2) ∙ ap (λ (y : ℕ). y % 2) (shr-shr x 1 t ∙ ap (λ (k : ℕ). x / 2 ^ k) (one-add t))

-- `|`: the union
pub bit_or_lem : (t x y : ℕ) → bit t (bit_or x y) ≡ max (bit t x) (bit t y)
unfolding bit
bit_or_lem zero x y = ap (λ (z : ℕ). z % 2) (or_step x y) ∙ digits_mod (bit_or (x / 2) (y / 2)) (omega arith)
bit_or_lem (suc t) x y =
    ap (λ (z : ℕ). bit t (z / 2)) (or_step x y) ∙ ap (bit t) (digits_div (bit_or (x / 2) (y / 2)) {m = 2} {r = max (x % 2) (y % 2)} (omega arith)) ∙ bit_or_lem t (x / 2) (y / 2)

-- `&`: the intersection
pub bit_and_lem : (t x y : ℕ) → bit t (bit_and x y) ≡ min (bit t x) (bit t y)
unfolding bit
bit_and_lem zero x y = ap (λ (z : ℕ). z % 2) (and_step x y) ∙ digits_mod (bit_and (x / 2) (y / 2)) (omega arith)
bit_and_lem (suc t) x y =
    ap (λ (z : ℕ). bit t (z / 2)) (and_step x y) ∙ ap (bit t) (digits_div (bit_and (x / 2) (y / 2)) {m = 2} {r = min (x % 2) (y % 2)} (omega arith)) ∙ bit_and_lem t (x / 2) (y / 2)

-- a single type's mask
pub bit_one : (t : ℕ) → bit t (2 ^ t) ≡ 1
unfolding bit
bit_one zero = refl
bit_one (suc t) = ap (bit t) (ap (λ (y : ℕ). y / 2) (pow-suc 2 t) ∙ omega arith) ∙ bit_one t

pub bit_other : (t u : ℕ) → t ≢ u → bit t (2 ^ u) ≡ 0
unfolding bit
bit_other zero zero n = absurd (n refl)
bit_other zero (suc u) n = ap (λ (y : ℕ). y % 2) (pow-suc 2 u) ∙ omega arith
bit_other (suc t) zero n = zero_bits t
bit_other (suc t) (suc u) n = ap (bit t) (ap (λ (y : ℕ). y / 2) (pow-suc 2 u) ∙ omega arith) ∙ bit_other t u (λ e. n (ap suc e))

-- ---- the members, listed

pub bit_bound : (t x : ℕ) → bit t x ≡ 1 → t < x
unfolding bit
bit_bound zero x e = omega arith
bit_bound (suc t) x e = let h = bit_bound t (x / 2) e in omega arith

unfoldable pub flag : Bool → List Target
flag true = Literal ∷ []
flag false = []

unfoldable pub has_bit : (x t : ℕ) → Dec (bit t x ≡ 1)
unfolding bit ℕ_discrete
has_bit x t = ℕ_discrete (bit t x) 1

unfoldable pub members : TypeSet → List Target
unfolding below flag has_bit selected
members X = flag X.literal ++ map type (selected (has_bit X.mask) (below X.mask))

pub members_in : (X : TypeSet) (S : Target) → S ∈ₜ X → S ∈ members X
unfolding members flag
members_in X Literal h = ∈_append (flag X.literal) _ (inl (go X.literal h))
  where
    go : (b : Bool) → T b → Literal ∈ flag b
    go true h = here refl
    go false h = absurd h
members_in X (type t) h =
    ∈_append (flag X.literal) _ (inr (∈-map type (selected_in (has_bit X.mask) (below_in t X.mask (bit_bound t X.mask h)) h)))

pub members_only : (X : TypeSet) (S : Target) → S ∈ members X → S ∈ₜ X
unfolding members flag
members_only X S h = go (Memᴰ.append_cases (flag X.literal) h)
  where
    lit : (b : Bool) → S ∈ flag b → (S ≡ Literal) × T b
    lit true (here e) = (e, tt)
    lit true (there i) = elim i [ ]
    lit false i = elim i [ ]

    go : (S ∈ flag X.literal) ⊎ (S ∈ map type (selected (has_bit X.mask) (below X.mask))) → S ∈ₜ X
    go (inl i) = let r = lit X.literal i in subst (λ R. R ∈ₜ X) (sym r.0) r.1
    go (inr i) =
        let r = ∈_map⁻¹ type (selected (has_bit X.mask) (below X.mask)) i in
        subst (λ R. R ∈ₜ X) (sym r.2) (selected_only (has_bit X.mask) (below X.mask) r.1).1

-- ---- the set of a list's elements

unfoldable pub digit : Bool → ℕ
digit true = 1
digit false = 0

unfoldable pub mask_of : ℕ → (ℕ → Bool) → ℕ
unfolding digit
mask_of zero f = 0
mask_of (suc n) f = mask_of n (λ t. f (suc t)) * 2 + digit (f 0)

digit_lt : (b : Bool) → digit b < 2
unfolding digit
digit_lt true = lit< tt
digit_lt false = lit< tt

bit_mask : (n t : ℕ) (f : ℕ → Bool) → t < n → bit t (mask_of n f) ≡ digit (f t)
unfolding bit mask_of
bit_mask zero t f h = absurd (not-suc-le-zero h)
bit_mask (suc n) zero f h = digits_mod (mask_of n (λ t. f (suc t))) (digit_lt (f 0))
bit_mask (suc n) (suc t) f h =
    ap (bit t) (digits_div (mask_of n (λ t. f (suc t))) (digit_lt (f 0))) ∙ bit_mask n t (λ t. f (suc t)) (le_of_suc-le-suc h)

bit_above : (n t : ℕ) (f : ℕ → Bool) → bit t (mask_of n f) ≡ 1 → t < n
unfolding bit mask_of
bit_above zero t f h = omega (arith, zero_bits t, h)
bit_above (suc n) zero f h = zero-lt-suc n
bit_above (suc n) (suc t) f h =
    suc-le-suc (bit_above n t (λ t. f (suc t)) (sym (ap (bit t) (digits_div (mask_of n (λ t. f (suc t))) (digit_lt (f 0)))) ∙ h))

unfoldable pub bound : List Target → ℕ
bound [] = 0
bound (Literal ∷ l) = bound l
bound (type t ∷ l) = max (suc t) (bound l)

in_bound : (t : ℕ) (l : List Target) → type t ∈ l → t < bound l
unfolding bound
in_bound t [] h = elim h [ ]
in_bound t (Literal ∷ l) (here e) = let z : ◌≡◌ {A = ℕ} 0 1 = cc in omega arith
in_bound t (Literal ∷ l) (there h) = in_bound t l h
in_bound t (type u ∷ l) (here e) = let z : t ≡ u = cc in omega arith
in_bound t (type u ∷ l) (there h) = let i = in_bound t l h in omega arith

unfoldable pub among : List Target → Target → Bool
unfolding decide same_target ∈_dec
among l S = decide (∈_dec same_target S l)

unfoldable pub set_of : List Target → TypeSet
unfolding among bound mask_of
set_of l = record { literal = among l Literal; mask = mask_of (bound l) (λ t. among l (type t)) }

pub test : {Q : Type 0} (d : Dec Q) → T (decide d) ↔ Q
unfolding decide
test (yes q) = (λ h. q, λ h. tt)
test (no n) = (λ h. absurd h, n)

digit_true : (b : Bool) → T b → digit b ≡ 1
unfolding digit
digit_true true h = refl
digit_true false h = absurd h

true_digit : (b : Bool) → digit b ≡ 1 → T b
unfolding digit
true_digit true h = tt
true_digit false h = omega arith

pub set_of_in : (l : List Target) (S : Target) → S ∈ l → S ∈ₜ set_of l
unfolding set_of among
set_of_in l Literal h = (test (∈_dec same_target Literal l)).1 h
set_of_in l (type t) h =
    bit_mask (bound l) t (λ u. among l (type u)) (in_bound t l h) ∙ digit_true (among l (type t)) ((test (∈_dec same_target (type t) l)).1 h)

pub set_of_only : (l : List Target) (S : Target) → S ∈ₜ set_of l → S ∈ l
unfolding set_of among
set_of_only l Literal h = (test (∈_dec same_target Literal l)).0 h
set_of_only l (type t) h =
    let i = bit_above (bound l) t (λ u. among l (type u)) h in
    (test (∈_dec same_target (type t) l)).0 (true_digit (among l (type t)) (sym (bit_mask (bound l) t (λ u. among l (type u)) i) ∙ h))
