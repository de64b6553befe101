-- A mask of 16 bits as a type set: type t's bit is bit t, Literal's is bit 15. Assumes nothing.
use lib.Bits.{bit_and, bit_or, and_le_r, and_mask, or_lt}
use lib.Dec.{T, leb, leb→le, le→leb, lit<}
use lib.Pow.{pow-lt}
use mathlib.Core.Logic.{◌↔◌, ◌⊎◌, inl, inr}
use mathlib.Core.Path.{◌≡◌, refl, sym, ap, ◌∙◌, subst}
use native.Mathlib.Decide.{ℕ_discrete}
use native.Mathlib.Omega.{arith}
use Prim.Native.Nat.{ℕ, ◌-◌, ◌/◌, ◌%◌, ◌^◌, ◌≤◌, ◌<◌}
use Rattle.meaning.proofs.Cases.{case_lt}
use Rattle.meaning.proofs.Lists.Bits.{bit_one, bit_other, bit_shift, members, members_in, members_only, same_members, zero_bits}
use Rattle.meaning.proofs.Lists.Masks.{low_member, union_member}
use Rattle.meaning.proofs.Lists.Members.{find, ∈_dec}
use Rattle.meaning.proofs.Model.Same.{same_target}
use Rattle.meaning.specs.Limits.{literal_bit, literal_weight, type_sets}
use Rattle.meaning.specs.Member.{◌∈◌}
use Rattle.meaning.specs.Pack.{Target, Literal, type}
use Rattle.meaning.specs.Tables.{target_code, set_of_mask}
use Rattle.meaning.specs.TypeSet.{TypeSet, bit, ◌∈ₜ◌}

-- the types of a mask
abbrev pub types_in : ℕ → ℕ
types_in mask = bit_and mask (type_sets - 1)

pub types_small : (mask : ℕ) → types_in mask < type_sets
types_small mask = omega (arith, and_le_r mask (type_sets - 1))

pub type_in : (t m : ℕ) → (type t ∈ₜ set_of_mask m) ↔ ((t < literal_bit) × (bit t m ≡ 1))
unfolding set_of_mask
type_in t m = (
  λ h. (low_member 15 t m).0 (subst (λ x. bit t x ≡ 1) (sym (and_mask m 15)) h),
  λ h. subst (λ x. bit t x ≡ 1) (and_mask m 15) ((low_member 15 t m).1 h),
)

pub literal_in : (m : ℕ) → m < 2 ^ 16 → (Literal ∈ₜ set_of_mask m) ↔ (bit literal_bit m ≡ 1)
unfolding set_of_mask
literal_in m h = (
  λ l. let g : 2 ^ 15 ≤ m = leb→le (2 ^ 15) m l in bit_shift 15 m ∙ omega arith,
  λ e. let g : m / 2 ^ 15 % 2 ≡ 1 = sym (bit_shift 15 m) ∙ e in le→leb (2 ^ 15) m (omega arith),
)

-- every target of which a mask can speak
abbrev pub Coded : Target → Type 0
Coded R = (t : ℕ) → R ≡ type t → t < literal_bit

pub target_in : (R : Target) (m : ℕ) → m < 2 ^ 16 → (R ∈ₜ set_of_mask m) ↔ (Coded R × (bit (target_code R) m ≡ 1))
target_in Literal m h = (
  λ l. (λ t e. absurd (let z : ◌≡◌ {A = ℕ} 0 1 = cc in omega arith), (literal_in m h).0 l),
  λ q. (literal_in m h).1 q.1,
)
target_in (type t) m h = (
  λ l. let q = (type_in t m).0 l in (λ u e. let z : t ≡ u = cc in omega (arith, q.0), q.1),
  λ q. (type_in t m).1 (q.0 t refl, q.1),
)

-- different targets have different codes
pub code_injective : (R Q : Target) → Coded R → Coded Q → target_code R ≡ target_code Q → R ≡ Q
code_injective Literal Literal h k e = refl
code_injective Literal (type t) h k e = absurd (let l = k t refl in omega arith)
code_injective (type t) Literal h k e = absurd (let l = h t refl in omega arith)
code_injective (type t) (type u) h k e = ap type e

-- a union's members, and those of a set with one type added
module _ (R : Target) (a b : ℕ) (ha : a < 2 ^ 16) (hb : b < 2 ^ 16) where
  pub union_in : (R ∈ₜ set_of_mask (bit_or a b)) ↔ ((R ∈ₜ set_of_mask a) ⊎ (R ∈ₜ set_of_mask b))
  union_in = (λ h. let q = (target_in R (bit_or a b) lt).0 h in part q.0 ((union_member (target_code R) a b).0 q.1), whole)
    where
      lt : bit_or a b < 2 ^ 16
      lt = or_lt 16 a b ha hb

      part : Coded R → (bit (target_code R) a ≡ 1) ⊎ (bit (target_code R) b ≡ 1) → (R ∈ₜ set_of_mask a) ⊎ (R ∈ₜ set_of_mask b)
      part c (inl e) = inl ((target_in R a ha).1 (c, e))
      part c (inr e) = inr ((target_in R b hb).1 (c, e))

      whole : (R ∈ₜ set_of_mask a) ⊎ (R ∈ₜ set_of_mask b) → R ∈ₜ set_of_mask (bit_or a b)
      whole (inl h) = let q = (target_in R a ha).0 h in (target_in R (bit_or a b) lt).1 (q.0, (union_member (target_code R) a b).1 (inl q.1))
      whole (inr h) = let q = (target_in R b hb).0 h in (target_in R (bit_or a b) lt).1 (q.0, (union_member (target_code R) a b).1 (inr q.1))

pub one_in : (R : Target) (t : ℕ) → t < literal_bit → (R ∈ₜ set_of_mask (2 ^ t)) ↔ (R ≡ type t)
one_in R t h = (
  λ m. let q = (target_in R (2 ^ t) lt).0 m in is q.0 q.1 (ℕ_discrete (target_code R) t),
  λ e. (target_in R (2 ^ t) lt).1 (
    (λ u f. let z : t ≡ u = cc in omega arith),
    rw e (bit_one t),
  ),
)
  where
    lt : 2 ^ t < 2 ^ 16
    lt = pow-lt {i = t} {j = 16} (omega arith)

    is : Coded R → bit (target_code R) (2 ^ t) ≡ 1 → Dec (target_code R ≡ t) → R ≡ type t
    is c b (yes e) = code_injective R (type t) c (λ u f. let z : t ≡ u = cc in omega arith) e
    is c b (no n) = absurd (omega (arith, bit_other (target_code R) t n, b))

-- nothing is in the empty mask
pub none_in : (R : Target) → ¬ (R ∈ₜ set_of_mask 0)
none_in R h = let q = (target_in R 0 (lit< tt)).0 h in omega (arith, zero_bits (target_code R), q.1)

-- whether a target is in a mask
pub in? : (R : Target) (m : ℕ) → Dec (R ∈ₜ set_of_mask m)
in? R m = go (∈_dec same_target R (members (set_of_mask m)))
  where
    go : Dec (R ∈ members (set_of_mask m)) → Dec (R ∈ₜ set_of_mask m)
    go (yes i) = yes (members_only (set_of_mask m) R i)
    go (no n) = no (λ h. n (members_in (set_of_mask m) R h))

-- masks with the same members are one
mask_one : (a b : ℕ) → a < 2 ^ 16 → b < 2 ^ 16 → ((R : Target) → (R ∈ₜ set_of_mask a) ↔ (R ∈ₜ set_of_mask b)) → a ≡ b
unfolding set_of_mask
mask_one a b ha hb f =
    let e = same_members (set_of_mask a) (set_of_mask b) f in
    let l : leb literal_weight a ≡ leb literal_weight b = ap (λ (X : TypeSet). X.literal) e in
    let m : a % literal_weight ≡ b % literal_weight = ap (λ (X : TypeSet). X.mask) e in
    case_lt a literal_weight
    (λ x. case_lt b literal_weight (λ y. omega arith) (λ y. absurd (let z = leb→le literal_weight a (subst T (sym l) (le→leb literal_weight b y)) in omega arith)))
    (λ x. case_lt b literal_weight (λ y. absurd (let z = leb→le literal_weight b (subst T l (le→leb literal_weight a x)) in omega arith)) (λ y. omega arith))

-- a union that is not its first part has a new member
pub new_member : (a b : ℕ) → a < 2 ^ 16 → b < 2 ^ 16 → ¬ (bit_or a b ≡ a) → (R : Target) × (R ∈ₜ set_of_mask (bit_or a b)) × ¬ (R ∈ₜ set_of_mask a)
new_member a b ha hb differ = go (find {Q = λ R. ¬ (R ∈ₜ set_of_mask a)} (λ R. out R (in? R a)) (members (set_of_mask (bit_or a b))))
  where
    out : (R : Target) → Dec (R ∈ₜ set_of_mask a) → Dec (¬ (R ∈ₜ set_of_mask a))
    out R (yes h) = no (λ n. n h)
    out R (no n) = yes n

    back : (R : Target) → Dec (R ∈ₜ set_of_mask a) → ¬ ¬ (R ∈ₜ set_of_mask a) → R ∈ₜ set_of_mask a
    back R (yes h) n = h
    back R (no k) n = absurd (n k)

    go : ((R : Target) × (R ∈ members (set_of_mask (bit_or a b))) × ¬ (R ∈ₜ set_of_mask a)) ⊎ ((R : Target) → R ∈ members (set_of_mask (bit_or a b)) → ¬ ¬ (R ∈ₜ set_of_mask a))
        → (R : Target) × (R ∈ₜ set_of_mask (bit_or a b)) × ¬ (R ∈ₜ set_of_mask a)
    go (inl (R, i, n)) = (R, members_only (set_of_mask (bit_or a b)) R i, n)
    go (inr none) = absurd (differ (mask_one (bit_or a b) a (or_lt 16 a b ha hb) ha
        (λ R. (λ h. back R (in? R a) (none R (members_in (set_of_mask (bit_or a b)) R h)), λ h. (union_in R a b ha hb).1 (inl h)))))
