-- Types marked in masks, match by match and rule by rule. Assumes nothing.
use lib.Bits.{bit_or}
use Rattle.std.specs.Prelude.{◌≡◌, ℕ, ◌+◌, ◌^◌, ◌<◌, ◌≤◌, ◌⊎◌, ◌↔◌, List, [], length, get_or, take, set}
use lib.Seq.{get_or-set_same, get_or-set_other, take_all}
use mathlib.Core.Logic.{inl, inr}
use mathlib.Core.Path.{refl, sym, ◌∙◌, subst}
use native.Mathlib.Decide.{ℕ_discrete}
use native.Mathlib.Omega.{arith}
use Prim.Native.Nat.{zero-le}
use Rattle.core_graph.proofs.Growing.{keys_more, keys_none, rules_more, rules_none}
use Rattle.core_graph.proofs.NodeKeys.{subject_in}
use Rattle.core_graph.specs.Collected.{FromKeys, FromRules, KnownMatch, TypesMarked, HeadType, subject_key}
use Rattle.core_graph.specs.Heads.{keys_of, kind_number, named_number}
use Rattle.meaning.specs.Limits.{literal_bit}
use Rattle.meaning.specs.Pack.{Target}
use Rattle.meaning.specs.Tables.{set_of_mask}
use Rattle.meaning.specs.TypeSet.{◌∈ₜ◌}
use Rattle.meaning.specs.Ordered.{InOrder}
use Rattle.sets.proofs.Rank.{rank_member}
use Rattle.sets.specs.Ordered.{rank_of}
use Rattle.shapes.proofs.Sets.{one_in, union_in}

-- ---- one match

pub place_inside : (nodes head : List ℕ) (k : ℕ) → InOrder ◌<◌ nodes → KnownMatch nodes head k → rank_of (subject_key head k) nodes < length nodes
place_inside nodes head k a known = (rank_member (subject_key head k) nodes a (known (subject_key head k) (subject_in head k refl))).inside

module _ (nodes head : List ℕ) (k : ℕ) (d : List ℕ) where
  pub mark_none : (kind_number head ≡ 0 → ⊥) → TypesMarked (HeadType nodes head k) d d
  mark_none n i R = (inl, back)
    where
      back : (R ∈ₜ set_of_mask (get_or d i 0)) ⊎ HeadType nodes head k (i, R) → R ∈ₜ set_of_mask (get_or d i 0)
      back (inl h) = h
      back (inr f) = absurd (n f.typing)

  pub mark_one : kind_number head ≡ 0 → (at : ℕ) → at ≡ rank_of (subject_key head k) nodes → at < length d → named_number head < literal_bit
      → get_or d at 0 < 2 ^ 16 → (w : ℕ) → w ≡ 2 ^ named_number head → w < 2 ^ 16 → TypesMarked (HeadType nodes head k) d (set d at (bit_or (get_or d at 0) w))
  mark_one z at e l t s w q v i R = go (ℕ_discrete i at)
    where
      after : List ℕ
      after = set d at (bit_or (get_or d at 0) w)

      go : Dec (i ≡ at) → (R ∈ₜ set_of_mask (get_or after i 0)) ↔ ((R ∈ₜ set_of_mask (get_or d i 0)) ⊎ HeadType nodes head k (i, R))
      go (yes a) = rw (a, get_or-set_same d at (bit_or (get_or d at 0) w) 0 l) (λ h. forth ((union_in R (get_or d at 0) w s v).0 h), λ h. (union_in R (get_or d at 0) w s v).1 (back h))
        where
          forth : (R ∈ₜ set_of_mask (get_or d at 0)) ⊎ (R ∈ₜ set_of_mask w) → (R ∈ₜ set_of_mask (get_or d at 0)) ⊎ HeadType nodes head k (at, R)
          forth (inl h) = inl h
          forth (inr h) = inr (record { typing = z; place = e; is = (one_in R (named_number head) t).0 (rw q at h) })

          back : (R ∈ₜ set_of_mask (get_or d at 0)) ⊎ HeadType nodes head k (at, R) → (R ∈ₜ set_of_mask (get_or d at 0)) ⊎ (R ∈ₜ set_of_mask w)
          back (inl h) = inl h
          back (inr f) = inr (rw q ((one_in R (named_number head) t).1 f.is))
      go (no n) = rw (get_or-set_other d at i (bit_or (get_or d at 0) w) 0 n) (inl, back)
        where
          back : (R ∈ₜ set_of_mask (get_or d i 0)) ⊎ HeadType nodes head k (i, R) → R ∈ₜ set_of_mask (get_or d i 0)
          back (inl h) = h
          back (inr f) = absurd (n (f.place ∙ sym e))

-- ---- one after another

marked_start : {X : ℕ × Target → Type 0} (d : List ℕ) → ((y : ℕ × Target) → ¬ X y) → TypesMarked X d d
marked_start {X} d none i R = (inl, back)
  where
    back : (R ∈ₜ set_of_mask (get_or d i 0)) ⊎ X (i, R) → R ∈ₜ set_of_mask (get_or d i 0)
    back (inl h) = h
    back (inr x) = absurd (none (i, R) x)

marked_then : {X Y Z : ℕ × Target → Type 0} (d₀ d d' : List ℕ) → ((y : ℕ × Target) → (X y ⊎ Y y) ↔ Z y) → TypesMarked X d₀ d → TypesMarked Y d d'
    → TypesMarked Z d₀ d'
marked_then {X} {Y} {Z} d₀ d d' both f g i R = (λ h. forth ((g i R).0 h), λ h. (g i R).1 (back h))
  where
    forth : (R ∈ₜ set_of_mask (get_or d i 0)) ⊎ Y (i, R) → (R ∈ₜ set_of_mask (get_or d₀ i 0)) ⊎ Z (i, R)
    forth (inl h) = go ((f i R).0 h)
      where
        go : (R ∈ₜ set_of_mask (get_or d₀ i 0)) ⊎ X (i, R) → (R ∈ₜ set_of_mask (get_or d₀ i 0)) ⊎ Z (i, R)
        go (inl k) = inl k
        go (inr x) = inr ((both (i, R)).0 (inl x))
    forth (inr y) = inr ((both (i, R)).0 (inr y))

    back : (R ∈ₜ set_of_mask (get_or d₀ i 0)) ⊎ Z (i, R) → (R ∈ₜ set_of_mask (get_or d i 0)) ⊎ Y (i, R)
    back (inl h) = inl ((f i R).1 (inl h))
    back (inr z) = go ((both (i, R)).1 z)
      where
        go : X (i, R) ⊎ Y (i, R) → (R ∈ₜ set_of_mask (get_or d i 0)) ⊎ Y (i, R)
        go (inl x) = inl ((f i R).1 (inr x))
        go (inr y) = inr y

-- those of the first i matches are marked
pub record KeysMarked (X : ℕ → ℕ × Target → Type 0) (keys : List ℕ) (i : ℕ) (d₀ d : List ℕ) : Type 0 where
  pub within : i ≤ length keys
  pub long : length d ≡ length d₀
  pub marked : TypesMarked (FromKeys X (take i keys)) d₀ d

pub marks_start : (X : ℕ → ℕ × Target → Type 0) (keys d : List ℕ) → KeysMarked X keys 0 d d
marks_start X keys d = record { within = zero-le; long = refl; marked = marked_start d (keys_none keys) }

module _ {X : ℕ → ℕ × Target → Type 0} {keys : List ℕ} {i : ℕ} {d₀ d : List ℕ} (k : KeysMarked X keys i d₀ d) where
  pub marks_again : i < length keys → (d' : List ℕ) → TypesMarked (X (get_or keys i 0)) d d' → length d' ≡ length d → KeysMarked X keys (i + 1) d₀ d'
  marks_again h d' g l = record { within = omega arith; long = l ∙ k.long; marked = marked_then d₀ d d' (keys_more X keys i h) k.marked g }

  pub marks_done : length keys ≤ i → TypesMarked (FromKeys X keys) d₀ d
  marks_done h = subst (λ (xs : List ℕ). TypesMarked (FromKeys X xs) d₀ d) (take_all i keys h) k.marked

-- those of the first i rules are marked
pub record RulesMarked (X : List ℕ → ℕ → ℕ × Target → Type 0) (rules : List (List ℕ)) (heads counts : List ℕ) (i : ℕ) (d₀ d : List ℕ) : Type 0 where
  pub long : length d ≡ length d₀
  pub marked : TypesMarked (FromRules X rules i heads counts) d₀ d

pub all_start : (X : List ℕ → ℕ → ℕ × Target → Type 0) (rules : List (List ℕ)) (heads counts d : List ℕ) → RulesMarked X rules heads counts 0 d d
all_start X rules heads counts d = record { long = refl; marked = marked_start d rules_none }

module _ {X : List ℕ → ℕ → ℕ × Target → Type 0} {rules : List (List ℕ)} {heads counts : List ℕ} {i : ℕ} {d₀ d : List ℕ}
    (k : RulesMarked X rules heads counts i d₀ d) where
  pub all_again : (d' : List ℕ) → TypesMarked (FromKeys (X (get_or rules i [])) (keys_of heads counts i)) d d' → length d' ≡ length d
      → RulesMarked X rules heads counts (i + 1) d₀ d'
  all_again d' g l = record { long = l ∙ k.long; marked = marked_then d₀ d d' (rules_more i) k.marked g }

  pub all_done : {count : ℕ} → i ≡ count → TypesMarked (FromRules X rules count heads counts) d₀ d
  all_done e = subst (λ c. TypesMarked (FromRules X rules c heads counts) d₀ d) e k.marked
