-- Numbers added to an ordered set in a slice, one after another: the set holds those of one step and then those of the
-- next, or is too large. Assumes nothing.
use Rattle.std.specs.Prelude.{◌≡◌, ℕ, ◌+◌, ◌<◌, ◌≤◌, ◌⊎◌, ◌↔◌, List, [], length, get_or, take}
use lib.ListN.{length-take}
use mathlib.Core.Logic.{inl, inr, ⊎_swap}
use mathlib.Core.Path.{refl, subst}
use native.Mathlib.Decide.{dec_lt}
use native.Mathlib.Omega.{arith}
use Rattle.core_graph.specs.Collected.{Beyond, FromKeys, FromRules, Grown, SetGrown}
use Rattle.core_graph.specs.Heads.{keys_of}
use Rattle.sets.specs.declared.ordered.Full.{Full}
use Rattle.std.specs.Prelude.{Bool, false, true, Ok, Err}
use Rattle.meaning.specs.Member.{◌∈◌}
use Rattle.meaning.specs.Ordered.{InOrder}
use Rattle.sets.proofs.Insert.{insert_ascending, insert_length, insert_only}
use Rattle.sets.proofs.Insertion.{added_list, present_list}
use Rattle.sets.proofs.Slices.{same_then}
use Rattle.sets.specs.OrderedSet.{Inserted, OrderedSet, members_of}
use Rattle.sets.specs.Ordered.{WasAdded, WasFull, WasPresent, insert_sorted}
use Rattle.meaning.proofs.Lists.SetLists.{list_as, own_list}
use Rattle.meaning.proofs.Lists.Members.{front_more, take_in}

-- ---- one number

module _ {n x : ℕ} {d d' : List ℕ} (l : n ≤ length d) (a : InOrder ◌<◌ (take n d)) where
  pub grown_added : WasAdded n x d d' → length d' ≡ length d → SetGrown (λ y. y ≡ x) n (n + 1) d d'
  grown_added w k = record { fits = omega (arith, w.room); list = list_as (λ y. (⊎_swap, ⊎_swap)) (added_list w (own_list a)) }

  pub grown_present : WasPresent n x d d' → length d' ≡ length d → SetGrown (λ y. y ≡ x) n n d d'
  grown_present w k = record { fits = omega arith; list = list_as (λ y. (⊎_swap, ⊎_swap)) (present_list w (own_list a)) }

  pub grown_full : WasFull n x d d' → Beyond (length d) (λ y. (y ∈ take n d) ⊎ (y ≡ x))
  grown_full w = record {
    some = insert_sorted x (take n d);
    ascending = insert_ascending x a;
    members = λ y m. ⊎_swap (insert_only x y (take n d) m);
    over = omega (arith, insert_length x (take n d) w.new, length-take n d, w.full);
  }

module _ {x : ℕ} {a b : OrderedSet} (l : a.count ≤ length a.keys) (o : InOrder ◌<◌ (members_of a)) where
  pub grows_one : (added : Bool) → Inserted (Ok added) x a b → Grown (λ y. y ≡ x) a b
  grows_one true i = (rw i.count (grown_added l o i.answer i.same.long), i.same)
  grows_one false i = (rw i.count (grown_present l o i.answer i.same.long), i.same)

  pub one_beyond : {e : Full} → Inserted (Err e) x a b → Beyond (length a.keys) (λ y. (y ∈ members_of a) ⊎ (y ≡ x))
  one_beyond i = grown_full l o i.answer

-- ---- no number

pub grown_start : {X : ℕ → Type 0} (n : ℕ) (d : List ℕ) → n ≤ length d → InOrder ◌<◌ (take n d) → ((y : ℕ) → ¬ X y) → SetGrown X n n d d
grown_start {X} n d l a none = record { fits = l; list = list_as (λ y. (inl, only y)) (own_list a) }
  where
    only : (y : ℕ) → (y ∈ take n d) ⊎ X y → y ∈ take n d
    only y (inl m) = m
    only y (inr q) = absurd (none y q)

-- ---- those of X and then those of Y, which together are those of Z

pub beyond_as : {k : ℕ} {Q Q' : ℕ → Type 0} → ((y : ℕ) → Q y → Q' y) → Beyond k Q → Beyond k Q'
beyond_as h b = record { some = b.some; ascending = b.ascending; members = λ y m. h y (b.members y m); over = b.over }

module _ {X Y Z : ℕ → Type 0} {n m : ℕ} {d₀ d : List ℕ} (both : (y : ℕ) → (X y ⊎ Y y) ↔ Z y) (g : SetGrown X n m d₀ d) where
  forth : (y : ℕ) → (y ∈ take m d) ⊎ Y y → (y ∈ take n d₀) ⊎ Z y
  forth y (inl i) = go ((g.list.members y).0 i)
    where
      go : (y ∈ take n d₀) ⊎ X y → (y ∈ take n d₀) ⊎ Z y
      go (inl k) = inl k
      go (inr x) = inr ((both y).0 (inl x))
  forth y (inr q) = inr ((both y).0 (inr q))

  back : (y : ℕ) → (y ∈ take n d₀) ⊎ Z y → (y ∈ take m d) ⊎ Y y
  back y (inl k) = inl ((g.list.members y).1 (inl k))
  back y (inr z) = go ((both y).1 z)
    where
      go : X y ⊎ Y y → (y ∈ take m d) ⊎ Y y
      go (inl x) = inl ((g.list.members y).1 (inr x))
      go (inr q) = inr q

  pub grown_then : {m' : ℕ} {d' : List ℕ} → SetGrown Y m m' d d' → SetGrown Z n m' d₀ d'
  grown_then h = record { fits = h.fits; list = list_as (λ y. (forth y, back y)) h.list }

  pub beyond_then : length d ≡ length d₀ → Beyond (length d) (λ y. (y ∈ take m d) ⊎ Y y) → Beyond (length d₀) (λ y. (y ∈ take n d₀) ⊎ Z y)
  beyond_then e b = subst (λ k. Beyond k (λ y. (y ∈ take n d₀) ⊎ Z y)) e (beyond_as forth b)

module _ {X Y Z : ℕ → Type 0} {a b : OrderedSet} (both : (y : ℕ) → (X y ⊎ Y y) ↔ Z y) (g : Grown X a b) where
  pub grows_then : {c : OrderedSet} → Grown Y b c → Grown Z a c
  grows_then h = (grown_then both g.0 h.0, same_then g.1 h.1)

  pub full_then : Beyond (length b.keys) (λ y. (y ∈ members_of b) ⊎ Y y) → Beyond (length a.keys) (λ y. (y ∈ members_of a) ⊎ Z y)
  full_then w = beyond_then both g.0 g.1.long w

-- the same numbers, said in another way
module _ {X Y : ℕ → Type 0} (a : OrderedSet) (h : (y : ℕ) → X y ↔ Y y) where
  ahead : (y : ℕ) → (y ∈ members_of a) ⊎ X y → (y ∈ members_of a) ⊎ Y y
  ahead y (inl m) = inl m
  ahead y (inr x) = inr ((h y).0 x)

  behind : (y : ℕ) → (y ∈ members_of a) ⊎ Y y → (y ∈ members_of a) ⊎ X y
  behind y (inl m) = inl m
  behind y (inr q) = inr ((h y).1 q)

  pub grows_as : {b : OrderedSet} → Grown X a b → Grown Y a b
  grows_as g = (record { fits = g.0.fits; list = list_as (λ y. (ahead y, behind y)) g.0.list }, g.1)

  pub full_as : Beyond (length a.keys) (λ y. (y ∈ members_of a) ⊎ X y) → Beyond (length a.keys) (λ y. (y ∈ members_of a) ⊎ Y y)
  full_as w = beyond_as ahead w

-- ---- match by match, and rule by rule

module _ {A : Type 0} where
  pub keys_none : {X : ℕ → A → Type 0} (xs : List ℕ) (y : A) → ¬ FromKeys X (take 0 xs) y
  keys_none xs y f = elim f.listed [ ]

  pub keys_more : (X : ℕ → A → Type 0) (xs : List ℕ) (i : ℕ) → i < length xs → (y : A)
      → (FromKeys X (take i xs) y ⊎ X (get_or xs i 0) y) ↔ FromKeys X (take (i + 1) xs) y
  keys_more X xs i h y = (into, λ f. out f ((front_more xs i h f.key).0 f.listed))
    where
      into : FromKeys X (take i xs) y ⊎ X (get_or xs i 0) y → FromKeys X (take (i + 1) xs) y
      into (inl f) = record { key = f.key; listed = (front_more xs i h f.key).1 (inl f.listed); gives = f.gives }
      into (inr q) = record { key = get_or xs i 0; listed = (front_more xs i h (get_or xs i 0)).1 (inr refl); gives = q }

      out : (f : FromKeys X (take (i + 1) xs) y) → (f.key ∈ take i xs) ⊎ (f.key ≡ get_or xs i 0) → FromKeys X (take i xs) y ⊎ X (get_or xs i 0) y
      out f (inl m) = inl (record { key = f.key; listed = m; gives = f.gives })
      out f (inr e) = inr (subst (λ k. X k y) e f.gives)

  module _ {X : List ℕ → ℕ → A → Type 0} {rules : List (List ℕ)} {heads counts : List ℕ} where
    pub rules_none : (y : A) → ¬ FromRules X rules 0 heads counts y
    rules_none y f = omega (arith, f.below)

    pub rules_more : (i : ℕ) (y : A)
        → (FromRules X rules i heads counts y ⊎ FromKeys (X (get_or rules i [])) (keys_of heads counts i) y) ↔ FromRules X rules (i + 1) heads counts y
    rules_more i y = (into, λ f. out f (below_more f.rule f.below))
      where
        below_more : (r : ℕ) → r < i + 1 → (r < i) ⊎ (r ≡ i)
        below_more r h = go (dec_lt r i)
          where
            go : Dec (r < i) → (r < i) ⊎ (r ≡ i)
            go (yes l) = inl l
            go (no k) = inr (omega arith)

        into : FromRules X rules i heads counts y ⊎ FromKeys (X (get_or rules i [])) (keys_of heads counts i) y → FromRules X rules (i + 1) heads counts y
        into (inl f) = record { rule = f.rule; below = omega (arith, f.below); gives = f.gives }
        into (inr g) = record { rule = i; below = omega arith; gives = g }

        out : (f : FromRules X rules (i + 1) heads counts y) → (f.rule < i) ⊎ (f.rule ≡ i)
            → FromRules X rules i heads counts y ⊎ FromKeys (X (get_or rules i [])) (keys_of heads counts i) y
        out f (inl l) = inl (record { rule = f.rule; below = l; gives = f.gives })
        out f (inr e) = inr (subst (λ r. FromKeys (X (get_or rules r [])) (keys_of heads counts r) y) e f.gives)

-- a part of the matches gives no more than all
pub keys_part : {A : Type 0} {X : ℕ → A → Type 0} {xs : List ℕ} (i : ℕ) {y : A} → FromKeys X (take i xs) y → FromKeys X xs y
keys_part i f = record { key = f.key; listed = take_in i f.listed; gives = f.gives }

pub rules_part : {A : Type 0} {X : List ℕ → ℕ → A → Type 0} {rules : List (List ℕ)} {i count : ℕ} {heads counts : List ℕ} {y : A} → i ≤ count
    → FromRules X rules i heads counts y → FromRules X rules count heads counts y
rules_part h f = record { rule = f.rule; below = omega (arith, f.below); gives = f.gives }
