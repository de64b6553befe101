-- Laws of a set of keys that grows: nothing new, some more, one more. Assumes nothing.
use lib.ListN.{length, take, length-take}
use mathlib.Core.List.{List, ◌∷◌}
use mathlib.Core.Logic.{◌⊎◌, ◌↔◌, inl, inr, ⊎_elim, ⊎_swap, ⊎_map}
use mathlib.Core.Path.{◌≡◌, sym, subst}
use native.Mathlib.Omega.{arith}
use Prim.Native.Nat.{ℕ, ◌+◌, ◌≤◌, ◌<◌}
use Rattle.meaning.specs.Member.{◌∈◌, here, there}
use Rattle.meaning.specs.Ordered.{InOrder, before}
use Rattle.sets.proofs.Insertion.{added_list, present_list}
use Rattle.sets.specs.Ordered.{WasAdded, WasPresent, WasFull}
use Rattle.sets.specs.declared.ordered.Full.{Full}
use Rattle.sets.specs.OrderedSet.{Inserted, OrderedSet, members_of}
use Rattle.std.specs.Prelude.{Bool, false, true, Result, Ok, Err}
use Rattle.matching.specs.Plan.{GrownTo, GrownOver, KeysGrown}
use Rattle.meaning.proofs.Lists.SetLists.{list_as, own_list}
use Rattle.meaning.proofs.Lists.Counting.{over_sub}
use Rattle.meaning.proofs.Lists.Ordered.{<_strict, all_different}

-- the set is what it was where each key is there already
pub grown_same : (keys : List ℕ) (n : ℕ) {Q : ℕ → Type 0} → n ≤ length keys → InOrder ◌<◌ (take n keys) → ((k : ℕ) → Q k → k ∈ take n keys)
    → GrownTo n keys n Q keys
grown_same keys n h a f = record { room = h; list = record { ascending = a; members = λ k. (λ m. inl m, λ s. ⊎_elim (λ m. m) (f k) s) } }

pub grown_iff : {keys keys' : List ℕ} {m n : ℕ} {P Q : ℕ → Type 0} → ((k : ℕ) → P k ↔ Q k) → GrownTo m keys n P keys' → GrownTo m keys n Q keys'
grown_iff f g = record { room = g.room; list = list_as (λ k. (⊎_map (λ h. h) (f k).0, ⊎_map (λ h. h) (f k).1)) g.list }

pub over_iff : {keys : List ℕ} {n : ℕ} {P Q : ℕ → Type 0} → ((k : ℕ) → P k → Q k) → GrownOver keys n P → GrownOver keys n Q
over_iff f g = record { over = over_sub (λ k. ⊎_map (λ h. h) (f k)) g.over }

part : {A B C : Type 0} → (A ⊎ B) ⊎ C → A ⊎ (B ⊎ C)
part (inl (inl h)) = inl h
part (inl (inr p)) = inr (inl p)
part (inr q) = inr (inr q)

join : {A B C : Type 0} → A ⊎ (B ⊎ C) → (A ⊎ B) ⊎ C
join (inl h) = inl (inl h)
join (inr (inl p)) = inl (inr p)
join (inr (inr q)) = inr q

module _ {keys keys₁ : List ℕ} {n m : ℕ} {P Q : ℕ → Type 0} (g : GrownTo m keys n P keys₁) (e : length keys₁ ≡ length keys) where
  -- some keys, and then some more
  pub grown_more : {m₂ : ℕ} {keys₂ : List ℕ} → GrownTo m₂ keys₁ m Q keys₂ → GrownTo m₂ keys n (λ k. P k ⊎ Q k) keys₂
  grown_more h = record {
    room = rw e at h.room;
    list = list_as (λ k. (λ s. part (⊎_map (g.list.members k).0 (λ h. h) s), λ s. ⊎_map (g.list.members k).1 (λ h. h) (join s))) h.list;
  }

  pub over_more : GrownOver keys₁ m Q → GrownOver keys n (λ k. P k ⊎ Q k)
  over_more h = record { over = rw e at (over_sub (λ k s. part (⊎_map (g.list.members k).0 (λ h. h) s)) h.over) }

-- ---- one key

module _ (x n : ℕ) (keys keys' : List ℕ) (a : InOrder ◌<◌ (take n keys)) where
  pub one_added : WasAdded n x keys keys' → GrownTo (n + 1) keys n (λ k. k ≡ x) keys'
  one_added w = record { room = omega (arith, w.room); list = list_as (λ k. (⊎_swap, ⊎_swap)) (added_list w (own_list a)) }

  pub one_present : n ≤ length keys → WasPresent n x keys keys' → GrownTo n keys n (λ k. k ≡ x) keys'
  one_present h w = record { room = h; list = list_as (λ k. (⊎_swap, ⊎_swap)) (present_list w (own_list a)) }

  pub one_over : WasFull n x keys keys' → GrownOver keys n (λ k. k ≡ x)
  one_over w = record {
    over = record {
      some = x ∷ take n keys;
      differ = before {x = x} (λ y m e. w.new (subst (λ z. z ∈ take n keys) (sym e) m)) (all_different <_strict a);
      members = member;
      over = omega (arith, w.full, length-take n keys);
    };
  }
    where
      member : (k : ℕ) → k ∈ (x ∷ take n keys) → (k ∈ take n keys) ⊎ (k ≡ x)
      member k (here e) = inr e
      member k (there m) = inl m

-- ---- by cases on the answer

pub grown_by : {A : Type 0} (r : Result A Full) (a b : OrderedSet) {P Q : ℕ → Type 0} → ((k : ℕ) → P k ↔ Q k) → KeysGrown r P a b → KeysGrown r Q a b
grown_by (Ok _) a b f g = (grown_iff f g.0, g.1)
grown_by (Err _) a b f g = over_iff (λ k. (f k).0) g

pub grown_one : {x : ℕ} {a b : OrderedSet} → a.count ≤ length a.keys → InOrder ◌<◌ (members_of a) → (r : Result Bool Full) → Inserted r x a b → KeysGrown r (λ k. k ≡ x) a b
grown_one l o (Ok true) i = (rw i.count (one_added _ _ _ _ o i.answer), i.same)
grown_one l o (Ok false) i = (rw i.count (one_present _ _ _ _ o l i.answer), i.same)
grown_one l o (Err _) i = one_over _ _ _ _ o i.answer
