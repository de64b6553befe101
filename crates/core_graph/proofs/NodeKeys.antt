-- The node keys of one match: the subject's alone, or the subject's and the object's. Assumes nothing.
use borrow.Author.Tests.{eq-eqb, ne_eqb}
use Rattle.std.specs.Prelude.{◌≡◌, ℕ, ◌⊎◌, ◌↔◌, List, [], ◌∷◌, length, take}
use mathlib.Core.List.Memᴰ
use mathlib.Core.Logic.{inl, inr}
use Rattle.core_graph.proofs.Growing.{beyond_as}
use Rattle.core_graph.specs.Collected.{Beyond, Grown, node_keys, object_key, subject_key}
use Rattle.core_graph.specs.Heads.{kind_number}
use Rattle.meaning.specs.Member.{◌∈◌, here, there}
use Rattle.meaning.proofs.Lists.SetLists.{list_as}
use Rattle.sets.specs.OrderedSet.{OrderedSet, members_of}

module _ (head : List ℕ) (k : ℕ) where
  pub keys_of_type : kind_number head ≡ 0 → node_keys head k ≡ subject_key head k ∷ []
  unfolding node_keys
  keys_of_type e = rw (eq-eqb (kind_number head) 0 e)

  pub keys_of_link : (kind_number head ≡ 0 → ⊥) → node_keys head k ≡ subject_key head k ∷ object_key head k ∷ []
  unfolding node_keys
  keys_of_link n = rw (ne_eqb (kind_number head) 0 n)

  -- the subject's is one in any case
  pub subject_in : {y : ℕ} → y ≡ subject_key head k → y ∈ node_keys head k
  unfolding node_keys
  subject_in e = here e

  two : {y x z : ℕ} → y ∈ (x ∷ z ∷ []) → (y ≡ x) ⊎ (y ≡ z)
  two (here e) = inl e
  two (there m) = inr (Memᴰ.eq_of_singleton m)

  both : {y x z : ℕ} → (y ≡ x) ⊎ (y ≡ z) → y ∈ (x ∷ z ∷ [])
  both (inl e) = here e
  both (inr e) = there (here e)

  pub link_keys : (kind_number head ≡ 0 → ⊥) → (y : ℕ) → ((y ≡ subject_key head k) ⊎ (y ≡ object_key head k)) ↔ (y ∈ node_keys head k)
  link_keys n y = rw (keys_of_link n) (both, two)

  pub type_keys : {a b : OrderedSet} → kind_number head ≡ 0 → Grown (λ y. y ≡ subject_key head k) a b → Grown (λ y. y ∈ node_keys head k) a b
  type_keys {a} e g = (record { fits = g.0.fits; list = list_as (λ y. (forth y, back y)) g.0.list }, g.1)
    where
      forth : (y : ℕ) → (y ∈ members_of a) ⊎ (y ≡ subject_key head k) → (y ∈ members_of a) ⊎ (y ∈ node_keys head k)
      forth y (inl m) = inl m
      forth y (inr q) = inr (subject_in q)

      back : (y : ℕ) → (y ∈ members_of a) ⊎ (y ∈ node_keys head k) → (y ∈ members_of a) ⊎ (y ≡ subject_key head k)
      back y (inl m) = inl m
      back y (inr m) = inr (Memᴰ.eq_of_singleton (rw (keys_of_type e) at m))

  pub subject_beyond : (n : ℕ) (d : List ℕ) → Beyond (length d) (λ y. (y ∈ take n d) ⊎ (y ≡ subject_key head k))
      → Beyond (length d) (λ y. (y ∈ take n d) ⊎ (y ∈ node_keys head k))
  subject_beyond n d = beyond_as go
    where
      go : (y : ℕ) → (y ∈ take n d) ⊎ (y ≡ subject_key head k) → (y ∈ take n d) ⊎ (y ∈ node_keys head k)
      go y (inl m) = inl m
      go y (inr q) = inr (subject_in q)
