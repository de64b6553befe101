-- Lists in order made of others: two one after the other, the front of one, none, one of a set that is said in another way. Assumes nothing.
use lib.ListN.{take}
use mathlib.Core.List.Memᴰ
use mathlib.Core.List.{List, [], ◌∷◌, ◌++◌}
use mathlib.Core.Logic.Iff
use mathlib.Core.Logic.{◌↔◌, ◌⊎◌, inl, inr}
use mathlib.Core.Path.{refl}
use Prim.Native.Nat.{ℕ, zero, suc}
use Rattle.meaning.proofs.Lists.Members.{take_in, ∈_append}
use Rattle.meaning.specs.Member.{◌∈◌, here, there}
use Rattle.meaning.specs.Ordered.{InOrder, ListOf, before, empty}

pub joined_order : {A : Type 0} {R : A → A → Type 0} (xs ys : List A) → InOrder R xs → InOrder R ys → ((x y : A) → x ∈ xs → y ∈ ys → R x y) → InOrder R (xs ++ ys)
joined_order [] ys a b h = b
joined_order {A} {R} (x ∷ xs) ys (before f a) b h = before all (joined_order xs ys a b (λ y z m n. h y z (there m) n))
  where
    by : (y : A) → (y ∈ xs) ⊎ (y ∈ ys) → R x y
    by y (inl m) = f y m
    by y (inr m) = h x y (here refl) m

    all : (y : A) → y ∈ (xs ++ ys) → R x y
    all y m = by y (Memᴰ.append_cases xs m)

pub in_order_take : {A : Type 0} {R : A → A → Type 0} (n : ℕ) {xs : List A} → InOrder R xs → InOrder R (take n xs)
in_order_take zero a = empty
in_order_take (suc n) empty = empty
in_order_take (suc n) (before p a) = before (λ y m. p y (take_in n m)) (in_order_take n a)

-- ---- lists of sets

pub joined_list : {A : Type 0} {R : A → A → Type 0} {Q S Z : A → Type 0} {xs ys : List A} → ListOf R Q xs → ListOf R S ys
    → ((x y : A) → Q x → S y → R x y) → ((x : A) → Z x ↔ (Q x ⊎ S x)) → ListOf R Z (xs ++ ys)
joined_list {A} {R} {Q} {S} {Z} {xs} {ys} a b o z = record {
  ascending = joined_order xs ys a.ascending b.ascending (λ x y m n. o x y ((a.members x).0 m) ((b.members y).0 n));
  members = λ x. (λ m. (z x).1 (forth x (Memᴰ.append_cases xs m)), λ q. ∈_append xs ys (back x ((z x).0 q)));
}
  where
    forth : (x : A) → (x ∈ xs) ⊎ (x ∈ ys) → Q x ⊎ S x
    forth x (inl m) = inl ((a.members x).0 m)
    forth x (inr m) = inr ((b.members x).0 m)

    back : (x : A) → Q x ⊎ S x → (x ∈ xs) ⊎ (x ∈ ys)
    back x (inl q) = inl ((a.members x).1 q)
    back x (inr s) = inr ((b.members x).1 s)

pub empty_list : {A : Type 0} {R : A → A → Type 0} {Q : A → Type 0} → ((x : A) → ¬ Q x) → ListOf R Q []
empty_list n = record { ascending = empty; members = λ x. (λ m. elim m [ ], λ q. absurd (n x q)) }

-- the same set
pub list_as : {A : Type 0} {R : A → A → Type 0} {Q Q' : A → Type 0} {xs : List A} → ((y : A) → Q y ↔ Q' y) → ListOf R Q xs → ListOf R Q' xs
list_as h l = record { ascending = l.ascending; members = λ y. Iff.trans (l.members y) (h y) }

-- a list in order is the list of its elements
pub own_list : {A : Type 0} {R : A → A → Type 0} {xs : List A} → InOrder R xs → ListOf R (λ x. x ∈ xs) xs
own_list a = record { ascending = a; members = λ x. (λ m. m, λ m. m) }
