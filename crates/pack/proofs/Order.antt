-- Laws of the checking order. Assumes nothing.
use mathlib.Core.Bool.{true, false}
use mathlib.Core.List.{List}
use mathlib.Core.Option.{none, some}
use mathlib.Core.Path.{◌≡◌, sym, ◌∙◌}
use native.Mathlib.Omega.{arith}
use Prim.Native.Nat.{ℕ}
use Rattle.meaning.specs.Pack.{Pack}
use Rattle.meaning.specs.WellFormed.{duplicates, prefix_clash, dangling}
use Rattle.pack.specs.Checked.{Checked, accepted, refused, first_true, on_pack, check_within, well_formed}
use Rattle.pack.specs.Contents.{bad_size}
use Rattle.pack.specs.Unpack.{unpack}

pub refused_3 : (s : List ℕ) → bad_size s ≡ true → well_formed s ≡ refused 3
unfolding well_formed check_within
refused_3 s e = rw (e, check_within)

module _ (s : List ℕ) (size : bad_size s ≡ false) where
  pub refused_4 : unpack s ≡ none → well_formed s ≡ refused 4
  unfolding well_formed check_within on_pack
  refused_4 e = rw (size, check_within, e)

  module _ (P : Pack) (read : unpack s ≡ some P) where
    pub refused_5 : duplicates P ≡ true → well_formed s ≡ refused 5
    unfolding well_formed check_within on_pack first_true
    refused_5 e = rw (size, check_within, read, e, first_true)

    pub refused_6 : duplicates P ≡ false → prefix_clash P ≡ true → well_formed s ≡ refused 6
    unfolding well_formed check_within on_pack first_true
    refused_6 a e = rw (size, check_within, read, a, first_true, e)

    pub refused_7 : duplicates P ≡ false → prefix_clash P ≡ false → dangling P ≡ true → well_formed s ≡ refused 7
    unfolding well_formed check_within on_pack first_true
    refused_7 a b e = rw (size, check_within, read, a, first_true, b, e)

    pub accepted_is : duplicates P ≡ false → prefix_clash P ≡ false → dangling P ≡ false → well_formed s ≡ accepted P
    unfolding well_formed check_within on_pack first_true
    accepted_is a b e = rw (size, check_within, read, a, first_true, b, e)

-- ---- a pack is refused by one number, or accepted as one pack

module _ {c : Checked} where
  pub one_pack : {P Q : Pack} → c ≡ accepted P → c ≡ accepted Q → P ≡ Q
  one_pack {P} {Q} x y = let z : ◌≡◌ {A = Checked} (accepted P) (accepted Q) = sym x ∙ y in cc

  pub one_number : {k m : ℕ} → c ≡ refused k → c ≡ refused m → k ≡ m
  one_number {k} {m} x y = let z : ◌≡◌ {A = Checked} (refused k) (refused m) = sym x ∙ y in cc

  pub not_both : {X : Type 0} {k : ℕ} {P : Pack} → c ≡ refused k → c ≡ accepted P → X
  not_both {k = k} {P = P} x y = let z : ◌≡◌ {A = Checked} (refused k) (accepted P) = sym x ∙ y in absurd (let w : ◌≡◌ {A = ℕ} 0 1 = cc in omega arith)
