-- A run of bytes: the part that code names, and one of which any byte passes; the bytes of a prefix. Assumes nothing.
use lib.ListN.{drop, take}
use lib.Seq.{slice}
use lib.Dec.{eqb}
use mathlib.Core.Bool.{Bool, true, false, ◌||◌}
use mathlib.Core.List.{List, [], ◌∷◌}
use mathlib.Core.Path.{refl, ◌≡◌, sym, ap, ◌∙◌}
use native.Mathlib.Nat.{add-sub_cancel_left}
use Prim.Native.Nat.{ℕ, ◌+◌, ◌-◌}
use Rattle.meaning.proofs.Lists.Parts.{slice_by}
use Rattle.meaning.proofs.Lists.Library.{contains_elem}
use Rattle.meaning.specs.Tests.{elem, every, within}
use Rattle.pack.specs.Records.{any_byte, prefix_byte}
use Rattle.std.specs.Char.{is_ascii_alphanumeric}
use Rattle.std.specs.List.{list_any}

-- s[at..at + n]
pub part_is : (at n : ℕ) (s : List ℕ) → take (at + n - at) (drop at s) ≡ slice at (at + n) s
part_is at n s = ap (λ (k : ℕ). take k (drop at s)) (add-sub_cancel_left at n) ∙ slice_by at n s

-- Any byte passes.
pub any_passes : (xs : List ℕ) → every any_byte xs ≡ true
any_passes [] = refl
any_passes (x ∷ xs) = any_passes xs

-- ---- the bytes of a prefix

turned : (a b c : Bool) → ((a || b) || c) ≡ ((c || b) || a)
turned true true true = refl
turned true true false = refl
turned true false true = refl
turned true false false = refl
turned false true true = refl
turned false true false = refl
turned false false true = refl
turned false false false = refl

abbrev marks : List ℕ
marks = 45 ∷ 46 ∷ 95 ∷ 126 ∷ 58 ∷ 47 ∷ 35 ∷ []

prefix_is : (b : ℕ) → (is_ascii_alphanumeric b || elem b marks) ≡ prefix_byte b
unfolding prefix_byte
prefix_is b = ap (λ (x : Bool). x || elem b marks) (turned (within 48 57 b) (within 65 90 b) (within 97 122 b))

pub prefix_letter : (b : ℕ) {r : Bool} → r ≡ is_ascii_alphanumeric b → r ≡ true → r ≡ prefix_byte b
prefix_letter b e t = t ∙ ap (λ (x : Bool). x || elem b marks) (sym t ∙ e) ∙ prefix_is b

pub prefix_mark : (b : ℕ) {r x : Bool} → r ≡ is_ascii_alphanumeric b → r ≡ false → x ≡ list_any (λ y. eqb y b) marks → x ≡ prefix_byte b
prefix_mark b e f m = contains_elem b marks m ∙ ap (λ (y : Bool). y || elem b marks) (sym f ∙ e) ∙ prefix_is b
