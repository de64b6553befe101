-- Laws of finding a value by its segment, and of the parts of a text. Assumes nothing.
use borrow.Author.Tests.{ltb-false}
use lib.ListN.{drop, drop_of_length-le, get_or, length, take}
use mathlib.Core.Bool.{Bool, cond, true, false, not}
use mathlib.Core.List.{List}
use mathlib.Core.Option.{Option, none, some, map}
use mathlib.Core.Path.{◌≡◌, refl, sym, ap, ◌∙◌}
use native.Mathlib.Numerals.{add-one}
use native.Mathlib.Omega.{arith}
use Prim.Native.Nat.{ℕ, suc, ◌+◌, ◌-◌, ◌<◌, ◌≤◌}
use Rattle.checks.specs.Checked.{SettingLoaded}
use Rattle.iris.proofs.Loaded.{lent, value_at, value_length, value_start, values_many}
use Rattle.iris.specs.Read.{first_part, found_of}
use Rattle.std.specs.Prelude.{None, Some}
use Rattle.meaning.specs.Pack.{Pack, Text}
use Rattle.meaning.specs.Tests.{same_text}
use Rattle.pack.specs.Checked.{OfPack, accepted, well_formed}
use Rattle.spelling.specs.Iri.{slash}
use Rattle.spelling.specs.ReadBack.{find_by}
use Rattle.spelling.specs.Segment.{segment}
use Rattle.meaning.proofs.Cases.{case_on}
use Rattle.meaning.proofs.Lists.Places.{drop_entry}
use Rattle.std.proofs.lemmas.List.Recursion.{is_position_or_len}
use Rattle.std.specs.List.{position_or_len}
use Rattle.std.specs.Option.{unwrap_or}
use Rattle.std.specs.Prelude as Prelude
use lib.Dec.{ltb}
use Rattle.std.proofs.lemmas.List.Sums.{prefix_len-le-length}
use lib.Dec.{eqb}

-- ---- the first v values are others

abbrev values_of : Pack → List Text
values_of P = P.setting.values

pub record Finding (s part : Text) (v : ℕ) : Type 0 where
  pub is : OfPack s (λ P. map (λ w. v + w) (find_by segment (drop v P.setting.values) part) ≡ find_by segment P.setting.values part)

map_zero : (o : Option ℕ) → map (λ w. 0 + w) o ≡ o
map_zero none = refl
map_zero (some w) = ap some (let z : 0 + w ≡ w = omega arith in z)

map_suc : (v : ℕ) (o : Option ℕ) → map (λ w. v + w) (map suc o) ≡ map (λ w. v + 1 + w) o
map_suc v none = refl
map_suc v (some w) = ap some (let z : v + suc w ≡ v + 1 + w = omega arith in z)

pub finding_start : (s part : Text) → Finding s part 0
finding_start s part = record { is = λ P w. map_zero (find_by segment P.setting.values part) }

module _ {s part counts numbers : List ℕ} {v : ℕ} (l : SettingLoaded s counts numbers) (f : Finding s part v) where
  pub found_none : get_or counts 0 0 ≤ v → OfPack s (λ P. None ≡ found_of (find_by segment P.setting.values part))
  unfolding find_by found_of
  found_none h P w =
      let k : length (values_of P) ≤ v = omega (arith, values_many l P w) in
      let e : none ≡ find_by segment (values_of P) part = rw (drop_of_length-le (values_of P) k) at (f.is P w) in
      rw (← e)

  -- the test's answer on value v, whose text is lent by its numbers
  module _ (h : v < get_or counts 0 0) {r : Bool}
      (e : r ≡ same_text (segment (take (value_start numbers v + value_length numbers v - value_start numbers v) (drop (value_start numbers v) s))) part) where
    same : (P : Pack) (w : well_formed s ≡ accepted P) → r ≡ same_text (segment (value_at l h P w).it) part
    same P w = rw (lent (value_at l h P w).stands) at e

    pub found_again : r ≡ false → Finding s part (v + 1)
    unfolding find_by
    found_again q = record {
      is = λ P w.
          let x = value_at l h P w in
          sym (map_suc v (find_by segment (drop (v + 1) (values_of P)) part))
          ∙ rw add-one (rw (drop_entry (values_of P) v x.it x.listed, sym (same P w) ∙ q) at (f.is P w));
    }

    pub found_here : r ≡ true → OfPack s (λ P. Some v ≡ found_of (find_by segment P.setting.values part))
    unfolding find_by found_of
    found_here q P w =
        let x = value_at l h P w in
        let z : v + 0 ≡ v = omega arith in
        let g : some (v + 0) ≡ find_by segment (values_of P) part = rw (drop_entry (values_of P) v x.it x.listed, sym (same P w) ∙ q) at (f.is P w) in
        rw (← g, z)

-- ---- how many bytes stand before the first "/"

pub first_slash : (s : Text) → length (first_part s) ≡ position_or_len (λ b. eqb b slash) s
unfolding first_part
first_slash = is_position_or_len (λ s. length (first_part s)) (λ b. eqb b slash) refl (λ b s. case_on (eqb b slash) (λ e. rw (e, first_part)) (λ e. rw (e, first_part) (let z : suc (length (first_part s)) ≡ 1 + length (first_part s) = omega arith in z)))

-- `position`, with the length where none passes
pub position_or : (test : ℕ → Bool) (s : Text) (r : Prelude.Option ℕ) → r ≡ cond (ltb (position_or_len test s) (length s)) (Some (position_or_len test s)) None
    → unwrap_or r (length s) ≡ position_or_len test s
position_or test s r e =
    case_on (ltb (position_or_len test s) (length s)) (λ t. rw (e, t)) (λ t. rw (e, t) (omega (arith, ltb-false (position_or_len test s) (length s) t, prefix_len-le-length (λ x. not (test x)) s)))
