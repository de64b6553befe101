-- Laws of reading the values of a text's parts one after another. Assumes nothing.
use borrow.Author.Tests.{eq-eqb, ne_eqb, eqb-true, eqb-false}
use lib.Dec.{eqb}
use lib.ListN.{length, take, drop, set, length-append, length-map}
use mathlib.Core.Bool.{true, false}
use mathlib.Core.List.{List, [], ◌∷◌, ◌++◌, append_assoc}
use mathlib.Core.Option.{Option, none, some}
use mathlib.Core.Path.{◌≡◌, refl, sym, ap, ◌∙◌}
use native.Mathlib.Omega.{arith}
use Prim.Native.Nat.{ℕ, suc, ◌+◌, ◌<◌, ◌≤◌}
use Rattle.checks.specs.Checked.{SettingLoaded}
use Rattle.iris.specs.Read.{arguments_of, first_part, found_of}
use Rattle.std.specs.Prelude.{None, Some}
use Rattle.std.specs.Prelude as Prelude
use Rattle.meaning.specs.Limits.{max_arguments, max_values}
use Rattle.meaning.specs.Listing.{padded}
use Rattle.meaning.specs.Pack.{Text}
use Rattle.pack.specs.Checked.{OfPack}
use Rattle.meaning.proofs.Cases.{case_on, case_some}
use Rattle.spelling.proofs.Reading.{find_sound, find_all_sound, written_in}
use Rattle.spelling.proofs.Splitting.{split_some}
use Rattle.spelling.specs.Iri.{slash}
use Rattle.spelling.specs.ReadBack.{onto, split, also, fitting, find_by, find_all_by, arguments_by}
use Rattle.spelling.specs.Segment.{segment}

-- ---- the first part of a text, and the rest

first_le : (s : Text) → length (first_part s) ≤ length s
unfolding first_part
first_le [] = omega arith
first_le (b ∷ s) = case_on (eqb b slash) (λ e. rw e (omega arith)) (λ e. rw e (let k = first_le s in omega arith))

first_take : (s : Text) → take (length (first_part s)) s ≡ first_part s
unfolding first_part
first_take [] = refl
first_take (b ∷ s) = case_on (eqb b slash) (λ e. rw e) (λ e. rw e (ap (λ (t : Text). b ∷ t) (first_take s)))

split_last : (s : Text) → length s ≤ length (first_part s) → split s ≡ first_part s ∷ []
unfolding split first_part
split_last [] h = refl
split_last (b ∷ s) h =
    case_on (eqb b slash)
    (λ e. let k : suc (length s) ≤ 0 = rw e at h in absurd (omega arith))
    (λ e. let k : suc (length s) ≤ suc (length (first_part s)) = rw e at h in rw e (ap (onto b) (split_last s (omega arith))))

split_more : (s : Text) → length (first_part s) < length s → split s ≡ first_part s ∷ split (drop (suc (length (first_part s))) s)
unfolding split first_part
split_more [] h = absurd (omega arith)
split_more (b ∷ s) h =
    case_on (eqb b slash)
    (λ e. rw e)
    (λ e. let k : suc (length (first_part s)) < suc (length s) = rw e at h in rw e (ap (onto b) (split_more s (omega arith))))

-- where its length is known
module _ (s : Text) {end : ℕ} (e : end ≡ length (first_part s)) where
  pub end_inside : end ≤ length s
  end_inside = omega (arith, first_le s)

  part_is : take end s ≡ first_part s
  part_is = rw e (first_take s)

  pub part_last : end ≡ length s → split s ≡ take end s ∷ []
  part_last h = rw part_is (split_last s (omega arith))

  pub part_more : (end ≡ length s → ⊥) → split s ≡ take end s ∷ split (drop (end + 1) s)
  part_more n =
      let k : suc (length (first_part s)) ≡ end + 1 = omega arith in
      rw part_is (split_more s (omega (arith, end_inside, n)) ∙ rw k)

-- ---- a place of the array

pub pad_set : (found : List ℕ) (v : ℕ) → length found < max_arguments → set (padded found) (length found) v ≡ padded (found ++ v ∷ [])
pad_set [] v h = refl
pad_set (a ∷ []) v h = refl
pad_set (a ∷ b ∷ []) v h = refl
pad_set (a ∷ b ∷ c ∷ []) v h = refl
pad_set (a ∷ b ∷ c ∷ d ∷ found) v h = absurd (omega arith)

-- ---- the values found so far, and the rest of the text

abbrev pub after : List ℕ → Option (List ℕ) → Option (List ℕ)
after found none = none
after found (some vs) = some (found ++ vs)

pub record ArgumentsSoFar (values : List Text) (text : Text) (arity n : ℕ) (rest : Text) (array : List ℕ) : Type 0 where
  pub found : List ℕ
  pub count : length found ≡ n
  pub holds : array ≡ padded found
  pub is : fitting arity (after found (find_all_by segment values (split rest))) ≡ arguments_by segment values arity text

after_none : (o : Option (List ℕ)) → after [] o ≡ o
after_none none = refl
after_none (some vs) = refl

after_also : (found : List ℕ) (v : ℕ) (o : Option (List ℕ)) → after found (also (some v) o) ≡ after (found ++ v ∷ []) o
after_also found v none = refl
after_also found v (some vs) = ap some (sym (append_assoc found (v ∷ []) vs))

pub so_far_start : (values : List Text) (text : Text) (arity : ℕ) → ArgumentsSoFar values text arity 0 text (padded [])
unfolding arguments_by
so_far_start values text arity = record { found = []; count = refl; holds = refl; is = ap (fitting arity) (after_none (find_all_by segment values (split text))) }

found_some : (o : Option ℕ) (v : ℕ) → found_of o ≡ Some v → o ≡ some v
unfolding found_of
found_some none v h = cc
found_some (some w) v h = ap some (let e : w ≡ v = cc in e)

found_none : (o : Option ℕ) → found_of o ≡ None → o ≡ none
unfolding found_of
found_none none h = refl
found_none (some w) h = cc

-- a value that was found has a number below the most values
pub found_small : {s counts numbers : List ℕ} {r : Prelude.Option ℕ} {v : ℕ} → SettingLoaded s counts numbers → (part : Text)
    → OfPack s (λ P. r ≡ found_of (find_by segment P.setting.values part)) → r ≡ Some v → v < max_values
found_small {v = v} l part f q =
    let values = l.pack.setting.values in
    let a = find_sound segment values part v (found_some (find_by segment values part) v (sym (f l.pack l.is) ∙ q)) in
    omega (arith, a.below, l.given.bounds.values)

module _ {values : List Text} {text : Text} {arity n : ℕ} {rest : Text} {array : List ℕ} (a : ArgumentsSoFar values text arity n rest array) where
  -- more text than the arity asks for
  pub too_many : arity ≤ n → None ≡ arguments_of (arguments_by segment values arity text)
  unfolding arguments_of
  too_many h = let e : none ≡ arguments_by segment values arity text = none_is in rw (← e)
    where
      some_parts : (ts : List Text) → (ts ≡ [] → ⊥) → 0 < length ts
      some_parts [] k = absurd (k refl)
      some_parts (t ∷ ts) k = omega arith

      none_is : none ≡ arguments_by segment values arity text
      none_is =
          case_some (find_all_by segment values (split rest))
          (λ e. rw e at a.is)
          (λ vs e.
          let s = find_all_sound segment values (split rest) vs e in
          let l : length vs ≡ length (split rest) = sym (length-map vs (written_in segment values)) ∙ ap length s.are in
          let m = some_parts (split rest) (split_some rest) in
          let d : eqb (length (a.found ++ vs)) arity ≡ false =
          ne_eqb (length (a.found ++ vs)) arity (λ q. omega (arith, length-append a.found vs, a.count)) in
          rw (e, d) at a.is)

  module _ {end : ℕ} (e : end ≡ length (first_part rest)) {r : Prelude.Option ℕ} (f : r ≡ found_of (find_by segment values (take end rest))) where
    abbrev part : Text
    part = take end rest

    -- no value is spelled so
    pub no_value : r ≡ None → None ≡ arguments_of (arguments_by segment values arity text)
    unfolding find_all_by arguments_of
    no_value q =
        let u : find_by segment values part ≡ none = found_none (find_by segment values part) (sym f ∙ q) in
        let g : none ≡ arguments_by segment values arity text =
        case_on (eqb end (length rest))
        (λ t. rw (part_last rest e (eqb-true end (length rest) t), u) at a.is)
        (λ t. rw (part_more rest e (eqb-false end (length rest) t), u) at a.is) in
        rw (← g)

    module _ {v : ℕ} (q : r ≡ Some v) where
      is_v : find_by segment values part ≡ some v
      is_v = found_some (find_by segment values part) v (sym f ∙ q)

      abbrev more : List ℕ
      more = a.found ++ v ∷ []

      count_more : length more ≡ n + 1
      count_more = omega (arith, length-append a.found (v ∷ []), a.count)

      holds_more : n < max_arguments → set array n v ≡ padded more
      holds_more h = rw (a.holds, ← a.count) (pad_set a.found v (omega (arith, a.count)))

      pub so_far_again : (end ≡ length rest → ⊥) → n < max_arguments → ArgumentsSoFar values text arity (n + 1) (drop (end + 1) rest) (set array n v)
      unfolding find_all_by
      so_far_again t h = record {
        found = more;
        count = count_more;
        holds = holds_more h;
        is = ap (fitting arity) (sym (after_also a.found v (find_all_by segment values (split (drop (end + 1) rest)))))
            ∙ rw (part_more rest e t, is_v) at a.is;
      }

      -- the text's last part
      last_is : end ≡ length rest → fitting arity (some more) ≡ arguments_by segment values arity text
      unfolding find_all_by
      last_is t = rw (part_last rest e t, is_v) at a.is

      pub all_read : end ≡ length rest → n < max_arguments → n + 1 ≡ arity → Some (set array n v) ≡ arguments_of (arguments_by segment values arity text)
      unfolding arguments_of
      all_read t h k =
          let c : eqb (length more) arity ≡ true = eq-eqb (length more) arity (count_more ∙ k) in
          let g : some more ≡ arguments_by segment values arity text = rw c at (last_is t) in
          rw (← g, holds_more h)

      pub too_few : end ≡ length rest → (n + 1 ≡ arity → ⊥) → None ≡ arguments_of (arguments_by segment values arity text)
      unfolding arguments_of
      too_few t k =
          let c : eqb (length more) arity ≡ false = ne_eqb (length more) arity (λ x. k (sym count_more ∙ x)) in
          let g : none ≡ arguments_by segment values arity text = rw c at (last_is t) in
          rw (← g)
