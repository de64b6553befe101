-- The values and the constructors of a setting that is loaded, by their numbers. Assumes nothing.
use lib.ListN.{drop, get_or, get_elem?, length, take}
use mathlib.Core.List.{List}
use mathlib.Core.Option.{some}
use mathlib.Core.Path.{◌≡◌, sym, ap, subst, ◌∙◌}
use native.Mathlib.Omega.{arith}
use Prim.Native.Nat.{ℕ, ◌*◌, ◌+◌, ◌-◌, ◌<◌, ◌≤◌}
use Rattle.checks.specs.Checked.{SettingLoaded}
use Rattle.records.specs.PackHeld.{SettingHeld}
use Rattle.records.specs.Numbers.{TextAt}
use Rattle.meaning.proofs.Lists.Members.{element}
use Rattle.meaning.proofs.Lists.Places.{there_is}
use Rattle.meaning.specs.Limits.{constructor_width, constructors_at, max_arguments, text_width, values_at}
use Rattle.meaning.specs.Pack.{Constructor, Pack, Text}
use Rattle.names.proofs.Counted.{constructors_few, count_at_lem, held_at}
use Rattle.meaning.proofs.Lists.Parts.{first_is_at, number_at, slice_by}
use Rattle.names.specs.PackGiven.{SettingGiven}
use Rattle.pack.proofs.Order.{one_pack}
use Rattle.pack.proofs.Reading.{length_at}
use Rattle.pack.specs.Checked.{OfPack}

-- The numbers are those of this pack's setting.
pub record Holds (s : Text) (P : Pack) (counts numbers : List ℕ) : Type 0 where
  pub held : SettingHeld s P.setting counts numbers
  pub given : SettingGiven P counts numbers

-- bytes are one pack: the one whose setting is loaded
pub holds : {s counts numbers : List ℕ} → SettingLoaded s counts numbers → OfPack s (λ P. Holds s P counts numbers)
holds {s} {counts} {numbers} l P w = subst (λ Q. Holds s Q counts numbers) (one_pack l.is w) (record { held = l.held; given = l.given })

-- ---- a text in the bytes

module _ {s text : Text} {start len : ℕ} (t : TextAt s text start len) where
  width : start + len - start ≡ len
  width = omega arith

  -- the part that code lends is the text
  pub lent : take (start + len - start) (drop start s) ≡ text
  lent = ap (λ (n : ℕ). take n (drop start s)) width ∙ slice_by start len s ∙ sym t.is

  pub length_text : length text ≡ len
  length_text = ap length t.is ∙ length_at s start len t.inside

-- ---- values

-- where value v starts, and how many bytes it has
abbrev pub value_start : List ℕ → ℕ → ℕ
value_start numbers v = get_or numbers (values_at + v * text_width) 0

abbrev pub value_length : List ℕ → ℕ → ℕ
value_length numbers v = get_or numbers (values_at + v * text_width + 1) 0

-- Value v, where its numbers say.
pub record ValueAt (s : Text) (P : Pack) (numbers : List ℕ) (v : ℕ) : Type 0 where
  pub it : Text
  pub listed : get_elem? P.setting.values v ≡ some it
  pub stands : TextAt s it (value_start numbers v) (value_length numbers v)

module _ {s counts numbers : List ℕ} (l : SettingLoaded s counts numbers) where
  pub values_many : OfPack s (λ P. get_or counts 0 0 ≡ length P.setting.values)
  values_many P w = count_at_lem (holds l P w).given 0 (omega arith)

  module _ {v : ℕ} (h : v < get_or counts 0 0) where
    pub value_at : OfPack s (λ P. ValueAt s P numbers v)
    value_at P w =
        let q = there_is P.setting.values v (omega (arith, values_many P w)) in
        let t = held_at (holds l P w).held.values v q.0 q.1 in
        let at = values_at + v * text_width in
        record {
          it = q.0;
          listed = q.1;
          stands = rw (first_is_at numbers _ at text_width t.are (omega arith), number_at numbers _ at text_width t.are 1 (omega arith)) t.stands;
        }

    pub value_place : values_at + v * text_width + 1 < length numbers
    value_place = let g = l.given in omega (arith, values_many l.pack l.is, g.bounds.values, g.long)

    pub value_inside : value_start numbers v + value_length numbers v ≤ length s
    value_inside = (value_at l.pack l.is).stands.inside

-- ---- constructors

-- constructor c's arity, where its prefix starts, and how many bytes it has
abbrev pub arity_of : List ℕ → ℕ → ℕ
arity_of numbers c = get_or numbers (constructors_at + c * constructor_width) 0

abbrev pub prefix_start : List ℕ → ℕ → ℕ
prefix_start numbers c = get_or numbers (constructors_at + c * constructor_width + 1) 0

abbrev pub prefix_length : List ℕ → ℕ → ℕ
prefix_length numbers c = get_or numbers (constructors_at + c * constructor_width + 2) 0

-- Constructor c, where its numbers say.
pub record ConstructorAt (s : Text) (P : Pack) (numbers : List ℕ) (c : ℕ) : Type 0 where
  pub it : Constructor
  pub listed : get_elem? P.setting.constructors c ≡ some it
  pub arity_is : arity_of numbers c ≡ it.arity
  pub stands : TextAt s it.prefix (prefix_start numbers c) (prefix_length numbers c)

module _ {s counts numbers : List ℕ} (l : SettingLoaded s counts numbers) where
  pub constructors_many : OfPack s (λ P. get_or counts 6 0 ≡ length P.setting.constructors)
  constructors_many P w = count_at_lem (holds l P w).given 6 (omega arith)

  module _ {c : ℕ} (h : c < get_or counts 6 0) where
    pub constructor_at : OfPack s (λ P. ConstructorAt s P numbers c)
    constructor_at P w =
        let q = there_is P.setting.constructors c (omega (arith, constructors_many P w)) in
        let t = held_at (holds l P w).held.constructors c q.0 q.1 in
        let at = constructors_at + c * constructor_width in
        record {
          it = q.0;
          listed = q.1;
          arity_is = first_is_at numbers _ at constructor_width t.are (omega arith);
          stands = rw (number_at numbers _ at constructor_width t.are 1 (omega arith), number_at numbers _ at constructor_width t.are 2 (omega arith)) t.stands;
        }

    pub constructor_place : constructors_at + c * constructor_width + 2 < length numbers
    constructor_place = omega (arith, constructors_few l.given, l.given.long)

    pub prefix_inside : prefix_start numbers c + prefix_length numbers c ≤ length s
    prefix_inside = (constructor_at l.pack l.is).stands.inside

    pub arity_small : arity_of numbers c ≤ max_arguments
    arity_small =
        let k = constructor_at l.pack l.is in
        let b = l.given.bounds.arguments k.it (element l.pack.setting.constructors c k.it k.listed) in
        omega (arith, k.arity_is, b.1)
