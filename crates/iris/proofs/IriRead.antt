-- Laws of trying the constructors one after another. Assumes nothing.
use lib.ListN.{drop, drop_of_length-le, get_or, length, take}
use mathlib.Core.Bool.{Bool, true, false}
use mathlib.Core.List.{List}
use mathlib.Core.Option.{Option, none, some}
use mathlib.Core.Path.{◌≡◌, refl, sym, ap, ◌∙◌}
use native.Mathlib.Numerals.{add-one}
use native.Mathlib.Omega.{arith}
use Prim.Native.Nat.{ℕ, ◌+◌, ◌-◌, ◌<◌, ◌≤◌}
use Rattle.checks.specs.Checked.{SettingLoaded}
use Rattle.iris.proofs.Loaded.{arity_of, constructor_at, constructors_many, length_text, lent, prefix_length, prefix_start}
use Rattle.iris.specs.Read.{arguments_of, iri_read}
use Rattle.std.specs.Prelude.{None, Some}
use Rattle.std.specs.Prelude as Prelude
use Rattle.meaning.specs.Listing.{padded}
use Rattle.meaning.specs.Pack.{Constructor, Pack, Text}
use Rattle.meaning.specs.Tests.{begins}
use Rattle.pack.specs.Checked.{OfPack, accepted, well_formed}
use Rattle.spelling.proofs.MatchedAt.{begins_length}
use Rattle.spelling.specs.ReadBack.{arguments_by, read_back, read_back_by, read_from_by, under}
use Rattle.spelling.specs.Segment.{segment}
use Rattle.meaning.proofs.Lists.Places.{drop_entry}

-- ---- the first c constructors do not begin the text

pub record Trying (s text : Text) (c : ℕ) : Type 0 where
  pub is : OfPack s (λ P. read_from_by segment P.setting.values c (drop c P.setting.constructors) text ≡ read_back P text)

pub trying_start : (s text : Text) → Trying s text 0
unfolding read_back_by
trying_start s text = record { is = λ P w. refl }

-- arguments under their constructor's number
under_some : (c : ℕ) (o : Option (List ℕ)) {a : List ℕ} → Some a ≡ arguments_of o → Some (record { constructor = c; values = a }) ≡ iri_read (under c o)
unfolding arguments_of iri_read
under_some c none e = cc
under_some c (some vs) {a} e = let q : a ≡ padded vs = cc in ap (λ (b : List ℕ). Some (record { constructor = c; values = b })) q

under_none : (c : ℕ) (o : Option (List ℕ)) → None ≡ arguments_of o → None ≡ iri_read (under c o)
unfolding arguments_of iri_read
under_none c none e = refl
under_none c (some vs) e = cc

abbrev constructors_of : Pack → List Constructor
constructors_of P = P.setting.constructors

module _ {s text counts numbers : List ℕ} {c : ℕ} (l : SettingLoaded s counts numbers) (t : Trying s text c) where
  pub no_constructor : get_or counts 6 0 ≤ c → OfPack s (λ P. None ≡ iri_read (read_back P text))
  unfolding read_from_by iri_read
  no_constructor h P w =
      let k : length (constructors_of P) ≤ c = omega (arith, constructors_many l P w) in
      ap iri_read (rw (drop_of_length-le (constructors_of P) k) at (t.is P w))

  -- the test's answer on constructor c, whose prefix is lent by its numbers
  module _ (h : c < get_or counts 6 0) {b : Bool}
      (e : b ≡ begins (take (prefix_start numbers c + prefix_length numbers c - prefix_start numbers c) (drop (prefix_start numbers c) s)) text) where
    prefix_begins : (P : Pack) (w : well_formed s ≡ accepted P) → b ≡ begins (constructor_at l h P w).it.prefix text
    prefix_begins P w = rw (lent (constructor_at l h P w).stands) at e

    pub prefix_fits : b ≡ true → prefix_length numbers c ≤ length text
    prefix_fits q =
        let k = constructor_at l h l.pack l.is in
        omega (arith, begins_length k.it.prefix text (sym (prefix_begins l.pack l.is) ∙ q), length_text k.stands)

    pub next_constructor : b ≡ false → Trying s text (c + 1)
    unfolding read_from_by
    next_constructor q = record {
      is = λ P w.
          let k = constructor_at l h P w in
          rw add-one (rw (drop_entry (constructors_of P) c k.it k.listed, sym (prefix_begins P w) ∙ q) at (t.is P w));
    }

    -- what was read of the rest of the text
    module _ (q : b ≡ true) {rest : Text} (i : rest ≡ drop (prefix_length numbers c) text) {r : Prelude.Option (List ℕ)}
        (p : OfPack s (λ P. r ≡ arguments_of (arguments_by segment P.setting.values (arity_of numbers c) rest))) where
      it_decides : (P : Pack) → well_formed s ≡ accepted P → under c (arguments_by segment P.setting.values (arity_of numbers c) rest) ≡ read_back P text
      unfolding read_from_by
      it_decides P w =
          let k = constructor_at l h P w in
          rw (i, k.arity_is, ← length_text k.stands) (rw (drop_entry (constructors_of P) c k.it k.listed, sym (prefix_begins P w) ∙ q) at (t.is P w))

      pub this_constructor : {a : List ℕ} → r ≡ Some a → OfPack s (λ P. Some (record { constructor = c; values = a }) ≡ iri_read (read_back P text))
      this_constructor e P w = under_some c _ (sym e ∙ p P w) ∙ ap iri_read (it_decides P w)

      pub this_refuses : r ≡ None → OfPack s (λ P. None ≡ iri_read (read_back P text))
      this_refuses e P w = under_none c _ (sym e ∙ p P w) ∙ ap iri_read (it_decides P w)
