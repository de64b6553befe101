-- Predicates by their names: where the names of a loaded setting stand, and that a name belongs to one predicate at most.
-- Assumes nothing.
use lib.ListN.{length, take, drop, get_or, get_elem?}
use lib.Pointwise.{bytes_decides, pointwise}
use lib.Dec.{eqb}
use Rattle.std.specs.Prelude.{Option, unwrap_or}
use Rattle.resolve.specs.Search.{First, found, nowhere}
use mathlib.Core.Bool.{Bool, true, false, ◌||◌}
use mathlib.Core.List.{List, []}
use mathlib.Core.Logic.{◌↔◌}
use mathlib.Core.Option.{some, some-injective}
use mathlib.Core.Path.{◌≡◌, sym, ap, subst, ◌∙◌}
use native.Mathlib.Omega.{arith}
use Prim.Native.Nat.{ℕ, ◌+◌, ◌*◌, ◌-◌, ◌≤◌, ◌<◌}
use Rattle.checks.specs.Checked.{SettingLoaded}
use Rattle.iris.proofs.Loaded.{holds, lent}
use Rattle.records.specs.Numbers.{TextAt}
use Rattle.meaning.proofs.Lists.Places.{entry_is, inside, there_is}
use Rattle.meaning.specs.Graph.{Called}
use Rattle.meaning.specs.Limits.{max_predicates, predicates_at, text_width, unused}
use Rattle.meaning.specs.Pack.{Pack, Text}
use Rattle.meaning.specs.Tests.{any_two, same_text}
use Rattle.meaning.specs.WellFormed.{duplicates, same_cell}
use Rattle.names.proofs.Counted.{count_at_lem, held_at}
use Rattle.meaning.proofs.Lists.Parts.{first_is_at, number_at}
use Rattle.pack.proofs.Accepted.{well_formed_lem}
use Rattle.pack.specs.Checked.{OfPack}
use Rattle.resolve.specs.Wanted.{PredicateIs}
use Rattle.meaning.proofs.Cases.{or_neither}
use Rattle.meaning.proofs.Lists.Pairs.{no_two_place}
use Rattle.meaning.proofs.Lists.Texts.{eq_same}

-- ---- the names of a loaded setting

-- where the name of predicate p starts, and how many bytes it has
abbrev pub name_start : List ℕ → ℕ → ℕ
name_start numbers p = get_or numbers (predicates_at + p * text_width) 0

abbrev pub name_length : List ℕ → ℕ → ℕ
name_length numbers p = get_or numbers (predicates_at + p * text_width + 1) 0

-- The name of predicate p, where its numbers say.
pub record NameAt (s : Text) (P : Pack) (numbers : List ℕ) (p : ℕ) : Type 0 where
  pub it : Text
  pub listed : get_elem? P.setting.predicates p ≡ some it
  pub stands : TextAt s it (name_start numbers p) (name_length numbers p)

module _ {s counts numbers : List ℕ} (l : SettingLoaded s counts numbers) where
  names_many : OfPack s (λ P. get_or counts 4 0 ≡ length P.setting.predicates)
  names_many P w = count_at_lem (holds l P w).given 4 (omega arith)

  pub names_few : get_or counts 4 0 ≤ max_predicates
  names_few = omega (arith, names_many l.pack l.is, l.given.bounds.predicates)

  module _ {p : ℕ} (h : p < get_or counts 4 0) where
    name_at : OfPack s (λ P. NameAt s P numbers p)
    name_at P w =
        let q = there_is P.setting.predicates p (omega (arith, names_many P w)) in
        let t = held_at (holds l P w).held.predicates p q.0 q.1 in
        let at = predicates_at + p * text_width in
        record {
          it = q.0;
          listed = q.1;
          stands = rw (first_is_at numbers _ at text_width t.are (omega arith), number_at numbers _ at text_width t.are 1 (omega arith)) t.stands;
        }

    pub name_place : predicates_at + p * text_width + 1 < length numbers
    name_place = omega (arith, names_few, l.given.long)

    pub name_inside : name_start numbers p + name_length numbers p ≤ length s
    name_inside = (name_at l.pack l.is).stands.inside

-- ---- a name belongs to one predicate at most

called_once : (P : Pack) → duplicates P ≡ false → (text : Text) (p q : ℕ) → Called P text p → Called P text q → p ≡ q
unfolding duplicates
called_once P h text p q cp cq =
    let S = P.setting in
    let a = any_two same_text S.values in
    let b = any_two same_text S.types in
    let c = any_two same_text S.predicates in
    let d = (or_neither (a || b) c (or_neither (a || b || c) (any_two same_cell S.shapes) h).0).1 in
    let e : get_or S.predicates p [] ≡ get_or S.predicates q [] = entry_is S.predicates p text [] cp ∙ sym (entry_is S.predicates q text [] cq) in
    no_two_place same_text [] S.predicates p q d (inside S.predicates p _ cp) (inside S.predicates q _ cq) (eq_same e) (eq_same (sym e))

-- ---- the search for it

module _ {s text counts numbers : List ℕ} (l : SettingLoaded s counts numbers) where
  -- the name of predicate p is the text where its bytes are
  pub called : {p : ℕ} → p < get_or counts 4 0 → {b : Bool}
      → b ≡ pointwise eqb (take (name_start numbers p + name_length numbers p - name_start numbers p) (drop (name_start numbers p) s)) text
      → OfPack s (λ P. (b ≡ true) ↔ Called P text p)
  called {p} h e P w =
      let x = name_at l h P w in
      let i = lent x.stands in
      let d = bytes_decides _ text in (
        (λ t. x.listed ∙ ap some (sym i ∙ d.0 (sym e ∙ t))),
        (λ c. e ∙ d.1 (i ∙ some-injective _ _ (sym x.listed ∙ c))),
      )

  pub named : {r : Option ℕ} → OfPack s (λ P. First (Called P text) (get_or counts 4 0) r → PredicateIs P text (unwrap_or r unused))
  named P w (found {r = p} h here others) k = (
    (λ c. let q = called_once P (well_formed_lem s P w).distinct text k p c here in (omega (arith, names_few l), q)),
    (λ c. subst (Called P text) (sym c.1) here),
  )
  named P w (nowhere none) k = (
    (λ c. absurd (none k (omega (arith, inside P.setting.predicates k _ c, names_many l P w)) c)),
    (λ c. absurd (let z : ⊥ = omega (arith, c.0, c.1) in z)),
  )
