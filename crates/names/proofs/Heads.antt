-- A head's numbers: whether what it names is there; and its variables apart. Assumes nothing.
use lib.Dec.{eqb, ltb}
use lib.ListN.{get_or}
use mathlib.Core.Bool.{Bool, true, false, ◌&&◌, and_assoc, and-true}
use mathlib.Core.List.{List, [], ◌∷◌}
use mathlib.Core.Path.{◌≡◌, refl, ap, ◌∙◌, sym}
use native.Mathlib.Omega.{arith}
use Prim.Native.Nat.{ℕ, ◌+◌}
use Rattle.meaning.specs.Limits.{head_width}
use Rattle.meaning.specs.Pack.{Atom, Head, Pack, has_type, links_to, links_to_value}
use Rattle.meaning.specs.Tables.{head_arguments, head_numbers}
use Rattle.meaning.specs.WellFormed.{constructor_arities, good_head, good_predicate, good_type, has_arity, in_atoms}
use Rattle.names.specs.PackGiven.{SettingGiven}
use Rattle.names.specs.Rule.{HeadAt, head_named, term_named}
use Rattle.names.proofs.Counted.{count_at_lem}
use Rattle.meaning.proofs.Lists.Parts.{first_is_at, number_at}
use Rattle.meaning.proofs.Lists.Members.{every_append}

abbrev pub pick : Bool → Bool → Bool → Bool
pick true a b = a
pick false a b = b

-- by its kind: the subject, the type or the predicate, the object
abbrev pub by_kind : ℕ → Bool → Bool → Bool → Bool → Bool
by_kind kind subject type predicate object = subject && pick (eqb kind 0) type (predicate && pick (eqb kind 1) object true)

-- as the numbers at a place say
abbrev pub named_at : Pack → List ℕ → List ℕ → ℕ → Bool
named_at P counts numbers at =
    by_kind (get_or numbers at 0) (has_arity (constructor_arities P) (get_or numbers (at + 1) 0) (get_or numbers (at + 2) 0))
    (ltb (get_or numbers (at + 3) 0) (get_or counts 3 0)) (ltb (get_or numbers (at + 3) 0) (get_or counts 4 0))
    (has_arity (constructor_arities P) (get_or numbers (at + 4) 0) (get_or numbers (at + 5) 0))

named : (P : Pack) (h : Head)
    → by_kind (get_or (head_numbers h) 0 0) (has_arity (constructor_arities P) (get_or (head_numbers h) 1 0) (get_or (head_numbers h) 2 0))
    (good_type P (get_or (head_numbers h) 3 0)) (good_predicate P (get_or (head_numbers h) 3 0))
    (has_arity (constructor_arities P) (get_or (head_numbers h) 4 0) (get_or (head_numbers h) 5 0))
    ≡ head_named P h
unfolding head_numbers
named P (has_type s t) = refl
named P (links_to s p o) = sym (and_assoc (term_named P s) (good_predicate P p) (term_named P o))
named P (links_to_value s p v) = ap (λ (b : Bool). term_named P s && b) (and-true (good_predicate P p))

pub head_named_lem : {P : Pack} {counts numbers : List ℕ} → SettingGiven P counts numbers → {at : ℕ} {h : Head} → HeadAt h numbers at
    → named_at P counts numbers at ≡ head_named P h
head_named_lem {P} {counts} {numbers} g {at} {h} a =
    let n = number_at numbers (head_numbers h) at head_width a.are in
    rw (
      first_is_at numbers (head_numbers h) at head_width a.are (omega arith),
      n 1 (omega arith),
      n 2 (omega arith),
      n 3 (omega arith),
      n 4 (omega arith),
      n 5 (omega arith),
      count_at_lem g 3 (omega arith),
      count_at_lem g 4 (omega arith),
    )
    (named P h)

-- ---- a head is good: what it names is there, and all its variables are in atoms

swap : (a i t : Bool) → ((a && t) && i) ≡ ((a && i) && t)
swap true true true = refl
swap true true false = refl
swap true false true = refl
swap true false false = refl
swap false i t = refl

weave : (a i p b j : Bool) → ((a && p && b) && (i && j)) ≡ ((a && i) && p && (b && j))
weave true true true b j = refl
weave true true false b j = refl
weave true false true true j = refl
weave true false true false j = refl
weave true false false b j = refl
weave false i p b j = refl

weave' : (a i p j : Bool) → ((a && p) && (i && j)) ≡ ((a && i) && p && j)
weave' true true true j = refl
weave' true true false j = refl
weave' true false true j = refl
weave' true false false j = refl
weave' false i p j = refl

pub head_good : (P : Pack) (as' : List Atom) (h : Head) → (head_named P h && in_atoms as' (head_arguments h)) ≡ good_head P as' h
unfolding head_arguments
head_good P as' (has_type s t) = swap (term_named P s) (in_atoms as' s.variables) (good_type P t)
head_good P as' (links_to s p o) =
    ap (λ (b : Bool). head_named P (links_to s p o) && b) (every_append _ s.variables o.variables)
    ∙ weave (term_named P s) (in_atoms as' s.variables) (good_predicate P p) (term_named P o) (in_atoms as' o.variables)
head_good P as' (links_to_value s p v) =
    ap (λ (b : Bool). head_named P (links_to_value s p v) && b) (every_append _ s.variables (v ∷ []))
    ∙ weave' (term_named P s) (in_atoms as' s.variables) (good_predicate P p) (in_atoms as' (v ∷ []))
