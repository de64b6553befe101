-- The first of a list for which a partial function gives something. Assumes nothing.
use mathlib.Core.List.{List, [], ◌∷◌}
use mathlib.Core.Logic.{◌⊎◌, inl, inr}
use mathlib.Core.Option.{Option, none, some, or_else}
use mathlib.Core.Path.{◌≡◌, refl, ap, ◌∙◌}
use Rattle.meaning.specs.Member.{◌∈◌, here, there}
use Rattle.meaning.specs.Ordered.{InOrder, before}

module _ {A B : Type 0} (f : A → Option B) where
  unfoldable pub first_of : List A → Option B
  unfolding or_else
  first_of [] = none
  first_of (x ∷ xs) = or_else (f x) (first_of xs)

  module _ (R : A → A → Type 0) where
    -- it is given of an element, and of none before that
    pub record IsFirst (xs : List A) (b : B) : Type 0 where
      pub at : A
      pub member : at ∈ xs
      pub gives : f at ≡ some b
      pub lowest : (y : A) → y ∈ xs → (f y ≡ none) ⊎ ((y ≡ at) ⊎ R at y)

    abbrev pub Found : List A → Option B → Type 0
    Found xs none = (y : A) → y ∈ xs → f y ≡ none
    Found xs (some b) = IsFirst xs b

    pub first_found : (xs : List A) → InOrder R xs → Found xs (first_of xs)
    unfolding first_of or_else
    first_found [] a = λ y i. elim i [ ]
    first_found (x ∷ xs) (before p a) = go (f x) refl (first_of xs) (first_found xs a)
      where
        go : (o : Option B) → f x ≡ o → (rest : Option B) → Found xs rest → Found (x ∷ xs) (or_else o rest)
        go (some b) e rest h = record { at = x; member = here refl; gives = e; lowest = from_here }
          where
            from_here : (y : A) → y ∈ (x ∷ xs) → (f y ≡ none) ⊎ ((y ≡ x) ⊎ R x y)
            from_here y (here q) = inr (inl q)
            from_here y (there i) = inr (inr (p y i))
        go none e none h = all_none
          where
            all_none : (y : A) → y ∈ (x ∷ xs) → f y ≡ none
            all_none y (here q) = ap f q ∙ e
            all_none y (there i) = h y i
        go none e (some b) h = record { at = h.at; member = there h.member; gives = h.gives; lowest = later }
          where
            later : (y : A) → y ∈ (x ∷ xs) → (f y ≡ none) ⊎ ((y ≡ h.at) ⊎ R h.at y)
            later y (here q) = inl (ap f q ∙ e)
            later y (there i) = h.lowest y i
