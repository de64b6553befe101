-- The refusals of document 01 and their numbers ("Refused, in checking order"). Assumes nothing.
use Rattle.std.specs.Prelude.{get_or, List, [], ◌∷◌, ℕ}
use Rattle.meaning.specs.declared.refusal.Refusal.{Refusal}
use Rattle.meaning.specs.declared.refusal.Refusal.TheVariants.{ShortBuffer, NoExpression, BadSize, BadBody, Duplicate, PrefixClash, Dangling}
use Rattle.meaning.specs.declared.refusal.Refusal.TheVariants.{BrokenDependency, CoreTooLarge, Clash, MixedKinds, TooManyPairs, NoIri}

-- "A refusal gives its number"
abbrev pub number_of : Refusal → ℕ
number_of ShortBuffer = 1
number_of NoExpression = 2
number_of BadSize = 3
number_of BadBody = 4
number_of Duplicate = 5
number_of PrefixClash = 6
number_of Dangling = 7
number_of BrokenDependency = 8
number_of CoreTooLarge = 9
number_of (Clash c) = 10
number_of MixedKinds = 11
number_of TooManyPairs = 12
number_of NoIri = 13

-- in the order of the numbers; 0 and 10 stand for none (10 gives a clash, which is not known by its number)
abbrev pub refusals : List Refusal
refusals =
    NoIri ∷ ShortBuffer ∷ NoExpression ∷ BadSize ∷ BadBody ∷ Duplicate ∷ PrefixClash ∷ Dangling ∷ BrokenDependency ∷ CoreTooLarge ∷ NoIri ∷ MixedKinds ∷ TooManyPairs ∷ []

-- the refusal of a number other than 10
abbrev pub refusal_of : ℕ → Refusal
refusal_of k = get_or refusals k NoIri
