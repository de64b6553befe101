-- The nine bodies of a pack, numbered from 0 in the order of document 01, "The pack": values, relations, dependencies, types,
-- predicates, shapes, constructors, rules; then the rows, which each definition has last. Assumes nothing.
use Rattle.std.specs.Prelude.{get_or, List, [], ◌∷◌, ℕ}
use Rattle.meaning.specs.Limits.{constructors_at, dependencies_at, max_constructors, max_dependencies, max_predicates, max_relations, max_rows, max_rules, max_shapes}
use Rattle.meaning.specs.Limits.{max_types, max_values, predicates_at, relations_at, rules_at, shapes_at, types_at, values_at}
use Rattle.pack.specs.declared.kinds.Kind.{Kind}
use Rattle.pack.specs.declared.kinds.Kind.TheVariants as K

-- which kind of record a body has
abbrev pub kinds : List Kind
kinds = K.Value ∷ K.Relation ∷ K.Dependency ∷ K.Name ∷ K.Name ∷ K.Shape ∷ K.Constructor ∷ K.Rule ∷ []

unfoldable pub body_kind : ℕ → Kind
body_kind i = get_or kinds i K.Row

-- how many records it may have
abbrev pub limits : List ℕ
limits = max_values ∷ max_relations ∷ max_dependencies ∷ max_types ∷ max_predicates ∷ max_shapes ∷ max_constructors ∷ max_rules ∷ []

unfoldable pub limit_of : ℕ → ℕ
limit_of i = get_or limits i max_rows

-- where it stands: a setting's bodies among its numbers, the rows in a list of their own
abbrev pub places : List ℕ
places = values_at ∷ relations_at ∷ dependencies_at ∷ types_at ∷ predicates_at ∷ shapes_at ∷ constructors_at ∷ rules_at ∷ []

unfoldable pub place_of : ℕ → ℕ
place_of i = get_or places i 0
