-- Laws of the bodies of a setting that refusals 5 and 6 compare. Assumes nothing.
use lib.ListN.{get_or}
use lib.Seq.{get_or-take}
use mathlib.Core.Bool.{Bool, ◌||◌}
use mathlib.Core.List.{List, [], ◌∷◌, map}
use mathlib.Core.Path.{◌≡◌, ap, ap₂, refl, sym, ◌∙◌}
use native.Mathlib.Omega.{arith}
use Prim.Native.Nat.{ℕ, ◌<◌}
use Rattle.meaning.specs.Limits.{constructors_at, predicates_at, shapes_at, types_at, values_at}
use Rattle.meaning.specs.Pack.{Constructor, Pack, Setting}
use Rattle.meaning.specs.Tests.{any, any_two, begins}
use Rattle.meaning.specs.WellFormed.{prefix_clash}
use Rattle.records.specs.PackHeld.{counts_of, SettingHeld}
use Rattle.texts.specs.Compared.{clashes, Records, SaysAny, SomePack, SomeRecords}
use Rattle.texts.specs.declared.Key.TheVariants.{Cell, Prefix, Text}

-- ---- each body's records, as many as are counted

module _ {s : List ℕ} {S : Setting} {counts numbers : List ℕ} (g : SettingHeld s S counts numbers) where
  count : (i : ℕ) → i < 8 → get_or (counts_of S) i 0 ≡ get_or counts i 0
  count i h = ap (λ z. get_or z i 0) (sym g.bare.counted) ∙ get_or-take 8 counts i 0 h

  pub values_held : Records Text s S.values numbers values_at (get_or counts 0 0)
  values_held = record { held = g.values; many = count 0 (omega arith) }

  pub types_held : Records Text s S.types numbers types_at (get_or counts 3 0)
  types_held = record { held = g.types; many = count 3 (omega arith) }

  pub predicates_held : Records Text s S.predicates numbers predicates_at (get_or counts 4 0)
  predicates_held = record { held = g.predicates; many = count 4 (omega arith) }

  pub shapes_held : Records Cell s S.shapes numbers shapes_at (get_or counts 5 0)
  shapes_held = record { held = record { each = g.bare.shapes.each }; many = count 5 (omega arith) }

  pub constructors_held : Records Prefix s S.constructors numbers constructors_at (get_or counts 6 0)
  constructors_held = record { held = g.constructors; many = count 6 (omega arith) }

-- ---- some pack's

module _ {s counts numbers : List ℕ} (g : SomePack s counts numbers) where
  pub some_values : SomeRecords Text s numbers values_at (get_or counts 0 0)
  some_values = record { list = g.pack.setting.values; records = values_held g.held }

  pub some_types : SomeRecords Text s numbers types_at (get_or counts 3 0)
  some_types = record { list = g.pack.setting.types; records = types_held g.held }

  pub some_predicates : SomeRecords Text s numbers predicates_at (get_or counts 4 0)
  some_predicates = record { list = g.pack.setting.predicates; records = predicates_held g.held }

  pub some_shapes : SomeRecords Cell s numbers shapes_at (get_or counts 5 0)
  some_shapes = record { list = g.pack.setting.shapes; records = shapes_held g.held }

  pub some_constructors : SomeRecords Prefix s numbers constructors_at (get_or counts 6 0)
  some_constructors = record { list = g.pack.setting.constructors; records = constructors_held g.held }

-- ---- constructors are compared as their prefixes

any_prefix : (x : Constructor) (xs : List Constructor) → any (clashes Prefix x) xs ≡ any (λ b. begins x.prefix b || begins b x.prefix) (map (λ (k : Constructor). k.prefix) xs)
any_prefix x [] = refl
any_prefix x (y ∷ xs) = ap (λ z. (begins x.prefix y.prefix || begins y.prefix x.prefix) || z) (any_prefix x xs)

two_prefixes : (xs : List Constructor) → any_two (clashes Prefix) xs ≡ any_two (λ a b. begins a b || begins b a) (map (λ (k : Constructor). k.prefix) xs)
two_prefixes [] = refl
two_prefixes (x ∷ xs) = ap₂ ◌||◌ (any_prefix x xs) (two_prefixes xs)

pub prefixes_say : {s counts numbers : List ℕ} {r : Bool} → SaysAny Prefix s numbers constructors_at (get_or counts 6 0) r
    → (P : Pack) → SettingHeld s P.setting counts numbers → r ≡ prefix_clash P
unfolding prefix_clash
prefixes_say says P g = says P.setting.constructors (constructors_held g) ∙ two_prefixes P.setting.constructors
