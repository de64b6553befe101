-- Laws of the decoded pack: it is there where each body is, and its parts are the bodies' records. Assumes nothing.
use borrow.Author.Tests.{leb-true}
use lib.Dec.{leb}
use lib.ListN.{length}
use mathlib.Core.Bool.{Bool, true, false}
use mathlib.Core.List.{List}
use mathlib.Core.Option.{Option, none, some, some-injective}
use mathlib.Core.Path.{◌≡◌, refl, ap, subst}
use native.Mathlib.Omega.{arith}
use Prim.Native.Nat.{ℕ, ◌≤◌}
use Rattle.meaning.specs.Limits.{max_values, max_relations, max_dependencies, max_types, max_predicates, max_shapes, max_constructors, max_rules, max_rows}
use Rattle.meaning.specs.Pack.{Pack}
use Rattle.pack.specs.Contents.{body_of}
use Rattle.pack.specs.Readers.{Reader}
use Rattle.pack.specs.Records.{value, relation, dependency, name, shape, constructor, rule, row}
use Rattle.pack.specs.Unpack.{read_all, at_most, body, unpack, unpack_within, ◌then◌}

-- ---- a body, by the count of its records

module _ {A : Type 0} (reader : Reader A) (limit : ℕ) (s : List ℕ) where
  -- the records of a body that is there
  pub body_records : (xs : List A) → body reader limit s ≡ some xs → (read_all reader s ≡ some xs) × (length xs ≤ limit)
  unfolding body
  body_records xs = go (read_all reader s)
    where
      cut : (b : Bool) (ys : List A) → leb (length ys) limit ≡ b → at_most limit (some ys) ≡ some xs → (◌≡◌ {A = Option (List A)} (some ys) (some xs)) × (length xs ≤ limit)
      cut true ys e h =
          let k : ◌≡◌ {A = Option (List A)} (some ys) (some xs) = rw (e, at_most) at h in
          (k, omega (arith, leb-true (length ys) limit e, ap length (some-injective _ _ k)))
      cut false ys e h = let k : ◌≡◌ {A = Option (List A)} none (some xs) = rw (e, at_most) at h in absurd (let z : ◌≡◌ {A = ℕ} 0 1 = cc in omega arith)

      go : (o : Option (List A)) → at_most limit o ≡ some xs → (o ≡ some xs) × (length xs ≤ limit)
      go none h = absurd (let z : ◌≡◌ {A = ℕ} 0 1 = cc in omega arith)
      go (some ys) h = cut (leb (length ys) limit) ys refl h

-- ---- the bodies

module _ {A B : Type 0} where
  pub then_some : (o : Option A) (f : A → Option B) (b : B) → (o then f) ≡ some b → (a : A) × (o ≡ some a) × (f a ≡ some b)
  then_some none f b h = absurd (let z : ◌≡◌ {A = ℕ} 0 1 = cc in omega arith)
  then_some (some a) f b h = (a, refl, h)

-- ---- the parts of a decoded pack

pub record Unpacked (s : List ℕ) (P : Pack) : Type 0 where
  pub values : (read_all value (body_of s 0) ≡ some P.setting.values) × (length P.setting.values ≤ max_values)
  pub relations : (read_all relation (body_of s 1) ≡ some P.setting.arities) × (length P.setting.arities ≤ max_relations)
  pub dependencies : (read_all dependency (body_of s 2) ≡ some P.setting.dependencies) × (length P.setting.dependencies ≤ max_dependencies)
  pub types : (read_all name (body_of s 3) ≡ some P.setting.types) × (length P.setting.types ≤ max_types)
  pub predicates : (read_all name (body_of s 4) ≡ some P.setting.predicates) × (length P.setting.predicates ≤ max_predicates)
  pub shapes : (read_all shape (body_of s 5) ≡ some P.setting.shapes) × (length P.setting.shapes ≤ max_shapes)
  pub constructors : (read_all constructor (body_of s 6) ≡ some P.setting.constructors) × (length P.setting.constructors ≤ max_constructors)
  pub rules : (read_all rule (body_of s 7) ≡ some P.setting.rules) × (length P.setting.rules ≤ max_rules)
  pub rows : (read_all row (body_of s 8) ≡ some P.rows) × (length P.rows ≤ max_rows)

pub unpacked : (s : List ℕ) (P : Pack) → unpack s ≡ some P → Unpacked s P
unfolding unpack_within
unpacked s P h =
    let a = then_some (body value max_values (body_of s 0)) _ P h in
    let b = then_some (body relation max_relations (body_of s 1)) _ P a.2 in
    let c = then_some (body dependency max_dependencies (body_of s 2)) _ P b.2 in
    let d = then_some (body name max_types (body_of s 3)) _ P c.2 in
    let e = then_some (body name max_predicates (body_of s 4)) _ P d.2 in
    let f = then_some (body shape max_shapes (body_of s 5)) _ P e.2 in
    let g = then_some (body constructor max_constructors (body_of s 6)) _ P f.2 in
    let i = then_some (body rule max_rules (body_of s 7)) _ P g.2 in
    let j = then_some (body row max_rows (body_of s 8)) _ P i.2 in
    subst (Unpacked s) (some-injective _ P j.2) (record {
      values = body_records value max_values (body_of s 0) _ a.1;
      relations = body_records relation max_relations (body_of s 1) _ b.1;
      dependencies = body_records dependency max_dependencies (body_of s 2) _ c.1;
      types = body_records name max_types (body_of s 3) _ d.1;
      predicates = body_records name max_predicates (body_of s 4) _ e.1;
      shapes = body_records shape max_shapes (body_of s 5) _ f.1;
      constructors = body_records constructor max_constructors (body_of s 6) _ g.1;
      rules = body_records rule max_rules (body_of s 7) _ i.1;
      rows = body_records row max_rows (body_of s 8) _ j.1;
    })
