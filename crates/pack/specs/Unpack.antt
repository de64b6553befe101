-- From bytes to the decoded pack; refusal 4 is where there is none (document 01, "The pack"). Assumes nothing.
use Rattle.std.specs.Prelude.{leb, length, true, false, List, [], ◌∷◌, ℕ, zero, suc}
use Rattle.std.proofs.Math.Option.{Option, none, some}
use Rattle.meaning.specs.Limits.{max_values, max_relations, max_dependencies, max_types, max_predicates, max_shapes, max_constructors, max_rules, max_rows}
use Rattle.meaning.specs.Pack.{Pack}
use Rattle.pack.specs.Contents.{body_of}
use Rattle.pack.specs.Readers.{Reader}
use Rattle.pack.specs.Records.{value, relation, dependency, name, shape, constructor, rule, row}

module _ {A : Type 0} where
  abbrev pub also : A → Option (List A) → Option (List A)
  also x none = none
  also x (some xs) = some (x ∷ xs)

  unfoldable pub records : Reader A → ℕ → List ℕ → Option (List A)
  records reader zero s = none
  records reader (suc turns) [] = some []
  records reader (suc turns) (b ∷ s) =
      elim (reader (b ∷ s)) [ none ↦ none | some r ↦ also r.got (records reader turns r.rest) ]

  -- "Records are read one after another until the body's end." Each takes a byte or more, so one turn more than there
  -- are bytes is enough.
  unfoldable pub read_all : Reader A → List ℕ → Option (List A)
  read_all reader s = records reader (suc (length s)) s

  abbrev pub at_most : ℕ → Option (List A) → Option (List A)
  at_most limit none = none
  at_most limit (some xs) = elim (leb (length xs) limit) [ true ↦ some xs | false ↦ none ]

  -- a body: its records, at most so many
  unfoldable pub body : Reader A → ℕ → List ℕ → Option (List A)
  body reader limit s = at_most limit (read_all reader s)

module _ {A B : Type 0} where
  infixr 20 ◌then◌
  abbrev pub ◌then◌ : Option A → (A → Option B) → Option B
  ◌then◌ none f = none
  ◌then◌ (some a) f = f a

-- 4: "A body holds more records than its limit, or is not whole records with every arity, count, length, letter, prefix
-- byte, kind, multiplicity and variable in bounds": then this gives nothing.
-- The limits of types and of shapes, which card 14 raised, are given.
unfoldable pub unpack_within : ℕ → ℕ → List ℕ → Option Pack
unpack_within types shapes s =
    body value max_values (body_of s 0) then λ vs.
    body relation max_relations (body_of s 1) then λ ks.
    body dependency max_dependencies (body_of s 2) then λ ds.
    body name types (body_of s 3) then λ ts.
    body name max_predicates (body_of s 4) then λ ps.
    body shape shapes (body_of s 5) then λ ss.
    body constructor max_constructors (body_of s 6) then λ cs.
    body rule max_rules (body_of s 7) then λ us.
    body row max_rows (body_of s 8) then λ ws.
    some (record {
      setting = record { values = vs; arities = ks; dependencies = ds; types = ts; predicates = ps; shapes = ss; constructors = cs; rules = us };
      rows = ws;
    })

abbrev pub unpack : List ℕ → Option Pack
unpack = unpack_within max_types max_shapes
