-- What a search for refusal 10 answers, and the clash as numbers. Assumes nothing.
use Rattle.std.specs.Prelude.{get_or, Bool, true, false, List, [], ◌∷◌, ◌++◌, ◌≡◌, None, Option, Some, ℕ, suc, ◌-◌}
use Rattle.std.proofs.Math.ListN.{get_elem?}
use Rattle.std.proofs.Math.Option.{some}
use Rattle.spread.specs.Keys.{key_of, origin_of, predicate_of, subject_of, triple_key}
use Rattle.core_lists.specs.Held.{InputOf}
use Rattle.core_lists.specs.declared.Core.{Core}
use Rattle.node_list.specs.Records.{Arities}
use Rattle.meaning.specs.Clash.{ClashGiven, FirstClash}
use Rattle.meaning.specs.NoGraph.{TwoObjects}
use Rattle.meaning.specs.Pack.{Pack, limits}
use Rattle.shapes.specs.Shapes.{SomePasses}

-- ---- "a core node has two p-objects and a type with multiplicity 1 or 2 for p": the triple at a place and the one before

abbrev pub SameOrigin : List ℕ → ℕ → Type 0
SameOrigin triples i = origin_of (get_or triples (i - 1) 0) ≡ origin_of (get_or triples i 0)

module _ (table : List (List ℕ)) (triples masks : List ℕ) (i : ℕ) where
  abbrev pub LimitedAt : Bool → Type 0
  LimitedAt r = SomePasses limits table (get_or masks (subject_of (get_or triples i 0)) 0) (predicate_of (get_or triples i 0)) r

  abbrev pub Clashes : Bool → Type 0
  Clashes true = SameOrigin triples i × LimitedAt true
  Clashes false = SameOrigin triples i → LimitedAt false

-- ---- the search

-- The triples at a place and the next are the first clash.
pub record ClashAt (P : Pack) (nodes triples : List ℕ) (i : ℕ) : Type 0 where
  pub clash : TwoObjects P
  pub is_first : FirstClash P clash
  pub subject : ℕ
  pub first : ℕ
  pub second : ℕ
  pub subject_is_at : get_elem? nodes subject ≡ some (key_of clash.subject)
  pub first_is_at : get_elem? nodes first ≡ some (key_of clash.first)
  pub second_at : get_elem? nodes second ≡ some (key_of clash.second)
  pub first_key : get_elem? triples i ≡ some (triple_key subject clash.predicate first)
  pub second_key : get_elem? triples (suc i) ≡ some (triple_key subject clash.predicate second)

module _ (table : List (List ℕ)) (core : Core) where
  abbrev pub ClashShown : Option ℕ → Type 0
  ClashShown (Some i) = (P : Pack) → InputOf P table core → ClashAt P core.nodes.now core.triples.now i
  ClashShown None = (P : Pack) → InputOf P table core → ¬ TwoObjects P

-- ---- "one such node, predicate and two objects are given, the nodes as node records of the core"

pub record ClashWritten (P : Pack) (numbers : List ℕ) : Type 0 where
  pub subject : List ℕ
  pub predicate : ℕ
  pub first : List ℕ
  pub second : List ℕ
  pub given : ClashGiven P subject predicate first second
  pub written : numbers ≡ subject ++ (predicate ∷ []) ++ first ++ second

abbrev pub ClashRecorded : List ℕ → Core → ℕ → List ℕ → Type 0
ClashRecorded arities core i numbers =
    (P : Pack) (table : List (List ℕ)) → InputOf P table core → Arities P arities → ClashAt P core.nodes.now core.triples.now i
    → ClashWritten P numbers
