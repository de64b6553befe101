-- The outcomes of the steps from a pack to its graph: from its rows, from its heads, from its core. Assumes nothing.
use Rattle.std.specs.Prelude.{◌≡◌, ℕ, true, false, List, Result}
use Rattle.calls.specs.Call.{Contents, Kept, Written}
use Rattle.construct.specs.Outcome.{clashing, counted, refused_as}
use Rattle.graph.specs.Fronts.{GraphFronts, graph_lists}
use Rattle.graph.specs.declared.Size.{Size}
use Rattle.core_lists.specs.Held.{InputOf}
use Rattle.core_lists.specs.declared.Core.{Core}
use Rattle.node_list.specs.Records.{Arities}
use Rattle.meaning.specs.Clash.{ClashGiven}
use Rattle.meaning.specs.NoGraph.{MixedKinds, TooLarge, TwoObjects}
use Rattle.meaning.specs.Pack.{Pack}
use Rattle.meaning.specs.declared.refusal.Refusal.{Refusal}
use Rattle.meaning.specs.WellFormed.{broken, dangling}
use Rattle.names.specs.PackGiven.{SettingGiven}
use Rattle.rule_heads.specs.Answer.{HeadsFound}
use Rattle.rule_heads.specs.declared.AllHeads.{AllHeads}

-- The pack has a graph; its numbers stand first in the lists, and what follows is as it was.
pub record GraphLeft (P : Pack) (n t : ℕ) (nodes triples index : Contents) : Type 0 where
  pub fronts : List (List ℕ)
  pub graph : GraphFronts P n t fronts
  pub written : Written fronts (graph_lists nodes triples index)
  pub not_10 : ¬ TwoObjects P
  pub not_11 : ¬ MixedKinds P

module _ (P : Pack) (r : Result Size Refusal) (nodes triples index : Contents) where
  -- the lists are as they were
  abbrev pub ListsKept : Type 0
  ListsKept = Kept (graph_lists nodes triples index)

  -- 10, 11 or the graph, of a pack whose core is small
  pub data FromCore : Type 0 where
    clash : (subject : List ℕ) (predicate : ℕ) (first second : List ℕ) → ClashGiven P subject predicate first second
        → r ≡ clashing subject predicate first second → ListsKept → FromCore
    mixed : ¬ TwoObjects P → MixedKinds P → r ≡ refused_as 11 → ListsKept → FromCore
    graph : (n t : ℕ) → GraphLeft P n t nodes triples index → r ≡ counted n t → FromCore

  -- 9, or one of these
  pub data FromHeads : Type 0 where
    large : TooLarge P → r ≡ refused_as 9 → ListsKept → FromHeads
    small : ¬ TooLarge P → FromCore → FromHeads

  -- "8. Rows break a dependency"; or the pack "keeps its dependencies", and one of these
  pub data FromRows : Type 0 where
    dependency : broken P ≡ true → r ≡ refused_as 8 → ListsKept → FromRows
    kept : broken P ≡ false → FromHeads → FromRows

-- The core's numbers are those of some pack; what is answered is true of each.
pub record CoreGiven (table : List (List ℕ)) (arities : List ℕ) (core : Core) : Type 0 where
  pub pack : Pack
  pub input : InputOf pack table core
  pub arity : Arities pack arities

abbrev pub OfCore : List (List ℕ) → List ℕ → Core → (Pack → Type 0) → Type 0
OfCore table arities core Q = (P : Pack) → InputOf P table core → Arities P arities → Q P

-- The setting's numbers and the heads are those of this pack, of which refusal 7 is false.
pub record HeadsOf (P : Pack) (counts numbers : List ℕ) (a : AllHeads) (heads : List ℕ) : Type 0 where
  pub given : SettingGiven P counts numbers
  pub resolved : dangling P ≡ false
  pub found : HeadsFound P a heads

-- They are those of some pack; what is answered is true of each.
pub record HeadsGiven (counts numbers : List ℕ) (a : AllHeads) (heads : List ℕ) : Type 0 where
  pub pack : Pack
  pub is : HeadsOf pack counts numbers a heads

abbrev pub OfHeads : List ℕ → List ℕ → AllHeads → List ℕ → (Pack → Type 0) → Type 0
OfHeads counts numbers a heads Q = (P : Pack) → HeadsOf P counts numbers a heads → Q P
