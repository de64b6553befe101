-- The clash that refusal 10 gives (document 01, "Refused, in checking order"; document 02, card 8). Assumes nothing.
use Rattle.std.specs.Prelude.{List, ◌≡◌, ℕ, ◌≤◌}
use Rattle.meaning.specs.Built.{core}
use Rattle.meaning.specs.Core.{CoreEdge, Node}
use Rattle.meaning.specs.Listing.{NodeRecord, ◌◃◌}
use Rattle.meaning.specs.NoGraph.{TwoObjects}
use Rattle.meaning.specs.Pack.{Pack}

module _ (P : Pack) where
  -- "Refusal 10 must now show the first: lowest subject in node order, then lowest predicate, then the two lowest objects, the
  -- lower first."
  pub record FirstClash (c : TwoObjects P) : Type 0 where
    pub lowest_subject : (d : TwoObjects P) → ¬ (core d.subject ◃ core c.subject)
    pub lowest_predicate : (d : TwoObjects P) → d.subject ≡ c.subject → c.predicate ≤ d.predicate
    pub lowest_objects : (o : Node) → CoreEdge P c.subject c.predicate o → core o ◃ core c.second → o ≡ c.first
    pub lower_first : core c.first ◃ core c.second

  -- "one such node, predicate and two objects are given, the nodes as node records of the core"
  pub record ClashGiven (subject : List ℕ) (predicate : ℕ) (first second : List ℕ) : Type 0 where
    pub clash : TwoObjects P
    pub is_first : FirstClash clash
    pub subject_is : NodeRecord P (core clash.subject) subject
    pub predicate_is : predicate ≡ clash.predicate
    pub first_is : NodeRecord P (core clash.first) first
    pub second_is : NodeRecord P (core clash.second) second
