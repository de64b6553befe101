-- What the functions behind the open call ask and answer, once the lengths are known. Assumes nothing.
use Rattle.std.specs.Prelude.{List, Result, ◌++◌, ℕ}
use Rattle.calls.specs.Call.{Contents, LongEnough, Outcome, ◌becomes◌}
use Rattle.evaluate.specs.Answered.{ForReady, IsReady}
use Rattle.graph.specs.declared.Size.{Size}
use Rattle.index.specs.Subjects.{BySubject}
use Rattle.meaning.specs.Pack.{Text}
use Rattle.meaning.specs.declared.refusal.Refusal.{Refusal}
use Rattle.pairs.specs.Answer.{Gives, Refuses, buffers, lists}
use Rattle.pairs.specs.declared.PairAnswer.{PairAnswer}

-- all lists and buffers are long enough
abbrev pub Room : List ℕ → List ℕ → List ℕ → List ℕ → List ℕ → List ℕ → List ℕ → List ℕ → List ℕ → List ℕ → List ℕ → List ℕ → List ℕ → Type 0
Room nodes triples index pairs rows heads alive waiting stack seen own_nodes own_triples own_index =
    LongEnough
    (lists (nodes becomes nodes) (triples becomes triples) (index becomes index) (pairs becomes pairs)
    ++ buffers (rows becomes rows) (heads becomes heads) (alive becomes alive) (waiting becomes waiting) (stack becomes stack) (seen becomes seen)
    (own_nodes becomes own_nodes) (own_triples becomes own_triples) (own_index becomes own_index))

-- the output lists are long enough
abbrev pub ListRoom : List ℕ → List ℕ → List ℕ → List ℕ → Type 0
ListRoom nodes triples index pairs = LongEnough (lists (nodes becomes nodes) (triples becomes triples) (index becomes index) (pairs becomes pairs))

module _ (tree : List ℕ) (parts : ℕ) (wanted : List ℕ) (size : Size) (points links marks : List ℕ) where
  -- A pack's graph of this size stands in two lists, with its index, ready for a query.
  pub record CountedGraph : Type 0 where
    pub ready : IsReady tree parts wanted points size.nodes links size.triples
    pub indexed : BySubject links size.nodes size.triples marks

  -- What holds of every pack and query that it is ready for.
  abbrev pub ForCounted : (Text → Text → Type 0) → Type 0
  ForCounted = ForReady tree parts wanted points size.nodes links size.triples

-- 2 to 12, or the graph and the pairs
abbrev pub Comes : Text → Text → Result PairAnswer Refusal → Contents → Contents → Contents → Contents → Type 0
Comes pack query r nodes triples index pairs = Outcome (Refuses pack query) (Gives pack query) r (lists nodes triples index pairs)
