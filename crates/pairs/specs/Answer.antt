-- What pairs answers and leaves (document 01, "Refused, in checking order": pairs uses 1 to 12). Assumes nothing.
use Rattle.std.specs.Prelude.{length, Result, IsOkAnd, ◌≡◌, ℕ}
use mathlib.Core.List.{List, [], ◌∷◌, ◌++◌, flatten}
use Rattle.calls.specs.Call.{Call, Contents, Lent, ◌at_least◌}
use Rattle.construct.specs.Outcome.{SomeObeys, refused_as}
use Rattle.grammar.specs.Grammar.{IsQuery}
use Rattle.graph.specs.Fronts.{graph_lists}
use Rattle.meaning.specs.Certain.{PairList, TooManyPairs}
use Rattle.meaning.specs.Limits.{heads_length, index_length, node_list_length, pair_list_length, rows_length, seen_words, state_words, triple_list_length}
use Rattle.meaning.specs.NoGraph.{TooLarge}
use Rattle.meaning.specs.Pack.{Pack, Text}
use Rattle.meaning.specs.Query.{Expr}
use Rattle.meaning.specs.declared.refusal.Refusal.{Refusal}
use Rattle.pack.specs.Checked.{accepted, first_refusal}
use Rattle.pairs.specs.declared.PairAnswer.{PairAnswer}
use Rattle.prepare.specs.Prepared as Prepared
use Rattle.spelling.specs.Iri.{plain}

-- 2, then 3 to 11, then 12
pub data Refuses {A : Type 0} (pack query : Text) (r : Result A Refusal) : Type 0 where
  before_12 : Prepared.Refuses pack query r → Refuses pack query r
  too_many : (e : Expr) → IsQuery query e → (P : Pack) → first_refusal pack ≡ accepted P → ¬ TooLarge P → SomeObeys P → TooManyPairs (plain P) P e
      → r ≡ refused_as 12 → Refuses pack query r

-- The graph, and the pairs: "exactly the pairs of named nodes that the query joins in every such graph", ascending; their
-- numbers stand at the front of the last list.
pub record GivesPairs (pack query : Text) (a : PairAnswer) (fronts : List (List ℕ)) : Type 0 where
  pub graph_fronts : List (List ℕ)
  pub asked : Prepared.Gives pack query a.size graph_fronts
  pub few : ¬ TooManyPairs (plain asked.graph.of) asked.graph.of asked.expression
  pub records : List (List ℕ)
  pub certain : PairList (plain asked.graph.of) asked.graph.of asked.expression asked.graph.has.graph.listed.lists.in_order records
  pub count : a.pairs ≡ length records
  pub fronts_are : fronts ≡ graph_fronts ++ (flatten records ∷ [])

abbrev pub Gives : Text → Text → Result PairAnswer Refusal → List (List ℕ) → Type 0
Gives pack query r fronts = IsOkAnd r (λ a. GivesPairs pack query a fronts)

-- the output lists
abbrev pub lists : Contents → Contents → Contents → Contents → List Lent
lists nodes triples index pairs = graph_lists nodes triples index ++ (pairs at_least pair_list_length ∷ [])

-- the working buffers
abbrev pub buffers : Contents → Contents → Contents → Contents → Contents → Contents → Contents → Contents → Contents → List Lent
buffers rows heads alive waiting stack seen own_nodes own_triples own_index =
    rows at_least rows_length ∷ heads at_least heads_length ∷ alive at_least state_words ∷ waiting at_least state_words ∷ stack at_least state_words
    ∷ seen at_least seen_words ∷ own_nodes at_least node_list_length ∷ own_triples at_least triple_list_length ∷ own_index at_least index_length ∷ []

-- 1 to 12, or the graph and the pairs
abbrev pub PairsAnswers : Text → Text → Result PairAnswer Refusal → Contents → Contents → Contents → Contents → Contents → Contents → Contents → Contents → Contents → Contents → Contents
    → Contents → Contents → Type 0
PairsAnswers pack query r nodes triples index pairs rows heads alive waiting stack seen own_nodes own_triples own_index =
    Call (refused_as 1) (Refuses pack query) (Gives pack query) r (lists nodes triples index pairs)
    (buffers rows heads alive waiting stack seen own_nodes own_triples own_index)
