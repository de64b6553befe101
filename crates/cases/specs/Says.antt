-- What a case says: of a pack's bytes and a call, that this is its outcome, in the definitions that the open calls' contracts
-- cite. Assumes nothing.
use Rattle.std.specs.Prelude.{Bool, Ok, Err, ◌≡◌, ℕ}
use mathlib.Core.List.{List, [], ◌∷◌, flatten}
use Rattle.construct.specs.Outcome as Graph
use Rattle.graph.specs.declared.Size.{Size}
use Rattle.iris.specs.declared.iri.Term.{Term}
use Rattle.meaning.specs.Pack.{Pack, Text}
use Rattle.meaning.specs.Refusals.{number_of}
use Rattle.meaning.specs.declared.refusal.Refusal.{Refusal}
use Rattle.pack.specs.Checked as Checked
use Rattle.pack.specs.Checked.{accepted, first_refusal, well_formed}
use Rattle.pairs.specs.Answer as Pairs
use Rattle.pairs.specs.declared.PairAnswer.{PairAnswer}
use Rattle.readback.specs.Answer as ReadBack
use Rattle.spelling.specs.Iri.{IsTerm, iri_of}
use Rattle.yes_no.specs.Answer as YesNo
use Rattle.yes_no.specs.declared.YesNo.{YesNo}

pub data Call : Type 0 where
  check : Call  -- 3 to 8 alone
  build : Call
  ask : Text → Call  -- yes/no and pairs, of a query
  read : Text → Call  -- read-back, of a text
  spell : ℕ → List ℕ → Call  -- the IRI of a constructor over values

pub data Outcome : Type 0 where
  refused : ℕ → Outcome  -- by a check: the number
  refuses : ℕ → Refusal → Outcome  -- by a call: the number, and all that the refusal answers, the clash of 10 too
  fine : Outcome  -- none of 3 to 8
  graph : List (List ℕ) → List (List ℕ) → List (List ℕ) → Outcome  -- its node records, its triple records and its index of subjects
  answer : Bool → List (List ℕ) → Outcome  -- yes or no, and the pair records
  term : List ℕ → Outcome  -- the constructor number and the four places
  iri : Text → Outcome

pub data Says (pack : Text) : Call → Outcome → Type 0 where
  -- "Refused, in checking order": the first of 3 to 8, or none
  is_refused : {k : ℕ} → first_refusal pack ≡ Checked.refused k → Says pack check (refused k)
  is_fine : {P : Pack} → first_refusal pack ≡ accepted P → Says pack check fine
  -- "A refusal gives its number": the first of 3 to 11, 10 with the first clash
  build_refused : {e : Refusal} → Graph.Refuses {A = Size} pack (Err e) → Says pack build (refuses (number_of e) e)
  -- "Build turns a pack into a graph": these are its records and their index, and their numbers stand in the lists
  build_gives : {size : Size} {nodes triples index : List (List ℕ)} → (G : Graph.GivesGraph pack size (flatten nodes ∷ flatten triples ∷ flatten index ∷ []))
      → G.has.graph.listed.node_records_are ≡ nodes → G.has.graph.listed.triple_records_are ≡ triples → G.has.graph.entries ≡ index
      → Says pack build (graph nodes triples index)
  -- "yes/no adds 2, pairs adds 12": both refuse, alike
  ask_refused : {q : Text} {e : Refusal} → YesNo.Refuses pack q (Err e) → Pairs.Refuses {A = PairAnswer} pack q (Err e) → Says pack (ask q) (refuses (number_of e) e)
  -- "Yes means that some two nodes are joined", certainly; "Pairs lists named ones only, ascending": the certain ones
  ask_gives : {q : Text} {y : YesNo} {p : PairAnswer} {fronts lists : List (List ℕ)} {b : Bool} {pairs : List (List ℕ)} → YesNo.GivesAnswer pack q y fronts → y.yes ≡ b
      → (G : Pairs.GivesPairs pack q p lists) → G.records ≡ pairs → Says pack (ask q) (answer b pairs)
  -- "Read-back uses 3 to 7, then 13."
  read_refused : {t : Text} {e : Refusal} → ReadBack.ReadBackAnswers pack t (Err e) → Says pack (read t) (refuses (number_of e) e)
  -- "the constructor number and, in argument order, as many value numbers as its arity, 65,535 in places unused"
  read_gives : {t : Text} {r : Term} → ReadBack.ReadBackAnswers pack t (Ok r) → Says pack (read t) (term (r.constructor ∷ r.values))
  -- "Prefix, then the values joined by "/"", of a well-formed pack
  spelled : {P : Pack} {c : ℕ} {values : List ℕ} {t : Text} → well_formed pack ≡ accepted P → IsTerm P c values → iri_of P c values ≡ t
      → Says pack (spell c values) (iri t)
