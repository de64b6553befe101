-- What the exported calls leave: an answer as the open call's own contract has it (document 01, "What the service does"), its
-- refusal as the result and its numbers in the report. They ask nothing of the caller. Assumes nothing.
use Rattle.std.specs.Prelude.{List, ◌∷◌, replicate, Result, Ok, Err, ◌≡◌, ℕ}
use Rattle.build.specs.Answer as Build
use Rattle.calls.specs.Call.{Contents}
use Rattle.report.specs.Report.{number, reported}
use Rattle.graph.specs.declared.Size.{Size}
use Rattle.iris.specs.declared.iri.Term.{Term}
use Rattle.meaning.specs.Limits.{clash_width, unused}
use Rattle.meaning.specs.Pack.{Text}
use Rattle.meaning.specs.Refusals.{number_of}
use Rattle.meaning.specs.declared.refusal.Refusal.{Refusal}
use Rattle.meaning.specs.declared.refusal.Refusal.TheVariants.{Clash}
use Rattle.pairs.specs.Answer as Pairs
use Rattle.pairs.specs.declared.PairAnswer.{PairAnswer}
use Rattle.readback.specs.Answer as Readback
use Rattle.yes_no.specs.Answer as YesOrNo
use Rattle.yes_no.specs.declared.YesNo.{YesNo}

-- ---- an answer in numbers

-- A refusal's number; 0 where there is none.
abbrev pub refusal_number : {A : Type 0} → Result A Refusal → ℕ
refusal_number (Ok a) = 0
refusal_number (Err e) = number_of e

-- The clash that 10 gives; of another refusal 22 zeros.
abbrev pub clash_of : Refusal → List ℕ
clash_of (Clash numbers) = numbers
clash_of e = replicate clash_width 0

-- The graph's counts and the answer's number; of a refusal zeros, and its clash.
abbrev pub report_of : {A : Type 0} → (A → Size) → (A → ℕ) → Result A Refusal → List ℕ
report_of size answer (Ok a) = reported (size a).nodes (size a).triples (answer a) (replicate clash_width 0)
report_of size answer (Err e) = reported 0 0 0 (clash_of e)

-- The constructor and the values; of a refusal 65,535 in all places.
abbrev pub term_of : Result Term Refusal → List ℕ
term_of (Ok t) = t.constructor ∷ t.values
term_of (Err e) = replicate 5 unused

-- ---- the calls

-- Build: "Build reports both counts."
pub record Builds (pack : Text) (result : ℕ) (nodes triples index rows heads : Contents) (report' : List ℕ) : Type 0 where
  pub answer : Result Size Refusal
  pub answers : Build.BuildAnswers pack answer nodes triples index rows heads
  pub refusal : result ≡ refusal_number answer
  pub report : report' ≡ report_of (λ size. size) (λ size. 0) answer

-- Yes/no: the answer's number is 1 for yes, 0 for no.
pub record Decides (pack query : Text) (result : ℕ) (nodes triples index rows heads alive waiting stack : Contents) (report' : List ℕ) : Type 0 where
  pub answer : Result YesNo Refusal
  pub answers : YesOrNo.YesNoAnswers pack query answer nodes triples index rows heads alive waiting stack
  pub refusal : result ≡ refusal_number answer
  pub report : report' ≡ report_of (λ a. a.size) (λ a. number a.yes) answer

-- Pairs: the answer's number is the pair count.
pub record Finds (pack query : Text) (result : ℕ) (nodes triples index pairs rows heads alive waiting stack seen own_nodes own_triples own_index : Contents) (report' : List ℕ) : Type 0 where
  pub answer : Result PairAnswer Refusal
  pub answers : Pairs.PairsAnswers pack query answer nodes triples index pairs rows heads alive waiting stack seen own_nodes own_triples own_index
  pub refusal : result ≡ refusal_number answer
  pub report : report' ≡ report_of (λ a. a.size) (λ a. a.pairs) answer

-- Read-back: "the constructor number and, in argument order, as many value numbers as its arity, 65,535 in places unused"
pub record Reads (pack text : Text) (result : ℕ) (report' : List ℕ) : Type 0 where
  pub answer : Result Term Refusal
  pub answers : Readback.ReadBackAnswers pack text answer
  pub refusal : result ≡ refusal_number answer
  pub report : report' ≡ term_of answer
