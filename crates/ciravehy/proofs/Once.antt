-- What the exported calls say and leave is fixed by the bytes and the lengths of what they are lent: for each, its result, its
-- report, and what the open call's own theorem says of the lists and buffers. Assumes nothing.
use mathlib.Core.List.{List}
use mathlib.Core.Path.{◌≡◌, sym, ap, ◌∙◌}
use Prim.Native.Nat.{ℕ}
use Rattle.std.specs.Prelude.{Result}
use Rattle.build.proofs.Once as build
use Rattle.build.specs.Answer as Build
use Rattle.calls.proofs.Once.{Same, SameLengths}
use Rattle.calls.specs.Call.{Contents}
use Rattle.ciravehy.specs.Exported.{Builds, Decides, Finds, Reads, refusal_number, report_of, term_of}
use Rattle.construct.specs.Outcome as Graph
use Rattle.graph.specs.Fronts.{graph_lists}
use Rattle.graph.specs.declared.Size.{Size}
use Rattle.meaning.specs.Pack.{Text}
use Rattle.meaning.specs.declared.refusal.Refusal.{Refusal}
use Rattle.pairs.proofs.Once as pairs
use Rattle.pairs.specs.Answer as Pairs
use Rattle.pairs.specs.declared.PairAnswer.{PairAnswer}
use Rattle.readback.proofs.Once as readback
use Rattle.report.specs.Report.{number}
use Rattle.yes_no.proofs.Once as yes-no
use Rattle.yes_no.specs.Answer as YesOrNo
use Rattle.yes_no.specs.declared.YesNo.{YesNo}

-- ---- results and reports

-- One result and one report.
abbrev pub SameReport : ℕ → ℕ → List ℕ → List ℕ → Type 0
SameReport result result₂ report report₂ = (result ≡ result₂) × (report ≡ report₂)

same_report : {A : Type 0} {r s : Result A Refusal} (size : A → Size) (answer : A → ℕ) {result result₂ : ℕ} {report report₂ : List ℕ} → r ≡ s
    → result ≡ refusal_number r → result₂ ≡ refusal_number s → report ≡ report_of size answer r → report₂ ≡ report_of size answer s
    → SameReport result result₂ report report₂
same_report size answer e q p u v = (q ∙ ap refusal_number e ∙ sym p, u ∙ ap (report_of size answer) e ∙ sym v)

-- ---- the calls

module _ (pack : Text) (nodes nodes₂ triples triples₂ index index₂ rows rows₂ heads heads₂ : Contents) {result result₂ : ℕ} {report report₂ : List ℕ} where
  pub builds_once : SameLengths (graph_lists nodes triples index) (graph_lists nodes₂ triples₂ index₂) → SameLengths (Build.buffers rows heads) (Build.buffers rows₂ heads₂)
      → (x : Builds pack result nodes triples index rows heads report) (y : Builds pack result₂ nodes₂ triples₂ index₂ rows₂ heads₂ report₂)
      → SameReport result result₂ report report₂
      × Same (Graph.Refuses pack) (Graph.Gives pack) x.answer y.answer (graph_lists nodes triples index) (graph_lists nodes₂ triples₂ index₂)
      (Build.buffers rows heads) (Build.buffers rows₂ heads₂)
  builds_once e f x y =
      let s = build.answers_once pack x.answer y.answer nodes nodes₂ triples triples₂ index index₂ rows rows₂ heads heads₂ e f x.answers y.answers in
      (same_report (λ size. size) (λ size. 0) s.answer x.refusal y.refusal x.report y.report, s)

module _ (pack query : Text)
    (nodes nodes₂ triples triples₂ index index₂ rows rows₂ heads heads₂ alive alive₂ waiting waiting₂ stack stack₂ : Contents)
    {result result₂ : ℕ} {report report₂ : List ℕ} where
  pub decides_once : SameLengths (graph_lists nodes triples index) (graph_lists nodes₂ triples₂ index₂)
      → SameLengths (YesOrNo.buffers rows heads alive waiting stack) (YesOrNo.buffers rows₂ heads₂ alive₂ waiting₂ stack₂)
      → (x : Decides pack query result nodes triples index rows heads alive waiting stack report)
      (y : Decides pack query result₂ nodes₂ triples₂ index₂ rows₂ heads₂ alive₂ waiting₂ stack₂ report₂)
      → SameReport result result₂ report report₂
      × Same (YesOrNo.Refuses pack query) (YesOrNo.Gives pack query) x.answer y.answer (graph_lists nodes triples index) (graph_lists nodes₂ triples₂ index₂)
      (YesOrNo.buffers rows heads alive waiting stack) (YesOrNo.buffers rows₂ heads₂ alive₂ waiting₂ stack₂)
  decides_once e f x y =
      let s = yes-no.answers_once pack query x.answer
      y.answer nodes nodes₂ triples triples₂ index index₂ rows rows₂ heads heads₂ alive alive₂ waiting waiting₂ stack stack₂ e f x.answers y.answers in
      (same_report (λ (a : YesNo). a.size) (λ a. number a.yes) s.answer x.refusal y.refusal x.report y.report, s)

module _ (pack query : Text)
    (nodes nodes₂ triples triples₂ index index₂ list list₂ rows rows₂ heads heads₂ alive alive₂
    waiting waiting₂ stack stack₂ seen seen₂ own_nodes own_nodes₂ own_triples own_triples₂ own_index own_index₂ : Contents)
    {result result₂ : ℕ} {report report₂ : List ℕ} where
  pub finds_once : SameLengths (Pairs.lists nodes triples index list) (Pairs.lists nodes₂ triples₂ index₂ list₂)
      → SameLengths (Pairs.buffers rows heads alive waiting stack seen own_nodes own_triples own_index)
      (Pairs.buffers rows₂ heads₂ alive₂ waiting₂ stack₂ seen₂ own_nodes₂ own_triples₂ own_index₂)
      → (x : Finds pack query result nodes triples index list rows heads alive waiting stack seen own_nodes own_triples own_index report)
      (y : Finds pack query result₂ nodes₂ triples₂ index₂ list₂ rows₂ heads₂ alive₂ waiting₂ stack₂ seen₂ own_nodes₂ own_triples₂ own_index₂ report₂)
      → SameReport result result₂ report report₂
      × Same (Pairs.Refuses pack query) (Pairs.Gives pack query) x.answer y.answer (Pairs.lists nodes triples index list)
      (Pairs.lists nodes₂ triples₂ index₂ list₂) (Pairs.buffers rows heads alive waiting stack seen own_nodes own_triples own_index)
      (Pairs.buffers rows₂ heads₂ alive₂ waiting₂ stack₂ seen₂ own_nodes₂ own_triples₂ own_index₂)
  finds_once e f x y =
      let s =
      pairs.answers_once pack query x.answer y.answer nodes nodes₂ triples triples₂ index index₂ list list₂ rows rows₂ heads heads₂ alive alive₂ waiting waiting₂ stack stack₂
      seen seen₂ own_nodes own_nodes₂ own_triples own_triples₂ own_index own_index₂ e f x.answers y.answers in
      (same_report (λ (a : PairAnswer). a.size) (λ a. a.pairs) s.answer x.refusal y.refusal x.report y.report, s)

pub reads_once : {pack text : Text} {result result₂ : ℕ} {report report₂ : List ℕ} → Reads pack text result report → Reads pack text result₂ report₂
    → (result ≡ result₂) × (report ≡ report₂)
reads_once x y =
    let e = readback.answers_once x.answers y.answers in
    (x.refusal ∙ ap refusal_number e ∙ sym y.refusal, x.report ∙ ap term_of e ∙ sym y.report)
