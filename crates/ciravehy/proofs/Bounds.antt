-- The counts of an answer fit into 16 bits. Assumes nothing.
use mathlib.Core.List.{List}
use native.Mathlib.Omega.{arith}
use Prim.Native.Nat.{ℕ, ◌<◌}
use Rattle.std.specs.Prelude.{IfOk, Ok, Result}
use Rattle.calls.proofs.Meets.{every}
use Rattle.calls.specs.Call.{Call, Lent}
use Rattle.ciravehy.proofs.Pairs.{few_pairs}
use Rattle.construct.proofs.Refused.{no_error, no_value}
use Rattle.construct.specs.Outcome.{Gives, GivesGraph, Refuses, refused_as}
use Rattle.graph.specs.declared.Size.{Size}
use Rattle.meaning.specs.Pack.{Text}
use Rattle.meaning.specs.declared.refusal.Refusal.{Refusal}
use Rattle.pairs.specs.Answer as Pairs
use Rattle.pairs.specs.declared.PairAnswer.{PairAnswer}
use Rattle.prepare.proofs.RefusedOrGraph.{not_ok}
use Rattle.spelling.specs.Iri.{plain}
use Rattle.yes_no.specs.Answer as YesOrNo
use Rattle.yes_no.specs.declared.YesNo.{YesNo}

-- ---- numbers of 16 bits

abbrev pub Small : ℕ → Type 0
Small n = n < 65536

-- ---- what is given

abbrev Counts : Size → Type 0
Counts s = Small s.nodes × Small s.triples

given_small : {pack : Text} {size : Size} {fronts : List (List ℕ)} → GivesGraph pack size fronts → Counts size
given_small G = let n = G.has.graph.listed.few_nodes in let t = G.has.graph.listed.few_triples in (omega arith, omega arith)

abbrev pub All : PairAnswer → Type 0
All a = Small a.size.nodes × Small a.size.triples × Small a.pairs

given_pairs : {pack query : Text} {a : PairAnswer} {fronts : List (List ℕ)} → Pairs.GivesPairs pack query a fronts → All a
given_pairs G =
    let (a, b) = given_small G.asked.graph in
    let P = G.asked.graph.of in
    let l = G.asked.graph.has.graph.listed.lists in
    let h = few_pairs (plain P) P G.asked.expression l.in_order l.ordered G.records G.certain G.few in
    (a, b, omega (arith, G.count))

-- ---- what is true of all that is given is true of an answer that is no refusal

module _ {A : Type 0} (Q : A → Type 0) {Refuses : Result A Refusal → Type 0} {Gives : Result A Refusal → List (List ℕ) → Type 0} {a : A} {one : Result A Refusal} {lists buffers : List Lent} where
  of_given : IfOk one Q → (Refuses (Ok a) → ⊥) → ((fronts : List (List ℕ)) → Gives (Ok a) fronts → Q a) → Call one Refuses Gives (Ok a) lists buffers → Q a
  of_given o f g = every (λ r. IfOk r Q) o (λ x. absurd (f x)) g

pub build_small : {pack : Text} {size : Size} {lists buffers : List Lent} → Call (refused_as 1) (Refuses pack) (Gives pack) (Ok size) lists buffers → Counts size
build_small = of_given Counts tt no_value (λ _ G. given_small G)

module _ {pack query : Text} where
  pub yes_no_small : {a : YesNo} {lists buffers : List Lent} → Call (refused_as 1) (YesOrNo.Refuses pack query) (YesOrNo.Gives pack query) (Ok a) lists buffers → Counts a.size
  yes_no_small = of_given (λ (a : YesNo). Counts a.size) tt not_ok (λ _ G. given_small G.asked.graph)

  no_pairs : {a : PairAnswer} → Pairs.Refuses {A = PairAnswer} pack query (Ok a) → ⊥
  no_pairs (Pairs.before_12 x) = not_ok x
  no_pairs (Pairs.too_many e i P o n w x q) = no_error q

  pub pairs_small : {a : PairAnswer} {lists buffers : List Lent} → Call (refused_as 1) (Pairs.Refuses pack query) (Pairs.Gives pack query) (Ok a) lists buffers → All a
  pairs_small = of_given All tt no_pairs (λ _ G. given_pairs G)
