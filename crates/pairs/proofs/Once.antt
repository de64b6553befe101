-- What pairs answers and leaves is fixed by the bytes of the pack and of the query and the lengths of the lent lists and
-- buffers. Assumes nothing.
use lib.ListN.{length, length-append}
use mathlib.Core.List.{List, [], ◌∷◌, ◌++◌, flatten}
use mathlib.Core.Path.{◌≡◌, refl, sym, ap, subst, ◌∙◌}
use native.Mathlib.Omega.{arith}
use Prim.Native.Nat.{ℕ, ◌*◌}
use Rattle.std.specs.Prelude.{Result, Ok, Err}
use Rattle.calls.proofs.Once.{Fixed, Same, SameLengths, call_once}
use Rattle.calls.specs.Call.{Contents}
use Rattle.construct.proofs.Once.{accepted_once}
use Rattle.grammar.proofs.Agree.{one_expression}
use Rattle.meaning.proofs.Lists.Ordered.{by_key, list_unique}
use Rattle.meaning.specs.Built.{BuiltNode}
use Rattle.meaning.specs.Certain.{PairList, PairRecord, TooManyPairs}
use Rattle.meaning.specs.Graph.{Spelling}
use Rattle.meaning.specs.Limits.{pair_width}
use Rattle.meaning.specs.Listing.{NodesInOrder, node_key}
use Rattle.meaning.specs.Member.{◌∈◌, here, there}
use Rattle.meaning.specs.Pack.{Pack, Text}
use Rattle.meaning.specs.Query.{Expr}
use Rattle.meaning.specs.declared.refusal.Refusal.{Refusal}
use Rattle.pairs.specs.Answer.{PairsAnswers, Gives, GivesPairs, Refuses, before_12, buffers, lists, too_many}
use Rattle.pairs.specs.declared.PairAnswer.{PairAnswer}
use Rattle.prepare.proofs.Once as prepared
use Rattle.prepare.proofs.Once.{not_asked}
use Rattle.spelling.specs.Iri.{plain}

-- ---- the front of the pair list is as long as the count says

pair_flat : {σ : Spelling} {P : Pack} {e : Expr} {bs : List BuiltNode} (rs : List (List ℕ)) → ((r : List ℕ) → r ∈ rs → PairRecord σ P e bs r)
    → length (flatten rs) ≡ length rs * pair_width
unfolding flatten
pair_flat [] h = refl
pair_flat (r ∷ rs) h = let l = length-append r (flatten rs) in let m = pair_flat rs (λ q i. h q (there i)) in omega (arith, ap length (h r (here refl)).are)

pub pair_length : {pack query : Text} {r : PairAnswer} {fronts : List (List ℕ)} (G : GivesPairs pack query r fronts) → length (flatten G.records) ≡ r.pairs * pair_width
pair_length G = pair_flat G.records (λ r i. (G.certain.members r).0 i) ∙ ap (λ n. n * pair_width) (sym G.count)

-- ---- one answer

module _ {pack query : Text} where
  one_refusal : {A : Type 0} {r s : Result A Refusal} → Refuses pack query r → Refuses pack query s → r ≡ s
  one_refusal (before_12 x) (before_12 y) = prepared.one_refusal x y
  one_refusal (before_12 x) (too_many f j Q o m w y p) = absurd (not_asked x f j o m w)
  one_refusal (too_many e i P o n w x q) (before_12 y) = absurd (not_asked y e i o n w)
  one_refusal (too_many e i P o n w x q) (too_many f j Q o' m w' y p) = q ∙ sym p

  not_given : {A : Type 0} {r : Result A Refusal} {s : PairAnswer} {gs : List (List ℕ)} → Refuses pack query r → GivesPairs pack query s gs → ⊥
  not_given (before_12 x) h = prepared.not_both x h.asked
  not_given (too_many e i P o n w x q) h =
      h.few (subst (λ (z : Pack × Expr). TooManyPairs (plain z.0) z.0 z.1)
      (λ k. (accepted_once pack o h.asked.graph.has.is k, one_expression query e h.asked.expression i h.asked.is k)) x)

  module _ {r s : PairAnswer} {fs gs : List (List ℕ)} (g : GivesPairs pack query r fs) (h : GivesPairs pack query s gs) where
    pub one_list : g.records ≡ h.records
    one_list =
        let o = prepared.one_question g.asked h.asked in
        let G = g.asked.graph.has.graph.listed.lists in
        let H = h.asked.graph.has.graph.listed.lists in
        let w = list_unique (by_key node_key) (subst (λ (z : Pack × Expr). NodesInOrder z.0 G.in_order) o G.ordered) H.ordered in
        let x = subst (λ (z : (Pack × Expr) × List BuiltNode). PairList (plain z.0.0) z.0.0 z.0.1 z.1 g.records) (λ k. (o k, w k)) g.certain in
        list_unique (by_key (λ t. t)) x h.certain

    one_given : (r ≡ s) × (fs ≡ gs)
    one_given =
        let (e, f) = prepared.one_result g.asked h.asked in
        let n = g.count ∙ ap length one_list ∙ sym h.count in
        (λ i. record { size = e i; pairs = n i }, g.fronts_are ∙ (λ i. f i ++ (flatten (one_list i) ∷ [])) ∙ sym h.fronts_are)

module _ (pack query : Text) where
  one_result : (r s : Result PairAnswer Refusal) (fs gs : List (List ℕ)) → Gives pack query r fs → Gives pack query s gs → (r ≡ s) × (fs ≡ gs)
  one_result (Ok a) (Ok b) fs gs g h = let (e, f) = one_given g h in (ap Ok e, f)
  one_result (Ok a) (Err d) fs gs g h = absurd h
  one_result (Err e) s fs gs g h = absurd g

  not_both : (r s : Result PairAnswer Refusal) (gs : List (List ℕ)) → Refuses pack query r → Gives pack query s gs → ⊥
  not_both r (Ok a) gs x g = not_given x g
  not_both r (Err e) gs x g = g

pub fixed : (pack query : Text) → Fixed (Refuses pack query) (Gives pack query)
fixed pack query = record {
  one_refusal = one_refusal;
  not_both = λ {r} {s} {gs} x g. not_both pack query r s gs x g;
  one_result = λ {r} {s} {fs} {gs} g h. one_result pack query r s fs gs g h;
}

pub answers_once : (pack query : Text) (r s : Result PairAnswer Refusal)
    (nodes nodes₂ triples triples₂ index index₂ pairs pairs₂ rows rows₂ heads heads₂ alive alive₂
    waiting waiting₂ stack stack₂ seen seen₂ own_nodes own_nodes₂ own_triples own_triples₂ own_index own_index₂ : Contents)
    → SameLengths (lists nodes triples index pairs) (lists nodes₂ triples₂ index₂ pairs₂)
    → SameLengths (buffers rows heads alive waiting stack seen own_nodes own_triples own_index)
    (buffers rows₂ heads₂ alive₂ waiting₂ stack₂ seen₂ own_nodes₂ own_triples₂ own_index₂)
    → PairsAnswers pack query r nodes triples index pairs rows heads alive waiting stack seen own_nodes own_triples own_index
    → PairsAnswers pack query s nodes₂ triples₂ index₂ pairs₂ rows₂ heads₂ alive₂ waiting₂ stack₂ seen₂ own_nodes₂ own_triples₂ own_index₂
    → Same (Refuses pack query) (Gives pack query) r s (lists nodes triples index pairs) (lists nodes₂ triples₂ index₂ pairs₂)
    (buffers rows heads alive waiting stack seen own_nodes own_triples own_index) (buffers rows₂ heads₂ alive₂ waiting₂ stack₂ seen₂ own_nodes₂ own_triples₂ own_index₂)
answers_once pack query r s nodes nodes₂ triples triples₂ index index₂ pairs pairs₂ rows rows₂ heads heads₂ alive alive₂
    waiting waiting₂ stack stack₂ seen seen₂ own_nodes own_nodes₂ own_triples own_triples₂ own_index own_index₂ =
    call_once (fixed pack query)
