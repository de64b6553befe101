-- What yes/no answers and leaves is fixed by the bytes of the pack and of the query and the lengths of the lent lists and
-- buffers. Assumes nothing.
use lib.Dec.{T}
use mathlib.Core.Bool.{Bool, true, false}
use mathlib.Core.List.{List}
use mathlib.Core.Logic.{◌↔◌}
use mathlib.Core.Path.{◌≡◌, refl, ap, subst}
use Prim.Native.Nat.{ℕ}
use Rattle.std.specs.Prelude.{Result, Ok, Err}
use Rattle.calls.proofs.Once.{Fixed, Same, SameLengths, call_once}
use Rattle.calls.specs.Call.{Contents}
use Rattle.graph.specs.Fronts.{graph_lists}
use Rattle.meaning.specs.Certain.{CertainYes}
use Rattle.meaning.specs.Pack.{Pack, Text}
use Rattle.meaning.specs.Query.{Expr}
use Rattle.meaning.specs.declared.refusal.Refusal.{Refusal}
use Rattle.prepare.proofs.Once as prepared
use Rattle.spelling.specs.Iri.{plain}
use Rattle.yes_no.specs.Answer.{YesNoAnswers, Gives, GivesAnswer, Refuses, buffers}
use Rattle.yes_no.specs.declared.YesNo.{YesNo}

one_answer : {X : Type 0} (a b : Bool) → T a ↔ X → T b ↔ X → a ≡ b
one_answer true true x y = refl
one_answer true false x y = absurd (y.1 (x.0 tt))
one_answer false true x y = absurd (x.1 (y.0 tt))
one_answer false false x y = refl

module _ (pack query : Text) where
  one_given : {r s : YesNo} {fs gs : List (List ℕ)} → GivesAnswer pack query r fs → GivesAnswer pack query s gs → (r ≡ s) × (fs ≡ gs)
  one_given {r = r} {s = s} g h =
      let (e, f) = prepared.one_result g.asked h.asked in
      let x = subst (λ (w : Pack × Expr). T r.yes ↔ CertainYes (plain w.0) w.0 w.1) (prepared.one_question g.asked h.asked) g.answer in
      let y = one_answer r.yes s.yes x h.answer in
      ((λ i. record { size = e i; yes = y i }), f)

  one_result : (r s : Result YesNo Refusal) (fs gs : List (List ℕ)) → Gives pack query r fs → Gives pack query s gs → (r ≡ s) × (fs ≡ gs)
  one_result (Ok a) (Ok b) fs gs g h = let (e, f) = one_given g h in (ap Ok e, f)
  one_result (Ok a) (Err d) fs gs g h = absurd h
  one_result (Err e) s fs gs g h = absurd g

  not_both : (r s : Result YesNo Refusal) (gs : List (List ℕ)) → Refuses pack query r → Gives pack query s gs → ⊥
  not_both r (Ok a) gs x g = prepared.not_both x g.asked
  not_both r (Err e) gs x g = g

pub fixed : (pack query : Text) → Fixed (Refuses pack query) (Gives pack query)
fixed pack query = record {
  one_refusal = prepared.one_refusal;
  not_both = λ {r} {s} {gs} x g. not_both pack query r s gs x g;
  one_result = λ {r} {s} {fs} {gs} g h. one_result pack query r s fs gs g h;
}

pub answers_once : (pack query : Text) (r s : Result YesNo Refusal) (nodes nodes₂ triples triples₂ index index₂ rows rows₂ heads heads₂ alive alive₂ waiting waiting₂ stack stack₂ : Contents)
    → SameLengths (graph_lists nodes triples index) (graph_lists nodes₂ triples₂ index₂)
    → SameLengths (buffers rows heads alive waiting stack) (buffers rows₂ heads₂ alive₂ waiting₂ stack₂)
    → YesNoAnswers pack query r nodes triples index rows heads alive waiting stack → YesNoAnswers pack query s nodes₂ triples₂ index₂ rows₂ heads₂ alive₂ waiting₂ stack₂
    → Same (Refuses pack query) (Gives pack query) r s (graph_lists nodes triples index) (graph_lists nodes₂ triples₂ index₂)
    (buffers rows heads alive waiting stack) (buffers rows₂ heads₂ alive₂ waiting₂ stack₂)
answers_once pack query r s nodes nodes₂ triples triples₂ index index₂ rows rows₂ heads heads₂ alive alive₂ waiting waiting₂ stack stack₂ = call_once (fixed pack query)
