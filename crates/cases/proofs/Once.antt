-- A call on a pack has one outcome: of two cases of the same call on the same pack, only one outcome is so. Assumes nothing.
use Rattle.pack.proofs.Order.{not_both, one_number, one_pack}
use mathlib.Core.List.{◌∷◌}
use mathlib.Core.Path.{◌≡◌, refl, sym, ap, ◌∙◌}
use Rattle.cases.specs.Says.{
  Call,
  Outcome,
  Says,
  answer,
  ask_gives,
  ask_refused,
  build_gives,
  build_refused,
  graph,
  iri,
  is_fine,
  is_refused,
  read_gives,
  read_refused,
  refused,
  spelled,
  term,
}
use Rattle.cases.proofs.Run.{refused_by}
use Rattle.construct.proofs.Once.{not_given, one_index, one_records, one_refusal}
use Rattle.construct.proofs.Refused.{no_error}
use Rattle.iris.specs.declared.iri.Term.{Term}
use Rattle.meaning.specs.Pack.{Text}
use Rattle.meaning.specs.declared.refusal.Refusal.{Refusal}
use Rattle.pairs.proofs.Once.{one_list}
use Rattle.readback.proofs.Once.{answers_once}
use Rattle.spelling.specs.Iri.{iri_of}
use Rattle.std.specs.Prelude.{Result, Ok, Err}
use Rattle.yes_no.proofs.Once as yes_no
use Rattle.yes_no.specs.declared.YesNo.{YesNo}

-- ---- what equal results say

module _ {A : Type 0} where
  same_error : {e f : Refusal} → ◌≡◌ {A = Result A Refusal} (Err e) (Err f) → e ≡ f
  same_error q = cc

  same_value : {x y : A} → ◌≡◌ {A = Result A Refusal} (Ok x) (Ok y) → x ≡ y
  same_value q = cc

-- ---- one outcome

pub says_once : {pack : Text} {c : Call} {o p : Outcome} → Says pack c o → Says pack c p → o ≡ p
says_once (is_refused e) (is_refused f) = ap refused (one_number e f)
says_once (is_refused e) (is_fine f) = not_both e f
says_once (is_fine e) (is_refused f) = not_both f e
says_once (is_fine e) (is_fine f) = refl
says_once (build_refused x) (build_refused y) = ap refused_by (same_error (one_refusal x y))
says_once (build_refused x) (build_gives G n t e) = absurd (not_given x G)
says_once (build_gives G n t e) (build_refused y) = absurd (not_given y G)
says_once (build_gives G n t e) (build_gives H m u f) =
    let l = one_records G H in
    let ns = sym n ∙ l.0 ∙ m in
    let ts = sym t ∙ l.1 ∙ u in
    let es = sym e ∙ one_index G H ∙ f in
    λ i. graph (ns i) (ts i) (es i)
says_once (ask_refused {q} x z) (ask_refused y w) = ap refused_by (same_error ((yes_no.fixed _ q).one_refusal x y))
says_once (ask_refused {q} x z) (ask_gives {y} Y f H u) = absurd ((yes_no.fixed _ q).not_both {s = Ok y} x Y)
says_once (ask_gives {q} {y} X e G t) (ask_refused x w) = absurd ((yes_no.fixed _ q).not_both {s = Ok y} x X)
says_once (ask_gives {q} {y = r} X e G t) (ask_gives {y = s} Y f H u) =
    let b = sym e ∙ ap (λ (a : YesNo). a.yes) (same_value ((yes_no.fixed _ q).one_result {r = Ok r} {s = Ok s} X Y).0) ∙ f in
    let ps = sym t ∙ one_list G H ∙ u in
    λ i. answer (b i) (ps i)
says_once (read_refused x) (read_refused y) = ap refused_by (same_error (answers_once x y))
says_once (read_refused x) (read_gives y) = no_error (answers_once y x)
says_once (read_gives x) (read_refused y) = no_error (answers_once x y)
says_once (read_gives x) (read_gives y) = ap (λ (r : Term). term (r.constructor ∷ r.values)) (same_value (answers_once x y))
says_once (spelled {c} {values} w i e) (spelled v j f) = ap iri (sym e ∙ ap (λ P. iri_of P c values) (one_pack w v) ∙ f)
