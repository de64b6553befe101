-- Where refusal 7 is not true, every IRI of the core is a constructor of the pack over values of the pack, and every literal
-- is a value of the pack. So document 01's spelling gives no two core nodes one name. Assumes nothing.
use lib.ListN.{length, length-map}
use mathlib.Core.Bool.{false}
use mathlib.Core.List.Memᴰ
use mathlib.Core.Logic.{inl, inr}
use mathlib.Core.Path.{◌≡◌, refl, ap, ◌∙◌, subst}
use native.Mathlib.Decide.{ℕ_discrete}
use Prim.Native.Nat.{ℕ, ◌<◌}
use Rattle.meaning.proofs.Computed.Walk.{Decided}
use Rattle.meaning.proofs.Lists.Members.{∈_append, same_list}
use Rattle.meaning.proofs.Model.Resolved.{Bound, Declared, Resolved, head_terms, head_variables, resolved}
use Rattle.meaning.specs.Certain.{Distinct}
use Rattle.meaning.specs.Core.{Node, iri_node, literal_node, Fact, typed, triple, Assignment, node_of, head_fact, row_of, Matches, Given, CoreNode, as_typed, as_subject, as_object}
use Rattle.meaning.specs.Member.{◌∈◌, here, there}
use Rattle.meaning.specs.Pack.{Pack, Text, Term, Head, has_type, links_to, links_to_value}
use Rattle.meaning.specs.WellFormed.{duplicates, prefix_clash, dangling}
use Rattle.spelling.proofs.Injective.{Writes, segment_writes, iri_by_inj, values_differ}
use Rattle.spelling.specs.Iri.{IsTerm, iri_by, spelling_by, plain}
use Rattle.spelling.specs.Segment.{segment}

module _ (P : Pack) (whole : dangling P ≡ false) where
  abbrev InPack : ℕ → Type 0
  InPack v = v < length P.setting.values

  abbrev pub InPackNode : Node → Type 0
  InPackNode (iri_node c vs) = IsTerm P c vs
  InPackNode (literal_node v) = InPack v

  -- both nodes of a fact are such
  abbrev InPackFact : Fact → Type 0
  InPackFact (typed n S) = InPackNode n
  InPackFact (triple n p m) = InPackNode n × InPackNode m

  module _ (ρ : Assignment) where
    term_in : (t : Term) → Declared P t → ((v : ℕ) → v ∈ t.variables → InPack (ρ v)) → InPackNode (node_of ρ t)
    unfolding node_of
    term_in t k ok = record {
      constructor = k.0;
      listed = k.1;
      count = length-map t.variables ρ ∙ k.2;
      values = λ v i. let r = Memᴰ.of_map ρ t.variables i in subst InPack r.2 (ok r.0 r.1);
    }

    head_in : (h : Head) → ((t : Term) → t ∈ head_terms h → Declared P t) → ((v : ℕ) → v ∈ head_variables h → InPack (ρ v)) → InPackFact (head_fact ρ h)
    unfolding head_fact head_terms head_variables
    head_in (has_type s t) d ok = term_in s (d s (here refl)) ok
    head_in (links_to s p o) d ok = (
      term_in s (d s (here refl)) (λ v i. ok v (∈_append s.variables o.variables (inl i))),
      term_in o (d o (there (here refl))) (λ v i. ok v (∈_append s.variables o.variables (inr i))),
    )
    head_in (links_to_value s p x) d ok = (term_in s (d s (here refl)) (λ v i. ok v (there i)), ok x (here refl))

  given_in : {f : Fact} → Given P f → InPackFact f
  unfolding Matches Bound
  given_in g = subst InPackFact g.says (head_in g.values g.rule.head (R.terms g.rule g.listed) value)
    where
      R : Resolved P
      R = resolved P whole

      -- each variable of the head stands in an atom, whose row holds its value
      value : (v : ℕ) → v ∈ head_variables g.rule.head → InPack (g.values v)
      value v h =
          let b = R.bound g.rule g.listed v h in
          R.cells (row_of g.values b.0) (g.matches b.0 b.1) (g.values v) (Memᴰ.map g.values b.2)

  -- every node of the core is one of the pack's
  pub core_in_pack : {n : Node} → CoreNode P n → InPackNode n
  core_in_pack (as_typed g) = given_in g
  core_in_pack (as_subject g) = (given_in g).0
  core_in_pack (as_object g) = (given_in g).1

  -- a spelling tells the core's nodes apart, whatever way it writes a value
  pub spelling_distinct : {write : Text → Text} → Writes write → duplicates P ≡ false → prefix_clash P ≡ false → Distinct (spelling_by write P) P
  unfolding Distinct spelling_by
  spelling_distinct {write} W distinct free (iri_node c vs) (iri_node d ws) i j e =
      let q : iri_by write P c vs ≡ iri_by write P d ws = cc in
      let r = iri_by_inj W P distinct free (core_in_pack i) (core_in_pack j) q in
      λ k. iri_node (r.0 k) (r.1 k)
  spelling_distinct W distinct free (iri_node c vs) (literal_node v) i j e = cc
  spelling_distinct W distinct free (literal_node v) (iri_node c vs) i j e = cc
  spelling_distinct W distinct free (literal_node v) (literal_node w) i j e =
      ap literal_node (values_differ P distinct v w (core_in_pack i) (core_in_pack j) (cc))

pub plain_distinct : (P : Pack) → duplicates P ≡ false → prefix_clash P ≡ false → dangling P ≡ false → Distinct (plain P) P
plain_distinct P distinct free whole = spelling_distinct P whole segment_writes distinct free

-- labels are held to names by comparing texts
unfoldable pub plain? : (P : Pack) → Decided (plain P)
unfolding spelling_by same_list segment
plain? P = record {
  iri? = λ label text. same_list ℕ_discrete text label;
  literal? = λ label text. same_list ℕ_discrete (segment text) label;
}
