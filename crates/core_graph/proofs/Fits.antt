-- The heads that code holds of a bounded pack are within the bounds. Assumes nothing.
use Rattle.std.specs.Prelude.{◌≡◌, ℕ, ◌+◌, ◌*◌, ◌^◌, ◌<◌, ◌≤◌, List, [], ◌∷◌, map, length, get_or}
use lib.ListN.{length-map, length-append}
use mathlib.Core.List.Memᴰ
use mathlib.Core.Logic.{inl, ⊎_elim}
use mathlib.Core.Path.{refl, ap, ◌∙◌, subst}
use native.Mathlib.Omega.{arith}
use Rattle.core_graph.proofs.Declared.{head_predicate}
use Rattle.core_graph.proofs.NodeSources.{Fine, bytes_of, fine}
use Rattle.core_graph.proofs.Packed.{packed_lt}
use Rattle.core_graph.specs.Bounds.{Bounded, HeadFits, HeadsFit, KeyFits}
use Rattle.core_graph.specs.Heads.{HeadsHeld, keys_of}
use Rattle.meaning.proofs.Lists.Members.{element, ∈_append}
use Rattle.meaning.proofs.Lists.Places.{inside, there_is}
use Rattle.meaning.proofs.Model.Resolved.{head_terms, head_variables, resolved}
use Rattle.meaning.specs.Core.{Assignment, head_fact}
use Rattle.meaning.specs.Limits.{max_arguments, max_constructors, max_heads, max_rules, max_values}
use Rattle.meaning.specs.Member.{◌∈◌, here, there}
use Rattle.meaning.specs.Pack.{Head, Pack, Rule, Term, has_type, links_to, links_to_value}
use Rattle.meaning.specs.Tables.{packed, head_arguments, head_numbers}

-- ---- a head's numbers

module _ {P : Pack} (b : Bounded P) {rule : Rule} (listed : rule ∈ P.setting.rules) where
  -- a term of the head: its constructor, and how many arguments it has
  term_fits : (t : Term) → t ∈ head_terms rule.head → (t.constructor < max_constructors) × (1 ≤ length t.variables) × (length t.variables ≤ max_arguments)
  term_fits t m =
      let d = (resolved P b.resolved).terms rule listed t m in
      let a = b.arities d.0 (element P.setting.constructors t.constructor d.0 d.1) in (
        omega (arith, inside P.setting.constructors t.constructor d.0 d.1, b.constructors),
        omega (arith, a.0, d.2),
        omega (arith, a.1, d.2),
      )

  head_fits : (h : Head) → rule.head ≡ h → HeadFits (head_numbers h)
  unfolding head_numbers head_terms head_fact
  head_fits (has_type s t) e =
      let f = term_fits s (rw e (here refl)) in
      record {
        subject = f.0;
        some = f.1;
        arguments = f.2;
        named = omega (arith, (resolved P b.resolved).head_type listed e, b.types);
        object = omega arith;
        more = omega arith;
      }
  head_fits (links_to s p o) e =
      let f = term_fits s (rw e (here refl)) in
      let g = term_fits o (rw e (there (here refl))) in
      let n = head_predicate P b.resolved listed (λ x. x) {p = p} (ap (head_fact (λ x. x)) e) in
      record { subject = f.0; some = f.1; arguments = f.2; named = omega (arith, n, b.predicates); object = g.0; more = g.2 }
  head_fits (links_to_value s p v) e =
      let f = term_fits s (rw e (here refl)) in
      let n = head_predicate P b.resolved listed (λ x. x) {p = p} (ap (head_fact (λ x. x)) e) in
      record { subject = f.0; some = f.1; arguments = f.2; named = omega (arith, n, b.predicates); object = omega arith; more = omega arith }

-- ---- a match's number

-- one byte for each argument
arguments_many : (h : Head) → length (head_arguments h) ≡ get_or (head_numbers h) 2 0 + get_or (head_numbers h) 5 0
unfolding head_arguments head_numbers
arguments_many (has_type s t) = omega arith
arguments_many (links_to s p o) = length-append s.variables o.variables
arguments_many (links_to_value s p v) = length-append s.variables (v ∷ [])

-- the head's arguments are its variables
arguments_in : (h : Head) {v : ℕ} → v ∈ head_arguments h → v ∈ head_variables h
unfolding head_arguments head_variables
arguments_in (has_type s t) m = m
arguments_in (links_to s p o) m = m
arguments_in (links_to_value s p v) m = ⊎_elim there (λ i. ∈_append (v ∷ []) s.variables (inl i)) (Memᴰ.append_cases s.variables m)

key_fits : (σ : Assignment) (h : Head) → Fine σ h → KeyFits (head_numbers h) (packed (map σ (head_arguments h)))
key_fits σ h f =
    let l = packed_lt (map σ (head_arguments h)) (bytes_of σ (head_arguments h) (λ v m. f.small v (arguments_in h m))) in
    subst (λ n. packed (map σ (head_arguments h)) < max_values ^ n) (length-map (head_arguments h) σ ∙ arguments_many h) l

-- ---- all rules

pub heads_fit : {P : Pack} {rules : List (List ℕ)} {count : ℕ} {heads counts : List ℕ} → HeadsHeld P rules count heads counts → Bounded P
    → count ≤ max_rules → max_rules * max_heads ≤ length heads → ((r : ℕ) → r < count → get_or counts r 0 ≤ max_heads)
    → HeadsFit rules count heads counts
heads_fit {P} {rules} {count} {heads} {counts} h b few room short = record {
  few = few;
  room = room;
  short = short;
  fits = λ r l. fits r l;
  keys = λ r l. keys r l;
}
  where
    rule_at : (r : ℕ) → r < count → (rule : Rule) × (rule ∈ P.setting.rules) × (get_or rules r [] ≡ head_numbers rule.head)
    rule_at r l = let x = there_is P.setting.rules r (omega (arith, l, h.many)) in (x.0, element P.setting.rules r x.0 x.1, h.numbers r x.0 x.1)

    fits : (r : ℕ) → r < count → HeadFits (get_or rules r [])
    fits r l = let x = rule_at r l in rw x.2 (head_fits b x.1 x.0.head refl)

    keys : (r : ℕ) → r < count → (k : ℕ) → k ∈ keys_of heads counts r → KeyFits (get_or rules r []) k
    keys r l k m =
        let x = there_is P.setting.rules r (omega (arith, l, h.many)) in
        let i = element P.setting.rules r x.0 x.1 in
        let q = ((h.keys r x.0 x.1).members k).0 m in
        rw (h.numbers r x.0 x.1, q.is) (key_fits q.values x.0.head (fine b i q.values q.matches))
