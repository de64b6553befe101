-- A core node's numbers are its record. Assumes nothing.
use Rattle.std.proofs.Common.{◌≡◌, ℕ, ◌+◌, ◌-◌, ◌*◌, ◌/◌, ◌%◌, ◌^◌, ◌≤◌, ltb, List, [], ◌∷◌, length, get_or, sym, refl, ap, ◌∙◌, arith, lt-ltb}
use Rattle.core_graph.specs.Bounds.{Bounded}
use Rattle.spread.specs.Keys.{key_of}
use Rattle.node_list.specs.Records.{Arities, argument_at, core_numbers, iri_numbers, literal_numbers}
use Rattle.core_lists.proofs.Keys.{Small, all_small, four, iri_key_lt, packed_lt}
use Rattle.core_lists.proofs.Places.{Masked}
use Rattle.core_lists.proofs.ResolvedNodes.{Proper}
use Rattle.node_list.proofs.Written.{literal_numbers_lem}
use Rattle.meaning.proofs.Lists.Members.{element}
use Rattle.meaning.specs.Built.{core}
use Rattle.meaning.specs.Core.{Node, iri_node, literal_node}
use Rattle.meaning.specs.Limits.{first_literal, literal_weight, max_values, term_room, unused}
use Rattle.meaning.specs.Listing.{NodeRecord, arguments, kind, number, padded}
use Rattle.meaning.specs.Pack.{Pack, type}
use Rattle.meaning.specs.Tables.{packed, set_of_mask}

-- the arguments in a key
arguments_of : (c : ℕ) (vs : List ℕ) → Small vs → length vs ≤ 4 → let k = c * term_room + packed (four vs) in let n = length vs in
    argument_at (ltb 0 n) (k / max_values ^ 3) ∷ argument_at (ltb 1 n) (k / max_values ^ 2) ∷ argument_at (ltb 2 n) (k / max_values) ∷ argument_at (ltb 3 n) k ∷ [] ≡ padded vs
unfolding argument_at packed
arguments_of c [] s l = refl
arguments_of c (v₀ ∷ []) s l =
    let h₀ = s.0 in
    let e₀ : (c * term_room + packed (four (v₀ ∷ []))) / max_values ^ 3 % max_values ≡ v₀ = omega arith in
    λ i. e₀ i ∷ unused ∷ unused ∷ unused ∷ []
arguments_of c (v₀ ∷ v₁ ∷ []) s l =
    let h₀ = s.0 in let h₁ = s.1.0 in
    let k = c * term_room + packed (four (v₀ ∷ v₁ ∷ [])) in
    let e₀ : k / max_values ^ 3 % max_values ≡ v₀ = omega arith in
    let e₁ : k / max_values ^ 2 % max_values ≡ v₁ = omega arith in
    λ i. e₀ i ∷ e₁ i ∷ unused ∷ unused ∷ []
arguments_of c (v₀ ∷ v₁ ∷ v₂ ∷ []) s l =
    let h₀ = s.0 in let h₁ = s.1.0 in let h₂ = s.1.1.0 in
    let k = c * term_room + packed (four (v₀ ∷ v₁ ∷ v₂ ∷ [])) in
    let e₀ : k / max_values ^ 3 % max_values ≡ v₀ = omega arith in
    let e₁ : k / max_values ^ 2 % max_values ≡ v₁ = omega arith in
    let e₂ : k / max_values % max_values ≡ v₂ = omega arith in
    λ i. e₀ i ∷ e₁ i ∷ e₂ i ∷ unused ∷ []
arguments_of c (v₀ ∷ v₁ ∷ v₂ ∷ v₃ ∷ []) s l =
    let h₀ = s.0 in let h₁ = s.1.0 in let h₂ = s.1.1.0 in let h₃ = s.1.1.1.0 in
    let k = c * term_room + packed (four (v₀ ∷ v₁ ∷ v₂ ∷ v₃ ∷ [])) in
    let e₀ : k / max_values ^ 3 % max_values ≡ v₀ = omega arith in
    let e₁ : k / max_values ^ 2 % max_values ≡ v₁ = omega arith in
    let e₂ : k / max_values % max_values ≡ v₂ = omega arith in
    let e₃ : k % max_values ≡ v₃ = omega arith in
    λ i. e₀ i ∷ e₁ i ∷ e₂ i ∷ e₃ i ∷ []
arguments_of c (v₀ ∷ v₁ ∷ v₂ ∷ v₃ ∷ v₄ ∷ vs) s l = absurd (let z : ⊥ = omega arith in z)

module _ (P : Pack) (b : Bounded P) (arities : List ℕ) (ar : Arities P arities) (mask : ℕ) where
  pub core_record : (n : Node) → Proper P n → Masked P (core n) mask → NodeRecord P (core n) (core_numbers arities (key_of n) mask)
  unfolding set_of_mask kind number arguments core_numbers literal_numbers iri_numbers key_of
  core_record (literal_node v) x m = record {
    types = mask % literal_weight;
    weigh = λ t. m.types (type t);
    are =
        sym (literal_numbers_lem arities (first_literal + v) mask (omega arith))
        ∙ (let e : first_literal + v - first_literal ≡ v = omega arith in λ i. 1 ∷ e i ∷ (mask % literal_weight) ∷ unused ∷ unused ∷ unused ∷ unused ∷ []);
  }
  core_record (iri_node c vs) x m = record {
    types = mask % literal_weight;
    weigh = λ t. m.types (type t);
    are = rw (lt-ltb (key_of (iri_node c vs)) first_literal (iri_key_lt P b c vs x), ec, en) (ap (λ (l : List ℕ). 0 ∷ c ∷ (mask % literal_weight) ∷ l) args);
  }
    where
      small : Small vs
      small = all_small (length P.setting.values) b.values vs x.3

      ec : key_of (iri_node c vs) / term_room ≡ c
      ec = let h = packed_lt vs small in omega arith

      en : get_or arities c 0 ≡ length vs
      en = ar.are c x.0 x.1 ∙ sym x.2

      args : argument_at (ltb 0 (length vs)) (key_of (iri_node c vs) / max_values ^ 3) ∷ argument_at (ltb 1 (length vs)) (key_of (iri_node c vs) / max_values ^ 2)
          ∷ argument_at (ltb 2 (length vs)) (key_of (iri_node c vs) / max_values) ∷ argument_at (ltb 3 (length vs)) (key_of (iri_node c vs)) ∷ [] ≡ padded vs
      args = arguments_of c vs small (let a = (b.arities x.0 (element P.setting.constructors c x.0 x.1)).1 in let q = x.2 in omega arith)
