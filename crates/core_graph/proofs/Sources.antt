-- What the heads' numbers give is what the pack's rules give. Assumes nothing.
use Rattle.std.specs.Prelude.{◌≡◌, ℕ, ◌+◌, ◌-◌, ◌*◌, ◌/◌, ◌%◌, ◌^◌, ◌<◌, ◌≤◌, ◌↔◌, List, [], ◌∷◌, ◌++◌, map, length}
use lib.ListN.{length-map}
use mathlib.Core.List.{map-append}
use mathlib.Core.Path.{refl, ap, ◌∙◌}
use native.Mathlib.Nat.{div-one}
use native.Mathlib.Omega.{arith}
use Rattle.core_graph.proofs.Packed.{Bytes, one_packed, packed_back, packed_front, packed_padded, single}
use Rattle.core_graph.specs.Collected.{FromRules, object_key, subject_key}
use Rattle.core_graph.specs.Heads.{HeadsHeld}
use Rattle.spread.specs.Keys.{key_of}
use Rattle.meaning.proofs.Lists.Members.{element}
use Rattle.meaning.proofs.Lists.Places.{inside, placed, there_is}
use Rattle.meaning.specs.Core.{Assignment, Matches, literal_node, node_of}
use Rattle.meaning.specs.Limits.{first_literal, max_arguments, max_values, term_room}
use Rattle.meaning.specs.Member.{◌∈◌}
use Rattle.meaning.specs.Pack.{Pack, Rule, Term, has_type, links_to, links_to_value}
use Rattle.meaning.specs.Tables.{packed, head_arguments, head_numbers}

-- ---- rule by rule

-- a match of one of the pack's rules gives y
pub record Source (P : Pack) {A : Type 0} (X : List ℕ → ℕ → A → Type 0) (y : A) : Type 0 where
  pub rule : Rule
  pub listed : rule ∈ P.setting.rules
  pub values : Assignment
  pub matches : Matches P.rows values rule.atoms
  pub gives : X (head_numbers rule.head) (packed (map values (head_arguments rule.head))) y

module _ {P : Pack} {rules : List (List ℕ)} {count : ℕ} {heads counts : List ℕ} (h : HeadsHeld P rules count heads counts) where
  pub sources : {A : Type 0} (X : List ℕ → ℕ → A → Type 0) (y : A) → FromRules X rules count heads counts y ↔ Source P X y
  sources {A} X y = (forth, back)
    where
      forth : FromRules X rules count heads counts y → Source P X y
      forth f =
          let r = there_is P.setting.rules f.rule (omega (arith, f.below, h.many)) in
          let k = ((h.keys f.rule r.0 r.1).members f.gives.key).0 f.gives.listed in
          record {
            rule = r.0;
            listed = element P.setting.rules f.rule r.0 r.1;
            values = k.values;
            matches = k.matches;
            gives = rw (← h.numbers f.rule r.0 r.1, ← k.is) f.gives.gives;
          }

      back : Source P X y → FromRules X rules count heads counts y
      back s =
          let r = placed s.listed in
          let k = packed (map s.values (head_arguments s.rule.head)) in
          record {
            rule = r.0;
            below = omega (arith, inside P.setting.rules r.0 s.rule r.1, h.many);
            gives = record {
              key = k;
              listed = ((h.keys r.0 s.rule r.1).members k).1 (record { values = s.values; matches = s.matches; is = refl });
              gives = rw (h.numbers r.0 s.rule r.1) s.gives;
            };
          }

-- ---- the nodes of a head under an assignment

module _ (σ : Assignment) where
  -- a term's key from its values
  term_key : (t : Term) → length t.variables ≤ max_arguments
      → t.constructor * term_room + packed (map σ t.variables) * max_values ^ (max_arguments - length t.variables) ≡ key_of (node_of σ t)
  unfolding key_of node_of
  term_key t l =
      let e : length (map σ t.variables) ≡ length t.variables = length-map t.variables σ in
      rw (packed_padded (map σ t.variables) (omega arith), e)

  module _ (s : Term) (l : length s.variables ≤ max_arguments) where
    pub type_subject : (t : ℕ) → subject_key (head_numbers (has_type s t)) (packed (map σ (head_arguments (has_type s t)))) ≡ key_of (node_of σ s)
    unfolding subject_key head_numbers head_arguments
    type_subject t = rw div-one (term_key s l)

    pub value_subject : (p v : ℕ) → σ v < max_values
        → subject_key (head_numbers (links_to_value s p v)) (packed (map σ (head_arguments (links_to_value s p v)))) ≡ key_of (node_of σ s)
    unfolding subject_key head_numbers head_arguments
    value_subject p v b =
        let f : packed (map σ (s.variables ++ v ∷ [])) / max_values ^ 1 ≡ packed (map σ s.variables) =
        rw (map-append σ s.variables (v ∷ [])) (packed_front (map σ s.variables) (σ v ∷ []) (single (σ v) b)) in
        rw f (term_key s l)

    pub value_object : (p v : ℕ) → σ v < max_values
        → object_key (head_numbers (links_to_value s p v)) (packed (map σ (head_arguments (links_to_value s p v)))) ≡ key_of (literal_node (σ v))
    unfolding object_key head_numbers head_arguments key_of
    value_object p v b =
        let f : packed (map σ (s.variables ++ v ∷ [])) % max_values ^ 1 ≡ packed (σ v ∷ []) =
        rw (map-append σ s.variables (v ∷ [])) (packed_back (map σ s.variables) (σ v ∷ []) (single (σ v) b)) in
        ap (λ x. first_literal + x) (f ∙ one_packed (σ v))

    module _ (o : Term) (m : length o.variables ≤ max_arguments) (b : Bytes (map σ o.variables)) where
      size : length (map σ o.variables) ≡ length o.variables
      size = length-map o.variables σ

      pub link_subject : (p : ℕ) → subject_key (head_numbers (links_to s p o)) (packed (map σ (head_arguments (links_to s p o)))) ≡ key_of (node_of σ s)
      unfolding subject_key head_numbers head_arguments
      link_subject p =
          let f : packed (map σ (s.variables ++ o.variables)) / max_values ^ length o.variables ≡ packed (map σ s.variables) =
          rw (map-append σ s.variables o.variables, ← size) (packed_front (map σ s.variables) (map σ o.variables) b) in
          rw f (term_key s l)

      pub link_object : (p : ℕ) → object_key (head_numbers (links_to s p o)) (packed (map σ (head_arguments (links_to s p o)))) ≡ key_of (node_of σ o)
      unfolding object_key head_numbers head_arguments
      link_object p =
          let f : packed (map σ (s.variables ++ o.variables)) % max_values ^ length o.variables ≡ packed (map σ o.variables) =
          rw (map-append σ s.variables o.variables, ← size) (packed_back (map σ s.variables) (map σ o.variables) b) in
          rw f (term_key o m)
