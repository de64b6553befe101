-- The records of the node list: where each stands, and which node it is. Assumes nothing.
use lib.ListN.{length, take, replicate, get_or, get_elem?, get_or-append}
use lib.Seq.{get_or-take, get_or-append-add, ext_get_or}
use mathlib.Core.List.{List, [], ◌∷◌, ◌++◌, Forall₂, flatten}
use mathlib.Core.Logic.{◌↔◌}
use mathlib.Core.Option.{some, none-ne-some, some-injective}
use mathlib.Core.Path.{◌≡◌, sym, ap, ◌∙◌}
use native.Mathlib.Omega.{arith}
use Prim.Native.Nat.{ℕ, zero, suc, ◌+◌, ◌*◌, ◌≤◌, ◌<◌}
use Rattle.meaning.proofs.Lists.Places.{inside}
use Rattle.meaning.specs.Built.{BuiltNode, core, invented}
use Rattle.meaning.specs.Core.{iri_node, literal_node}
use Rattle.meaning.specs.Limits.{max_arguments, node_width, unused}
use Rattle.meaning.specs.Listing.{kind, number, padded, arguments, NodeRecord}
use Rattle.meaning.specs.Pack.{Pack}
use Rattle.resolve.specs.Listed.{BuiltNodesListed}
use Rattle.resolve.specs.Search.{HasNumbers}
use Rattle.meaning.proofs.Lists.Padding.{padded_wide, unpadded}

-- ---- the numbers of a record

pub padded_length : (vs : List ℕ) → length (padded vs) ≡ 4
padded_length vs = padded_wide max_arguments unused vs

pub arguments_length : (b : BuiltNode) → length (arguments b) ≡ 4
unfolding arguments
arguments_length (core (iri_node c vs)) = padded_length vs
arguments_length (core (literal_node v)) = padded_length []
arguments_length (invented X) = padded_length []

-- values padded alike, as many, are the same
pub padded_inj : (vs ws : List ℕ) → length vs ≡ length ws → length ws ≤ 4 → padded vs ≡ padded ws → vs ≡ ws
padded_inj vs ws e h p = sym (front vs (omega arith)) ∙ (λ i. take (e i) (p i)) ∙ front ws h
  where
    front : (us : List ℕ) → length us ≤ 4 → take (length us) (padded us) ≡ us
    front us l = unpadded us (replicate max_arguments unused) max_arguments l

abbrev numbers_of : BuiltNode → ℕ → List ℕ
numbers_of b types = kind b ∷ number b ∷ types ∷ arguments b

numbers_length : (b : BuiltNode) (types : ℕ) → length (numbers_of b types) ≡ node_width
numbers_length b types = omega (arith, arguments_length b)

-- ---- where it stands

module _ (P : Pack) where
  entry : {bs : List BuiltNode} {rs : List (List ℕ)} → Forall₂ (NodeRecord P) bs rs → (m : ℕ) (b : BuiltNode) → get_elem? bs m ≡ some b
      → (types : ℕ) × ((j : ℕ) → j < node_width → get_or (flatten rs) (m * node_width + j) 0 ≡ get_or (numbers_of b types) j 0)
  unfolding flatten
  entry Forall₂.nil m b e = absurd (none-ne-some b e)
  entry (Forall₂.cons {a = a} {b = r} {l₂ = rs} x f) zero b e =
      let q : a ≡ b = some-injective a b e in
      let w : r ≡ numbers_of b x.types = x.are ∙ ap (λ z. numbers_of z x.types) q in (
        x.types,
        λ j h. ap (λ k. get_or (r ++ flatten rs) k 0) (let z : 0 * node_width + j ≡ j = omega arith in z)
            ∙ get_or-append r (flatten rs) 0 j (omega (arith, ap length w, numbers_length b x.types)) ∙ ap (λ l. get_or l j 0) w,
      )
  entry (Forall₂.cons {a = a} {b = r} {l₂ = rs} x f) (suc m) b e =
      let t = entry f m b e in (
        t.0,
        λ j h. ap (λ k. get_or (r ++ flatten rs) k 0) (let z : suc m * node_width + j ≡ length r + (m * node_width + j) = omega (arith, ap length x.are, numbers_length a x.types) in z)
            ∙ get_or-append-add r (flatten rs) (m * node_width + j) 0 ∙ t.1 j h,
      )

  module _ {in_order : List BuiltNode} {nodes : List ℕ} {count : ℕ} (listed : BuiltNodesListed P in_order nodes count) (m : ℕ) (b : BuiltNode) (at : get_elem? in_order m ≡ some b) where
    pub below_count : m < count
    below_count = omega (arith, inside in_order m _ at, listed.counted)

    number_at : (types : ℕ) × ((j : ℕ) → j < node_width → get_or nodes (m * node_width + j) 0 ≡ get_or (numbers_of b types) j 0)
    number_at =
        let t = entry listed.recorded m b at in
        let l = below_count in
        (t.0, λ j h. sym (get_or-take (count * node_width) nodes (m * node_width + j) 0 (omega arith)) ∙ ap (λ l. get_or l (m * node_width + j) 0) listed.are ∙ t.1 j h)

    pub has_numbers : {k v : ℕ} {vs : List ℕ} → length vs ≡ 4 → HasNumbers nodes k v vs m ↔ ((kind b ≡ k) × (number b ≡ v) × (arguments b ≡ vs))
    has_numbers {k} {v} {vs} four = (
      (λ h. (
        sym first ∙ h.kind_is,
        sym second ∙ h.number_is,
        ext_get_or 0 (arguments b) vs (arguments_length b ∙ sym four) (λ j l. sym (later j (omega (arith, arguments_length b))) ∙ h.arguments_are j (omega (arith, arguments_length b))),
      )),
      (λ h. record { kind_is = first ∙ h.0; number_is = second ∙ h.1; arguments_are = λ j l. later j l ∙ ap (λ l. get_or l j 0) h.2 }),
    )
      where
        first : get_or nodes (m * node_width) 0 ≡ kind b
        first = ap (λ i. get_or nodes i 0) (let z : m * node_width ≡ m * node_width + 0 = omega arith in z) ∙ number_at.1 0 (omega arith)

        second : get_or nodes (m * node_width + 1) 0 ≡ number b
        second = number_at.1 1 (omega arith)

        later : (j : ℕ) → j < max_arguments → get_or nodes (m * node_width + 3 + j) 0 ≡ get_or (arguments b) j 0
        later j l =
            ap (λ i. get_or nodes i 0) (let z : m * node_width + 3 + j ≡ m * node_width + (suc (suc (suc j))) = omega arith in z) ∙ number_at.1 (suc (suc (suc j))) (omega arith)
