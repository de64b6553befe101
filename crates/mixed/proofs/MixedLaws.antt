-- Searches through places from the first on, and that what they find is refusal 11. Assumes nothing.
use borrow.Author.Tests.{eq-eqb, le-leb, le-ltb, lt-ltb, ne_eqb}
use lib.Count.{count_trailing_zeros}
use lib.Dec.{T, eqb, leb}
use lib.ListN.{drop, get_or, get_elem?, length, length-drop, take}
use lib.Seq.{get_or-drop, get_or-take, length-take-le}
use mathlib.Core.Bool.{Bool, true, false, not}
use mathlib.Core.List.{List}
use mathlib.Core.Logic.{◌↔◌}
use mathlib.Core.Option.{some}
use mathlib.Core.Path.{◌≡◌, refl, sym, ap, subst, ◌∙◌}
use native.Mathlib.Decide.{dec_lt, ℕ_discrete}
use native.Mathlib.Omega.{arith}
use Prim.Native.Nat.{ℕ, suc, ◌+◌, ◌-◌, ◌*◌, ◌/◌, ◌%◌, ◌^◌, ◌<◌, ◌≤◌}
use Rattle.spread.specs.Keys.{key_of}
use Rattle.core_lists.specs.Input.{Input, KeysSmall}
use Rattle.invent.specs.Invent.{InventedSets, set_at}
use Rattle.mixed.specs.Mixed.{MixedCore, MixedFlag, MixedFlags, Somewhere, mixed_node}
use Rattle.invent.proofs.Invented.{lifted, number_back, set_number, small_set}
use Rattle.core_lists.proofs.Keys.{iri_key_lt}
use Rattle.core_lists.proofs.Places.{NodeAt, masked, node_at, place_of, typed_node, well}
use Rattle.core_lists.proofs.ResolvedNodes.{Proper, proper}
use Rattle.meaning.proofs.Lists.Bits.{bit_bound, zero_bits}
use Rattle.meaning.proofs.Lists.Places.{entry_is, inside}
use Rattle.meaning.specs.Built.{IsBuilt, invented}
use Rattle.meaning.specs.Core.{CoreNode, CoreType, Node, iri_node, literal_node}
use Rattle.meaning.specs.Limits.{first_literal, literal_weight, max_values, member_sets, set_words, type_sets}
use Rattle.meaning.specs.NoGraph.{MixedKinds, iri_literal, literal_typed, mixed_set}
use Rattle.meaning.specs.Pack.{Literal, Pack, type}
use Rattle.meaning.specs.Tables.{set_of_mask}
use Rattle.meaning.specs.TypeSet.{TypeSet, bit, ◌∈ₜ◌}
use Rattle.std.specs.Bool.{MatchBool}
use Rattle.std.specs.List.{AllWithin, HoldsAt}
use Rattle.meaning.proofs.Lists.Below.{NoneBelow}
use Rattle.meaning.proofs.Lists.Lowest.{lowest}
use Rattle.meaning.proofs.Lists.Masks.{bit_small}
use Rattle.worklist.proofs.Marks.{mark_bit, zero_word}

-- ---- a search

pub found_at : {Q : ℕ → Type 0} (i n : ℕ) → i < n → Q i → T true ↔ Somewhere Q n
found_at i n h q = (λ t. record { at = i; below = h; holds = q }, λ s. tt)

pub found_none : {Q : ℕ → Type 0} {i : ℕ} (n : ℕ) → NoneBelow Q i → n ≤ i → T false ↔ Somewhere Q n
found_none n k h = (λ t. absurd t, λ s. k.none s.at (let b = s.below in omega arith) s.holds)

-- ---- words of sets

module _ (flags : List ℕ) where
  -- set t of the word w
  word_mixed : (w t : ℕ) → t < 64 → type_sets < w * 64 + t → w < set_words → bit t (get_or flags w 0) ≡ 1 → T true ↔ MixedFlags flags
  word_mixed w t s a h e =
      let d : (w * 64 + t) / 64 ≡ w = omega arith in
      let m : (w * 64 + t) % 64 ≡ t = omega arith in
      found_at (w * 64 + t) member_sets (omega arith) (record { above = a; set = sym (mark_bit flags (w * 64 + t) w d) ∙ ap (λ x. bit x (get_or flags w 0)) m ∙ e })

  pub first_mixed : 1 < get_or flags (set_words / 2) 0 → get_or flags (set_words / 2) 0 < 2 ^ 64 → T true ↔ MixedFlags flags
  unfolding bit
  first_mixed h f =
      let y = get_or flags (set_words / 2) 0 / 2 in
      let l = (lowest 63 y (omega arith) (omega arith)).member in
      let t = count_trailing_zeros 63 y in
      word_mixed (set_words / 2) (suc t) (let z = bit_small 63 t y l (omega arith) in omega arith) (omega arith) (omega arith) l

  pub later_mixed : (w : ℕ) → set_words / 2 < w → w < set_words → 0 < get_or flags w 0 → get_or flags w 0 < 2 ^ 64 → T true ↔ MixedFlags flags
  later_mixed w a b h f =
      let l = (lowest 64 (get_or flags w 0) h f).member in
      word_mixed w (count_trailing_zeros 64 (get_or flags w 0)) (bit_small 64 (count_trailing_zeros 64 (get_or flags w 0)) (get_or flags w 0) l f) (omega arith) b l

  -- {Literal} alone is not mixed
  pub none_first : get_or flags (set_words / 2) 0 ≤ 1 → NoneBelow (MixedFlag flags) ((set_words / 2 + 1) * 64)
  none_first h = record { none = λ j l m. let a = m.above in let b = bit_bound (j % 64) (get_or flags (set_words / 2) 0) (mark_bit flags j (set_words / 2) (omega arith) ∙ m.set) in omega arith }

  -- the words after it: some is not 0, or all are
  module _ (long : set_words ≤ length flags) (h : get_or flags (set_words / 2) 0 ≤ 1) (fits : (w : ℕ) → get_or flags w 0 < 2 ^ 64) where
    abbrev words : List ℕ
    words = take (set_words / 2 - 1) (drop (set_words / 2 + 1) flags)

    many : length words ≡ set_words / 2 - 1
    many = length-take-le (set_words / 2 - 1) (drop (set_words / 2 + 1) flags) (omega (arith, length-drop (set_words / 2 + 1) flags))

    word_at : (k : ℕ) → k < length words → get_or words k 0 ≡ get_or flags (set_words / 2 + 1 + k) 0
    word_at k l = get_or-take (set_words / 2 - 1) (drop (set_words / 2 + 1) flags) k 0 (omega (arith, many)) ∙ get_or-drop (set_words / 2 + 1) flags k 0

    pub later_words : (r : Bool) → MatchBool r ((k : ℕ) × (k < length words) × HoldsAt (λ x. 0 < x) words k) (AllWithin (λ x. x ≡ 0) words 0 (length words))
        → T r ↔ MixedFlags flags
    later_words true (k, below, is) = let e = word_at k below in let p = is 0 in
        later_mixed (set_words / 2 + 1 + k) (omega arith) (omega (arith, many)) (omega arith) (fits (set_words / 2 + 1 + k))
    later_words false all = (λ t. absurd t, λ s. go s.at s.below s.holds (dec_lt s.at ((set_words / 2 + 1) * 64)))
      where
        go : (j : ℕ) → j < member_sets → MixedFlag flags j → Dec (j < (set_words / 2 + 1) * 64) → ⊥
        go j l m (yes a) = (none_first h).none j a m
        go j l m (no a) =
            let k = j / 64 - (set_words / 2 + 1) in
            let w : set_words / 2 + 1 + k ≡ j / 64 = omega arith in
            let b : k < length words = omega (arith, many) in
            let z = zero_word flags j (sym (word_at k b ∙ ap (λ v. get_or flags v 0) w) ∙ all k 0 (omega arith) b) in
            let s = m.set in
            omega arith

-- ---- the core

pub mixed_iri : (key mask : ℕ) → key < first_literal → leb literal_weight mask ≡ mixed_node key mask
unfolding mixed_node
mixed_iri key mask h = sym (rw (lt-ltb key first_literal h) refl)

pub mixed_literal : (key mask : ℕ) → first_literal ≤ key → not (eqb (mask % literal_weight) 0) ≡ mixed_node key mask
unfolding mixed_node
mixed_literal key mask h = sym (rw (le-ltb key first_literal h) refl)

T-not-eq : (x : ℕ) → T (not (eqb x 0)) → 0 < x
T-not-eq x t = go (ℕ_discrete x 0)
  where
    go : Dec (x ≡ 0) → 0 < x
    go (yes e) = absurd (subst (λ b. T (not b)) (eq-eqb x 0 e) t)
    go (no n) = omega arith

not_eq_T : (x : ℕ) → (x ≡ 0 → ⊥) → T (not (eqb x 0))
not_eq_T x n = subst (λ b. T (not b)) (sym (ne_eqb x 0 n)) tt

-- a number that is not zero has a bit
some_bit : (x : ℕ) → 0 < x → x < literal_weight → (t : ℕ) × (bit t x ≡ 1)
some_bit x p h = (count_trailing_zeros 15 x, (lowest 15 x p h).member)

has_some : (t x : ℕ) → bit t x ≡ 1 → x ≡ 0 → ⊥
has_some t x e z = omega (arith, zero_bits t, subst (λ y. bit t y ≡ 1) z e)

module _ {P : Pack} {table : List (List ℕ)} {nodes triples masks : List ℕ} (I : Input P table nodes triples masks) where
  literal_key : (v : ℕ) → first_literal ≤ key_of (literal_node v)
  unfolding key_of
  literal_key v = omega arith

  core_mixed : MixedCore nodes masks → MixedKinds P
  unfolding set_of_mask
  core_mixed s = go (node_at I s.at s.below) s.holds
    where
      i : ℕ
      i = s.at

      go : NodeAt I i → T (mixed_node (get_or nodes i 0) (get_or masks i 0)) → MixedKinds P
      go n t = by n.node n.in_core n.is (subst (λ k. T (mixed_node k (get_or masks i 0))) (entry_is nodes i (key_of n.node) 0 n.is) t)
        where
          by : (m : Node) → CoreNode P m → get_elem? nodes i ≡ some (key_of m) → T (mixed_node (key_of m) (get_or masks i 0)) → MixedKinds P
          by (iri_node c vs) k e q =
              iri_literal c vs (((masked I (iri_node c vs) i k e).types Literal).0
              (subst T (sym (mixed_iri (key_of (iri_node c vs)) (get_or masks i 0) (iri_key_lt P I.bounded c vs (proper P (well I) k)))) q))
          by (literal_node v) k e q =
              let b =
              some_bit (get_or masks i 0 % literal_weight)
              (T-not-eq (get_or masks i 0 % literal_weight) (subst T (sym (mixed_literal (key_of (literal_node v)) (get_or masks i 0) (literal_key v))) q))
              (omega arith) in
              literal_typed v b.0 (((masked I (literal_node v) i k e).types (type b.0)).0 b.1)

  literal_mixed : (v t : ℕ) → CoreType P (literal_node v) (type t) → MixedCore nodes masks
  unfolding set_of_mask
  literal_mixed v t c =
      let p = place_of I (typed_node P c) in
      let i = p.0 in
      let e = p.1 in
      let h = ((masked I (literal_node v) i (typed_node P c) e).types (type t)).1 c in
      record {
        at = i;
        below = inside nodes i (key_of (literal_node v)) e;
        holds = subst (λ k. T (mixed_node k (get_or masks i 0))) (sym (entry_is nodes i (key_of (literal_node v)) 0 e))
            (subst T (mixed_literal (key_of (literal_node v)) (get_or masks i 0) (literal_key v)) (not_eq_T (get_or masks i 0 % literal_weight) (has_some t (get_or masks i 0 % literal_weight) h)));
      }

  iri_mixed : (c : ℕ) (vs : List ℕ) → CoreType P (iri_node c vs) Literal → MixedCore nodes masks
  unfolding set_of_mask
  iri_mixed c vs k =
      let n = typed_node P k in
      let p = place_of I n in
      let i = p.0 in
      let e = p.1 in
      record {
        at = i;
        below = inside nodes i (key_of (iri_node c vs)) e;
        holds = subst (λ x. T (mixed_node x (get_or masks i 0))) (sym (entry_is nodes i (key_of (iri_node c vs)) 0 e))
            (subst T (mixed_iri (key_of (iri_node c vs)) (get_or masks i 0) (iri_key_lt P I.bounded c vs (proper P (well I) n))) (((masked I (iri_node c vs) i n e).types Literal).1 k));
      }

  -- ---- the invented sets

  module _ (flags : List ℕ) (sets : InventedSets P flags) where
    flag_mixed : MixedFlags flags → MixedKinds P
    unfolding set_at
    flag_mixed s =
        let j = s.at in
        let h = s.holds.above in
        let l = s.below in
        let b = some_bit (j % type_sets) (omega arith) (omega arith) in
        mixed_set (set_at j) b.0 ((sets.sets j).0 s.holds.set).1 (subst T (sym (le-leb type_sets j (omega arith))) tt) b.1

    mixed_flag : (X : TypeSet) (t : ℕ) → IsBuilt P (invented X) → Literal ∈ₜ X → type t ∈ₜ X → MixedFlags flags
    unfolding set_number lifted
    mixed_flag X t i l h =
        let n = number_back X (small_set I i) in
        let b = bit_bound t X.mask h in
        record {
          at = set_number X;
          below = n.0;
          holds = record {
            above = high X.literal l;
            set = (sets.sets (set_number X)).1 (n.0, subst (λ Y. IsBuilt P (invented Y)) (sym n.1) i);
          };
        }
      where
        high : (f : Bool) → T f → type_sets < lifted f X.mask
        high true q = let b = bit_bound t X.mask h in omega arith
        high false q = absurd q

    pub mixed_yes : MixedCore nodes masks → T true ↔ MixedKinds P
    mixed_yes s = (λ t. core_mixed s, λ m. tt)

    pub mixed_rest : (r : Bool) → ¬ MixedCore nodes masks → T r ↔ MixedFlags flags → T r ↔ MixedKinds P
    mixed_rest r none f = (λ t. flag_mixed (f.0 t), back)
      where
        back : MixedKinds P → T r
        back (literal_typed v t c) = absurd (none (literal_mixed v t c))
        back (iri_literal c vs k) = absurd (none (iri_mixed c vs k))
        back (mixed_set X t i l h) = f.1 (mixed_flag X t i l h)

-- the keys of a pack's core are small
pub keys_small : {P : Pack} {table : List (List ℕ)} {nodes triples masks : List ℕ} → Input P table nodes triples masks → KeysSmall nodes
unfolding key_of
keys_small {P} I = record { small = λ k m. let n = (I.held.node_keys_are.members k).0 m in subst (λ x. x < first_literal + max_values) (sym n.is) (go n.node (proper P (well I) n.in_core)) }
  where
    go : (n : Node) → Proper P n → key_of n < first_literal + max_values
    go (iri_node c vs) x = let h = iri_key_lt P I.bounded c vs x in omega arith
    go (literal_node v) x = let b = I.bounded.values in omega arith
