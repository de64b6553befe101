-- What is marked on the way forward: by triples, leaves and parts, from the nodes of a block. Assumes nothing.
use lib.Bits.{bit_and}
use lib.ListN.{drop, get_or, length, length-drop, length-take, take}
use lib.Seq.{get_or-drop, get_or-take}
use mathlib.Core.Bool.{Bool, false, true}
use mathlib.Core.List.{List}
use mathlib.Core.Logic.{inl, inr, ◌⊎◌}
use mathlib.Core.Path.{ap, subst, sym, ◌∙◌, ◌≡◌}
use native.Mathlib.Decide.{dec_lt, ℕ_discrete}
use native.Mathlib.Omega.{arith}
use Prim.Native.Nat.{ℕ, ◌%◌, ◌*◌, ◌+◌, ◌-◌, ◌/◌, ◌<◌, ◌^◌, ◌≤◌}
use Rattle.index.specs.Subjects.{first_at}
use Rattle.index.specs.Triples.{object_at, predicate_at}
use Rattle.meaning.proofs.Cases.{true_false}
use Rattle.meaning.proofs.Lists.Bits.{bit_one, bit_other}
use Rattle.meaning.proofs.Lists.Masks.{intersection_member}
use Rattle.meaning.specs.Limits.{max_core_nodes, max_nodes, named_words, seen_words}
use Rattle.meaning.specs.TypeSet.{bit}
use Rattle.query.specs.Tree.{first_number, kind_of}
use Rattle.forward.specs.Own.{ListedIn, end_at}
use Rattle.forward.specs.Seen.{seen_state, seen_word}
use Rattle.forward.specs.Steps.{LeafOnward, ObjectAt, ObjectIn, PartsOnward, labels, stays, steps}
use Rattle.forward.proofs.SeenNumbers.{seen_number, word_states}
use Rattle.states.proofs.Numbers.{word_mark}
use Rattle.states.specs.Parts.{takes}
use Rattle.states.specs.State.{word_at}
use Rattle.walk.proofs.KindLaws.{kind_chain, kind_either, kind_repeat, kind_test}
use Rattle.walk.specs.Parts.{Part, chain, either, part_of, repeat, test}
use Rattle.worklist.proofs.Growth.{adds_both, adds_none, adds_same, from_same}
use Rattle.worklist.specs.Table.{AddsOnly, Board, FromWord, InWord, Table}

-- one state, by the number that code gives it
pub marked_state : {a b : Board} (i n : ℕ) → AddsOnly seen_words (λ y. y ≡ i * max_core_nodes + n) a b → AddsOnly seen_words (λ y. y ≡ seen_state i n) a b
marked_state i n d = adds_same d (λ y e. e ∙ seen_number i n) (λ y e. e ∙ sym (seen_number i n))

-- ---- one triple, and the listed ones of a part

module _ {triples : List ℕ} {kind want to : ℕ} {a : Board} where
  pub object_none : {k : ℕ} (x : Bool) → x ≡ false → x ≡ takes kind want (predicate_at triples k) → Table seen_words a → AddsOnly seen_words (ObjectAt triples k kind want to) a a
  object_none x n e t = adds_none t (λ y s. true_false (e ∙ s.taken) n)

  pub object_one : {k : ℕ} {b : Board} → takes kind want (predicate_at triples k) ≡ true → AddsOnly seen_words (λ y. y ≡ seen_state to (object_at triples k)) a b
      → AddsOnly seen_words (ObjectAt triples k kind want to) a b
  object_one e d = adds_same d (λ y p. record { taken = e; state = p }) (λ y s. s.state)

-- the entries of a part, as code goes through them
module _ (own : List ℕ) (lo hi : ℕ) where
  pub part_end : hi ≤ length own → length (take (hi - lo) (drop lo own)) ≡ hi - lo
  part_end l = omega (arith, length-take (hi - lo) (drop lo own), length-drop lo own)

  pub part_inside : (i : ℕ) → i < length (take (hi - lo) (drop lo own)) → lo + i < hi
  part_inside i l = omega (arith, length-take (hi - lo) (drop lo own))

  pub part_entry : (i : ℕ) → i < length (take (hi - lo) (drop lo own)) → get_or (take (hi - lo) (drop lo own)) i 0 ≡ get_or own (lo + i) 0
  part_entry i l = get_or-take (hi - lo) (drop lo own) i 0 (let z = part_inside i l in omega arith) ∙ get_or-drop lo own i 0

-- The entries from lo up to j are visited; none of them is 0.
pub record Visiting (triples own : List ℕ) (lo kind want to : ℕ) (a b : Board) (j : ℕ) : Type 0 where
  pub from : lo ≤ j
  pub some : (i : ℕ) → lo ≤ i → i < j → 0 < get_or own i 0
  pub adds : AddsOnly seen_words (ObjectIn triples own lo j kind want to) a b

module _ {triples own : List ℕ} {lo kind want to : ℕ} where
  -- whether a triple is listed does not depend on what follows it
  up_to : {j hi y : ℕ} → (s : ObjectIn triples own lo hi kind want to y) → s.listed.at < j → ObjectIn triples own lo j kind want to y
  up_to s l =
      let t = s.listed in
      record {
        triple = s.triple;
        listed = record { at = t.at; above = t.above; below = l; entry = t.entry; before = t.before };
        object = s.object;
      }

  wider : {j hi : ℕ} → j ≤ hi → (y : ℕ) → ObjectIn triples own lo j kind want to y → ObjectIn triples own lo hi kind want to y
  wider l y s = up_to s (let q = s.listed.below in omega arith)

module _ {triples own : List ℕ} {lo kind want to : ℕ} {a : Board} where
  pub visit_start : {j : ℕ} → j ≡ lo → Table seen_words a → Visiting triples own lo kind want to a a j
  visit_start e t = record {
    from = omega arith;
    some = λ i p q. absurd (omega arith);
    adds = adds_none t (λ y s. let p = s.listed.above in let q = s.listed.below in omega arith);
  }

  module _ {b : Board} {j : ℕ} (v : Visiting triples own lo kind want to a b j) where
    -- The entry at j says the triple k.
    pub visit_listed : {hi k : ℕ} → j < hi → get_or own j 0 ≡ k + 1 → ListedIn own lo hi k
    visit_listed l e = record { at = j; above = v.from; below = l; entry = e; before = v.some }

    pub visit_again : {c : Board} {k next : ℕ} → next ≡ j + 1 → get_or own j 0 ≡ k + 1 → AddsOnly seen_words (ObjectAt triples k kind want to) b c
        → Visiting triples own lo kind want to a c next
    visit_again {c} {k} n e d = subst (Visiting triples own lo kind want to a c) (sym n) (record {
      from = let l = v.from in omega arith;
      some = λ i p q. some i p (ℕ_discrete i j) q;
      adds = adds_both v.adds d (wider (omega arith)) (λ y s. record { triple = k; listed = visit_listed (omega arith) e; object = s })
          (λ y s. split y s (dec_lt s.listed.at j));
    })
      where
        some : (i : ℕ) → lo ≤ i → Dec (i ≡ j) → i < j + 1 → 0 < get_or own i 0
        some i p (yes h) q = let z = subst (λ x. get_or own x 0 ≡ k + 1) (sym h) e in omega arith
        some i p (no h) q = v.some i p (omega arith)

        split : (y : ℕ) → (s : ObjectIn triples own lo (j + 1) kind want to y) → Dec (s.listed.at < j)
            → ObjectIn triples own lo j kind want to y ⊎ ObjectAt triples k kind want to y
        split y s (yes h) = inl (up_to s h)
        split y s (no h) =
            let g = s.listed.below in
            let p : s.listed.at ≡ j = omega arith in
            let q = subst (λ x. get_or own x 0 ≡ s.triple + 1) p s.listed.entry in
            let r : s.triple ≡ k = omega arith in
            inr (subst (λ x. ObjectAt triples x kind want to y) r s.object)

    -- The entry at j is 0, so no more are listed.
    pub visit_stop : {hi : ℕ} → j < hi → get_or own j 0 ≡ 0 → AddsOnly seen_words (ObjectIn triples own lo hi kind want to) a b
    visit_stop {hi} l z = adds_same v.adds (wider (omega arith)) (λ y s. go y s (dec_lt s.listed.at j))
      where
        go : (y : ℕ) → (s : ObjectIn triples own lo hi kind want to y) → Dec (s.listed.at < j) → ObjectIn triples own lo j kind want to y
        go y s (yes h) = up_to s h
        go y s (no h) = absurd (past (ℕ_discrete s.listed.at j))
          where
            past : Dec (s.listed.at ≡ j) → ⊥
            past (yes p) = let e = subst (λ x. get_or own x 0 ≡ s.triple + 1) p s.listed.entry in omega arith
            past (no p) = let e = s.listed.before j v.from (omega arith) in omega arith

    pub visit_done : {hi : ℕ} → j ≡ hi → AddsOnly seen_words (ObjectIn triples own lo hi kind want to) a b
    visit_done e = subst (λ x. AddsOnly seen_words (ObjectIn triples own lo x kind want to) a b) e v.adds

-- ---- a part at the nodes of a block

-- the part is y's at one of the nodes
abbrev pub At : ℕ → ℕ → ℕ → ℕ → Type 0
At to block bits = FromWord block bits (λ n y. y ≡ seen_state to n)

module _ {block bits w : ℕ} {a b : Board} (to : ℕ) (l : block < named_words) (e : w ≡ seen_word to block) where
  -- the word is marked
  pub word_at_lem : AddsOnly seen_words (InWord w bits) a b → AddsOnly seen_words (At to block bits) a b
  word_at_lem d = adds_same (subst (λ x. AddsOnly seen_words (InWord x bits) a b) e d) (λ y. (word_states to block bits y l).0) (λ y. (word_states to block bits y l).1)

module _ {block : ℕ} where
  -- the bits of a node among those of a block
  pub meet_in : (bits other n : ℕ) → InWord block (bit_and bits other) n → InWord block bits n × (bit (n % 64) other ≡ 1)
  meet_in bits other n h = let x = (intersection_member (n % 64) bits other).0 h.is in (record { word = h.word; is = x.0 }, x.1)

  pub in_meet : (bits other n : ℕ) → InWord block bits n → bit (n % 64) other ≡ 1 → InWord block (bit_and bits other) n
  in_meet bits other n h e = record { word = h.word; is = (intersection_member (n % 64) bits other).1 (h.is, e) }

-- ---- a leaf

module _ {triples own index : List ℕ} {kind want to block bits : ℕ} {a : Board} where
  pub leaf_stay : {b : Board} → kind ≡ 0 → AddsOnly seen_words (At to block bits) a b → AddsOnly seen_words (FromWord block bits (LeafOnward triples own index kind want to)) a b
  leaf_stay e d = adds_same d (from_same (λ n y i p. stays e p)) (from_same back)
    where
      back : (n y : ℕ) → InWord block bits n → LeafOnward triples own index kind want to n y → y ≡ seen_state to n
      back n y i (stays f p) = p
      back n y i (steps g h s) = absurd (omega arith)
      back n y i (labels g h f p) = p

  pub leaf_step : {b : Board} → (kind ≡ 0 → ⊥) → kind < 3
      → AddsOnly seen_words (FromWord block bits (λ n. ObjectIn triples own (first_at index n) (end_at index n) kind want to)) a b
      → AddsOnly seen_words (FromWord block bits (LeafOnward triples own index kind want to)) a b
  leaf_step z l d = adds_same d (from_same (λ n y i s. steps (omega arith) (omega arith) s)) (from_same back)
    where
      back : (n y : ℕ) → InWord block bits n → LeafOnward triples own index kind want to n y → ObjectIn triples own (first_at index n) (end_at index n) kind want to y
      back n y i (stays f p) = absurd (z f)
      back n y i (steps g h s) = s
      back n y i (labels g h f p) = absurd (omega arith)

  -- a label of a node that is not in the block
  pub leaf_none : (kind ≡ 0 → ⊥) → 3 ≤ kind → (want / 64 ≡ block → ⊥) → Table seen_words a
      → AddsOnly seen_words (FromWord block bits (LeafOnward triples own index kind want to)) a a
  leaf_none z l n t = adds_none t (λ y x. none x.from y x.is x.leads)
    where
      none : (m y : ℕ) → InWord block bits m → LeafOnward triples own index kind want to m y → ⊥
      none m y i (stays f p) = z f
      none m y i (steps g h s) = omega arith
      none m y i (labels g h f p) = n (ap (λ x. x / 64) f ∙ i.word)

  -- a label of a node that is; m is its bit as code makes it
  pub leaf_label : {b : Board} → 3 ≤ kind → kind < 5 → want / 64 ≡ block → (m : ℕ) → m ≡ 2 ^ (want % 64) → AddsOnly seen_words (At to block (bit_and bits m)) a b
      → AddsOnly seen_words (FromWord block bits (LeafOnward triples own index kind want to)) a b
  leaf_label g h q m e d = adds_same d forth back
    where
      is_want : (n : ℕ) → n / 64 ≡ block → bit (n % 64) m ≡ 1 → want ≡ n
      is_want n w x = go (ℕ_discrete (n % 64) (want % 64))
        where
          go : Dec (n % 64 ≡ want % 64) → want ≡ n
          go (yes p) = omega arith
          go (no p) = absurd (let z = bit_other (n % 64) (want % 64) p in let y : bit (n % 64) (2 ^ (want % 64)) ≡ 1 = subst (λ k. bit (n % 64) k ≡ 1) e x in omega arith)

      forth : (y : ℕ) → At to block (bit_and bits m) y → FromWord block bits (LeafOnward triples own index kind want to) y
      forth y x =
          let (i, t) = meet_in bits m x.from x.is in
          record { from = x.from; is = i; leads = labels g (omega arith) (is_want x.from i.word t) x.leads }

      back : (y : ℕ) → FromWord block bits (LeafOnward triples own index kind want to) y → At to block (bit_and bits m) y
      back y x = go x.leads
        where
          go : LeafOnward triples own index kind want to x.from y → At to block (bit_and bits m) y
          go (stays f p) = absurd (omega arith)
          go (steps r s t) = absurd (omega arith)
          go (labels r s f p) =
              let t : bit (x.from % 64) m ≡ 1 = ap (λ k. bit (x.from % 64) k) e ∙ subst (λ k. bit (k % 64) (2 ^ (want % 64)) ≡ 1) f (bit_one (want % 64)) in
              record { from = x.from; is = in_meet bits m x.from x.is t; leads = p }

-- ---- a part that has parts

module _ (tree table : List ℕ) (i after block bits : ℕ) {a b : Board} where
  as_part : (p : Part) → part_of tree i ≡ p → AddsOnly seen_words (FromWord block bits (PartsOnward table after p)) a b
      → AddsOnly seen_words (FromWord block bits (PartsOnward table after (part_of tree i))) a b
  as_part p e d = subst (λ q. AddsOnly seen_words (FromWord block bits (PartsOnward table after q)) a b) (sym e) d

  -- the body is alive at some of the nodes
  pub part_test : block < named_words → kind_of tree i ≡ 5 → (held : ℕ) → held ≡ get_or table (word_at (i - 1) block) 0
      → AddsOnly seen_words (At after block (bit_and bits held)) a b → AddsOnly seen_words (FromWord block bits (PartsOnward table after (part_of tree i))) a b
  part_test l k held e d = as_part (test (i - 1)) (kind_test tree i k) (adds_same d forth back)
    where
      says : (n : ℕ) → n / 64 ≡ block → bit (n % 64) held ≡ bit (n % 64) (get_or table (word_at (i - 1) (n / 64)) 0)
      says n w = ap (bit (n % 64)) e ∙ ap (λ x. bit (n % 64) (get_or table (word_at (i - 1) x) 0)) (sym w)

      small : (n : ℕ) → n / 64 ≡ block → n < max_nodes
      small n w = omega arith

      forth : (y : ℕ) → At after block (bit_and bits held) y → FromWord block bits (PartsOnward table after (test (i - 1))) y
      forth y x =
          let (h, t) = meet_in bits held x.from x.is in
          record { from = x.from; is = h; leads = (sym (word_mark table (i - 1) x.from (small x.from h.word)) ∙ sym (says x.from h.word) ∙ t, x.leads) }

      back : (y : ℕ) → FromWord block bits (PartsOnward table after (test (i - 1))) y → At after block (bit_and bits held) y
      back y x =
          let t = says x.from x.is.word ∙ word_mark table (i - 1) x.from (small x.from x.is.word) ∙ x.leads.0 in
          record { from = x.from; is = in_meet bits held x.from x.is t; leads = x.leads.1 }

  pub part_sequence : kind_of tree i ≡ 7 → AddsOnly seen_words (At (first_number tree i) block bits) a b → AddsOnly seen_words (FromWord block bits (PartsOnward table after (part_of tree i))) a b
  part_sequence k d = as_part (chain (first_number tree i) (i - 1)) (kind_chain tree i k) (adds_same d (from_same (λ n y h p. p)) (from_same (λ n y h p. p)))

either_way : {block bits : ℕ} {R : ℕ → ℕ → Type 0} (x z : ℕ) → ((n y : ℕ) → R n y → (y ≡ seen_state x n) ⊎ (y ≡ seen_state z n)) → (y : ℕ) → FromWord block bits R y
    → At x block bits y ⊎ At z block bits y
either_way {block} {bits} x z f y w = go (f w.from y w.leads)
  where
    go : (y ≡ seen_state x w.from) ⊎ (y ≡ seen_state z w.from) → At x block bits y ⊎ At z block bits y
    go (inl p) = inl (record { from = w.from; is = w.is; leads = p })
    go (inr p) = inr (record { from = w.from; is = w.is; leads = p })

module _ (tree table : List ℕ) (i after block bits : ℕ) {a b c : Board} where
  pub part_star : kind_of tree i ≡ 6 → AddsOnly seen_words (At after block bits) a b → AddsOnly seen_words (At (i - 1) block bits) b c
      → AddsOnly seen_words (FromWord block bits (PartsOnward table after (part_of tree i))) a c
  part_star k d e = as_part tree table i after block bits (repeat (i - 1)) (kind_repeat tree i k)
      (adds_both d e (from_same (λ n y h p. inl p)) (from_same (λ n y h p. inr p)) (either_way after (i - 1) (λ n y p. p)))

  pub part_union : kind_of tree i ≡ 8 → AddsOnly seen_words (At (first_number tree i) block bits) a b → AddsOnly seen_words (At (i - 1) block bits) b c
      → AddsOnly seen_words (FromWord block bits (PartsOnward table after (part_of tree i))) a c
  part_union k d e = as_part tree table i after block bits (either (first_number tree i) (i - 1)) (kind_either tree i k)
      (adds_both d e (from_same (λ n y h p. inl p)) (from_same (λ n y h p. inr p)) (either_way (first_number tree i) (i - 1) (λ n y p. p)))
