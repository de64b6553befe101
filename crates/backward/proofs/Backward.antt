-- The states of one part that the states of a word, and what is marked, make alive. Assumes nothing.
use lib.Bits.{bit_and, bit_or}
use lib.ListN.{get_or}
use mathlib.Core.Bool.{Bool, false, true}
use mathlib.Core.List.{List}
use mathlib.Core.Logic.{inl, inr, ⊎_elim, ◌↔◌, ◌⊎◌}
use mathlib.Core.Path.{ap, subst, sym, ◌∙◌, ◌≡◌}
use native.Mathlib.Omega.{arith}
use Prim.Native.Nat.{ℕ, ◌%◌, ◌*◌, ◌+◌, ◌-◌, ◌/◌, ◌<◌, ◌^◌, ◌≤◌}
use Rattle.backward.specs.Steps.{LeafBack, Led, PartBack, SubjectAt, SubjectOn, SubjectTo, Turned, labels, leaves, stays, steps, turns}
use Rattle.index.proofs.Stands.{stands_first, stands_none, stands_split}
use Rattle.index.specs.Objects.{Stands}
use Rattle.meaning.proofs.Cases.{true_false}
use Rattle.meaning.proofs.Lists.Masks.{intersection_member, union_member}
use Rattle.meaning.specs.Limits.{max_nodes, max_predicates, node_words, state_words}
use Rattle.meaning.specs.TypeSet.{bit}
use Rattle.query.specs.Tree.{first_number, kind_of}
use Rattle.states.proofs.Numbers.{in_node, in_part, state_is, word_mark, word_state}
use Rattle.states.proofs.PartKinds.{is_leaf}
use Rattle.states.specs.Parts.{AliveAt, takes}
use Rattle.states.specs.State.{node_at, state, word_at}
use Rattle.walk.proofs.KindLaws.{kind_chain, kind_either, kind_repeat, kind_test}
use Rattle.walk.specs.Parts.{Part, chain, either, part_of, repeat, test}
use Rattle.worklist.proofs.Growth.{adds_as, adds_for, adds_none, adds_same, adds_then, from_same}
use Rattle.worklist.proofs.Marks.{one_in}
use Rattle.worklist.specs.Table.{Adds, AddsOnly, Board, FromWord, InWord, Marked, Table}

-- ---- one triple

module _ {x kind want i : ℕ} {b₁ : Board} where
  pub subject_none : (b : Bool) → b ≡ false → b ≡ takes kind want (x % max_predicates) → Table state_words b₁ → AddsOnly state_words (SubjectAt x kind want i) b₁ b₁
  subject_none b n e t = adds_none t (λ y s. true_false (e ∙ s.taken) n)

  pub subject_one : {b₂ : Board} → takes kind want (x % max_predicates) ≡ true → AddsOnly state_words (λ y. y ≡ i * max_nodes + x / max_predicates) b₁ b₂
      → AddsOnly state_words (SubjectAt x kind want i) b₁ b₂
  unfolding state
  subject_one e a = adds_same a (λ y p. record { taken = e; state = p }) (λ y s. s.state)

-- ---- the triples from lo on, before hi

-- Those from j on are left.
pub record Following (into : List ℕ) (lo hi kind want i : ℕ) (b₁ b₂ : Board) (j : ℕ) : Type 0 where
  pub from : lo ≤ j
  pub adds : Adds state_words (SubjectOn into lo hi kind want i) (λ y. ⊥) b₁ b₂
  pub left : (y : ℕ) → SubjectOn into lo hi kind want i y → Marked b₂.marked y ⊎ SubjectOn into j hi kind want i y

module _ {into : List ℕ} {lo hi kind want i : ℕ} {b₁ : Board} where
  pub follow_start : Table state_words b₁ → Following into lo hi kind want i b₁ b₁ lo
  follow_start t = record { from = omega arith; adds = adds_none t (λ y h. h); left = λ y s. inr s }

  module _ {b₂ : Board} {j : ℕ} (f : Following into lo hi kind want i b₁ b₂ j) where
    pub follow_again : {b₃ : Board} → j < hi → AddsOnly state_words (SubjectAt (get_or into j 0) kind want i) b₂ b₃
        → Following into lo hi kind want i b₁ b₃ (j + 1)
    follow_again {b₃} l a = record {
      from = let h = f.from in omega arith;
      adds = adds_as {Y' = λ y. ⊥} (adds_then f.adds (adds_as {S' = SubjectOn into lo hi kind want i} {Y' = SubjectAt (get_or into j 0) kind want i} a
          (λ y s. record { number = get_or into j 0; stands = stands_first f.from l; subject = s }) (λ y s. s))) (λ y s. s) (λ y h. absurd h);
      left = λ y s. ⊎_elim (λ e. inl (a.more y e)) (λ r. split y r (stands_split r.stands)) (f.left y s);
    }
      where
        split : (y : ℕ) → (r : SubjectOn into j hi kind want i y) → (get_or into j 0 ≡ r.number) ⊎ Stands into (j + 1) hi r.number
            → Marked b₃.marked y ⊎ SubjectOn into (j + 1) hi kind want i y
        split y r (inl e) = inl (a.all y (subst (λ x. SubjectAt x kind want i y) (sym e) r.subject))
        split y r (inr m) = inr (record { number = r.number; stands = m; subject = r.subject })

    pub follow_done : hi ≤ j → AddsOnly state_words (SubjectOn into lo hi kind want i) b₁ b₂
    follow_done l = adds_for f.adds (λ y s. s) (λ y s. ⊎_elim (λ p. p) (λ r. absurd (stands_none l r.stands)) (f.left y s))

-- ---- the nodes of a block that the bits say

in_both : (block a b m : ℕ) → InWord block (bit_and a b) m ↔ (InWord block a m × InWord block b m)
in_both block a b m = (
  (λ h. let (p, q) = (intersection_member (m % 64) a b).0 h.is in (record { word = h.word; is = p }, record { word = h.word; is = q })),
  (λ (p, q). record { word = p.word; is = (intersection_member (m % 64) a b).1 (p.is, q.is) }),
)

block_node : {block bits m : ℕ} → block < node_words → InWord block bits m → m < max_nodes
block_node l h = let w = h.word in omega arith

-- The word of a part is marked: the part is at these nodes.
pub at_nodes : (i : ℕ) {block bits : ℕ} {b₁ b₂ : Board} → block < node_words → AddsOnly state_words (InWord (i * node_words + block) bits) b₁ b₂
    → AddsOnly state_words (FromWord block bits (λ m y. y ≡ state i m)) b₁ b₂
unfolding word_at
at_nodes i {block} {bits} l a = adds_same a
    (λ y x. record { from = node_at y; is = in_node i block bits y l x; leads = state_is y ∙ ap (λ p. state p (node_at y)) (in_part i block bits y l x) })
    (λ y f. subst (InWord (word_at i block) bits) (sym f.leads) (word_state i block bits f.from (block_node l f.is) f.is))

-- ---- a leaf

abbrev Leads : (starts into : List ℕ) (kind want i block bits : ℕ) → ℕ → Type 0
Leads starts into kind want i block bits = FromWord block bits (LeafBack starts into kind want i)

module _ {starts into : List ℕ} {kind want i block bits : ℕ} {b₁ : Board} where
  -- No node of the block has the label.
  pub leaf_none : 3 ≤ kind → (want / 64 ≡ block → ⊥) → Table state_words b₁ → AddsOnly state_words (Leads starts into kind want i block bits) b₁ b₁
  leaf_none k n t = adds_none t (λ y f. none f.is f.leads)
    where
      none : {m y : ℕ} → InWord block bits m → LeafBack starts into kind want i m y → ⊥
      none x (stays e s) = omega arith
      none x (steps g h s) = omega arith
      none x (labels g h e s) = n (ap (λ z. z / 64) e ∙ x.word)

  module _ {b₂ : Board} where
    pub leaf_stay : kind ≡ 0 → block < node_words → AddsOnly state_words (InWord (i * node_words + block) bits) b₁ b₂
        → AddsOnly state_words (Leads starts into kind want i block bits) b₁ b₂
    leaf_stay e l a = adds_same (at_nodes i l a) (from_same (λ m y x p. stays e p)) (from_same back)
      where
        back : (m y : ℕ) → InWord block bits m → LeafBack starts into kind want i m y → y ≡ state i m
        back m y x (stays f p) = p
        back m y x (steps g h s) = absurd (omega arith)
        back m y x (labels g h f p) = p

    pub leaf_step : (kind ≡ 0 → ⊥) → kind < 3 → AddsOnly state_words (FromWord block bits (SubjectTo starts into kind want i)) b₁ b₂
        → AddsOnly state_words (Leads starts into kind want i block bits) b₁ b₂
    leaf_step z l a = adds_same a (from_same (λ m y x s. steps (omega arith) (omega arith) s)) (from_same back)
      where
        back : (m y : ℕ) → InWord block bits m → LeafBack starts into kind want i m y → SubjectTo starts into kind want i m y
        back m y x (stays f p) = absurd (z f)
        back m y x (steps g h s) = s
        back m y x (labels g h f p) = absurd (omega arith)

    -- w is the node's bit as code makes it
    pub leaf_label : 3 ≤ kind → kind < 5 → block < node_words → want / 64 ≡ block → (w : ℕ) → w ≡ 2 ^ (want % 64)
        → AddsOnly state_words (InWord (i * node_words + block) (bit_and bits w)) b₁ b₂ → AddsOnly state_words (Leads starts into kind want i block bits) b₁ b₂
    leaf_label k h l e w p a = adds_same (at_nodes i l a) forth back
      where
        only : {m : ℕ} → InWord block w m → want ≡ m
        only {m} x = sym ((one_in want m).0 (record { word = x.word ∙ sym e; is = ap (bit (m % 64)) (sym p) ∙ x.is }))

        forth : (y : ℕ) → FromWord block (bit_and bits w) (λ m y. y ≡ state i m) y → Leads starts into kind want i block bits y
        forth y f = let (u, v) = (in_both block bits w f.from).0 f.is in record { from = f.from; is = u; leads = labels k (omega arith) (only v) f.leads }

        is : {m : ℕ} → InWord block bits m → want ≡ m → InWord block w m
        is {m} x f = let z = (one_in want m).1 (sym f) in record { word = x.word; is = ap (bit (m % 64)) p ∙ z.is }

        at : {m y : ℕ} → LeafBack starts into kind want i m y → (want ≡ m) × (y ≡ state i m)
        at (stays f q) = absurd (omega arith)
        at (steps g r s) = absurd (omega arith)
        at (labels g r f q) = (f, q)

        back : (y : ℕ) → Leads starts into kind want i block bits y → FromWord block (bit_and bits w) (λ m y. y ≡ state i m) y
        back y f = let (u, q) = at f.leads in record { from = f.from; is = (in_both block bits w f.from).1 (f.is, is f.is u); leads = q }

-- ---- a part that has parts

module _ (tree table : List ℕ) (i block after : ℕ) where
  abbrev word : ℕ → ℕ
  word j = get_or table (j * node_words + block) 0

  -- what a word says of the part j
  says : (j m : ℕ) → m < max_nodes → m / 64 ≡ block → (bit (m % 64) (word j) ≡ 1) ↔ AliveAt table m j
  unfolding word_at
  says j m l e =
      let p = ap (λ b. bit (m % 64) (get_or table (j * node_words + b) 0)) (sym e) ∙ word_mark table j m l in
      (λ h. sym p ∙ h, λ h. p ∙ h)

  of_part : (bits : ℕ) (p : Part) → part_of tree i ≡ p → Turned bits table block after p → Turned bits table block after (part_of tree i)
  of_part bits p e t = subst (Turned bits table block after) (sym e) t

  joined : (j k m : ℕ) → m < max_nodes → m / 64 ≡ block → (bit (m % 64) (bit_or (word j) (word k)) ≡ 1) ↔ (AliveAt table m j ⊎ AliveAt table m k)
  joined j k m l e = (
    (λ h. ⊎_elim (λ u. inl ((says j m l e).0 u)) (λ u. inr ((says k m l e).0 u)) ((union_member (m % 64) (word j) (word k)).0 h)),
    (λ h. (union_member (m % 64) (word j) (word k)).1 (⊎_elim (λ u. inl ((says j m l e).1 u)) (λ u. inr ((says k m l e).1 u)) h)),
  )

  pub turned_sequence : kind_of tree i ≡ 7 → (first : ℕ) → first ≡ first_number tree i → Turned (word first) table block after (part_of tree i)
  turned_sequence k first e = subst (λ f. Turned (word f) table block after (part_of tree i)) (sym e)
      (of_part (word (first_number tree i)) (chain (first_number tree i) (i - 1)) (kind_chain tree i k) (λ m l h. says (first_number tree i) m l h))

  pub turned_union : kind_of tree i ≡ 8 → (first : ℕ) → first ≡ first_number tree i → Turned (bit_or (word first) (word (i - 1))) table block after (part_of tree i)
  turned_union k first e = subst (λ f. Turned (bit_or (word f) (word (i - 1))) table block after (part_of tree i)) (sym e)
      (of_part (bit_or (word (first_number tree i)) (word (i - 1))) (either (first_number tree i) (i - 1)) (kind_either tree i k) (λ m l h. joined (first_number tree i) (i - 1) m l h))

  pub turned_star : kind_of tree i ≡ 6 → Turned (bit_or (word after) (word (i - 1))) table block after (part_of tree i)
  turned_star k = of_part (bit_or (word after) (word (i - 1))) (repeat (i - 1)) (kind_repeat tree i k) (λ m l h. joined after (i - 1) m l h)

  pub turned_test : kind_of tree i ≡ 5 → Turned (bit_and (word (i - 1)) (word after)) table block after (part_of tree i)
  turned_test k = of_part (bit_and (word (i - 1)) (word after)) (test (i - 1)) (kind_test tree i k) (λ m l e. (
    (λ h. let (u, v) = (intersection_member (m % 64) (word (i - 1)) (word after)).0 h in ((says (i - 1) m l e).0 u, (says after m l e).0 v)),
    (λ (u, v). (intersection_member (m % 64) (word (i - 1)) (word after)).1 ((says (i - 1) m l e).1 u, (says after m l e).1 v)),
  ))

-- ---- any part

leaf_kind : {starts into : List ℕ} {kind want i m y : ℕ} → LeafBack starts into kind want i m y → kind < 5
leaf_kind (stays e s) = omega arith
leaf_kind (steps g h s) = omega arith
leaf_kind (labels g h e s) = omega arith

led_no_leaf : (tree : List ℕ) (i : ℕ) (B : ℕ → Type 0) (after : ℕ) → Led B after (part_of tree i) → kind_of tree i < 5 → ⊥
led_no_leaf tree i B after x l = subst (λ p. Led B after p) (is_leaf tree i l) x

module _ {starts into tree next wanted : List ℕ} {i j block bits : ℕ} {b₁ : Board} where
  pub part_turns : {b₂ : Board} → 5 ≤ kind_of tree i → block < node_words → (r : ℕ) → Turned r b₁.marked block (get_or next i 0) (part_of tree i)
      → AddsOnly state_words (InWord (i * node_words + block) (bit_and r bits)) b₁ b₂
      → AddsOnly state_words (FromWord block bits (PartBack starts into tree next wanted b₁.marked i j)) b₁ b₂
  part_turns k l r t a = adds_same (at_nodes i l a) forth back
    where
      forth : (y : ℕ) → FromWord block (bit_and r bits) (λ m y. y ≡ state i m) y → FromWord block bits (PartBack starts into tree next wanted b₁.marked i j) y
      forth y f =
          let (u, v) = (in_both block r bits f.from).0 f.is in
          record { from = f.from; is = v; leads = turns ((t f.from (block_node l u) u.word).0 u.is) f.leads }

      back : (y : ℕ) → FromWord block bits (PartBack starts into tree next wanted b₁.marked i j) y → FromWord block (bit_and r bits) (λ m y. y ≡ state i m) y
      back y f = go f.is f.leads
        where
          go : {m : ℕ} → InWord block bits m → PartBack starts into tree next wanted b₁.marked i j m y → FromWord block (bit_and r bits) (λ m y. y ≡ state i m) y
          go x (leaves e b) = absurd (let z = leaf_kind b in omega arith)
          go {m} x (turns d e) = record { from = m; is = (in_both block r bits m).1 (record { word = x.word; is = (t m (block_node l x) x.word).1 d }, x); leads = e }

  pub part_none : kind_of tree i < 5 → (get_or next i 0 ≡ j → ⊥) → Table state_words b₁
      → AddsOnly state_words (FromWord block bits (PartBack starts into tree next wanted b₁.marked i j)) b₁ b₁
  part_none k n t = adds_none t (λ y f. none f.leads)
    where
      none : {m y : ℕ} → PartBack starts into tree next wanted b₁.marked i j m y → ⊥
      none (leaves e b) = n e
      none {m} (turns d e) = led_no_leaf tree i (AliveAt b₁.marked m) (get_or next i 0) d k

  pub part_leaf : {b₂ : Board} → (kind : ℕ) → kind ≡ kind_of tree i → kind < 5 → get_or next i 0 ≡ j
      → AddsOnly state_words (Leads starts into kind (get_or wanted i 0) i block bits) b₁ b₂
      → AddsOnly state_words (FromWord block bits (PartBack starts into tree next wanted b₁.marked i j)) b₁ b₂
  part_leaf {b₂} kind k l e a =
      adds_same (subst (λ x. AddsOnly state_words (Leads starts into x (get_or wanted i 0) i block bits) b₁ b₂) k a) (from_same (λ m y x b. leaves e b)) (from_same back)
    where
      back : (m y : ℕ) → InWord block bits m → PartBack starts into tree next wanted b₁.marked i j m y → LeafBack starts into (kind_of tree i) (get_or wanted i 0) i m y
      back m y x (leaves f b) = b
      back m y x (turns d f) = absurd (led_no_leaf tree i (AliveAt b₁.marked m) (get_or next i 0) d (omega arith))
