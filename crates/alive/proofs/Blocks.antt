-- The first nodes, block by block: the end is marked at them, and whether a part is marked at one. Assumes nothing.
use lib.Bits.{bit_and}
use lib.Count.{count_trailing_zeros}
use lib.ListN.{get_or}
use lib.Pow.{suc_ones}
use mathlib.Core.Bool.{true}
use mathlib.Core.List.{List}
use mathlib.Core.Logic.{◌↔◌}
use mathlib.Core.Path.{ap, refl, subst, sym, ◌∙◌, ◌≡◌}
use native.Mathlib.Decide.{dec_lt}
use native.Mathlib.Omega.{arith}
use Prim.Native.Nat.{ℕ, ◌%◌, ◌*◌, ◌+◌, ◌-◌, ◌/◌, ◌<◌, ◌^◌, ◌≤◌}
use Rattle.alive.specs.Steps.{EndAt, RealNodes}
use Rattle.meaning.proofs.Lists.Bits.{bit_one, mask_lt, zero_bits}
use Rattle.meaning.proofs.Lists.Lowest.{lowest}
use Rattle.meaning.proofs.Lists.Masks.{bit_small, intersection_member, low_member}
use Rattle.meaning.specs.Limits.{node_words, state_words}
use Rattle.meaning.specs.TypeSet.{bit}
use Rattle.states.proofs.Numbers.{word_mark}
use Rattle.states.specs.Living.{SomeAt}
use Rattle.states.specs.State.{state, word_at}
use Rattle.worklist.proofs.Growth.{adds_as, adds_for, adds_none, adds_then, nothing_marked}
use Rattle.worklist.specs.Table.{Adds, AddsOnly, Blank, Board, InWord, Marked, mark}
use Rattle.backward.proofs.Backward.{at_nodes}

-- ---- the nodes of a block

-- the bits below k
below_bits : (k t : ℕ) → (bit t (2 ^ k - 1) ≡ 1) ↔ (t < k)
below_bits k t = (
  (λ e. bit_small k t (2 ^ k - 1) e (omega (arith, suc_ones k))),
  (λ l. ((intersection_member t (2 ^ t) (2 ^ k - 1)).0 ((low_member k t (2 ^ t)).1 (l, bit_one t))).1),
)

pub all_real : {nodes block : ℕ} → 64 ≤ nodes - block * 64 → RealNodes nodes block 18446744073709551615
all_real {nodes} {block} l m e = ((λ h. omega arith), (λ h. (below_bits 64 (m % 64)).1 (omega arith)))

-- w is 2 ^ count as code makes it
pub some_real : {nodes block : ℕ} (w : ℕ) → block * 64 < nodes → w ≡ 2 ^ (nodes - block * 64) → RealNodes nodes block (w - 1)
some_real {nodes} {block} w l p m e = (
  (λ h. let z = (below_bits (nodes - block * 64) (m % 64)).0 (ap (λ x. bit (m % 64) (x - 1)) (sym p) ∙ h) in omega arith),
  (λ h. ap (λ x. bit (m % 64) (x - 1)) p ∙ (below_bits (nodes - block * 64) (m % 64)).1 (omega arith)),
)

-- ---- the end

pub record Ending (nodes parts : ℕ) (b₁ b₂ : Board) (block : ℕ) : Type 0 where
  pub adds : Adds state_words (EndAt nodes parts) (λ y. ⊥) b₁ b₂
  pub before : (m : ℕ) → m < nodes → m < block * 64 → Marked b₂.marked (state parts m)

pub end_start : {nodes parts : ℕ} {b : Board} → Blank state_words b → Ending nodes parts b b 0
end_start (u, z) = record { adds = adds_none (nothing_marked u z) (λ y h. h); before = λ m l h. absurd (omega arith) }

module _ {nodes parts : ℕ} {b₁ b₂ : Board} {block : ℕ} (g : Ending nodes parts b₁ b₂ block) where
  pub end_again : {b₃ : Board} (r : ℕ) → block < node_words → RealNodes nodes block r → AddsOnly state_words (InWord (parts * node_words + block) r) b₂ b₃
      → Ending nodes parts b₁ b₃ (block + 1)
  end_again {b₃} r l t a = record {
    adds =
        adds_as {Y' = λ y. ⊥} (adds_then g.adds (adds_as {S' = EndAt nodes parts} {Y' = λ y. ⊥} (at_nodes parts l a)
        (λ y f. record { node = f.from; is = (t f.from f.is.word).0 f.is.is; state = f.leads }) (λ y h. absurd h))) (λ y e. e) (λ y h. absurd h);
    before = λ m h k. go m h k (dec_lt m (block * 64));
  }
    where
      go : (m : ℕ) → m < nodes → m < (block + 1) * 64 → Dec (m < block * 64) → Marked b₃.marked (state parts m)
      go m h k (yes x) = a.more (state parts m) (g.before m h x)
      go m h k (no x) =
          let e : m / 64 ≡ block = omega arith in
          (at_nodes parts l a).all (state parts m) (record { from = m; is = record { word = e; is = (t m e).1 h }; leads = refl })

  pub end_done : nodes ≤ block * 64 → AddsOnly state_words (EndAt nodes parts) b₁ b₂
  end_done l = adds_for g.adds (λ y e. e) (λ y e. let h = e.is in subst (Marked b₂.marked) (sym e.state) (g.before e.node h (omega arith)))

-- ---- a part

module _ (table : List ℕ) (nodes i block r : ℕ) (l : block < node_words) (t : RealNodes nodes block r) where
  abbrev word : ℕ
  word = get_or table (i * node_words + block) 0

  says : (m : ℕ) → m / 64 ≡ block → bit (m % 64) (get_or table (i * node_words + block) 0) ≡ mark table (state i m)
  unfolding word_at
  says m e = ap (λ b. bit (m % 64) (get_or table (i * node_words + b) 0)) (sym e) ∙ word_mark table i m (omega arith)

  pub some_here : word < 2 ^ 64 → (bit_and word r ≡ 0 → ⊥) → SomeAt true table nodes i
  some_here f n =
      let h : bit_and word r < 2 ^ 64 = mask_lt 64 (bit_and word r) (λ u e. bit_small 64 u word ((intersection_member u word r).0 e).0 f) in
      let u : ℕ = count_trailing_zeros 64 (bit_and word r) in
      let b = (lowest 64 (bit_and word r) (omega arith) h).member in
      let s = bit_small 64 u (bit_and word r) b h in
      let (p, q) = (intersection_member u word r).0 b in
      let e : (block * 64 + u) / 64 ≡ block = omega arith in
      let d : (block * 64 + u) % 64 ≡ u = omega arith in
      (block * 64 + u, (t (block * 64 + u) e).0 (ap (λ x. bit x r) d ∙ q), sym (says (block * 64 + u) e) ∙ ap (λ x. bit x word) d ∙ p)

  none_here : bit_and word r ≡ 0 → (m : ℕ) → m / 64 ≡ block → m < nodes → Marked table (state i m) → ⊥
  none_here z m e h k =
      let b = (intersection_member (m % 64) word r).1 (says m e ∙ k, (t m e).1 h) in
      let c = ap (bit (m % 64)) z ∙ zero_bits (m % 64) in
      omega arith

  pub none_before : bit_and word r ≡ 0 → ((m : ℕ) → m < nodes → m < block * 64 → Marked table (state i m) → ⊥)
      → (m : ℕ) → m < nodes → m < (block + 1) * 64 → Marked table (state i m) → ⊥
  none_before z n m h k = go (dec_lt m (block * 64))
    where
      go : Dec (m < block * 64) → Marked table (state i m) → ⊥
      go (yes x) e = n m h x e
      go (no x) e = none_here z m (omega arith) h e
