-- The numbers of states at named nodes, and of the words in which they stand. Assumes nothing.
use mathlib.Core.Logic.{◌↔◌}
use mathlib.Core.Path.{ap, refl, subst, sym, ◌∙◌, ◌≡◌}
use native.Mathlib.Omega.{arith}
use Prim.Native.Nat.{ℕ, ◌%◌, ◌*◌, ◌+◌, ◌/◌, ◌<◌, ◌≤◌}
use Rattle.meaning.specs.Limits.{max_core_nodes, max_parts, named_words, seen_words}
use Rattle.meaning.specs.TypeSet.{bit}
use Rattle.forward.specs.Seen.{seen_node, seen_part, seen_state, seen_word}
use Rattle.worklist.specs.Table.{FromWord, InWord}

pub seen_part_lem : (i n s : ℕ) → n < max_core_nodes → s ≡ seen_state i n → seen_part s ≡ i
unfolding seen_part seen_state
seen_part_lem i n s l e = omega arith

pub seen_node_lem : (i n s : ℕ) → n < max_core_nodes → s ≡ seen_state i n → seen_node s ≡ n
unfolding seen_node seen_state
seen_node_lem i n s l e = omega arith

-- its part and its node make a state
pub seen_is : (s : ℕ) → s ≡ seen_state (seen_part s) (seen_node s)
unfolding seen_node seen_part seen_state
seen_is s = omega arith

pub seen_inside : (i n : ℕ) → i ≤ max_parts → n < max_core_nodes → seen_state i n < seen_words * 64
unfolding seen_state
seen_inside i n l h = omega arith

pub part_below : (s p : ℕ) → seen_part s ≤ p → s < (p + 1) * max_core_nodes
unfolding seen_part
part_below s p l = omega arith

-- what code computes
pub seen_number : (i n : ℕ) → i * max_core_nodes + n ≡ seen_state i n
unfolding seen_state
seen_number i n = refl

pub word_number : (i b : ℕ) → i * named_words + b ≡ seen_word i b
unfolding seen_word
word_number i b = refl

-- ---- words

pub word_parts : (w : ℕ) → w ≡ seen_word (w / named_words) (w % named_words)
unfolding seen_word
word_parts w = omega arith

-- a node of a block, as a state of its part
pub node_word : (i b bits n : ℕ) → b < named_words → InWord b bits n → InWord (seen_word i b) bits (seen_state i n)
unfolding seen_state seen_word
node_word i b bits n l h =
    let w = h.word in
    let e : (i * max_core_nodes + n) % 64 ≡ n % 64 = omega arith in
    record { word = omega arith; is = ap (λ t. bit t bits) e ∙ h.is }

-- the states of a word
module _ (i b bits s : ℕ) (l : b < named_words) (x : InWord (seen_word i b) bits s) where
  pub word_part : seen_part s ≡ i
  unfolding seen_part seen_word
  word_part = let w = x.word in omega arith

  in_block : seen_node s / 64 ≡ b
  unfolding seen_node seen_word
  in_block = let w = x.word in omega arith

  same_bit : seen_node s % 64 ≡ s % 64
  unfolding seen_node
  same_bit = omega arith

  pub word_node : InWord b bits (seen_node s)
  word_node = record { word = in_block; is = ap (λ t. bit t bits) same_bit ∙ x.is }

  pub word_state : s ≡ seen_state i (seen_node s)
  word_state = seen_is s ∙ ap (λ p. seen_state p (seen_node s)) word_part

pub block_small : (b bits n : ℕ) → b < named_words → InWord b bits n → n < max_core_nodes
block_small b bits n l h = let w = h.word in omega arith

-- The states of a word are its part at the nodes of its block.
pub word_states : (i b bits y : ℕ) → b < named_words → InWord (seen_word i b) bits y ↔ FromWord b bits (λ n z. z ≡ seen_state i n) y
word_states i b bits y l = (
  λ x. record { from = seen_node y; is = word_node i b bits y l x; leads = word_state i b bits y l x },
  λ f. subst (InWord (seen_word i b) bits) (sym f.leads) (node_word i b bits f.from l f.is),
)

-- the word of a state, as code finds it
pub mark_room : (i n : ℕ) → i ≤ max_parts → n < max_core_nodes → (i * max_core_nodes + n) / 64 < seen_words
mark_room i n l h = omega arith

pub word_room : (i b : ℕ) → i ≤ max_parts → b < named_words → i * named_words + b < seen_words
word_room i b l h = omega arith
