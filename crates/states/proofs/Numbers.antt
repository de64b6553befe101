-- The numbers of states, and of the words in which they stand. Assumes nothing.
use lib.ListN.{get_or}
use mathlib.Core.List.{List}
use mathlib.Core.Path.{ap, refl, sym, ◌∙◌, ◌≡◌}
use native.Mathlib.Omega.{arith}
use Prim.Native.Nat.{ℕ, ◌%◌, ◌*◌, ◌+◌, ◌/◌, ◌<◌, ◌≤◌}
use Rattle.meaning.specs.Limits.{max_nodes, max_parts, node_words, state_words}
use Rattle.meaning.specs.TypeSet.{bit}
use Rattle.states.specs.State.{node_at, part_at, state, word_at}
use Rattle.worklist.specs.Table.{InWord, mark}

pub state_part : (i n s : ℕ) → n < max_nodes → s ≡ state i n → part_at s ≡ i
unfolding part_at state
state_part i n s l e = omega arith

pub state_node : (i n s : ℕ) → n < max_nodes → s ≡ state i n → node_at s ≡ n
unfolding node_at state
state_node i n s l e = omega arith

-- its part and its node make a state
pub state_is : (s : ℕ) → s ≡ state (part_at s) (node_at s)
unfolding node_at part_at state
state_is s = omega arith

pub state_inside : (i n : ℕ) → i ≤ max_parts → n < max_nodes → state i n < state_words * 64
unfolding state
state_inside i n l h = omega arith

pub node_inside : (s : ℕ) → node_at s < max_nodes
unfolding node_at
node_inside s = omega arith

-- ---- words

-- the word of a state: its part's, at the block of its node
pub state_word : (i n : ℕ) → n < max_nodes → state i n / 64 ≡ word_at i (n / 64)
unfolding state word_at
state_word i n l = omega arith

pub state_bit : (i n : ℕ) → state i n % 64 ≡ n % 64
unfolding state
state_bit i n = omega arith

-- a state is among the bits of its part's word exactly if its node is among those of the block
pub word_state : (i b bits n : ℕ) → n < max_nodes → InWord b bits n → InWord (word_at i b) bits (state i n)
word_state i b bits n l h = record {
  word = state_word i n l ∙ ap (word_at i) h.word;
  is = ap (λ t. bit t bits) (state_bit i n) ∙ h.is;
}

-- the states of a word
module _ (i b bits s : ℕ) (h : b < node_words) (x : InWord (word_at i b) bits s) where
  pub in_part : part_at s ≡ i
  unfolding part_at word_at
  in_part = let w = x.word in omega arith

  in_block : node_at s / 64 ≡ b
  unfolding node_at word_at
  in_block = let w = x.word in omega arith

  same_bit : node_at s % 64 ≡ s % 64
  unfolding node_at
  same_bit = omega arith

  pub in_node : InWord b bits (node_at s)
  in_node = record { word = in_block; is = ap (λ t. bit t bits) same_bit ∙ x.is }

-- the part and the block of a word
pub word_part : (w : ℕ) → w < state_words → w / node_words ≤ max_parts
word_part w l = omega arith

pub word_is : (w : ℕ) → w ≡ word_at (w / node_words) (w % node_words)
unfolding word_at
word_is w = omega arith

-- what a word says of a state of its part
pub word_mark : (table : List ℕ) (j m : ℕ) → m < max_nodes → bit (m % 64) (get_or table (word_at j (m / 64)) 0) ≡ mark table (state j m)
unfolding mark
word_mark table j m l = ap (λ t. bit t (get_or table (word_at j (m / 64)) 0)) (sym (state_bit j m)) ∙ ap (λ w. bit (state j m % 64) (get_or table w 0)) (sym (state_word j m l))

-- what code reads
pub word_index : (table : List ℕ) (j b : ℕ) → get_or table (j * node_words + b) 0 ≡ get_or table (word_at j b) 0
unfolding word_at
word_index table j b = refl
