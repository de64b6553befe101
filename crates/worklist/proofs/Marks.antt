-- A state put into a table, taken out of it, and looked up. Assumes nothing.
use lib.Bits.{bit_or}
use lib.Count.{count_trailing_zeros}
use lib.ListN.{get_or, length, set}
use lib.Seq.{get_or-set_other, get_or-set_same}
use mathlib.Core.List.{List}
use mathlib.Core.Logic.{◌↔◌, ◌≢◌}
use mathlib.Core.Path.{ap, refl, subst, sym, ◌∙◌, ◌≡◌}
use native.Mathlib.Decide.{ℕ_discrete}
use native.Mathlib.Omega.{arith}
use Prim.Native.Nat.{max, ℕ, ◌%◌, ◌*◌, ◌+◌, ◌/◌, ◌<◌, ◌^◌}
use Rattle.meaning.proofs.Lists.Bits.{bit_lt, bit_one, bit_or_lem, bit_other, bit_shift, zero_bits}
use Rattle.meaning.specs.TypeSet.{bit}
use Rattle.meaning.proofs.Lists.Lowest.{Lowest, cleared, lowest}
use Rattle.meaning.proofs.Lists.Masks.{bit_small}
use Rattle.worklist.specs.Table.{InWord, mark}

pub mark_lt : (table : List ℕ) (x : ℕ) → mark table x < 2
unfolding mark
mark_lt table x = bit_lt (x % 64) (get_or table (x / 64) 0)

-- A state that is not in the table, and one that is.
pub mark_zero : (table : List ℕ) (x : ℕ) → (mark table x ≡ 1 → ⊥) → mark table x ≡ 0
mark_zero table x h = go (ℕ_discrete (mark table x) 1)
  where
    go : Dec (mark table x ≡ 1) → mark table x ≡ 0
    go (yes e) = absurd (h e)
    go (no n) = let z = mark_lt table x in omega arith

-- What code reads.
pub mark_read : (table : List ℕ) (x : ℕ) → get_or table (x / 64) 0 / 2 ^ (x % 64) % 2 ≡ mark table x
unfolding mark
mark_read table x = sym (bit_shift (x % 64) (get_or table (x / 64) 0))

-- A word without states has none.
pub zero_word : (table : List ℕ) (x : ℕ) → get_or table (x / 64) 0 ≡ 0 → mark table x ≡ 0
unfolding mark
zero_word table x e = ap (bit (x % 64)) e ∙ zero_bits (x % 64)

pub marked_word : (table : List ℕ) (x : ℕ) → mark table x ≡ 1 → 0 < get_or table (x / 64) 0
marked_word table x e = go (ℕ_discrete (get_or table (x / 64) 0) 0)
  where
    go : Dec (get_or table (x / 64) 0 ≡ 0) → 0 < get_or table (x / 64) 0
    go (yes z) = let y = zero_word table x z in absurd (omega arith)
    go (no z) = omega arith

-- The same word, the same states.
pub same_word : (table table' : List ℕ) (x : ℕ) → get_or table' (x / 64) 0 ≡ get_or table (x / 64) 0 → mark table' x ≡ mark table x
unfolding mark
same_word table table' x e = ap (bit (x % 64)) e

pub in_word : (w bits x : ℕ) → Dec (InWord w bits x)
in_word w bits x = go (ℕ_discrete (x / 64) w) (ℕ_discrete (bit (x % 64) bits) 1)
  where
    go : Dec (x / 64 ≡ w) → Dec (bit (x % 64) bits ≡ 1) → Dec (InWord w bits x)
    go (yes p) (yes q) = yes (record { word = p; is = q })
    go (yes p) (no q) = no (λ h. q h.is)
    go (no p) q = no (λ h. p h.word)

-- One state.
pub one_in : (s x : ℕ) → InWord (s / 64) (2 ^ (s % 64)) x ↔ (x ≡ s)
one_in s x = (λ h. go h (ℕ_discrete (x % 64) (s % 64)), λ e. subst (InWord (s / 64) (2 ^ (s % 64))) (sym e) (record { word = refl; is = bit_one (s % 64) }))
  where
    go : InWord (s / 64) (2 ^ (s % 64)) x → Dec (x % 64 ≡ s % 64) → x ≡ s
    go h (yes p) = let q = h.word in omega arith
    go h (no p) = absurd (let z = bit_other (x % 64) (s % 64) p in let y = h.is in omega arith)

-- ---- the table with states of the word w

abbrev pub joined : List ℕ → ℕ → ℕ → List ℕ
joined table w bits = set table w (bit_or (get_or table w 0) bits)

module _ (table : List ℕ) (w bits : ℕ) (l : w < length table) where
  pub joined_word : get_or (joined table w bits) w 0 ≡ bit_or (get_or table w 0) bits
  joined_word = get_or-set_same table w _ 0 l

  at_word : (x : ℕ) → x / 64 ≡ w → mark (joined table w bits) x ≡ max (mark table x) (bit (x % 64) bits)
  unfolding mark
  at_word x e =
      ap (λ v. bit (x % 64) (get_or (joined table w bits) v 0)) e ∙ ap (bit (x % 64)) joined_word ∙ bit_or_lem (x % 64) (get_or table w 0) bits
      ∙ ap (λ v. max (bit (x % 64) (get_or table v 0)) (bit (x % 64) bits)) (sym e)

  pub joined_in : (x : ℕ) → InWord w bits x → mark (joined table w bits) x ≡ 1
  joined_in x h = at_word x h.word ∙ (let a = h.is in let b = mark_lt table x in omega arith)

  pub joined_other : (x : ℕ) → (InWord w bits x → ⊥) → mark (joined table w bits) x ≡ mark table x
  joined_other x n = go (ℕ_discrete (x / 64) w)
    where
      go : Dec (x / 64 ≡ w) → mark (joined table w bits) x ≡ mark table x
      go (yes e) =
          let a = at_word x e in
          let b = bit_lt (x % 64) bits in
          let c : bit (x % 64) bits ≢ 1 = λ q. n (record { word = e; is = q }) in
          omega arith
      go (no e) = same_word table (joined table w bits) x (get_or-set_other table w (x / 64) _ 0 e)

  pub joined_more : (x : ℕ) → mark table x ≡ 1 → mark (joined table w bits) x ≡ 1
  joined_more x h = go (in_word w bits x)
    where
      go : Dec (InWord w bits x) → mark (joined table w bits) x ≡ 1
      go (yes e) = joined_in x e
      go (no e) = joined_other x e ∙ h

-- The word's own bit.
pub mark_bit : (table : List ℕ) (x w : ℕ) → x / 64 ≡ w → bit (x % 64) (get_or table w 0) ≡ mark table x
unfolding mark
mark_bit table x w e = ap (λ v. bit (x % 64) (get_or table v 0)) (sym e)

-- ---- the table without the first state of the word w

abbrev pub first_in : List ℕ → ℕ → ℕ
first_in table w = w * 64 + count_trailing_zeros 64 (get_or table w 0)

abbrev pub cut : List ℕ → ℕ → List ℕ
cut table w = set table w (cleared (get_or table w 0))

module _ (table : List ℕ) (w : ℕ) (l : w < length table) (some : 0 < get_or table w 0) (fits : get_or table w 0 < 2 ^ 64) where
  low : Lowest (get_or table w 0) (count_trailing_zeros 64 (get_or table w 0))
  low = lowest 64 (get_or table w 0) some fits

  pub low_small : count_trailing_zeros 64 (get_or table w 0) < 64
  low_small = bit_small 64 (count_trailing_zeros 64 (get_or table w 0)) (get_or table w 0) low.member fits

  in_w : first_in table w / 64 ≡ w
  in_w = let z = low_small in omega arith

  at_w : first_in table w % 64 ≡ count_trailing_zeros 64 (get_or table w 0)
  at_w = let z = low_small in omega arith

  cut_word : get_or (cut table w) w 0 ≡ cleared (get_or table w 0)
  cut_word = get_or-set_same table w _ 0 l

  pub first_in_lem : mark table (first_in table w) ≡ 1
  unfolding mark
  first_in_lem = ap (λ t. bit t (get_or table (first_in table w / 64) 0)) at_w ∙ ap (λ v. bit (count_trailing_zeros 64 (get_or table w 0)) (get_or table v 0)) in_w ∙ low.member

  pub first_word : InWord w (get_or table w 0) (first_in table w)
  first_word = record { word = in_w; is = ap (λ t. bit t (get_or table w 0)) at_w ∙ low.member }

  pub cut_out : mark (cut table w) (first_in table w) ≡ 0
  unfolding mark
  cut_out = ap (λ t. bit t (get_or (cut table w) (first_in table w / 64) 0)) at_w ∙ ap (λ v. bit (count_trailing_zeros 64 (get_or table w 0)) (get_or (cut table w) v 0)) in_w
      ∙ ap (bit (count_trailing_zeros 64 (get_or table w 0))) cut_word ∙ low.gone

  pub cut_other : (x : ℕ) → x ≢ first_in table w → mark (cut table w) x ≡ mark table x
  unfolding mark
  cut_other x n = go (ℕ_discrete (x / 64) w)
    where
      beside : x / 64 ≡ w → mark (cut table w) x ≡ mark table x
      beside e =
          let d : x % 64 ≢ count_trailing_zeros 64 (get_or table w 0) = λ q. n (omega arith) in
          ap (λ v. bit (x % 64) (get_or (cut table w) v 0)) e ∙ ap (bit (x % 64)) cut_word ∙ low.others (x % 64) d ∙ ap (λ v. bit (x % 64) (get_or table v 0)) (sym e)

      go : Dec (x / 64 ≡ w) → mark (cut table w) x ≡ mark table x
      go (yes e) = beside e
      go (no e) = same_word table (cut table w) x (get_or-set_other table w (x / 64) _ 0 e)
