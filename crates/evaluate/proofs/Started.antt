-- What a call has before the walk: tables that are cleared. Assumes nothing.
use Rattle.std.proofs.Common.{◌≡◌, ℕ, ◌*◌, ◌/◌, ◌<◌, ◌≤◌, List, length, get_or, ap, ◌∙◌, arith}
use lib.ListN.{get_or-replicate, length-replicate}
use Rattle.meaning.specs.Limits.{seen_words, state_words}
use Rattle.sets.specs.Buffers.{zeros}
use Rattle.worklist.proofs.Growth.{zeros_unmarked}
use Rattle.worklist.proofs.Marks.{zero_word}
use Rattle.worklist.specs.Table.{Unmarked, mark}

length_zeros : {table : List ℕ} (before : List ℕ) → table ≡ zeros (length before) → length table ≡ length before
length_zeros {table} before e = ap length e ∙ length-replicate (length before) 0

-- in cleared tables nothing is marked and nothing waits
pub cleared : {alive waiting stack : List ℕ} (before before' : List ℕ) → alive ≡ zeros (length before) → waiting ≡ zeros (length before')
    → state_words ≤ length before → state_words ≤ length before' → state_words ≤ length stack → Unmarked state_words alive waiting stack
cleared {alive} {waiting} before before' e f a b c =
    zeros_unmarked (length before) (length before') e f (omega arith) a b (omega (arith, length_zeros before e)) (omega (arith, length_zeros before' f)) c

-- and nothing is seen
pub unseen : {seen : List ℕ} (before : List ℕ) → seen ≡ zeros (length before) → seen_words ≤ length before → (x : ℕ) → x < seen_words * 64 → mark seen x ≡ 0
unseen {seen} before e l x h = zero_word seen x (ap (λ t. get_or t (x / 64) 0) e ∙ get_or-replicate (length before) (x / 64) 0 0 (omega arith))
