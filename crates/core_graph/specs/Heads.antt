-- The rules' heads as code holds them: six numbers a head, and for each rule the keys of its matches. Assumes nothing.
use Rattle.std.specs.Prelude.{◌≡◌, ℕ, ◌*◌, ◌<◌, List, [], length, take, drop, slice_index, slice_index_or}
use Rattle.std.proofs.Math.ListN.{get_elem?}
use Rattle.std.proofs.Math.Option.{some}
use Rattle.matching.specs.Rule.{HeadKey}
use Rattle.meaning.specs.Limits.{max_heads}
use Rattle.meaning.specs.Ordered.{ListOf}
use Rattle.meaning.specs.Pack.{Pack, Rule}
use Rattle.meaning.specs.Tables.{head_arguments, head_numbers}

-- ---- a head as six numbers (`head_numbers`)

module _ (head : List ℕ) where
  abbrev pub kind_number : ℕ
  kind_number = slice_index head 0

  abbrev pub subject_constructor : ℕ
  subject_constructor = slice_index head 1

  abbrev pub subject_arguments : ℕ
  subject_arguments = slice_index head 2

  abbrev pub named_number : ℕ
  named_number = slice_index head 3

  abbrev pub object_constructor : ℕ
  object_constructor = slice_index head 4

  abbrev pub object_arguments : ℕ
  object_arguments = slice_index head 5

-- ---- all rules

-- rule r's keys, the first of its part of the slice
abbrev pub keys_of : List ℕ → List ℕ → ℕ → List ℕ
keys_of heads counts r = take (slice_index counts r) (drop (r * max_heads) heads)

pub record HeadsHeld (P : Pack) (rules : List (List ℕ)) (count : ℕ) (heads counts : List ℕ) : Type 0 where
  pub many : count ≡ length P.setting.rules
  pub numbers : (r : ℕ) (rule : Rule) → get_elem? P.setting.rules r ≡ some rule → slice_index_or rules r [] ≡ head_numbers rule.head
  pub keys : (r : ℕ) (rule : Rule) → get_elem? P.setting.rules r ≡ some rule → ListOf ◌<◌ (HeadKey P.rows rule.atoms (head_arguments rule.head)) (keys_of heads counts r)
