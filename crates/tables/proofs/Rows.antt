-- Arities and heads, as the numbers say. Assumes nothing.
use Rattle.std.specs.Prelude.{◌≡◌, ℕ, ◌+◌, ◌*◌, ◌<◌, ◌≤◌, List, [], length, get_or, take, drop}
use lib.ListN.{get_elem?}
use mathlib.Core.Option.{some}
use mathlib.Core.Path.{refl, ◌∙◌}
use native.Mathlib.Omega.{arith}
use Rattle.meaning.proofs.Lists.Members.{element}
use Rattle.meaning.proofs.Lists.Places.{inside, there_is}
use Rattle.meaning.specs.Limits.{constructor_width, constructors_at, head_width, max_arguments, max_constructors, max_rules, rule_width, rules_at}
use Rattle.meaning.specs.Pack.{Constructor, Pack}
use Rattle.names.specs.PackGiven.{SettingGiven}
use Rattle.names.proofs.Counted.{count_at_lem, held_at}
use Rattle.names.proofs.RuleNumbers.{head_at, head_from}
use Rattle.meaning.proofs.Lists.Parts.{first_is_at}
use Rattle.names.proofs.Rule.{rule_at, rules_many}
use Rattle.node_list.specs.Records.{Arities}
use Rattle.tables.specs.Tables.{HeadTable}
use Rattle.meaning.proofs.Lists.Filling.{Put}

module _ {P : Pack} {counts numbers : List ℕ} (g : SettingGiven P counts numbers) where
  -- ---- constructors

  pub constructors_many : get_or counts 6 0 ≡ length P.setting.constructors
  constructors_many = count_at_lem g 6 (omega arith)

  arity_at : (i : ℕ) (k : Constructor) → get_elem? P.setting.constructors i ≡ some k → get_or numbers (constructors_at + i * constructor_width) 0 ≡ k.arity
  arity_at i k e = first_is_at numbers _ (constructors_at + i * constructor_width) constructor_width refl (omega arith) ∙ held_at g.bare.arities i k e

  pub arity_small : (i : ℕ) → i < get_or counts 6 0 → get_or numbers (constructors_at + i * constructor_width) 0 ≤ max_arguments
  arity_small i h =
      let q = there_is P.setting.constructors i (omega (arith, h, constructors_many)) in
      omega (arith, arity_at i q.0 q.1, (g.bounds.arguments q.0 (element P.setting.constructors i q.0 q.1)).1)

  pub arities_done : {n : ℕ} {table : List ℕ} → Put (λ i. get_or numbers (constructors_at + i * constructor_width) 0) 0 max_constructors n table → get_or counts 6 0 ≤ n → Arities P table
  arities_done p h = record { are = λ i k e. p.each i (omega (arith, h, constructors_many, inside P.setting.constructors i k e)) ∙ arity_at i k e }

  -- ---- rules

  pub heads_done : {n : ℕ} {table : List (List ℕ)} → Put (λ i. take head_width (drop (rules_at + i * rule_width + head_from) numbers)) [] max_rules n table
      → get_or counts 7 0 ≤ n → HeadTable P table
  heads_done p h = record {
    numbers = λ i r e. p.each i (omega (arith, h, rules_many g, inside P.setting.rules i r e)) ∙ (head_at (rule_at g i r e)).are;
  }
