-- A rule's numbers, and whether it is good. Assumes nothing.
use lib.ListN.{get_or, get_elem?, length}
use lib.Seq.{slice}
use mathlib.Core.Bool.{true, false}
use mathlib.Core.List.{List}
use mathlib.Core.Option.{some}
use mathlib.Core.Path.{◌≡◌}
use native.Mathlib.Omega.{arith}
use Prim.Native.Nat.{ℕ, ◌+◌, ◌*◌, ◌≤◌, ◌<◌}
use Rattle.meaning.specs.Limits.{max_rules, rule_width, rules_at}
use Rattle.meaning.specs.Pack.{Pack, Rule}
use Rattle.meaning.specs.Tests.{every}
use Rattle.meaning.specs.WellFormed.{good_atom, good_rule, in_atoms}
use Rattle.meaning.proofs.Lists.Members.{element}
use Rattle.meaning.proofs.Lists.Places.{inside, there_is}
use Rattle.names.specs.PackGiven.{SettingGiven}
use Rattle.names.specs.Rule.{IsRule, RuleAt, head_named}
use Rattle.names.proofs.Counted.{count_at_lem, held_at}
use Rattle.names.proofs.Heads.{head_good}
use Rattle.names.proofs.RuleNumbers.{count_at, variables_are, variables_at}

module _ (P : Pack) (r : Rule) where
  pub atoms_bad : every (good_atom P) r.atoms ≡ false → false ≡ good_rule P r
  atoms_bad e = rw e

  module _ (e : every (good_atom P) r.atoms ≡ true) where
    pub head_bad : head_named P r.head ≡ false → false ≡ good_rule P r
    head_bad n = rw (e, ← head_good P r.atoms r.head, n)

    pub rule_good : {numbers : List ℕ} {at : ℕ} → RuleAt r numbers at → head_named P r.head ≡ true
        → in_atoms r.atoms (slice (at + variables_at) (at + variables_at + get_or numbers (at + count_at) 0) numbers) ≡ good_rule P r
    rule_good a n = rw (e, ← head_good P r.atoms r.head, n, variables_are a)

module _ {P : Pack} {counts numbers : List ℕ} (g : SettingGiven P counts numbers) where
  pub rules_many : get_or counts 7 0 ≡ length P.setting.rules
  rules_many = count_at_lem g 7 (omega arith)

  pub rules_few : get_or counts 7 0 ≤ max_rules
  rules_few = omega (arith, rules_many, g.bounds.rules)

  pub rule_at : (i : ℕ) (r : Rule) → get_elem? P.setting.rules i ≡ some r → RuleAt r numbers (rules_at + i * rule_width)
  rule_at i r e = record {
    are = held_at g.bare.rules i r e;
    bounds = g.bounds.rule r (element P.setting.rules i r e);
    room = omega (arith, inside P.setting.rules i r e, g.bounds.rules, g.long);
  }

  pub is_rule : (i : ℕ) → i < get_or counts 7 0 → IsRule numbers (rules_at + i * rule_width)
  is_rule i h = let q = there_is P.setting.rules i (omega (arith, rules_many)) in record { rule = q.0; given = rule_at i q.0 q.1 }
