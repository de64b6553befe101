-- The loop over all rules' keys: each rule's stand in its own part of a slice. Assumes nothing.
use Rattle.names.specs.PackGiven.{ForResolved, IsResolved}
use Rattle.std.specs.Prelude.{Ok, Err}
use Rattle.std.proofs.Common.{◌≡◌, ℕ, ◌+◌, ◌-◌, ◌*◌, ◌<◌, ◌≤◌, List, ◌++◌, length, get_or, take, drop, set, sym, refl, ◌∙◌, subst, zero-le, arith, length-drop, length-set, length-take, get_or-set_other, get_or-set_same}
use native.Mathlib.Decide.{ℕ_discrete}
use Rattle.core_graph.specs.Heads.{keys_of}
use Rattle.matching.specs.Rule.{ListedOrOver}
use Rattle.sets.specs.declared.ordered.Full.{Full}
use Rattle.meaning.proofs.Lists.Places.{inside, there_is}
use Rattle.meaning.specs.Limits.{heads_length, max_heads, max_rules, row_width, rule_width, rules_at}
use Rattle.meaning.specs.NoGraph.{TooLarge}
use Rattle.meaning.specs.Ordered.{ListOf, Over as OverSet}
use Rattle.meaning.specs.Pack.{Pack, Rule}
use Rattle.names.proofs.Rule.{rules_many}
use Rattle.rule_heads.specs.Answer.{FoundOr}
use Rattle.rule_heads.specs.RuleOf.{ForRuleOf, IsRuleOf, RuleKey, RuleOf}
use Rattle.rule_heads.proofs.HeldRule.{rule_of}
use Rattle.rule_heads.proofs.TooManyHeads.{too_large}
use Rattle.meaning.proofs.Lists.Overwriting.{kept_front, part_replaced, put_there}

-- some rule stands there
pub is_rule_of : {counts numbers rows : List ℕ} → IsResolved counts numbers rows → (i : ℕ) → i < get_or counts 7 0
    → IsRuleOf numbers (rules_at + i * rule_width) (take (get_or counts 8 0 * row_width) rows)
is_rule_of g i h =
    let q = there_is g.pack.setting.rules i (omega (arith, h, rules_many g.is.given.setting)) in
    record { pack = g.pack; rule = q.0; given = rule_of g.is i q.0 q.1 }

-- the keys of the first r rules are listed
pub record Collecting (numbers rows : List ℕ) (count : ℕ) (heads₀ : List ℕ) (r : ℕ) (heads counts : List ℕ) : Type 0 where
  pub within : r ≤ count
  pub long : length heads ≡ length heads₀
  pub all : length counts ≡ max_rules
  pub short : (i : ℕ) → i < r → get_or counts i 0 ≤ max_heads
  pub keys : (i : ℕ) → i < r → ForRuleOf numbers (rules_at + i * rule_width) rows (λ P rule. ListOf ◌<◌ (RuleKey P rule) (keys_of heads counts i))

pub collecting_start : (numbers rows : List ℕ) (count : ℕ) (heads counts : List ℕ) → length counts ≡ max_rules → Collecting numbers rows count heads 0 heads counts
collecting_start numbers rows count heads counts e = record {
  within = zero-le;
  long = refl;
  all = e;
  short = λ i h. absurd (omega (arith, h));
  keys = λ i h. absurd (omega (arith, h));
}

module _ {numbers rows : List ℕ} {count : ℕ} {heads₀ : List ℕ} {r : ℕ} {heads counts : List ℕ} (p : Collecting numbers rows count heads₀ r heads counts) where
  -- rule r's part
  abbrev part : List ℕ
  part = take (r * max_heads + max_heads - r * max_heads) (drop (r * max_heads) heads)

  abbrev behind : List ℕ
  behind = drop (r * max_heads + max_heads - r * max_heads) (drop (r * max_heads) heads)

  module _ (h : r < count) (few : count ≤ max_rules) (room : heads_length ≤ length heads₀) where
    k_is : r * max_heads + max_heads - r * max_heads ≡ max_heads
    k_is = omega arith

    part_length : length part ≡ max_heads
    part_length = rw k_is (omega (arith, h, few, room, p.long, length-take max_heads (drop (r * max_heads) heads), length-drop (r * max_heads) heads))

    module _ (ys : List ℕ) (l : length ys ≡ length part) where
      -- too many
      pub collecting_over : {full : Full} → ForRuleOf numbers (rules_at + r * rule_width) rows (λ P rule. ListedOrOver (Err full) ys (RuleKey P rule))
          → ForRuleOf numbers (rules_at + r * rule_width) rows (λ P rule. TooLarge P)
      collecting_over a P rule g =
          let e : length ys ≡ max_heads = l ∙ part_length in
          too_large P rule g.listed (subst (λ (m : ℕ). OverSet m (RuleKey P rule)) e (a P rule g))

      pub long_is : length (take (r * max_heads) heads ++ (ys ++ behind)) ≡ length heads
      long_is = part_replaced (r * max_heads) (r * max_heads + max_heads - r * max_heads) heads ys l

      module _ (v : IsRuleOf numbers (rules_at + r * rule_width) rows) (n : ℕ)
          (a : ForRuleOf numbers (rules_at + r * rule_width) rows (λ P rule. ListedOrOver (Ok n) ys (RuleKey P rule))) where
        counted_small : n ≤ max_heads
        counted_small = omega (arith, (a v.pack v.rule v.given).0, l, part_length)

        pub collecting_on : Collecting numbers rows count heads₀ (r + 1) (take (r * max_heads) heads ++ (ys ++ behind)) (set counts r n)
        collecting_on = record {
          within = omega arith;
          long = long_is ∙ p.long;
          all = length-set counts r n ∙ p.all;
          short = λ i m. short_at i m (ℕ_discrete i r);
          keys = λ i m P rule e. keys_at i m P rule e (ℕ_discrete i r);
        }
          where
            same : get_or (set counts r n) r 0 ≡ n
            same = get_or-set_same counts r n 0 (omega (arith, h, few, p.all))

            short_at : (i : ℕ) → i < r + 1 → Dec (i ≡ r) → get_or (set counts r n) i 0 ≤ max_heads
            short_at i m (yes f) = rw (f, same) counted_small
            short_at i m (no d) = rw (get_or-set_other counts r i n 0 d) (p.short i (omega (arith, m, d)))

            keys_at : (i : ℕ) → i < r + 1 → (P : Pack) (rule : Rule) → RuleOf P rule numbers (rules_at + i * rule_width) rows → Dec (i ≡ r)
                → ListOf ◌<◌ (RuleKey P rule) (keys_of (take (r * max_heads) heads ++ (ys ++ behind)) (set counts r n) i)
            keys_at i m P rule e (yes f) =
                rw (f, same, put_there n (r * max_heads) heads ys behind (omega (arith, h, few, room, p.long)) (omega (arith, counted_small, l, part_length)))
                (a P rule (subst (λ (j : ℕ). RuleOf P rule numbers (rules_at + j * rule_width) rows) f e)).1
            keys_at i m P rule e (no d) =
                rw (
                  get_or-set_other counts r i n 0 d,
                  kept_front (i * max_heads) (get_or counts i 0) (r * max_heads) heads (ys ++ behind) (omega (arith, m, d, p.short i (omega (arith, m, d)))) (omega (arith, h, few, room, p.long)),
                )
                (p.keys i (omega (arith, m, d)) P rule e)

-- ---- of the pack

module _ {counts numbers rows : List ℕ} {count : ℕ} (k : get_or counts 7 0 ≡ count) where
  pub over : {r : ℕ} → r < count → ForRuleOf numbers (rules_at + r * rule_width) (take (get_or counts 8 0 * row_width) rows) (λ P rule. TooLarge P)
      → ForResolved counts numbers rows (λ P. TooLarge P)
  over {r} h a P g =
      let q = there_is P.setting.rules r (omega (arith, h, k, rules_many g.given.setting)) in
      a P q.0 (rule_of g r q.0 q.1)

  pub collecting_done : {heads₀ : List ℕ} {r : ℕ} {heads each : List ℕ} → Collecting numbers (take (get_or counts 8 0 * row_width) rows) count heads₀ r heads each
      → count ≤ max_rules → count ≤ r
      → ForResolved counts numbers rows (λ P. FoundOr (Ok (record { count = count; counts = each })) P heads)
  collecting_done p few h P g =
      let m = rules_many g.given.setting in
      record {
        few = few;
        short = λ i l. p.short i (omega (arith, l, h));
        held = λ rules t. record {
          many = sym k ∙ m;
          numbers = t.numbers;
          keys = λ i rule e. p.keys i (omega (arith, h, k, m, inside P.setting.rules i rule e)) P rule (rule_of g i rule e);
        };
      }
