-- What is said of the heads of all rules, by their parts. Assumes nothing.
use Rattle.std.specs.Prelude.{ℕ, List}
use Rattle.core_graph.specs.declared.heads.RuleHeads.{RuleHeads}

abbrev pub ForHeads : {A : Type 1} → RuleHeads → (List (List ℕ) → ℕ → List ℕ → List ℕ → A) → A
ForHeads h F = F h.rules.now h.count h.keys.now h.counts.now
