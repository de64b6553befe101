-- Decisions of equality, which compute. Assumes nothing.
use mathlib.Core.Bool.{Bool-discrete}
use mathlib.Core.Path.{◌≡◌, ap}
use native.Mathlib.Decide.{ℕ_discrete}
use Rattle.meaning.proofs.Lists.Members.{same_list}
use Rattle.meaning.specs.Built.{BuiltNode, BuiltNode-discrete}
use Rattle.meaning.specs.Core.{Node, Node-discrete}
use Rattle.meaning.specs.Pack.{Target, Target-discrete, Text}
use Rattle.meaning.specs.TypeSet.{TypeSet}

unfoldable pub same_text : Discrete Text
unfolding same_list ℕ_discrete
same_text = same_list ℕ_discrete

unfoldable pub same_target : Discrete Target
unfolding ℕ_discrete
same_target = Target-discrete ℕ_discrete

unfoldable pub same_node : Discrete Node
unfolding same_text ℕ_discrete
same_node = Node-discrete ℕ_discrete same_text

unfoldable pub same_set : Discrete TypeSet
unfolding ℕ_discrete
same_set X Y = go (Bool-discrete X.literal Y.literal) (ℕ_discrete X.mask Y.mask)
  where
    go : Dec (X.literal ≡ Y.literal) → Dec (X.mask ≡ Y.mask) → Dec (X ≡ Y)
    go (yes l) (yes m) = yes (λ i. record { literal = l i; mask = m i })
    go (yes l) (no n) = no (λ e. n (ap (λ (Z : TypeSet). Z.mask) e))
    go (no n) m = no (λ e. n (ap (λ (Z : TypeSet). Z.literal) e))

unfoldable pub same_built : Discrete BuiltNode
unfolding same_node same_set
same_built = BuiltNode-discrete same_node same_set
