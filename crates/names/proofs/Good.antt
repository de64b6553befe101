-- What a false refusal 7 says of atoms and rows: each has as many columns as its relation. Assumes nothing.
use lib.Dec.{T, eqb, eqb→eq}
use lib.ListN.{get_elem?, length}
use mathlib.Core.Bool.{Bool, true, false, not, ◌&&◌}
use mathlib.Core.List.{List}
use mathlib.Core.Option.{Option, none, some}
use mathlib.Core.Path.{◌≡◌, sym, subst, ◌∙◌}
use Prim.Native.Nat.{ℕ}
use Rattle.meaning.proofs.Lists.Members.{both, every_at}
use Rattle.meaning.specs.Member.{◌∈◌}
use Rattle.meaning.specs.Pack.{Atom, Pack, Row, Rule}
use Rattle.meaning.specs.Tests.{every, there_and}
use Rattle.meaning.specs.WellFormed.{dangling, good_atom, good_dependency, good_head, good_row, good_rule, good_shape, has_arity}

pub same_arity : (arities : List ℕ) (r m n : ℕ) → T (has_arity arities r m) → T (has_arity arities r n) → m ≡ n
same_arity arities r m n = go (get_elem? arities r)
  where
    go : (o : Option ℕ) → T (there_and (eqb m) o) → T (there_and (eqb n) o) → m ≡ n
    go none a b = absurd a
    go (some k) a b = eqb→eq m k a ∙ sym (eqb→eq n k b)

module _ (P : Pack) (not-7 : dangling P ≡ false) where
  abbrev before_rules : Bool
  before_rules = every (good_dependency P) P.setting.dependencies && every (good_shape P) P.setting.shapes

  all_good : T (before_rules && every (good_rule P) P.setting.rules) × T (every (good_row P) P.rows)
  unfolding dangling
  all_good =
      (both (before_rules && every (good_rule P) P.setting.rules) (every (good_row P) P.rows)).0
      (passed ((before_rules && every (good_rule P) P.setting.rules) && every (good_row P) P.rows) not-7)
    where
      passed : (b : Bool) → not b ≡ false → T b
      passed true e = tt
      passed false e = subst T e tt

  pub atom_good : (rule : Rule) → rule ∈ P.setting.rules → (a : Atom) → a ∈ rule.atoms → T (has_arity P.setting.arities a.relation (length a.variables))
  atom_good rule i a j =
      every_at (good_atom P) rule.atoms
      ((both (every (good_atom P) rule.atoms) (good_head P rule.atoms rule.head)).0
      (every_at (good_rule P) P.setting.rules ((both before_rules (every (good_rule P) P.setting.rules)).0 all_good.0).1 i)).0 j

  pub row_good : (r : Row) → r ∈ P.rows → T (has_arity P.setting.arities r.relation (length r.cells))
  row_good r i = ((both (has_arity P.setting.arities r.relation (length r.cells)) _).0 (every_at (good_row P) P.rows all_good.1 i)).0
