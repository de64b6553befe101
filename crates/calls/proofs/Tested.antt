-- What a test says where the code asks for its contrary. Assumes nothing.
use borrow.Author.Tests.{not-false, not-true}
use lib.Dec.{T}
use mathlib.Core.Bool.{Bool, true, false, not}
use mathlib.Core.Logic.{◌↔◌}
use mathlib.Core.Path.{◌≡◌, sym, subst}

module _ (b : Bool) {Q : Type 0} (test : T b ↔ Q) where
  pub passed : not b ≡ false → Q
  passed e = test.0 (subst T (sym (not-false b e)) tt)

  pub failed : not b ≡ true → ¬ Q
  failed e q = subst T (not-true b e) (test.1 q)
