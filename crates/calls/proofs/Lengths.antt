-- Lengths compared two by two. Assumes nothing.
use lib.Dec.{T, leb, leb→le, le→leb}
use lib.ListN.{length}
use mathlib.Core.Bool.{Bool}
use mathlib.Core.List.{List, [], ◌∷◌}
use mathlib.Core.Logic.{◌↔◌}
use mathlib.Core.Path.{◌≡◌}
use native.Mathlib.Omega.{arith}
use Prim.Native.Nat.{ℕ, ◌≤◌}
use Rattle.calls.specs.Call.{Each₂}
use Rattle.meaning.proofs.Lists.Members.{both}
use Rattle.std.specs.List.{list_all, zip}

pub compared : (asked lent : List ℕ) → length asked ≡ length lent → {b : Bool} → b ≡ list_all (λ (p : ℕ × ℕ). leb p.0 p.1) (zip asked lent) → T b ↔ Each₂ ◌≤◌ asked lent
compared asked lent e h = rw h (go asked lent e)
  where
    go : (xs ys : List ℕ) → length xs ≡ length ys → T (list_all (λ (p : ℕ × ℕ). leb p.0 p.1) (zip xs ys)) ↔ Each₂ ◌≤◌ xs ys
    go [] [] e = (λ h. h, λ h. h)
    go [] (y ∷ ys) e = absurd (omega arith)
    go (x ∷ xs) [] e = absurd (omega arith)
    go (x ∷ xs) (y ∷ ys) e =
        let r = go xs ys (omega arith) in
        let s = both (leb x y) (list_all (λ (p : ℕ × ℕ). leb p.0 p.1) (zip xs ys)) in
        (λ h. (leb→le x y (s.0 h).0, r.0 (s.0 h).1), λ h. s.1 (le→leb x y h.0, r.1 h.1))
