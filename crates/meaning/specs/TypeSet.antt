-- A set of types, and of Literal: a mask in which type t has weight 2 to the power t, and beside it whether Literal is a
-- member. Assumes nothing.
use Rattle.std.specs.Prelude.{T, Bool, ◌≡◌, ℕ, zero, suc, ◌/◌, ◌%◌}
use Rattle.meaning.specs.Pack.{Target, Literal, type}

-- bit t of a number, counted from the lowest: that of weight 2 to the power t
unfoldable pub bit : ℕ → ℕ → ℕ
bit zero x = x % 2
bit (suc t) x = bit t (x / 2)

pub record TypeSet : Type 0 where
  pub literal : Bool
  pub mask : ℕ

infix 50 ◌∈ₜ◌
abbrev pub ◌∈ₜ◌ : Target → TypeSet → Type 0
Literal ∈ₜ X = T X.literal
type t ∈ₜ X = bit t X.mask ≡ 1
