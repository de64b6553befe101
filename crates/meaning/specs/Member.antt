-- Membership in a list: the library's, under the names that this project uses. A proof of `x ∈ xs` is a place in the
-- list. Assumes nothing.
use mathlib.Core.List.{List, Memᴰ}
pub use mathlib.Core.List.Memᴰ.{head as here}
pub use mathlib.Core.List.Memᴰ.{tail as there}

infix 50 ◌∈◌
abbrev pub ◌∈◌ : {A : Type 0} → A → List A → Type 0
x ∈ xs = Memᴰ x xs
