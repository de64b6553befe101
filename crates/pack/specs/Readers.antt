-- Readers: from the bytes that are left, what is read and the bytes after it, or nothing. Assumes nothing.
use Rattle.std.specs.Prelude.{Bool, true, false, List, [], ◌∷◌, ℕ, zero, suc}
use Rattle.std.proofs.Math.Option.{Option, none, some}
use Rattle.meaning.specs.Tests.{within}

pub record Read (A : Type 0) : Type 0 where
  pub got : A
  pub rest : List ℕ

abbrev pub Reader : Type 0 → Type 0
Reader A = List ℕ → Option (Read A)

module _ {A : Type 0} where
  abbrev pub give : A → Reader A
  give a s = some (record { got = a; rest = s })

  abbrev pub only : Bool → A → Reader A
  only true a s = some (record { got = a; rest = s })
  only false a s = none

module _ {A B : Type 0} where
  abbrev pub next : Option (Read A) → (A → Reader B) → Option (Read B)
  next none f = none
  next (some r) f = f r.got r.rest

  abbrev pub ◌>>=◌ : Reader A → (A → Reader B) → Reader B
  ◌>>=◌ m f = λ s. next (m s) f

-- "Fields are single bytes"
unfoldable pub byte : Reader ℕ
byte [] = none
byte (b ∷ s) = some (record { got = b; rest = s })

-- a byte in bounds
unfoldable pub byte_in : ℕ → ℕ → Reader ℕ
byte_in lo hi = do
  b ← byte
  only (within lo hi b) b

-- n bytes, each of which passes the test
unfoldable pub bytes : (ℕ → Bool) → ℕ → Reader (List ℕ)
bytes ok zero = give []
bytes ok (suc n) = do
  b ← byte
  c ← only (ok b) b
  bs ← bytes ok n
  give (c ∷ bs)

-- a length or count in bounds, and that many bytes
unfoldable pub sized : (ℕ → Bool) → ℕ → ℕ → Reader (List ℕ)
sized ok lo hi = do
  n ← byte_in lo hi
  bytes ok n
