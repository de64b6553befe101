-- Lists of numbers that fit eight bits. Assumes nothing.
use lib.ListN.{get_or-eq_default, drop, get_or, length, replicate, take}
use mathlib.Core.List.Memᴰ
use mathlib.Core.List.{List, [], ◌∷◌, ◌++◌, flat_map}
use mathlib.Core.Logic.{⊎_elim}
use mathlib.Core.Path.{refl}
use native.Mathlib.Omega.{arith}
use Prim.Native.Nat.{ℕ, zero, suc, ◌<◌}
use Rattle.meaning.proofs.Cases.{case_lt}
use Rattle.meaning.proofs.Lists.Members.{joined_only, take_in}
use Rattle.meaning.proofs.Lists.Places.{∈_at}
use Rattle.meaning.specs.Member.{◌∈◌, here, there}

-- every number is a byte
pub record AllBytes (s : List ℕ) : Type 0 where
  pub each : (x : ℕ) → x ∈ s → x < 256

pub bytes_nil : AllBytes []
bytes_nil = record { each = λ x m. elim m [ ] }

pub bytes_cons : {b : ℕ} {s : List ℕ} → b < 256 → AllBytes s → AllBytes (b ∷ s)
bytes_cons {b} {s} h t = record { each = go }
  where
    go : (x : ℕ) → x ∈ (b ∷ s) → x < 256
    go x (here e) = omega (arith, e)
    go x (there m) = t.each x m

pub bytes_first : {b : ℕ} {s : List ℕ} → AllBytes (b ∷ s) → b < 256
bytes_first t = t.each _ (here refl)

pub bytes_rest : {b : ℕ} {s : List ℕ} → AllBytes (b ∷ s) → AllBytes s
bytes_rest t = record { each = λ x m. t.each x (there m) }

pub bytes_drop : (n : ℕ) (s : List ℕ) → AllBytes s → AllBytes (drop n s)
bytes_drop zero s t = t
bytes_drop (suc n) [] t = t
bytes_drop (suc n) (x ∷ s) t = bytes_drop n s (bytes_rest t)

pub bytes_take : (n : ℕ) (s : List ℕ) → AllBytes s → AllBytes (take n s)
bytes_take n s t = record { each = λ x m. t.each x (take_in n m) }

pub bytes_append : (s t : List ℕ) → AllBytes s → AllBytes t → AllBytes (s ++ t)
bytes_append s t p q = record { each = λ x m. ⊎_elim (p.each x) (q.each x) (Memᴰ.append_cases s m) }

pub bytes_zeros : (n : ℕ) → AllBytes (replicate n 0)
bytes_zeros zero = bytes_nil
bytes_zeros (suc n) = bytes_cons (omega arith) (bytes_zeros n)

pub bytes_flat : {A : Type 0} (f : A → List ℕ) (xs : List A) → ((x : A) → x ∈ xs → AllBytes (f x)) → AllBytes (flat_map f xs)
bytes_flat f xs h = record { each = λ b m. let r = joined_only f xs m in (h r.0 r.1).each b r.2 }

-- and so is what stands past the last
pub byte_below : {s : List ℕ} → AllBytes s → (i : ℕ) → get_or s i 0 < 256
byte_below {s} t i = case_lt i (length s) (λ h. t.each (get_or s i 0) (∈_at s i h)) (λ h. omega (arith, get_or-eq_default s 0 h))

-- every entry of a list whose entries are small is small
pub bytes_known : (s : List ℕ) → ((k : ℕ) → get_or s k 0 < 256) → AllBytes s
bytes_known s small = record { each = go s small }
  where
    go : (s : List ℕ) → ((k : ℕ) → get_or s k 0 < 256) → (x : ℕ) → x ∈ s → x < 256
    go [] h x x4 = elim x4 [ ]
    go (y ∷ ys) h x (here e) = let z = h 0 in omega (arith, e)
    go (y ∷ ys) h x (there m) = go ys (λ k. h (suc k)) x m
