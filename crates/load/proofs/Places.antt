-- The bodies of a pack by their numbers: where each ends. Assumes nothing.
use lib.ListN.{length}
use mathlib.Core.List.{List}
use mathlib.Core.Path.{◌≡◌, refl}
use native.Mathlib.Decide.{dec_lt}
use native.Mathlib.Omega.{arith}
use Prim.Native.Nat.{ℕ, zero, suc, ◌+◌, ◌*◌, ◌-◌, ◌≤◌, ◌<◌}
use Rattle.load.specs.Bodies.{body_kind, limit_of, place_of}
use Rattle.load.specs.Loaded.{BodyRoom}
use Rattle.meaning.specs.Limits.{rows_length, setting_length, rows_body}
use Rattle.records.specs.PackHeld.{width}
use Rattle.meaning.proofs.Lists.Below.{each_at}

-- ---- where a body ends

-- the last body of a setting
abbrev rules_body : ℕ
rules_body = rows_body - 1

abbrev pub end_of : ℕ → ℕ
end_of i = place_of i + limit_of i * width (body_kind i)

-- the next begins there
next_place : (i : ℕ) → i < rules_body → end_of i ≡ place_of (suc i)
unfolding body_kind limit_of place_of
next_place = each_at rules_body (λ i. end_of i ≡ place_of (suc i)) (refl, (refl, (refl, (refl, (refl, (refl, (refl, tt)))))))

last_end : end_of rules_body ≡ setting_length
unfolding body_kind limit_of place_of
last_end = refl

pub ends_before : (i j : ℕ) → j < i → i < rows_body → end_of j ≤ place_of i
ends_before zero j h k = absurd (let z : ⊥ = omega arith in z)
ends_before (suc i) j h k = go (λ l. ends_before i j l (omega arith)) (dec_lt j i)
  where
    go : (j < i → end_of j ≤ place_of i) → Dec (j < i) → end_of j ≤ place_of (suc i)
    go f (yes l) = omega (arith, f l, next_place i (omega arith))
    go f (no n) = let e : j ≡ i = omega arith in rw e (omega (arith, next_place i (omega arith)))

pub setting_room : (i : ℕ) (numbers : List ℕ) → i < rows_body → setting_length ≤ length numbers → BodyRoom i numbers
setting_room i numbers h l = go (dec_lt i rules_body)
  where
    go : Dec (i < rules_body) → BodyRoom i numbers
    go (yes k) = omega (arith, ends_before rules_body i k (omega arith), last_end)
    go (no n) = let e : i ≡ rules_body = omega arith in rw e (omega (arith, last_end))

pub rows_room : (rows : List ℕ) → rows_length ≤ length rows → BodyRoom rows_body rows
unfolding body_kind limit_of place_of
rows_room rows h = h
