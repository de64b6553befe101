-- Laws of a head's key under bindings. Assumes nothing.
use lib.ListN.{length, get_or, drop, drop_of_length-le}
use lib.Seq.{drop-cons}
use mathlib.Core.List.{List, map, foldl}
use mathlib.Core.Path.{◌≡◌, refl, ◌∙◌, subst}
use native.Mathlib.Numerals.{add-one}
use native.Mathlib.Omega.{arith}
use Prim.Native.Nat.{ℕ, ◌+◌, ◌*◌, ◌^◌, ◌≤◌, ◌<◌, zero-le}
use Rattle.meaning.specs.Limits.{key_room, max_values, unused}
use Rattle.meaning.specs.Member.{◌∈◌}
use Rattle.meaning.specs.Tables.{packed}
use Rattle.matching.specs.Plan.{Bound, AllBound, Bindings, binding_of, KeyVariables, BoundKey, Settled}
use Rattle.std.specs.Prelude.{Option, Some, None}
use Rattle.std.specs.Option.{is_some}
use Rattle.sets.specs.Ordered.{Search}
use Rattle.matching.proofs.Bytes.{pow_next, below_room}
use Rattle.meaning.proofs.Lists.Places.{∈_at, ∈_index}
use Rattle.meaning.proofs.Lists.Below.{below_next}

-- the key of the first i variables is made, and they are bound
pub record Making (vars env : List ℕ) (i key : ℕ) : Type 0 where
  pub within : i ≤ length vars
  pub small : key < max_values ^ i
  pub bound : (j : ℕ) → j < i → Bound env (get_or vars j 0)
  pub is : foldl (λ k v. k * max_values + v) key (map (binding_of env) (drop i vars)) ≡ packed (map (binding_of env) vars)

pub making_start : (vars env : List ℕ) → Making vars env 0 0
unfolding packed
making_start vars env = record { within = zero-le; small = omega arith; bound = λ j h. absurd (omega arith); is = refl }

module _ {vars env : List ℕ} {i key : ℕ} (m : Making vars env i key) (h : i < length vars) (b : Bindings env) where
  pub making_value : Bound env (get_or vars i 0) → get_or env (get_or vars i 0) 0 < max_values
  making_value k = b.small (get_or vars i 0) k

  pub making_room : KeyVariables vars → key < key_room
  making_room v = below_room i key m.small (omega (arith, v.short))

  pub making_again : Bound env (get_or vars i 0) → Making vars env (i + 1) (key * max_values + get_or env (get_or vars i 0) 0)
  making_again k = record {
    within = omega arith;
    small = omega (arith, pow_next i, m.small, making_value k);
    bound = below_next {Q = λ j. Bound env (get_or vars j 0)} m.bound k;
    is = rw add-one (rw (drop-cons vars i 0 h) at m.is);
  }

  pub making_open : get_or env (get_or vars i 0) 0 ≡ unused → BoundKey None vars env
  making_open e = (get_or vars i 0, ∈_at vars i h, e)

pub making_done : {vars env : List ℕ} {i key : ℕ} → Making vars env i key → length vars ≤ i → BoundKey (Some key) vars env
making_done {vars} {env} {i} {key} m h = (bound, rw drop_of_length-le at m.is)
  where
    bound : (v : ℕ) → v ∈ vars → Bound env v
    bound v k = let p = ∈_index k in subst (Bound env) p.2 (m.bound p.0 (omega (arith, p.1)))

settled_at : (vars env set : List ℕ) (key i : ℕ) → BoundKey (Some key) vars env → (i < length set) × (get_or set i 0 ≡ key)
    → AllBound vars env × (packed (map (binding_of env) vars) ∈ set)
settled_at vars env set key i k f = (k.0, subst (λ x. x ∈ set) (f.1 ∙ k.1) (∈_at set i f.0))

pub settled_by : (vars env set : List ℕ) (key : ℕ) → BoundKey (Some key) vars env → (o : Option ℕ) → Search o set key → Settled (is_some o) vars env set
settled_by vars env set key k (Some i) f = settled_at vars env set key i k f
settled_by vars env set key k None f = tt
