-- Pairs written one after another, two numbers each. Assumes nothing.
use lib.ListN.{drop, get_or, length, length-append, length-set, set, take}
use lib.Seq.{drop-cons, get_or-take, length-take-le, set_at, take-suc}
use mathlib.Core.List.{List, [], ◌∷◌, ◌++◌, append_assoc, flatten, map}
use mathlib.Core.Path.{◌≡◌, refl, sym, ap, ◌∙◌}
use native.Mathlib.Omega.{arith}
use Prim.Native.Nat.{ℕ, zero, suc, ◌+◌, ◌*◌, ◌≤◌, ◌<◌}
use Rattle.reached.specs.Keys.{pair_from, pair_keys, pair_to}
use Rattle.evaluate.specs.Answered.{AllPairs}
use Rattle.evaluate.specs.Named.{pair_of}
use Rattle.meaning.specs.Limits.{pair_width}
use Rattle.meaning.specs.Member.{◌∈◌, here, there}
use Rattle.pair_list.specs.Written.{with_pairs}

pub flat_length : (xs : List ℕ) → length (flatten (map pair_of xs)) ≡ length xs * 2
unfolding flatten
flat_length [] = refl
flat_length (x ∷ xs) = let r = flat_length xs in omega arith

flat_snoc : (xs : List ℕ) (x : ℕ) → flatten (map pair_of (xs ++ (x ∷ []))) ≡ flatten (map pair_of xs) ++ pair_of x
unfolding flatten
flat_snoc [] x = refl
flat_snoc (y ∷ ys) x = ap (λ l. pair_of y ++ l) (flat_snoc ys x)

-- two numbers set behind the pairs so far
pub pairs_again : (found before : List ℕ) (k i : ℕ) → k ≤ length found → k * pair_width ≤ length before → i < k
    → set (set (with_pairs i found before) (2 * i) (pair_from (get_or found i 0))) (2 * i + 1) (pair_to (get_or found i 0)) ≡ with_pairs (i + 1) found before
pairs_again found before k i h l j =
    ap (λ z. set (set (F ++ z) (2 * i) a) (2 * i + 1) b) two
    ∙ ap (λ z. set z (2 * i + 1) b) (set_at F _ _ a (2 * i) long)
    ∙ ap (λ z. set z (2 * i + 1) b) (sym (append_assoc F (a ∷ []) _))
    ∙ set_at (F ++ (a ∷ [])) _ _ b (2 * i + 1) (omega (arith, long, length-append F (a ∷ [])))
    ∙ append_assoc F (a ∷ []) _
    ∙ sym (append_assoc F (a ∷ b ∷ []) _)
    ∙ ap (λ z. z ++ drop ((i + 1) * 2) before) (sym (flat_snoc (take i found) x))
    ∙ ap (λ z. flatten (map pair_of z) ++ drop ((i + 1) * 2) before) (sym (take-suc found i 0 (omega arith)) ∙ ap (λ n. take n found) (let z : suc i ≡ i + 1 = omega arith in z))
  where
    x : ℕ
    x = get_or found i 0

    a : ℕ
    a = pair_from x

    b : ℕ
    b = pair_to x

    F : List ℕ
    F = flatten (map pair_of (take i found))

    long : length F ≡ 2 * i
    long = let r = flat_length (take i found) in let s = length-take-le i found (omega arith) in omega arith

    two : drop (i * 2) before ≡ get_or before (i * 2) 0 ∷ get_or before (suc (i * 2)) 0 ∷ drop ((i + 1) * 2) before
    two =
        drop-cons before (i * 2) 0 (omega arith)
        ∙ ap (λ z. get_or before (i * 2) 0 ∷ z) (drop-cons before (suc (i * 2)) 0 (omega arith)
        ∙ ap (λ n. get_or before (suc (i * 2)) 0 ∷ drop n before) (let z : suc (suc (i * 2)) ≡ (i + 1) * 2 = omega arith in z))

-- the first i pairs are written
pub record Publishing (found : List ℕ) (i : ℕ) (before now : List ℕ) : Type 0 where
  pub long : length now ≡ length before
  pub is : now ≡ with_pairs i found before

pub publishing_start : {found before : List ℕ} → Publishing found 0 before before
unfolding flatten
publishing_start = record { long = refl; is = refl }

-- the pair at i, as code goes through the first k
pub publishing_again : {found before now : List ℕ} {k i u v : ℕ} → k ≤ length found → k * pair_width ≤ length before → i < length (take k found)
    → Publishing found i before now → u ≡ pair_from (get_or (take k found) i 0) → v ≡ pair_to (get_or (take k found) i 0)
    → Publishing found (i + 1) before (set (set now (2 * i) u) (2 * i + 1) v)
publishing_again {found} {before} {now} {k} {i} {u} {v} h l j p a b = record {
  long = length-set (set now (2 * i) u) (2 * i + 1) v ∙ length-set now (2 * i) u ∙ p.long;
  is = (λ t. set (set (p.is t) (2 * i) ((a ∙ ap pair_from here_is) t)) (2 * i + 1) ((b ∙ ap pair_to here_is) t)) ∙ pairs_again found before k i h l below;
}
  where
    below : i < k
    below = omega (arith, length-take-le k found h)

    here_is : get_or (take k found) i 0 ≡ get_or found i 0
    here_is = get_or-take k found i 0 below

-- a pair that is written is of two nodes
pub small_at : (found : List ℕ) (i : ℕ) → AllPairs found → i < length found → get_or found i 0 < pair_keys
small_at found i all l = all (get_or found i 0) (get_d_in found i l)
  where
    get_d_in : (xs : List ℕ) (i : ℕ) → i < length xs → get_or xs i 0 ∈ xs
    get_d_in [] i h = absurd (omega arith)
    get_d_in (x ∷ xs) zero h = here refl
    get_d_in (x ∷ xs) (suc i) h = there (get_d_in xs i (omega arith))
