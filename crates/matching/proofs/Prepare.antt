-- Laws of collecting each atom's candidates in its own part of a slice. Assumes nothing.
use borrow.Author.Tests.{eqb-true}
use lib.Dec.{eqb}
use lib.ListN.{length, get_or, set, take, drop, length-take, length-drop, length-set}
use lib.Seq.{get_or-take, get_or-set_same, get_or-set_other}
use mathlib.Core.Bool.{Bool, true, false}
use mathlib.Core.List.{List, ◌++◌}
use mathlib.Core.Path.{◌≡◌, refl, sym, ◌∙◌}
use native.Mathlib.Decide.{ℕ_discrete}
use native.Mathlib.Omega.{arith}
use Prim.Native.Nat.{ℕ, ◌+◌, ◌*◌, ◌-◌, ◌≤◌, ◌<◌, zero-le}
use Rattle.std.specs.List.{IsAnyAnswer}
use Rattle.meaning.specs.Ordered.{ListOf}
use Rattle.matching.specs.Plan.{variables_at, candidates_at, Candidate, Prepared, Unmatched}
use Rattle.meaning.specs.Limits.{atom_width, candidates_length, max_atoms, max_rows}
use Rattle.meaning.proofs.Lists.Overwriting.{kept_front, part_replaced, put_there}

-- the candidates of the first j atoms are listed
pub record Preparing (rows atoms orders start : List ℕ) (count : ℕ) (out₀ : List ℕ) (j : ℕ) (out counts : List ℕ) : Type 0 where
  pub within : j ≤ count
  pub long : length out ≡ length out₀
  pub all : length counts ≡ max_atoms
  pub counted : (i : ℕ) → i < j → get_or counts i 0 ≤ max_rows
  pub list : (i : ℕ) → i < j → ListOf ◌<◌ (Candidate rows (get_or atoms (i * atom_width) 0) (variables_at atoms i) (variables_at orders i) start) (candidates_at out counts i)

pub prepare_start : (rows atoms orders start : List ℕ) (count : ℕ) (out counts : List ℕ) → length counts ≡ max_atoms → Preparing rows atoms orders start count out 0 out counts
prepare_start rows atoms orders start count out counts e = record {
  within = zero-le;
  long = refl;
  all = e;
  counted = λ i h. absurd (omega (arith, h));
  list = λ i h. absurd (omega (arith, h));
}

module _ {rows atoms orders start : List ℕ} {count : ℕ} {out₀ : List ℕ} {j : ℕ} {out counts : List ℕ} (p : Preparing rows atoms orders start count out₀ j out counts)
    (h : j < count) (few : count ≤ max_atoms) (room : candidates_length ≤ length out₀) where
  module _ (n arity kept : ℕ) (ys : List ℕ) (q : arity ≡ get_or atoms (j * atom_width + 1) 0) (q' : kept ≡ get_or orders (j * atom_width + 1) 0)
      (w : (n ≤ length (take (j * max_rows + max_rows - j * max_rows) (drop (j * max_rows) out)))
      × ListOf ◌<◌ (Candidate rows (get_or atoms (j * atom_width) 0)
      (take (j * atom_width + 2 + arity - (j * atom_width + 2)) (drop (j * atom_width + 2) atoms))
      (take (j * atom_width + 2 + kept - (j * atom_width + 2)) (drop (j * atom_width + 2) orders)) start) (take n ys))
      (l : length ys ≡ length (take (j * max_rows + max_rows - j * max_rows) (drop (j * max_rows) out))) where
    k_is : j * max_rows + max_rows - j * max_rows ≡ max_rows
    k_is = omega arith

    a_is : j * atom_width + 2 + arity - (j * atom_width + 2) ≡ arity
    a_is = omega arith

    o_is : j * atom_width + 2 + kept - (j * atom_width + 2) ≡ kept
    o_is = omega arith

    pub part_length : length (take (j * max_rows + max_rows - j * max_rows) (drop (j * max_rows) out)) ≡ max_rows
    part_length = rw k_is (omega (arith, h, few, room, p.long, length-take max_rows (drop (j * max_rows) out), length-drop (j * max_rows) out))

    pub counted_small : n ≤ max_rows
    counted_small = omega (arith, w.0, part_length)

    long_is : length (take (j * max_rows) out ++ (ys ++ drop (j * max_rows + max_rows - j * max_rows) (drop (j * max_rows) out))) ≡ length out
    long_is = part_replaced (j * max_rows) (j * max_rows + max_rows - j * max_rows) out ys l

    pub prepare_again : Preparing rows atoms orders start count out₀ (j + 1) (take (j * max_rows) out ++ (ys ++ drop (j * max_rows + max_rows - j * max_rows) (drop (j * max_rows) out))) (set counts j n)
    prepare_again = record {
      within = omega arith;
      long = long_is ∙ p.long;
      all = length-set counts j n ∙ p.all;
      counted = λ i m. counts_at i m (ℕ_discrete i j);
      list = λ i m. list_at i m (ℕ_discrete i j);
    }
      where
        same : get_or (set counts j n) j 0 ≡ n
        same = get_or-set_same counts j n 0 (omega (arith, h, few, p.all))

        counts_at : (i : ℕ) → i < j + 1 → Dec (i ≡ j) → get_or (set counts j n) i 0 ≤ max_rows
        counts_at i m (yes f) = rw (f, same) counted_small
        counts_at i m (no d) = rw (get_or-set_other counts j i n 0 d) (p.counted i (omega (arith, m, d)))

        list_at : (i : ℕ) → i < j + 1 → Dec (i ≡ j)
            → ListOf ◌<◌ (Candidate rows (get_or atoms (i * atom_width) 0) (variables_at atoms i) (variables_at orders i) start)
            (candidates_at (take (j * max_rows) out ++ (ys ++ drop (j * max_rows + max_rows - j * max_rows) (drop (j * max_rows) out))) (set counts j n) i)
        list_at i m (yes f) =
            rw (f, same, put_there n (j * max_rows) out ys (drop (j * max_rows + max_rows - j * max_rows) (drop (j * max_rows) out)) (omega (arith, h, few, room, p.long)) (omega (arith, w.0, l)))
            (rw (a_is, q, o_is, q') at w.1)
        list_at i m (no d) =
            rw (
              get_or-set_other counts j i n 0 d,
              kept_front (i * max_rows) (get_or counts i 0) (j * max_rows) out (ys ++ drop (j * max_rows + max_rows - j * max_rows) (drop (j * max_rows) out))
                  (omega (arith, m, d, p.counted i (omega (arith, m, d)))) (omega (arith, h, few, room, p.long)),
            )
            (p.list i (omega (arith, m, d)))

pub prepare_done : {rows atoms orders start : List ℕ} {count : ℕ} {out₀ : List ℕ} {j : ℕ} {out counts : List ℕ}
    → Preparing rows atoms orders start count out₀ j out counts → count ≤ j
    → Prepared rows atoms orders start count out counts
prepare_done p h = record { counted = λ i l. p.counted i (omega (arith, l, h)); list = λ i l. p.list i (omega (arith, l, h)) }

-- ---- an atom without candidates

pub unmatched_by : (b : Bool) (counts : List ℕ) (count : ℕ) → IsAnyAnswer (λ y t. eqb y 0 ≡ t) (take count counts) b → Unmatched b counts count
unmatched_by true counts count a =
    (a.0, omega (arith, a.1, length-take count counts), sym (get_or-take count counts a.0 0 (omega (arith, a.1, length-take count counts))) ∙ eqb-true _ 0 (a.2 0))
unmatched_by false counts count a = tt
