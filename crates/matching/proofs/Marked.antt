-- Laws of the marks of variables. Assumes nothing.
use borrow.Author.Tests.{eq-eqb, ne_eqb}
use lib.Dec.{eqb}
use lib.ListN.{length, get_or, set, take, drop, replicate, drop_of_length-le, length-set}
use lib.Seq.{drop-cons, get_or-set_same, get_or-set_other, set_out}
use mathlib.Core.Bool.{cond}
use mathlib.Core.List.{List, [], ◌∷◌, ◌++◌, foldl, append_assoc, foldl-append}
use mathlib.Core.Logic.{◌⊎◌, inl, inr, ⊎_elim}
use mathlib.Core.Path.{◌≡◌, refl, sym, ◌∙◌}
use native.Mathlib.Decide.{ℕ_discrete, dec_lt}
use native.Mathlib.Nat.{sub-zero}
use native.Mathlib.Numerals.{add-one}
use native.Mathlib.Omega.{arith}
use Prim.Native.Nat.{ℕ, suc, ◌+◌, ◌*◌, ◌-◌, ◌≤◌, ◌<◌, zero-le}
use Rattle.meaning.specs.Limits.{atom_width, max_values, max_variables, unused}
use Rattle.meaning.proofs.Cases.{case_on}
use Rattle.matching.specs.Plan.{mark_of, marked, variables_at, variables_from}

pub noted_first : (x : ℕ) → x ≡ 0 → 1 ≡ mark_of x
unfolding mark_of
noted_first x e = rw (eq-eqb _ _ e)

pub noted_again : (x : ℕ) → (x ≡ 0 → ⊥) → unused ≡ mark_of x
unfolding mark_of
noted_again x n = rw (ne_eqb _ _ n)

-- the first i variables are marked
pub record Marking (seen own : List ℕ) (i : ℕ) (marks : List ℕ) : Type 0 where
  pub long : length marks ≡ length seen
  pub is : foldl marked marks (drop i own) ≡ foldl marked seen own

pub marking_start : (seen own : List ℕ) → Marking seen own 0 seen
marking_start seen own = record { long = refl; is = refl }

module _ {seen own : List ℕ} {i : ℕ} {marks : List ℕ} (m : Marking seen own i marks) where
  next : i < length own → foldl marked (marked marks (get_or own i 0)) (drop (i + 1) own) ≡ foldl marked seen own
  next h = rw add-one (rw (drop-cons own i 0 h) at m.is)

  pub marking_again : i < length own → (x : ℕ) → x ≡ mark_of (get_or marks (get_or own i 0) 0) → Marking seen own (i + 1) (set marks (get_or own i 0) x)
  marking_again h x e = record { long = length-set marks (get_or own i 0) x ∙ m.long; is = rw e (next h) }

  pub marking_done : length own ≤ i → marks ≡ foldl marked seen own
  marking_done h = rw drop_of_length-le at m.is

-- ---- all atoms, then the head

-- the variables of the first j atoms are marked
pub record Freshening (atoms : List ℕ) (count : ℕ) (vars : List ℕ) (j : ℕ) (seen : List ℕ) : Type 0 where
  pub within : j ≤ count
  pub is : foldl marked seen (variables_from atoms j (count - j) ++ vars) ≡ foldl marked (replicate max_variables 0) (variables_from atoms 0 count ++ vars)

pub fresh_start : (atoms : List ℕ) (count : ℕ) (vars : List ℕ) → Freshening atoms count vars 0 (replicate max_variables 0)
fresh_start atoms count vars = record { within = zero-le; is = rw sub-zero }

from_next : (atoms : List ℕ) (j n : ℕ) → variables_from atoms j (suc n) ≡ variables_at atoms j ++ variables_from atoms (suc j) n
unfolding variables_from
from_next atoms j n = refl

from_none : (atoms : List ℕ) (j : ℕ) → variables_from atoms j 0 ≡ []
unfolding variables_from
from_none atoms j = refl

module _ {atoms : List ℕ} {count : ℕ} {vars : List ℕ} {j : ℕ} {seen : List ℕ} (m : Freshening atoms count vars j seen) where
  pub fresh_again : j < count → (a k : ℕ) → a ≡ j * atom_width + 2 → k ≡ get_or atoms (j * atom_width + 1) 0 → (seen' : List ℕ)
      → seen' ≡ foldl marked seen (take (a + k - a) (drop a atoms))
      → Freshening atoms count vars (j + 1) seen'
  fresh_again h a k p q seen' e =
      let c : a + k - a ≡ k = omega arith in
      let d : seen' ≡ foldl marked seen (variables_at atoms j) = e ∙ rw (c, p, q) in
      let n : count - j ≡ suc (count - (j + 1)) = omega arith in
      record {
        within = omega arith;
        is =
            rw (
              add-one,
              d,
              ← (foldl-append marked seen (variables_at atoms j) (variables_from atoms (suc j) (count - suc j) ++ vars)),
              ← (append_assoc (variables_at atoms j) (variables_from atoms (suc j) (count - suc j)) vars),
              ← (from_next atoms j (count - suc j)),
            )
            (rw (n, add-one) at m.is);
      }

  pub fresh_done : count ≤ j → (r : List ℕ) → r ≡ foldl marked seen vars → r ≡ foldl marked (replicate max_variables 0) (variables_from atoms 0 count ++ vars)
  fresh_done h r e = let n : count - j ≡ 0 = omega arith in e ∙ rw (n, from_none) at m.is

-- ---- what a mark says

unfoldable pub times : ℕ → List ℕ → ℕ
times v [] = 0
times v (x ∷ xs) = cond (eqb x v) (suc (times v xs)) (times v xs)

pub marks_long : (seen l : List ℕ) → length (foldl marked seen l) ≡ length seen
marks_long seen [] = refl
marks_long seen (x ∷ l) = marks_long (marked seen x) l ∙ length-set seen x (mark_of (get_or seen x 0))

mark_cases : (x : ℕ) → (mark_of x ≡ 1) ⊎ (mark_of x ≡ unused)
unfolding mark_of
mark_cases x = case_on (eqb x 0) (λ e. inl (rw e)) (λ e. inr (rw e))

mark_more : (x : ℕ) → (x ≡ 0 → ⊥) → mark_of x ≡ unused
unfolding mark_of
mark_more x n = rw (ne_eqb _ _ n)

module _ (v : ℕ) where
  pub marks_small : (seen l : List ℕ) → ((get_or seen v 0 ≡ unused → ⊥) → get_or seen v 0 < max_values) → (get_or (foldl marked seen l) v 0 ≡ unused → ⊥)
      → get_or (foldl marked seen l) v 0 < max_values
  marks_small seen [] s b = s b
  marks_small seen (x ∷ l) s b = marks_small (marked seen x) l (λ n. go n (ℕ_discrete v x) (dec_lt x (length seen))) b
    where
      go : (get_or (marked seen x) v 0 ≡ unused → ⊥) → Dec (v ≡ x) → Dec (x < length seen) → get_or (marked seen x) v 0 < max_values
      go n (yes e) (yes h) =
          let q : get_or (marked seen x) v 0 ≡ mark_of (get_or seen x 0) = rw e (get_or-set_same seen x (mark_of (get_or seen x 0)) 0 h) in
          ⊎_elim (λ c. omega (arith, q, c)) (λ c. absurd (n (q ∙ c))) (mark_cases (get_or seen x 0))
      go n (yes e) (no h) = let q = set_out seen x (mark_of (get_or seen x 0)) (omega (arith, h)) in rw q (s (rw q at n))
      go n (no d) h = let q = get_or-set_other seen x v (mark_of (get_or seen x 0)) 0 d in rw q (s (rw q at n))

  kept_unused : (seen l : List ℕ) → v < length seen → get_or seen v 0 ≡ unused → get_or (foldl marked seen l) v 0 ≡ unused
  kept_unused seen [] h e = e
  kept_unused seen (x ∷ l) h e = kept_unused (marked seen x) l (omega (arith, h, length-set seen x (mark_of (get_or seen x 0)))) (go (ℕ_discrete v x))
    where
      go : Dec (v ≡ x) → get_or (marked seen x) v 0 ≡ unused
      go (yes q) = rw (← q) (get_or-set_same seen v (mark_of (get_or seen v 0)) 0 h ∙ mark_more (get_or seen v 0) (λ z. omega (arith, z, e)))
      go (no d) = get_or-set_other seen x v (mark_of (get_or seen x 0)) 0 d ∙ e

  -- a variable that is bound in the marks occurs at most once
  pub record Once (seen l : List ℕ) : Type 0 where
    pub once : times v l ≤ 1
    pub never : (get_or seen v 0 ≡ 0 → ⊥) → times v l ≡ 0

  pub marks_once : (seen l : List ℕ) → v < length seen → (get_or (foldl marked seen l) v 0 ≡ unused → ⊥) → Once seen l
  unfolding times
  marks_once seen [] h b = record { once = zero-le; never = λ n. refl }
  marks_once seen (x ∷ l) h b = go (ℕ_discrete x v) (marks_once (marked seen x) l (omega (arith, h, length-set seen x (mark_of (get_or seen x 0)))) b)
    where
      go : Dec (x ≡ v) → Once (marked seen x) l → Once seen (x ∷ l)
      go (yes e) o =
          let q : get_or (marked seen x) v 0 ≡ mark_of (get_or seen v 0) = rw e (get_or-set_same seen v (mark_of (get_or seen v 0)) 0 h) in
          let z : get_or (marked seen x) v 0 ≡ 0 → ⊥ = λ f. ⊎_elim (λ c. omega (arith, q, c, f)) (λ c. omega (arith, q, c, f)) (mark_cases (get_or seen v 0)) in
          record {
            once = rw (eq-eqb _ _ e) (omega (arith, o.never z));
            never = λ n. absurd (b (kept_unused (marked seen x) l (omega (arith, h, length-set seen x (mark_of (get_or seen x 0)))) (q ∙ mark_more (get_or seen v 0) n)));
          }
      go (no d) o =
          let q = get_or-set_other seen x v (mark_of (get_or seen x 0)) 0 (λ e. d (sym e)) in
          record { once = rw (ne_eqb _ _ d) o.once; never = λ n. rw (ne_eqb _ _ d) (o.never (rw q n)) }
