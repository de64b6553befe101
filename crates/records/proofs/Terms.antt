-- The numbers of a row, of an atom and of a head, put over one number that is repeated. Assumes nothing.
use borrow.Author.Tests.{leb-true, leb-false}
use lib.Dec.{leb}
use lib.ListN.{length, length-append, length-replicate, drop, replicate, replicate-append-replicate, take}
use lib.Seq.{drop_at, drop-append-add, take-append-add, take_at}
use mathlib.Core.List.{List, [], ◌∷◌, ◌++◌, append_assoc}
use mathlib.Core.Path.{◌≡◌, refl, sym, ap, ◌∙◌}
use native.Mathlib.Omega.{arith}
use Prim.Native.Nat.{ℕ, suc, ◌+◌, ◌-◌, ◌≤◌, ◌<◌, min}
use Rattle.std.proofs.lemmas.List.{length-take, length-take-le, take-append-le, take_all}
use Rattle.meaning.proofs.Cases.{case_on}
use Rattle.meaning.specs.Limits.{atom_width, max_arguments, max_columns, max_head_variables, row_width, unused}
use Rattle.meaning.specs.Pack.{Atom, Head, Row, Term, has_type, links_to, links_to_value}
use Rattle.meaning.specs.Tables.{atom_numbers, head_arguments, row_numbers}
use Rattle.pack.specs.Records.{atom_of, row_of}
use Rattle.pack.specs.Shown.{made}
use Rattle.pack.specs.declared.cursor.Tuple.{Tuple}
use Rattle.records.specs.Kept.{Put}
use Rattle.records.proofs.Putting.{put_next}
use Rattle.meaning.proofs.Lists.Padding.{padded, padded_wide}

-- ---- numbers put over one number that is repeated

over_padding : (n z : ℕ) (xs : List ℕ) → length xs ≤ n → xs ++ drop (length xs) (replicate n z) ≡ take n (padded n z xs)
over_padding n z xs h =
    let m = n - length xs in
    let e : n ≡ length xs + m = omega arith in
    let f : n ≡ m + length xs = omega arith in
    let a : drop (length xs) (replicate n z) ≡ replicate m z =
    ap (λ (j : ℕ). drop (length xs) (replicate j z)) e ∙ ap (drop (length xs)) (sym (replicate-append-replicate (length xs) m z))
    ∙ drop_at (replicate (length xs) z) (replicate m z) (length xs) (length-replicate (length xs) z)
    in
    let b : take m (replicate n z) ≡ replicate m z =
    ap (λ (j : ℕ). take m (replicate j z)) f ∙ ap (take m) (sym (replicate-append-replicate m (length xs) z))
    ∙ take_at (replicate m z) (replicate (length xs) z) m (length-replicate m z)
    in
    ap (λ (ys : List ℕ). xs ++ ys) (a ∙ sym b) ∙ sym (take-append-add xs (replicate n z) m) ∙ ap (λ (j : ℕ). take j (padded n z xs)) (sym e)

pub put_over : (front : List ℕ) (n z : ℕ) {xs : List ℕ} {out : List ℕ} → length xs ≤ n → Put xs (length front) (front ++ replicate n z) out
    → out ≡ front ++ take n (padded n z xs)
put_over front n z {xs} h p =
    let a : take (length front) (front ++ replicate n z) ≡ front = take_at front (replicate n z) (length front) refl in
    p.is ∙ ap (λ (ys : List ℕ). ys ++ xs ++ drop (length front + length xs) (front ++ replicate n z)) a
    ∙ ap (λ (ys : List ℕ). front ++ xs ++ ys) (drop-append-add front (replicate n z) (length xs)) ∙ append_assoc front xs (drop (length xs) (replicate n z))
    ∙ ap (λ (ys : List ℕ). front ++ ys) (over_padding n z xs h)

-- ---- a row

pub length_row : (r : Row) → length (row_numbers r) ≡ row_width
length_row r = ap suc (padded_wide max_columns unused r.cells)

pub row_made : (t : Tuple max_columns) {out : List ℕ} → Put t.items.now 1 (t.number ∷ replicate max_columns unused) out → out ≡ row_numbers (made row_of t)
row_made t p = put_over (t.number ∷ []) max_columns unused t.few p

-- the first n are the same with no more than n of the list
first_padded : (n z : ℕ) (xs : List ℕ) → take n (padded n z (take (min (length xs) n) xs)) ≡ take n (padded n z xs)
first_padded n z xs = case_on (leb (length xs) n) (λ e. short (leb-true _ _ e)) (λ e. long (leb-false _ _ e))
  where
    short : length xs ≤ n → take n (padded n z (take (min (length xs) n) xs)) ≡ take n (padded n z xs)
    short h = ap (λ (ys : List ℕ). take n (padded n z ys)) (take_all (min (length xs) n) xs (omega arith))

    long : n < length xs → take n (padded n z (take (min (length xs) n) xs)) ≡ take n (padded n z xs)
    long h =
        let e : min (length xs) n ≡ n = omega arith in
        let l : length (take n xs) ≡ n = length-take-le n xs (omega arith) in
        ap (λ (k : ℕ). take n (padded n z (take k xs))) e
        ∙ take-append-le n (take n xs) (replicate n z) (omega (arith, l)) ∙ take_all n (take n xs) (omega (arith, l))
        ∙ sym (take-append-le n xs (replicate n z) (omega arith))

-- of any number of cells, the first of which are put
pub row_made_cut : {most : ℕ} (t : Tuple most) {out : List ℕ} → Put (take (min (length t.items.now) max_columns) t.items.now) 1 (t.number ∷ replicate max_columns unused) out
    → out ≡ row_numbers (made row_of t)
row_made_cut t p =
    let xs = t.items.now in
    put_over (t.number ∷ []) max_columns unused (omega (arith, length-take (min (length xs) max_columns) xs)) p
    ∙ ap (λ (ys : List ℕ). t.number ∷ ys) (first_padded max_columns unused xs)

-- ---- an atom

pub atom_made : (t : Tuple max_columns) {out : List ℕ} → Put t.items.now 2 (t.number ∷ length t.items.now ∷ replicate max_columns 0) out → out ≡ atom_numbers (made atom_of t)
atom_made t p = put_over (t.number ∷ length t.items.now ∷ []) max_columns 0 t.few p

pub length_atom : (a : Atom) → length (atom_numbers a) ≡ atom_width
length_atom a = ap (λ (n : ℕ). suc (suc n)) (padded_wide max_columns 0 a.variables)

-- ---- a head's variables, put over zeros; 0 past them

abbrev pub variables_of : Head → List ℕ
variables_of h = take max_head_variables (padded max_head_variables 0 (head_arguments h))

module _ (t : Term) (l : ℕ) (few : length t.variables ≤ max_arguments) {out : List ℕ} (p : Put t.variables 0 (replicate max_head_variables 0) out) where
  pub variables_type : out ≡ variables_of (has_type t l)
  unfolding head_arguments
  variables_type = put_over [] max_head_variables 0 (omega (arith, few)) p

  both : {ys out' : List ℕ} → length ys ≤ max_arguments → Put ys (length t.variables) out out' → out' ≡ take max_head_variables (padded max_head_variables 0 (t.variables ++ ys))
  both {ys} m q = put_over [] max_head_variables 0 (omega (arith, length-append t.variables ys, few, m)) (put_next p (omega (arith, few)) q (omega arith))

  pub variables_link : (u : Term) {out' : List ℕ} → length u.variables ≤ max_arguments → Put u.variables (length t.variables) out out' → out' ≡ variables_of (links_to t l u)
  unfolding head_arguments
  variables_link u m q = both m q

  pub variables_value : (v : ℕ) {out' : List ℕ} → Put (v ∷ []) (length t.variables) out out' → out' ≡ variables_of (links_to_value t l v)
  unfolding head_arguments
  variables_value v q = both (omega arith) q

-- ---- how many

module _ (t : Term) (l : ℕ) where
  pub count_type : length t.variables + 0 ≡ length (head_arguments (has_type t l))
  unfolding head_arguments
  count_type = omega arith

  pub count_link : (u : Term) → length t.variables + length u.variables ≡ length (head_arguments (links_to t l u))
  unfolding head_arguments
  count_link u = omega (arith, length-append t.variables u.variables)

  pub count_value : (v : ℕ) → length t.variables + 1 ≡ length (head_arguments (links_to_value t l v))
  unfolding head_arguments
  count_value v = omega (arith, length-append t.variables (v ∷ []))
