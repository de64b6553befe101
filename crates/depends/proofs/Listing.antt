-- The loop that lists the keys of the rows of a relation: no two rows before row i break the dependency. Assumes nothing.
use borrow.Author.Tests.{eq-eqb, eqb-true, ne_eqb}
use lib.Dec.{eqb}
use lib.ListN.{drop, get_or, length, length-set, set, take}
use lib.Seq.{split_at, take_all, take-suc, take-suc-set}
use mathlib.Core.Bool.{Bool, true, false, not, ◌&&◌, ◌||◌}
use mathlib.Core.List.{List, [], ◌∷◌, ◌++◌, append-nil, map, map-append}
use mathlib.Core.Path.{◌≡◌, refl, sym, ap, ◌∙◌}
use native.Mathlib.Numerals.{add-one}
use native.Mathlib.Omega.{arith}
use Prim.Native.Nat.{ℕ, zero, suc, ◌+◌, ◌*◌, ◌/◌, ◌≤◌, ◌<◌}
use Rattle.meaning.specs.Limits.{max_rows, rows_length, row_width}
use Rattle.meaning.specs.Member.{◌∈◌, here, there}
use Rattle.meaning.specs.Pack.{Dependency, Row}
use Rattle.meaning.specs.Tables.{RowsHeld}
use Rattle.meaning.specs.Tests.{any, any_two}
use Rattle.meaning.specs.WellFormed.{agree, breaks}
use Rattle.meaning.proofs.Lists.Pairs.{two_at, two_none}
use Rattle.depends.specs.Answer.{Even, SaysBreaks}
use Rattle.depends.specs.Keys.{columns_at, differs, columns_key}
use Rattle.depends.proofs.Agreeing.{key_of_row, keys_agree}
use Rattle.depends.proofs.HeldRows.{columns_at_lem, relation_at, row_at, rows_counted}

-- ---- the rows of a dependency's relation

abbrev keep : Bool → Row → List Row → List Row
keep true x xs = x ∷ xs
keep false x xs = xs

unfoldable of_relation : Dependency → List Row → List Row
of_relation d [] = []
of_relation d (x ∷ xs) = keep (eqb x.relation d.relation) x (of_relation d xs)

relation_append : (d : Dependency) (xs ys : List Row) → of_relation d (xs ++ ys) ≡ of_relation d xs ++ of_relation d ys
unfolding of_relation
relation_append d [] ys = refl
relation_append d (x ∷ xs) ys = go (eqb x.relation d.relation) (relation_append d xs ys)
  where
    go : (b : Bool) → of_relation d (xs ++ ys) ≡ of_relation d xs ++ of_relation d ys → keep b x (of_relation d (xs ++ ys)) ≡ keep b x (of_relation d xs) ++ of_relation d ys
    go true ih = ap (λ l. x ∷ l) ih
    go false ih = ih

-- the keys of those rows
abbrev keys : ℕ → Dependency → List Row → List ℕ
keys m d xs = map (key_of_row m) (of_relation d xs)

keys_more : (m : ℕ) (d : Dependency) (xs : List Row) (y : Row) → eqb y.relation d.relation ≡ true → keys m d (xs ++ y ∷ []) ≡ keys m d xs ++ key_of_row m y ∷ []
unfolding of_relation
keys_more m d xs y h =
    let e : of_relation d (y ∷ []) ≡ y ∷ [] = rw h in
    ap (map (key_of_row m)) (relation_append d xs (y ∷ []) ∙ ap (λ l. of_relation d xs ++ l) e) ∙ map-append (key_of_row m) (of_relation d xs) (y ∷ [])

keys_other : (m : ℕ) (d : Dependency) (xs : List Row) (y : Row) → eqb y.relation d.relation ≡ false → keys m d (xs ++ y ∷ []) ≡ keys m d xs
unfolding of_relation
keys_other m d xs y h =
    let e : of_relation d (y ∷ []) ≡ [] = rw h in
    ap (map (key_of_row m)) (relation_append d xs (y ∷ []) ∙ ap (λ l. of_relation d xs ++ l) e ∙ append-nil (of_relation d xs))

-- ---- rows that break a dependency with one

-- the row is of another relation
breaks_other : (d : Dependency) (y : Row) → eqb y.relation d.relation ≡ false → (xs : List Row) → any (λ x. breaks d x y) xs ≡ false
breaks_other d y e [] = refl
breaks_other d y e (x ∷ xs) = rw (go (eqb x.relation d.relation)) (breaks_other d y e xs)
  where
    go : (b : Bool) → (b && eqb y.relation d.relation && agree d.left x.cells y.cells && not (agree d.right x.cells y.cells)) ≡ false
    go true = rw e
    go false = refl

-- their keys say where they agree
abbrev Told : Row → Row → Type 0
Told x y = (m : ℕ) → eqb (key_of_row m x) (key_of_row m y) ≡ agree m x.cells y.cells

differs_rows : (d : Dependency) (y : Row) → eqb y.relation d.relation ≡ true → (xs : List Row) → ((x : Row) → x ∈ xs → eqb x.relation d.relation ≡ true → Told x y)
    → differs (key_of_row d.left y) (key_of_row d.right y) (keys d.left d xs) (keys d.right d xs) ≡ any (λ x. breaks d x y) xs
unfolding differs of_relation
differs_rows d y h [] t = refl
differs_rows d y h (x ∷ xs) t = go (eqb x.relation d.relation) refl (t x (here refl)) (differs_rows d y h xs (λ z m. t z (there m)))
  where
    go : (b : Bool) → eqb x.relation d.relation ≡ b → (eqb x.relation d.relation ≡ true → Told x y)
        → differs (key_of_row d.left y) (key_of_row d.right y) (keys d.left d xs) (keys d.right d xs) ≡ any (λ x. breaks d x y) xs
        → differs (key_of_row d.left y) (key_of_row d.right y) (map (key_of_row d.left) (keep b x (of_relation d xs))) (map (key_of_row d.right) (keep b x (of_relation d xs)))
        ≡ any (λ x. breaks d x y) (x ∷ xs)
    go true q f ih =
        let e : (eqb (key_of_row d.left x) (key_of_row d.left y) && not (eqb (key_of_row d.right x) (key_of_row d.right y))) ≡ breaks d x y =
        rw (q, h, f q d.left, f q d.right) in
        (λ i. e i || ih i)
    go false q f ih = rw q ih

-- ---- the loop

row_in : (rs : List Row) (i : ℕ) → i < length rs → row_at rs i ∈ rs
row_in [] i h = absurd (let z : ⊥ = omega (arith, h) in z)
row_in (x ∷ xs) zero h = here refl
row_in (x ∷ xs) (suc i) h = there (row_in xs i (omega (arith, h)))

take_in : {x : Row} (n : ℕ) (xs : List Row) → x ∈ take n xs → x ∈ xs
take_in zero xs h = elim h [ ]
take_in (suc n) [] h = elim h [ ]
take_in (suc n) (y ∷ ys) (here e) = here e
take_in (suc n) (y ∷ ys) (there h) = there (take_in n ys h)

-- the first n entries are the keys of the relation's rows before row i, no two of which break the dependency
pub record Listing (d : Dependency) (rs : List Row) (lefts rights : List ℕ) (n i : ℕ) : Type 0 where
  left_keys : take n lefts ≡ keys d.left d (take i rs)
  right_keys : take n rights ≡ keys d.right d (take i rs)
  none : any_two (breaks d) (take i rs) ≡ false

pub record Rows (d : Dependency) (rows lefts rights : List ℕ) (count n i : ℕ) : Type 0 where
  pub long : length rows ≤ rows_length
  pub counted : count ≡ length rows / row_width
  pub before : i ≤ count
  pub few : n ≤ i
  pub lefts_long : length lefts ≡ max_rows
  pub rights_long : length rights ≡ max_rows
  pub listed : (rs : List Row) → RowsHeld rs rows → Even rs → Listing d rs lefts rights n i

pub rows_start : (d : Dependency) (rows lefts rights : List ℕ) (count : ℕ) → count ≡ length rows / row_width → length rows ≤ rows_length
    → length lefts ≡ max_rows → length rights ≡ max_rows
    → Rows d rows lefts rights count 0 0
unfolding of_relation
rows_start d rows lefts rights count e l h g = record {
  long = l;
  counted = e;
  before = omega arith;
  few = omega arith;
  lefts_long = h;
  rights_long = g;
  listed = λ rs q v. record { left_keys = refl; right_keys = refl; none = refl };
}

module _ {d : Dependency} {rows lefts rights : List ℕ} {count n i : ℕ} (p : Rows d rows lefts rights count n i) where
  pub rows_done : count ≤ i → SaysBreaks d rows false
  rows_done h rs q v = sym (p.listed rs q v).none ∙ ap (any_two (breaks d)) (take_all i rs (omega (arith, h, p.counted, rows_counted q)))

  module _ (h : i < count) where
    rows_room : n < max_rows
    rows_room = omega (arith, h, p.counted, p.long, p.few)

    module _ (rs : List Row) (q : RowsHeld rs rows) where
      inside : i < length rs
      inside = omega (arith, h, p.counted, rows_counted q)

      next : take (i + 1) rs ≡ take i rs ++ row_at rs i ∷ []
      next = rw (add-one i) (take-suc rs i (record { relation = 0; cells = [] }) inside)

    pub rows_other : (get_or rows (i * row_width) 0 ≡ d.relation → ⊥) → Rows d rows lefts rights count n (i + 1)
    rows_other f = record {
      long = p.long;
      counted = p.counted;
      before = omega (arith, h);
      few = omega (arith, p.few);
      lefts_long = p.lefts_long;
      rights_long = p.rights_long;
      listed = λ rs q v.
          let l = p.listed rs q v in
          let y = row_at rs i in
          let e : eqb y.relation d.relation ≡ false = ne_eqb _ _ (λ z. f (relation_at q i (inside rs q) ∙ z)) in
          record {
            left_keys = l.left_keys ∙ sym (ap (keys d.left d) (next rs q) ∙ keys_other d.left d (take i rs) y e);
            right_keys = l.right_keys ∙ sym (ap (keys d.right d) (next rs q) ∙ keys_other d.right d (take i rs) y e);
            none = ap (any_two (breaks d)) (next rs q) ∙ two_none (breaks d) (take i rs) y l.none (breaks_other d y e (take i rs));
          };
    }

    -- row i is of the relation, and these are its keys
    module _ (f : get_or rows (i * row_width) 0 ≡ d.relation) (l r : ℕ)
        (le : l ≡ columns_key d.left (columns_at rows (i * row_width + 1))) (re : r ≡ columns_key d.right (columns_at rows (i * row_width + 1))) where
      module _ (rs : List Row) (q : RowsHeld rs rows) (v : Even rs) where
        same : eqb (row_at rs i).relation d.relation ≡ true
        same = eq-eqb _ _ (sym (relation_at q i (inside rs q)) ∙ f)

        left_key : l ≡ key_of_row d.left (row_at rs i)
        left_key = le ∙ ap (columns_key d.left) (columns_at_lem q i (inside rs q))

        right_key : r ≡ key_of_row d.right (row_at rs i)
        right_key = re ∙ ap (columns_key d.right) (columns_at_lem q i (inside rs q))

        told : (x : Row) → x ∈ take i rs → eqb x.relation d.relation ≡ true → Told x (row_at rs i)
        told x m e k =
            let a = take_in i rs m in
            let b = row_in rs i (inside rs q) in
            keys_agree k x (row_at rs i) (v.alike x (row_at rs i) a b (eqb-true _ _ e ∙ sym (eqb-true _ _ same))) (v.short x a) (v.values x a) (v.values (row_at rs i) b)

        test : differs l r (take n lefts) (take n rights) ≡ any (λ x. breaks d x (row_at rs i)) (take i rs)
        test =
            (λ j. differs (left_key j) (right_key j) ((p.listed rs q v).left_keys j) ((p.listed rs q v).right_keys j))
            ∙ differs_rows d (row_at rs i) same (take i rs) told

      pub rows_break : {b : Bool} → b ≡ differs l r (take n lefts) (take n rights) → b ≡ true → SaysBreaks d rows true
      rows_break t e rs q v =
          sym (ap (any_two (breaks d)) (split_at rs i (record { relation = 0; cells = [] }) (inside rs q))
          ∙ two_at (breaks d) (take i rs) (row_at rs i) (drop (suc i) rs) (sym (test rs q v) ∙ sym t ∙ e))

      pub rows_more : {b : Bool} → b ≡ differs l r (take n lefts) (take n rights) → b ≡ false → Rows d rows (set lefts n l) (set rights n r) count (n + 1) (i + 1)
      rows_more t e = record {
        long = p.long;
        counted = p.counted;
        before = omega (arith, h);
        few = omega (arith, p.few);
        lefts_long = length-set lefts n l ∙ p.lefts_long;
        rights_long = length-set rights n r ∙ p.rights_long;
        listed = λ rs q v. record {
          left_keys =
              rw (add-one n) (take-suc-set lefts n l (omega (arith, rows_room, p.lefts_long)))
              ∙ (λ j. (p.listed rs q v).left_keys j ++ left_key rs q v j ∷ [])
              ∙ sym (ap (keys d.left d) (next rs q) ∙ keys_more d.left d (take i rs) (row_at rs i) (same rs q v));
          right_keys =
              rw (add-one n) (take-suc-set rights n r (omega (arith, rows_room, p.rights_long)))
              ∙ (λ j. (p.listed rs q v).right_keys j ++ right_key rs q v j ∷ [])
              ∙ sym (ap (keys d.right d) (next rs q) ∙ keys_more d.right d (take i rs) (row_at rs i) (same rs q v));
          none =
              ap (any_two (breaks d)) (next rs q)
              ∙ two_none (breaks d) (take i rs) (row_at rs i) (p.listed rs q v).none (sym (test rs q v) ∙ sym t ∙ e);
        };
      }
