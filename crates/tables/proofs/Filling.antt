-- The shape table, filled shape by shape. Assumes nothing.
use Rattle.meaning.proofs.Cases.{case_on}
use borrow.Author.Tests.{eq-eqb, ne_eqb}
use Rattle.std.specs.Prelude.{◌≡◌, ℕ, suc, ◌+◌, ◌*◌, ◌<◌, ◌≤◌, Bool, true, false, not, ◌&&◌, T, eqb, ltb, ◌≢◌, List, [], ◌∷◌, length, get_or, drop, replicate}
use lib.Dec.{ltb→lt}
use lib.ListN.{drop_of_length-le, get_or-replicate, get_elem?}
use mathlib.Core.Logic.Dec
use mathlib.Core.Option.{some}
use mathlib.Core.Path.{refl, sym, ap, ◌∙◌}
use native.Mathlib.Decide.{ℕ_discrete}
use native.Mathlib.Numerals.{add-one}
use native.Mathlib.Omega.{arith}
use Rattle.records.specs.Numbers.{target_number}
use Rattle.meaning.proofs.Lists.Members.{both, element, every_at}
use Rattle.meaning.proofs.Lists.Places.{drop_entry, there_is}
use Rattle.meaning.specs.Limits.{literal_bit, literal_target, max_predicates, max_types, multiplicity_room, shape_width, shapes_at}
use Rattle.meaning.specs.Pack.{Literal, Multiplicity, Pack, ShapeRecord, Target, any_number, at_least_one, first_shape, multiplicity_number, one, optional, shape_in, shape_of, type}
use Rattle.meaning.specs.Tables.{ShapeTable, cell_at, cell_of, target_code}
use Rattle.meaning.specs.Member.{◌∈◌}
use Rattle.meaning.specs.Tests.{every}
use Rattle.meaning.specs.WellFormed.{dangling, good_dependency, good_row, good_rule, good_shape, good_target}
use Rattle.names.specs.PackGiven.{ForSetting, SettingGiven}
use Rattle.meaning.proofs.Lists.Parts.{first_is_at, number_at}
use Rattle.names.proofs.Shape.{shape_at, shapes_many}
use Rattle.tables.specs.Tables.{IsResolvedSetting, code_of, put_first}
use Rattle.tables.proofs.Cells.{Square, cell_other, cell_same, or_else_zero, or_else, put_first_square}

-- ---- the code of a cell

pub literal_code : (x m : ℕ) → x ≡ literal_target → literal_bit * multiplicity_room + m ≡ code_of x m
literal_code x m e = rw (eq-eqb x literal_target e)

pub type_code : (x m : ℕ) → (x ≡ literal_target → ⊥) → x * multiplicity_room + m ≡ code_of x m
type_code x m n = rw (ne_eqb x literal_target n)

cell_code : (x : ShapeRecord) → x.shape.target ≢ type literal_target
    → cell_of (some x.shape) ≡ code_of (target_number x.shape.target) (multiplicity_number x.shape.multiplicity)
cell_code x n = go x.shape.target (multiplicity_number x.shape.multiplicity) n
  where
    go : (s : Target) (m : ℕ) → s ≢ type literal_target → target_code s * multiplicity_room + m ≡ code_of (target_number s) m
    go Literal m f = refl
    go (type t) m f = type_code t m (λ e. f (ap type e))

multiplicity_some : (m : Multiplicity) → (1 ≤ multiplicity_number m) × (multiplicity_number m < multiplicity_room)
multiplicity_some one = (omega arith, omega arith)
multiplicity_some optional = (omega arith, omega arith)
multiplicity_some any_number = (omega arith, omega arith)
multiplicity_some at_least_one = (omega arith, omega arith)

-- ---- the shape of a cell

shape_here : (r : ShapeRecord) (rs : List ShapeRecord) → shape_in (r ∷ rs) r.owner r.predicate ≡ some r.shape
unfolding shape_in first_shape
shape_here r rs = go (Dec.and (ℕ_discrete r.owner r.owner) (ℕ_discrete r.predicate r.predicate))
  where
    go : (d : Dec ((r.owner ≡ r.owner) × (r.predicate ≡ r.predicate))) → first_shape d r.shape (shape_in rs r.owner r.predicate) ≡ some r.shape
    go (yes h) = refl
    go (no n) = absurd (n (refl, refl))

shape_there : (r : ShapeRecord) (rs : List ShapeRecord) (t p : ℕ) → ((t ≡ r.owner) × (p ≡ r.predicate) → ⊥) → shape_in (r ∷ rs) t p ≡ shape_in rs t p
unfolding shape_in first_shape
shape_there r rs t p n = go (Dec.and (ℕ_discrete t r.owner) (ℕ_discrete p r.predicate))
  where
    go : (d : Dec ((t ≡ r.owner) × (p ≡ r.predicate))) → first_shape d r.shape (shape_in rs t p) ≡ shape_in rs t p
    go (yes h) = absurd (n h)
    go (no m) = refl

-- ---- one shape more

module _ (table : List (List ℕ)) (x : ShapeRecord) (ys : List ShapeRecord) (c : ℕ) (w : Square table) (ht : x.owner < max_types) (hp : x.predicate < max_predicates)
    (is : cell_of (some x.shape) ≡ c) (some-code : 1 ≤ c) (i j : ℕ) where
  abbrev Step : Type 0
  Step =
      or_else (cell_at (put_first x.owner x.predicate c table) i j) (cell_of (shape_in ys i j)) ≡ or_else (cell_at table i j) (cell_of (shape_in (x ∷ ys) i j))

  not_zero : eqb c 0 ≡ false
  not_zero = ne_eqb c 0 (λ (e : c ≡ 0). omega (arith, e, some-code))

  here : i ≡ x.owner → j ≡ x.predicate → Step
  here k l =
      rw (k, l, shape_here x ys, is)
      (case_on (eqb (cell_at table x.owner x.predicate) 0)
      (λ f. rw (f, cell_same table x.owner x.predicate c w ht hp, not_zero))
      (λ f. rw (f, f)))

  there : ((i ≡ x.owner) × (j ≡ x.predicate) → ⊥) → Step
  there n =
      rw (shape_there x ys i j n)
      (case_on (eqb (cell_at table x.owner x.predicate) 0)
      (λ f. rw (f, cell_other table x.owner x.predicate c w ht hp i j n))
      (λ f. rw f))

  step : Step
  step = go (Dec.and (ℕ_discrete i x.owner) (ℕ_discrete j x.predicate))
    where
      go : Dec ((i ≡ x.owner) × (j ≡ x.predicate)) → Step
      go (yes h) = here h.0 h.1
      go (no n) = there n

-- ---- by the numbers

module _ {P : Pack} {counts numbers : List ℕ} (g : SettingGiven P counts numbers) (i : ℕ) (x : ShapeRecord) (e : get_elem? P.setting.shapes i ≡ some x) where
  abbrev at : ℕ
  at = shapes_at + i * shape_width

  abbrev four : List ℕ
  four = x.owner ∷ x.predicate ∷ target_number x.shape.target ∷ multiplicity_number x.shape.multiplicity ∷ []

  owner_is : get_or numbers (shapes_at + i * shape_width) 0 ≡ x.owner
  owner_is = first_is_at numbers four at shape_width (shape_at g i x e).are (omega arith)

  predicate_is : get_or numbers (shapes_at + i * shape_width + 1) 0 ≡ x.predicate
  predicate_is = number_at numbers four at shape_width (shape_at g i x e).are 1 (omega arith)

  target_is : get_or numbers (shapes_at + i * shape_width + 2) 0 ≡ target_number x.shape.target
  target_is = number_at numbers four at shape_width (shape_at g i x e).are 2 (omega arith)

  multiplicity_is : get_or numbers (shapes_at + i * shape_width + 3) 0 ≡ multiplicity_number x.shape.multiplicity
  multiplicity_is = number_at numbers four at shape_width (shape_at g i x e).are 3 (omega arith)

-- refusal 7 is false of the shapes
good_shape_lem : (P : Pack) → dangling P ≡ false → (x : ShapeRecord) → x ∈ P.setting.shapes → T (good_shape P x)
unfolding dangling
good_shape_lem P e x i =
    every_at (good_shape P) P.setting.shapes
    (go (every (good_dependency P) P.setting.dependencies) (every (good_shape P) P.setting.shapes) (every (good_rule P) P.setting.rules) (every (good_row P) P.rows) e) i
  where
    go : (a b c d : Bool) → not (a && b && c && d) ≡ false → T b
    go true true c d h = tt
    go true false c d h = absurd (let z : ◌≡◌ {A = ℕ} 0 1 = cc in omega arith)
    go false b c d h = absurd (let z : ◌≡◌ {A = ℕ} 0 1 = cc in omega arith)

target_small : (P : Pack) (s : Target) → length P.setting.types ≤ max_types → T (good_target P s) → target_number s ≤ literal_target
target_small P Literal h t = omega arith
target_small P (type u) h t = omega (arith, h, ltb→lt u (length P.setting.types) t)

-- what a shape's numbers are below
pub record Small (numbers : List ℕ) (at : ℕ) : Type 0 where
  pub owner : get_or numbers at 0 < max_types
  pub predicate : get_or numbers (at + 1) 0 < max_predicates
  pub target : get_or numbers (at + 2) 0 ≤ literal_target
  pub multiplicity : get_or numbers (at + 3) 0 < multiplicity_room

pub small : {counts numbers : List ℕ} → IsResolvedSetting counts numbers → (i : ℕ) → i < get_or counts 5 0 → Small numbers (shapes_at + i * shape_width)
small {counts} {numbers} r i h =
    let P = r.pack in
    let g = r.given in
    let q = there_is P.setting.shapes i (omega (arith, h, shapes_many g)) in
    let x = q.0 in
    let types = length P.setting.types in
    let predicates = length P.setting.predicates in
    let good = good_shape_lem P r.resolved x (element P.setting.shapes i x q.1) in
    let named = (both (ltb x.owner types && ltb x.predicate predicates) (good_target P x.shape.target)).0 good in
    let both-named = (both (ltb x.owner types) (ltb x.predicate predicates)).0 named.0 in
    record {
      owner = omega (arith, owner_is g i x q.1, ltb→lt x.owner types both-named.0, g.bounds.types);
      predicate = omega (arith, predicate_is g i x q.1, ltb→lt x.predicate predicates both-named.1, g.bounds.predicates);
      target = omega (arith, target_is g i x q.1, target_small P x.shape.target g.bounds.types named.1);
      multiplicity = omega (arith, multiplicity_is g i x q.1, (multiplicity_some x.shape.multiplicity).1);
    }

-- ---- the table after the first n shapes

-- of the shapes from n on and the table, the cells are those of all shapes
pub record Filled (count : ℕ) (numbers : List ℕ) (table : List (List ℕ)) (n : ℕ) : Type 0 where
  pub square : Square table
  pub is : (counts : List ℕ) → get_or counts 5 0 ≡ count → ForSetting counts numbers (λ P. (i j : ℕ) → i < max_types → j < max_predicates
      → or_else (cell_at table i j) (cell_of (shape_in (drop n P.setting.shapes) i j)) ≡ cell_of (shape_in P.setting.shapes i j))

abbrev empty_row : List ℕ
empty_row = replicate max_predicates 0

abbrev pub empty_table : List (List ℕ)
empty_table = replicate max_types (replicate max_predicates 0)

empty_square : Square empty_table
empty_square = record { rows = refl; cells = λ t h. ap length (get_or-replicate max_types t empty_row [] h) }

empty_cell : (i j : ℕ) → i < max_types → j < max_predicates → cell_at empty_table i j ≡ 0
empty_cell i j hi hj = ap (λ (r : List ℕ). get_or r j 0) (get_or-replicate max_types i empty_row [] hi) ∙ get_or-replicate max_predicates j 0 0 hj

pub filled_start : (count : ℕ) (numbers : List ℕ) → Filled count numbers empty_table 0
filled_start count numbers = record {
  square = empty_square;
  is = λ counts e P g i j hi hj. ap (λ (k : ℕ). or_else k (cell_of (shape_in P.setting.shapes i j))) (empty_cell i j hi hj);
}

module _ {count : ℕ} {numbers : List ℕ} {table : List (List ℕ)} {n : ℕ} (f : Filled count numbers table n) where
  abbrev place : ℕ
  place = shapes_at + n * shape_width

  pub filled_on : {counts : List ℕ} → get_or counts 5 0 ≡ count → IsResolvedSetting counts numbers → n < count
      → Filled count numbers
      (put_first (get_or numbers (shapes_at + n * shape_width) 0) (get_or numbers (shapes_at + n * shape_width + 1) 0)
      (code_of (get_or numbers (shapes_at + n * shape_width + 2) 0) (get_or numbers (shapes_at + n * shape_width + 3) 0)) table) (n + 1)
  filled_on k r h =
      let s = small r n (omega (arith, k, h)) in
      record {
        square = put_first_square table _ _ _ f.square s.owner s.predicate;
        is = λ counts e P g i j hi hj. cells counts e P g s i j ∙ f.is counts e P g i j hi hj;
      }
    where
      cells : (counts : List ℕ) → get_or counts 5 0 ≡ count → (P : Pack) → SettingGiven P counts numbers → Small numbers place → (i j : ℕ)
          → or_else
          (cell_at (put_first (get_or numbers place 0) (get_or numbers (place + 1) 0) (code_of (get_or numbers (place + 2) 0) (get_or numbers (place + 3) 0)) table) i j)
          (cell_of (shape_in (drop (n + 1) P.setting.shapes) i j))
          ≡ or_else (cell_at table i j) (cell_of (shape_in (drop n P.setting.shapes) i j))
      cells counts e P g s i j =
          let q = there_is P.setting.shapes n (omega (arith, h, e, shapes_many g)) in
          let x = q.0 in
          let o = owner_is g n x q.1 in
          let p = predicate_is g n x q.1 in
          let t = target_is g n x q.1 in
          let m = multiplicity_is g n x q.1 in
          rw (drop_entry P.setting.shapes n x q.1, add-one n, o, p, t, m)
          (step table x (drop (suc n) P.setting.shapes) (code_of (target_number x.shape.target) (multiplicity_number x.shape.multiplicity)) f.square
          (omega (arith, o, s.owner)) (omega (arith, p, s.predicate)) (cell_code x (shape_at g n x q.1).bound)
          (omega (arith, (multiplicity_some x.shape.multiplicity).0)) i j)

  pub filled_done : {counts : List ℕ} → get_or counts 5 0 ≡ count → count ≤ n → ForSetting counts numbers (λ P. ShapeTable P.setting table)
  unfolding shape_of shape_in
  filled_done e h P g = record {
    cells = λ i j hi hj.
        let k : length P.setting.shapes ≤ n = omega (arith, h, e, shapes_many g) in
        sym (or_else_zero (cell_at table i j))
        ∙ ap (λ (ys : List ShapeRecord). or_else (cell_at table i j) (cell_of (shape_in ys i j))) (sym (drop_of_length-le P.setting.shapes k))
        ∙ f.is _ e P g i j hi hj;
  }
