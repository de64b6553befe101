-- The loop over the bodies of a pack: those before body i are in the numbers; a pack is held, or there is none. Assumes nothing.
use lib.ListN.{drop, get_or, length, length-set, set, take}
use lib.Seq.{drop-drop, ext_get_or, get_or-set_other, get_or-set_same, get_or-take, length-take-le, take-add, take-set-le}
use mathlib.Core.List.{List, [], ◌∷◌, ◌++◌, flat_map}
use mathlib.Core.Option.{Option, none, some}
use mathlib.Core.Path.{◌≡◌, refl, sym, ap, subst, ◌∙◌}
use native.Mathlib.Decide.{dec_lt}
use native.Mathlib.Nat.{mul-le-mul_right, suc-mul}
use native.Mathlib.Omega.{arith}
use Prim.Native.Nat.{ℕ, suc, ◌+◌, ◌*◌, ◌≤◌, ◌<◌}
use Rattle.load.specs.Bodies.{body_kind, limit_of, place_of}
use Rattle.load.specs.Loaded.{NoPart, PackLoaded, PartIn, PartLoaded}
use Rattle.meaning.specs.Limits.{bodies, constructors_at, dependencies_at, max_constructors, max_dependencies, max_predicates, max_relations, max_rows, max_rules, rows_body}
use Rattle.meaning.specs.Limits.{max_shapes, max_types, max_values, predicates_at, relations_at, row_width, rules_at, shapes_at, types_at, values_at, rows_body}
use Rattle.meaning.specs.Pack.{Pack, Row, Setting}
use Rattle.meaning.specs.Tables.{row_numbers}
use Rattle.pack.specs.Unpack.{◌then◌, unpack, unpack_within}
use Rattle.pack.specs.declared.kinds.Kind.{Kind}
use Rattle.pack.specs.declared.kinds.Kind.TheVariants as K
use Rattle.records.specs.PackHeld.{BodyHeld, RecordsHeld, SettingHeld, SettingNumbers, counts_of, width}
use Rattle.records.specs.Numbers.{NumbersOf}
use Rattle.load.proofs.Places.{ends_before}
use Rattle.load.proofs.HeldRecords.{held_kept}
use Rattle.meaning.proofs.Lists.Below.{each_at}

-- ---- a body that is not whole

-- what gives none in any case
nil : {A B : Type 0} (o : Option A) → ◌≡◌ {A = Option B} (o then (λ (a : A). none)) none
nil none = refl
nil (some a) = refl

pub no_pack : (s : List ℕ) (i : ℕ) → i < bodies → NoPart i s → unpack s ≡ none
unfolding unpack_within body_kind limit_of
no_pack s =
    each_at bodies (λ i. NoPart i s → unpack s ≡ none) (
      λ e. rw e,
      (
        λ e. simp (e, nil),
        (
          λ e. simp (e, nil),
          (λ e. simp (e, nil), (λ e. simp (e, nil), (λ e. simp (e, nil), (λ e. simp (e, nil), (λ e. simp (e, nil), (λ e. simp (e, nil), tt)))))),
        ),
      ),
    )

-- ---- rows one after another are all their numbers

held_tail : {A : Type 0} {N : A → List ℕ → Type 0} {w : ℕ} {x : A} {xs : List A} {at : ℕ} {out : List ℕ} → RecordsHeld N w (x ∷ xs) at out → RecordsHeld N w xs (at + w) out
held_tail {N = N} {w = w} {at = at} {out = out} h = record {
  each = λ i y e.
      let k : at + suc i * w ≡ at + w + i * w = omega (arith, suc-mul i w) in
      let p : take w (drop (suc i * w) (drop at out)) ≡ take w (drop (i * w) (drop (at + w) out)) =
      ap (take w) (drop-drop (suc i * w) at out ∙ ap (λ (j : ℕ). drop j out) k ∙ sym (drop-drop (i * w) (at + w) out))
      in
      subst (N y) p (h.each (suc i) y e);
}

rows_flat : (xs : List Row) (at : ℕ) (out : List ℕ) → BodyHeld K.Row [] xs at out → take (row_width * length xs) (drop at out) ≡ flat_map row_numbers xs
unfolding flat_map
rows_flat [] at out h = refl
rows_flat (x ∷ xs) at out h =
    let m : row_width * suc (length xs) ≡ row_width + row_width * length xs = omega arith in
    let f : take row_width (drop at out) ≡ row_numbers x = h.each 0 x refl in
    let r : take (row_width * length xs) (drop row_width (drop at out)) ≡ flat_map row_numbers xs =
    ap (take (row_width * length xs)) (drop-drop row_width at out) ∙ rows_flat xs (at + row_width) out (held_tail h)
    in
    ap (λ (j : ℕ). take j (drop at out)) m ∙ take-add row_width (row_width * length xs) (drop at out)
    ∙ ap (λ (ys : List ℕ). ys ++ take (row_width * length xs) (drop row_width (drop at out))) f ∙ ap (λ (ys : List ℕ). row_numbers x ++ ys) r

-- ---- the loop

-- numbers past a body may change
part_kept : {i : ℕ} {k : Kind} {limit at end : ℕ} {s : List ℕ} {n : ℕ} {out out' : List ℕ} → PartIn i k limit at s n out → at + limit * width k ≤ end
    → take end out' ≡ take end out → PartIn i k limit at s n out'
part_kept {i} {k} {limit} {at} {end} {s} p l e =
    let few : length p.records ≤ limit = omega (arith, p.many, p.few) in
    let fits : at + length p.records * width k ≤ end = omega (arith, l, mul-le-mul_right {m = length p.records} {n = limit} (width k) few) in
    record { records = p.records; read = p.read; many = p.many; few = p.few; held = held_kept (NumbersOf k s) (width k) p.held fits e }

-- body i is in the numbers, at its place
abbrev pub Part : ℕ → List ℕ → ℕ → List ℕ → Type 0
Part i = PartIn i (body_kind i) (limit_of i) (place_of i)

-- the bodies before i are
pub record Before (i : ℕ) (s counts numbers₀ numbers : List ℕ) : Type 0 where
  pub within : i ≤ rows_body
  pub nine : length counts ≡ bodies
  pub long : length numbers ≡ length numbers₀
  pub each : (j : ℕ) → j < i → Part j s (get_or counts j 0) numbers

pub before_on : {i n : ℕ} {s counts numbers₀ numbers numbers' : List ℕ} → Before i s counts numbers₀ numbers → i < rows_body → length numbers' ≡ length numbers
    → PartLoaded i s n numbers numbers' → Before (i + 1) s (set counts i n) numbers₀ numbers'
before_on {i} {n} {s} {counts} {numbers₀} {numbers} {numbers'} b h l p = record {
  within = omega arith;
  nine = length-set counts i n ∙ b.nine;
  long = l ∙ b.long;
  each = λ j k. at j k (dec_lt j i);
}
  where
    at : (j : ℕ) → j < i + 1 → Dec (j < i) → Part j s (get_or (set counts i n) j 0) numbers'
    at j k (yes m) =
        let other : get_or (set counts i n) j 0 ≡ get_or counts j 0 = get_or-set_other counts i j n 0 (λ e. omega arith) in
        rw other (part_kept {end = place_of i} (b.each j m) (ends_before i j m h) p.kept)
    at j k (no m) =
        let e : j ≡ i = omega arith in
        let here : get_or (set counts i n) i 0 ≡ n = get_or-set_same counts i n 0 (omega (arith, b.nine)) in
        rw (e, here) p.part

-- ---- the whole pack

held_map : {A : Type 0} {N M : A → List ℕ → Type 0} {w : ℕ} {xs : List A} {at : ℕ} {out : List ℕ}
    → ((x : A) (numbers : List ℕ) → N x numbers → M x numbers) → RecordsHeld N w xs at out → RecordsHeld M w xs at out
held_map f h = record { each = λ i x e. f x _ (h.each i x e) }

module _ {s : List ℕ} (counts : List ℕ) {numbers rows : List ℕ} {n : ℕ} (nine : length counts ≡ bodies)
    (A : PartIn 0 K.Value max_values values_at s (get_or counts 0 0) numbers)
    (B : PartIn 1 K.Relation max_relations relations_at s (get_or counts 1 0) numbers)
    (C : PartIn 2 K.Dependency max_dependencies dependencies_at s (get_or counts 2 0) numbers)
    (D : PartIn 3 K.Name max_types types_at s (get_or counts 3 0) numbers)
    (E : PartIn 4 K.Name max_predicates predicates_at s (get_or counts 4 0) numbers)
    (F : PartIn 5 K.Shape max_shapes shapes_at s (get_or counts 5 0) numbers)
    (G : PartIn 6 K.Constructor max_constructors constructors_at s (get_or counts 6 0) numbers)
    (H : PartIn 7 K.Rule max_rules rules_at s (get_or counts 7 0) numbers)
    (I : PartIn rows_body K.Row max_rows 0 s n rows) where
  abbrev setting : Setting
  setting = record {
    values = A.records;
    arities = B.records;
    dependencies = C.records;
    types = D.records;
    predicates = E.records;
    shapes = F.records;
    constructors = G.records;
    rules = H.records;
  }

  abbrev pack : Pack
  pack = record { setting = setting; rows = I.records }

  unpacks : unpack s ≡ some pack
  unfolding unpack_within
  unpacks = rw (A.read, B.read, C.read, D.read, E.read, F.read, G.read, H.read, I.read)

  counts_are : take rows_body counts ≡ counts_of setting
  counts_are =
      let long : length (take rows_body counts) ≡ rows_body = length-take-le rows_body counts (omega arith) in
      let all = each_at rows_body (λ i. get_or counts i 0 ≡ get_or (counts_of setting) i 0)
      (A.many, (B.many, (C.many, (D.many, (E.many, (F.many, (G.many, (H.many, tt))))))))
      in
      ext_get_or 0 (take rows_body counts) (counts_of setting) long (λ i h. get_or-take rows_body counts i 0 (omega arith) ∙ all i (omega arith))

  bare : SettingNumbers setting (set counts rows_body n) numbers
  bare = record {
    counted = take-set-le rows_body counts rows_body n (omega arith) ∙ counts_are;
    relations = B.held;
    dependencies = C.held;
    shapes = F.held;
    arities = held_map (λ x xs h. ap (λ (ys : List ℕ). get_or ys 0 0) h.are) G.held;
    rules = H.held;
  }

  setting_held : SettingHeld s setting (set counts rows_body n) numbers
  setting_held = record { bare = bare; values = A.held; types = D.held; predicates = E.held; constructors = G.held }

  pack_loaded : PackLoaded s (set counts rows_body n) numbers rows
  pack_loaded = record {
    pack = pack;
    is = unpacks;
    held = record {
      setting = setting_held;
      many = get_or-set_same counts rows_body n 0 (omega arith) ∙ I.many;
      holds_rows = record { are = rows_flat I.records 0 rows I.held };
    };
  }

pub before_done : {i n : ℕ} {s counts numbers₀ numbers rows₀ rows : List ℕ} → Before i s counts numbers₀ numbers → rows_body ≤ i → PartLoaded rows_body s n rows₀ rows
    → PackLoaded s (set counts rows_body n) numbers rows
unfolding body_kind limit_of place_of
before_done {counts = counts} b h p =
    pack_loaded counts b.nine (b.each 0 (omega arith)) (b.each 1 (omega arith)) (b.each 2 (omega arith)) (b.each 3 (omega arith))
    (b.each 4 (omega arith)) (b.each 5 (omega arith)) (b.each 6 (omega arith)) (b.each 7 (omega arith)) p.part
