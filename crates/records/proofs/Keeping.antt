-- What was read fits 16 bits, and what was kept of it are the record's numbers. Assumes nothing.
use lib.Dec.{eqb}
use borrow.Author.Tests.{eqb-true}
use lib.ListN.{length}
use mathlib.Core.Bool.{Bool, true, false, cond}
use mathlib.Core.List.{List, [], ◌∷◌}
use mathlib.Core.Path.{◌≡◌, refl, sym, ap, ◌∙◌}
use native.Mathlib.Omega.{arith}
use Prim.Native.Nat.{ℕ, zero, suc, ◌+◌, ◌≤◌}
use Rattle.meaning.specs.Limits.{literal_target, max_name_bytes, max_pack_bytes, max_prefix_bytes, max_value_bytes}
use Rattle.meaning.specs.Pack.{Atom, Literal, Row, multiplicity_number, type}
use Rattle.pack.proofs.Reading.{length_at}
use Rattle.pack.specs.Kinds.{RecordOf, reader_of}
use Rattle.meaning.specs.Tables.{row_numbers}
use Rattle.pack.specs.Records.{atoms, dependency, multiplicity_of, name, relation, row, rule, target_of, value}
use Rattle.pack.specs.Shown.{ConstructorGot, Got, RuleGot, ShapeGot, TextGot, head_at, text_at}
use Rattle.pack.specs.declared.cursor.Cursor.{Cursor}
use Rattle.pack.specs.declared.cursor.Constructor.{Constructor}
use Rattle.pack.specs.declared.cursor.Rule.{Rule}
use Rattle.pack.specs.declared.cursor.Text.{Text}
use Rattle.pack.specs.declared.kinds.Kind.{Kind}
use Rattle.pack.specs.declared.kinds.Kind.TheVariants as K
use Rattle.records.specs.PackHeld.{width}
use Rattle.records.specs.Kept.{PlaceFits, Put, RecordKept, RulePut, SamePlace}
use Rattle.records.specs.Numbers.{NumbersOf, TextAt, TextNumbers, target_number}
use Rattle.records.proofs.RuleParts.{length_rule}
use Rattle.records.proofs.Terms.{length_row}
use Rattle.records.proofs.Short.{name_short, prefix_short, value_short}

-- ---- it fits

fits_at : (s : List ℕ) (t : Text) (most : ℕ) → length s ≤ max_pack_bytes → t.start + t.len ≤ length s → length (text_at s t.start t.len) ≤ most → most ≤ max_value_bytes → PlaceFits t
fits_at s t most l i h m = (omega (arith, l, i), omega (arith, h, m, length_at s t.start t.len i))

module _ {c d : Cursor} where
  pub value_fits : {t : Text} → length c.bytes.now ≤ max_pack_bytes → TextGot value c t d → PlaceFits t
  value_fits {t} l g = fits_at c.bytes.now t max_value_bytes l g.inside (value_short _ _ g.got.reads) (omega arith)

  pub name_fits : {t : Text} → length c.bytes.now ≤ max_pack_bytes → TextGot name c t d → PlaceFits t
  name_fits {t} l g = fits_at c.bytes.now t max_name_bytes l g.inside (name_short _ _ g.got.reads) (omega arith)

  pub constructor_fits : {k : Constructor} → length c.bytes.now ≤ max_pack_bytes → ConstructorGot c k d → PlaceFits k.prefix
  constructor_fits {k} l g = fits_at c.bytes.now k.prefix max_prefix_bytes l g.inside (prefix_short _ _ g.got.reads) (omega arith)

-- ---- the record's numbers are kept

text_at_lem : (s : List ℕ) (t : Text) (p : ℕ) → t.start + t.len ≤ length s → SamePlace t p → TextAt s (text_at s t.start t.len) p t.len
text_at_lem s t p i q = record { is = sym (q.same s); inside = omega (arith, i, q.within) }

text_numbers : (s : List ℕ) (t : Text) (p : ℕ) → t.start + t.len ≤ length s → SamePlace t p → TextNumbers s (text_at s t.start t.len) (p ∷ t.len ∷ [])
text_numbers s t p i q = record { start = p; len = t.len; are = refl; stands = text_at_lem s t p i q }

target_number_lem : (b : ℕ) → target_number (target_of b) ≡ b
unfolding target_of
target_number_lem b = go (eqb b literal_target) refl
  where
    go : (t : Bool) → eqb b literal_target ≡ t → target_number (cond t Literal (type b)) ≡ b
    go true e = sym (eqb-true b literal_target e)
    go false e = refl

multiplicity_number_lem : (m : ℕ) → 1 ≤ m → m ≤ 4 → multiplicity_number (multiplicity_of m) ≡ m
unfolding multiplicity_of
multiplicity_number_lem zero l h = absurd (let z : ⊥ = omega arith in z)
multiplicity_number_lem (suc zero) l h = refl
multiplicity_number_lem (suc (suc zero)) l h = refl
multiplicity_number_lem (suc (suc (suc zero))) l h = refl
multiplicity_number_lem (suc (suc (suc (suc zero)))) l h = refl
multiplicity_number_lem (suc (suc (suc (suc (suc m))))) l h = absurd (let z : ⊥ = omega arith in z)

module _ {c d : Cursor} {at : ℕ} {out out' : List ℕ} where
  kept : (k : Kind) {numbers : List ℕ} (x : RecordOf k) → Got (reader_of k) c x d → NumbersOf k c.bytes.now x numbers → length numbers ≡ width k
      → Put numbers at out out' → RecordKept k c at out out' d
  kept k {numbers} x g n m w = record { it = x; got = g; numbers = numbers; are = n; many = m; put = w }

  pub value_kept : {t : Text} {p : ℕ} → TextGot value c t d → SamePlace t p → Put (p ∷ t.len ∷ []) at out out' → RecordKept K.Value c at out out' d
  value_kept {t} {p} g q w = kept K.Value _ g.got (text_numbers c.bytes.now t p g.inside q) refl w

  pub name_kept : {t : Text} {p : ℕ} → TextGot name c t d → SamePlace t p → Put (p ∷ t.len ∷ []) at out out' → RecordKept K.Name c at out out' d
  name_kept {t} {p} g q w = kept K.Name _ g.got (text_numbers c.bytes.now t p g.inside q) refl w

  pub relation_kept : {b : ℕ} → Got relation c b d → Put (b ∷ []) at out out' → RecordKept K.Relation c at out out' d
  relation_kept g w = kept K.Relation _ g refl refl w

  pub dependency_kept : {k x y : ℕ} → Got dependency c (record { relation = k; left = x; right = y }) d → Put (k ∷ x ∷ y ∷ []) at out out' → RecordKept K.Dependency c at out out' d
  dependency_kept g w = kept K.Dependency _ g refl refl w

  pub shape_kept : {t p x n : ℕ} → ShapeGot c t p x n d → Put (t ∷ p ∷ x ∷ n ∷ []) at out out' → RecordKept K.Shape c at out out' d
  shape_kept {t} {p} {x} {n} g w = kept K.Shape _ g.got (rw (target_number_lem x, multiplicity_number_lem n g.some.0 g.some.1)) refl w

  pub constructor_kept : {k : Constructor} {p : ℕ} → ConstructorGot c k d → SamePlace k.prefix p → Put (k.arity ∷ p ∷ k.prefix.len ∷ []) at out out' → RecordKept K.Constructor c at out out' d
  constructor_kept {k} {p} g q w =
      kept K.Constructor _ g.got (record { start = p; len = k.prefix.len; are = refl; stands = text_at_lem c.bytes.now k.prefix p g.inside q }) refl w

  pub row_kept : {r : Row} {xs : List ℕ} → Got row c r d → xs ≡ row_numbers r → Put xs at out out' → RecordKept K.Row c at out out' d
  row_kept {r} g e w = kept K.Row r g e (ap length e ∙ length_row r) w

  -- the count need not be known to be read at c
  pub rule_kept_from : (r : Rule) {list : List Atom} {past : Cursor} → Got (atoms r.count) r.first list past
      → Got rule c (record { atoms = list; head = head_at r.head }) d → RulePut r at out out' → RecordKept K.Rule c at out out' d
  rule_kept_from r {list} {past} l g w =
      let h = head_at r.head in
      kept K.Rule (record { atoms = list; head = h }) g refl (length_rule list h) (w list past l)

  pub rule_kept : {r : Rule} → RuleGot c r d → RulePut r at out out' → RecordKept K.Rule c at out out' d
  rule_kept {r} g w = rule_kept_from r g.listed g.got w
