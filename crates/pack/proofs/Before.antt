-- Card 14: bytes with no more types and shapes than a pack had come to what they came to, refused or not; and every pack accepted
-- before is accepted, as the same pack. Assumes nothing.
use borrow.Author.Tests.{le-leb}
use lib.Dec.{leb}
use lib.ListN.{length}
use mathlib.Core.Bool.{Bool, false, true}
use mathlib.Core.List.{List}
use mathlib.Core.Option.{Option, none, some, some-injective}
use mathlib.Core.Path.{◌≡◌, refl, sym, ap, ◌∙◌}
use native.Mathlib.Omega.{arith}
use Prim.Native.Nat.{ℕ, ◌≤◌}
use Rattle.meaning.specs.Limits.{max_dependencies, max_predicates, max_relations, max_shapes, max_types, max_values}
use Rattle.meaning.specs.Pack.{Pack}
use Rattle.pack.proofs.Unpacking.{body_records, then_some}
use Rattle.pack.specs.Before.{FewBefore, first_refusal_before, shapes_before, types_before}
use Rattle.pack.specs.Checked.{Refusal, accepted, five_to_eight, check_within, first_refusal, number_of, on_pack, refused}
use Rattle.pack.specs.Contents.{bad_size, body_of}
use Rattle.pack.specs.Readers.{Reader}
use Rattle.pack.specs.Records.{dependency, name, relation, shape, value}
use Rattle.pack.specs.Unpack.{at_most, body, read_all, unpack_within}

-- a body with no more records than the lower limit
same_body : {A : Type 0} (reader : Reader A) (m n : ℕ) (s : List ℕ) → m ≤ n → ((xs : List A) → read_all reader s ≡ some xs → length xs ≤ m) → body reader m s ≡ body reader n s
unfolding body
same_body {A} reader m n s l few = go (read_all reader s) refl
  where
    go : (o : Option (List A)) → read_all reader s ≡ o → at_most m o ≡ at_most n o
    go none e = refl
    go (some xs) e = let h = few xs e in let a : leb (length xs) m ≡ true = le-leb (length xs) m h in let b : leb (length xs) n ≡ true = le-leb (length xs) n (omega arith) in rw (a, b, at_most)

unpack_same : (s : List ℕ) → FewBefore s → unpack_within types_before shapes_before s ≡ unpack_within max_types max_shapes s
unfolding unpack_within
unpack_same s few = rw (same_body name types_before max_types (body_of s 3) (omega arith) few.types, same_body shape shapes_before max_shapes (body_of s 5) (omega arith) few.shapes)

-- "for a pack with at most 8 types and 96 shapes, refused or not": whatever is looked for after 4
pub checks_same : (s : List ℕ) → FewBefore s → (rs : List Refusal) → check_within types_before shapes_before rs s ≡ check_within max_types max_shapes rs s
unfolding check_within
checks_same s few rs = ap (λ (o : Option Pack). elim (bad_size s) [ true ↦ refused 3 | false ↦ on_pack rs o ]) (unpack_same s few)

pub before_same : (s : List ℕ) → FewBefore s → first_refusal_before s ≡ first_refusal s
unfolding first_refusal
before_same s few = checks_same s few five_to_eight

-- what was accepted had no more
few_of : (s : List ℕ) (P : Pack) → unpack_within types_before shapes_before s ≡ some P → FewBefore s
unfolding unpack_within
few_of s P h =
    let a = then_some (body value max_values (body_of s 0)) _ P h in
    let b = then_some (body relation max_relations (body_of s 1)) _ P a.2 in
    let c = then_some (body dependency max_dependencies (body_of s 2)) _ P b.2 in
    let d = then_some (body name types_before (body_of s 3)) _ P c.2 in
    let e = then_some (body name max_predicates (body_of s 4)) _ P d.2 in
    let f = then_some (body shape shapes_before (body_of s 5)) _ P e.2 in
    let t = body_records name types_before (body_of s 3) _ d.1 in
    let u = body_records shape shapes_before (body_of s 5) _ f.1 in
    record {
      types = λ ts x. let z = ap length (some-injective _ _ (sym x ∙ t.0)) in let y = t.1 in omega arith;
      shapes = λ ss x. let z = ap length (some-injective _ _ (sym x ∙ u.0)) in let y = u.1 in omega arith;
    }

-- "Every pack accepted before"
pub accepted_before : (s : List ℕ) (P : Pack) → first_refusal_before s ≡ accepted P → first_refusal s ≡ accepted P
unfolding check_within on_pack
accepted_before s P h = size (bad_size s) refl
  where
    read : bad_size s ≡ false → (o : Option Pack) → unpack_within types_before shapes_before s ≡ o → first_refusal s ≡ accepted P
    read b none e = absurd (let z : ◌≡◌ {A = ℕ} 4 0 = ap number_of (rw (b, check_within, e) at h) in omega arith)
    read b (some Q) e = sym (before_same s (few_of s Q e)) ∙ h

    size : (b : Bool) → bad_size s ≡ b → first_refusal s ≡ accepted P
    size true b = absurd (let z : ◌≡◌ {A = ℕ} 3 0 = ap number_of (rw (b, check_within) at h) in omega arith)
    size false b = read b (unpack_within types_before shapes_before s) refl
