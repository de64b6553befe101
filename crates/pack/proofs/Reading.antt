-- Laws of readers at a cursor: what one step, and one step after another, gives. Assumes nothing.
use Rattle.meaning.proofs.Cases.{and_both, case_on}
use Rattle.meaning.proofs.Lists.Parts.{drop_slice, slice_front, take_slice}
use borrow.Author.Tests.{ltb-true, ltb-false, leb-true}
use lib.Dec.{leb, ltb}
use lib.ListN.{length, take, drop, get_or}
use lib.Seq.{slice, slice_empty, length-slice}
use mathlib.Core.Bool.{Bool, true, false, ◌&&◌}
use mathlib.Core.List.{List, [], ◌∷◌}
use mathlib.Core.Option.{Option, none, some, some-injective}
use mathlib.Core.Path.{◌≡◌, refl, sym, ap, subst, ◌∙◌}
use native.Mathlib.Nat.{not-suc-le-zero, le_of_suc-le-suc}
use native.Mathlib.Omega.{arith}
use Prim.Native.Nat.{ℕ, zero, suc, ◌+◌, ◌-◌, ◌≤◌, ◌<◌}
use Rattle.meaning.specs.Limits.{max_arguments, max_prefix_bytes}
use Rattle.meaning.specs.Tests.{within, every}
use Rattle.std.specs.Prelude.{Option as Answer, Some, None}
use Rattle.pack.specs.Readers.{Read, Reader, give, only, next, ◌>>=◌, byte, byte_in, bytes, sized}
use Rattle.pack.proofs.Bounds.{sized_bound}
use Rattle.pack.proofs.Runs.{part_is}
use Rattle.pack.specs.Records.{constructor, prefix_byte, shape, tuple}
use Rattle.pack.specs.Shown.{left, Past, Got, Not, text_at, TextGot, ConstructorGot, TupleShown, ShapeGot, Pair, pair}
use Rattle.pack.specs.declared.cursor.Constructor.{Constructor}
use Rattle.pack.specs.declared.cursor.Cursor.{Cursor}
use Rattle.pack.specs.declared.cursor.Text.{Text}
use Rattle.pack.specs.declared.cursor.Tuple.{Tuple}

pub length_at : (s : List ℕ) (start len : ℕ) → start + len ≤ length s → length (text_at s start len) ≡ len
length_at s start len h = omega (arith, length-slice start (start + len) s h)

-- ---- one byte

module _ (c : Cursor) where
  pub byte_got : {d : Cursor} → c.at < c.end → Past c 1 d → Got byte c (get_or c.bytes.now c.at 0) d
  unfolding byte
  byte_got h p = record {
    reads = rw (p.bytes, p.at, p.same, slice_front c.at c.end c.bytes.now 0 h c.inside);
    bytes = p.bytes;
    same = p.same;
  }

  pub byte_not : c.end ≤ c.at → Not byte c
  unfolding byte
  byte_not h = record { reads = let e : c.at ≡ c.end = omega (arith, c.before) in rw (e, slice_empty) }

-- what was read is the byte at the cursor
pub record ByteIs (c : Cursor) (b : ℕ) (d : Cursor) : Type 0 where
  pub before : c.at < c.end
  pub is : b ≡ get_or c.bytes.now c.at 0
  pub next : d.at ≡ c.at + 1

pub byte_is : {c d : Cursor} {b : ℕ} → Got byte c b d → ByteIs c b d
unfolding byte
byte_is {c} {d} {b} g = case_on (ltb c.at c.end) (λ e. here (ltb-true _ _ e)) (λ e. absurd (there (ltb-false _ _ e)))
  where
    there : c.end ≤ c.at → ⊥
    there h =
        let e : c.at ≡ c.end = omega (arith, c.before) in
        let n = rw (e, slice_empty) at g.reads in
        let z : ◌≡◌ {A = ℕ} 0 1 = cc in omega arith

    here : c.at < c.end → ByteIs c b d
    here h =
        let q = some-injective _ _ (rw (slice_front c.at c.end c.bytes.now 0 h c.inside) at g.reads) in
        let r : slice (c.at + 1) c.end c.bytes.now ≡ left d = ap (λ (x : Read ℕ). x.rest) q in
        let l = length-slice d.at d.end d.bytes.now d.inside in
        record {
          before = h;
          is = sym (ap (λ (x : Read ℕ). x.got) q);
          next = omega (arith, ap length r, length-slice (c.at + 1) c.end c.bytes.now c.inside, l, g.same, d.before);
        }

-- ---- one step after another

module _ {A B : Type 0} {m : Reader A} {c : Cursor} (f : A → Reader B) where
  pub then_not : Not m c → Not (◌>>=◌ m f) c
  then_not n = record { reads = rw n.reads }

  pub then_got : {a : A} {b : B} {d e : Cursor} → Got m c a d → Got (f a) d b e → Got (◌>>=◌ m f) c b e
  then_got g h = record { reads = rw g.reads h.reads; bytes = h.bytes ∙ g.bytes; same = h.same ∙ g.same }

  pub then_bad : {a : A} {d : Cursor} → Got m c a d → Not (f a) d → Not (◌>>=◌ m f) c
  then_bad g n = record { reads = rw g.reads n.reads }

module _ {A : Type 0} {a : A} {c : Cursor} where
  pub give_got : Got (give a) c a c
  give_got = record { reads = refl; bytes = refl; same = refl }

  pub only_got : {b : Bool} → b ≡ true → Got (only b a) c a c
  only_got e = rw e (record { reads = refl; bytes = refl; same = refl })

pub only_not : {A : Type 0} (a : A) {b : Bool} {c : Cursor} → b ≡ false → Not (only b a) c
only_not a e = rw e (record { reads = refl })

-- ---- a byte in bounds

module _ {c d : Cursor} {b : ℕ} (lo hi : ℕ) where
  pub byte_in_got : Got byte c b d → within lo hi b ≡ true → Got (byte_in lo hi) c b d
  unfolding byte_in
  byte_in_got g e = then_got _ g (only_got e)

  pub byte_in_out : Got byte c b d → within lo hi b ≡ false → Not (byte_in lo hi) c
  unfolding byte_in
  byte_in_out g e = then_bad _ g (only_not b e)

pub byte_in_not : {c : Cursor} (lo hi : ℕ) → Not byte c → Not (byte_in lo hi) c
unfolding byte_in
byte_in_not lo hi n = then_not _ n

within_le : (lo hi b : ℕ) → within lo hi b ≡ true → (lo ≤ b) × (b ≤ hi)
within_le lo hi b e = go (leb lo b) refl e
  where
    go : (x : Bool) → leb lo b ≡ x → (x && leb b hi) ≡ true → (lo ≤ b) × (b ≤ hi)
    go true l h = (leb-true lo b l, leb-true b hi h)
    go false l h = absurd (let z : ◌≡◌ {A = ℕ} 0 1 = cc in omega arith)

-- a byte that was read in bounds is in bounds
pub byte_in_bound : {c d : Cursor} {b : ℕ} (lo hi : ℕ) → Got (byte_in lo hi) c b d → (lo ≤ b) × (b ≤ hi)
unfolding byte_in
byte_in_bound {c} {d} {b} lo hi g = go (byte (left c)) g.reads
  where
    last : (x : Bool) (q : Read ℕ) → within lo hi q.got ≡ x → only x q.got q.rest ≡ some (record { got = b; rest = left d }) → (lo ≤ b) × (b ≤ hi)
    last true q e h = let k : q.got ≡ b = ap (λ (r : Read ℕ). r.got) (some-injective _ _ h) in rw k at (within_le lo hi q.got e)
    last false q e h = absurd (let z : ◌≡◌ {A = ℕ} 0 1 = cc in omega arith)

    go : (o : Option (Read ℕ)) → next o (λ x. only (within lo hi x) x) ≡ some (record { got = b; rest = left d }) → (lo ≤ b) × (b ≤ hi)
    go none h = absurd (let z : ◌≡◌ {A = ℕ} 0 1 = cc in omega arith)
    go (some q) h = last (within lo hi q.got) q refl h

-- ---- a run of bytes

module _ (ok : ℕ → Bool) where
  bytes_some : (n : ℕ) (s : List ℕ) → n ≤ length s → every ok (take n s) ≡ true → bytes ok n s ≡ some (record { got = take n s; rest = drop n s })
  unfolding bytes byte
  bytes_some zero s h t = refl
  bytes_some (suc n) [] h t = absurd (not-suc-le-zero h)
  bytes_some (suc n) (b ∷ s) h t =
      let e = and_both (ok b) (every ok (take n s)) t in
      rw (e.0, bytes_some n s (le_of_suc-le-suc h) e.1)

  bytes_none : (n : ℕ) (s : List ℕ) → every ok (take n s) ≡ false → bytes ok n s ≡ none
  unfolding bytes byte
  bytes_none zero s t = absurd (let z : ◌≡◌ {A = ℕ} 0 1 = cc in omega arith)
  bytes_none (suc n) [] t = refl
  bytes_none (suc n) (b ∷ s) t = go (ok b) refl (bytes_none n s)
    where
      go : (v : Bool) → ok b ≡ v → (every ok (take n s) ≡ false → bytes ok n s ≡ none) → bytes ok (suc n) (b ∷ s) ≡ none
      go true e r = rw (e, r (rw e at t))
      go false e r = rw e

  bytes_short : (n : ℕ) (s : List ℕ) → length s < n → bytes ok n s ≡ none
  unfolding bytes byte
  bytes_short zero s h = absurd (not-suc-le-zero h)
  bytes_short (suc n) [] h = refl
  bytes_short (suc n) (b ∷ s) h = go (ok b) refl (bytes_short n s (le_of_suc-le-suc h))
    where
      go : (t : Bool) → ok b ≡ t → bytes ok n s ≡ none → bytes ok (suc n) (b ∷ s) ≡ none
      go true e r = rw (e, r)
      go false e r = rw e

-- ---- a length or count, and that many bytes

module _ {c d : Cursor} {n : ℕ} (ok : ℕ → Bool) (lo hi : ℕ) (g : Got (byte_in lo hi) c n d) where
  long : length (left d) ≡ d.end - d.at
  long = length-slice d.at d.end d.bytes.now d.inside

  pub sized_got : {e : Cursor} → n ≤ d.end - d.at → every ok (text_at d.bytes.now d.at n) ≡ true → Past d n e → TextGot (sized ok lo hi) c (record { start = d.at; len = n }) e
  unfolding sized
  sized_got {e} h t p =
      let fits : d.at + n ≤ d.end = omega (arith, d.before) in
      let part : take n (left d) ≡ text_at d.bytes.now d.at n = take_slice n d.at d.end d.bytes.now fits in
      let rest : drop n (left d) ≡ left e = drop_slice n d.at d.end d.bytes.now ∙ rw (p.bytes, p.at, p.same) in
      let more : Got (bytes ok n) d (text_at d.bytes.now d.at n) e = record {
        reads = bytes_some ok n (left d) (rw long h) (rw part t) ∙ rw (part, rest);
        bytes = p.bytes;
        same = p.same;
      } in
      record {
        got = subst (λ (s : List ℕ). Got (sized ok lo hi) c (text_at s d.at n) e) g.bytes (then_got (bytes ok) g more);
        inside = omega (arith, ap length g.bytes, d.inside);
      }

  pub sized_short : d.end - d.at < n → Not (sized ok lo hi) c
  unfolding sized
  sized_short h = then_bad (bytes ok) g (record { reads = bytes_short ok n (left d) (rw long h) })

  pub sized_bad : n ≤ d.end - d.at → every ok (text_at d.bytes.now d.at n) ≡ false → Not (sized ok lo hi) c
  unfolding sized
  sized_bad h t =
      let fits : d.at + n ≤ d.end = omega (arith, d.before) in
      then_bad (bytes ok) g (record { reads = bytes_none ok n (left d) (rw (take_slice n d.at d.end d.bytes.now fits) t) })

pub sized_not : {c : Cursor} (ok : ℕ → Bool) (lo hi : ℕ) → Not (byte_in lo hi) c → Not (sized ok lo hi) c
unfolding sized
sized_not ok lo hi n = then_not (bytes ok) n

-- ---- a constructor

pub constructor_got : {c d e : Cursor} {k : Constructor} → Got (byte_in 1 max_arguments) c k.arity d → TextGot (sized prefix_byte 1 max_prefix_bytes) d k.prefix e → ConstructorGot c k e
unfolding constructor
constructor_got {c} {d} {e} {k} g t =
    let p = k.prefix in
    record {
      got = subst (λ (s : List ℕ). Got constructor c (record { arity = k.arity; prefix = text_at s p.start p.len }) e) g.bytes (then_got _ g (then_got _ t.got give_got));
      inside = omega (arith, ap length g.bytes, t.inside);
    }

-- ---- a number and the bytes that it goes with

pub tuple_few : (ok : ℕ → Bool) (most : ℕ) {x : Text} {d e : Cursor} → TextGot (sized ok 1 most) d x e → length (take (x.start + x.len - x.start) (drop x.start d.bytes.now)) ≤ most
tuple_few ok most {x} {d} t = rw (part_is x.start x.len d.bytes.now) (sized_bound ok 1 most _ _ t.got.reads).few

module _ {A : Type 0} (make : ℕ → List ℕ → A) (ok : ℕ → Bool) (most : ℕ) {c : Cursor} where
  pub tuple_got : {n : ℕ} {x : Text} {d e : Cursor} {items : List ℕ} → Got byte c n d → TextGot (sized ok 1 most) d x e → items ≡ take (x.start + x.len - x.start) (drop x.start d.bytes.now)
      → Got (tuple make ok most) c (make n items) e
  unfolding tuple
  tuple_got {x = x} {d = d} g t i = rw (i, part_is x.start x.len d.bytes.now) (then_got _ g (then_got _ t.got give_got))

  pub tuple_not : Not byte c → Not (tuple make ok most) c
  unfolding tuple
  tuple_not n = then_not _ n

  pub tuple_bad : {n : ℕ} {d : Cursor} → Got byte c n d → Not (sized ok 1 most) d → Not (tuple make ok most) c
  unfolding tuple
  tuple_bad g n = then_bad _ g (then_not _ n)

module _ {A : Type 0} (make : ℕ → List ℕ → A) (ok : ℕ → Bool) (most : ℕ) where
  -- the same bytes, made into another thing
  pub tuple_as : (c : Cursor) (r : Answer (Tuple most × Cursor)) → TupleShown pair (tuple pair ok most) c r → TupleShown make (tuple make ok most) c r
  unfolding tuple
  tuple_as c (Some p) g = record { reads = reads_as (byte (left c)) g.reads; bytes = g.bytes; same = g.same }
    where
      t : Tuple most
      t = p.0

      d : Cursor
      d = p.1

      after_as : (n : ℕ) (o : Option (Read (List ℕ))) → next o (λ xs. give (pair n xs)) ≡ some (record { got = pair t.number (t.items.now); rest = left d })
          → next o (λ xs. give (make n xs)) ≡ some (record { got = make t.number (t.items.now); rest = left d })
      after_as n none e = absurd (let z : ◌≡◌ {A = ℕ} 0 1 = cc in omega arith)
      after_as n (some q) e =
          let p = some-injective _ _ e in
          let a : n ≡ t.number = ap (λ (x : Read Pair). x.got.number) p in
          let b : q.got ≡ t.items.now = ap (λ (x : Read Pair). x.got.items) p in
          let f : q.rest ≡ left d = ap (λ (x : Read Pair). x.rest) p in
          rw (a, b, f)

      reads_as : (o : Option (Read ℕ)) → next o (λ n. ◌>>=◌ (sized ok 1 most) (λ xs. give (pair n xs))) ≡ some
          (record { got = pair t.number (t.items.now); rest = left d })
          → next o (λ n. ◌>>=◌ (sized ok 1 most) (λ xs. give (make n xs))) ≡ some (record { got = make t.number (t.items.now); rest = left d })
      reads_as none e = absurd (let z : ◌≡◌ {A = ℕ} 0 1 = cc in omega arith)
      reads_as (some q) e = after_as q.got (sized ok 1 most q.rest) e
  tuple_as c None h = record { reads = reads_not (byte (left c)) h.reads }
    where
      after_not : (n : ℕ) (o : Option (Read (List ℕ))) → next o (λ xs. give (pair n xs)) ≡ none → next o (λ xs. give (make n xs)) ≡ none
      after_not n none e = refl
      after_not n (some q) e = absurd (let z : ◌≡◌ {A = ℕ} 0 1 = cc in omega arith)

      reads_not : (o : Option (Read ℕ)) → next o (λ n. ◌>>=◌ (sized ok 1 most) (λ xs. give (pair n xs))) ≡ none → next o (λ n. ◌>>=◌ (sized ok 1 most) (λ xs. give (make n xs))) ≡ none
      reads_not none e = refl
      reads_not (some q) e = after_not q.got (sized ok 1 most q.rest) e

-- ---- a shape, by its four bytes

pub shape_got : {c c1 c2 c3 d : Cursor} {t p x m : ℕ} → Got byte c t c1 → Got byte c1 p c2 → Got byte c2 x c3 → Got (byte_in 1 4) c3 m d → ShapeGot c t p x m d
unfolding shape
shape_got {c} {c1} {t} {p} a b e f =
    let u = byte_is a in
    let v = byte_is b in
    let s = c.bytes.now in
    let two : c.at + 2 ≤ length s = omega (arith, v.before, u.next, a.same, c.inside) in
    let q : get_or c1.bytes.now c1.at 0 ≡ get_or s (c.at + 1) 0 = ap (λ (xs : List ℕ). get_or xs c1.at 0) a.bytes ∙ ap (λ (i : ℕ). get_or s i 0) u.next in
    record {
      got = then_got _ a (then_got _ b (then_got _ e (then_got _ f give_got)));
      cell = rw (
        slice_front c.at (c.at + 2) s 0 (omega arith) two,
        slice_front (c.at + 1) (c.at + 2) s 0 (omega arith) two,
        one_more c.at,
        slice_empty,
        u.is,
        v.is,
        q,
      );
      inside = two;
      some = byte_in_bound 1 4 f;
    }
  where
    one_more : (n : ℕ) → n + 1 + 1 ≡ n + 2
    one_more n = omega arith
