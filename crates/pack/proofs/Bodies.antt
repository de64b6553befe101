-- Each record takes a byte or more, so a body is the record in front, then the records of the rest. Assumes nothing.
use lib.ListN.{length}
use lib.Seq.{slice_empty, length-slice}
use mathlib.Core.Bool.{Bool, true, false}
use mathlib.Core.List.{List, [], ◌∷◌}
use mathlib.Core.Option.{Option, none, some, none-ne-some, some-injective}
use mathlib.Core.Path.{◌≡◌, refl, ap}
use native.Mathlib.Nat.{not-suc-le-zero}
use native.Mathlib.Omega.{arith}
use Prim.Native.Nat.{ℕ, zero, suc, ◌-◌, ◌≤◌, ◌<◌}
use Rattle.meaning.specs.Limits.{max_arguments, max_atoms, max_prefix_bytes}
use Rattle.meaning.specs.Tests.{within}
use Rattle.pack.specs.Kinds.{reader_of}
use Rattle.pack.specs.Readers.{Read, Reader, give, only, ◌>>=◌, byte, byte_in, bytes, sized}
use Rattle.pack.specs.Records.{value, relation, dependency, name, shape, constructor, tuple, atom, atoms, term, head_of, rule, row, variable}
use Rattle.pack.specs.Shown.{left, Got, Not}
use Rattle.pack.specs.Unpack.{also, records, read_all}
use Rattle.pack.specs.declared.cursor.Cursor.{Cursor}
use Rattle.pack.specs.declared.kinds.Kind.{Kind}
use Rattle.pack.specs.declared.kinds.Kind.TheVariants as K
use Rattle.pack.proofs.Bounds.{next_some}

-- ---- readers take bytes away

module _ {A : Type 0} where
  abbrev pub Keeps : Reader A → Type 0
  Keeps reader = (s : List ℕ) (r : Read A) → reader s ≡ some r → length r.rest ≤ length s

  abbrev pub Shrinks : Reader A → Type 0
  Shrinks reader = (s : List ℕ) (r : Read A) → reader s ≡ some r → length r.rest < length s

  rest_of : {r q : Read A} → ◌≡◌ {A = Option (Read A)} (some r) (some q) → r.rest ≡ q.rest
  rest_of e = ap (λ (x : Read A). x.rest) (some-injective _ _ e)

  give_keeps : (a : A) → Keeps (give a)
  give_keeps a s r e = omega (arith, ap length (rest_of e))

  only_keeps : (b : Bool) (a : A) → Keeps (only b a)
  only_keeps true a s r e = omega (arith, ap length (rest_of e))
  only_keeps false a s r e = absurd (none-ne-some r e)

  weaker : {m : Reader A} → Shrinks m → Keeps m
  weaker k s r e = omega (arith, k s r e)

module _ {A B : Type 0} where
  bind_keeps : {m : Reader A} (f : A → Reader B) → Keeps m → ((a : A) → Keeps (f a)) → Keeps (◌>>=◌ m f)
  bind_keeps {m} f k l s r e =
      let h = next_some (m s) f r e in
      omega (arith, k s h.0 h.1, l h.0.got h.0.rest r h.2)

  bind_shrinks : {m : Reader A} (f : A → Reader B) → Shrinks m → ((a : A) → Keeps (f a)) → Shrinks (◌>>=◌ m f)
  bind_shrinks {m} f k l s r e =
      let h = next_some (m s) f r e in
      omega (arith, k s h.0 h.1, l h.0.got h.0.rest r h.2)

byte_shrinks : Shrinks byte
unfolding byte
byte_shrinks [] r e = absurd (none-ne-some r e)
byte_shrinks (b ∷ s) r e = omega (arith, ap length (rest_of e))

byte_keeps : Keeps byte
byte_keeps = weaker byte_shrinks

byte_in_shrinks : (lo hi : ℕ) → Shrinks (byte_in lo hi)
unfolding byte_in
byte_in_shrinks lo hi = bind_shrinks _ byte_shrinks (λ b. only_keeps (within lo hi b) b)

bytes_keeps : (ok : ℕ → Bool) (n : ℕ) → Keeps (bytes ok n)
unfolding bytes
bytes_keeps ok zero = give_keeps []
bytes_keeps ok (suc n) = bind_keeps _ byte_keeps (λ b. bind_keeps _ (only_keeps (ok b) b) (λ c. bind_keeps _ (bytes_keeps ok n) (λ bs. give_keeps (c ∷ bs))))

sized_shrinks : (ok : ℕ → Bool) (lo hi : ℕ) → Shrinks (sized ok lo hi)
unfolding sized
sized_shrinks ok lo hi = bind_shrinks _ (byte_in_shrinks lo hi) (bytes_keeps ok)

tuple_shrinks : {A : Type 0} (make : ℕ → List ℕ → A) (ok : ℕ → Bool) (most : ℕ) → Shrinks (tuple make ok most)
unfolding tuple
tuple_shrinks make ok most = bind_shrinks _ byte_shrinks (λ r. bind_keeps _ (weaker (sized_shrinks ok 1 most)) (λ xs. give_keeps (make r xs)))

pub atom_shrinks : Shrinks atom
unfolding atom
atom_shrinks = tuple_shrinks _ _ _

term_keeps : Keeps term
unfolding term
term_keeps = weaker (tuple_shrinks _ _ _)

atoms_keeps : (n : ℕ) → Keeps (atoms n)
unfolding atoms
atoms_keeps zero = give_keeps []
atoms_keeps (suc n) = bind_keeps _ (weaker atom_shrinks) (λ a. bind_keeps _ (atoms_keeps n) (λ as'. give_keeps (a ∷ as')))

head_of_keeps : (k : ℕ) → Keeps (head_of k)
unfolding head_of
head_of_keeps zero = bind_keeps _ term_keeps (λ t. bind_keeps _ byte_keeps (λ c. give_keeps _))
head_of_keeps (suc zero) = bind_keeps _ term_keeps (λ t. bind_keeps _ byte_keeps (λ p. bind_keeps _ term_keeps (λ u. give_keeps _)))
head_of_keeps (suc (suc k)) =
    bind_keeps _ term_keeps (λ t. bind_keeps _ byte_keeps (λ p. bind_keeps _ byte_keeps (λ v. bind_keeps _ (only_keeps (variable v) v) (λ w. give_keeps _))))

pub shrinks_of : (k : Kind) → Shrinks (reader_of k)
unfolding value relation dependency name shape constructor rule row
shrinks_of K.Value = sized_shrinks _ _ _
shrinks_of K.Relation = byte_in_shrinks _ _
shrinks_of K.Dependency = bind_shrinks _ byte_shrinks (λ r. bind_keeps _ byte_keeps (λ x. bind_keeps _ byte_keeps (λ y. give_keeps _)))
shrinks_of K.Name = sized_shrinks _ _ _
shrinks_of K.Shape =
    bind_shrinks _ byte_shrinks (λ t. bind_keeps _ byte_keeps (λ p. bind_keeps _ byte_keeps (λ x. bind_keeps _ (weaker (byte_in_shrinks 1 4)) (λ m. give_keeps _))))
shrinks_of K.Constructor = bind_shrinks _ (byte_in_shrinks 1 max_arguments) (λ k. bind_keeps _ (weaker (sized_shrinks _ 1 max_prefix_bytes)) (λ p. give_keeps _))
shrinks_of K.Rule =
    bind_shrinks _ (byte_in_shrinks 1 max_atoms) (λ n. bind_keeps _ (atoms_keeps n) (λ as'. bind_keeps _ (weaker (byte_in_shrinks 0 2)) (λ k. bind_keeps _ (head_of_keeps k) (λ h. give_keeps _))))
shrinks_of K.Row = tuple_shrinks _ _ _

-- ---- the record in front, then the records of the rest

module _ {A : Type 0} (reader : Reader A) (shrinks : Shrinks reader) where
  -- how many turns are allowed makes no difference, where they are enough
  enough : (k l : ℕ) (s : List ℕ) → length s < k → length s < l → records reader k s ≡ records reader l s
  unfolding records
  enough zero l s hk hl = absurd (not-suc-le-zero hk)
  enough (suc k) zero s hk hl = absurd (not-suc-le-zero hl)
  enough (suc k) (suc l) [] hk hl = refl
  enough (suc k) (suc l) (b ∷ s) hk hl = go (reader (b ∷ s)) refl
      (λ r e. enough k l r.rest (omega (arith, shrinks (b ∷ s) r e)) (omega (arith, shrinks (b ∷ s) r e)))
    where
      go : (o : Option (Read A)) → reader (b ∷ s) ≡ o
          → ((r : Read A) → reader (b ∷ s) ≡ some r → records reader k r.rest ≡ records reader l r.rest)
          → records reader (suc k) (b ∷ s) ≡ records reader (suc l) (b ∷ s)
      go none h f = rw (h, records)
      go (some r) h f = rw (h, records, f r h)

  pub read_all_nil : read_all reader [] ≡ some []
  unfolding read_all records
  read_all_nil = refl

  pub read_all_stop : (s : List ℕ) → 0 < length s → reader s ≡ none → read_all reader s ≡ none
  unfolding read_all records
  read_all_stop [] l h = absurd (not-suc-le-zero l)
  read_all_stop (b ∷ s) l h = rw (h, records)

  pub read_all_on : (s : List ℕ) (r : Read A) → reader s ≡ some r → read_all reader s ≡ also r.got (read_all reader r.rest)
  unfolding read_all records
  read_all_on [] r h = absurd (not-suc-le-zero (shrinks [] r h))
  read_all_on (b ∷ s) r h =
      rw (h, records) (ap (also r.got) (enough (suc (length s)) (suc (length r.rest)) r.rest (omega (arith, shrinks (b ∷ s) r h)) (omega arith)))

  -- the same at a cursor
  pub all_end : (c : Cursor) → c.end ≤ c.at → read_all reader (left c) ≡ some []
  all_end c h = let e : c.at ≡ c.end = omega (arith, c.before) in rw (e, slice_empty) read_all_nil

  module _ {c : Cursor} where
    pub all_stop : c.at < c.end → Not reader c → read_all reader (left c) ≡ none
    all_stop h n = read_all_stop (left c) (rw (length-slice c.at c.end c.bytes.now c.inside) (omega arith)) n.reads

    pub all_on : {a : A} {d : Cursor} → Got reader c a d → read_all reader (left c) ≡ also a (read_all reader (left d))
    all_on g = read_all_on (left c) _ g.reads

    -- the cursor moves on
    pub onward : {a : A} {d : Cursor} → Got reader c a d → c.at < d.at
    onward {a} {d} g =
        let k = shrinks (left c) _ g.reads in
        let m : length (left d) < length (left c) = k in
        omega (arith, m, length-slice c.at c.end c.bytes.now c.inside, length-slice d.at d.end d.bytes.now d.inside, g.same, d.before)

    pub less : {a : A} {d : Cursor} → Got reader c a d → d.end - d.at < c.end - c.at
    less {a} {d} g = omega (arith, onward g, g.same, d.before)
