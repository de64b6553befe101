-- What refusal 4 leaves: a pack that is read from bytes is within the bounds of refusal 7. Assumes nothing.
use borrow.Author.Tests.{eqb-false, leb-true}
use lib.Dec.{eqb, leb}
use lib.ListN.{drop, length, length-append}
use mathlib.Core.Bool.{Bool, true, false, cond}
use mathlib.Core.List.{List, [], ◌∷◌}
use mathlib.Core.Logic.{◌≢◌}
use mathlib.Core.Option.{Option, none, some, none-ne-some, some-injective}
use mathlib.Core.Path.{◌≡◌, refl, sym, ap, subst}
use native.Mathlib.Omega.{arith}
use Prim.Native.Nat.{ℕ, zero, suc, ◌≤◌, ◌<◌}
use Rattle.records.specs.PackHeld.{PackHeld}
use Rattle.meaning.specs.Limits.{literal_target, max_arguments, max_atoms, max_columns, max_head_variables, setting_length}
use Rattle.meaning.specs.Member.{◌∈◌, here, there}
use Rattle.meaning.specs.Pack.{Atom, Literal, Pack, Target, Term, type}
use Rattle.meaning.specs.Tables.{head_arguments}
use Rattle.meaning.specs.Tests.{within}
use Rattle.pack.specs.Contents.{body_of, length_of, start_of}
use Rattle.pack.specs.Readers.{Read, Reader, ◌>>=◌, byte, byte_in, bytes, give, next, only, sized}
use Rattle.pack.specs.Records.{any_byte, atom, atom_of, atoms, head_of, relation, row, row_of, rule, shape, target_of, term, term_of, tuple, variable}
use Rattle.pack.specs.Unpack.{also, read_all, records, unpack}
use Rattle.pack.proofs.Bounds.{constructor_bounded, rule_fine}
use Rattle.meaning.proofs.Cases.{and_both}
use Rattle.pack.proofs.Unpacking.{unpacked}
use Rattle.names.specs.PackGiven.{Bounds, PackGiven, RowBounds, TargetBound}
use Rattle.meaning.proofs.Lists.Bytes.{AllBytes, bytes_cons, bytes_drop, bytes_first, bytes_nil, bytes_rest, bytes_take}

-- ---- readers: what each gives of bytes, and that bytes are left

record Gives {A : Type 0} (m : Reader A) (Q : A → Type 0) : Type 0 where
  gives : (s : List ℕ) (r : Read A) → AllBytes s → m s ≡ some r → Q r.got × AllBytes r.rest

module _ {A : Type 0} {Q : A → Type 0} where
  gives_give : (a : A) → Q a → Gives (give a) Q
  gives_give a q = record { gives = λ s r t e. subst (λ (x : Read A). Q x.got × AllBytes x.rest) (some-injective _ r e) (q, t) }

  gives_only : (b : Bool) (a : A) → (b ≡ true → Q a) → Gives (only b a) Q
  gives_only true a f = gives_give a (f refl)
  gives_only false a f = record { gives = λ s r t e. absurd (none-ne-some r e) }

gives_then : {A B : Type 0} {Q : A → Type 0} {R : B → Type 0} {m : Reader A} (f : A → Reader B) → Gives m Q → ((a : A) → Q a → Gives (f a) R) → Gives (◌>>=◌ m f) R
gives_then {A} {B} {Q} {R} {m} f g h = record { gives = λ s r t e. go s r t (m s) refl e }
  where
    go : (s : List ℕ) (r : Read B) → AllBytes s → (o : Option (Read A)) → m s ≡ o → next o f ≡ some r → R r.got × AllBytes r.rest
    go s r t none e n = absurd (none-ne-some r n)
    go s r t (some q) e n = let a = g.gives s q t e in (h q.got a.0).gives q.rest r a.1 n

gives_byte : Gives byte (λ x. x < 256)
unfolding byte
gives_byte = record { gives = go }
  where
    go : (s : List ℕ) (r : Read ℕ) → AllBytes s → byte s ≡ some r → (r.got < 256) × AllBytes r.rest
    go [] r t e = absurd (none-ne-some r e)
    go (b ∷ s) r t e = subst (λ (x : Read ℕ). (x.got < 256) × AllBytes x.rest) (some-injective _ r e) (bytes_first t, bytes_rest t)

gives_in : (lo hi : ℕ) → Gives (byte_in lo hi) (λ x. x ≤ hi)
unfolding byte_in
gives_in lo hi = gives_then _ gives_byte (λ b h. gives_only (within lo hi b) b (λ e. leb-true b hi (and_both (leb lo b) (leb b hi) e).1))

gives_bytes : (ok : ℕ → Bool) (n : ℕ) → Gives (bytes ok n) (λ xs. (length xs ≡ n) × AllBytes xs)
unfolding bytes
gives_bytes ok zero = gives_give [] (refl, bytes_nil)
gives_bytes ok (suc n) =
    gives_then _ gives_byte (λ b h. gives_then {Q = λ x. x < 256} _ (gives_only (ok b) b (λ e. h)) (λ c k.
    gives_then _ (gives_bytes ok n) (λ bs l. gives_give (c ∷ bs) (ap suc l.0, bytes_cons k l.1))))

gives_sized : (ok : ℕ → Bool) (lo hi : ℕ) → Gives (sized ok lo hi) (λ xs. (length xs ≤ hi) × AllBytes xs)
unfolding sized
gives_sized ok lo hi =
    gives_then _ (gives_in lo hi) (λ n h. record { gives = λ s r t e. let q = (gives_bytes ok n).gives s r t e in ((omega (arith, h, q.0.0), q.0.1), q.1) })

gives_tuple : {A : Type 0} {Q : A → Type 0} (make : ℕ → List ℕ → A) (ok : ℕ → Bool) (most : ℕ)
    → ((r : ℕ) (xs : List ℕ) → length xs ≤ most → AllBytes xs → Q (make r xs)) → Gives (tuple make ok most) Q
unfolding tuple
gives_tuple make ok most f = gives_then _ gives_byte (λ r h. gives_then _ (gives_sized ok 1 most) (λ xs l. gives_give (make r xs) (f r xs l.0 l.1)))

-- ---- records

gives_relation : Gives relation (λ k. k ≤ max_columns)
unfolding relation
gives_relation = gives_in 1 max_columns

no_literal : (x : ℕ) → target_of x ≢ type literal_target
unfolding target_of
no_literal x e = go (eqb x literal_target) refl e
  where
    same : {t u : ℕ} → ◌≡◌ {A = Target} (type t) (type u) → t ≡ u
    same q = cc

    go : (b : Bool) → eqb x literal_target ≡ b → cond b Literal (type x) ≡ type literal_target → ⊥
    go true h q = let z : ◌≡◌ {A = ℕ} 0 1 = cc in omega arith
    go false h q = eqb-false x literal_target h (same q)

gives_shape : Gives shape TargetBound
unfolding shape
gives_shape =
    gives_then _ gives_byte (λ t h. gives_then _ gives_byte (λ p k. gives_then _ gives_byte (λ x l. gives_then _ (gives_in 1 4) (λ m j.
    gives_give _ (no_literal x)))))

gives_row : Gives row RowBounds
unfolding row
gives_row = gives_tuple row_of any_byte max_columns (λ r xs l t. record { short = l; used = λ v m. omega (arith, t.each v m) })

abbrev Short : List Atom → Type 0
Short as' = (a : Atom) → a ∈ as' → length a.variables ≤ max_columns

gives_atoms : (n : ℕ) → Gives (atoms n) (λ as'. (length as' ≡ n) × Short as')
unfolding atoms atom
gives_atoms zero = gives_give [] (refl, λ a m. elim m [ ])
gives_atoms (suc n) =
    gives_then {Q = λ (a : Atom). length a.variables ≤ max_columns} _ (gives_tuple atom_of variable max_columns (λ r xs l t. l)) (λ a h.
    gives_then _ (gives_atoms n) (λ as' l. gives_give (a ∷ as') (ap suc l.0, both a as' h l.1)))
  where
    both : (y : Atom) (ys : List Atom) → length y.variables ≤ max_columns → Short ys → Short (y ∷ ys)
    both y ys h t a (here e) = rw e h
    both y ys h t a (there m) = t a m

gives_term : Gives term (λ (t : Term). length t.variables ≤ max_arguments)
unfolding term
gives_term = gives_tuple term_of variable max_arguments (λ r xs l t. l)

gives_head : (k : ℕ) → Gives (head_of k) (λ h. length (head_arguments h) ≤ max_head_variables)
unfolding head_of head_arguments
gives_head zero = gives_then _ gives_term (λ t h. gives_then _ gives_byte (λ c j. gives_give _ (omega (arith, h))))
gives_head (suc zero) =
    gives_then _ gives_term (λ t h. gives_then _ gives_byte (λ p j. gives_then _ gives_term (λ u k.
    gives_give _ (omega (arith, h, k, length-append t.variables u.variables)))))
gives_head (suc (suc k)) =
    gives_then _ gives_term (λ t h. gives_then _ gives_byte (λ p j. gives_then _ gives_byte (λ v i.
    gives_then {Q = λ (x : ℕ). x < 256} _ (gives_only (variable v) v (λ e. i)) (λ w l. gives_give _ (omega (arith, h, length-append t.variables (w ∷ [])))))))

gives_rule : Gives rule (λ r. length (head_arguments r.head) ≤ max_head_variables)
unfolding rule
gives_rule =
    gives_then _ (gives_in 1 max_atoms) (λ n h. gives_then _ (gives_atoms n) (λ as' l. gives_then _ (gives_in 0 2) (λ k j.
    gives_then _ (gives_head k) (λ x i. gives_give _ i))))

-- ---- bodies

module _ {A : Type 0} {reader : Reader A} {Q : A → Type 0} (g : Gives reader Q) where
  all_records : (k : ℕ) (s : List ℕ) (xs : List A) → AllBytes s → records reader k s ≡ some xs → (x : A) → x ∈ xs → Q x
  unfolding records
  all_records zero s xs t e x i = absurd (none-ne-some xs e)
  all_records (suc k) [] xs t e x i = absurd (nothing (subst (λ l. x ∈ l) (sym (some-injective [] xs e)) i))
    where
      nothing : x ∈ [] → ⊥
      nothing h = elim h [ ]
  all_records (suc k) (b ∷ s) xs t e x i = go (reader (b ∷ s)) refl e (λ u ys v q j. all_records k u ys v q x j)
    where
      found : (r : Read A) → Q r.got → (o : Option (List A)) → also r.got o ≡ some xs → ((ys : List A) → o ≡ some ys → x ∈ ys → Q x) → Q x
      found r h none f rest = absurd (none-ne-some xs f)
      found r h (some ys) f rest = last (subst (λ l. x ∈ l) (sym (some-injective _ xs f)) i)
        where
          last : x ∈ (r.got ∷ ys) → Q x
          last (here p) = subst Q (sym p) h
          last (there j) = rest ys refl j

      go : (o : Option (Read A)) → reader (b ∷ s) ≡ o
          → (elim o as (λ _. Option (List A)) [ none ↦ none | some r ↦ also r.got (records reader k r.rest) ]) ≡ some xs
          → ((u : List ℕ) (ys : List A) → AllBytes u → records reader k u ≡ some ys → x ∈ ys → Q x) → Q x
      go none h f rest = absurd (none-ne-some xs f)
      go (some r) h f rest = let q = g.gives (b ∷ s) r t h in found r q.0 (records reader k r.rest) f (λ ys. rest r.rest ys q.1)

  in_body : (s : List ℕ) (k : ℕ) (xs : List A) → AllBytes s → read_all reader (body_of s k) ≡ some xs → (x : A) → x ∈ xs → Q x
  unfolding read_all body_of
  in_body s k xs t = all_records _ (body_of s k) xs (bytes_take (length_of s k) (drop (start_of s k) s) (bytes_drop (start_of s k) s t))

pub bounds_of : (s : List ℕ) (P : Pack) → AllBytes s → unpack s ≡ some P → Bounds P
bounds_of s P t e =
    let u = unpacked s P e in
    record {
      values = u.values.1;
      relations = u.relations.1;
      dependencies = u.dependencies.1;
      types = u.types.1;
      predicates = u.predicates.1;
      shapes = u.shapes.1;
      constructors = u.constructors.1;
      rules = u.rules.1;
      rows = u.rows.1;
      arity = in_body gives_relation s 1 _ t u.relations.0;
      target = in_body gives_shape s 5 _ t u.shapes.0;
      arguments = λ k m. let a = constructor_bounded (body_of s 6) P.setting.constructors u.constructors.0 k m in (a.some_arguments, a.few_arguments);
      rule = λ r m.
          let f = rule_fine (body_of s 7) P.setting.rules u.rules.0 r m in
          record {
            atoms = f.few;
            variables = λ a i. (f.each a i).short;
            below = λ a i. (f.each a i).below;
            arguments = in_body gives_rule s 7 _ t u.rules.0 r m;
          };
      row = in_body gives_row s 8 _ t u.rows.0;
    }

-- what loading ensures is what the checks of refusal 7 take
pub given_of : {s : List ℕ} {P : Pack} {counts numbers rows : List ℕ} → AllBytes s → unpack s ≡ some P → PackHeld s P counts numbers rows
    → setting_length ≤ length numbers → PackGiven P counts numbers rows
given_of {s} {P} t e h l = record {
  setting = record { bare = h.setting.bare; bounds = bounds_of s P t e; long = l };
  many = h.many;
  holds_rows = h.holds_rows;
}
