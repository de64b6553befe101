-- What refusal 4 leaves of a value, a constructor, a row and a rule: lengths, arities, counts and variables in bounds. Assumes
-- nothing.
use borrow.Author.Tests.{leb-true, ltb-true}
use lib.Dec.{leb}
use lib.ListN.{length}
use mathlib.Core.Bool.{Bool, true, false}
use mathlib.Core.List.{List, [], ◌∷◌}
use mathlib.Core.Option.{Option, none, some, none-ne-some, some-injective}
use mathlib.Core.Path.{◌≡◌, refl, sym, ap, subst, ◌∙◌}
use native.Mathlib.Omega.{arith}
use Prim.Native.Nat.{ℕ, zero, suc, ◌≤◌, ◌<◌}
use Rattle.meaning.specs.Limits.{max_arguments, max_atoms, max_columns, max_prefix_bytes, max_variables}
use Rattle.meaning.specs.Member.{◌∈◌, here, there}
use Rattle.meaning.specs.Pack.{Atom, Constructor, Rule}
use Rattle.meaning.specs.Tests.{within}
use Rattle.pack.specs.Readers.{Read, Reader, only, next, byte, byte_in, bytes, sized}
use Rattle.pack.specs.Records.{atom, atoms, constructor, head_of, rule, tuple, variable}
use Rattle.pack.specs.Unpack.{also, records, read_all}
use Rattle.meaning.proofs.Cases.{and_both}

-- ---- what every record of a body is

module _ {A : Type 0} (reader : Reader A) (Q : A → Type 0) (each : (s : List ℕ) (r : Read A) → reader s ≡ some r → Q r.got) where
  records_all : (k : ℕ) (s : List ℕ) (xs : List A) → records reader k s ≡ some xs → (x : A) → x ∈ xs → Q x
  unfolding records
  records_all zero s xs e x i = absurd (none-ne-some xs e)
  records_all (suc k) [] xs e x i = absurd (nothing (subst (λ l. x ∈ l) (sym (some-injective [] xs e)) i))
    where
      nothing : x ∈ [] → ⊥
      nothing h = elim h [ ]
  records_all (suc k) (b ∷ s) xs e x i = go (reader (b ∷ s)) refl e (λ t ys q j. records_all k t ys q x j)
    where
      found : (r : Read A) → reader (b ∷ s) ≡ some r → (o : Option (List A)) → records reader k r.rest ≡ o → also r.got o ≡ some xs
          → ((ys : List A) → records reader k r.rest ≡ some ys → x ∈ ys → Q x) → Q x
      found r h none q f rest = absurd (none-ne-some xs f)
      found r h (some ys) q f rest = last (subst (λ l. x ∈ l) (sym (some-injective _ xs f)) i)
        where
          last : x ∈ (r.got ∷ ys) → Q x
          last (here p) = subst Q (sym p) (each (b ∷ s) r h)
          last (there j) = rest ys q j

      go : (o : Option (Read A)) → reader (b ∷ s) ≡ o
          → (elim o as (λ _. Option (List A)) [ none ↦ none | some r ↦ also r.got (records reader k r.rest) ]) ≡ some xs
          → ((t : List ℕ) (ys : List A) → records reader k t ≡ some ys → x ∈ ys → Q x) → Q x
      go none h f rest = absurd (none-ne-some xs f)
      go (some r) h f rest = found r h (records reader k r.rest) refl f (rest r.rest)

  pub read_all_lem : (s : List ℕ) (xs : List A) → read_all reader s ≡ some xs → (x : A) → x ∈ xs → Q x
  unfolding read_all
  read_all_lem s xs = records_all (suc (length s)) s xs

-- ---- readers of texts

pub next_some : {A B : Type 0} (o : Option (Read A)) (f : A → Reader B) (r : Read B) → next o f ≡ some r
    → (q : Read A) × (o ≡ some q) × (f q.got q.rest ≡ some r)
next_some none f r e = absurd (none-ne-some r e)
next_some (some q) f r e = (q, refl, e)

only_some : {A : Type 0} (b : Bool) (a : A) (s : List ℕ) (r : Read A) → only b a s ≡ some r → (b ≡ true) × (r.got ≡ a)
only_some true a s r e = (refl, ap (λ (x : Read _). x.got) (sym (some-injective _ r e)))
only_some false a s r e = absurd (none-ne-some r e)

pub got_is : {A : Type 0} {r q : Read A} → ◌≡◌ {A = Option (Read A)} (some r) (some q) → r.got ≡ q.got
got_is e = ap (λ (x : Read _). x.got) (some-injective _ _ e)

byte_in_bound : (lo hi : ℕ) (s : List ℕ) (r : Read ℕ) → byte_in lo hi s ≡ some r → (lo ≤ r.got) × (r.got ≤ hi)
unfolding byte_in
byte_in_bound lo hi s r e =
    let q = next_some (byte s) _ r e in
    let o = only_some (within lo hi q.0.got) q.0.got q.0.rest r q.2 in
    let w = and_both (leb lo q.0.got) (leb q.0.got hi) o.0 in
    (omega (arith, leb-true lo q.0.got w.0, o.1), omega (arith, leb-true q.0.got hi w.1, o.1))

-- so many bytes, each of which passes the test
pub record Passed (ok : ℕ → Bool) (n : ℕ) (xs : List ℕ) : Type 0 where
  pub many : length xs ≡ n
  pub each : (x : ℕ) → x ∈ xs → ok x ≡ true

bytes_passed : (ok : ℕ → Bool) (n : ℕ) (s : List ℕ) (r : Read (List ℕ)) → bytes ok n s ≡ some r → Passed ok n r.got
unfolding bytes
bytes_passed ok zero s r e = subst (Passed ok 0) (got_is e) (record { many = refl; each = λ x m. elim m [ ] })
bytes_passed ok (suc n) s r e =
    let a = next_some (byte s) _ r e in
    let b = next_some (only (ok a.0.got) a.0.got a.0.rest) _ r a.2 in
    let c = next_some (bytes ok n b.0.rest) _ r b.2 in
    let o = only_some (ok a.0.got) a.0.got a.0.rest b.0 b.1 in
    let p = bytes_passed ok n b.0.rest c.0 c.1 in
    subst (Passed ok (suc n)) (got_is c.2) (record { many = ap suc p.many; each = each b.0.got c.0.got (ap ok o.1 ∙ o.0) p.each })
  where
    each : (y : ℕ) (ys : List ℕ) → ok y ≡ true → ((x : ℕ) → x ∈ ys → ok x ≡ true) → (x : ℕ) → x ∈ (y ∷ ys) → ok x ≡ true
    each y ys t h x (here q) = ap ok q ∙ t
    each y ys t h x (there m) = h x m

pub record Sized (ok : ℕ → Bool) (lo hi : ℕ) (xs : List ℕ) : Type 0 where
  pub some : lo ≤ length xs
  pub few : length xs ≤ hi
  pub each : (x : ℕ) → x ∈ xs → ok x ≡ true

pub sized_bound : (ok : ℕ → Bool) (lo hi : ℕ) (s : List ℕ) (r : Read (List ℕ)) → sized ok lo hi s ≡ some r → Sized ok lo hi r.got
unfolding sized
sized_bound ok lo hi s r e =
    let a = next_some (byte_in lo hi s) _ r e in
    let b = byte_in_bound lo hi s a.0 a.1 in
    let p = bytes_passed ok a.0.got a.0.rest r a.2 in
    record { some = omega (arith, b.0, p.many); few = omega (arith, b.1, p.many); each = p.each }

-- ---- constructors

pub record Bounded (k : Constructor) : Type 0 where
  pub some_arguments : 1 ≤ k.arity
  pub few_arguments : k.arity ≤ max_arguments
  pub some_bytes : 1 ≤ length k.prefix
  pub few_bytes : length k.prefix ≤ max_prefix_bytes

pub constructor_bounded : (s : List ℕ) (ks : List Constructor) → read_all constructor s ≡ some ks → (k : Constructor) → k ∈ ks → Bounded k
unfolding constructor
constructor_bounded s ks = read_all_lem constructor Bounded one s ks
  where
    one : (t : List ℕ) (r : Read Constructor) → constructor t ≡ some r → Bounded r.got
    one t r e =
        let a = next_some (byte_in 1 max_arguments t) _ r e in
        let n = byte_in_bound 1 max_arguments t a.0 a.1 in
        let b = next_some (sized _ 1 max_prefix_bytes a.0.rest) _ r a.2 in
        let l = sized_bound _ 1 max_prefix_bytes a.0.rest b.0 b.1 in
        subst Bounded (got_is b.2)
        (record { some_arguments = n.0; few_arguments = n.1; some_bytes = l.some; few_bytes = l.few })

-- ---- atoms

pub record AtomFine (a : Atom) : Type 0 where
  pub short : length a.variables ≤ max_columns
  pub below : (v : ℕ) → v ∈ a.variables → v < max_variables

pub atom_fine : (s : List ℕ) (r : Read Atom) → atom s ≡ some r → AtomFine r.got
unfolding atom tuple
atom_fine s r e =
    let a = next_some (byte s) _ r e in
    let b = next_some (sized variable 1 max_columns a.0.rest) _ r a.2 in
    let z = sized_bound variable 1 max_columns a.0.rest b.0 b.1 in
    subst AtomFine (got_is b.2) (record { short = z.few; below = λ v m. ltb-true v max_variables (z.each v m) })

pub record AtomsFine (n : ℕ) (xs : List Atom) : Type 0 where
  pub many : length xs ≡ n
  pub each : (a : Atom) → a ∈ xs → AtomFine a

pub atoms_fine : (n : ℕ) (s : List ℕ) (r : Read (List Atom)) → atoms n s ≡ some r → AtomsFine n r.got
unfolding atoms
atoms_fine zero s r e = subst (AtomsFine 0) (got_is e) (record { many = refl; each = λ x m. elim m [ ] })
atoms_fine (suc n) s r e =
    let a = next_some (atom s) _ r e in
    let c = next_some (atoms n a.0.rest) _ r a.2 in
    let p = atoms_fine n a.0.rest c.0 c.1 in
    subst (AtomsFine (suc n)) (got_is c.2) (record { many = ap suc p.many; each = each a.0.got c.0.got (atom_fine s a.0 a.1) p.each })
  where
    each : (y : Atom) (ys : List Atom) → AtomFine y → ((x : Atom) → x ∈ ys → AtomFine x) → (x : Atom) → x ∈ (y ∷ ys) → AtomFine x
    each y ys t h x (here q) = subst AtomFine (sym q) t
    each y ys t h x (there m) = h x m

-- ---- rules

pub record RuleFine (r : Rule) : Type 0 where
  pub few : length r.atoms ≤ max_atoms
  pub each : (a : Atom) → a ∈ r.atoms → AtomFine a

pub rule_fine : (s : List ℕ) (rs : List Rule) → read_all rule s ≡ some rs → (r : Rule) → r ∈ rs → RuleFine r
unfolding rule
rule_fine s rs = read_all_lem rule RuleFine one s rs
  where
    one : (t : List ℕ) (r : Read Rule) → rule t ≡ some r → RuleFine r.got
    one t r e =
        let a = next_some (byte_in 1 max_atoms t) _ r e in
        let n = byte_in_bound 1 max_atoms t a.0 a.1 in
        let b = next_some (atoms a.0.got a.0.rest) _ r a.2 in
        let p = atoms_fine a.0.got a.0.rest b.0 b.1 in
        let k = next_some (byte_in 0 2 b.0.rest) _ r b.2 in
        let h = next_some (head_of k.0.got k.0.rest) _ r k.2 in
        subst RuleFine (got_is h.2) (record { few = omega (arith, n.1, p.many); each = p.each })
