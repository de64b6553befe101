-- Laws of reading a rule at a cursor: its atoms one after another, its head by its parts, and the whole. Assumes nothing.
use borrow.Author.Tests.{le-leb, lt-leb, lt-ltb, le-ltb}
use mathlib.Core.Bool.{true}
use mathlib.Core.List.{List, [], ◌∷◌}
use mathlib.Core.Path.{◌≡◌, refl, sym, ap, ◌∙◌}
use native.Mathlib.Nat.{sub-zero}
use native.Mathlib.Omega.{arith}
use Prim.Native.Nat.{ℕ, zero, suc, ◌+◌, ◌-◌, ◌≤◌, ◌<◌, zero-le}
use Rattle.meaning.specs.Limits.{max_atoms, max_variables}
use Rattle.meaning.specs.Pack.{Atom, Head, Term, has_type, links_to, links_to_value}
use Rattle.meaning.specs.Tests.{within}
use Rattle.pack.specs.Kinds.{KindOf, ReadAs, kind_number, kind_read}
use Rattle.pack.specs.Readers.{◌>>=◌, byte, byte_in}
use Rattle.pack.specs.Records.{atom, atoms, term, head_of, rule}
use Rattle.pack.specs.Shown.{Got, Not, Skipped, head_at, object_of, RuleGot}
use Rattle.pack.specs.declared.cursor.Cursor.{Cursor}
use Rattle.pack.specs.declared.cursor.Head.{Head as HeadPlaces}
use Rattle.pack.specs.declared.kinds.HeadKind.{HeadKind}
use Rattle.pack.specs.declared.kinds.HeadKind.TheVariants as H
use Rattle.std.specs.Option.{unwrap_or}
use Rattle.std.specs.Prelude.{Option, Some, None}
use Rattle.pack.proofs.Reading.{byte_in_got, byte_in_out, then_got, then_not, then_bad, give_got, only_got, only_not}

-- ---- atoms: i of n are read, and c is past them

pub record Atoms (c₀ : Cursor) (n i : ℕ) (c : Cursor) : Type 0 where
  pub within : i ≤ n
  pub whole : (as' : List Atom) (d : Cursor) → Got (atoms (n - i)) c as' d → Skipped (atoms n) c₀ d
  pub broken : Not (atoms (n - i)) c → Not (atoms n) c₀

pub atoms_start : {c : Cursor} (n : ℕ) → Atoms c n 0 c
atoms_start n = record { within = zero-le; whole = λ as' d g. record { it = as'; got = rw sub-zero at g }; broken = λ b. rw sub-zero at b }

module _ {c₀ c : Cursor} {n i : ℕ} (p : Atoms c₀ n i c) (h : i < n) where
  pub atoms_on : {a : Atom} {d : Cursor} → Got atom c a d → Atoms c₀ n (i + 1) d
  unfolding atoms
  atoms_on {a} g =
      let e : n - i ≡ suc (n - (i + 1)) = omega arith in
      record {
        within = omega arith;
        whole = λ as' d' r.
            let all : Got (atoms (n - i)) c (a ∷ as') d' = rw e (then_got _ g (then_got _ r give_got)) in
            p.whole (a ∷ as') d' all;
        broken = λ b. p.broken (rw e (then_bad _ g (then_not _ b)));
      }

  pub atoms_stuck : Not atom c → Not (atoms n) c₀
  unfolding atoms
  atoms_stuck b = let e : n - i ≡ suc (n - (i + 1)) = omega arith in p.broken (rw e (then_not _ b))

pub atoms_done : {c₀ c : Cursor} {n i : ℕ} → Atoms c₀ n i c → n ≤ i → Skipped (atoms n) c₀ c
unfolding atoms
atoms_done {n} {i} p h = let e : n - i ≡ 0 = omega arith in p.whole [] _ (rw e give_got)

-- ---- what follows the label

module _ (t : Term) (l : ℕ) {c : Cursor} where
  pub object_none : Got (object_of H.Type t l) c (has_type t l) c
  unfolding object_of
  object_none = give_got

  pub object_term : {u : Term} {d : Cursor} → Got term c u d → Got (object_of H.Link t l) c (links_to t l u) d
  unfolding object_of
  object_term g = then_got _ g give_got

  pub object_not_term : Not term c → Not (object_of H.Link t l) c
  unfolding object_of
  object_not_term n = then_not _ n

  pub object_variable : {v : ℕ} {d : Cursor} → Got byte c v d → v < max_variables → Got (object_of H.Value t l) c (links_to_value t l v) d
  unfolding object_of
  object_variable {v} g h = then_got _ g (then_got _ (only_got (lt-ltb v max_variables h)) give_got)

  pub object_not : Not byte c → Not (object_of H.Value t l) c
  unfolding object_of
  object_not n = then_not _ n

  pub object_out : {v : ℕ} {d : Cursor} → Got byte c v d → max_variables ≤ v → Not (object_of H.Value t l) c
  unfolding object_of
  object_out {v} g h = then_bad _ g (then_not _ (only_not v (le-ltb v max_variables h)))

-- ---- the head: its kind; a term, a byte, and what follows by its kind

module _ {c d : Cursor} {n : ℕ} (g : Got byte c n d) where
  pub kind_got : (k : HeadKind) → n ≡ kind_number k → Got (byte_in 0 2) c (kind_number k) d
  kind_got k e = byte_in_got 0 2 (rw e at g) (small k)
    where
      small : (k : HeadKind) → within 0 2 (kind_number k) ≡ true
      small H.Type = refl
      small H.Link = refl
      small H.Value = refl

  pub kind_out : 2 < n → Not (byte_in 0 2) c
  kind_out h = byte_in_out 0 2 g (rw (le-leb 0 n zero-le, lt-leb n 2 h) refl)

read_kind : (n : ℕ) → head_of n ≡ head_of (kind_number (kind_read n))
unfolding head_of
read_kind zero = refl
read_kind (suc zero) = refl
read_kind (suc (suc k)) = refl

-- the kind of a number, or that of a value where it has none
pub read_as : (n : ℕ) (o : Option HeadKind) → KindOf n o → ReadAs n (unwrap_or o H.Value)
read_as n (Some k) e = rw e (record { kind = same k; heads = refl })
  where
    same : (k : HeadKind) → k ≡ kind_read (kind_number k)
    same H.Type = refl
    same H.Link = refl
    same H.Value = refl
read_as n None h = record { kind = sym (above n h); heads = read_kind n ∙ ap (λ k. head_of (kind_number k)) (above n h) }
  where
    above : (n : ℕ) → 2 < n → kind_read n ≡ H.Value
    above zero h = absurd (omega (arith, h))
    above (suc zero) h = absurd (omega (arith, h))
    above (suc (suc k)) h = refl

by_kind : (kind : HeadKind) → head_of (kind_number kind) ≡ ◌>>=◌ term (λ t. ◌>>=◌ byte (object_of kind t))
unfolding head_of object_of
by_kind H.Type = refl
by_kind H.Link = refl
by_kind H.Value = refl

module _ {c : Cursor} (kind : HeadKind) where
  pub head_not : Not term c → Not (head_of (kind_number kind)) c
  head_not n = rw (by_kind kind) (then_not _ n)

  module _ {t : Term} {d : Cursor} (g : Got term c t d) where
    pub head_unlabelled : Not byte d → Not (head_of (kind_number kind)) c
    head_unlabelled n = rw (by_kind kind) (then_bad _ g (then_not _ n))

    module _ {l : ℕ} {e : Cursor} (b : Got byte d l e) where
      pub head_got : {h : Head} {f : Cursor} → Got (object_of kind t l) e h f → Got (head_of (kind_number kind)) c h f
      head_got o = rw (by_kind kind) (then_got _ g (then_got _ b o))

      pub head_no_object : Not (object_of kind t l) e → Not (head_of (kind_number kind)) c
      head_no_object n = rw (by_kind kind) (then_bad _ g (then_bad _ b n))

-- ---- the whole rule

pub rule_not : {c : Cursor} → Not (byte_in 1 max_atoms) c → Not rule c
unfolding rule
rule_not a = then_not _ a

module _ {c first : Cursor} {n : ℕ} (a : Got (byte_in 1 max_atoms) c n first) where
  pub rule_no_atoms : Not (atoms n) first → Not rule c
  unfolding rule
  rule_no_atoms b = then_bad _ a (then_not _ b)

  module _ {past : Cursor} (b : Skipped (atoms n) first past) where
    pub rule_no_kind : Not (byte_in 0 2) past → Not rule c
    unfolding rule
    rule_no_kind k = then_bad _ a (then_bad _ b.got (then_not _ k))

    module _ (kind : HeadKind) {at : Cursor} (k : Got (byte_in 0 2) past (kind_number kind) at) where
      pub rule_headless : Not (head_of (kind_number kind)) at → Not rule c
      unfolding rule
      rule_headless h = then_bad _ a (then_bad _ b.got (then_bad _ k (then_not _ h)))

      pub rule_got : {x : HeadPlaces} {d : Cursor} {few : n ≤ max_atoms} → Got (head_of (kind_number kind)) at (head_at x) d → RuleGot c (record { count = n; first = first; head = x; few = few }) d
      unfolding rule
      rule_got h = record {
        list = b.it;
        past = past;
        counted = a;
        listed = b.got;
        got = then_got _ a (then_got _ b.got (then_got _ k (then_got _ h give_got)));
      }
