-- Lists of records written one after the other. Assumes nothing.
use lib.ListN.{length, length-append}
use mathlib.Core.List.{List, [], ◌++◌, flatten}
use mathlib.Core.Logic.Iff
use mathlib.Core.Logic.{◌↔◌, ◌⊎◌, inl, inr}
use mathlib.Core.Path.{◌≡◌, refl, sym, ap, subst, ◌∙◌}
use native.Mathlib.Decide.{ℕ_discrete}
use native.Mathlib.Omega.{arith}
use Prim.Native.Nat.{ℕ, ◌+◌, ◌*◌, ◌<◌, ◌≤◌}
use Rattle.invent.specs.Invent.{Upto}
use Rattle.node_list.specs.Records.{overwritten}
use Rattle.triple_list.specs.Triples.{RecordsListed}
use Rattle.meaning.proofs.Lists.SetLists.{empty_list, joined_list}
use Rattle.meaning.specs.Ordered.{◌≺◌}
use Rattle.meaning.specs.Pack.{Pack}
use Rattle.meaning.proofs.Lists.Overwriting.{nothing_written, parts_written}
use Rattle.meaning.proofs.Lists.Blocks.{flat_join}

-- ---- one number more

pub upto_more : {A : Type 0} (Q : ℕ → A → Type 0) (n : ℕ) (x : A) → Upto Q (n + 1) x ↔ (Upto Q n x ⊎ Q n x)
upto_more {A} Q n x = (λ u. split u (ℕ_discrete u.at n), join)
  where
    split : (u : Upto Q (n + 1) x) → Dec (u.at ≡ n) → Upto Q n x ⊎ Q n x
    split u (yes e) = inr (subst (λ k. Q k x) e u.holds)
    split u (no d) = inl (record { at = u.at; below = let b = u.below in omega arith; holds = u.holds })

    join : Upto Q n x ⊎ Q n x → Upto Q (n + 1) x
    join (inl u) = record { at = u.at; below = let b = u.below in omega arith; holds = u.holds }
    join (inr q) = record { at = n; below = omega arith; holds = q }

-- ---- lists in a slice

module _ {These : Pack → Type 0} where
  pub listed_none : {Q : Pack → List ℕ → Type 0} (first : ℕ) (out : List ℕ) → ((P : Pack) → These P → (x : List ℕ) → ¬ Q P x)
      → RecordsListed These Q first out out first
  unfolding flatten
  listed_none first out n = record {
    records = [];
    are = λ P h. empty_list (n P h);
    long = refl;
    count = omega arith;
    written = nothing_written (first * 3) out;
  }

  pub listed_join : {Q R Z : Pack → List ℕ → Type 0} {first next r : ℕ} {out₀ out out' : List ℕ} → RecordsListed These Q first out₀ out next
      → RecordsListed These R next out out' r
      → next * 3 ≤ length out₀ → ((P : Pack) (x y : List ℕ) → Q P x → R P y → x ≺ y) → ((P : Pack) (x : List ℕ) → Z P x ↔ (Q P x ⊎ R P x))
      → RecordsListed These Z first out₀ out' r
  listed_join {first = first} {next} {r} {out₀} {out} {out'} a b room o z = record {
    records = a.records ++ b.records;
    are = λ P h. joined_list (a.are P h) (b.are P h) (o P) (z P);
    long = ap length (flat_join a.records b.records) ∙ length-append (flatten a.records) (flatten b.records)
        ∙ (let p = a.long in let q = b.long in let n = length-append a.records b.records in omega arith);
    count = let p = a.count in let q = b.count in let n = length-append a.records b.records in omega arith;
    written =
        b.written ∙ rw (a.written, place) (parts_written (first * 3) (length (flatten a.records)) (flatten a.records) out₀ refl
        (subst (λ x. x ≤ length out₀) place room) (flatten b.records))
        ∙ ap (λ (l : List ℕ). overwritten (first * 3) l out₀) (sym (flat_join a.records b.records));
  }
    where
      place : next * 3 ≡ first * 3 + length (flatten a.records)
      place = let p = a.count in let q = a.long in omega arith

  pub listed_iff : {Q R : Pack → List ℕ → Type 0} {first r : ℕ} {out out' : List ℕ} → ((P : Pack) (x : List ℕ) → Q P x ↔ R P x)
      → RecordsListed These Q first out out' r → RecordsListed These R first out out' r
  listed_iff f l = record {
    records = l.records;
    are = λ P h. record { ascending = (l.are P h).ascending; members = λ x. Iff.trans ((l.are P h).members x) (f P x) };
    long = l.long;
    count = l.count;
    written = l.written;
  }

  -- fewer packs
  pub listed_for : {Fewer : Pack → Type 0} {Q : Pack → List ℕ → Type 0} {first r : ℕ} {out out' : List ℕ} → ((P : Pack) → Fewer P → These P)
      → RecordsListed These Q first out out' r → RecordsListed Fewer Q first out out' r
  listed_for f l = record { records = l.records; are = λ P h. l.are P (f P h); long = l.long; count = l.count; written = l.written }

  -- one number more
  pub listed_again : (Q : Pack → ℕ → List ℕ → Type 0) {n first next r : ℕ} {out₀ out out' : List ℕ} → RecordsListed These (λ P. Upto (Q P) n) first out₀ out next
      → RecordsListed These (λ P. Q P n) next out out' r → next * 3 ≤ length out₀ → ((P : Pack) (k : ℕ) → k < n → (x y : List ℕ) → Q P k x → Q P n y → x ≺ y)
      → RecordsListed These (λ P. Upto (Q P) (n + 1)) first out₀ out' r
  listed_again Q {n} a b room o = listed_join a b room (λ P x y u q. o P u.at u.below x y u.holds q) (λ P x. upto_more (Q P) n x)

  pub listed_start : (Q : Pack → ℕ → List ℕ → Type 0) (first : ℕ) (out : List ℕ) → RecordsListed These (λ P. Upto (Q P) 0) first out out first
  listed_start Q first out = listed_none first out (λ P h x u. let b = u.below in omega arith)

  pub listed_from : {Q : Pack → List ℕ → Type 0} {first r : ℕ} {out out' : List ℕ} → RecordsListed These Q first out out' r → first ≤ r
  listed_from l = let c = l.count in omega arith
