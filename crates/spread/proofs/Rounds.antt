-- Rounds until one adds none: they reach the least set, and are at most one more than the facts that they added. Assumes
-- nothing.
use lib.ListN.{get_or, length, get_or-eq_default}
use mathlib.Core.HLevel.{×_discrete}
use mathlib.Core.List.Memᴰ.{map as ∈-map}
use mathlib.Core.List.{List, [], ◌∷◌, flat_map, map}
use mathlib.Core.Logic.{◌↔◌, ◌≢◌}
use mathlib.Core.Path.{◌≡◌, refl, sym, ap, subst}
use native.Mathlib.Decide.{ℕ_discrete}
use native.Mathlib.Omega.{arith}
use Prim.Native.Nat.{ℕ, suc, ◌+◌, ◌≤◌, ◌<◌}
use Rattle.spread.proofs.Walks.{FactsKept, passed_again, passed_more, round_closes, round_keeps, round_only}
use Rattle.spread.specs.Keys.{subject_of}
use Rattle.spread.specs.Rounds.{AddedFact, Round, Rounds, RoundsMade, last, more}
use Rattle.spread.specs.Spread.{Passed, along, held}
use Rattle.meaning.proofs.Cases.{case_lt}
use Rattle.meaning.proofs.Lists.Bits.{members, members_in}
use Rattle.meaning.proofs.Lists.Counting.{number_of}
use Rattle.meaning.proofs.Lists.Members.{below, below_in, joined_in}
use Rattle.meaning.proofs.Model.Same.{same_target}
use Rattle.meaning.proofs.Theory.Rounds.{few_rounds}
use Rattle.meaning.specs.Member.{◌∈◌, here, there}
use Rattle.meaning.specs.Ordered.{InOrder, Number, Over, before, empty}
use Rattle.meaning.specs.Pack.{Setting, Target, type}
use Rattle.meaning.specs.Tables.{set_of_mask}
use Rattle.meaning.specs.TypeSet.{◌∈ₜ◌}
use Rattle.shapes.proofs.Sets.{in?, none_in}

-- what a round that adds none leaves was there
had : {a b : List ℕ} → ((f : ℕ × Target) → ¬ AddedFact a b f) → FactsKept b a
had {a} {b} none i R h = go (in? R (get_or a i 0))
  where
    go : Dec (R ∈ₜ set_of_mask (get_or a i 0)) → R ∈ₜ set_of_mask (get_or a i 0)
    go (yes m) = m
    go (no n) = absurd (none (i, R) (record { has = h; had_not = n }))

-- a fact for each round but the last
record Facts (n : ℕ) (a c : List ℕ) : Type 0 where
  facts : List (ℕ × Target)
  many : n ≡ suc (length facts)
  differ : InOrder ◌≢◌ facts
  added : (f : ℕ × Target) → f ∈ facts → AddedFact a c f

module _ {S : Setting} {triples : List ℕ} where
  rounds_keep : {n : ℕ} {a c : List ℕ} → Rounds S triples n a c → FactsKept a c
  rounds_keep (last r none) i R h = round_keeps r i R h
  rounds_keep (more r f rest) i R h = rounds_keep rest i R (round_keeps r i R h)

  -- ---- the least set

  closed : {a b : List ℕ} → Round S triples a b → FactsKept b a → {i : ℕ} {R : Target} → Passed S triples a i R → R ∈ₜ set_of_mask (get_or b i 0)
  closed r same (held {i} {R} h) = round_keeps r i R h
  closed r same (along {k} {i} {t} {shape} {R} m q d e g) = round_closes r m (record {
    to = e;
    shape = record { member = t; shape = shape; has = same (subject_of k) (type t) (closed r same q); declared = d; holds = g };
  })

  pub rounds_least : {n : ℕ} {a c : List ℕ} → Rounds S triples n a c → (i : ℕ) (R : Target) → (R ∈ₜ set_of_mask (get_or c i 0)) ↔ Passed S triples a i R
  rounds_least (last r none) i R = (round_only r i R, closed r (had none))
  rounds_least (more r f rest) i R =
      let l = rounds_least rest i R in (λ h. passed_again (round_only r) (l.0 h), λ q. l.1 (passed_more (round_keeps r) q))

  -- ---- facts

  rounds_facts : {n : ℕ} {a c : List ℕ} → Rounds S triples n a c → Facts n a c
  rounds_facts (last r none) = record { facts = []; many = refl; differ = empty; added = λ f m. elim m [ ] }
  rounds_facts (more {a = a} {b} {c} {f} r x rest) = go (rounds_facts rest)
    where
      go : {n : ℕ} → Facts n b c → Facts (suc n) a c
      go s = record {
        facts = f ∷ s.facts;
        many = ap suc s.many;
        differ = before (λ g m e. (s.added g m).had_not (subst (λ (h : ℕ × Target). h.1 ∈ₜ set_of_mask (get_or b h.0 0)) e x.has)) s.differ;
        added = added;
      }
        where
          added : (g : ℕ × Target) → g ∈ (f ∷ s.facts) → AddedFact a c g
          added g (here e) = subst (AddedFact a c) (sym e) (record { has = rounds_keep rest f.0 f.1 x.has; had_not = x.had_not })
          added g (there m) = let y = s.added g m in record { has = y.has; had_not = λ h. y.had_not (round_keeps r g.0 g.1 h) }

  pub rounds_over : {n : ℕ} {a c : List ℕ} → Rounds S triples n a c → (k : ℕ) → k + 1 < n → Over k (AddedFact a c)
  rounds_over r k h = let s = rounds_facts r in record { some = s.facts; differ = s.differ; members = s.added; over = omega (arith, s.many) }

  pub rounds_some : {n : ℕ} {a c : List ℕ} → Rounds S triples n a c → 1 ≤ n
  rounds_some r = omega (arith, (rounds_facts r).many)

-- ---- how many facts

added_number : (a c : List ℕ) → (n : ℕ) × Number (AddedFact a c) n
added_number a c = number_of (×_discrete ℕ_discrete same_target) added? listed all
  where
    at : ℕ → List (ℕ × Target)
    at i = map (λ R. (i, R)) (members (set_of_mask (get_or c i 0)))

    listed : List (ℕ × Target)
    listed = flat_map at (below (length c))

    added? : (f : ℕ × Target) → Dec (AddedFact a c f)
    added? f = go (in? f.1 (get_or c f.0 0)) (in? f.1 (get_or a f.0 0))
      where
        go : Dec (f.1 ∈ₜ set_of_mask (get_or c f.0 0)) → Dec (f.1 ∈ₜ set_of_mask (get_or a f.0 0)) → Dec (AddedFact a c f)
        go (yes h) (no n) = yes (record { has = h; had_not = n })
        go (yes h) (yes k) = no (λ x. x.had_not k)
        go (no n) k = no (λ x. n x.has)

    inside : (i : ℕ) (R : Target) → R ∈ₜ set_of_mask (get_or c i 0) → i < length c
    inside i R h = case_lt i (length c) (λ l. l) (λ l. absurd (none_in R (subst (λ x. R ∈ₜ set_of_mask x) (get_or-eq_default c 0 l) h)))

    all : (f : ℕ × Target) → AddedFact a c f → f ∈ listed
    all f x = joined_in at (below_in f.0 (length c) (inside f.0 f.1 x.has)) (∈-map {B = ℕ × Target} (λ R. (f.0, R)) (members_in _ f.1 x.has))

-- the whole
pub settled : {S : Setting} {triples : List ℕ} {n : ℕ} {a c : List ℕ} → Rounds S triples n a c → RoundsMade S triples n a c
settled {a = a} {c} r = record { made = r; few = few_rounds (rounds_some r) (rounds_over r) (added_number a c).1 }
