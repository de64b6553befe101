-- Rounds of spreading, how many are made and what each adds (document 02, card 4). Assumes nothing.
use Rattle.std.specs.Prelude.{get_or, Bool, false, true, List, [], ◌∷◌, reverse, ◌↔◌, ◌≡◌, ℕ, suc, ◌-◌}
use Rattle.std.proofs.Math.ListN.{get_elem?}
use Rattle.std.proofs.Math.Option.{some}
use Rattle.spread.specs.Keys.{key_of}
use Rattle.spread.specs.Spread.{Carried, PassedOnce}
use Rattle.meaning.specs.Core.{CoreNode, Given, Node, typed}
use Rattle.meaning.specs.Pack.{Pack, Setting, Target}
use Rattle.meaning.specs.Spreading.{FewRounds, SpreadFact}
use Rattle.meaning.specs.Tables.{set_of_mask}
use Rattle.meaning.specs.TypeSet.{◌∈ₜ◌}
use Rattle.shapes.specs.Shapes.{Tabled}

-- a type fact that was added: a place and a member, Literal included, that after has and before has not
pub record AddedFact (before after : List ℕ) (f : ℕ × Target) : Type 0 where
  pub has : f.1 ∈ₜ set_of_mask (get_or after f.0 0)
  pub had_not : ¬ (f.1 ∈ₜ set_of_mask (get_or before f.0 0))

-- ---- one round

-- types pass along the triples, one after another
pub data TriplesWalked (S : Setting) : List ℕ → List ℕ → List ℕ → Type 0 where
  done : {masks : List ℕ} → TriplesWalked S [] masks masks
  next : {k : ℕ} {ks a b c : List ℕ} → PassedOnce S k a b → TriplesWalked S ks b c → TriplesWalked S (k ∷ ks) a c

-- the triples from the first to the last, or back
abbrev pub in_turn : Bool → List ℕ → List ℕ
in_turn false triples = triples
in_turn true triples = reverse triples

-- "a round being one walk over the core's triples"
pub record Round (S : Setting) (triples before after : List ℕ) : Type 0 where
  pub back : Bool
  pub walked : TriplesWalked S (in_turn back triples) before after

-- ---- all rounds

-- "stop after the first round that adds none": so many rounds were made, that one included
pub data Rounds (S : Setting) (triples : List ℕ) : ℕ → List ℕ → List ℕ → Type 0 where
  last : {a b : List ℕ} → Round S triples a b → ((f : ℕ × Target) → ¬ AddedFact a b f) → Rounds S triples 1 a b
  more : {n : ℕ} {a b c : List ℕ} {f : ℕ × Target} → Round S triples a b → AddedFact a b f → Rounds S triples n b c → Rounds S triples (suc n) a c

-- and these are few
pub record RoundsMade (S : Setting) (triples : List ℕ) (rounds : ℕ) (before after : List ℕ) : Type 0 where
  pub made : Rounds S triples rounds before after
  pub few : FewRounds (AddedFact before after) rounds

abbrev pub RoundsMadeOn : List (List ℕ) → List ℕ → ℕ → List ℕ → List ℕ → Type 0
RoundsMadeOn table triples rounds before after = (S : Setting) → Tabled S table → RoundsMade S triples rounds before after

-- ---- of a pack

-- From the types that the heads give the masks come in so many rounds over the core's triples, and these are few.
pub record SettledIn (P : Pack) (nodes triples : List ℕ) (rounds : ℕ) (masks : List ℕ) : Type 0 where
  pub start : List ℕ
  pub given : (i : ℕ) (n : Node) → CoreNode P n → get_elem? nodes i ≡ some (key_of n) → (R : Target) → (R ∈ₜ set_of_mask (get_or start i 0)) ↔ Given P (typed n R)
  pub made : Rounds P.setting triples rounds start masks
  pub few : FewRounds (SpreadFact P) rounds

-- ---- what code says of a round

abbrev pub SomeAdded : List ℕ → List ℕ → Type 0
SomeAdded before after = (f : ℕ × Target) × AddedFact before after f

-- the place of the triple that is passed along in a turn
abbrev pub turn_at : Bool → ℕ → ℕ → ℕ
turn_at false n i = i
turn_at true n i = n - 1 - i

-- It is a walk, each object has what passed last along its triple, and some fact was added where it says so.
pub record RoundShown (S : Setting) (triples : List ℕ) (back changed : Bool) (passed' before after : List ℕ) : Type 0 where
  pub walked : TriplesWalked S (in_turn back triples) before after
  pub carried : Carried S triples passed' after
  pub added : changed ≡ true → SomeAdded before after

abbrev pub RoundOn : List (List ℕ) → List ℕ → Bool → Bool → List ℕ → List ℕ → List ℕ → List ℕ → Type 0
RoundOn table triples back changed passed passed' before after =
    (S : Setting) → Tabled S table → Carried S triples passed before → RoundShown S triples back changed passed' before after
