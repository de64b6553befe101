-- Sets that wait are taken one after another, and what follows from each is marked; in the end all that follows is. Assumes
-- nothing.
use lib.ListN.{get_or, length, length-replicate, replicate}
use mathlib.Core.List.{List}
use mathlib.Core.Logic.{◌↔◌, ⊎_elim}
use mathlib.Core.Path.{◌≡◌, refl, sym, ap, subst, ◌∙◌}
use native.Mathlib.Omega.{arith}
use Prim.Native.Nat.{ℕ, ◌/◌, ◌<◌, ◌≤◌}
use Rattle.invent.specs.Invent.{AllWait, Follows, Leads, Marks, Next, Upto, follows, marked, mask_of, set_at}
use Rattle.invent.proofs.SetNumbers.{mask_set}
use Rattle.meaning.specs.Built.{invented}
use Rattle.meaning.specs.Limits.{max_predicates, member_sets, set_words}
use Rattle.meaning.specs.Pack.{Pack}
use Rattle.meaning.specs.Tables.{set_of_mask}
use Rattle.meaning.proofs.Lists.Places.{zeros_at}
use Rattle.worklist.proofs.Growth.{all_looked, nothing_marked, turn_looked, turn_marked, zeros_unmarked}
use Rattle.worklist.proofs.Marks.{zero_word}
use Rattle.worklist.specs.Table.{Adds, AddsOnly, Board, Looked, Marked, Table, Takes}

-- What is marked follows from the start, and what follows from the sets that have been looked at is marked.
pub record Closing (P : Pack) (start : List ℕ) (b : Board) : Type 0 where
  pub sound : (j : ℕ) → Marked b.marked j → Follows P start j
  pub keeps : (j : ℕ) → Marked start j → Marked b.marked j
  pub passes : (i p j : ℕ) → i < member_sets → p < max_predicates → Looked b i → Leads P (invented (set_at i)) p j → Marked b.marked j

pub closing_start : {P : Pack} {b : Board} → AllWait b → Closing P b.marked b
closing_start w = record { sound = λ j e. marked e; keeps = λ j e. e; passes = λ i p j h hp l. absurd (w i h l) }

-- ---- nothing is marked at first

pub none_marked : {b : Board} → b.marked ≡ replicate set_words 0 → b.waiting ≡ replicate set_words 0 → b.stack ≡ replicate set_words 0 → b.top ≡ 0 → Table set_words b
none_marked {b} e f g z =
    nothing_marked (zeros_unmarked set_words set_words e f (omega arith) (omega arith) (omega arith) (long b.marked e) (long b.waiting f) (long b.stack g)) z
  where
    long : (xs : List ℕ) → xs ≡ replicate set_words 0 → set_words ≤ length xs
    long xs q = let l = ap length q ∙ length-replicate {A = ℕ} set_words 0 in omega arith

pub none_there : {flags : List ℕ} → flags ≡ replicate set_words 0 → (j : ℕ) → ¬ Marked flags j
none_there {flags} e j h = let z = zero_word flags j (ap (λ xs. get_or xs (j / 64) 0) e ∙ zeros_at set_words (j / 64)) in omega arith

pub all_wait : {a b : Board} {S Y : ℕ → Type 0} → ((j : ℕ) → ¬ Marked a.marked j) → Adds set_words S Y a b → AllWait b
all_wait none d j h l = none j (d.looked j h l).is

-- where none was marked, those are that were added
pub marked_from : {n : ℕ} {Q : ℕ → Type 0} {a b : Board} → ((j : ℕ) → ¬ Marked a.marked j) → AddsOnly n Q a b → (j : ℕ) → Marked b.marked j ↔ Q j
marked_from none d j = (λ e. ⊎_elim (λ m. absurd (none j m)) (λ q. q) (d.new j e), d.all j)

-- what follows from set i, by its mask
pub following : {These : Pack → Type 0} {a b : Board} {i m : ℕ} → i < member_sets → m ≡ mask_of i → Marks These (Next m) a b
    → Marks These (λ P. Upto (Leads P (invented (set_at i))) max_predicates) a b
following {These} {a} {b} {i} h e = subst (λ X. Marks These (λ P. Upto (Leads P (invented X)) max_predicates) a b) (ap set_of_mask e ∙ mask_set i h)

module _ {P : Pack} {start : List ℕ} {i : ℕ} {a c b : Board} (t : Table set_words a) (k : Takes set_words (λ x. x ≡ i) a c) where
  pub closing_again : Closing P start a → AddsOnly set_words (Upto (Leads P (invented (set_at i))) max_predicates) c b → Closing P start b
  closing_again g d = record {
    sound = λ j e. ⊎_elim (λ m. g.sound j (subst (λ xs. Marked xs j) k.marked m)) (from j) (d.new j e);
    keeps = λ j e. kept j (g.keeps j e);
    passes = λ n p j h hp l w. ⊎_elim (λ e. d.all j (record { at = p; below = hp; holds = subst (λ x. Leads P (invented (set_at x)) p j) e w }))
        (λ o. kept j (g.passes n p j h hp o w)) (turn_looked t k d n h l);
  }
    where
      from : (j : ℕ) → Upto (Leads P (invented (set_at i))) max_predicates j → Follows P start j
      from j u = follows (g.sound i (turn_marked t k i refl)) (k.inside i refl) u.below u.holds

      kept : (j : ℕ) → Marked a.marked j → Marked b.marked j
      kept j m = d.more j (subst (λ xs. Marked xs j) (sym k.marked) m)

pub closing_done : {P : Pack} {start : List ℕ} {b : Board} → Table set_words b → b.top ≡ 0 → Closing P start b → (j : ℕ) → Marked b.marked j ↔ Follows P start j
closing_done {P} {start} {b} t z c j = (c.sound j, all)
  where
    all : {j : ℕ} → Follows P start j → Marked b.marked j
    all {j} (marked e) = c.keeps j e
    all {j} (follows {i} {p = p} f h hp l) = c.passes i p j h hp (all_looked t z i h (all f)) l
