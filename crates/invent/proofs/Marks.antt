-- Sets that are marked step by step. Assumes nothing.
use lib.Dec.{T}
use mathlib.Core.Bool.{true}
use mathlib.Core.List.{List}
use mathlib.Core.Logic.Iff
use mathlib.Core.Logic.{◌↔◌, ◌⊎◌, inl, inr}
use mathlib.Core.Path.{◌≡◌, sym, subst}
use native.Mathlib.Decide.{ℕ_discrete}
use native.Mathlib.Nat.{not-suc-le-zero}
use native.Mathlib.Omega.{arith}
use Prim.Native.Nat.{ℕ, ◌+◌, ◌^◌, ◌<◌}
use Rattle.spread.specs.Keys.{origin_at}
use Rattle.core_lists.specs.Origin.{HasOrigin}
use Rattle.invent.specs.Invent.{Lacks, Leads, Marks, OfDemand, Upto, number_of, set_at}
use Rattle.core_lists.proofs.Places.{types_below}
use Rattle.invent.proofs.SetNumbers.{number_lt, number_one, number_set}
use Rattle.core_lists.proofs.Shaped.{requires_shape, targets_shape}
use Rattle.meaning.proofs.Lists.Bits.{same_members}
use Rattle.meaning.specs.Built.{BuiltNode, PTargets, invented}
use Rattle.meaning.specs.Limits.{set_words}
use Rattle.meaning.specs.Pack.{Pack}
use Rattle.meaning.specs.Tables.{set_of_mask}
use Rattle.meaning.specs.TypeSet.{TypeSet}
use Rattle.shapes.proofs.Demanded.{targets_few, targets_lt}
use Rattle.shapes.specs.Demands.{required_in, targets_in}
use Rattle.worklist.proofs.Growth.{adds_as, adds_both, adds_none, adds_same, adds_then}
use Rattle.worklist.specs.Table.{AddsOnly, Board, Table}

module _ {These : Pack → Type 0} where
  pub marks_none : {Q : Pack → ℕ → Type 0} {a : Board} → Table set_words a → ((P : Pack) → These P → (j : ℕ) → ¬ Q P j) → Marks These Q a a
  marks_none t none = record { grows = adds_none t (λ j e. e); adds = λ P h. adds_none t (none P h) }

  -- the same sets, said in another way
  pub marks_iff : {Q R : Pack → ℕ → Type 0} {a b : Board} → ((P : Pack) (j : ℕ) → Q P j ↔ R P j) → Marks These Q a b → Marks These R a b
  marks_iff f m = record { grows = m.grows; adds = λ P h. adds_same (m.adds P h) (λ j q. (f P j).0 q) (λ j r. (f P j).1 r) }

  -- fewer packs
  pub marks_for : {Fewer : Pack → Type 0} {Q : Pack → ℕ → Type 0} {a b : Board} → ((P : Pack) → Fewer P → These P) → Marks These Q a b → Marks Fewer Q a b
  marks_for f m = record { grows = m.grows; adds = λ P h. m.adds P (f P h) }

  -- ---- a loop that marks Q at one number after the other

  pub upto_start : {Q : Pack → ℕ → ℕ → Type 0} {a : Board} → Table set_words a → Marks These (λ P. Upto (Q P) 0) a a
  upto_start t = marks_none t (λ P h j u. not-suc-le-zero u.below)

  pub upto_again : {Q : Pack → ℕ → ℕ → Type 0} {n : ℕ} {a b c : Board} → Marks These (λ P. Upto (Q P) n) a b → Marks These (λ P. Q P n) b c
      → Marks These (λ P. Upto (Q P) (n + 1)) a c
  upto_again {Q} {n} m s = record {
    grows = adds_as (adds_then m.grows s.grows) (λ j u. u) (λ j e. absurd e);
    adds = λ P h. adds_both (m.adds P h) (s.adds P h) (more P) (λ j q. record { at = n; below = omega arith; holds = q }) (λ j u. split P j u (ℕ_discrete u.at n));
  }
    where
      more : (P : Pack) (j : ℕ) → Upto (Q P) n j → Upto (Q P) (n + 1) j
      more P j u = record { at = u.at; below = let h = u.below in omega arith; holds = u.holds }

      split : (P : Pack) (j : ℕ) (u : Upto (Q P) (n + 1) j) → Dec (u.at ≡ n) → Upto (Q P) n j ⊎ Q P n j
      split P j u (yes e) = inr (subst (λ x. Q P x j) e u.holds)
      split P j u (no k) = inl (record { at = u.at; below = let h = u.below in omega arith; holds = u.holds })

-- ---- one set and one predicate

targets_one : (P : Pack) (b : BuiltNode) (p : ℕ) (X Y : TypeSet) → PTargets P b p X → PTargets P b p Y → X ≡ Y
targets_one P b p X Y t u = same_members X Y (λ S. Iff.trans (t S) (Iff.symm (u S)))

module _ {demand mask p : ℕ} where
  module _ (P : Pack) (h : OfDemand mask p demand P) where
    m_lt : targets_in demand < 2 ^ 16
    m_lt = omega (arith, targets_lt demand)

    targets_set : PTargets P (invented (set_of_mask mask)) p (set_at (number_of (targets_in demand)))
    targets_set =
        subst (λ X. PTargets P (invented (set_of_mask mask)) p X) (number_set (targets_in demand) m_lt (types_below (targets_in demand) (targets_few demand)))
        (targets_shape P mask p (targets_in demand) h.targets)

    pub only : (j : ℕ) → Leads P (invented (set_of_mask mask)) p j → j ≡ number_of (targets_in demand)
    only j l =
        number_one j (number_of (targets_in demand)) l.small (number_lt (targets_in demand) m_lt)
        (targets_one P (invented (set_of_mask mask)) p (set_at j) (set_at (number_of (targets_in demand))) l.targets targets_set)

    pub leads_there : required_in demand ≡ true → Leads P (invented (set_of_mask mask)) p (number_of (targets_in demand))
    leads_there e = record {
      small = number_lt (targets_in demand) m_lt;
      needs = (requires_shape P mask p).0 (h.needs.0 (subst T (sym e) tt));
      targets = targets_set;
    }

  pub marks_targets : required_in demand ≡ true → {n : ℕ} {a b : Board} → n ≡ number_of (targets_in demand) → AddsOnly set_words (λ j. j ≡ n) a b
      → Marks (OfDemand mask p demand) (λ P. Leads P (invented (set_of_mask mask)) p) a b
  marks_targets e {n} {a} {b} is d = record {
    grows = adds_as d (λ j q. tt) (λ j q. absurd q);
    adds = λ P h. adds_same (subst (λ x. AddsOnly set_words (λ j. j ≡ x) a b) is d)
        (λ j q. subst (Leads P (invented (set_of_mask mask)) p) (sym q) (leads_there P h e)) (only P h);
  }

-- ---- what a core node leads to

module _ {These : Pack → Type 0} {triples : List ℕ} {s mask p : ℕ} where
  pub edge_there : {a : Board} → Table set_words a → HasOrigin triples (origin_at s p) → Marks These (λ P. Lacks P triples s mask p) a a
  edge_there t o = marks_none t (λ P h j l. l.none o)

  pub edge_missing : {a b : Board} → ¬ HasOrigin triples (origin_at s p) → Marks These (λ P. Leads P (invented (set_of_mask mask)) p) a b → Marks These (λ P. Lacks P triples s mask p) a b
  edge_missing n = marks_iff (λ P j. (λ l. record { none = n; leads = l }, λ (l : Lacks P triples s mask p j). l.leads))
