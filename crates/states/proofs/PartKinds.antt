-- The kinds of parts: leaves, and parts that have parts, which stand behind these. Assumes nothing.
use mathlib.Core.List.{List}
use mathlib.Core.Logic.{inr}
use mathlib.Core.Path.{refl, subst, sym, ◌∙◌, ◌≡◌}
use native.Mathlib.Decide.{dec_lt, ℕ_discrete}
use native.Mathlib.Omega.{arith}
use Prim.Native.Nat.{ℕ, ◌-◌, ◌<◌, ◌≤◌}
use Rattle.query.specs.Tree.{first_number, kind_of}
use Rattle.states.specs.Fits.{ListsFit}
use Rattle.states.specs.Lists.{Lists}
use Rattle.states.specs.Parts.{PartReady}
use Rattle.walk.proofs.KindLaws.{kind_chain, kind_either, kind_leaf, kind_repeat, kind_test}
use Rattle.walk.specs.Parts.{Child, Part, chain, either, leaf, part_of, repeat, test}

pub is_leaf : (tree : List ℕ) (i : ℕ) → kind_of tree i < 5 → part_of tree i ≡ leaf
is_leaf tree i l = kind_leaf tree i (λ e. omega arith) (λ e. omega arith) (λ e. omega arith) (λ e. omega arith)

-- The parts of other kinds have parts.
pub not_leaf : (tree : List ℕ) (i : ℕ) → 5 ≤ kind_of tree i → kind_of tree i ≤ 8 → part_of tree i ≡ leaf → ⊥
not_leaf tree i l h e = go (ℕ_discrete (kind_of tree i) 5) (ℕ_discrete (kind_of tree i) 6) (ℕ_discrete (kind_of tree i) 7)
  where
    owns : (p : Part) → part_of tree i ≡ p → (c : ℕ) → Child p c → ⊥
    owns p q c x = subst (λ r. Child r c) (sym q ∙ e) x

    go : Dec (kind_of tree i ≡ 5) → Dec (kind_of tree i ≡ 6) → Dec (kind_of tree i ≡ 7) → ⊥
    go (yes k) b c = owns (test (i - 1)) (kind_test tree i k) (i - 1) refl
    go (no n) (yes k) c = owns (repeat (i - 1)) (kind_repeat tree i k) (i - 1) refl
    go (no n) (no m) (yes k) = owns (chain (first_number tree i) (i - 1)) (kind_chain tree i k) (i - 1) (inr refl)
    go (no n) (no m) (no o) = owns (either (first_number tree i) (i - 1)) (kind_either tree i (omega arith)) (i - 1) (inr refl)

-- A part that has parts stands behind one of them.
pub some_before : {tree next : List ℕ} {i : ℕ} → PartReady tree next i → 5 ≤ kind_of tree i → i - 1 < i
some_before {tree} {next} {i} r l = go (ℕ_discrete (kind_of tree i) 5) (ℕ_discrete (kind_of tree i) 6) (ℕ_discrete (kind_of tree i) 7)
  where
    own : (p : Part) → part_of tree i ≡ p → Child p (i - 1) → i - 1 < i
    own p e x = r.before (i - 1) (subst (λ q. Child q (i - 1)) (sym e) x)

    go : Dec (kind_of tree i ≡ 5) → Dec (kind_of tree i ≡ 6) → Dec (kind_of tree i ≡ 7) → i - 1 < i
    go (yes k) b c = own (test (i - 1)) (kind_test tree i k) refl
    go (no n) (yes k) c = own (repeat (i - 1)) (kind_repeat tree i k) refl
    go (no n) (no m) (yes k) = own (chain (first_number tree i) (i - 1)) (kind_chain tree i k) (inr refl)
    go (no n) (no m) (no o) = let h = r.kind in own (either (first_number tree i) (i - 1)) (kind_either tree i (omega arith)) (inr refl)

-- The parts that a part leads to, and the end, are within the table.
module _ {L : Lists} (f : ListsFit L) where
  pub part_ready : (i : ℕ) → i < L.parts → PartReady L.tree L.next i
  part_ready i l =
      let a = f.query.few in
      let b = f.query.in_tree in
      let c = f.query.in_next in
      let d = f.query.onward i l in
      record { short = omega arith; in_tree = omega arith; in_next = omega arith; kind = f.query.kinds i l; before = λ c x. f.query.before i c l x; onward = omega arith }

  pub leaf_kind : (i : ℕ) → i < L.parts → part_of L.tree i ≡ leaf → kind_of L.tree i < 5
  leaf_kind i l e = go (dec_lt (kind_of L.tree i) 5)
    where
      go : Dec (kind_of L.tree i < 5) → kind_of L.tree i < 5
      go (yes h) = h
      go (no h) = absurd (other (f.query.kinds i l))
        where
          other : kind_of L.tree i ≤ 8 → ⊥
          other k = not_leaf L.tree i (omega arith) k e
