-- Laws of collecting an atom's candidates, row by row. Assumes nothing.
use lib.Dec.{eqb}
use lib.ListN.{length, get_or, take}
use mathlib.Core.Bool.{cond}
use mathlib.Core.List.{List, map}
use mathlib.Core.Logic.{◌⊎◌, inl, inr, ⊎_elim}
use mathlib.Core.Path.{◌≡◌, refl, sym, ap, ◌∙◌, subst}
use native.Mathlib.Decide.{ℕ_discrete}
use native.Mathlib.Omega.{arith}
use Prim.Native.Nat.{ℕ, ◌+◌, ◌*◌, ◌/◌, ◌≤◌, ◌<◌, zero-le}
use Rattle.meaning.specs.Member.{◌∈◌}
use Rattle.meaning.specs.Ordered.{InOrder, ListOf, empty}
use Rattle.sets.proofs.Insertion.{added_list, present_list}
use Rattle.sets.proofs.Slices.{same_start}
use Rattle.sets.specs.OrderedSet.{Inserted, OrderedSet, members_of}
use Rattle.sets.specs.declared.ordered.Full.{Full}
use Rattle.std.specs.Prelude.{Bool, true, false, Ok, Err}
use Rattle.meaning.specs.Core.{Assignment}
use Rattle.meaning.specs.Limits.{row_width, unused}
use Rattle.matching.specs.Plan.{stacked, masked, Among, CellsAre, FirstColumns, KeyFrom, Candidate, Stored}
use Rattle.matching.proofs.Cells.{cell_of, Cells, cells_same, cells_done, columns_are}
use Rattle.meaning.proofs.Lists.SetLists.{list_as, own_list}
use Rattle.meaning.proofs.Lists.Members.{map_same}

-- ---- one key

module _ {key : ℕ} {a : OrderedSet} (o : InOrder ◌<◌ (members_of a)) where
  pub stored : {b : OrderedSet} (added : Bool) → Inserted (Ok added) key a b → Stored key a b
  stored true i = (omega (arith, i.count), rw i.count (added_list i.answer (own_list o)), i.same)
  stored false i = (omega (arith, i.count), rw i.count (present_list i.answer (own_list o)), i.same)

  -- it is in the set
  pub stored_before : key ∈ members_of a → Stored key a a
  stored_before m = (omega arith, record { ascending = o; members = λ k. (inr, ⊎_elim (λ e. rw e m) (λ x. x)) }, same_start)

-- there is room
pub not_full : {key : ℕ} {a b : OrderedSet} {e : Full} → a.count < length a.keys → Inserted (Err e) key a b → ⊥
not_full h i = omega (arith, h, i.answer.full)

-- ---- the rows

module _ (rows : List ℕ) (relation : ℕ) (own order start : List ℕ) where
  abbrev Candidate' : Type 0
  Candidate' = (k : ℕ) × Candidate rows relation own order start k

  -- the key of one of the first r rows
  pub record Early (r k : ℕ) : Type 0 where
    pub candidate : Candidate rows relation own order start k
    pub before : candidate.index < r

  -- their set; the last key that was added is in it
  pub record Collected (out₀ : List ℕ) (r n last : ℕ) (out : List ℕ) : Type 0 where
    pub within : r ≤ length rows / row_width
    pub few : n ≤ r
    pub long : length out ≡ length out₀
    pub list : ListOf ◌<◌ (Early r) (take n out)
    pub recent : 0 < n → last ∈ take n out

  pub collect_start : (out : List ℕ) → Collected out 0 0 0 out
  collect_start out = record {
    within = zero-le;
    few = zero-le;
    long = refl;
    list = record { ascending = empty; members = λ k. (λ m. elim m [ ], λ e. absurd (omega (arith, e.before))) };
    recent = λ h. absurd (omega (arith, h));
  }

  module _ {out₀ : List ℕ} {r n last : ℕ} {out : List ℕ} (i : Collected out₀ r n last out) (h : r < length rows / row_width) where
    later : {k : ℕ} → Early r k → Early (r + 1) k
    later e = record { candidate = e.candidate; before = omega (arith, e.before) }

    sooner : {k : ℕ} (e : Early (r + 1) k) → (e.candidate.index ≡ r → ⊥) → Early r k
    sooner e n = record { candidate = e.candidate; before = omega (arith, e.before, n) }

    skip : ((x : Candidate') → x.1.index ≡ r → ⊥) → Collected out₀ (r + 1) n last out
    skip d = record {
      within = omega arith;
      few = omega (arith, i.few);
      long = i.long;
      list = list_as (λ k. (later, λ e. sooner e (d (k, e.candidate)))) i.list;
      recent = i.recent;
    }

    pub collect_other : (get_or rows (r * row_width) 0 ≡ relation → ⊥) → Collected out₀ (r + 1) n last out
    collect_other d = skip (λ x q. d (subst (λ x. get_or rows (x * row_width) 0 ≡ relation) q x.1.relation_is))

    -- no assignment makes the atom this row
    pub collect_differ : {r' : ℕ} → r' ≡ r → ((σ : Assignment) → CellsAre rows (r * row_width + 1) own σ → ⊥) → Collected out₀ (r' + 1) n last out
    collect_differ e d = rw e (skip (λ x q. d x.1.values (subst (λ y. CellsAre rows (y * row_width + 1) own x.1.values) q x.1.cells)))

    more : Among order own → CellsAre rows (r * row_width + 1) own (cell_of rows (r * row_width + 1) own)
        → (key : ℕ) → key ≡ stacked (map (masked start (cell_of rows (r * row_width + 1) own)) order) → get_or rows (r * row_width) 0 ≡ relation
        → (m : ℕ) (out' : List ℕ) → (m ≤ n + 1) × ListOf ◌<◌ (λ k. (k ≡ key) ⊎ (k ∈ take n out)) (take m out') → length out' ≡ length out
        → Collected out₀ (r + 1) m key out'
    more among f key e q m out' w l = record {
      within = omega arith;
      few = omega (arith, i.few, w.0);
      long = l ∙ i.long;
      list = list_as (λ k. (forth k, back k)) w.1;
      recent = λ h. (w.1.members key).1 (inl refl);
    }
      where
        forth : (k : ℕ) → (k ≡ key) ⊎ (k ∈ take n out) → Early (r + 1) k
        forth k (inl x) = record {
          candidate = record { index = r; within = omega (arith, h); relation_is = q; values = cell_of rows (r * row_width + 1) own; cells = f; is = x ∙ e };
          before = omega arith;
        }
        forth k (inr m) = later ((i.list.members k).0 m)

        same : (σ : Assignment) → CellsAre rows (r * row_width + 1) own σ → map (masked start σ) order ≡ map (masked start (cell_of rows (r * row_width + 1) own)) order
        same σ g =
            map_same (masked start σ) (masked start (cell_of rows (r * row_width + 1) own)) order
            (λ v o. ap (λ x. cond (eqb (get_or start v 0) unused) x (get_or start v 0)) (cells_same rows (r * row_width + 1) own σ g v (among v o)))

        back : (k : ℕ) → Early (r + 1) k → (k ≡ key) ⊎ (k ∈ take n out)
        back k x = go (ℕ_discrete x.candidate.index r)
          where
            go : Dec (x.candidate.index ≡ r) → (k ≡ key) ⊎ (k ∈ take n out)
            go (yes y) =
                inl (x.candidate.is
                ∙ ap stacked (same x.candidate.values (subst (λ j. CellsAre rows (j * row_width + 1) own x.candidate.values) y x.candidate.cells)) ∙ sym e)
            go (no d) = inr ((i.list.members k).1 (sooner x d))

    pub collect_more : {r' : ℕ} → r' ≡ r → Among order own → {firsts : List ℕ} → FirstColumns own own firsts → {c : ℕ}
        → Cells rows (r * row_width + 1) firsts c → length own ≤ c
        → {cols : List ℕ} → FirstColumns own order cols → (key : ℕ) → KeyFrom key rows (r * row_width + 1) order cols start → get_or rows (r * row_width) 0 ≡ relation
        → (m : ℕ) (out' : List ℕ) → (m ≤ n + 1) × ListOf ◌<◌ (λ k. (k ≡ key) ⊎ (k ∈ take n out)) (take m out') → length out' ≡ length out
        → Collected out₀ (r' + 1) m key out'
    collect_more e among f g z f' key k q m out' w l = rw e (more among (cells_done f g z) key (k _ (columns_are f' rows (r * row_width + 1))) q m out' w l)

  pub collect_done : {out₀ : List ℕ} {r n last : ℕ} {out : List ℕ} → Collected out₀ r n last out → length rows / row_width ≤ r → length rows ≤ length out₀ * row_width
      → (n ≤ length out₀) × ListOf ◌<◌ (Candidate rows relation own order start) (take n out)
  collect_done i h l = (
    omega (arith, i.few, i.within, l),
    list_as (λ k. (λ e. e.candidate, λ c. record { candidate = c; before = omega (arith, c.within, h) })) i.list,
  )
