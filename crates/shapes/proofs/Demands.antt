-- Joining what the members demand. Assumes nothing.
use lib.ListN.{get_or, replicate}
use mathlib.Core.List.{List}
use mathlib.Core.Logic.{◌↔◌, ◌⊎◌, inl, inr}
use mathlib.Core.Option.{Option, none, some}
use mathlib.Core.Path.{◌≡◌, refl, sym, ◌∙◌, subst}
use native.Mathlib.Decide.{ℕ_discrete}
use native.Mathlib.Omega.{arith}
use Prim.Native.Nat.{ℕ, ◌<◌}
use Rattle.meaning.proofs.Lists.Bits.{zero_bits}
use Rattle.meaning.proofs.Lists.Lowest.{cleared}
use Rattle.meaning.proofs.Lists.Masks.{intersection_member, union_member}
use Rattle.meaning.proofs.Lists.Places.{zeros_at}
use Rattle.meaning.specs.Limits.{max_predicates, max_types}
use Rattle.meaning.specs.Pack.{HasShape, Setting, Shape, Target, shape_of, type}
use Rattle.meaning.specs.Tables.{cell_at, set_of_mask, target_code}
use Rattle.meaning.specs.TypeSet.{bit, ◌∈ₜ◌}
use Rattle.shapes.specs.Shapes.{SomeShape}
use Rattle.shapes.specs.Demands.{Demand, Demanded, DemandsOf, IsJoined, demand_of, required_bit, target_weights, targets_in}
use Rattle.shapes.proofs.Demanded.{demand_required, demand_target, not_target, required_bit_lem, target_bit, targets_lt}
use Rattle.shapes.proofs.Search.{Member, Searching, next, search_again, search_done, search_next, search_start}
use Rattle.shapes.proofs.Sets.{code_injective, target_in, type_in, types_in}

-- bit j is one of what a member demands of p
pub record HasBit (table : List (List ℕ)) (mask p j : ℕ) : Type 0 where
  pub member : ℕ
  pub has : Member mask member
  pub held : bit j (cell_at table member p) ≡ 1

-- a member's bit is not in all
abbrev Missing : ℕ → ℕ → ℕ → Type 0
Missing j all demand = (bit j demand ≡ 1) × (bit j all ≡ 1 → ⊥)

-- all has bits of members only; the members of which it lacks one are still to come
pub record Joining (table : List (List ℕ)) (mask left : ℕ) (all : List ℕ) : Type 0 where
  pub only : (p j : ℕ) → p < max_predicates → bit j (get_or all p 0) ≡ 1 → HasBit table mask p j
  pub rest : (p j : ℕ) → p < max_predicates → Searching (λ t. Missing j (get_or all p 0) (cell_at table t p)) mask left

pub join_start : (table : List (List ℕ)) (mask : ℕ) → Joining table mask (types_in mask) (replicate max_predicates 0)
join_start table mask = record {
  only = λ p j hp e. absurd (omega (arith, zero_bits j, rw (zeros_at max_predicates p) at e));
  rest = λ p j hp. search_start (λ t. Missing j (get_or (replicate max_predicates 0) p 0) (cell_at table t p)) mask;
}

module _ {table : List (List ℕ)} {mask left : ℕ} {all : List ℕ} (v : Joining table mask left all) where
  module _ (more : left ≡ 0 → ⊥) where
    pub join_next : Member mask (next left)
    join_next = search_next (v.rest 0 0 (omega arith)) more

    pub join_on : {both : List ℕ} → IsJoined all table (next left) both → Joining table mask (cleared left) both
    join_on {both} is = record {
      only = λ p j hp e. from p j hp ((parts p j hp).0 e);
      rest = λ p j hp. search_again (v.rest p j hp) more (λ t m. (m.0, λ b. m.1 ((parts p j hp).1 (inl b)))) (λ m. m.1 ((parts p j hp).1 (inr m.0)));
    }
      where
        parts : (p j : ℕ) → p < max_predicates → (bit j (get_or both p 0) ≡ 1) ↔ ((bit j (get_or all p 0) ≡ 1) ⊎ (bit j (cell_at table (next left) p) ≡ 1))
        parts p j hp = rw (is p hp) (union_member j (get_or all p 0) (cell_at table (next left) p))

        from : (p j : ℕ) → p < max_predicates → (bit j (get_or all p 0) ≡ 1) ⊎ (bit j (cell_at table (next left) p) ≡ 1) → HasBit table mask p j
        from p j hp (inl e) = v.only p j hp e
        from p j hp (inr e) = record { member = next left; has = join_next; held = e }

  -- they are what the set demands
  module _ (e : left ≡ 0) (S : Setting) (tab : Demanded S table) (p : ℕ) (hp : p < max_predicates) where
    abbrev it : ℕ
    it = get_or all p 0

    -- a bit is one of what some member's shape demands
    some_shape : (j : ℕ) {Q : Shape → Type 0} → ((s : Shape) → bit j (demand_of (some s)) ≡ 1 → (t : ℕ) → HasShape S t p s → Q s) → bit j it ≡ 1 → SomeShape S mask p Q
    some_shape j {Q} f b = go (shape_of S o.member p) refl
      where
        o : HasBit table mask p j
        o = v.only p j hp b

        held : bit j (demand_of (shape_of S o.member p)) ≡ 1
        held = subst (λ x. bit j x ≡ 1) (tab.cells o.member p o.has.0 hp) o.held

        go : (x : Option Shape) → shape_of S o.member p ≡ x → SomeShape S mask p Q
        go none q = absurd (omega (arith, zero_bits j, rw q at held))
        go (some s) q =
            record {
              member = o.member;
              shape = s;
              has = (type_in o.member mask).1 (omega (arith, o.has.0), o.has.1);
              declared = record { is = q };
              holds = f s (rw q at held) o.member (record { is = q });
            }

    shape_bit : (j : ℕ) {Q : Shape → Type 0} (s : SomeShape S mask p Q) → bit j (demand_of (some s.shape)) ≡ 1 → bit j it ≡ 1
    shape_bit j s b = go (ℕ_discrete (bit j it) 1)
      where
        ht : s.member < max_types
        ht = tab.few.owners s.declared

        held : bit j (cell_at table s.member p) ≡ 1
        held = rw (tab.cells s.member p ht hp, s.declared.is) b

        go : Dec (bit j it ≡ 1) → bit j it ≡ 1
        go (yes h) = h
        go (no n) = absurd (search_done (v.rest p j hp) e s.member (ht, ((type_in s.member mask).0 s.has).1) (held, n))

    code_free : {t : ℕ} {s : Shape} → HasShape S t p s → target_code s.target ≡ required_bit → ⊥
    code_free {t} {s} h q = not_target (target_code s.target) (target_bit s.target (λ u f. tab.few.targets h f)) q

    join_demand : Demand S mask p (get_or all p 0)
    join_demand = record {
      targets = λ R. (forth R, back R);
      needs = (
        λ h. some_shape required_bit (λ s b t d. (demand_required s (code_free d)).0 b) ((required_bit_lem it).0 h),
        λ s. (required_bit_lem it).1 (shape_bit required_bit s ((demand_required s.shape (code_free s.declared)).1 s.holds)),
      );
    }
      where
        forth : (R : Target) → R ∈ₜ set_of_mask (targets_in it) → SomeShape S mask p (λ s. s.target ≡ R)
        forth R h =
            let q = (target_in R (targets_in it) (targets_lt it)).0 h in
            let b = (intersection_member (target_code R) it target_weights).0 q.1 in
            some_shape (target_code R) (λ s x t d.
            let c = (demand_target s (target_code R) (not_target (target_code R) b.1)).0 x in
            code_injective s.target R (λ u f. omega (arith, tab.few.targets d f)) q.0 (sym c)) b.0

        back : (R : Target) → SomeShape S mask p (λ s. s.target ≡ R) → R ∈ₜ set_of_mask (targets_in it)
        back R s =
            let few : (u : ℕ) → R ≡ type u → u < max_types = λ u f. tab.few.targets s.declared (s.holds ∙ f) in
            let b = target_bit R few in
            let x = (demand_target s.shape (target_code R) (not_target (target_code R) b)).1 (ap_code R s) in
            (target_in R (targets_in it) (targets_lt it)).1 ((λ u f. omega (arith, few u f)), (intersection_member (target_code R) it target_weights).1 (shape_bit (target_code R) s x, b))
          where
            ap_code : (R : Target) (s : SomeShape S mask p (λ s. s.target ≡ R)) → target_code R ≡ target_code s.shape.target
            ap_code R s = rw s.holds refl

  pub join_done : left ≡ 0 → DemandsOf table mask all
  join_done e S tab p hp = join_demand e S tab p hp
