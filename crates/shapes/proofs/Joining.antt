-- Joining the targets of the members' shapes. Assumes nothing.
use lib.Bits.{bit_or, or_lt}
use lib.Pow.{pow-lt}
use mathlib.Core.List.{List}
use mathlib.Core.Logic.{◌⊎◌, inl, inr}
use mathlib.Core.Option.{some}
use mathlib.Core.Path.{◌≡◌, refl, sym, ◌∙◌}
use native.Mathlib.Decide.{ℕ_discrete}
use native.Mathlib.Omega.{arith}
use Prim.Native.Nat.{ℕ, ◌*◌, ◌/◌, ◌%◌, ◌^◌, ◌<◌}
use Rattle.meaning.proofs.Lists.Bits.{zero_bits}
use Rattle.meaning.proofs.Lists.Lowest.{cleared}
use Rattle.meaning.proofs.Lists.Masks.{added_member, weight_made}
use Rattle.meaning.specs.Limits.{max_predicates, max_types, multiplicity_room}
use Rattle.meaning.specs.Tables.{cell_at, cell_of, set_of_mask, target_code}
use Rattle.meaning.specs.TypeSet.{bit, ◌∈ₜ◌}
use Rattle.shapes.specs.Shapes.{CodesFit, SomeShape, TargetsOf}
use Rattle.shapes.proofs.Cells.{cell_held, cell_target, held_shape, shape_held}
use Rattle.shapes.proofs.Search.{Member, Searching, next, search_again, search_done, search_next, search_start}
use Rattle.shapes.proofs.Sets.{code_injective, target_in, type_in, types_in}

-- a member's shape for p has the target of code j
pub record HasCode (table : List (List ℕ)) (mask p j : ℕ) : Type 0 where
  pub member : ℕ
  pub has : Member mask member
  pub held : cell_at table member p ≡ 0 → ⊥
  pub code : cell_at table member p / multiplicity_room ≡ j

-- a shape's target is not in the mask of all
abbrev Missing : ℕ → ℕ → Type 0
Missing all cell = (cell ≡ 0 → ⊥) × (bit (cell / multiplicity_room) all ≡ 1 → ⊥)

-- all has targets of members only; the members whose target it lacks are still to come
pub record Joining (table : List (List ℕ)) (mask p left all : ℕ) : Type 0 where
  pub fits : all < 2 ^ 16
  pub only : (j : ℕ) → bit j all ≡ 1 → HasCode table mask p j
  pub rest : Searching (λ t. Missing all (cell_at table t p)) mask left

pub join_start : (table : List (List ℕ)) (mask p : ℕ) → Joining table mask p (types_in mask) 0
join_start table mask p = record {
  fits = omega arith;
  only = λ j e. absurd (omega (arith, zero_bits j));
  rest = search_start (λ t. Missing 0 (cell_at table t p)) mask;
}

module _ {table : List (List ℕ)} {mask p left all : ℕ} (v : Joining table mask p left all) where
  module _ (more : left ≡ 0 → ⊥) where
    abbrev cell : ℕ
    cell = cell_at table (next left) p

    pub join_past : cell ≡ 0 → Joining table mask p (cleared left) all
    join_past e = record { fits = v.fits; only = v.only; rest = search_again v.rest more (λ t h. h) (λ h. h.0 e) }

    module _ (pre : (p < max_predicates) × CodesFit table) where
      pub code_fits : cell / multiplicity_room < 16
      code_fits = omega (arith, pre.1 (next left) p (search_next v.rest more).0 pre.0)

      pub join_on : (cell ≡ 0 → ⊥) → Joining table mask p (cleared left) (bit_or all (1 * 2 ^ (cell / multiplicity_room) % 2 ^ 16))
      join_on n = rw (weight_made 16 (cell / multiplicity_room) code_fits) (record {
        fits = or_lt 16 all (2 ^ (cell / multiplicity_room)) v.fits (pow-lt code_fits);
        only = λ j e. from j ((added_member j (cell / multiplicity_room) all).0 e);
        rest = search_again v.rest more
            (λ t m. (m.0, λ b. m.1 ((added_member (cell_at table t p / multiplicity_room) (cell / multiplicity_room) all).1 (inr b))))
            (λ m. m.1 ((added_member (cell / multiplicity_room) (cell / multiplicity_room) all).1 (inl refl)));
      })
        where
          from : (j : ℕ) → (j ≡ cell / multiplicity_room) ⊎ (bit j all ≡ 1) → HasCode table mask p j
          from j (inl e) = record { member = next left; has = search_next v.rest more; held = n; code = sym e }
          from j (inr b) = v.only j b

  -- they are the p-targets
  pub join_done : p < max_predicates → left ≡ 0 → TargetsOf table mask p all
  join_done hp e S tab R = (forth, back)
    where
      forth : R ∈ₜ set_of_mask all → SomeShape S mask p (λ s. s.target ≡ R)
      forth h =
          let q = (target_in R all v.fits).0 h in
          let o = v.only (target_code R) q.1 in
          let s = held_shape tab.cells o.has.0 hp o.held in
          let c : target_code s.0.target ≡ target_code R = sym (cell_target s.0) ∙ rw s.2 at o.code in
          record {
            member = o.member;
            shape = s.0;
            has = (type_in o.member mask).1 (omega (arith, o.has.0), o.has.1);
            declared = s.1;
            holds = code_injective s.0.target R (λ u f. omega (arith, tab.few.targets s.1 f)) q.0 c;
          }

      back : SomeShape S mask p (λ s. s.target ≡ R) → R ∈ₜ set_of_mask all
      back s = (target_in R all v.fits).1 ((λ u f. omega (arith, tab.few.targets s.declared (s.holds ∙ f))), has (ℕ_discrete (bit (target_code R) all) 1))
        where
          ht : s.member < max_types
          ht = tab.few.owners s.declared

          is : cell_at table s.member p ≡ cell_of (some s.shape)
          is = shape_held tab.cells ht hp s.shape s.declared

          has : Dec (bit (target_code R) all ≡ 1) → bit (target_code R) all ≡ 1
          has (yes b) = b
          has (no n) =
              absurd (search_done v.rest e s.member (ht, ((type_in s.member mask).0 s.has).1) (
                rw is (cell_held s.shape),
                rw (is, cell_target s.shape, s.holds) n,
              ))
