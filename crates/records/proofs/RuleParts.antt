-- The parts of a rule's numbers, put one after another. Assumes nothing.
use lib.ListN.{length, length-append, take}
use mathlib.Core.List.{List, [], ◌∷◌, ◌++◌, append_assoc, flat_map}
use mathlib.Core.Path.{◌≡◌, refl, sym, ap, ◌∙◌}
use native.Mathlib.Omega.{arith}
use Prim.Native.Nat.{ℕ, suc, ◌+◌, ◌≤◌}
use Rattle.meaning.specs.Limits.{atoms_length, head_width, max_head_variables, rule_width}
use Rattle.meaning.specs.Pack.{Atom, Head, has_type, links_to, links_to_value}
use Rattle.meaning.specs.Tables.{atom_numbers, head_arguments, head_numbers, rule_numbers}
use Rattle.pack.proofs.Bounds.{atoms_fine}
use Rattle.pack.specs.Records.{atoms}
use Rattle.pack.specs.Shown.{Got}
use Rattle.pack.specs.declared.cursor.Cursor.{Cursor}
use Rattle.records.specs.Kept.{Put, atoms_part, head_part}
use Rattle.records.proofs.Putting.{put_as, put_next}
use Rattle.records.proofs.Terms.{variables_of}
use Rattle.meaning.proofs.Lists.Padding.{padded, padded_wide}

pub length_head : (h : Head) → length (head_numbers h) ≡ head_width
unfolding head_numbers
length_head (has_type s t) = refl
length_head (links_to s p o) = refl
length_head (links_to_value s p v) = refl

-- as many atoms as were to be read
pub atoms_many : {c d : Cursor} (n : ℕ) {as' : List Atom} → Got (atoms n) c as' d → length as' ≡ n
atoms_many n g = (atoms_fine n _ _ g.reads).many

pub length_atoms_part : (as' : List Atom) → length (atoms_part as') ≡ 1 + atoms_length
unfolding atoms_part
length_atoms_part as' = ap suc (padded_wide atoms_length 0 (flat_map atom_numbers as')) ∙ omega arith

pub length_head_part : (h : Head) → length (head_part h) ≡ 1 + max_head_variables + head_width
unfolding head_part
length_head_part h =
    let xs = take max_head_variables (padded max_head_variables 0 (head_arguments h)) in
    omega (arith, length-append xs (head_numbers h), padded_wide max_head_variables 0 (head_arguments h), length_head h)

rule_parts : (as' : List Atom) (h : Head) → atoms_part as' ++ head_part h ≡ rule_numbers (record { atoms = as'; head = h })
unfolding atoms_part head_part rule_numbers
rule_parts as' h =
    let a = length as' ∷ take atoms_length (padded atoms_length 0 (flat_map atom_numbers as')) in
    let v = length (head_arguments h) ∷ take max_head_variables (padded max_head_variables 0 (head_arguments h)) in
    sym (append_assoc a v (head_numbers h))

pub length_rule : (as' : List Atom) (h : Head) → length (rule_numbers (record { atoms = as'; head = h })) ≡ rule_width
length_rule as' h = ap length (sym (rule_parts as' h)) ∙ omega (arith, length-append (atoms_part as') (head_part h), length_atoms_part as', length_head_part h)

-- ---- put one after another

pub rule_put : (as' : List Atom) (h : Head) {at : ℕ} {out out₁ out₂ : List ℕ} → at + rule_width ≤ length out → Put (atoms_part as') at out out₁
    → Put (head_part h) (at + (1 + atoms_length)) out₁ out₂ → Put (rule_numbers (record { atoms = as'; head = h })) at out out₂
rule_put as' h {at} l p q = put_as (rule_parts as' h) (put_next p (omega (arith, length_atoms_part as')) q (ap (λ (n : ℕ). at + n) (sym (length_atoms_part as'))))

pub put_atoms_lem : {c d : Cursor} (n : ℕ) {as' : List Atom} → Got (atoms n) c as' d → {at : ℕ} {xs out out₁ out₂ : List ℕ} → at + (1 + atoms_length) ≤ length out
    → Put (n ∷ []) at out out₁ → xs ≡ take atoms_length (padded atoms_length 0 (flat_map atom_numbers as')) → Put xs (at + 1) out₁ out₂ → Put (atoms_part as') at out out₂
unfolding atoms_part
put_atoms_lem n {as'} g {at} {xs} l p e q =
    let m : n ∷ xs ≡ length as' ∷ take atoms_length (padded atoms_length 0 (flat_map atom_numbers as')) = rw (e, atoms_many n g) in
    put_as m (put_next p (omega arith) q refl)

module _ (h : Head) {at m : ℕ} {vars head out out₁ out₂ out₃ : List ℕ} (room : at + (1 + max_head_variables + head_width) ≤ length out) where
  pub put_head_lem : m ≡ length (head_arguments h) → Put (m ∷ []) at out out₁ → vars ≡ variables_of h → Put vars (at + 1) out₁ out₂
      → head ≡ head_numbers h → Put head (at + (1 + max_head_variables)) out₂ out₃ → Put (head_part h) at out out₃
  unfolding head_part
  put_head_lem e p f q g r =
      let v : length vars ≡ max_head_variables = ap length f ∙ padded_wide max_head_variables 0 (head_arguments h) in
      let x : (m ∷ vars) ++ head ≡ length (head_arguments h) ∷ variables_of h ++ head_numbers h = rw (e, f, g) in
      put_as x (put_next (put_next p (omega arith) q refl) (omega (arith, v)) r (ap (λ (n : ℕ). at + n) (omega (arith, v))))
