-- Records held one after another: one more at the end; numbers past them may change. Assumes nothing.
use Rattle.meaning.proofs.Lists.Parts.{same_part}
use lib.ListN.{drop, length, take}
use lib.Seq.{drop-drop, take-length}
use mathlib.Core.List.{List, [], ◌∷◌, ◌++◌}
use mathlib.Core.Path.{◌≡◌, sym, ap, subst, ◌∙◌}
use native.Mathlib.Omega.{arith}
use Prim.Native.Nat.{ℕ, ◌+◌, ◌*◌, ◌≤◌}
use Rattle.meaning.proofs.Lists.Places.{inside, snoc_at}
use Rattle.records.specs.PackHeld.{RecordsHeld}
use Rattle.records.specs.Kept.{Put}
use Rattle.meaning.proofs.Lists.Overwriting.{written_before, written_there}
use Rattle.meaning.proofs.Lists.Blocks.{record_end}

-- ---- one record more

module _ {A : Type 0} (N : A → List ℕ → Type 0) (w : ℕ) where
  pub held_more : {done : List A} {a : A} {numbers out out' : List ℕ} → RecordsHeld N w done 0 out → N a numbers → length numbers ≡ w → length done * w + w ≤ length out
      → Put numbers (length done * w) out out' → RecordsHeld N w (done ++ (a ∷ [])) 0 out'
  held_more {done} {a} {numbers} {out} {out'} h n m room p = record {
    each = λ i x e.
        snoc_at done a i x e
        (λ f.
        let r = record_end i (length done) w (inside done i x f) in
        subst (N x) (sym (same_part w (i * w) (length done * w) out' out r (ap (take (length done * w)) p.is ∙ written_before (length done * w) numbers out (omega arith)))) (h.each i x f))
        (λ f g.
        let e : take w (drop (length done * w) out') ≡ numbers = ap (λ (ys : List ℕ). take w (drop (length done * w) ys)) p.is
        ∙ written_there (length done * w) numbers out (omega arith) m in
        let here = subst (N a) (sym e) n in
        subst (λ (j : ℕ). N x (take w (drop (j * w) out'))) (sym f) (subst (λ (y : A). N y (take w (drop (length done * w) out'))) g here));
  }

  -- numbers past the records may change
  pub held_kept : {xs : List A} {at end : ℕ} {out out' : List ℕ} → RecordsHeld N w xs at out → at + length xs * w ≤ end → take end out' ≡ take end out
      → RecordsHeld N w xs at out'
  held_kept {xs} {at} {end} {out} {out'} h l e = record {
    each = λ i x f.
        let r = record_end i (length xs) w (inside xs i x f) in
        let s : take w (drop (i * w) (drop at out')) ≡ take w (drop (i * w) (drop at out)) =
        ap (take w) (drop-drop (i * w) at out') ∙ same_part w (at + i * w) end out' out (omega (arith, r, l)) e ∙ sym (ap (take w) (drop-drop (i * w) at out))
        in
        subst (N x) (sym s) (h.each i x f);
  }

  -- in a part of a list, and in the list
  pub held_at : {xs : List A} (at : ℕ) {part out : List ℕ} → RecordsHeld N w xs 0 part → length xs * w ≤ length part
      → take (length part) (drop at out) ≡ part → RecordsHeld N w xs at out
  held_at {xs} at {part} {out} h l e = record {
    each = λ i x f.
        let r = record_end i (length xs) w (inside xs i x f) in
        let s : take w (drop (i * w) (drop at out)) ≡ take w (drop (i * w) part) =
        same_part w (i * w) (length part) (drop at out) part (omega (arith, r, l)) (e ∙ sym (take-length part))
        in
        subst (N x) (sym s) (h.each i x f);
  }
