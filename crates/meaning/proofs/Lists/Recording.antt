-- The loop that writes records of one length into a list, one after another. Assumes nothing.
use lib.ListN.{drop, length, length-append, take, take-append-drop}
use lib.Seq.{drop-drop, length-take-le}
use mathlib.Core.List.{List, [], ◌∷◌, ◌++◌, append_assoc, append-nil, flatten}
use mathlib.Core.Path.{◌≡◌, refl, sym, ap, ◌∙◌}
use native.Mathlib.Nat.{suc-mul}
use native.Mathlib.Numerals.{add-one}
use native.Mathlib.Omega.{arith}
use Prim.Native.Nat.{ℕ, ◌+◌, ◌*◌, ◌≤◌}
use Rattle.meaning.proofs.Lists.Overwriting.{written_front, written_long, written_rest}
use Rattle.meaning.specs.Overwritten.{overwritten}

-- records of w numbers each, from the first-th on: those written, and those still to come, are all
pub record Records (w first i : ℕ) (rest all : List (List ℕ)) (out₀ out : List ℕ) : Type 0 where
  pub long : length out ≡ length out₀
  pub is : take (i * w) out ++ flatten rest ≡ take (first * w) out₀ ++ flatten all
  pub kept : drop (i * w) out ≡ drop (i * w) out₀

pub records_start : (w first : ℕ) (all : List (List ℕ)) (out : List ℕ) → Records w first first all all out out
records_start w first all out = record { long = refl; is = refl; kept = refl }

pub records_again : {w first i : ℕ} {rest all : List (List ℕ)} {out₀ out : List ℕ} (rec : List ℕ) → Records w first i (rec ∷ rest) all out₀ out → length rec ≡ w
    → i * w + w ≤ length out₀ → Records w first (i + 1) rest all out₀ (overwritten (i * w) rec out)
unfolding flatten
records_again {w} {first} {i} {rest} {all} {out₀} {out} rec r l h = record {
  long = written_long (i * w) w rec out l room ∙ r.long;
  is = rw (next, written_front (i * w) w rec out l room) (append_assoc (take (i * w) out) rec (flatten rest) ∙ r.is);
  kept = rw (next, written_rest (i * w) w rec out l room) (sym (drop-drop w (i * w) out) ∙ ap (drop w) r.kept ∙ drop-drop w (i * w) out₀);
}
  where
    room : i * w + w ≤ length out
    room = let q = r.long in omega arith

    next : (i + 1) * w ≡ i * w + w
    next = rw (add-one i) (suc-mul i w)

pub records_done : {w first i : ℕ} {all : List (List ℕ)} {out₀ out : List ℕ} → Records w first i [] all out₀ out → first * w ≤ length out₀ → i * w ≤ length out₀
    → out ≡ overwritten (first * w) (flatten all) out₀
unfolding flatten
records_done {w} {first} {i} {all} {out₀} {out} r g h =
    let e : take (i * w) out ≡ take (first * w) out₀ ++ flatten all = sym (append-nil (take (i * w) out)) ∙ r.is in
    let l : i * w ≡ first * w + length (flatten all) =
    sym (length-take-le (i * w) out (let q = r.long in omega arith)) ∙ ap length e
    ∙ length-append (take (first * w) out₀) (flatten all) ∙ ap (λ (n : ℕ). n + length (flatten all)) (length-take-le (first * w) out₀ g) in
    sym (take-append-drop (i * w) out) ∙ rw (e, r.kept) (ap (λ (n : ℕ). (take (first * w) out₀ ++ flatten all) ++ drop n out₀) l)
