-- Lists of which a part is overwritten: what stands there, before and behind it; parts one after another. Assumes nothing.
use lib.ListN.{drop, length, length-append, length-drop, length-take, set, take, take-append-drop}
use lib.Seq.{drop-append-le, drop_at, drop-drop, length_front, length-take-le, sets-eq, take-append-le, take_at}
use mathlib.Core.List.{List, [], ◌∷◌, ◌++◌, append_assoc, append-nil}
use mathlib.Core.Path.{◌≡◌, sym, ap, ◌∙◌}
use native.Mathlib.Numerals.{towards_suc}
use native.Mathlib.Omega.{arith}
use Prim.Native.Nat.{ℕ, ◌+◌, ◌≤◌}
use Rattle.meaning.specs.Overwritten.{overwritten}

-- ---- a list in two parts, of which the first is the front of another

-- what stands before place j stays
pub kept_front : (a n j : ℕ) (xs zs : List ℕ) → a + n ≤ j → j ≤ length xs → take n (drop a (take j xs ++ zs)) ≡ take n (drop a xs)
kept_front a n j xs zs h l = go zs ∙ sym (go (drop j xs)) ∙ ap (λ (y : List ℕ). take n (drop a y)) (take-append-drop j xs)
  where
    go : (ys : List ℕ) → take n (drop a (take j xs ++ ys)) ≡ take n (drop a (take j xs))
    go ys =
        rw (drop-append-le a (take j xs) ys (omega (arith, h, l, length-take j xs)))
        (take-append-le n (drop a (take j xs)) ys (omega (arith, h, l, length-take j xs, length-drop a (take j xs))))

-- what is put there is there
pub put_there : (n j : ℕ) (xs ys zs : List ℕ) → j ≤ length xs → n ≤ length ys → take n (drop j (take j xs ++ (ys ++ zs))) ≡ take n ys
put_there n j xs ys zs h l = rw (drop_at (take j xs) (ys ++ zs) j (omega (arith, h, length-take j xs))) (take-append-le n ys zs l)

-- a part replaced by one of its length
pub part_replaced : (j k : ℕ) (xs ys : List ℕ) → length ys ≡ length (take k (drop j xs)) → length (take j xs ++ (ys ++ drop k (drop j xs))) ≡ length xs
part_replaced j k xs ys l =
    omega (arith, length-append (take j xs) (ys ++ drop k (drop j xs)), length_front (drop j xs) ys k l, length-take j xs, length-drop j xs)

-- ---- what an overwritten list holds

module _ (at : ℕ) (numbers out : List ℕ) (room : at ≤ length out) where
  pub written_before : take at (overwritten at numbers out) ≡ take at out
  written_before = rw (append_assoc (take at out) numbers (drop (at + length numbers) out)) (take_at (take at out) (numbers ++ drop (at + length numbers) out) at (length-take-le at out room))

  pub written_there : {w : ℕ} → length numbers ≡ w → take w (drop at (overwritten at numbers out)) ≡ numbers
  written_there {w} long =
      rw (append_assoc (take at out) numbers (drop (at + length numbers) out), drop_at (take at out) (numbers ++ drop (at + length numbers) out) at (length-take-le at out room))
      (take_at numbers (drop (at + length numbers) out) w long)

module _ (at k : ℕ) (numbers out : List ℕ) (long : length numbers ≡ k) (room : at + k ≤ length out) where
  front : length (take at out ++ numbers) ≡ at + k
  front = length-append (take at out) numbers ∙ omega (arith, length-take at out, room, long)

  pub written_front : take (at + k) (overwritten at numbers out) ≡ take at out ++ numbers
  written_front = take_at (take at out ++ numbers) (drop (at + length numbers) out) (at + k) front

  pub written_rest : drop (at + k) (overwritten at numbers out) ≡ drop (at + k) out
  written_rest = drop_at (take at out ++ numbers) (drop (at + length numbers) out) (at + k) front ∙ ap (λ (n : ℕ). drop (at + n) out) long

  pub written_long : length (overwritten at numbers out) ≡ length out
  written_long =
      length-append (take at out ++ numbers) (drop (at + length numbers) out)
      ∙ omega (arith, length-drop (at + length numbers) out, front, room, long)

  -- one part after the other
  pub parts_written : (more : List ℕ) → overwritten (at + k) more (overwritten at numbers out) ≡ overwritten at (numbers ++ more) out
  parts_written more =
      let d : drop (at + k + length more) (overwritten at numbers out) ≡ drop (at + k + length more) out =
      sym (drop-drop (length more) (at + k) (overwritten at numbers out)) ∙ ap (drop (length more)) written_rest ∙ drop-drop (length more) (at + k) out in
      let l : at + k + length more ≡ at + length (numbers ++ more) = omega (arith, length-append numbers more, long) in
      rw (written_front, d, l) (ap (λ (x : List ℕ). x ++ drop (at + length (numbers ++ more)) out) (append_assoc (take at out) numbers more))

-- the same numbers, named otherwise
pub written_as : (at : ℕ) (out out' a b : List ℕ) → out' ≡ overwritten at a out → a ≡ b → out' ≡ overwritten at b out
written_as at out out' a b e q = e ∙ ap (λ (l : List ℕ). overwritten at l out) q

pub nothing_written : (at : ℕ) (out : List ℕ) → out ≡ overwritten at [] out
nothing_written at out =
    let e : at + 0 ≡ at = omega arith in
    sym (rw (e, append-nil (take at out)) (take-append-drop at out))

-- three stores, one after another
pub three : (at v₀ v₁ v₂ : ℕ) (out : List ℕ) → at + 3 ≤ length out
    → set (set (set out at v₀) (at + 1) v₁) (at + 2) v₂ ≡ overwritten at (v₀ ∷ v₁ ∷ v₂ ∷ []) out
three at v₀ v₁ v₂ out h = simp towards_suc (simp towards_suc at (sets-eq (v₀ ∷ v₁ ∷ v₂ ∷ []) out at h))
