-- The two ways in which a call meets its contract: it refuses as 1, or it runs and clears its working buffers; and what
-- follows from the contract for every answer. Assumes nothing.
use lib.Dec.{T, leb, leb→le}
use lib.ListN.{length}
use mathlib.Core.Bool.{Bool, true, false, cond, not}
use mathlib.Core.List.{List, [], ◌∷◌, ◌++◌}
use mathlib.Core.Logic.Dec
use mathlib.Core.Logic.{◌↔◌}
use mathlib.Core.Path.{◌≡◌, refl, sym, subst}
use native.Mathlib.Decide.{dec_le}
use Prim.Native.Nat.{ℕ}
use Rattle.calls.proofs.Tested.{failed, passed}
use Rattle.calls.specs.Call.{Call, Kept, Lent, LongEnough, Modest, Outcome, Zero, gives, refuses}
use Rattle.meaning.specs.Limits.{max_working_length}

-- ---- tests that compute

pub long? : (bs : List Lent) → Dec (LongEnough bs)
long? [] = yes tt
long? (b ∷ bs) = Dec.and (dec_le b.least (length b.before)) (long? bs)

-- that no working buffer asks too much, by its stated length
abbrev pub modest? : List Lent → Bool
modest? [] = true
modest? (b ∷ bs) = cond (leb b.least max_working_length) (modest? bs) false

modest : (bs : List Lent) → T (modest? bs) → Modest bs
modest [] h = tt
modest (b ∷ bs) h = go (leb b.least max_working_length) refl (modest bs) h
  where
    go : (x : Bool) → leb b.least max_working_length ≡ x → (T (modest? bs) → Modest bs) → T (cond x (modest? bs) false) → Modest (b ∷ bs)
    go true e more h = (leb→le _ _ (subst T (sym e) tt), more h)
    go false e more h = absurd h

-- ---- the two ways, by the test of the lengths

module _ {A : Type 0} {one r : A} {Refuses : A → Type 0} {Gives : A → List (List ℕ) → Type 0} {lists buffers : List Lent} where
  module _ (m : T (modest? buffers)) (b : Bool) (test : T b ↔ LongEnough (lists ++ buffers)) where
    pub refused_1 : not b ≡ true → r ≡ one → Kept (lists ++ buffers) → Call one Refuses Gives r lists buffers
    refused_1 e q k =
        let n = failed b test e in record { refuses_1 = λ _. (q, k); outcome = λ l. absurd (n l); zero = λ l. absurd (n l); modest = modest buffers m }

    pub ran : not b ≡ false → Outcome Refuses Gives r lists → Zero buffers → Call one Refuses Gives r lists buffers
    ran e o z = let l = passed b test e in record { refuses_1 = λ n. absurd (n l); outcome = λ _. o; zero = λ _. z; modest = modest buffers m }

  -- what is true of 1, of each refusal and of all that is given is true of the answer
  pub every : (Q : A → Type 0) → Q one → (Refuses r → Q r) → ((fronts : List (List ℕ)) → Gives r fronts → Q r) → Call one Refuses Gives r lists buffers → Q r
  every Q x f g c = go (long? (lists ++ buffers))
    where
      out : Outcome Refuses Gives r lists → Q r
      out (refuses u k) = f u
      out (gives fronts u w) = g fronts u

      go : Dec (LongEnough (lists ++ buffers)) → Q r
      go (yes l) = out (c.outcome l)
      go (no n) = subst Q (sym (c.refuses_1 n).0) x
