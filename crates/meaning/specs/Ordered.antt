-- Sets written as lists: strictly ascending, exactly the members. Assumes nothing.
use Rattle.std.specs.Prelude.{length, List, [], ◌∷◌, ◌↔◌, ◌≢◌, ◌≡◌, ℕ, ◌<◌}
use Rattle.meaning.specs.Member.{◌∈◌}

module _ {A : Type 0} (R : A → A → Type 0) where
  -- Each element stands in R to every later one: ascending, if R is an order; all different, if R is ≢.
  pub data InOrder : List A → Type 0 where
    empty : InOrder []
    before : {x : A} {xs : List A} → ((y : A) → y ∈ xs → R x y) → InOrder xs → InOrder (x ∷ xs)

  -- The list of the set Q: in order, and its elements are exactly the members of Q.
  pub record ListOf (Q : A → Type 0) (xs : List A) : Type 0 where
    pub ascending : InOrder xs
    pub members : (x : A) → (x ∈ xs) ↔ Q x

-- Over k elements are in the set Q: some list holds more than k different ones.
pub record Over {A : Type 0} (k : ℕ) (Q : A → Type 0) : Type 0 where
  pub some : List A
  pub differ : InOrder ◌≢◌ some
  pub members : (x : A) → x ∈ some → Q x
  pub over : k < length some

-- The set Q has n elements: some list holds exactly these, each once.
pub record Number {A : Type 0} (Q : A → Type 0) (n : ℕ) : Type 0 where
  pub all : List A
  pub list : ListOf ◌≢◌ Q all
  pub many : n ≡ length all

-- Lists of numbers, compared entry by entry; a list comes before its continuations.
infix 50 ◌≺◌
pub data ◌≺◌ : List ℕ → List ℕ → Type 0 where
  shorter : {y : ℕ} {ys : List ℕ} → [] ≺ (y ∷ ys)
  less : {x y : ℕ} {xs ys : List ℕ} → x < y → (x ∷ xs) ≺ (y ∷ ys)
  equal : {x y : ℕ} {xs ys : List ℕ} → x ≡ y → xs ≺ ys → (x ∷ xs) ≺ (y ∷ ys)
