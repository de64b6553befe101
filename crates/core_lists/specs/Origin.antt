-- The keys of one origin, a subject and a predicate, in an ascending list. Assumes nothing.
use Rattle.std.specs.Prelude.{◌≡◌, ℕ, ◌+◌, cond, List, [], ◌∷◌, ◌==◌, nat_lt}
use Rattle.spread.specs.Keys.{origin_of}
use Rattle.meaning.specs.Member.{◌∈◌}

-- how many keys are of earlier origins
unfoldable pub keys_before : ℕ → List ℕ → ℕ
keys_before q [] = 0
keys_before q (k ∷ ks) = cond (nat_lt (origin_of k) q) 1 0 + keys_before q ks

-- a triple of this subject and predicate
pub record HasOrigin (triples : List ℕ) (origin : ℕ) : Type 0 where
  pub key : ℕ
  pub listed : key ∈ triples
  pub is : origin_of key ≡ origin

-- the keys of this origin
unfoldable pub group : ℕ → List ℕ → List ℕ
group q [] = []
group q (k ∷ ks) = cond (origin_of k == q) (k ∷ group q ks) (group q ks)
