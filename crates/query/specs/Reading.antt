-- What the readers leave, as their contracts say it. Assumes nothing.
use Rattle.std.specs.Prelude.{eqb, length, drop, get_or, Bool, cond, List, Option, Some, None, ◌≡◌, ℕ, ◌+◌, ◌≤◌, ◌<◌}
use Rattle.grammar.specs.Grammar.{letter, other, asterisk, angle_close, quote}
use Rattle.grammar.specs.Parse.{Out, bad, ok, label}
use Rattle.meaning.specs.Limits.{max_parts, max_query_bytes}
use Rattle.meaning.specs.Pack.{Text}
use Rattle.meaning.specs.Query.{Expr, at_iri, at_literal}
use Rattle.query.specs.Tree.{Holds, part}

-- The bytes that a run goes over, by the kind of part that it is read for: a name's letters, a label's bytes, stars.
unfoldable pub class : ℕ → ℕ → Bool
class kind c = cond (eqb kind 2) (letter c) (cond (eqb kind 3) (other angle_close c) (cond (eqb kind 4) (other quote c) (eqb asterisk c)))

-- The rest of a label, by its kind of part.
unfoldable pub labelled : ℕ → Text → Out
labelled kind s = cond (eqb kind 3) (label angle_close at_iri s) (label quote at_literal s)

-- Where a reader may begin: no more parts than bytes so far, and room for a part for each byte.
pub record CanRead (q t : List ℕ) (i n : ℕ) : Type 0 where
  pub within : i ≤ length q
  pub short : length q ≤ max_query_bytes
  pub room : max_parts ≤ length t
  pub few : n ≤ i

-- The answer o is an expression that t holds from part n up to m; the bytes i up to j were read, and no more parts made.
pub record Stored (q t : List ℕ) (i n j m : ℕ) (o : Out) : Type 0 where
  pub expr : Expr
  pub gives : o ≡ ok expr (drop j q)
  pub holds : Holds q t n expr m
  pub moved : i < j
  pub within : j ≤ length q
  pub few : m + i ≤ n + j

abbrev pub Tells : Option (ℕ × ℕ) → List ℕ → List ℕ → ℕ → ℕ → Out → Type 0
Tells (Some p) q t i n o = Stored q t i n p.0 p.1 o
Tells None q t i n o = o ≡ bad

-- A reader that began at byte i and part n, and ended at a byte and a part, or refused, as the answer o says. Parts before n
-- are kept.
pub record Reading (q t t' : List ℕ) (i n : ℕ) (r : Option (ℕ × ℕ)) (o : Out) : Type 0 where
  pub kept : (x : ℕ) → x < n → get_or t' x 0 ≡ get_or t x 0
  pub tells : Tells r q t' i n o

-- k stars from part n on.
pub record StarsPut (t t' : List ℕ) (n k : ℕ) : Type 0 where
  pub kept : (x : ℕ) → x < n → get_or t' x 0 ≡ get_or t x 0
  pub stars : (x : ℕ) → n ≤ x → x < n + k → get_or t' x 0 ≡ part 6 0 0
