-- From the union reader to the whole text. Assumes nothing.
use lib.ListN.{length, drop, length-drop, drop_of_length-le}
use mathlib.Core.List.{List, []}
use mathlib.Core.Path.{◌≡◌, sym, ap, ◌∙◌}
use native.Mathlib.Omega.{arith}
use Prim.Native.Nat.{ℕ, ◌≤◌, ◌<◌}
use Rattle.meaning.specs.Limits.{max_open_brackets, max_query_bytes}
use Rattle.meaning.specs.Pack.{Text}
use Rattle.std.specs.Prelude.{Some, None}
use Rattle.query.specs.Answer.{HoldsQuery, Refusal2}
use Rattle.grammar.specs.Grammar.{a_union}
use Rattle.grammar.specs.Parse.{ok, parse}
use Rattle.query.specs.Reading.{Reading}
use Rattle.grammar.proofs.Agree.{reads_whole}
use Rattle.grammar.proofs.Sound.{never}

pub too_long : (q : Text) → max_query_bytes < length q → Refusal2 q
too_long q h e x = let y = x.fits in omega arith

pub no_query : {q t t' : List ℕ} → Reading q t t' 0 0 None (parse a_union max_open_brackets (drop 0 q)) → Refusal2 q
no_query {q} r e x = never (sym r.tells ∙ (reads_whole q max_open_brackets e).0 x.reads)

module _ {q t t' : List ℕ} {p : ℕ × ℕ} (r : Reading q t t' 0 0 (Some p) (parse a_union max_open_brackets (drop 0 q))) where
  pub left_over : (p.0 ≡ length q → ⊥) → Refusal2 q
  left_over ne e x =
      let s = r.tells in
      let g = s.gives in
      let w = (reads_whole q max_open_brackets e).0 x.reads in
      let v : drop p.0 q ≡ [] = cc in
      let n = ap length v in
      let k = length-drop p.0 q in
      let b = s.within in
      ne (omega arith)

  pub a_query : p.0 ≡ length q → length q ≤ max_query_bytes → HoldsQuery q t' p.1
  a_query z le =
      let s = r.tells in
      let mv = s.moved in
      let fw = s.few in
      let o : length q ≤ p.0 = omega arith in
      let n : drop p.0 q ≡ [] = drop_of_length-le q o in
      record {
        expression = s.expr;
        query = record { some = omega arith; fits = le; reads = (reads_whole q max_open_brackets s.expr).1 (s.gives ∙ ap (λ (x : Text). ok s.expr x) n) };
        holds = s.holds;
        few = omega arith;
      }
