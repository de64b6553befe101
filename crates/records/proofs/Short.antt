-- What is read is short: a text, a prefix. Assumes nothing.
use lib.ListN.{length}
use mathlib.Core.Bool.{Bool}
use mathlib.Core.List.{List}
use mathlib.Core.Option.{some}
use mathlib.Core.Path.{◌≡◌, subst}
use Prim.Native.Nat.{ℕ, ◌≤◌}
use Rattle.meaning.specs.Limits.{max_arguments, max_name_bytes, max_prefix_bytes, max_value_bytes}
use Rattle.meaning.specs.Pack.{Constructor, Text}
use Rattle.pack.specs.Readers.{Read, byte_in, sized}
use Rattle.pack.specs.Records.{constructor, name, value}
use Rattle.pack.proofs.Bounds.{got_is, next_some, sized_bound}

sized_short : (ok : ℕ → Bool) (lo hi : ℕ) (s : List ℕ) (r : Read (List ℕ)) → sized ok lo hi s ≡ some r → length r.got ≤ hi
sized_short ok lo hi s r e = (sized_bound ok lo hi s r e).few

-- ---- texts

pub value_short : (s : List ℕ) (r : Read Text) → value s ≡ some r → length r.got ≤ max_value_bytes
unfolding value
value_short s r e = sized_short _ 0 max_value_bytes s r e

pub name_short : (s : List ℕ) (r : Read Text) → name s ≡ some r → length r.got ≤ max_name_bytes
unfolding name
name_short s r e = sized_short _ 1 max_name_bytes s r e

pub prefix_short : (s : List ℕ) (r : Read Constructor) → constructor s ≡ some r → length r.got.prefix ≤ max_prefix_bytes
unfolding constructor
prefix_short s r e =
    let a = next_some (byte_in 1 max_arguments s) _ r e in
    let b = next_some (sized _ 1 max_prefix_bytes a.0.rest) _ r a.2 in
    subst (λ (x : Constructor). length x.prefix ≤ max_prefix_bytes) (got_is b.2) (sized_short _ 1 max_prefix_bytes a.0.rest b.0 b.1)
