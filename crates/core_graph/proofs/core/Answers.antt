-- `core_graph::core` meets its contract: the nodes, the triples by their places, then the types. Assumes nothing.
use Rattle.std.specs.Prelude.{◌≡◌, ℕ, ◌≤◌, List, length, take}
use lib.ListN.{length-take}
use mathlib.Core.Logic.{inl, inr}
use mathlib.Core.Path.{◌∙◌}
use native.Mathlib.Omega.{arith}
use Rattle.std.proofs.lemmas.Result.{err_from_is_err_and}
use Rattle.core_graph.proofs.AllPasses.{all_placed, core_listed, known_rules}
use Rattle.core_graph.proofs.core.Goals as goal

exact : (n : ℕ) (d : List ℕ) → n ≤ length d → n ≡ length (take n d)
exact n d h = omega (arith, length-take n d, h)

few : (n k : ℕ) (d : List ℕ) → n ≤ length d → length d ≡ k → length (take n d) ≤ k
few n k d h e = omega (arith, length-take n d, h, e)

pub slice_bounds-triples-end : goal.slice_bounds-triples-end
slice_bounds-triples-end c = c.in_ok-n.ensures.grown.fits

pub slice_bounds-triples-end-2 : goal.slice_bounds-triples-end-2
slice_bounds-triples-end-2 c = exact _ _ c.in_ok-n.ensures.grown.fits

pub triples-requires : goal.triples-requires
triples-requires c = let g = c.in_ok-n.ensures.grown in
    (g.list.ascending, few _ _ _ g.fits (c.nodes.auto.nodes ∙ c.requires.1), c.requires.2)

pub slice_bounds-typing-end : goal.slice_bounds-typing-end
slice_bounds-typing-end c = c.in_ok-n.ensures.grown.fits

pub slice_bounds-typing-end-2 : goal.slice_bounds-typing-end-2
slice_bounds-typing-end-2 c = exact _ _ c.in_ok-n.ensures.grown.fits

pub slice_bounds-typing-end-3 : goal.slice_bounds-typing-end-3
slice_bounds-typing-end-3 c = c.in_ok-t.ensures.grown.fits

pub slice_bounds-typing-end-4 : goal.slice_bounds-typing-end-4
slice_bounds-typing-end-4 c = exact _ _ c.in_ok-t.ensures.grown.fits

pub typing-rounds-requires : goal.typing-rounds-requires
typing-rounds-requires c =
    let s = c.requires in
    let n = c.in_ok-n.ensures.grown in
    let t = c.in_ok-t.ensures.grown in
    let few_nodes = few _ _ _ n.fits (c.nodes.auto.nodes ∙ s.1) in
    let fit = c.args.heads.now.fit in
    let k = known_rules fit n in
    (s.0, n.list.ascending, few_nodes, k, all_placed fit _ n.list.ascending few_nodes k t, few _ _ _ t.fits (c.triples.auto.triples ∙ s.2), s.3, s.4)

pub returns-in_err-n : goal.returns-in_err-n
returns-in_err-n c = rw (err_from_is_err_and c.from_residual.result c.from_residual.ensures.1).1 (λ P h b. inl (c.in_err-n.ensures P h b))

pub returns-in_err-t : goal.returns-in_err-t
returns-in_err-t c =
    rw (err_from_is_err_and c.from_residual-in_err-t.result c.from_residual-in_err-t.ensures.1).1 (λ P h b. inr (c.in_err-t.ensures P h b (c.in_ok-n.ensures.list P h b)))

pub returns : goal.returns
returns c =
    let s = c.requires in
    let a = c.typing-rounds in
    core_listed c.in_ok-n.ensures c.in_ok-t.ensures a.ensures (c.nodes.auto.nodes ∙ s.1) (c.triples.auto.triples ∙ s.2) (omega (arith, a.auto.masks, s.3))
