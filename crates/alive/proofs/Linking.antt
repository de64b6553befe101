-- Links are written one by one, and lists of them have the parts that each part can make alive. Assumes nothing.
use lib.ListN.{get_or, get_or-replicate, length, length-set, replicate, set}
use lib.Seq.{get_or-set_other, get_or-set_same}
use mathlib.Core.List.{List}
use mathlib.Core.Logic.{inl, inr}
use mathlib.Core.Path.{subst, sym, ◌∙◌, ◌≡◌}
use native.Mathlib.Decide.{dec_lt, ℕ_discrete}
use native.Mathlib.Omega.{arith}
use Prim.Native.Nat.{ℕ, ◌*◌, ◌+◌, ◌-◌, ◌/◌, ◌<◌, ◌≤◌}
use Rattle.alive.specs.Links.{Caused, Link, LinksListed, LinkReady, max_causes, max_links}
use Rattle.alive.specs.Steps.{Touches}
use Rattle.index.proofs.Stands.{stands_triple}
use Rattle.index.specs.Objects.{ByObject, ListReady, Stands}
use Rattle.index.specs.Triples.{GraphFits, PredicatesFit, object_at, predicate_at, subject_at}
use Rattle.meaning.specs.Limits.{max_parts, max_predicates}
use Rattle.query.specs.Tree.{first_number, kind_of}
use Rattle.states.proofs.PartKinds.{part_ready}
use Rattle.states.specs.Fits.{ListsFit}
use Rattle.states.specs.Lists.{Lists}
use Rattle.walk.proofs.KindLaws.{kind_chain, kind_either, kind_leaf, kind_repeat, kind_test}
use Rattle.walk.specs.Parts.{Part, chain, either, leaf, part_of, repeat, test}

-- ---- link by link

pub link_start : {tree next links : List ℕ} → LinksListed tree next 0 links
link_start = record { whole = omega arith; subjects = λ e l. absurd (omega arith); predicates = λ e l. absurd (omega arith); objects = λ e l. absurd (omega arith) }

module _ {tree next links : List ℕ} {n c : ℕ} (d : LinksListed tree next n links) (room : n * 3 + 3 ≤ length links) (x : Link tree next n c) where
  one : List ℕ
  one = set links (n * 3) (n / 3)

  two : List ℕ
  two = set one (n * 3 + 1) 0

  three : List ℕ
  three = set two (n * 3 + 2) c

  long : length two ≡ length links
  unfolding one two
  long = length-set one (n * 3 + 1) 0 ∙ length-set links (n * 3) (n / 3)

  longer : length three ≡ length links
  unfolding three
  longer = length-set two (n * 3 + 2) c ∙ long

  kept : (k : ℕ) → k < n * 3 → get_or three k 0 ≡ get_or links k 0
  unfolding one two three
  kept k l = get_or-set_other two (n * 3 + 2) k c 0 (λ e. omega arith) ∙ get_or-set_other one (n * 3 + 1) k 0 0 (λ e. omega arith)
      ∙ get_or-set_other links (n * 3) k (n / 3) 0 (λ e. omega arith)

  new_subject : subject_at three n ≡ n / 3
  unfolding one two three
  new_subject = get_or-set_other two (n * 3 + 2) (n * 3) c 0 (λ e. omega arith) ∙ get_or-set_other one (n * 3 + 1) (n * 3) 0 0 (λ e. omega arith)
      ∙ get_or-set_same links (n * 3) (n / 3) 0 (omega arith)

  new_predicate : predicate_at three n ≡ 0
  unfolding one two three
  new_predicate = get_or-set_other two (n * 3 + 2) (n * 3 + 1) c 0 (λ e. omega arith) ∙ get_or-set_same one (n * 3 + 1) 0 0 (let z = length-set links (n * 3) (n / 3) in omega arith)

  new_object : object_at three n ≡ c
  unfolding three
  new_object = let z = long in get_or-set_same two (n * 3 + 2) c 0 (omega arith)

  -- what is true of the links so far and of the new one
  each : (P : ℕ → Type 0) → ((e : ℕ) → e < n → P e) → P n → (e : ℕ) → e < n + 1 → P e
  each P old new e l = go (dec_lt e n)
    where
      go : Dec (e < n) → P e
      go (yes h) = old e h
      go (no h) = let p : n ≡ e = omega arith in subst P p new

  pub link_again : LinksListed tree next (n + 1) (set (set (set links (n * 3) (n / 3)) (n * 3 + 1) 0) (n * 3 + 2) c)
  unfolding one two three
  link_again = record {
    whole = let z = longer in omega arith;
    subjects = each (λ e. subject_at three e ≡ e / 3) (λ e h. kept (e * 3) (omega arith) ∙ d.subjects e h) new_subject;
    predicates = each (λ e. predicate_at three e ≡ 0) (λ e h. kept (e * 3 + 1) (omega arith) ∙ d.predicates e h) new_predicate;
    objects = each (λ e. Link tree next e (object_at three e)) (λ e h. subst (λ z. Link tree next e z) (sym (kept (e * 3 + 2) (omega arith))) (d.objects e h))
        (subst (λ z. Link tree next n z) (sym new_object) x);
  }

pub link_done : {tree next links : List ℕ} {n m : ℕ} → LinksListed tree next m links → m ≡ n → LinksListed tree next n links
link_done {tree} {next} {links} d e = subst (λ k. LinksListed tree next k links) e d

-- ---- lists of links

pub link_ready : {L : Lists} → ListsFit L → LinkReady L.tree L.next L.parts
link_ready f = record { few = f.query.few; ready = λ i l. part_ready f i l }

-- No link is listed yet.
pub heads_ready : {parts : ℕ} → parts ≤ max_parts → ListReady max_causes (parts * 3) (replicate (max_causes + 2) 0) (replicate max_links 0)
heads_ready l = record { long = omega arith; room = omega arith; none = λ o h. get_or-replicate (max_causes + 2) o 0 0 h }

-- Links are triples within their bounds.
module _ {tree next links : List ℕ} {parts : ℕ} (l : parts ≤ max_parts) (d : LinksListed tree next (parts * 3) links) where
  pub links_fit : GraphFits max_causes (parts * 3) links
  links_fit = record {
    few_nodes = omega arith;
    few_edges = omega arith;
    whole = d.whole;
    subjects = λ k h. let z = d.subjects k h in omega arith;
    objects = λ k h. (d.objects k h).small;
  }

  pub no_predicates : PredicatesFit links (parts * 3)
  no_predicates k h = let z = d.predicates k h in omega arith

module _ {L : Lists} {links heads into : List ℕ} (f : ListsFit L) (d : LinksListed L.tree L.next (L.parts * 3) links) (b : ByObject links max_causes (L.parts * 3) heads into) where
  -- the part i is listed as one that j can make alive
  abbrev Listed : ℕ → ℕ → Type 0
  Listed i j = Stands into (get_or heads j 0) (get_or heads (j + 1) 0) (i * max_predicates)

  -- a link of the part i that leads from j
  found : (i j e : ℕ) → j < max_causes → e < L.parts * 3 → e / 3 ≡ i → object_at links e ≡ j → Listed i j
  found i j e h l p q =
      let s = ((b.exactly i 0 j h).0 (record { at = e; inside = l; subject = d.subjects e l ∙ p; predicate = d.predicates e l; object = q })).1 in
      let z : i * max_predicates + 0 ≡ i * max_predicates = omega arith in
      subst (λ x. Stands into (get_or heads j 0) (get_or heads (j + 1) 0) x) z s

  -- what is listed is a part
  is_part : (j x : ℕ) → j < max_causes → Stands into (get_or heads j 0) (get_or heads (j + 1) 0) x → x / max_predicates < L.parts
  is_part j x h s =
      let t = stands_triple b j h s in
      let e = t.subject in
      let g = d.subjects t.at t.inside in
      let l = t.inside in
      omega arith

  module _ (i j : ℕ) (l : i < L.parts) (h : j < max_causes) where
    from_after : kind_of L.tree i < 7 → j ≡ get_or L.next i 0 → Listed i j
    from_after k q =
        let p : i * 3 / 3 ≡ i = omega arith in
        found i j (i * 3) h (omega arith) p (subst (λ x. kind_of L.tree x < 7 → object_at links (i * 3) ≡ get_or L.next x 0) p
        ((d.objects (i * 3) (omega arith)).after (omega arith)) k ∙ sym q)

    from_body : 5 ≤ kind_of L.tree i → (kind_of L.tree i ≡ 7 → ⊥) → j ≡ i - 1 → Listed i j
    from_body k n q =
        let p : (i * 3 + 1) / 3 ≡ i = omega arith in
        found i j (i * 3 + 1) h (omega arith) p (subst (λ x. 5 ≤ kind_of L.tree x → (kind_of L.tree x ≡ 7 → ⊥) → object_at links (i * 3 + 1) ≡ x - 1) p
        ((d.objects (i * 3 + 1) (omega arith)).body (omega arith)) k n ∙ sym q)

    from_first : 7 ≤ kind_of L.tree i → j ≡ first_number L.tree i → Listed i j
    from_first k q =
        let p : (i * 3 + 2) / 3 ≡ i = omega arith in
        found i j (i * 3 + 2) h (omega arith) p (subst (λ x. 7 ≤ kind_of L.tree x → object_at links (i * 3 + 2) ≡ first_number L.tree x) p
        ((d.objects (i * 3 + 2) (omega arith)).first (omega arith)) k ∙ sym q)

    abbrev Way : Part → Type 0
    Way p = Touches (get_or L.next i 0) p j → Listed i j

    by : (p : Part) → part_of L.tree i ≡ p → Way p → Way (part_of L.tree i)
    by p e w = subst (λ q. Way q) (sym e) w

    way : Way (part_of L.tree i)
    way = go (ℕ_discrete (kind_of L.tree i) 5) (ℕ_discrete (kind_of L.tree i) 6) (ℕ_discrete (kind_of L.tree i) 7) (ℕ_discrete (kind_of L.tree i) 8)
      where
        testing : kind_of L.tree i ≡ 5 → Way (test (i - 1))
        testing k (inl q) = from_body (omega arith) (λ e. omega arith) q
        testing k (inr q) = from_after (omega arith) q

        repeating : kind_of L.tree i ≡ 6 → Way (repeat (i - 1))
        repeating k (inl q) = from_after (omega arith) q
        repeating k (inr q) = from_body (omega arith) (λ e. omega arith) q

        choosing : kind_of L.tree i ≡ 8 → Way (either (first_number L.tree i) (i - 1))
        choosing k (inl q) = from_first (omega arith) q
        choosing k (inr q) = from_body (omega arith) (λ e. omega arith) q

        go : Dec (kind_of L.tree i ≡ 5) → Dec (kind_of L.tree i ≡ 6) → Dec (kind_of L.tree i ≡ 7) → Dec (kind_of L.tree i ≡ 8) → Way (part_of L.tree i)
        go (yes k) b c d = by (test (i - 1)) (kind_test L.tree i k) (testing k)
        go (no a) (yes k) c d = by (repeat (i - 1)) (kind_repeat L.tree i k) (repeating k)
        go (no a) (no b) (yes k) d = by (chain (first_number L.tree i) (i - 1)) (kind_chain L.tree i k) (λ q. from_first (omega arith) q)
        go (no a) (no b) (no c) (yes k) = by (either (first_number L.tree i) (i - 1)) (kind_either L.tree i k) (choosing k)
        go (no a) (no b) (no c) (no e) = by leaf (kind_leaf L.tree i a b c e) (λ q. let z = f.query.kinds i l in from_after (omega arith) q)

  pub links_cause : Caused L heads into
  links_cause = record { long = b.long; inside = b.inside; parts = is_part; causes = λ i j l h x. way i j l h x }
