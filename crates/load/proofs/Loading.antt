-- The loop over the records of a body: those before the cursor are held. Assumes nothing.
use borrow.Author.Tests.{lt-leb}
use lib.ListN.{length, length-append}
use mathlib.Core.List.{List, [], ◌∷◌, ◌++◌, append_assoc, append-nil}
use mathlib.Core.Option.{Option, none, some}
use mathlib.Core.Path.{◌≡◌, refl, sym, ap, ◌∙◌}
use native.Mathlib.Nat.{suc-mul}
use native.Mathlib.Numerals.{add-one}
use native.Mathlib.Omega.{arith}
use Prim.Native.Nat.{ℕ, ◌+◌, ◌*◌, ◌-◌, ◌≤◌, ◌<◌}
use Rattle.load.specs.Loaded.{BodyLoaded}
use Rattle.pack.proofs.Bodies.{less, all_end, all_on, all_stop, read_all_on, shrinks_of}
use Rattle.pack.specs.Kinds.{RecordOf, reader_of}
use Rattle.pack.specs.Readers.{Read, Reader}
use Rattle.pack.specs.Shown.{Not, left}
use Rattle.pack.specs.Unpack.{also, at_most, body, read_all}
use Rattle.pack.specs.declared.cursor.Cursor.{Cursor}
use Rattle.pack.specs.declared.kinds.Kind.{Kind}
use Rattle.records.specs.PackHeld.{BodyHeld, width}
use Rattle.records.specs.Kept.{RecordKept}
use Rattle.records.specs.Numbers.{NumbersOf}
use Rattle.records.proofs.Putting.{put_long}
use Rattle.load.proofs.HeldRecords.{held_more}
use Rattle.meaning.proofs.Lists.Blocks.{record_end}

-- records before others, where these are whole
abbrev pub before : {A : Type 0} → List A → Option (List A) → Option (List A)
before done none = none
before done (some xs) = some (done ++ xs)

before_on : {A : Type 0} (done : List A) (a : A) (o : Option (List A)) → before done (also a o) ≡ before (done ++ (a ∷ [])) o
before_on done a none = refl
before_on {A} done a (some xs) = ap {B = Option (List A)} some (sym (append_assoc done (a ∷ []) xs))

-- the records of `done` are held, and with those from c on they are all
pub record Loading (k : Kind) (c₀ : Cursor) (limit : ℕ) (out₀ out : List ℕ) (n at : ℕ) (c : Cursor) : Type 0 where
  pub same : c.bytes.now ≡ c₀.bytes.now
  pub done : List (RecordOf k)
  pub many : n ≡ length done
  pub few : n ≤ limit
  pub place : at ≡ n * width k
  pub long : length out ≡ length out₀
  pub held : BodyHeld k c₀.bytes.now done 0 out
  pub all : read_all (reader_of k) (left c₀) ≡ before done (read_all (reader_of k) (left c))

-- too many
over : {A : Type 0} (reader : Reader A) (limit : ℕ) (s : List ℕ) (xs : List A) → read_all reader s ≡ some xs → limit < length xs → body reader limit s ≡ none
unfolding body
over reader limit s xs e h = rw (e, lt-leb (length xs) limit h, at_most)

broken : {A : Type 0} (reader : Reader A) (limit : ℕ) (s : List ℕ) → read_all reader s ≡ none → body reader limit s ≡ none
unfolding body
broken reader limit s e = rw e

module _ {k : Kind} {c₀ : Cursor} {limit : ℕ} {out₀ out : List ℕ} {n at : ℕ} {c : Cursor} (l : Loading k c₀ limit out₀ out n at c) where
  -- there is room for one more
  pub loading_room : limit * width k ≤ length out₀ → n < limit → at + width k ≤ length out
  loading_room h f = omega (arith, l.place, l.long, record_end n limit (width k) f)

  pub loading_on : {size : ℕ} {out' : List ℕ} {d : Cursor} → limit * width k ≤ length out₀ → n < limit → size ≡ width k → RecordKept k c at out out' d
      → Loading k c₀ limit out₀ out' (n + 1) (at + size) d
  loading_on {size} {out'} {d} h f e g =
      let room = loading_room h f in
      let p : at ≡ length l.done * width k = l.place ∙ ap (λ (m : ℕ). m * width k) l.many in
      record {
        same = g.got.bytes ∙ l.same;
        done = l.done ++ (g.it ∷ []);
        many = omega (arith, l.many, length-append l.done (g.it ∷ []));
        few = omega arith;
        place = rw add-one (omega (arith, suc-mul n (width k), l.place, e));
        long = put_long g.put (omega (arith, room, g.many)) ∙ l.long;
        held = held_more (NumbersOf k c₀.bytes.now) (width k) l.held (rw l.same at g.are) g.many (omega (arith, room, p)) (rw p at g.put);
        all = l.all ∙ ap (before l.done) (all_on (reader_of k) (shrinks_of k) g.got) ∙ before_on l.done g.it (read_all (reader_of k) (left d));
      }

  pub loading_less : {out' : List ℕ} {d : Cursor} → RecordKept k c at out out' d → d.end - d.at < c.end - c.at
  loading_less g = less (reader_of k) (shrinks_of k) g.got

  pub loading_stuck : c.at < c.end → Not (reader_of k) c → body (reader_of k) limit (left c₀) ≡ none
  loading_stuck h b = broken (reader_of k) limit (left c₀) (l.all ∙ ap (before l.done) (all_stop (reader_of k) (shrinks_of k) h b))

  -- a record more than the limit, or none that is whole
  pub loading_full : c.at < c.end → limit ≤ n → body (reader_of k) limit (left c₀) ≡ none
  loading_full h f = go (reader_of k (left c)) refl
    where
      more : (r : Read (RecordOf k)) (o : Option (List (RecordOf k))) → read_all (reader_of k) (left c₀) ≡ before l.done (also r.got o) → body (reader_of k) limit (left c₀) ≡ none
      more r none e = broken (reader_of k) limit (left c₀) e
      more r (some xs) e = over (reader_of k) limit (left c₀) _ e (omega (arith, l.many, length-append l.done (r.got ∷ xs)))

      go : (o : Option (Read (RecordOf k))) → reader_of k (left c) ≡ o → body (reader_of k) limit (left c₀) ≡ none
      go none e = loading_stuck h (record { reads = e })
      go (some r) e = more r (read_all (reader_of k) r.rest) (l.all ∙ ap (before l.done) (read_all_on (reader_of k) (shrinks_of k) (left c) r e))

  pub loading_done : c.end ≤ c.at → BodyLoaded k c₀ limit n out
  loading_done h = record {
    records = l.done;
    read = l.all ∙ ap (before l.done) (all_end (reader_of k) (shrinks_of k) c h) ∙ ap {B = Option (List (RecordOf k))} some (append-nil l.done);
    many = l.many;
    few = l.few;
    held = l.held;
  }
