-- What an answer of the check says, by what its parts answered. Assumes nothing.
use lib.ListN.{get_or, length}
use mathlib.Core.Bool.{false}
use mathlib.Core.List.{List}
use mathlib.Core.Option.{none}
use mathlib.Core.Path.{◌≡◌, sym, ◌∙◌}
use Prim.Native.Nat.{ℕ, ◌<◌, ◌≤◌}
use Rattle.checks.specs.Checked.{Accepted, CheckedAs}
use Rattle.load.specs.Loaded.{PackLoaded, PackShown}
use Rattle.meaning.proofs.Lists.Bytes.{bytes_known}
use Rattle.meaning.specs.Limits.{setting_length}
use Rattle.meaning.specs.WellFormed.{dangling, duplicates, prefix_clash}
use Rattle.names.proofs.ReadWithinBounds.{given_of}
use Rattle.names.specs.PackGiven.{IsPack, PackGiven}
use Rattle.pack.proofs.Order.{accepted_is}
use Rattle.pack.specs.Checked.{refused, well_formed}
use Rattle.pack.specs.Contents.{bad_size}
use Rattle.pack.specs.Unpack.{unpack}
use Rattle.meaning.specs.declared.refusal.Refusal.TheVariants.{BadBody}
use Rattle.meaning.specs.declared.refusal.Refusal.{Refusal}
use Rattle.std.specs.Option.{ok_or}
use Rattle.std.specs.Prelude.{Option, None, Some, Result, Ok, Err}
use Rattle.texts.specs.Compared.{SomePack}

-- ---- what was loaded, where 4 is in the place of None

module _ (s numbers rows : List ℕ) (o : Option (List ℕ)) (h : PackShown s o numbers rows) {r : Result (List ℕ) Refusal} (v : r ≡ ok_or o BadBody) where
  pub loaded : {counts : List ℕ} → r ≡ Ok counts → PackLoaded s counts numbers rows
  loaded {counts} e = go o h (sym v ∙ e)
    where
      go : (o : Option (List ℕ)) → PackShown s o numbers rows → ok_or o BadBody ≡ Ok counts → PackLoaded s counts numbers rows
      go None h q = absurd (cc)
      go (Some n) h q = let k : n ≡ counts = cc in rw k at h

  pub broken : (unpack s ≡ none → well_formed s ≡ refused 4) → {e : Refusal} → r ≡ Err e → CheckedAs s (Err e) numbers rows
  broken four {e} f = go o h (sym v ∙ f)
    where
      go : (o : Option (List ℕ)) → PackShown s o numbers rows → ok_or o BadBody ≡ Err e → CheckedAs s (Err e) numbers rows
      go None h q = (4, four h, (let k : BadBody ≡ e = cc in sym k))
      go (Some n) h q = absurd (cc)

-- ---- what holds of it

module _ {s counts numbers rows : List ℕ} (l : PackLoaded s counts numbers rows) where
  pub some_pack : SomePack s counts numbers
  some_pack = record { pack = l.pack; held = l.held.setting }

  module _ (small : (k : ℕ) → get_or s k 0 < 256) (long : setting_length ≤ length numbers) where
    pub given : PackGiven l.pack counts numbers rows
    given = given_of (bytes_known s small) l.is l.held long

    pub is_pack : IsPack counts numbers rows
    is_pack = record { pack = l.pack; given = given }

    pub accepts : bad_size s ≡ false → duplicates l.pack ≡ false → prefix_clash l.pack ≡ false → dangling l.pack ≡ false → Accepted s counts numbers rows
    accepts size a b d = record {
      pack = l.pack;
      is = accepted_is s size l.pack l.is a b d;
      held = l.held;
      given = given;
    }
