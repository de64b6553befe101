-- Steps that are repeated until one changes nothing. Assumes nothing.
use Rattle.std.specs.Prelude.{Bool, false, true, List, ◌≡◌, ℕ, ◌<◌}

-- A step that says true lowered how much is left; one that says false left the list as it was.
abbrev pub Progress : (List ℕ → ℕ) → Bool → List ℕ → List ℕ → Type 0
Progress left true before after = left after < left before
Progress left false before after = after ≡ before
