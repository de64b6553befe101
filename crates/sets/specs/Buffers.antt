-- What the functions on lent buffers leave behind. Assumes nothing.
use Rattle.std.specs.Prelude.{List, ◌++◌, ℕ, take, drop, replicate}

-- n zeros ("A lent working buffer is zero at every return")
abbrev pub zeros : ℕ → List ℕ
zeros n = replicate n 0

-- the first n elements of src, then what dst has past n ("Entries past a reported count also keep theirs")
abbrev pub overlaid : ℕ → List ℕ → List ℕ → List ℕ
overlaid n src dst = take n src ++ drop n dst
