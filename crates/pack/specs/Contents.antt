-- The contents: where each body stands, and refusal 3 (document 01, "The pack" and "Refused, in checking order").
-- Assumes nothing.
use Rattle.std.specs.Prelude.{eqb, length, take, drop, get_or, Bool, not, ◌&&◌, List, ℕ, zero, suc, ◌+◌, ◌*◌}
use Rattle.meaning.specs.Limits.{bodies, contents_bytes, max_pack_bytes}
use Rattle.meaning.specs.Tests.{within}

-- "32-bit little-endian"
unfoldable pub word : List ℕ → ℕ → ℕ
word s i = get_or s i 0 + 256 * (get_or s (i + 1) 0 + 256 * (get_or s (i + 2) 0 + 256 * get_or s (i + 3) 0))

-- "First the contents: nine 32-bit little-endian lengths." The length of body k, from 0.
unfoldable pub length_of : List ℕ → ℕ → ℕ
length_of s k = word s (4 * k)

-- "Then the nine bodies in that order, without gaps." Where body k starts.
unfoldable pub start_of : List ℕ → ℕ → ℕ
start_of s zero = contents_bytes
start_of s (suc k) = start_of s k + length_of s k

unfoldable pub body_of : List ℕ → ℕ → List ℕ
body_of s k = take (length_of s k) (drop (start_of s k) s)

-- 3: "The pack is under 36 or over 65,536 bytes, or 36 plus the lengths is not its size." The sum is exact.
unfoldable pub bad_size : List ℕ → Bool
bad_size s = not (within contents_bytes max_pack_bytes (length s) && eqb (start_of s bodies) (length s))
