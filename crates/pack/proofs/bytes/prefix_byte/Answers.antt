-- `bytes::prefix_byte` meets its contract. Assumes nothing.
use Rattle.pack.proofs.Runs.{prefix_letter, prefix_mark}
use Rattle.pack.proofs.bytes.prefix_byte.Goals as goal

pub returns-then-is_ascii_alphanumeric : goal.returns-then-is_ascii_alphanumeric
returns-then-is_ascii_alphanumeric c = prefix_letter _ c.is_ascii_alphanumeric.ensures.value c.if-is_ascii_alphanumeric.true

pub returns-else-is_ascii_alphanumeric : goal.returns-else-is_ascii_alphanumeric
returns-else-is_ascii_alphanumeric c = prefix_mark _ c.is_ascii_alphanumeric.ensures.value c.if-is_ascii_alphanumeric.false c.contains.ensures.value
