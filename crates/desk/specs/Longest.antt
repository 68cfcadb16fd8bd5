-- What the desk takes, in bytes. Assumes nothing.
use Rattle.std.specs.Prelude.{ℕ, ◌*◌}
use Rattle.edition.specs.Stored.{block_bytes, block_limit}

-- The longest file: that of edition 1.
abbrev pub longest_file : ℕ
longest_file = block_limit * block_bytes

-- The longest text.
abbrev pub longest_text : ℕ
longest_text = 524288
