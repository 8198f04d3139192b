-- How long a requirement's text can be: each node writes at most its letter, a window of 23 bytes, `[1000000000,1000000000]`, and one pair of parentheses.
-- Assumes nothing.
use Rattle.std.specs.Prelude.{ℕ, ◌*◌}
use Rattle.tables.specs.Tree.{NODES}

abbrev pub NODE_TEXT : ℕ
NODE_TEXT = 26

-- so many bytes have room for the text of every requirement
abbrev pub LONGEST_TEXT : ℕ
LONGEST_TEXT = NODE_TEXT * NODES
