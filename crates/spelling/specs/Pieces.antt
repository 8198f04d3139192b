-- The pieces that a text is written in, one after the other: what stands before and behind a part where another is due.
-- Assumes nothing.
use Rattle.std.specs.Prelude.{ℕ, cond, List, []}
use Rattle.text.specs.Bytes.{bytes}
use Rattle.grammar.specs.declared.Part.{Part}
use Rattle.spelling.specs.Text.{stands_as}

-- the parentheses around a part, where it may not stand as the due one
abbrev pub opening : Part → Part → List ℕ
opening due own = cond (stands_as due own) [] (bytes "(")

abbrev pub closing : Part → Part → List ℕ
closing due own = cond (stands_as due own) [] (bytes ")")
