-- Parts of a text that are read one after another.
-- Assumes nothing.
use Rattle.std.specs.Prelude.{List, ◌∷◌, Option, Some, None}
use Rattle.text.specs.Mark.{read}
use Rattle.text.specs.declared.Read.{Read}

-- a part that was read, in front of those behind it; nothing is read where one of those is missing
abbrev pub also : {A : Type 0} → A → Option (Read (List A)) → Option (Read (List A))
also x (Some r) = read (x ∷ r.value) r.next
also x None = None
