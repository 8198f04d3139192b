-- A slice that was written from its front on.
-- Assumes nothing.
use Rattle.std.specs.Prelude.{List, ◌++◌, length, take, drop}

-- new contents in front; places beyond them keep theirs
abbrev pub in_front : {A : Type 0} → List A → List A → List A
in_front new old = new ++ drop (length new) old

-- the same as far as the slice goes, however long or short it is
unfoldable pub written : {X : Type 0} → List X → List X → List X
written new old = take (length old) new ++ drop (length new) old
