-- The operators of requirement text: one table of letters, by kind, for the grammar, the reader and a writer.
use Rattle.std.specs.Prelude.{ℕ, get_or}
use mathlib.Core.List.{List, [], ◌∷◌, Memᴰ}
use Rattle.text.specs.Bytes.{bytes}
use Rattle.tables.specs.Kind.{until_kind, release_kind, eventually_kind, always_kind}

-- the letter of each kind of node, at the kind's place: true, predicate, not, and, or, until, release, eventually, always
abbrev pub letters : List ℕ
letters = bytes "Tp!&|URFG"

abbrev pub letter : ℕ → List ℕ
letter k = get_or letters k 0 ∷ []

-- the kinds with a window that stand between two unaries (until, release), and before one (eventually, always)
abbrev pub binders : List ℕ
binders = until_kind ∷ release_kind ∷ []

abbrev pub prefixes : List ℕ
prefixes = eventually_kind ∷ always_kind ∷ []

infix 50 ◌∈◌
abbrev pub ◌∈◌ : ℕ → List ℕ → Type 0
k ∈ ks = Memᴰ k ks
