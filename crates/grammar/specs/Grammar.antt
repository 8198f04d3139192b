-- Document 01's grammar of requirement text, production by production: which bytes say which tree.
use Rattle.std.specs.Prelude.{Bool, ℕ, suc, ◌+◌, ◌≤◌, List, ◌++◌}
use Rattle.text.specs.Bytes.{bytes}
use Rattle.text.specs.Numeral.{Numeral}
use Rattle.tables.specs.declared.Span.{Span}
use Rattle.grammar.specs.declared.Part.{Part}
use Rattle.grammar.specs.declared.Part.TheVariants.{Alternative as alternative, Conjunction as conjunction, Bind as bind, Unary as unary}
use Rattle.tables.specs.Kind.{true_kind, predicate_kind, not_kind, and_kind, or_kind}
use Rattle.grammar.specs.Operators.{letter, binders, prefixes, ◌∈◌}
use Rattle.tables.specs.Tree.{NODES, LONGEST, NO_END, marked, no_span}
use Rattle.grammar.specs.Tree.{opens, closes, mark, Tree, truth, predicate, one, two, size}

-- a window is `[lo,hi]`, hi perhaps `*`, with `(` for an excluded low end and `)` for an excluded high end; without end it closes with `]`. The ends obey the table's limits, and
-- as read something is left between them.
pub data WindowText : List ℕ → Span → Type 0 where
  ended : {v w : List ℕ} {lo hi : ℕ} (low high : Bool) → Numeral v lo → Numeral w hi → lo + mark low + mark high ≤ hi → hi ≤ LONGEST
      → WindowText (opens low ++ (v ++ (bytes "," ++ (w ++ closes high)))) (marked lo hi (mark low) (mark high))
  endless : {v : List ℕ} {lo : ℕ} (low : Bool) → Numeral v lo → lo ≤ LONGEST
      → WindowText (opens low ++ (v ++ (bytes "," ++ bytes "*]"))) (marked lo NO_END (mark low) 0)

-- `Derives part d text tree`: the text is such a part, says the tree, and at most d of `!`, `G`, `F` and `(` enclose one another in it
pub data Derives : Part → ℕ → List ℕ → Tree → Type 0 where
  -- alternative = conjunction, then any count of `|` conjunction, grouped to the left
  alternative_one : {d : ℕ} {w : List ℕ} {a : Tree} → Derives conjunction d w a → Derives alternative d w a
  alternative_more : {d : ℕ} {v w : List ℕ} {a b : Tree} → Derives alternative d v a → Derives conjunction d w b
      → Derives alternative d (v ++ (letter or_kind ++ w)) (two or_kind no_span a b)
  -- conjunction = bind, then any count of `&` bind, grouped to the left
  conjunction_one : {d : ℕ} {w : List ℕ} {a : Tree} → Derives bind d w a → Derives conjunction d w a
  conjunction_more : {d : ℕ} {v w : List ℕ} {a b : Tree} → Derives conjunction d v a → Derives bind d w b
      → Derives conjunction d (v ++ (letter and_kind ++ w)) (two and_kind no_span a b)
  -- bind = unary, optionally followed by `U` or `R`, a window and a unary
  bind_one : {d : ℕ} {w : List ℕ} {a : Tree} → Derives unary d w a → Derives bind d w a
  bind_two : {d k : ℕ} {v x w : List ℕ} {r : Span} {a b : Tree} → Derives unary d v a → k ∈ binders → WindowText x r → Derives unary d w b
      → Derives bind d (v ++ (letter k ++ (x ++ w))) (two k r a b)
  -- unary = `!` unary
  unary_not : {d : ℕ} {w : List ℕ} {a : Tree} → Derives unary d w a → Derives unary (suc d) (letter not_kind ++ w) (one not_kind no_span a)
  -- `G` or `F` window unary
  unary_timed : {d k : ℕ} {x w : List ℕ} {r : Span} {a : Tree} → k ∈ prefixes → WindowText x r → Derives unary d w a
      → Derives unary (suc d) (letter k ++ (x ++ w)) (one k r a)
  -- `T`
  unary_true : {d : ℕ} → Derives unary d (letter true_kind) truth
  -- `p` with 0 to 15
  unary_predicate : {d p : ℕ} {w : List ℕ} → Numeral w p → p ≤ 15 → Derives unary d (letter predicate_kind ++ w) (predicate p)
  -- or a parenthesised alternative
  unary_group : {d : ℕ} {w : List ℕ} {a : Tree} → Derives alternative d w a → Derives unary (suc d) (bytes "(" ++ (w ++ bytes ")")) a

-- at most so many of `!`, `G`, `F` and `(` enclose one another
abbrev pub ENCLOSINGS : ℕ
ENCLOSINGS = 32

-- a requirement: an alternative with at most 32 enclosings and at most 64 nodes
pub record Requires (text : List ℕ) (tree : Tree) : Type 0 where
  pub derives : Derives alternative ENCLOSINGS text tree
  pub nodes : size tree ≤ NODES
