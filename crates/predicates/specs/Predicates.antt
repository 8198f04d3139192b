-- The tests of refusal 4 and of what refusal 3 asks of the predicates. `proofs/Predicates` shows each equal to its sentence: `Channels` of `recordings/specs/Accepted`, and `Named` below.
-- Assumes nothing.
use Rattle.std.specs.Prelude.{◌≡◌, Bool, true, not, ◌&&◌, ◌||◌, List, ℕ, ◌<◌, leb, ltb, eqb, length, ℤ, pos, neg_ℤ}
use Rattle.std.specs.Int.Signed.{le_z}
use Rattle.lists.specs.Fold.{all_below}
use Rattle.recordings.specs.declared.Predicate.{Predicate}
use Rattle.recordings.specs.declared.Range.{Range}
use Rattle.recordings.specs.declared.Range.TheVariants.{Unset, Free, AtLeast, AtMost, Between}
use Rattle.recordings.specs.Card.{Card, predicate, predicate_at}
use Rattle.recordings.specs.Distance.{is_unset}
use Rattle.recordings.specs.Accepted.{MOST_CHANNELS, FARTHEST}
use Rattle.tables.specs.declared.Node.{Node}
use Rattle.tables.specs.declared.Table.{Table}
use Rattle.tables.specs.Kind.{predicate_kind}
use Rattle.tables.specs.Tree.{node_at}
use Rattle.tables.specs.Rules.{table_obeys}

abbrev pub is_set : Range → Bool
is_set r = not (is_unset r)

-- ---- 3: a node names a predicate that is unset
unfoldable pub names_set : Node → List Predicate → Bool
names_set n ps = not (eqb n.kind predicate_kind) || is_set (predicate_at ps n.left).range

unfoldable pub all_named : List Node → ℕ → List Predicate → Bool
all_named ns n ps = all_below (λ k. names_set (node_at ns k) ps) n

-- refusal 3 whole: the table's own rules, and what it names
unfoldable pub requirement_obeys : Table → List Predicate → Bool
requirement_obeys t ps = table_obeys t && all_named t.nodes t.count ps

-- every predicate that a node names is set
pub record Named (c : Card) (t : Table) : Type 0 where
  pub set : (k : ℕ) → k < t.count → (node_at t.nodes k).kind ≡ predicate_kind → (predicate c (node_at t.nodes k).left).range ≡ Unset → ⊥

-- ---- 4: channels not 1 to 8, or a set predicate with a channel not below that count, an end out of range or lo > hi
unfoldable pub value_obeys : ℤ → Bool
value_obeys v = le_z (neg_ℤ (pos FARTHEST)) v && le_z v (pos FARTHEST)

abbrev pub range_obeys : Range → Bool
range_obeys Unset = true
range_obeys Free = true
range_obeys (AtLeast lo) = value_obeys lo
range_obeys (AtMost hi) = value_obeys hi
range_obeys (Between lo hi) = value_obeys lo && (value_obeys hi && le_z lo hi)

unfoldable pub predicate_obeys : Predicate → ℕ → Bool
predicate_obeys p channels = (not (is_set p.range) || ltb p.channel channels) && range_obeys p.range

unfoldable pub predicates_obey : List Predicate → ℕ → Bool
predicates_obey ps channels = all_below (λ p. predicate_obeys (predicate_at ps p) channels) (length ps)

unfoldable pub channels_obey : List Predicate → ℕ → Bool
channels_obey ps channels = leb 1 channels && (leb channels MOST_CHANNELS && predicates_obey ps channels)
