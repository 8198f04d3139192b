-- The tests of predicates hold exactly where their sentences do. A test is taken apart into its parts and put together from them; a number past the listed predicates is unset, which obeys.
-- Assumes nothing.
use mathlib.Core.Path.{◌≡◌, refl}
use mathlib.Core.Bool.{Bool, true, false, not, ◌&&◌, ◌||◌}
use mathlib.Core.Logic.{inl, inr}
use mathlib.Core.List.{List}
use Prim.Native.Nat.{ℕ, ◌≤◌, ◌<◌}
use native.Mathlib.Omega.{arith}
use native.Mathlib.Decide.{dec_lt}
use borrow.Author.Tests.{eqb-true}
use lib.Dec.{T, T_not, leb, ltb, eqb, leb→le, le→leb, ltb→lt, lt→ltb}
use lib.ListN.{length, get_or-eq_default}
use lib.IntN.{ℤ, pos, neg_ℤ}
use lib.Signed.{le_z}
use mir.Facts.{and_yes, yes_and, or_yes, yes_eqb}
use Rattle.numbers.proofs.Parts.{holds, le_parts, parts_le, parts_apart, abs_parts}
use Rattle.lists.proofs.Below.{yes_or, all_at, at_all}
use Rattle.recordings.specs.declared.Predicate.{Predicate}
use Rattle.recordings.specs.declared.Range.{Range}
use Rattle.recordings.specs.declared.Range.TheVariants.{Unset, Free, AtLeast, AtMost, Between}
use Rattle.recordings.specs.Card.{predicate_at, Card, predicate}
use Rattle.recordings.specs.Accepted.{MOST_CHANNELS, FARTHEST, InRange, Ends, Proper, Channels}
use Rattle.tables.specs.declared.Node.{Node}
use Rattle.tables.specs.declared.Table.{Table}
use Rattle.tables.specs.Kind.{predicate_kind}
use Rattle.tables.specs.Tree.{node_at}
use Rattle.predicates.specs.Predicates.{is_set, names_set, all_named, Named, value_obeys, range_obeys, predicate_obeys, predicates_obey, channels_obey}

unset_is : (r : Range) → T (not (is_set r)) → r ≡ Unset
unset_is Unset t = refl
unset_is Free t = absurd t
unset_is (AtLeast lo) t = absurd t
unset_is (AtMost hi) t = absurd t
unset_is (Between lo hi) t = absurd t

unset_not : {r : Range} → r ≡ Unset → T (not (is_set r))
unset_not e = rw e tt

set_is : (r : Range) → (r ≡ Unset → ⊥) → T (is_set r)
set_is Unset h = absurd (h refl)
set_is Free h = tt
set_is (AtLeast lo) h = tt
set_is (AtMost hi) h = tt
set_is (Between lo hi) h = tt

-- ---- 3
pub named : (c : Card) (t : Table) → T (all_named t.nodes t.count c.setup.predicates) → Named c t
unfolding all_named names_set
named c t h = record {
  set = λ k i e u.
      let n : Node = node_at t.nodes k in
      let s = all_at (λ j. names_set (node_at t.nodes j) c.setup.predicates) t.count h k i in
      elim (or_yes (not (eqb n.kind predicate_kind)) (is_set (predicate c n.left).range) s) [
        | inl x ↦ T_not (eqb n.kind predicate_kind) x (yes_eqb e)
        | inr x ↦ T_not (is_set (predicate c n.left).range) (unset_not u) x
      ];
}

pub named_passes : (c : Card) (t : Table) → Named c t → T (all_named t.nodes t.count c.setup.predicates)
unfolding all_named names_set
named_passes c t r = at_all (λ j. names_set (node_at t.nodes j) c.setup.predicates) t.count one
  where
    set_or : (n : Node) (b : Bool) → eqb n.kind predicate_kind ≡ b → (n.kind ≡ predicate_kind → (predicate c n.left).range ≡ Unset → ⊥) → T (not b || is_set (predicate c n.left).range)
    set_or n false e h = tt
    set_or n true e h = set_is (predicate c n.left).range (h (eqb-true n.kind predicate_kind e))

    one : (k : ℕ) → k < t.count → T (names_set (node_at t.nodes k) c.setup.predicates)
    one k i = set_or (node_at t.nodes k) (eqb (node_at t.nodes k).kind predicate_kind) refl (r.set k i)

-- ---- 4
pub value_in_range : (v : ℤ) → T (value_obeys v) → InRange v
unfolding value_obeys
value_in_range v t =
    let a = and_yes (le_z (neg_ℤ (pos FARTHEST)) v) (le_z v (pos FARTHEST)) t in
    record { size = omega (arith, le_parts (neg_ℤ (pos FARTHEST)) v a.0, le_parts v (pos FARTHEST) a.1, parts_apart v, abs_parts v) }

pub in_range_passes : (v : ℤ) → InRange v → T (value_obeys v)
unfolding value_obeys
in_range_passes v r =
    yes_and (le_z (neg_ℤ (pos FARTHEST)) v) (le_z v (pos FARTHEST))
    (parts_le (neg_ℤ (pos FARTHEST)) v (omega (arith, r.size, abs_parts v)))
    (parts_le v (pos FARTHEST) (omega (arith, r.size, abs_parts v)))

pub range_ends : (r : Range) → T (range_obeys r) → Ends r
range_ends Unset t = tt
range_ends Free t = tt
range_ends (AtLeast lo) t = value_in_range lo t
range_ends (AtMost hi) t = value_in_range hi t
range_ends (Between lo hi) t =
    let a = and_yes (value_obeys lo) (value_obeys hi && le_z lo hi) t in
    let b = and_yes (value_obeys hi) (le_z lo hi) a.1 in
    (value_in_range lo a.0, value_in_range hi b.0, b.1)

pub ends_pass : (r : Range) → Ends r → T (range_obeys r)
ends_pass Unset e = tt
ends_pass Free e = tt
ends_pass (AtLeast lo) e = in_range_passes lo e
ends_pass (AtMost hi) e = in_range_passes hi e
ends_pass (Between lo hi) e =
    yes_and (value_obeys lo) (value_obeys hi && le_z lo hi) (in_range_passes lo e.0)
    (yes_and (value_obeys hi) (le_z lo hi) (in_range_passes hi e.1) e.2)

pub proper : (p : Predicate) (channels : ℕ) → T (predicate_obeys p channels) → Proper p channels
unfolding predicate_obeys
proper p channels t =
    let a = and_yes (not (is_set p.range) || ltb p.channel channels) (range_obeys p.range) t in
    record {
      known = elim (or_yes (not (is_set p.range)) (ltb p.channel channels) a.0) [
        | inl h ↦ inl (unset_is p.range h)
        | inr h ↦ inr (ltb→lt p.channel channels h)
      ];
      ends = range_ends p.range a.1;
    }

pub proper_passes : (p : Predicate) (channels : ℕ) → Proper p channels → T (predicate_obeys p channels)
unfolding predicate_obeys
proper_passes p channels r =
    yes_and (not (is_set p.range) || ltb p.channel channels) (range_obeys p.range)
    (yes_or (not (is_set p.range)) (ltb p.channel channels) (elim r.known [ inl h ↦ inl (unset_not h) | inr h ↦ inr (lt→ltb p.channel channels h) ]))
    (ends_pass p.range r.ends)

pub channels_are : (c : Card) → T (channels_obey c.setup.predicates c.setup.channels) → Channels c
unfolding predicates_obey channels_obey
channels_are c t =
    let a = and_yes (leb 1 c.setup.channels) (leb c.setup.channels MOST_CHANNELS && predicates_obey c.setup.predicates c.setup.channels) t in
    let b = and_yes (leb c.setup.channels MOST_CHANNELS) (predicates_obey c.setup.predicates c.setup.channels) a.1 in
    record {
      some_channel = leb→le 1 c.setup.channels a.0;
      few_channels = leb→le c.setup.channels MOST_CHANNELS b.0;
      proper = λ p. elim (dec_lt p (length c.setup.predicates)) [
        | yes i ↦ proper (predicate c p) c.setup.channels (all_at (λ q. predicate_obeys (predicate_at c.setup.predicates q) c.setup.channels) (length c.setup.predicates) b.1 p i)
        | no i ↦ rw (get_or-eq_default c.setup.predicates (record { channel = 0; range = Unset }) {n = p} (omega arith)) (record { known = inl refl; ends = tt })
      ];
    }

pub channels_pass : (c : Card) → Channels c → T (channels_obey c.setup.predicates c.setup.channels)
unfolding predicates_obey channels_obey
channels_pass c r =
    yes_and (leb 1 c.setup.channels) (leb c.setup.channels MOST_CHANNELS && predicates_obey c.setup.predicates c.setup.channels) (le→leb 1 c.setup.channels r.some_channel)
    (yes_and (leb c.setup.channels MOST_CHANNELS) (predicates_obey c.setup.predicates c.setup.channels) (le→leb c.setup.channels MOST_CHANNELS r.few_channels)
    (at_all (λ q. predicate_obeys (predicate_at c.setup.predicates q) c.setup.channels) (length c.setup.predicates) (λ p i. proper_passes (predicate c p) c.setup.channels (r.proper p))))

-- what the test of the lengths may rely on
pub few_channels : (ps : List Predicate) (channels : ℕ) → channels_obey ps channels ≡ true → channels ≤ MOST_CHANNELS
unfolding channels_obey
few_channels ps channels e =
    let a = and_yes (leb 1 channels) (leb channels MOST_CHANNELS && predicates_obey ps channels) (holds e) in
    leb→le channels MOST_CHANNELS (and_yes (leb channels MOST_CHANNELS) (predicates_obey ps channels) a.1).0
