-- The readers of the four parts: each branch of the code is a case of the grammar's reading, and a loop holds a reading whose further turns give the whole.
-- Assumes nothing.
use Rattle.std.specs.Prelude.{Option, Some, None}
use mathlib.Core.Path.{◌≡◌, refl, sym, ap, ◌∙◌}
use mathlib.Core.List.{List}
use Prim.Native.Nat.{ℕ, zero, suc, ◌+◌, ◌-◌, ◌≤◌, ◌<◌}
use native.Mathlib.Omega.{arith}
use lib.ListN.{length}
use Rattle.text.specs.Bytes.{bytes}
use Rattle.text.specs.Mark.{mark_at, after}
use Rattle.text.proofs.Answers.{mark_is}
use Rattle.tables.specs.Tree.{NODES, no_span}
use Rattle.tables.specs.declared.Span.{Span}
use Rattle.grammar.specs.declared.Part.{Part}
use Rattle.grammar.specs.declared.Part.TheVariants.{Alternative, Conjunction, Bind, Unary}
use Rattle.grammar.specs.declared.Operator.{Operator}
use Rattle.grammar.specs.declared.Operator.TheVariants.{Absent, Over, Bad as Operator_as_Bad}
use Rattle.tables.specs.Kind.{not_kind}
use Rattle.grammar.specs.Operators.{letter, binders, prefixes}
use Rattle.grammar.specs.Tree.{Tree, two, size}
use Rattle.grammar.specs.Reading.{Reading, got, none, on_got, Reads, leaf_at, prefix_at, binder_at, timed_among, more_turns, more, bind_by, closing, unary_by, unary_at, bind_at, conjunction_at, alternative_at, part_at}
use Rattle.grammar.proofs.Windows.{timed_is}
use Rattle.grammar.proofs.Turns.{Onward, more_none, more_over, more_turn}
use Rattle.grammar.proofs.Sound.{sound_onward, unary_sound, bind_at_sound, conjunction_at_sound, alternative_at_sound, got_taken}
use Rattle.building.specs.declared.Subtree.{Subtree}
use Rattle.building.specs.Storing.{read_part, step_of, Done, parent_step, join_cells}
use Rattle.building.proofs.Stores.{step_big, step_none, refused_big, ReadIs, read_is, refused_done, done_as, two_done, cells_small}

-- ---- unary, by what it begins with

pub unary_leaf : (d : ℕ) (s : List ℕ) (at : ℕ) → d ≡ 0 → leaf_at s at ≡ unary_at d s at
unfolding unary_at
unary_leaf d s at e = rw e

pub unary_enclosed : (d : ℕ) (s : List ℕ) (at : ℕ) → (d ≡ 0 → ⊥) → (n : ℕ) → mark_at (bytes "(") s at ≡ Some n → closing s (alternative_at (d - 1) s n) ≡ unary_at d s at
unfolding unary_at
unary_enclosed zero s at f n e = absurd (f refl)
unary_enclosed (suc d) s at f n e = let k : suc d - 1 ≡ d = omega arith in rw (k, e)

pub unary_operator : (d : ℕ) (s : List ℕ) (at : ℕ) → (d ≡ 0 → ⊥) → mark_at (bytes "(") s at ≡ None → (x : Operator) → prefix_at s at ≡ x
    → unary_by (unary_at (d - 1)) s at x ≡ unary_at d s at
unfolding unary_at
unary_operator zero s at f e x g = absurd (f refl)
unary_operator (suc d) s at f e x g = let k : suc d - 1 ≡ d = omega arith in rw (k, e, g)

-- the operator that a unary begins with ends behind its letter
pub prefix_onward : (s : List ℕ) (at k : ℕ) (r : Span) (n : ℕ) → prefix_at s at ≡ Over k r n → at ≤ n
prefix_onward s at k r n h = go (mark_at (letter not_kind) s at) refl h
  where
    go : (m : Option ℕ) → mark_at (letter not_kind) s at ≡ m → after m (λ i. Over not_kind no_span i) (timed_among prefixes s at) ≡ Over k r n → at ≤ n
    go (Some m) e g = let b = (mark_is (letter not_kind) s at m e).end in let z : m ≡ n = cc in omega arith
    go None e g = let b = (timed_is prefixes s at k r n g).between.end in omega arith

pub mark_onward : (key s : List ℕ) (at n : ℕ) → mark_at key s at ≡ Some n → at ≤ n
mark_onward key s at n h = let b = (mark_is key s at n h).end in omega arith

unary_onward : (d : ℕ) → Onward (unary_at d)
unary_onward d = sound_onward (unary_at d) (unary_sound d)

bind_onward : (d : ℕ) → Onward (bind_at d)
bind_onward d = sound_onward (bind_at d) (bind_at_sound d)

conjunction_onward : (d : ℕ) → Onward (conjunction_at d)
conjunction_onward d = sound_onward (conjunction_at d) (conjunction_at_sound d)

alternative_onward : (d : ℕ) → Onward (alternative_at d)
alternative_onward d = sound_onward (alternative_at d) (alternative_at_sound d)

pub part_onward : (p : Part) (d : ℕ) → Onward (part_at p d)
part_onward Alternative d = alternative_onward d
part_onward Conjunction d = conjunction_onward d
part_onward Bind d = bind_onward d
part_onward Unary d = unary_onward d

-- ---- bind, by what follows its unary

-- a refused unary refuses the bind
bind_big : (o : ℕ) (part : Reads) (s : List ℕ) (a : Tree) (n : ℕ) → NODES < o + size a → (x : Operator) → step_of o (bind_by part s a n x) ≡ None
unfolding bind_by size
bind_big o part s a n h Absent = step_big o a n h
bind_big o part s a n h (Over k r m) = go (part s m)
  where
    go : (y : Reading) → step_of o (on_got y (λ b e. got (two k r a b) e)) ≡ None
    go (got b e) = step_big o (two k r a b) e (omega arith)
    go none = step_none o
bind_big o part s a n h Operator_as_Bad = step_none o

module _ (o d : ℕ) (s : List ℕ) (at : ℕ) (p : Option Subtree) (before mid : List ℕ) (u : Done o (unary_at d s at) p before mid) where
  pub bind_refused : (after : List ℕ) → p ≡ None → Done o (bind_at d s at) None before after
  bind_refused after q = refused_done o (bind_at d s at) before after (go (unary_at d s at) (sym u.step ∙ q))
    where
      go : (x : Reading) → step_of o x ≡ None → step_of o (on_got x (λ a n. bind_by (unary_at d) s a n (binder_at s n))) ≡ None
      go (got a n) g = bind_big o (unary_at d) s a n (refused_big o a n g) (binder_at s n)
      go none g = step_none o

  module _ (e r f : ℕ) (q : p ≡ read_part e r f) where
    left_is : ReadIs o (unary_at d s at) e r f
    left_is = read_is o (unary_at d s at) e r f (sym u.step ∙ q)

    bound_by : (x : Operator) → binder_at s e ≡ x → bind_by (unary_at d) s left_is.tree e x ≡ bind_at d s at
    bound_by x g = sym (ap (λ (y : Reading). on_got y (λ a n. bind_by (unary_at d) s a n (binder_at s n))) left_is.reading ∙ ap (bind_by (unary_at d) s left_is.tree e) g)

    pub bind_alone : binder_at s e ≡ Absent → Done o (bind_at d s at) (read_part e r f) before mid
    unfolding bind_by
    bind_alone g = rw q at (done_as o (unary_at d s at) (bind_at d s at) p before mid (left_is.reading ∙ bound_by Absent g) u)

    pub bind_bad : (after : List ℕ) → binder_at s e ≡ Operator_as_Bad → Done o (bind_at d s at) None before after
    unfolding bind_by
    bind_bad after g = done_as o none (bind_at d s at) None before after (bound_by Operator_as_Bad g) (refused_done o none before after (step_none o))

    module _ (k : ℕ) (w : Span) (m : ℕ) (g : binder_at s e ≡ Over k w m) where
      pub bind_past : at ≤ m
      bind_past =
          let b : at ≤ e = unary_onward d s at left_is.tree e left_is.reading in
          let c : e ≤ m = let z = (timed_is binders s e k w m g).between.end in omega arith in
          omega arith

      pub bind_joined : (j y : Option Subtree) (later after : List ℕ) → Done f (unary_at d s m) j mid later → y ≡ parent_step j → after ≡ join_cells k w r j later
          → Done o (bind_at d s at) y before after
      unfolding bind_by
      bind_joined j y later after v c z =
          let i = left_is in
          let a = i.tree in
          done_as o (on_got (unary_at d s m) (λ b n. got (two k w a b) n)) (bind_at d s at) y before after (bound_by (Over k w m) g)
          (two_done o k w a (unary_at d s m) j y before mid later after i.fits
          (cells_small o a e p before mid (done_as o (unary_at d s at) (got a e) p before mid i.reading u) i.fits)
          (rw i.free at v) c (rw i.root at z))

-- ---- the turns of `&` and `|`

-- trees only grow
turns_big : (o f : ℕ) (part : Reads) (k : ℕ) (s : List ℕ) (a : Tree) (n : ℕ) → NODES < o + size a → step_of o (more_turns f part k s (got a n)) ≡ None
unfolding more_turns size
turns_big o zero part k s a n h = step_big o a n h
turns_big o (suc f) part k s a n h = go (λ b e. turns_big o f part k s (two k no_span a b) e) (mark_at (letter k) s n)
  where
    nothing : (f : ℕ) → step_of o (more_turns f part k s none) ≡ None
    nothing zero = step_none o
    nothing (suc f) = step_none o

    on : ((b : Tree) (e : ℕ) → NODES < o + (size a + size b + 1) → step_of o (more_turns f part k s (got (two k no_span a b) e)) ≡ None)
        → (x : Reading) → step_of o (more_turns f part k s (on_got x (λ b e. got (two k no_span a b) e))) ≡ None
    on ih (got b e) = ih b e (omega arith)
    on ih none = nothing f

    go : ((b : Tree) (e : ℕ) → NODES < o + (size a + size b + 1) → step_of o (more_turns f part k s (got (two k no_span a b) e)) ≡ None)
        → (m : Option ℕ) → step_of o (after m (λ i. more_turns f part k s (on_got (part s i) (λ b e. got (two k no_span a b) e))) (got a n)) ≡ None
    go ih (Some m) = on ih (part s m)
    go ih None = step_big o a n h

more_refused : (o : ℕ) (part : Reads) (k : ℕ) (s : List ℕ) (x : Reading) → step_of o x ≡ None → step_of o (more part k s x) ≡ None
more_refused o part k s (got a n) h = turns_big o (length s) part k s a n (refused_big o a n h)
more_refused o part k s none h = rw (more_none part k s) (step_none o)

-- what a loop holds: a reading that was done, past the start, whose further turns give the whole
pub record Turning (part : Reads) (k o : ℕ) (s : List ℕ) (at : ℕ) (x : Reading) (before : List ℕ) (p : Option Subtree) (cells : List ℕ) : Type 0 where
  pub reading : Reading
  pub done : Done o reading p before cells
  pub same : more part k s reading ≡ more part k s x
  pub onward : (a : Tree) (n : ℕ) → reading ≡ got a n → at ≤ n

-- the bytes left, by which a loop ends
abbrev pub bytes_left : List ℕ → Option Subtree → ℕ
bytes_left s p = after p (λ x. suc (length s) - x.end) 0

pub turning_start : (part first : Reads) (k o : ℕ) (s : List ℕ) (at : ℕ) (before : List ℕ) (p : Option Subtree) (cells : List ℕ) → Onward first → Done o (first s at) p before cells
    → Turning part k o s at (first s at) before p cells
turning_start part first k o s at before p cells w d = record { reading = first s at; done = d; same = refl; onward = λ a n e. w s at a n e }

module _ (part : Reads) (k o : ℕ) (s : List ℕ) (at : ℕ) (x : Reading) (before : List ℕ) (p : Option Subtree) (cells : List ℕ) (h : Turning part k o s at x before p cells) where
  pub turning_refused : (after : List ℕ) → p ≡ None → Done o (more part k s x) None before after
  turning_refused after e =
      refused_done o (more part k s x) before after (ap (step_of o) (sym h.same) ∙ more_refused o part k s h.reading (sym h.done.step ∙ e))

  module _ (e r f : ℕ) (q : p ≡ read_part e r f) where
    turning_read : ReadIs o h.reading e r f
    turning_read = read_is o h.reading e r f (sym h.done.step ∙ q)

    pub turning_over : mark_at (letter k) s e ≡ None → Done o (more part k s x) (read_part e r f) before cells
    turning_over m =
        let i = turning_read in
        let g : h.reading ≡ more part k s x = i.reading ∙ (sym (more_over part k s i.tree e m) ∙ (ap (more part k s) (sym i.reading) ∙ h.same)) in
        rw q at (done_as o h.reading (more part k s x) p before cells g h.done)

    module _ (w : Onward part) (m : ℕ) (g : mark_at (letter k) s e ≡ Some m) where
      pub turning_past : at ≤ m
      turning_past = let i = turning_read in let a : at ≤ e = h.onward i.tree e i.reading in let b = (mark_is (letter k) s e m g).end in omega arith

      module _ (j q' : Option Subtree) (mid after : List ℕ) (d : Done f (part s m) j cells mid) (c : q' ≡ parent_step j) (v : after ≡ join_cells k no_span r j mid) where
        turned : Reading
        turned = on_got (part s m) (λ b n. got (two k no_span turning_read.tree b) n)

        -- a further tree ends behind the letter
        turned_past : (a : Tree) (n : ℕ) → turned ≡ got a n → m ≤ n
        unfolding turned
        turned_past a n z =
            let y = got_taken a n (part s m) _ z in
            let l : m ≤ y.1 = w s m y.0 y.1 y.2 in
            let u : y.1 ≡ n = place y.3 in
            omega arith
          where
            place : {b c : Tree} {i n : ℕ} → got b i ≡ got c n → i ≡ n
            place z = cc

        pub turning_turn : Turning part k o s at x before q' after
        unfolding turned
        turning_turn =
            let i = turning_read in
            let y = i.tree in
            record {
              reading = turned;
              done =
                  two_done o k no_span y (part s m) j q' before cells mid after i.fits
                  (cells_small o y e p before cells (done_as o h.reading (got y e) p before cells i.reading h.done) i.fits)
                  (rw i.free at d) c (rw i.root at v);
              same = sym (more_turn part k s w y e m g) ∙ (ap (more part k s) (sym i.reading) ∙ h.same);
              onward = λ a n z. let b : m ≤ n = turned_past a n z in let u = turning_past in omega arith;
            }

        pub turning_less : bytes_left s q' < bytes_left s p
        unfolding turned turning_turn
        turning_less = rw q (go q' turning_turn.done.step)
          where
            go : (y : Option Subtree) → y ≡ step_of o turning_turn.reading → bytes_left s y < suc (length s) - e
            go (Some part) z =
                let b = mark_is (letter k) s e m g in
                let i = read_is o turning_turn.reading part.end part.root part.free (sym z) in
                let u : m ≤ part.end = turned_past i.tree part.end i.reading in
                let l = b.end in
                let y = b.inside in
                omega arith
            go None z = let b = mark_is (letter k) s e m g in let l = b.end in let y = b.inside in omega arith
