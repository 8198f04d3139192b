-- What is read is derived: each reader's answer comes with the production that it followed, from the bytes between the two places.
-- Assumes nothing.
use Rattle.std.specs.Prelude.{Option, Some, None}
use mathlib.Core.Path.{◌≡◌, refl}
use mathlib.Core.List.{List, ◌++◌, append_assoc}
use Prim.Native.Nat.{ℕ, zero, suc}
use native.Mathlib.Omega.{arith}
use lib.ListN.{length}
use Rattle.text.specs.Bytes.{bytes}
use Rattle.text.specs.Mark.{mark_at, after}
use Rattle.text.specs.Number.{field_at, after_number}
use Rattle.text.proofs.Places.{Between, between_both}
use Rattle.text.proofs.Answers.{mark_is, field_is, past, past_number}
use Rattle.tables.specs.declared.Span.{Span}
use Rattle.grammar.specs.declared.Operator.{Operator}
use Rattle.grammar.specs.declared.Operator.TheVariants.{Absent, Over, Bad as Operator_as_Bad}
use Rattle.tables.specs.Kind.{true_kind, predicate_kind, not_kind, and_kind, or_kind}
use Rattle.grammar.specs.Operators.{letter, binders, prefixes}
use Rattle.tables.specs.Tree.{no_span}
use Rattle.grammar.specs.Tree.{Tree, truth, predicate, one, two}
use Rattle.grammar.specs.declared.Part.{Part}
use Rattle.grammar.specs.declared.Part.TheVariants.{Alternative as alternative, Conjunction as conjunction, Bind as bind, Unary as unary}
use Rattle.grammar.specs.Grammar.{Derives, alternative_one, alternative_more, conjunction_one, conjunction_more, bind_one, bind_two, unary_not, unary_timed, unary_true, unary_predicate, unary_group}
use Rattle.grammar.specs.Reading.{Reading, got, none, on_got, Reads, leaf_at, binder_at, prefix_at, timed_among, more_turns, bind_by, bind_of, conjunction_of, alternative_of, closing, unary_by, enclosing, unary_at, bind_at, conjunction_at, alternative_at}
use Rattle.grammar.proofs.Windows.{OperatorIs, timed_is}
use Rattle.grammar.proofs.Turns.{Onward}

-- a part of the grammar stands between two places and says a tree
pub record Stands (p : Part) (d : ℕ) (s : List ℕ) (at : ℕ) (a : Tree) (n : ℕ) : Type 0 where
  pub word : List ℕ
  pub between : Between s at n word
  pub derives : Derives p d word a

-- a reader of a part answers only what stands there
abbrev pub Sound : Part → ℕ → Reads → Type 0
Sound p d part = (s : List ℕ) (at : ℕ) (a : Tree) (n : ℕ) → part s at ≡ got a n → Stands p d s at a n

-- so it never goes back
pub sound_onward : {p : Part} {d : ℕ} (part : Reads) → Sound p d part → Onward part
sound_onward part h s at a n e = let b = (h s at a n e).between.end in omega arith

pub none_got : {a : Tree} {n : ℕ} → none ≡ got a n → ⊥
none_got h = cc

pub got_taken : (a : Tree) (n : ℕ) (x : Reading) (f : Tree → ℕ → Reading) → on_got x f ≡ got a n → (b : Tree) × (m : ℕ) × (x ≡ got b m) × (f b m ≡ got a n)
got_taken a n (got b m) f h = (b, m, refl, h)
got_taken a n none f h = absurd (none_got h)

-- equal answers, equal standing
stands_as : {p : Part} {d : ℕ} {s : List ℕ} {at : ℕ} {a b : Tree} {m n : ℕ} → got b m ≡ got a n → Stands p d s at b m → Stands p d s at a n
stands_as {a = a} {b = b} {m = m} {n = n} h x =
    let y : b ≡ a = cc in
    let z : m ≡ n = cc in
    rw (← y, ← z) x

-- ---- leaves

leaf_sound : (d : ℕ) → Sound unary d leaf_at
unfolding leaf_at
leaf_sound d s at a n h = go (mark_at (letter true_kind) s at) refl h
  where
    number : after_number (field_at (letter predicate_kind) s at 15) (λ p m. got (predicate p) m) none ≡ got a n → Stands unary d s at a n
    number g =
        let i = past_number none (got a n) none_got (field_at (letter predicate_kind) s at 15) _ g in
        let f = field_is (letter predicate_kind) s at 15 i.0 i.1 i.2 in
        let q = f.2 in
        stands_as i.3
        (record {
          word = letter predicate_kind ++ q.word;
          between = between_both f.1 q.between;
          derives = unary_predicate q.numeral q.bound;
        })

    go : (m : Option ℕ) → mark_at (letter true_kind) s at ≡ m
        → after m (λ k. got truth k) (after_number (field_at (letter predicate_kind) s at 15) (λ p k. got (predicate p) k) none) ≡ got a n
        → Stands unary d s at a n
    go (Some m) e g =
        stands_as g (record { word = letter true_kind; between = mark_is (letter true_kind) s at m e; derives = unary_true })
    go None e g = number g

-- ---- turns, for `|` and `&` alike

module _ (outer inner : Part) (k d : ℕ)
    (join : (v w : List ℕ) (a b : Tree) → Derives outer d v a → Derives inner d w b → Derives outer d (v ++ (letter k ++ w)) (two k no_span a b))
    (part : Reads) (sound : Sound inner d part) (s : List ℕ) (at : ℕ) where
  turns_sound : (f : ℕ) (x : Reading) → ((a : Tree) (n : ℕ) → x ≡ got a n → Stands outer d s at a n) → (a : Tree) (n : ℕ)
      → more_turns f part k s x ≡ got a n → Stands outer d s at a n
  unfolding more_turns
  turns_sound zero x h a n e = h a n e
  turns_sound (suc f) none h a n e = absurd (none_got e)
  turns_sound (suc f) (got b m) h a n e = go (λ x g i. turns_sound f x g a n i) (mark_at (letter k) s m) refl e
    where
      joined : (i : ℕ) → Between s m i (letter k) → (c : Tree) (j : ℕ) → part s i ≡ got c j → Stands outer d s at (two k no_span b c) j
      joined i w c j g =
          let l = h b m refl in
          let r = sound s i c j g in
          record {
            word = l.word ++ (letter k ++ r.word);
            between = between_both l.between (between_both w r.between);
            derives = join l.word r.word b c l.derives r.derives;
          }

      turned : (i : ℕ) → Between s m i (letter k) → (y : Reading) → part s i ≡ y → (c : Tree) (j : ℕ) → on_got y (λ q o. got (two k no_span b q) o) ≡ got c j → Stands outer d s at c j
      turned i w (got q o) g c j z =
          stands_as z (joined i w q o g)
      turned i w none g c j z = absurd (none_got z)

      go : ((x : Reading) → ((c : Tree) (j : ℕ) → x ≡ got c j → Stands outer d s at c j) → more_turns f part k s x ≡ got a n → Stands outer d s at a n)
          → (y : Option ℕ) → mark_at (letter k) s m ≡ y
          → after y (λ i. more_turns f part k s (on_got (part s i) (λ q o. got (two k no_span b q) o))) (got b m) ≡ got a n → Stands outer d s at a n
      go ih (Some i) g z = ih (on_got (part s i) (λ q o. got (two k no_span b q) o)) (turned i (mark_is (letter k) s m i g) (part s i) refl) z
      go ih None g z = h a n z

-- ---- bind, conjunction, alternative, unary

module _ (d : ℕ) (part : Reads) (sound : Sound unary d part) where
  bind_sound : Sound bind d (bind_of part)
  unfolding bind_by
  bind_sound s at a n h =
      let x = got_taken a n (part s at) _ h in
      go x.0 x.1 (sound s at x.0 x.1 x.2) (binder_at s x.1) refl x.3
    where
      second : (b : Tree) (m : ℕ) → Stands unary d s at b m → (k : ℕ) (r : Span) (i : ℕ) → OperatorIs binders s m k r i
          → (c : Tree) (j : ℕ) → part s i ≡ got c j → Stands bind d s at (two k r b c) j
      second b m l k r i o c j e =
          let q = sound s i c j e in
          record {
            word = l.word ++ (letter k ++ (o.word ++ q.word));
            between = rw append_assoc at (between_both l.between (between_both o.between q.between));
            derives = bind_two l.derives o.among o.window q.derives;
          }

      go : (b : Tree) (m : ℕ) → Stands unary d s at b m → (o : Operator) → binder_at s m ≡ o → bind_by part s b m o ≡ got a n → Stands bind d s at a n
      go b m l Absent e g =
          stands_as g (record { word = l.word; between = l.between; derives = bind_one l.derives })
      go b m l (Over k r i) e g =
          let x = got_taken a n (part s i) _ g in
          stands_as x.3 (second b m l k r i (timed_is binders s m k r i e) x.0 x.1 x.2)
      go b m l Operator_as_Bad e g = absurd (none_got g)

  conjunction_sound : Sound conjunction d (conjunction_of part)
  conjunction_sound s at a n h =
      turns_sound conjunction bind and_kind d (λ v w a b. conjunction_more) (bind_of part) bind_sound s at (length s) (bind_of part s at)
      (λ b m e. let x = bind_sound s at b m e in record { word = x.word; between = x.between; derives = conjunction_one x.derives })
      a n h

  alternative_sound : Sound alternative d (alternative_of part)
  alternative_sound s at a n h =
      turns_sound alternative conjunction or_kind d (λ v w a b. alternative_more) (conjunction_of part) conjunction_sound s at (length s) (conjunction_of part s at)
      (λ b m e. let x = conjunction_sound s at b m e in record { word = x.word; between = x.between; derives = alternative_one x.derives })
      a n h

  enclosing_sound : Sound unary (suc d) (enclosing part)
  unfolding unary_by
  enclosing_sound s at a n h = go (mark_at (bytes "(") s at) refl h
    where
      -- a parenthesised alternative
      group : (m : ℕ) → Between s at m (bytes "(") → closing s (alternative_of part s m) ≡ got a n → Stands unary (suc d) s at a n
      group m l g =
          let x = got_taken a n (alternative_of part s m) _ g in
          let y = past none (got a n) none_got (mark_at (bytes ")") s x.1) _ x.3 in
          let q = alternative_sound s m x.0 x.1 x.2 in
          stands_as y.2
          (record {
            word = bytes "(" ++ (q.word ++ bytes ")");
            between = between_both l (between_both q.between (mark_is (bytes ")") s x.1 y.0 y.1));
            derives = unary_group q.derives;
          })

      -- an operator before a unary
      over : (k : ℕ) (r : Span) (m : ℕ) (w : List ℕ) → Between s at m w → ((v : List ℕ) (b : Tree) → Derives unary d v b → Derives unary (suc d) (w ++ v) (one k r b))
          → on_got (part s m) (λ b e. got (one k r b) e) ≡ got a n → Stands unary (suc d) s at a n
      over k r m w l make g =
          let x = got_taken a n (part s m) _ g in
          let q = sound s m x.0 x.1 x.2 in
          stands_as x.3
          (record {
            word = w ++ q.word;
            between = between_both l q.between;
            derives = make q.word x.0 q.derives;
          })

      timed : (o : Operator) → timed_among prefixes s at ≡ o → unary_by part s at o ≡ got a n → Stands unary (suc d) s at a n
      timed Absent e g = leaf_sound (suc d) s at a n g
      timed (Over k r m) e g =
          let o = timed_is prefixes s at k r m e in
          over k r m (letter k ++ o.word) o.between (λ v b t. unary_timed o.among o.window t) g
      timed Operator_as_Bad e g = absurd (none_got g)

      prefix : (m : Option ℕ) → mark_at (letter not_kind) s at ≡ m
          → unary_by part s at (after m (λ i. Over not_kind no_span i) (timed_among prefixes s at)) ≡ got a n → Stands unary (suc d) s at a n
      prefix (Some m) e g = over not_kind no_span m (letter not_kind) (mark_is (letter not_kind) s at m e) (λ v b t. unary_not t) g
      prefix None e g = timed (timed_among prefixes s at) refl g

      go : (m : Option ℕ) → mark_at (bytes "(") s at ≡ m
          → after m (λ i. closing s (alternative_of part s i)) (unary_by part s at (prefix_at s at)) ≡ got a n → Stands unary (suc d) s at a n
      go (Some m) e g = group m (mark_is (bytes "(") s at m e) g
      go None e g = prefix (mark_at (letter not_kind) s at) refl g

pub unary_sound : (d : ℕ) → Sound unary d (unary_at d)
unfolding unary_at
unary_sound zero = leaf_sound zero
unary_sound (suc d) = enclosing_sound d (unary_at d) (unary_sound d)

pub bind_at_sound : (d : ℕ) → Sound bind d (bind_at d)
bind_at_sound d = bind_sound d (unary_at d) (unary_sound d)

pub conjunction_at_sound : (d : ℕ) → Sound conjunction d (conjunction_at d)
conjunction_at_sound d = conjunction_sound d (unary_at d) (unary_sound d)

pub alternative_at_sound : (d : ℕ) → Sound alternative d (alternative_at d)
alternative_at_sound d = alternative_sound d (unary_at d) (unary_sound d)
