-- What is derived is read: by induction on the derivation, provided that what follows cannot belong to the part. A left-grouped part is read up to the turns that may follow it.
-- Assumes nothing.
use mathlib.Core.Path.{◌≡◌, refl, ap, ◌∙◌}
use mathlib.Core.List.{List, [], ◌++◌, append_assoc}
use mathlib.Core.Bool.{Bool, true, not, ◌&&◌}
use Prim.Native.Nat.{ℕ, zero, suc, ◌+◌}
use native.Mathlib.Omega.{arith}
use lib.ListN.{length, get_or, drop, length-append}
use lib.Dec.{eqb}
use borrow.Author.Tests.{not-true}
use Rattle.text.specs.Bytes.{bytes}
use Rattle.text.specs.Number.{is_digit}
use Rattle.text.proofs.Tests.{both}
use Rattle.text.proofs.Places.{after_bytes}
use Rattle.text.proofs.Answers.{mark_made, mark_first, field_made}
use Rattle.tables.specs.Kind.{true_kind, predicate_kind, not_kind, and_kind, or_kind}
use Rattle.grammar.specs.Operators.{letters, letter, binders, prefixes}
use Rattle.tables.specs.Tree.{no_span}
use Rattle.grammar.specs.Tree.{Tree, two}
use Rattle.grammar.specs.declared.Part.{Part}
use Rattle.grammar.specs.declared.Part.TheVariants.{Alternative as alternative, Conjunction as conjunction, Bind as bind, Unary as unary}
use Rattle.grammar.specs.Grammar.{Derives, alternative_one, alternative_more, conjunction_one, conjunction_more, bind_one, bind_two, unary_not, unary_timed, unary_true, unary_predicate, unary_group}
use Rattle.grammar.specs.Reading.{Reading, got, Reads, leaf_at, more, bind_by, unary_by, unary_at, bind_at, conjunction_at, alternative_at}
use Rattle.grammar.proofs.Letters.{all_in, none_of}
use Rattle.grammar.proofs.Windows.{timed_made, timed_none}
use Rattle.grammar.proofs.Turns.{Onward, more_over, more_turn}
use Rattle.grammar.proofs.Sound.{sound_onward, bind_at_sound, conjunction_at_sound}

-- ---- what may follow a part: a byte with which it does not go on

abbrev pub unary_ends : ℕ → Bool
unary_ends b = not (is_digit b)

abbrev pub bind_ends : ℕ → Bool
bind_ends b = unary_ends b && none_of b binders

abbrev pub conjunction_ends : ℕ → Bool
conjunction_ends b = bind_ends b && not (eqb b (get_or letters and_kind 0))

abbrev pub alternative_ends : ℕ → Bool
alternative_ends b = conjunction_ends b && not (eqb b (get_or letters or_kind 0))

abbrev pub ends : Part → ℕ → Bool
ends unary b = unary_ends b
ends bind b = bind_ends b
ends conjunction b = conjunction_ends b
ends alternative b = alternative_ends b

abbrev pub Ends : Part → List ℕ → Type 0
Ends p r = ends p (get_or r 0 0) ≡ true

-- ---- what is read of a derived text, whatever follows

abbrev pub Complete : Part → ℕ → List ℕ → Tree → Type 0
Complete alternative d w a =
    (s : List ℕ) (at : ℕ) (r : List ℕ) → drop at s ≡ w ++ r → Ends conjunction r → alternative_at d s at ≡ more (conjunction_at d) or_kind s (got a (at + length w))
Complete conjunction d w a =
    (s : List ℕ) (at : ℕ) (r : List ℕ) → drop at s ≡ w ++ r → Ends bind r → conjunction_at d s at ≡ more (bind_at d) and_kind s (got a (at + length w))
Complete bind d w a = (s : List ℕ) (at : ℕ) (r : List ℕ) → drop at s ≡ w ++ r → Ends bind r → bind_at d s at ≡ got a (at + length w)
Complete unary d w a = (s : List ℕ) (at : ℕ) (r : List ℕ) → drop at s ≡ w ++ r → Ends unary r → unary_at d s at ≡ got a (at + length w)

-- the turns are over where another byte follows
abbrev pub Done : Part → ℕ → List ℕ → Tree → Reads → Type 0
Done p d w a part = (s : List ℕ) (at : ℕ) (r : List ℕ) → drop at s ≡ w ++ r → Ends p r → part s at ≡ got a (at + length w)

turns_over : (part : Reads) (k : ℕ) (s : List ℕ) (at : ℕ) (w r : List ℕ) (a : Tree) → drop at s ≡ w ++ r → not (eqb (get_or r 0 0) (get_or letters k 0)) ≡ true
    → more part k s (got a (at + length w)) ≡ got a (at + length w)
turns_over part k s at w r a e h =
    more_over part k s a (at + length w) (mark_first (get_or letters k 0) [] s (at + length w) r (after_bytes s at w r e) (not-true _ h))

conjunction_done : (d : ℕ) (w : List ℕ) (a : Tree) → Complete conjunction d w a → Done conjunction d w a (conjunction_at d)
conjunction_done d w a c s at r e h =
    let t = both (ends bind (get_or r 0 0)) (not (eqb (get_or r 0 0) (get_or letters and_kind 0))) h in
    c s at r e t.0 ∙ turns_over (bind_at d) and_kind s at w r a e t.1

pub alternative_done : (d : ℕ) (w : List ℕ) (a : Tree) → Complete alternative d w a → Done alternative d w a (alternative_at d)
alternative_done d w a c s at r e h =
    let t = both (ends conjunction (get_or r 0 0)) (not (eqb (get_or r 0 0) (get_or letters or_kind 0))) h in
    c s at r e t.0 ∙ turns_over (conjunction_at d) or_kind s at w r a e t.1

-- one turn more, for `|` and `&` alike
turn_made : (part : Reads) → Onward part → (k : ℕ) (s : List ℕ) (at : ℕ) (v w r : List ℕ) (a b : Tree) (x : Reading) → drop at s ≡ (v ++ (letter k ++ w)) ++ r
    → x ≡ more part k s (got a (at + length v))
    → (drop (at + length v + 1) s ≡ w ++ r → part s (at + length v + 1) ≡ got b (at + length v + 1 + length w))
    → x ≡ more part k s (got (two k no_span a b) (at + length (v ++ (letter k ++ w))))
turn_made part o k s at v w r a b x e f g =
    let e1 : drop at s ≡ v ++ (letter k ++ (w ++ r)) = e ∙ append_assoc v (letter k ++ w) r in
    let e2 : drop (at + length v) s ≡ letter k ++ (w ++ r) = after_bytes s at v _ e1 in
    let n : at + length v + 1 + length w ≡ at + length (v ++ (letter k ++ w)) = rw (length-append v (letter k ++ w)) (omega arith) in
    f ∙ (more_turn part k s o a (at + length v) (at + length v + 1) (mark_made (letter k) s (w ++ r) (at + length v) (omega arith) e2) ∙ rw (g (after_bytes s (at + length v) (letter k) (w ++ r) e2), n))

-- a unary that begins with a byte of no operator and no parenthesis is a leaf
abbrev leads : ℕ → Bool
leads b = not (eqb b 40) && (not (eqb b (get_or letters not_kind 0)) && none_of b prefixes)

leaf_made : (d : ℕ) (s : List ℕ) (at : ℕ) (l : List ℕ) → drop at s ≡ l → leads (get_or l 0 0) ≡ true → unary_at d s at ≡ leaf_at s at
unfolding unary_at unary_by
leaf_made zero s at l e h = refl
leaf_made (suc d) s at l e h =
    let t = both (not (eqb (get_or l 0 0) 40)) _ h in
    let u = both (not (eqb (get_or l 0 0) (get_or letters not_kind 0))) _ t.1 in
    rw (mark_first 40 [] s at l e (not-true _ t.0), mark_first (get_or letters not_kind 0) [] s at l e (not-true _ u.0), timed_none prefixes s at l e u.1)

pub complete : {p : Part} {d : ℕ} {w : List ℕ} {a : Tree} → Derives p d w a → Complete p d w a
unfolding unary_at unary_by leaf_at bind_by
complete (alternative_one {d} {w} {a} x) = λ s at r e h. ap (more (conjunction_at d) or_kind s) (conjunction_done d w a (complete x) s at r e h)
complete (alternative_more {d} {v} {w} {a} {b} x y) = λ s at r e h.
    turn_made (conjunction_at d) (sound_onward (conjunction_at d) (conjunction_at_sound d)) or_kind s at v w r a b _ e
    (complete x s at (letter or_kind ++ (w ++ r)) (e ∙ append_assoc v (letter or_kind ++ w) r) refl)
    (λ f. conjunction_done d w b (complete y) s (at + length v + 1) r f h)
complete (conjunction_one {d} {w} {a} x) = λ s at r e h. ap (more (bind_at d) and_kind s) (complete x s at r e h)
complete (conjunction_more {d} {v} {w} {a} {b} x y) = λ s at r e h.
    turn_made (bind_at d) (sound_onward (bind_at d) (bind_at_sound d)) and_kind s at v w r a b _ e
    (complete x s at (letter and_kind ++ (w ++ r)) (e ∙ append_assoc v (letter and_kind ++ w) r) refl)
    (λ f. complete y s (at + length v + 1) r f h)
complete (bind_one {d} {w} {a} x) = λ s at r e h.
    let t = both (unary_ends (get_or r 0 0)) (none_of (get_or r 0 0) binders) h in
    rw (complete x s at r e t.0, timed_none binders s (at + length w) r (after_bytes s at w r e) t.1)
complete (bind_two {d} {k} {v} {x} {w} {r = q} {a} {b} l i z y) = λ s at r e h.
    let e1 : drop at s ≡ v ++ (letter k ++ (x ++ (w ++ r))) =
    e ∙ (append_assoc v (letter k ++ (x ++ w)) r ∙ ap (λ (m : List ℕ). v ++ (letter k ++ m)) (append_assoc x w r)) in
    let e2 : drop (at + length v) s ≡ letter k ++ (x ++ (w ++ r)) = after_bytes s at v _ e1 in
    let e3 : drop (at + length v + 1) s ≡ x ++ (w ++ r) = after_bytes s (at + length v) (letter k) _ e2 in
    let e4 : drop (at + length v + 1 + length x) s ≡ w ++ r = after_bytes s (at + length v + 1) x _ e3 in
    let n : at + length v + 1 + length x + length w ≡ at + length (v ++ (letter k ++ (x ++ w))) =
    rw (length-append v (letter k ++ (x ++ w)), length-append x w) (omega arith) in
    rw (complete l s at _ e1 (all_in (λ m. not (is_digit (get_or letters m 0))) i refl))
    (rw (timed_made binders refl i z s (at + length v) (w ++ r) e2)
    (rw (complete y s (at + length v + 1 + length x) r e4 (both (unary_ends (get_or r 0 0)) (none_of (get_or r 0 0) binders) h).0, n)))
complete (unary_not {d} {w} {a} x) = λ s at r e h.
    let n : at + 1 + length w ≡ at + length (letter not_kind ++ w) = omega arith in
    rw (mark_first 40 [] s at _ e refl, mark_made (letter not_kind) s (w ++ r) at (omega arith) e, complete x s (at + 1) r (after_bytes s at (letter not_kind) (w ++ r) e) h, n)
complete (unary_timed {d} {k} {x} {w} {r = q} {a} i z y) = λ s at r e h.
    let e1 : drop at s ≡ letter k ++ (x ++ (w ++ r)) = e ∙ ap (λ (m : List ℕ). letter k ++ m) (append_assoc x w r) in
    let e2 : drop (at + 1) s ≡ x ++ (w ++ r) = after_bytes s at (letter k) _ e1 in
    let e3 : drop (at + 1 + length x) s ≡ w ++ r = after_bytes s (at + 1) x _ e2 in
    let n : at + 1 + length x + length w ≡ at + length (letter k ++ (x ++ w)) = rw (length-append x w) (omega arith) in
    rw (mark_first 40 [] s at _ e (not-true _ (all_in (λ m. not (eqb (get_or letters m 0) 40)) i refl)))
    (rw (mark_first (get_or letters not_kind 0) [] s at _ e (not-true _ (all_in (λ m. not (eqb (get_or letters m 0) (get_or letters not_kind 0))) i refl)))
    (rw (timed_made prefixes refl i z s at (w ++ r) e1)
    (rw (complete y s (at + 1 + length x) r e3 h, n))))
complete (unary_true {d}) = λ s at r e h. leaf_made d s at _ e refl ∙ rw (mark_made (letter true_kind) s r at (omega arith) e)
complete (unary_predicate {d} {p} {w} n l) = λ s at r e h.
    let m : at + 1 + length w ≡ at + length (letter predicate_kind ++ w) = omega arith in
    leaf_made d s at _ e refl
    ∙ rw (mark_first (get_or letters true_kind 0) [] s at _ e refl, field_made (letter predicate_kind) s at 15 p w r (omega arith) e n l (omega arith) (not-true _ h), m)
complete (unary_group {d} {w} {a} x) = λ s at r e h.
    let e1 : drop at s ≡ bytes "(" ++ (w ++ (bytes ")" ++ r)) = e ∙ ap (λ (m : List ℕ). bytes "(" ++ m) (append_assoc w (bytes ")") r) in
    let e2 : drop (at + 1) s ≡ w ++ (bytes ")" ++ r) = after_bytes s at (bytes "(") _ e1 in
    let e3 : drop (at + 1 + length w) s ≡ bytes ")" ++ r = after_bytes s (at + 1) w _ e2 in
    let n : at + 1 + length w + 1 ≡ at + length (bytes "(" ++ (w ++ bytes ")")) = rw (length-append w (bytes ")")) (omega arith) in
    rw (mark_made (bytes "(") s _ at (omega arith) e1)
    (rw (alternative_done d w a (complete x) s (at + 1) (bytes ")" ++ r) e2 refl)
    (rw (mark_made (bytes ")") s r (at + 1 + length w) (omega arith) e3, n)))
