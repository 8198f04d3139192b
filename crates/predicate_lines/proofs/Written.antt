-- A predicate is read exactly where a predicate's line is written.
-- Assumes nothing.
use mathlib.Core.Path.{◌≡◌, refl, ap, ◌∙◌}
use mathlib.Core.List.{List, [], ◌++◌, append_assoc}
use mathlib.Core.Bool.{false}
use Prim.Native.Nat.{ℕ, ◌+◌, ◌<◌}
use native.Mathlib.Omega.{arith}
use lib.ListN.{length, get_or, drop}
use Rattle.text.specs.Bytes.{bytes}
use Rattle.text.specs.Mark.{mark_at}
use Rattle.text.specs.Number.{is_digit, largest, field_at, signed_at}
use Rattle.std.specs.Prelude.{Option, Some, IfSome}
use Rattle.text.specs.Mark.{read}
use Rattle.text.specs.declared.Read.{Read}
use Rattle.predicate_lines.specs.declared.NumberedPredicate.{NumberedPredicate}
use lib.IntN.{ℤ}
use Rattle.text.specs.declared.Field.TheVariants.{Number}
use Rattle.text.proofs.Places.{Between, between_both}
use Rattle.text.proofs.Answers.{mark_is, mark_first, field_is}
use Rattle.text.proofs.Fields.{after_case, number_case, signed_bytes, signed_first, mark_taken, field_taken, signed_taken}
use Rattle.lines.proofs.Counts.{count, count_append, numeral_count, signed_count}
use Rattle.lines.proofs.Lines.{Fed}
use Rattle.recordings.specs.declared.Predicate.{Predicate}
use Rattle.predicate_lines.specs.Form.{EndText, star, number, range_of, PredicateLine}
use Rattle.predicate_lines.specs.Reading.{end_at, set_line, line_at}

-- ---- an end

abbrev EndHere : List ℕ → List ℕ → ℕ → Option (Read (Option ℤ)) → Type 0
EndHere key s at x = IfSome x (λ r. (w : List ℕ) × Between s at r.next (key ++ w) × EndText w r.value)

end_here : (key s : List ℕ) (at : ℕ) → EndHere key s at (end_at key s at)
unfolding end_at
end_here key s at =
    after_case (EndHere key s at) (mark_at key s at) _ _
    (λ b e. after_case (EndHere key s at) (mark_at (bytes "*") s b) _ _
    (λ n f. (bytes "*", between_both (mark_is key s at b e) (mark_is (bytes "*") s b n f), star))
    (λ f. number_case (EndHere key s at) (signed_at s b) _ _
    (λ v n g. let w = signed_bytes s b v n g in (w.0, between_both (mark_is key s at b e) w.1, number w.2))
    (λ g. tt)))
    (λ e. tt)

end_is : (key s : List ℕ) (at : ℕ) (r : Read (Option ℤ)) → end_at key s at ≡ Some r → (w : List ℕ) × Between s at r.next (key ++ w) × EndText w r.value
end_is key s at r h = rw h at (end_here key s at)

end_taken : (s : List ℕ) (at : ℕ) (r : List ℕ) → is_digit (get_or r 0 0) ≡ false → (key : List ℕ) → 0 < length key
    → {w : List ℕ} {b : Option ℤ} → drop at s ≡ key ++ (w ++ r) → EndText w b → (n : ℕ) × (end_at key s at ≡ read b n) × (drop n s ≡ r)
unfolding end_at
end_taken s at r stop key p e star =
    let k = mark_taken s at (bytes "*" ++ r) key p e in
    let n = mark_taken s k.0 r (bytes "*") (omega arith) k.2 in
    (n.0, rw (k.1, n.1), n.2)
end_taken s at r stop key p e (number {w} {v} sg) =
    let k = mark_taken s at (w ++ r) key p e in
    let n = signed_taken s k.0 r stop k.2 sg in
    (n.0, rw (k.1, mark_first 42 [] s k.0 (w ++ r) k.2 (signed_first 42 refl refl r sg), n.1), n.2)

-- ---- a line

-- what an answer says of the line at a place
abbrev pub LineHere : List ℕ → ℕ → Option (Read NumberedPredicate) → Type 0
LineHere s at x = IfSome x (λ r. (l : List ℕ) × Between s at r.next l × PredicateLine l r.value.number r.value.predicate)

pub line_here : (s : List ℕ) (at : ℕ) → LineHere s at (line_at s at)
unfolding line_at
line_here s at =
    number_case (LineHere s at) (field_at (bytes "p=") s at 15) _ _
    (λ k a e. number_case (LineHere s at) (field_at (bytes " ch=") s a largest) _ _
    (λ ch b f. after_case (LineHere s at) (end_at (bytes " lo=") s b) _ _
    (λ lo g. after_case (LineHere s at) (end_at (bytes " hi=") s lo.next) _ _
    (λ hi h. after_case (LineHere s at) (mark_at (bytes "\n") s hi.next) _ _
    (λ n i. whole k a e ch b f lo g hi h n i)
    (λ i. tt))
    (λ h. tt))
    (λ g. tt))
    (λ f. tt))
    (λ e. tt)
  where
    whole : (k a : ℕ) → field_at (bytes "p=") s at 15 ≡ Number k a → (ch b : ℕ) → field_at (bytes " ch=") s a largest ≡ Number ch b
        → (lo : Read (Option ℤ)) → end_at (bytes " lo=") s b ≡ Some lo → (hi : Read (Option ℤ)) → end_at (bytes " hi=") s lo.next ≡ Some hi
        → (n : ℕ) → mark_at (bytes "\n") s hi.next ≡ Some n → LineHere s at (set_line k (record { channel = ch; range = range_of lo.value hi.value }) n)
    whole k a e ch b f lo g hi h n i =
        let p = field_is (bytes "p=") s at 15 k a e in
        let q = field_is (bytes " ch=") s a largest ch b f in
        let u = end_is (bytes " lo=") s b lo g in
        let v = end_is (bytes " hi=") s lo.next hi h in
        let x = between_both (between_both (between_both p.1 p.2.between) q.1) q.2.between in
        let y : Between s at lo.next (bytes "p=" ++ p.2.word ++ bytes " ch=" ++ q.2.word ++ bytes " lo=" ++ u.0) = rw append_assoc (between_both x u.1) in
        let z : Between s at hi.next (bytes "p=" ++ p.2.word ++ bytes " ch=" ++ q.2.word ++ bytes " lo=" ++ u.0 ++ bytes " hi=" ++ v.0) =
        rw (append_assoc (bytes "p=" ++ p.2.word ++ bytes " ch=" ++ q.2.word ++ bytes " lo=" ++ u.0) (bytes " hi=") v.0) (between_both y v.1) in (
          _,
          between_both z (mark_is (bytes "\n") s hi.next n i),
          record {
            p = p.2.word;
            ch = q.2.word;
            lo = u.0;
            hi = v.0;
            named = p.2.numeral;
            known = p.2.bound;
            channel = q.2.numeral;
            bound = q.2.bound;
            low = lo.value;
            high = hi.value;
            from = u.2;
            to = v.2;
            range = refl;
            spelled = refl;
          },
        )

pub line_is : (s : List ℕ) (at : ℕ) (r : Read NumberedPredicate) → line_at s at ≡ Some r → (l : List ℕ) × Between s at r.next l × PredicateLine l r.value.number r.value.predicate
line_is s at r h = rw h at (line_here s at)

-- a place that was taken, by its name
taking : {P Q : ℕ → Type 0} {B : Type 0} → (n : ℕ) × P n × Q n → ((n : ℕ) → P n → Q n → B) → B
taking t f = f t.0 t.1 t.2

pub line_taken : {k : ℕ} {p : Predicate} {l : List ℕ} (s : List ℕ) (at : ℕ) (r : List ℕ) → PredicateLine l k p → drop at s ≡ l ++ r
    → (n : ℕ) × (line_at s at ≡ set_line k p n) × (drop n s ≡ r)
unfolding line_at
line_taken {k} {p} s at r t e =
    let w : List ℕ = bytes "\n" ++ r in
    let x : List ℕ = bytes " hi=" ++ (t.hi ++ w) in
    let y : List ℕ = bytes " lo=" ++ (t.lo ++ x) in
    let z : List ℕ = bytes " ch=" ++ (t.ch ++ y) in
    let whole : drop at s ≡ bytes "p=" ++ (t.p ++ z) = simp append_assoc at (e ∙ ap (λ (v : List ℕ). v ++ r) t.spelled) in
    taking (field_taken s at z refl (bytes "p=") (omega arith) 15 whole t.named t.known (omega arith))
    (λ a e₁ g₁. taking (field_taken s a y refl (bytes " ch=") (omega arith) largest g₁ t.channel t.bound (omega arith))
    (λ b e₂ g₂. taking (end_taken s b x refl (bytes " lo=") (omega arith) g₂ t.from)
    (λ c e₃ g₃. taking (end_taken s c w refl (bytes " hi=") (omega arith) g₃ t.to)
    (λ d e₄ g₄. taking (mark_taken s d r (bytes "\n") (omega arith) g₄)
    (λ n e₅ g₅. (n, rw (e₁, e₂, e₃, e₄, e₅, ← t.range), g₅))))))

-- a line ends in its only line feed
end_count : {w : List ℕ} {b : Option ℤ} → EndText w b → count 10 w ≡ 0
unfolding count
end_count star = refl
end_count (number sg) = signed_count 10 refl refl sg

pub line_fed : {k : ℕ} {p : Predicate} {l : List ℕ} → PredicateLine l k p → Fed l
unfolding count
line_fed f =
    record {
      body = bytes "p=" ++ f.p ++ bytes " ch=" ++ f.ch ++ bytes " lo=" ++ f.lo ++ bytes " hi=" ++ f.hi;
      ends = f.spelled;
      clear = let g : count 10 (bytes "p=" ++ f.p ++ bytes " ch=" ++ f.ch ++ bytes " lo=" ++ f.lo ++ bytes " hi=" ++ f.hi)
          ≡ count 10 (bytes "p=") + count 10 f.p + count 10 (bytes " ch=") + count 10 f.ch + count 10 (bytes " lo=") + count 10 f.lo + count 10 (bytes " hi=") + count 10 f.hi = simp count_append in
          g ∙ (rw (numeral_count 10 refl f.named, numeral_count 10 refl f.channel, end_count f.from, end_count f.to));
    }
