-- A read puts bytes behind those that were read before, and they are what the reader lost.
-- Assumes nothing.
use Rattle.std.proofs.Common.{◌≡◌, ℕ, ◌+◌, ◌≤◌, List, ◌++◌, rules, length, take, drop, sym, ap, ◌∙◌, subst, le_refl, drop_at, length-take-le}
use Rattle.std.proofs.lemmas.Slice.{take-put_mid_below}
use Rattle.std.specs.Prelude.{Option}
use Rattle.std.specs.Io.KnownBytes.{Consumes, Keeps}
use Rattle.std.proofs.KnownBytes.{Consumes-trans, Consumes-kept}
use borrow.Rule.Slice.PartMut.{put_mid, post_of}
use lib.Seq.{take-add, take-append-le}
use Rattle.program.proofs.read_text.Goals as goal
use Rattle.program.proofs.read_text.Goals.{in-Ok, in-Err}

-- what was read before stands in front of what is read now
fronts : (from room n : ℕ) (xs ys : List ℕ) → from ≤ length xs → n ≤ length ys → take from xs ++ take n ys ≡ take (from + n) (put_mid from room xs ys)
fronts from room n xs ys within fits =
    let all = put_mid from room xs ys in
    let before : take from all ≡ take from xs = take-put_mid_below _ _ _ _ _ (le_refl _) within in
    let now : take n ys ≡ take n (drop from all) =
    sym (ap (take n) (drop_at (take from xs) (ys ++ post_of from room xs) from (length-take-le from xs within)) ∙ take-append-le n ys (post_of from room xs) fits) in
    ap (λ l. l ++ take n ys) (sym before) ∙ ap (λ l. take from all ++ l) now ∙ sym (take-add from n all)

read_on : (a b d : Option (List ℕ)) (from room n : ℕ) (xs ys : List ℕ) {done : ℕ} → from ≤ length xs → n ≤ length ys → done ≡ from + n
    → Consumes a b (take from xs) → Consumes b d (take n ys) → Consumes a d (take done (put_mid from room xs ys))
read_on a b d from room n xs ys within fits is before now =
    rw is (subst (Consumes a d) (fronts from room n xs ys within fits) (Consumes-trans a b d _ _ before now))

kept_on : (a b d : Option (List ℕ)) (from room : ℕ) (xs ys : List ℕ) {done : ℕ} → from ≤ length xs → done ≡ from
    → Consumes a b (take from xs) → Keeps b d → Consumes a d (take done (put_mid from room xs ys))
kept_on a b d from room xs ys within is before now =
    rw is (subst (Consumes a d) (sym (take-put_mid_below _ _ _ _ _ (le_refl _) within)) (Consumes-kept a b d _ before now))

pub loop-preserved : goal.loop-preserved
loop-preserved g c =
    let inside = c.loop.invariant.inside in
    elim c.match-read.branch [
      | in-Ok w ↦ record {
        long = search rules;
        inside = search rules;
        read = read_on _ _ _ _ _ w.in-Ok.more _ _ inside w.in-Ok.ensures.bound.0 w.done-is c.loop.invariant.read w.in-Ok.ensures.bytes.0;
      }
      | in-Err w ↦ record {
        long = search rules;
        inside = search rules;
        read = kept_on _ _ _ _ _ _ _ inside w.done-is c.loop.invariant.read w.in-Err.ensures.bytes;
      }
    ]
