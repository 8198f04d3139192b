-- A write takes bytes behind those that were written before.
-- Assumes nothing.
use Rattle.std.proofs.Common.{◌≡◌, ℕ, ◌+◌, ◌-◌, List, rules, length, take, drop, subst}
use Rattle.std.specs.Prelude.{Option}
use Rattle.std.specs.Io.KnownBytes.{Appends}
use Rattle.std.proofs.KnownBytes.{Appends-trans, Appends-kept}
use Rattle.std.proofs.lemmas.List.{take_rest}
use lib.Seq.{take-add}
use Rattle.program.proofs.write_lines.Goals as goal
use Rattle.program.proofs.write_lines.Goals.{in-Ok, in-Err}

put_on : (a b d : Option (List ℕ)) (from n : ℕ) (xs : List ℕ) {done : ℕ} → done ≡ from + n
    → Appends a b (take from xs) → Appends b d (take n (take (length xs - from) (drop from xs))) → Appends a d (take done xs)
put_on a b d from n xs is before now =
    rw (is, take-add from n xs) (Appends-trans a b d _ _ before (subst (λ (l : List ℕ). Appends b d (take n l)) (take_rest xs from) now))

pub loop-preserved : goal.loop-preserved
loop-preserved g c = elim c.match-write.branch [
  | in-Ok w ↦ record { inside = search rules; put = put_on _ _ _ _ _ _ w.done-is c.loop.invariant.put w.in-Ok.ensures.bytes }
  | in-Err w ↦ record { inside = search rules; put = rw w.done-is (Appends-kept _ _ _ _ c.loop.invariant.put w.in-Err.ensures.bytes) }
]
