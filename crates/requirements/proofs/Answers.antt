-- The reader's answer is the grammar's: number 0 and the tree's table exactly where the text is a requirement, 2 and the empty table exactly where it is none.
-- Assumes nothing.
use mathlib.Core.Path.{◌≡◌, refl, sym, ap, ◌∙◌}
use mathlib.Core.List.{List}
use Prim.Native.Nat.{ℕ}
use native.Mathlib.Omega.{arith}
use Rattle.grammar.specs.Tree.{Tree}
use Rattle.grammar.specs.Grammar.{Requires}
use Rattle.grammar.specs.Reading.{Reading, got, none, requirement_tree}
use Rattle.grammar.proofs.Readings.{reading_sound, reading_complete, reading_refused}
use Rattle.requirements.specs.Requirement.{Requirement, accepted, refused, answer_of, requirement_of}

-- what the grammar derives is answered, with its table
pub answer_complete : (s : List ℕ) (a : Tree) → Requires s a → requirement_of s ≡ accepted a
answer_complete s a r = ap answer_of (reading_complete s a r)

-- an answer without refusal is the table of a tree that the grammar derives
pub answer_sound : (s : List ℕ) → (requirement_of s).refusal ≡ 0 → (a : Tree) × Requires s a × (requirement_of s ≡ accepted a)
answer_sound s h = go (requirement_tree s) refl h
  where
    go : (x : Reading) → requirement_tree s ≡ x → (answer_of x).refusal ≡ 0 → (a : Tree) × Requires s a × (requirement_of s ≡ accepted a)
    go (got a n) e g = (a, reading_sound s a n e, ap answer_of e)
    go none e g = absurd (omega arith)

-- 2 and the empty table where the grammar derives nothing
pub answer_refused : (s : List ℕ) → ((a : Tree) → Requires s a → ⊥) → requirement_of s ≡ refused
answer_refused s h = ap answer_of (reading_refused s h)

-- and only there
pub answer_none : (s : List ℕ) → (requirement_of s).refusal ≡ 2 → (a : Tree) → Requires s a → ⊥
answer_none s h a r = let e : ◌≡◌ {A = ℕ} 0 2 = sym (ap (λ (q : Requirement). q.refusal) (answer_complete s a r)) ∙ h in omega arith
