-- The reading of a whole text is the grammar's: what is read is derived, what is derived is read, and so a text has at most one reading.
-- Assumes nothing.
use mathlib.Core.Path.{◌≡◌, refl, sym, subst, ◌∙◌}
use mathlib.Core.List.{List, [], append-nil}
use mathlib.Core.Bool.{Bool, true, false, cond}
use Prim.Native.Nat.{ℕ}
use native.Mathlib.Nat.{zero-add}
use lib.ListN.{length}
use lib.Seq.{drop-length}
use lib.Dec.{leb, eqb}
use borrow.Author.Tests.{eqb-true, eq-eqb, leb-true, le-leb}
use Rattle.tables.specs.Tree.{NODES}
use Rattle.grammar.specs.Tree.{Tree, size}
use Rattle.grammar.specs.declared.Part.TheVariants.{Alternative as alternative}
use Rattle.grammar.specs.Grammar.{Derives, ENCLOSINGS, Requires}
use Rattle.grammar.specs.Reading.{Reading, got, none, alternative_at, requirement_tree}
use Rattle.grammar.proofs.Sound.{Stands, none_got, got_taken, alternative_at_sound}
use Rattle.grammar.proofs.Complete.{complete, alternative_done}

taken : (a : Tree) (n : ℕ) (t : Bool) (x : Reading) → cond t x none ≡ got a n → (t ≡ true) × (x ≡ got a n)
taken a n true x h = (refl, h)
taken a n false x h = absurd (none_got h)

-- sound: what is read, the grammar derives
pub reading_sound : (s : List ℕ) (a : Tree) (n : ℕ) → requirement_tree s ≡ got a n → Requires s a
unfolding requirement_tree
reading_sound s a n h =
    let x = got_taken a n (alternative_at ENCLOSINGS s 0) _ h in
    let y = taken a n (eqb x.1 (length s)) _ x.3 in
    let z = taken a n (leb (size x.0) NODES) _ y.1 in
    let q = alternative_at_sound ENCLOSINGS s 0 x.0 x.1 x.2 in
    same z.1 (record { derives = all q (eqb-true _ _ y.0); nodes = leb-true _ NODES z.0 })
  where
    all : {b : Tree} {m : ℕ} → Stands alternative ENCLOSINGS s 0 b m → m ≡ length s → Derives alternative ENCLOSINGS s b
    all {b} {m} q e =
        let w : s ≡ q.word = q.between.bytes ∙ rw (e, drop-length s) (append-nil q.word) in
        subst (λ (l : List ℕ). Derives alternative ENCLOSINGS l b) (sym w) q.derives

    same : {b : Tree} {m : ℕ} → got b m ≡ got a n → Requires s b → Requires s a
    same {b} {m} g r = let y : b ≡ a = cc in rw (← y) r

-- complete: what the grammar derives, is read
pub reading_complete : (s : List ℕ) (a : Tree) → Requires s a → requirement_tree s ≡ got a (length s)
unfolding requirement_tree
reading_complete s a r =
    let e : alternative_at ENCLOSINGS s 0 ≡ got a (length s) =
    alternative_done ENCLOSINGS s a (complete r.derives) s 0 [] (sym (append-nil s)) refl ∙ rw (zero-add (length s)) in
    rw (e, eq-eqb (length s) (length s) refl, le-leb (size a) NODES r.nodes)

-- at most one: two readings of a text are the same
pub reading_one : (s : List ℕ) (a b : Tree) → Requires s a → Requires s b → a ≡ b
reading_one s a b x y = same (sym (reading_complete s a x) ∙ reading_complete s b y)
  where
    same : {m n : ℕ} → got a m ≡ got b n → a ≡ b
    same h = cc

-- none is read exactly where none is derived
pub reading_none : (s : List ℕ) → requirement_tree s ≡ none → (a : Tree) → Requires s a → ⊥
reading_none s h a r = none_got (sym h ∙ reading_complete s a r)

pub reading_refused : (s : List ℕ) → ((a : Tree) → Requires s a → ⊥) → requirement_tree s ≡ none
reading_refused s h = go (requirement_tree s) refl
  where
    go : (x : Reading) → requirement_tree s ≡ x → x ≡ none
    go (got a n) e = absurd (h a (reading_sound s a n e))
    go none e = refl
