-- The form of a sheet's head, in the papers' order: `chan=`, scale lines, predicate lines, `step=`, `drift=`.
-- Assumes nothing.
use Rattle.std.specs.Prelude.{ℕ, ◌≡◌, List, [], ◌∷◌, ◌++◌}
use Rattle.text.specs.Bytes.{bytes}
use Rattle.recordings.specs.Card.{passed}
use Rattle.number_lines.specs.Form.{NumberLine}
use Rattle.scale_lines.specs.Form.{ScaleLines}
use Rattle.predicate_lines.specs.Form.{unset, PredicateLines}
use Rattle.heads.specs.declared.Head.{Head}

-- lines that are a head, and what they say
pub record HeadForm (ls : List (List ℕ)) (head : Head) : Type 0 where
  pub chan : List ℕ
  pub cs : List (List ℕ)
  pub ps : List (List ℕ)
  pub step : List ℕ
  pub drift : List ℕ
  pub sequence : ls ≡ chan ∷ (cs ++ (ps ++ (step ∷ drift ∷ [])))
  pub channels : NumberLine (bytes "chan=") chan head.setup.channels
  pub scales : ScaleLines cs head.setup.channels head.setup.scales
  pub predicates : PredicateLines ps head.setup.predicates
  pub steps : NumberLine (bytes "step=") step head.step
  pub drifts : NumberLine (bytes "drift=") drift head.drift

-- the head of no sheet
abbrev pub no_head : Head
no_head = record { setup = record { channels = 0; scales = passed []; predicates = unset }; step = 0; drift = 0 }
