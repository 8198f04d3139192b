-- The tests follow the list: each return says which of them passed and which one failed.
-- Assumes nothing.
use Rattle.std.proofs.Common.{◌≡◌, refl, sym, ap, ◌∙◌, Bool, true, false, not, ◌||◌, ◌⊎◌, inl, inr, suc, ◌≤◌, ◌<◌, length, leb, le-leb}
use Rattle.std.proofs.lemmas.Bool.{not-true, not-false}
use borrow.Author.Tests.{lt-leb}
use Rattle.tables.specs.declared.Table.{Table}
use Rattle.tables.specs.Tree.{NODES}
use Rattle.grammar.specs.Grammar.{ENCLOSINGS}
use Rattle.building.specs.Unshared.{tree_of}
use Rattle.writing.specs.declared.Measure.{Measure}
use Rattle.writing.specs.Measures.{measure_of}
use Rattle.writing.specs.Written.{limits_check}
use Rattle.writing.proofs.Tables.{table_ruled}
use Rattle.writing.proofs.Refusals.{is_three, is_fourteen, obeys_rules, limits_required, past_limits}
use Rattle.writing.proofs.write_numbered.Goals as goal

-- the test of a measure
abbrev over : Measure → Bool
over m = leb (suc NODES) m.nodes || leb (suc ENCLOSINGS) m.enclosings

past : (m : Measure) → (suc NODES ≤ m.nodes) ⊎ ((m.nodes < suc NODES) × (suc ENCLOSINGS ≤ m.enclosings)) → over m ≡ true
past m (inl h) = rw (le-leb (suc NODES) m.nodes h) refl
past m (inr h) = rw (lt-leb (suc NODES) m.nodes h.0, le-leb (suc ENCLOSINGS) m.enclosings h.1) refl

within : (m : Measure) → m.nodes < suc NODES → m.enclosings < suc ENCLOSINGS → over m ≡ false
within m h k = rw (lt-leb (suc NODES) m.nodes h, lt-leb (suc ENCLOSINGS) m.enclosings k) refl

-- and what it says of a table's text
limits : (t : Table) {m : Measure} {b : Bool} → m ≡ measure_of (tree_of t) → over m ≡ b → not (limits_check t).passes ≡ b
limits t e o = sym (past_limits t) ∙ (sym (ap over e) ∙ o)

pub returns-then-not-table_obeys : goal.returns-then-not-table_obeys
returns-then-not-table_obeys c =
    let e = is_three c.args.table (length c.args.text.now) (sym c.if-not-table_obeys.ensures) in
    record { answer = rw e; text = rw e }

pub last_measure-measure-requires : goal.last_measure-measure-requires
last_measure-measure-requires c =
    let r = obeys_rules c.args.table (sym c.if-not-table_obeys.ensures) in
    record { ruled = table_ruled _ r; le_count = r.some_node }

pub returns-then-measure-ge-TOO_LARGE : goal.returns-then-measure-ge-TOO_LARGE
returns-then-measure-ge-TOO_LARGE c =
    let t = c.args.table in
    let m = limits t c.last_measure-measure.ensures (past c.last_measure-measure.result c.then-measure-ge-TOO_LARGE.either) in
    let e = is_fourteen t (length c.args.text.now) (sym c.if-not-table_obeys.ensures) (not-true _ m) in
    record { answer = rw e; text = rw e }

pub write_table-requires : goal.write_table-requires
write_table-requires c =
    let t = c.args.table in
    let r = obeys_rules t (sym c.if-not-table_obeys.ensures) in
    let m = limits t c.last_measure-measure.ensures (within c.last_measure-measure.result c.if-measure-ge-TOO_LARGE.false c.if-measure-ge-TOO_DEEP.false) in
    record { holds_nodes = c.requires; table_rules = r; limits = limits_required t r (not-false _ m) }
