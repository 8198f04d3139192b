-- The cycle of the readers: what each call gives makes the next reading, and what is read ends behind its start, so that each call's measure falls.
-- Assumes nothing.
use Rattle.std.proofs.Common.{◌≤◌, refl, sym, ◌∙◌, rules}
use Rattle.grammar.specs.Reading.{unary_by}
use Rattle.building.proofs.Stores.{step_none, refused_done, done_as, one_done, close_done, stored_done}
use Rattle.requirements.proofs.Readers.{turning_start, turning_refused, turning_over, turning_past, turning_turn, turning_less, unary_leaf, unary_enclosed, unary_operator, mark_onward, prefix_onward, part_onward, bind_refused, bind_past, bind_alone, bind_bad, bind_joined}
use Rattle.requirements.proofs.+readers.Goals as goal

-- read_grouped
pub read_grouped-returns-in_err-left : goal.read_grouped-returns-in_err-left
read_grouped-returns-in_err-left t c =
    rw c.from_residual.ensures (turning_refused _ _ _ _ _ _ _ _ _ (turning_start _ _ _ _ _ _ _ _ _ (part_onward _ _) c.in_err-left.ensures) _ refl)

pub read_grouped-loop-next-init : goal.read_grouped-loop-next-init
read_grouped-loop-next-init t c = turning_start _ _ _ _ _ _ _ _ _ (part_onward _ _) c.in_ok-left.ensures

pub read_grouped-read_part-right-requires : goal.read_grouped-read_part-right-requires
read_grouped-read_part-right-requires t c =
    let h : c.args.at ≤ c.in-Some.next = turning_past _ _ _ _ _ _ _ _ _ c.loop-next.invariant _ _ _ refl (part_onward _ _) _ (sym c.read_letter.ensures ∙ c.in-Some.is) in
    search rules

pub read_grouped-returns-in_err-left-2 : goal.read_grouped-returns-in_err-left-2
read_grouped-returns-in_err-left-2 t c =
    let j = c.in_err-left-2.ensures in
    rw c.from_residual-in_err-left-2.ensures
    (turning_refused _ _ _ _ _ _ _ _ _ (turning_turn _ _ _ _ _ _ _ _ _ c.loop-next.invariant _ _ _ refl (part_onward _ _) _ (sym c.read_letter.ensures ∙ c.in-Some.is)
    _ _ _ _ c.read_part-right.ensures j.step (rw c.no_span.ensures at j.cells)) _ refl)

pub read_grouped-loop-next-smaller : goal.read_grouped-loop-next-smaller
read_grouped-loop-next-smaller t c =
    let j = c.in_ok-left-2.ensures in
    turning_less _ _ _ _ _ _ _ _ _ c.loop-next.invariant _ _ _ refl (part_onward _ _) _ (sym c.read_letter.ensures ∙ c.in-Some.is)
    _ _ _ _ c.read_part-right.ensures j.step (rw c.no_span.ensures at j.cells)

pub read_grouped-loop-next-preserved : goal.read_grouped-loop-next-preserved
read_grouped-loop-next-preserved t c =
    let j = c.in_ok-left-2.ensures in
    turning_turn _ _ _ _ _ _ _ _ _ c.loop-next.invariant _ _ _ refl (part_onward _ _) _ (sym c.read_letter.ensures ∙ c.in-Some.is)
    _ _ _ _ c.read_part-right.ensures j.step (rw c.no_span.ensures at j.cells)

pub read_grouped-returns : goal.read_grouped-returns
read_grouped-returns t c = turning_over _ _ _ _ _ _ _ _ _ c.loop-next.invariant _ _ _ refl (sym c.read_letter.ensures ∙ c.in_default.is)

-- read_bind
pub read_bind-returns-in_err-left : goal.read_bind-returns-in_err-left
read_bind-returns-in_err-left t c = rw c.from_residual.ensures (bind_refused _ _ _ _ _ _ _ c.read_unary.ensures _ c.in_err-left.was)

pub read_bind-read_unary-requires-in-Over : goal.read_bind-read_unary-requires-in-Over
read_bind-read_unary-requires-in-Over t c =
    let h : c.args.at ≤ c.in-Over.next = bind_past _ _ _ _ _ _ _ c.read_unary.ensures _ _ _ c.in_ok-left.was _ _ _ (sym c.read_binder.ensures ∙ c.in-Over.is) in
    search rules

pub read_bind-returns-in-Absent : goal.read_bind-returns-in-Absent
read_bind-returns-in-Absent t c = bind_alone _ _ _ _ _ _ _ c.read_unary.ensures _ _ _ c.in_ok-left.was (sym c.read_binder.ensures ∙ c.in-Absent.is)

pub read_bind-returns-in-Over : goal.read_bind-returns-in-Over
read_bind-returns-in-Over t c =
    bind_joined _ _ _ _ _ _ _ c.read_unary.ensures _ _ _ c.in_ok-left.was _ _ _ (sym c.read_binder.ensures ∙ c.in-Over.is)
    _ _ _ _ c.read_unary-in-Over.ensures c.join.ensures.step c.join.ensures.cells

pub read_bind-returns-in-Bad : goal.read_bind-returns-in-Bad
read_bind-returns-in-Bad t c = bind_bad _ _ _ _ _ _ _ c.read_unary.ensures _ _ _ c.in_ok-left.was _ (sym c.read_binder.ensures ∙ c.in-Bad.is)

-- read_unary
pub read_unary-returns-then-depth-eq0 : goal.read_unary-returns-then-depth-eq0
read_unary-returns-then-depth-eq0 t c =
    done_as _ _ _ _ _ _ (unary_leaf _ _ _ c.if-depth-eq0.true) (stored_done _ _ _ _ _ c.read_leaf.ensures.step c.read_leaf.ensures.cells)

pub read_unary-read_part-inner-requires : goal.read_unary-read_part-inner-requires
read_unary-read_part-inner-requires t c =
    let h : c.args.at ≤ c.in-Some.inside = mark_onward _ _ _ _ (sym c.read_mark.ensures ∙ c.in-Some.is) in
    search rules

pub read_unary-returns-in-Some : goal.read_unary-returns-in-Some
read_unary-returns-in-Some t c =
    done_as _ _ _ _ _ _ (unary_enclosed _ _ _ c.if-depth-eq0.false _ (sym c.read_mark.ensures ∙ c.in-Some.is))
    (close_done _ _ _ _ _ _ _ c.read_part-inner.ensures c.close.ensures)

pub read_unary-read_unary-requires : goal.read_unary-read_unary-requires
read_unary-read_unary-requires t c =
    let h : c.args.at ≤ c.in-Over.next = prefix_onward _ _ _ _ _ (sym c.read_prefix.ensures ∙ c.in-Over.is) in
    search rules

pub read_unary-returns-in-Absent : goal.read_unary-returns-in-Absent
unfolding unary_by
read_unary-returns-in-Absent t c =
    done_as _ _ _ _ _ _ (unary_operator _ _ _ c.if-depth-eq0.false (sym c.read_mark.ensures ∙ c.in_default.is) _ (sym c.read_prefix.ensures ∙ c.in-Absent.is))
    (stored_done _ _ _ _ _ c.read_leaf-in-Absent.ensures.step c.read_leaf-in-Absent.ensures.cells)

pub read_unary-returns-in-Over : goal.read_unary-returns-in-Over
unfolding unary_by
read_unary-returns-in-Over t c =
    done_as _ _ _ _ _ _ (unary_operator _ _ _ c.if-depth-eq0.false (sym c.read_mark.ensures ∙ c.in_default.is) _ (sym c.read_prefix.ensures ∙ c.in-Over.is))
    (one_done _ _ _ _ _ _ _ _ _ c.read_unary.ensures c.wrap.ensures.step c.wrap.ensures.cells)

pub read_unary-returns-in-Bad : goal.read_unary-returns-in-Bad
unfolding unary_by
read_unary-returns-in-Bad t c =
    done_as _ _ _ _ _ _ (unary_operator _ _ _ c.if-depth-eq0.false (sym c.read_mark.ensures ∙ c.in_default.is) _ (sym c.read_prefix.ensures ∙ c.in-Bad.is))
    (refused_done _ _ _ _ (step_none _))
