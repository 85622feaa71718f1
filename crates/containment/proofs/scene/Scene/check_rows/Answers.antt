use Rattle.std.proofs.Common.{sym, ◌∙◌, arith}
use Rattle.std.proofs.lemmas.Result.{err_from_is_err_and}
use Rattle.containment.specs.Scenes.{earlier_of, later_of, rows_in}
use Rattle.containment.proofs.Tabled.{rows_stop, rows_turn}
use Rattle.containment.proofs.scene.Scene.check_rows.Goals as goal

pub returns-in_err-check_row : goal.returns-in_err-check_row
returns-in_err-check_row c =
    let x = c.args.self.now in
    let p = err_from_is_err_and c.from_residual.result c.from_residual.ensures.1 in
    rw (p.1, p.2)
    (
    rows_stop (earlier_of x) (later_of x) (rows_in x) c.loop-n.n c.loop-n.invariant (omega arith) _
    (sym c.in_err-check_row.was ∙ c.check_row.ensures)
    )

pub loop-n-preserved : goal.loop-n-preserved
loop-n-preserved c =
    let x = c.args.self.now in
    rows_turn (earlier_of x) (later_of x) (rows_in x) c.loop-n.n c.loop-n.invariant (omega arith) (sym c.in_ok-check_row.was ∙ c.check_row.ensures)
