use Rattle.std.proofs.Common.{◌≡◌, false, not, ◌&&◌, Some, None, sym, ap}
use Rattle.std.proofs.lemmas.Bool.{and_left, and_right, not_from_true}
use Rattle.containment.specs.Checking.{verdict}
use Rattle.containment.proofs.Tabled.{place_low, ends_fault, goes_fault}
use Rattle.containment.proofs.scene.Scene.check_row.Goals as goal
use Rattle.containment.proofs.scene.Scene.check_row.Goals.{else-here-via-then-here+else-not-there, else-here-via-else-here}

pub of-requires : goal.of-requires
of-requires c = let x = c.args.self.now in place_low x.earlier.layout.now x.later.layout.now x.rows.now.numbers.now x.well c.args.n c.requires _ c.row-row.ensures.place

pub returns-then-not-there : goal.returns-then-not-there
returns-then-not-there c =
    let x = c.args.self.now in
    ap verdict (
    sym (
    ends_fault x.earlier.layout.now x.later.layout.now x.rows.now.numbers.now x.well c.args.n c.requires _ _ c.row-row.ensures.place c.row-row.ensures.set _ _ c.of.ensures
    c.of-2.ensures _ _ c.after-here.ensures c.after-there.ensures _ _ x.earlier.coded x.later.coded (λ i. c.if-here.true i && not (c.if-not-there.true i))
    )
    )

pub returns-in-Some : goal.returns-in-Some
returns-in-Some c =
    let x = c.args.self.now in
    let free : c.after-here.result.ends && not c.after-there.result.ends ≡ false =
    elim c.else-here.branch [
      | else-here-via-then-here+else-not-there w ↦ and_right c.after-here.result.ends (not c.after-there.result.ends) (not_from_true c.after-there.result.ends w.if-not-there.false)
      | else-here-via-else-here w ↦ and_left c.after-here.result.ends (not c.after-there.result.ends) w.if-here.false
    ] in
    ap verdict (
    sym (
    goes_fault x.earlier.layout.now x.later.layout.now x.rows.now.numbers.now x.well c.args.n c.requires _ _ c.row-row.ensures.place c.row-row.ensures.set _ _ c.of.ensures
    c.of-2.ensures _ _ c.after-here.ensures c.after-there.ensures _ _ x.earlier.coded x.later.coded (Some c.in-Some.f) c.in-Some.ensures free
    )
    )

pub returns-in-None : goal.returns-in-None
returns-in-None c =
    let x = c.args.self.now in
    let free : c.after-here.result.ends && not c.after-there.result.ends ≡ false =
    elim c.else-here.branch [
      | else-here-via-then-here+else-not-there w ↦ and_right c.after-here.result.ends (not c.after-there.result.ends) (not_from_true c.after-there.result.ends w.if-not-there.false)
      | else-here-via-else-here w ↦ and_left c.after-here.result.ends (not c.after-there.result.ends) w.if-here.false
    ] in
    ap verdict (
    sym (
    goes_fault x.earlier.layout.now x.later.layout.now x.rows.now.numbers.now x.well c.args.n c.requires _ _ c.row-row.ensures.place c.row-row.ensures.set _ _ c.of.ensures
    c.of-2.ensures _ _ c.after-here.ensures c.after-there.ensures _ _ x.earlier.coded x.later.coded None c.in-None.ensures free
    )
    )
