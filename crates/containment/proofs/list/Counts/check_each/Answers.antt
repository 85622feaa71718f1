use Rattle.std.proofs.Common.{◌≡◌, ◌+◌, [], length, drop, Some, sym, ap, ◌∙◌, arith}
use Rattle.containment.specs.declared.want.Want.{Want}
use Rattle.containment.specs.Checking.{order_verdict}
use Rattle.containment.specs.Format.{ill_from}
use Rattle.containment.proofs.Format.{ill_stop, ill_turn, ill_end, ill_cut}
use Rattle.containment.proofs.list.Counts.check_each.Goals as goal

pub returns-then-not-fit : goal.returns-then-not-fit
returns-then-not-fit c =
    ap order_verdict (
    sym (
    c.loop-i.invariant ∙ ill_stop c.args.self.earlier c.args.self.later c.loop-i.want c.loop-i.i c.args.numbers.now c.loop-i-test.true (rw (← c.from-number.ensures) (sym c.if-not-fit.ensures))
    )
    )

pub loop-i-preserved : goal.loop-i-preserved
loop-i-preserved c =
    c.loop-i.invariant ∙ ill_turn c.args.self.earlier c.args.self.later c.loop-i.want c.loop-i.i c.args.numbers.now c.loop-i-test.true (rw (← c.from-number.ensures) (sym c.if-not-fit.ensures))
    ∙ ap (λ (w : Want). ill_from c.args.self.earlier c.args.self.later w (c.loop-i.i + 1) (drop (c.loop-i.i + 1) c.args.numbers.now)) (rw (← c.from-number.ensures) (sym c.next-want.ensures))

pub returns-in-Place : goal.returns-in-Place
returns-in-Place c =
    ap order_verdict (
    sym (
    c.loop-i.invariant ∙ ill_end c.args.self.earlier c.args.self.later c.loop-i.want c.loop-i.i c.args.numbers.now c.loop-i-test.false
    ∙ ap (λ (w : Want). ill_from c.args.self.earlier c.args.self.later w c.loop-i.i []) c.in-Place.is
    )
    )

pub returns-in_default : goal.returns-in_default
returns-in_default c =
    let e : c.loop-i.i ≡ length c.args.numbers.now = omega arith in
    ap order_verdict (
    sym (
    c.loop-i.invariant ∙ ill_end c.args.self.earlier c.args.self.later c.loop-i.want c.loop-i.i c.args.numbers.now c.loop-i-test.false
    ∙ ill_cut c.args.self.earlier c.args.self.later c.loop-i.want c.loop-i.i c.in_default.not-Place ∙ ap (λ n. Some n) e
    )
    )
