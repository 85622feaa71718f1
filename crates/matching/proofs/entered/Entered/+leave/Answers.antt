use Rattle.std.proofs.Common.{inl, inr}
use Rattle.matching.specs.Passes.{usable}
use Rattle.matching.proofs.Ways.{after_late, after_either, pair_reached, pair_passed, star_reached, star_passed}
use Rattle.matching.proofs.entered.Entered.+leave.Goals as goal

pub returns-in-Some : goal.returns-in-Some
returns-in-Some t c =
    let s = c.args.self.now in
    pair_reached c.read.ensures c.args.p c.requires.after c.requires.within s.code (usable s.next.now) c.read-in-Pair.ensures c.in-Pair.is c.if-p-read.true c.in-Some.ensures

pub returns-in-None : goal.returns-in-None
returns-in-None t c =
    let s = c.args.self.now in
    pair_passed c.read.ensures c.args.p c.requires.after c.requires.within s.code (usable s.next.now) c.read-in-Pair.ensures c.in-Pair.is c.if-p-read.true c.in-None.ensures c.pass.ensures

pub returns-else-p-read : goal.returns-else-p-read
returns-else-p-read t c =
    rw (after_late c.read.ensures c.args.p c.requires.after c.requires.within c.read-in-Pair.ensures (inl c.in-Pair.is) c.if-p-read.false) c.leave-else-p-read.ensures

pub returns-then-p-read-2 : goal.returns-then-p-read-2
returns-then-p-read-2 t c =
    rw (after_either c.read.ensures c.args.p c.requires.after c.requires.within c.read-in-Or.ensures c.in-Or.is c.if-p-read-2.true) c.leave-then-p-read-2.ensures

pub returns-else-p-read-2 : goal.returns-else-p-read-2
returns-else-p-read-2 t c =
    rw (after_late c.read.ensures c.args.p c.requires.after c.requires.within c.read-in-Or.ensures (inr c.in-Or.is) c.if-p-read-2.false) c.leave-else-p-read-2.ensures

pub returns-in-Some-leave : goal.returns-in-Some-leave
returns-in-Some-leave t c =
    let s = c.args.self.now in
    star_reached c.read.ensures c.args.p c.requires.after c.requires.within s.code (usable s.next.now) c.in-Star.is c.in-Some-leave.ensures

pub returns-in-None-leave : goal.returns-in-None-leave
returns-in-None-leave t c =
    let s = c.args.self.now in
    star_passed c.read.ensures c.args.p c.requires.after c.requires.within s.code (usable s.next.now) c.in-Star.is c.in-None-leave.ensures c.pass-in-None-leave.ensures
