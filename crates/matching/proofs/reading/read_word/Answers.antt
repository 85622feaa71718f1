use Rattle.std.proofs.Common.{map}
use Rattle.std.proofs.lemmas.List.{length-map}
use Rattle.matching.proofs.Telling.{short_work, told_of}
use Rattle.matching.proofs.reading.read_word.Goals as goal

pub returns-then-work-size : goal.returns-then-work-size
returns-then-work-size g c =
    short_work c.args.layout.now (map g.K.Kind.coded c.args.letters.now) c.args.work.now c.args.turns.now (length-map c.args.letters.now g.K.Kind.coded) c.if-letters-gt-LONGEST.false
    c.row_width.ensures.is c.if-work-size.true

pub returns : goal.returns
returns g c =
    told_of c.args.layout.now (map g.K.Kind.coded c.args.letters.now) c.args.work.now c.args.turns.now (length-map c.args.letters.now g.K.Kind.coded) c.if-letters-gt-LONGEST.false
    c.row_width.ensures.is c.if-work-size.false c.fill.new.work c.fill.ensures _ c.tell.ensures
