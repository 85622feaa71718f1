use Rattle.std.proofs.lemmas.List.Sums.{prefix_len-le-length}
use Rattle.script.proofs.Cutting.{blank, begins_there, taken}
use Rattle.script.proofs.cursor.Cursor.take.Goals as goal

pub advance-requires : goal.advance-requires
advance-requires c = rw c.blanks.ensures (prefix_len-le-length blank c.args.self.now.rest.now)

pub front-sort-requires : goal.front-sort-requires
front-sort-requires c = rw (c.advance.ensures.rest, c.blanks.ensures) (begins_there c.args.self.now.rest.now)

pub returns : goal.returns
returns c =
    let was = c.args.self.now in
    let mid = c.advance.new.self in
    let is = c.advance-2.new.self in
    taken was.at mid.at is.at c.blanks.result c.front-sort.result.1 was.rest.now mid.rest.now is.rest.now c.advance-2.result.now c.front-sort.result.0
    c.blanks.ensures c.advance.ensures.rest c.advance.ensures.at c.front-sort.ensures c.advance-2.ensures.front c.advance-2.ensures.rest c.advance-2.ensures.at
