use Rattle.matching.proofs.RowLaws.{next_written}
use Rattle.matching.proofs.rows.next_row.Goals as goal

pub returns : goal.returns
returns c w r =
    let cut = c.split_at_mut-row in
    next_written c.args.layout.now c.new.result.layout.now c.args.code c.new.result.code w c.new.result.next.now cut.result.0.now c.fill_row.new.bytes cut.result.1.now c.args.bytes.now c.row_width.result
    c.row_width.ensures.is cut.ensures.front_len cut.ensures.back r c.new.ensures.layout c.new.ensures.code c.new.ensures.next c.fill_row.ensures
