use Rattle.matching.proofs.RowLaws.{end_written}
use Rattle.matching.proofs.rows.end_row.Goals as goal

pub returns : goal.returns
returns c =
    end_written c.args.layout.now c.nowhere.result.layout.now c.nowhere.result.code c.nowhere.result.next.now c.args.bytes.now c.fill_row.new.bytes
    c.requires c.nowhere.ensures.layout c.nowhere.ensures.code c.nowhere.ensures.next c.fill_row.ensures
