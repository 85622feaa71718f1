use Rattle.std.proofs.Common.{[], length, sym, ap}
use Rattle.std.specs.Option.{option_map, unwrap_or}
use Rattle.expression.specs.Spelling.{written}
use Rattle.expression.proofs.EmptyTurns.{none_there, some_there}
use Rattle.expression.proofs.layout.Layout.put_empty_tree.Goals as goal

pub returns-then-branch-clause-count : goal.returns-then-branch-clause-count
returns-then-branch-clause-count c =
    let h = c.in_ok-get.ensures.lookup in
    some_there c.args.self.now c.args.node _ _ _ c.deref.ensures.value c.from.ensures h.0 h.1 c.if-branch.true _ c.put_below.ensures.count

pub returns-else-branch-clause-count : goal.returns-else-branch-clause-count
returns-else-branch-clause-count c =
    let h = c.in_ok-get.ensures.lookup in
    sym (ap (option_map length) (none_there c.args.self.now c.args.node _ _ _ c.deref.ensures.value c.from.ensures h.0 h.1 c.if-branch.false))

pub returns-else-branch-clause-buffer : goal.returns-else-branch-clause-buffer
returns-else-branch-clause-buffer c =
    let h = c.in_ok-get.ensures.lookup in
    sym (ap (λ o. written (unwrap_or o []) c.args.at c.args.turns.now) (none_there c.args.self.now c.args.node _ _ _ c.deref.ensures.value c.from.ensures h.0 h.1 c.if-branch.false))
