use Rattle.std.proofs.Common.{rules, ◌∙◌, length, vec_items, ap, arith}
use Rattle.std.proofs.lemmas.Result.{err_from_is_err_and}
use Rattle.expression.proofs.Laying.{lay_none, lay_some, told_on, sound_at}
use Rattle.expression.proofs.check.+check_nodes.Goals as goal

pub check_nodes-requires : goal.check_nodes-requires
check_nodes-requires t c = let l = c.in-Some.ensures.cases in (omega arith, omega arith)

pub returns-in_err-nodes : goal.returns-in_err-nodes
returns-in_err-nodes t c =
    let p = err_from_is_err_and c.from_residual.result c.from_residual.ensures.1 in
    rw (p.1, p.2) (told_on c.args.table.now c.in-Some.before.now c.in-Some.last.now c.in-Some.ensures.cases.0 _ c.in_err-nodes.ensures)

pub invariant_of-front : goal.invariant_of-front
invariant_of-front t c =
    let s = sound_at c.in-Some.before.now (length c.in-Some.before.now) (vec_items c.in_ok-nodes.nodes) c.in_ok-nodes.ensures in
    let l = c.in-Some.ensures.cases in
    record { short = omega (arith, s.long, ap length c.deref.ensures.value) }

pub returns-in_err-node : goal.returns-in_err-node
returns-in_err-node t c =
    let p = err_from_is_err_and c.from_residual-in_err-node.result c.from_residual-in_err-node.ensures.1 in
    rw (p.1, p.2)
    (lay_none c.args.table.now c.in-Some.before.now c.in-Some.last.now c.in-Some.ensures.cases.0 _ _ _ c.in_ok-nodes.ensures c.deref.ensures.value c.next.ensures
    _ c.in_err-node.ensures.ok_part c.in_err-node.ensures.value)

pub returns : goal.returns
returns t c =
    lay_some c.args.table.now c.in-Some.before.now c.in-Some.last.now c.in-Some.ensures.cases.0 _ _ _ c.in_ok-nodes.ensures c.deref.ensures.value c.next.ensures
    _ c.in_ok-node.ensures.ok_part
    ∙ search rules
