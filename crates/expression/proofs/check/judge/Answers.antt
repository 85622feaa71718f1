use Rattle.std.proofs.Common.{◌≡◌, ℕ, ◌-◌, Bool, length, vec_items, sym, ap, ◌∙◌, subst, inr, arith}
use Rattle.std.proofs.lemmas.Result.{err_from_is_err_and}
use Rattle.std.specs.List.{position}
use Rattle.expression.specs.Checking.{mute}
use Rattle.expression.specs.declared.fault.TableFault.TheVariants as fault
use Rattle.expression.specs.Nodes.{node}
use Rattle.expression.specs.Verdicts.{Faults}
use Rattle.expression.proofs.Judging.{told, mute_breaks, sound, unfinished, good, laid_table, read_start}
use Rattle.expression.proofs.Laying.{lay_taken, sound_at}
use Rattle.expression.proofs.Muting.{FirstMute, first_at, mute_at, mute_nowhere}
use Rattle.expression.proofs.check.judge.Goals as goal
use Rattle.expression.proofs.check.judge.Goals.{After-unwrap_or}

first : (c : After-unwrap_or) (give : ℕ → Bool) → c.args.mute ≡ position (mute give) c.args.table.now → FirstMute give c.args.table.now c.unwrap_or.result
first c give found = first_at give c.args.table.now c.args.mute found c.unwrap_or.result c.unwrap_or.ensures

pub returns-in_err-nodes : goal.returns-in_err-nodes
returns-in_err-nodes c give found =
    let p = err_from_is_err_and c.from_residual.result c.from_residual.ensures.1 in
    rw (p.1, p.2) (told give c.args.table.now c.unwrap_or.result (first (goal.at.returns-in_err-nodes c).After-unwrap_or give found) (omega arith, omega arith) _ (rw (lay_taken c.args.table.now c.unwrap_or.result (omega arith)) at c.in_err-nodes.ensures))

pub returns-in-Some : goal.returns-in-Some
returns-in-Some c give found =
    let m = mute_at give c.args.table.now c.args.mute found c.unwrap_or.result c.unwrap_or.ensures c.in-Some.i c.in-Some.is in
    let b = mute_breaks give c.args.table.now c.unwrap_or.result (first (goal.at.returns-in-Some c).After-unwrap_or give found) (omega arith, omega arith) _ (sym (lay_taken c.args.table.now c.unwrap_or.result (omega arith)) ∙ c.in_ok-nodes.ensures) (omega (arith, m)) in
    inr (subst (λ i. Faults give c.args.table.now (fault.Breaks i)) m.0 b)

pub index-requires : goal.index-requires
index-requires c =
    let all = mute_nowhere _ _ _ c.unwrap_or.ensures c.in_default.is in
    let s = sound_at c.args.table.now c.unwrap_or.result (vec_items c.in_ok-nodes.nodes) (sym (lay_taken c.args.table.now c.unwrap_or.result (omega arith)) ∙ c.in_ok-nodes.ensures) in
    omega (arith, s.long)

pub returns-then-index-ne0 : goal.returns-then-index-ne0
returns-then-index-ne0 c give found =
    let ts = c.args.table.now in
    let all = mute_nowhere _ _ _ c.unwrap_or.ensures c.in_default.is in
    let ns = vec_items c.in_ok-nodes.nodes in
    let s = sound_at ts c.unwrap_or.result ns (sym (lay_taken c.args.table.now c.unwrap_or.result (omega arith)) ∙ c.in_ok-nodes.ensures) in
    let r = read_start ns (length ts - 1) c.index.result.now (omega (arith, s.long)) c.index.ensures in
    inr (unfinished give ts c.unwrap_or.result (first (goal.at.returns-then-index-ne0 c).After-unwrap_or give found) (omega arith, omega arith) ns (sym (lay_taken c.args.table.now c.unwrap_or.result (omega arith)) ∙ c.in_ok-nodes.ensures) (omega arith) (λ z. c.if-index-ne0.true (sym r ∙ z)))

pub invariant_of-result : goal.invariant_of-result
invariant_of-result c =
    let ts = c.args.table.now in
    let all = mute_nowhere _ _ _ c.unwrap_or.ensures c.in_default.is in
    let ns = vec_items c.in_ok-nodes.nodes in
    let s = sound_at ts c.unwrap_or.result ns (sym (lay_taken c.args.table.now c.unwrap_or.result (omega arith)) ∙ c.in_ok-nodes.ensures) in
    let l : length ns ≡ length ts = omega (arith, s.long) in
    let r = read_start ns (length ts - 1) c.index.result.now (omega arith) c.index.ensures in
    record {
      laid = ∣ s.fits ∣₁;
      whole = (omega arith, omega arith, ap (λ k. (node ns (k - 1)).start) l ∙ r ∙ c.if-index-ne0.false);
    }

pub returns : goal.returns
returns c give found =
    let ts = c.args.table.now in
    let all = mute_nowhere _ _ _ c.unwrap_or.ensures c.in_default.is in
    let ns = vec_items c.in_ok-nodes.nodes in
    let e = sym (lay_taken c.args.table.now c.unwrap_or.result (omega arith)) ∙ c.in_ok-nodes.ensures in
    let s = sound give ts c.unwrap_or.result (first (goal.at.returns c).After-unwrap_or give found) (omega arith, omega arith) ns e (omega arith) in
    let r = read_start ns (length ts - 1) c.index.result.now (omega (arith, s.long)) c.index.ensures in
    (laid_table ts ns s, good give ts c.unwrap_or.result (first (goal.at.returns c).After-unwrap_or give found) (omega arith, omega arith) ns e (omega arith) (r ∙ c.if-index-ne0.false))
