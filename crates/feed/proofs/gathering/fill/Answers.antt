use Rattle.std.proofs.Common.{◌≡◌, ◌+◌, ◌≤◌, Err, length, drop, ap, ◌∙◌, arith, rules}
use Rattle.std.proofs.lemmas.List.{set-get_or}
use Rattle.std.proofs.lemmas.Result.{err_from_is_err_and}
use Rattle.feed.proofs.GatherLaws.{took_none, took_some, more_left, more_buffer, more_within, more_ranged, ended_buffer, ended_left, ended_answer, ended_ranged}
use Rattle.feed.proofs.gathering.fill.Goals as goal

pub returns-in_err-letter : goal.returns-in_err-letter
returns-in_err-letter g c =
    let w = g.F.Feed.waiting c.args.feed.now in
    let b = c.args.buf.now in
    let n = c.loop-count.count in
    let i = c.loop-count.invariant in
    let t = c.in_err-letter.ensures.took in
    let room : n ≤ length b = omega arith in
    let p = err_from_is_err_and c.from_residual.result c.from_residual.ensures.1 in
    record {
      buffer = set-get_or _ n _ ∙ ended_buffer w b _ n i.0 t.0 i.2 room _ i.1;
      left = ended_left w b _ n i.0 t.0 i.2 room _ t.1;
      same = search rules;
      answer = p.1 ∙ ap Err p.2 ∙ ended_answer w b _ n i.0 t.0 i.2 room _ _ _ i.3 t.2;
      ranged = ended_ranged w b _ n i.0 t.0 i.2 room g.F.Of.Kind.ranged i.4;
    }

pub returns-in-None : goal.returns-in-None
returns-in-None g c =
    let w = g.F.Feed.waiting c.args.feed.now in
    let b = c.args.buf.now in
    let n = c.loop-count.count in
    let i = c.loop-count.invariant in
    let t = took_none n _ _ _ _ c.in-None.is c.in_ok-letter.ensures.took in
    let room : n ≤ length b = omega arith in
    record {
      buffer = set-get_or _ n _ ∙ ended_buffer w b _ n i.0 t.0 i.2 room _ i.1;
      left = ended_left w b _ n i.0 t.0 i.2 room _ t.1;
      same = search rules;
      answer = ended_answer w b _ n i.0 t.0 i.2 room _ _ _ i.3 t.2;
      ranged = ended_ranged w b _ n i.0 t.0 i.2 room g.F.Of.Kind.ranged i.4;
    }

pub loop-count-preserved : goal.loop-count-preserved
loop-count-preserved g c =
    let w = g.F.Feed.waiting c.args.feed.now in
    let b = c.args.buf.now in
    let n = c.loop-count.count in
    let i = c.loop-count.invariant in
    let e = took_some n _ _ _ _ _ c.in-Some.is c.in_ok-letter.ensures.took in (
      more_left w b _ n _ _ i.0 e,
      more_buffer w b _ n _ _ i.0 e _ i.1 (omega arith),
      more_within w b _ n _ _ i.0 e,
      search rules,
      more_ranged w b _ n _ _ i.0 e g.F.Of.Kind.ranged i.4 (search rules),
    )

pub returns-in-Some-2-clause-left : goal.returns-in-Some-2-clause-left
returns-in-Some-2-clause-left g c =
    let w = g.F.Feed.waiting c.args.feed.now in
    let n = c.loop-count.count in
    let full : n ≡ length c.args.buf.now = omega arith in
    let e = took_some _ _ _ _ _ _ c.in-Some-2.is c.in_ok-take_after.ensures.took in
    more_left w c.args.buf.now _ n _ _ c.loop-count.invariant.0 e ∙ ap (λ k. drop (k + 1) w) full
