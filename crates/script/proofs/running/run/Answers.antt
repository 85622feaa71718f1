use Rattle.std.proofs.Common.{◌+◌, length, vec_items, sym, ap, ◌∙◌, subst}
use Rattle.std.proofs.lemmas.Iterator.Consumers.{YieldsList-from_first, YieldsList-from_enumerate, YieldsList-turn, YieldsList-end}
use Rattle.std.proofs.lemmas.List.{length_push}
use Rattle.std.proofs.lemmas.List.FromFn.{length-enumerate_from}
use Rattle.expression.specs.Verdicts.{gives}
use Rattle.register.specs.Meaning.{tables}
use Rattle.script.specs.Answers.{refused_text}
use Rattle.script.specs.Running.{Responded, Transcript, too_long, ran}
use Rattle.script.specs.Dialects.{dialect}
use Rattle.text.specs.Lines.{lines}
use Rattle.script.proofs.Transcripts.{Going, only_text, counted, go_on, finished}
use Rattle.script.proofs.running.run.Goals as goal

pub returns-then-script-gt-LONGEST : goal.returns-then-script-gt-LONGEST
returns-then-script-gt-LONGEST g c =
    let printed = only_text _ _ _ c.new-out.ensures.items c.in_ok-tell.ensures ∙ ap refused_text c.figures.ensures in
    subst (Transcript (dialect g.K.Dialect.NUMBER) (gives g.K.Kind.lettered) c.args.script.now) (sym printed) (too_long c.if-script-gt-LONGEST.true)

pub loop-index-preserved : goal.loop-index-preserved
loop-index-preserved g c =
    let d = dialect g.K.Dialect.NUMBER in
    let gives_letters = gives g.K.Kind.lettered in
    let ls = lines c.args.script.now in
    let n = length c.loop-index.yielded in
    let chain = YieldsList-from_enumerate (YieldsList-from_first (λ x. x.now) (λ s. s) ls cc) (cc) in
    let turn = YieldsList-turn chain c.loop-index.yielded _ c.loop-index.yielded_by _ _ (c.in-Some.index, c.in-Some.line) c.in-Some.is c.next.ensures.steps in
    let at = counted ls n c.in-Some.index c.in-Some.line.now turn in
    let told = c.in_ok-respond.ensures in
    let answered = subst (λ i. Responded d gives_letters (i + 1) c.in-Some.line.now (tables c.loop-index.register) (tables c.respond.new.register) told.0) at.0 told.1 in
    subst (λ m. Going d gives_letters ls m (tables c.respond.new.register) (vec_items c.respond.new.out)) (sym (length_push c.loop-index.yielded (c.in-Some.index, c.in-Some.line)))
    (go_on d gives_letters ls n _ _ c.loop-index.invariant c.in-Some.line.now at.1 _ _ told.0 answered told.2)

pub returns : goal.returns
returns g c =
    let d = dialect g.K.Dialect.NUMBER in
    let ls = lines c.args.script.now in
    let n = length c.loop-index.yielded in
    let chain = YieldsList-from_enumerate (YieldsList-from_first (λ x. x.now) (λ s. s) ls cc) (cc) in
    let end = YieldsList-end chain c.loop-index.yielded _ c.loop-index.yielded_by _ _ c.in-None.is c.next.ensures.steps in
    ran c.if-script-gt-LONGEST.false (finished d (gives g.K.Kind.lettered) ls n _ _ c.loop-index.invariant (rw length-enumerate_from at end.1))
