use Rattle.std.proofs.Common.{[], ◌++◌, vec_items, sym, refl, ap, ◌∙◌, append-nil}
use Rattle.std.proofs.lemmas.Result.{on_ok_weaker}
use Rattle.script.specs.Answers.{answer_text, refused_text, excerpt_of, line_figures}
use Rattle.script.specs.Running.{silent, answered, refused}
use Rattle.script.proofs.Transcripts.{is_empty, is_some}
use Rattle.script.proofs.running.respond.Goals as goal

pub returns-then-is_empty : goal.returns-then-is_empty
returns-then-is_empty g c = ([], silent (is_empty _ (sym c.if-is_empty.ensures)) refl, sym (append-nil _))

pub returns-in-Ok : goal.returns-in-Ok
returns-in-Ok g c =
    let a = c.in-Ok.answer in
    on_ok_weaker c.tell.result (λ e. (answer_text a, answered a (is_some _ (sym c.if-is_empty.ensures)) c.in-Ok.ensures, e)) c.tell.ensures

pub returns-in-Err-2 : goal.returns-in-Err-2
returns-in-Err-2 g c =
    let f = c.in-Err.fault in
    let text = refused_text (line_figures f c.args.number) in
    on_ok_weaker c.refuse.result (λ e. (
      text ++ excerpt_of f c.args.line.now,
      refused f (is_some _ (sym c.if-is_empty.ensures)) c.in-Err.ensures (sym c.is_memory.ensures ∙ c.if-is_memory.false),
      e ∙ ap (λ l. vec_items c.args.out.now ++ (text ++ excerpt_of f l)) (sym c.requires),
    )) c.refuse.ensures
