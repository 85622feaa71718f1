use Rattle.std.proofs.Common.{◌∙◌}
use Rattle.script.proofs.Alone.{shown}
use Rattle.script.proofs.running.own_excerpt.Goals as goal

pub returns : goal.returns
returns c = c.excerpt.ensures.bytes ∙ shown c.args.setting.script.now c.args.line.now c.args.number c.requires
