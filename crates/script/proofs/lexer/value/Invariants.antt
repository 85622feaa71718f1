use Rattle.std.proofs.Common.{◌≡◌, ◌≤◌, take}
use Rattle.script.specs.Tokens.{decimal}
use Rattle.script.proofs.lexer.value.Given as goal

abbrev pub invariant-loop-b : goal.invariant-loop-b
invariant-loop-b l = record { low : l.value ≤ 65535; so_far : l.value ≡ decimal (take l.b-index l.digits) }
