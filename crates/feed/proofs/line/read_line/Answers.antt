use Rattle.std.proofs.Common.{rules, ◌≡◌, ℕ, ◌-◌, List, length, take, drop, ap, ◌∙◌, arith}
use Rattle.std.proofs.lemmas.List.{take_all, length-drop}
use Rattle.feed.specs.Line.{stamp_of}
use Rattle.feed.proofs.line.read_line.Goals as goal

-- The rest of a line past the bar, as the pattern binds it.
rest : (l : List ℕ) → take (length l - 4) (drop 4 l) ≡ drop 4 l
rest l = let size = length-drop 4 l in take_all (length l - 4) (drop 4 l) (omega arith)

pub returns-in_err-stamp : goal.returns-in_err-stamp
returns-in_err-stamp c =
    let e = c.stamp.ensures ∙ ap stamp_of (rest c.args.line.now) in
    search (rules, e)

pub returns : goal.returns
returns c =
    let e = c.stamp.ensures ∙ ap stamp_of (rest c.args.line.now) in
    search (rules, e)
