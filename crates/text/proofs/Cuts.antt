-- Cutting the first line off a text.
use Rattle.std.proofs.Common.{◌≡◌, ℕ, ◌+◌, ◌-◌, ◌<◌, ◌≤◌, min, Bool, true, false, cond, List, [], ◌∷◌, length, take, drop, Bor, Option, Some, None, nat_eq, not, arith, sym, ◌∙◌, ap}
use Rattle.std.proofs.lemmas.List.{drop-drop, drop_min, drop_all, length-drop, nil_from_length, take_all}
use Rattle.std.proofs.lemmas.List.Sums.{prefix_len-le-length}
use Rattle.std.specs.Iterator.{Yields, YieldsThen}
use Rattle.std.specs.Option.{MatchOption}
use Rattle.std.specs.Slice.Iter.{iter_rest, iter_steps}
use Rattle.std.specs.declared.slice.Iter.{Iter}
use Rattle.std.specs.List.{position, position_or_len}
use Rattle.std.specs.Option.{unwrap_or}
use Rattle.text.specs.Lines.{lines, lengthened}

-- The length of the first line.
abbrev first : List ℕ → ℕ
first text = position_or_len (λ b. nat_eq b 10) text

pub first_is : (text : List ℕ) (feed : Option ℕ) (n : ℕ) → feed ≡ position (λ b. nat_eq b 10) text → n ≡ unwrap_or feed (length text) → n ≡ first text
first_is text feed n p e = let l = prefix_len-le-length (λ b. not (nat_eq b 10)) text in grind arith

first_cut : (text : List ℕ) → 0 < length text → lines text ≡ take (first text) text ∷ lines (drop (first text + 1) text)
first_cut [] h = absurd (omega arith)
first_cut (b ∷ []) h = grind arith
first_cut (b ∷ (c ∷ text)) h = let rest = first_cut (c ∷ text) (omega arith) in grind arith

-- The first line of a text that has one, n bytes, and what comes after it.
pub cut : (text rest : List ℕ) (n : ℕ) → 0 < length text → n ≡ first text → rest ≡ drop (n + 1) text → lines text ≡ take n text ∷ lines rest
cut text rest n h f r = first_cut text h ∙ ap (λ k. take k text ∷ lines (drop (k + 1) text)) (sym f) ∙ ap (λ t. take n text ∷ lines t) (sym r)

-- What an iterator has left that gave the bytes xs and then one more, or the end.
after : (xs : List (Bor ℕ)) (s t u : Iter ℕ) (o : Option (Bor ℕ)) → Yields (iter_steps {A = ℕ}) s xs t → iter_steps t o u → iter_rest u ≡ drop (length xs + 1) (iter_rest s)
after [] s t u None y h = let e = ap iter_rest y in let k = ap iter_rest h.1 in grind arith
after [] s t u (Some x) y h = let e = ap iter_rest y in grind arith
after (x ∷ xs) s t u o y h = let k = after xs y.0 t u o y.2 h in let q = y.1 in grind arith

-- The same where it went up to the first line feed of a text, or to the end of one that has none.
pub rest_is : (P : Bor ℕ → Type 0) (text : List ℕ) (s u : Iter ℕ) (feed : Option ℕ) (n : ℕ) (xs : List (Bor ℕ)) (o : Option (Bor ℕ)) → iter_rest s ≡ text
    → YieldsThen (iter_steps {A = ℕ}) s xs o u → MatchOption o (feed ≡ None) (λ x. (feed ≡ Some (length xs)) × P x)
    → n ≡ unwrap_or feed (length text) → iter_rest u ≡ drop (n + 1) text
rest_is P text s u feed n xs None i y f e = let all = drop_all (n + 1) text (omega (arith, e ∙ ap (λ o. unwrap_or o (length text)) f)) in nil_from_length (iter_rest u) (ap (λ t. length (iter_rest t)) y.2.1 ∙ y.2.0) ∙ sym all
rest_is P text s u feed n xs (Some x) i y f e = let k = after xs s y.0 u (Some x) y.1 y.2 in let m = e ∙ ap (λ o. unwrap_or o (length text)) f.0 in grind arith

-- What is left after n bytes and one more from `from` on is what is left from where the next line begins.
pub onward : (text rest : List ℕ) (from n next : ℕ) → from ≤ length text
    → rest ≡ drop (n + 1) (take (length text - from) (drop from text))
    → next ≡ min (from + n + 1) (length text)
    → rest ≡ drop next text
onward text rest from n next h e m =
    let size = length-drop from text in
    let s : take (length text - from) (drop from text) ≡ drop from text = take_all (length text - from) (drop from text) (omega arith) in
    e ∙ ap (drop (n + 1)) s ∙ drop-drop (n + 1) from text ∙ ap (λ k. drop k text) (omega arith) ∙ sym (drop_min (from + n + 1) text) ∙ ap (λ k. drop k text) (sym m)

-- Each line has a byte of its own in the text.
pub few : (text : List ℕ) → length (lines text) ≤ length text
few [] = omega arith
few (b ∷ text) = go (nat_eq b 10) (lines text) (few text)
  where
    go : (d : Bool) (ls : List (List ℕ)) → length ls ≤ length text → length (cond d ([] ∷ ls) (lengthened b ls)) ≤ length (b ∷ text)
    go true ls h = omega arith
    go false [] h = omega arith
    go false (l ∷ ls) h = omega arith
